-- Bindings entered along their chains: a goal on the chain of a binding is its type with some arrows off, and no other set has it.
use Prim.Native.Nat.{ℕ, zero, suc, ◌+◌, ◌*◌, ◌/◌, ◌%◌, ◌<◌, ◌≤◌}
use native.Mathlib.Omega.{arith}
use native.Mathlib.Decide.{ℕ_discrete, dec_lt}
use native.Mathlib.Nat.{mul-le-mul_right}
use mathlib.Core.Path.{◌≡◌, refl, sym, ap, subst, ◌∙◌}
use mathlib.Core.Logic.{◌⊎◌, inl, inr}
use mathlib.Core.Bool.{true}
use mathlib.Core.List.{List}
use mathlib.Core.Option.{some}
use lib.ListN.{length, get_or, replicate}
use Rattle.scheme.specs.Types.{Ty, off}
use Rattle.scheme.specs.Flags.{is_kept}
use Rattle.casefile.specs.Records.{Record}
use Rattle.casefile.specs.Kinds.{Kind, count}
use Rattle.index.specs.layout.Layout.{max_states, max_bindings, word_bits, no_number}
use Rattle.marks.specs.Marks.{bit_of, In, Puts}
use Rattle.marks.proofs.Bits.{zero_bit}
use Rattle.tables.specs.Facts.{Goal, TypesAre, BindingsAre, binding_at}
use Rattle.tables.specs.Filling.{words_for, FillsSets}
use Rattle.tables.specs.reading.Cells.{own_of}
use Rattle.tables.specs.declared.candidates.Chain.{Chain}
use Rattle.tables.specs.candidates.Chains.{along, widest, set_at, OnChain, Passes, Begins, Enters}
use Rattle.tables.proofs.candidates.Walking.{Walked, walk_none, walk_more, walk_over, chain, on_chain, same_bit}
use Rattle.tables.proofs.types.Meaning.{goal_below}

-- While a binding is entered: the first goals of its chain have it.
pub record EnterTo (t : List ℕ) (b words : ℕ) (before : List ℕ) (s : Chain) (sets : List ℕ) : Type 0 where
  pub k : ℕ
  pub walked : Walked t b s k
  pub long : length sets ≡ length before
  pub grows : (i j : ℕ) → j < word_bits → bit_of j (get_or before i 0) ≡ 1 → bit_of j (get_or sets i 0) ≡ 1
  pub only : (i j : ℕ) → j < word_bits → bit_of j (get_or sets i 0) ≡ 1 → (bit_of j (get_or before i 0) ≡ 1) ⊎ OnChain t b words i j
  pub put : (j : ℕ) → j < k → (along t b j ≡ no_number → ⊥) → set_at words (along t b j) + b / word_bits < length before → In sets (set_at words (along t b j)) b

pub enter_none : {t : List ℕ} {b words : ℕ} {before : List ℕ} {s first : Chain} → s ≡ first → Begins t b first → EnterTo t b words before s before
enter_none e x = record { k = 0; walked = walk_none e x; long = refl; grows = λ i j h y. y; only = λ i j h y. inl y; put = λ j h. absurd (omega arith) }

module _ {t : List ℕ} {b words : ℕ} {before : List ℕ} {s : Chain} {sets : List ℕ} (so : EnterTo t b words before s sets) where
  pub enter_more : {g : ℕ} {s' : Chain} → Passes s g s' → (after : List ℕ) → Puts sets (g * (words % widest)) b after → EnterTo t b words before s' after
  enter_more {g} p after puts =
      record {
        k = so.k + 1;
        walked = walk_more so.walked p;
        long = puts.long ∙ so.long;
        grows = λ i j l x. puts.grows i j l (so.grows i j l x);
        only = λ i j l x. of i j l (puts.only i j l x);
        put = λ j l d room. there j l d room (ℕ_discrete j so.k);
      }
    where
      e : g ≡ along t b so.k
      e = p.is_goal ∙ so.walked.at

      of : (i j : ℕ) → j < word_bits → (bit_of j (get_or sets i 0) ≡ 1) ⊎ ((i ≡ g * (words % widest) + b / word_bits) × (j ≡ b % word_bits)) → (bit_of j (get_or before i 0) ≡ 1) ⊎ OnChain t b words i j
      of i j l (inl x) = so.only i j l x
      of i j l (inr (q, r)) = inr (record { steps = so.k; few = let f = so.walked.steps in let h = p.step in omega arith; some_goal = λ z. p.some_goal (e ∙ z); word = q ∙ ap (λ x. set_at words x + b / word_bits) e; bit = r })

      there : (j : ℕ) → j < so.k + 1 → (along t b j ≡ no_number → ⊥) → set_at words (along t b j) + b / word_bits < length before → Dec (j ≡ so.k) → In after (set_at words (along t b j)) b
      there j l d room (no z) = let y : (j ≡ so.k → ⊥) = z in puts.grows (set_at words (along t b j) + b / word_bits) (b % word_bits) (omega arith) (so.put j (omega arith) d room)
      there j l d room (yes z) =
          let f : g ≡ along t b j = e ∙ ap (along t b) (sym z) in
          let room' : set_at words g + b / word_bits < length sets = subst (λ x. set_at words x + b / word_bits < length sets) (sym f) (let q = so.long in subst (λ n. set_at words (along t b j) + b / word_bits < n) (sym q) room) in
          subst (λ x. In after (set_at words x) b) f (puts.put room')

  pub enter_over : (s.goal ≡ no_number) ⊎ (s.steps ≡ 0) → Enters t b words before sets
  enter_over over = record { long = so.long; grows = so.grows; only = so.only; put = λ j h d room. at j h d room (dec_lt j so.k) }
    where
      at : (j : ℕ) → j < 256 → (along t b j ≡ no_number → ⊥) → set_at words (along t b j) + b / word_bits < length before → Dec (j < so.k) → In sets (set_at words (along t b j)) b
      at j h d room (yes l) = so.put j l d room
      at j h d room (no l) = absurd (d (walk_over so.walked over j (omega arith) h))

-- All bindings.
pub record SetsTo (t : List ℕ) (bindings words : ℕ) (before : List ℕ) (b : ℕ) (sets : List ℕ) : Type 0 where
  pub up_to : b ≤ bindings
  pub long : length sets ≡ length before
  pub only : (i j : ℕ) → j < word_bits → bit_of j (get_or sets i 0) ≡ 1 → (bit_of j (get_or before i 0) ≡ 1) ⊎ ((c : ℕ) × (c < b) × OnChain t c words i j)
  pub put : (i : ℕ) → i < b → (k : ℕ) → k < 256 → (along t i k ≡ no_number → ⊥) → set_at words (along t i k) + i / word_bits < length before → In sets (set_at words (along t i k)) i

kept_all : (n b : ℕ) → b < n → is_kept (get_or (replicate n 1) b 0) ≡ true
unfolding is_kept
kept_all zero b h = absurd (omega arith)
kept_all (suc n) zero h = refl
kept_all (suc n) (suc b) h = kept_all n b (omega arith)

module _ {t : List ℕ} {bindings words : ℕ} {before : List ℕ} {b : ℕ} {sets : List ℕ} (so : SetsTo t bindings words before b sets) where
  pub sets_all : bindings ≤ b → FillsSets t bindings words before sets
  sets_all h =
      record {
        long = so.long;
        filled = λ rs ts bs e few ew room empty. record {
          all_in = λ i l kept k g σ m o x.
              let y = chain ts k (own_of t i) (binding_at rs i).type σ (bs.own i l) o in
              let is : along t i k ≡ g = ts.one_number (along t i k) g σ y x in
              let below = goal_below x in
              let most = ts.few_types_law in
              let wide : words % widest ≡ words = omega arith in
              let place : set_at words (along t i k) ≡ g * words = ap (set_at words) is ∙ ap (λ z. g * z) wide in
              let rows : suc g * words ≤ (count Kind.type rs + max_states) * words = mul-le-mul_right words (let z : suc g ≤ count Kind.type rs + max_states = omega arith in z) in
              let row : suc g * words ≡ g * words + words = omega arith in
              subst (λ z. In sets z i) place (so.put i (omega arith) k m (λ z. omega arith) (omega arith));
          kept_only = λ i g l m o. kept_all bindings i (omega arith);
          chained = λ i g l m o. of rs ts bs e few ew empty i g l (so.only (g * words + i / word_bits) (i % word_bits) (omega arith) o);
        };
      }
    where
      of : (rs : List Record) → TypesAre rs t → BindingsAre rs t → bindings ≡ count Kind.binding rs → bindings ≤ max_bindings → words ≡ words_for rs → ((i : ℕ) → get_or before i 0 ≡ 0) → (i g : ℕ) → i < count Kind.binding rs
          → (In before (g * words) i) ⊎ ((c : ℕ) × (c < b) × OnChain t c words (g * words + i / word_bits) (i % word_bits)) → (k : ℕ) × (σ : Ty) × (k < 256) × (off k (binding_at rs i).type ≡ some σ) × Goal rs g σ
      of rs ts bs e few ew empty i g l (inl x) =
          let z = zero_bit (i % word_bits) in
          let y = ap (bit_of (i % word_bits)) (empty (g * words + i / word_bits)) in
          absurd (omega arith)
      of rs ts bs e few ew empty i g l (inr (c, lc, on)) =
          let most = so.up_to in
          let lc' : c < count Kind.binding rs = omega arith in
          let (σ, o, x) = on_chain ts on.steps (own_of t c) (binding_at rs c).type (bs.own c lc') on.some_goal in
          let (u, v) = same_bit (count Kind.binding rs) (omega arith) ew lc' l on in
          (on.steps, σ, on.few, subst (λ z. off on.steps (binding_at rs z).type ≡ some σ) (sym v) o, subst (λ z. Goal rs z σ) (sym u) x)

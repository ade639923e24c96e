-- A binding taken out of the sets along its chain: no other set has it, and no other binding has the same bit of the same word.
use Prim.Native.Nat.{ℕ, suc, ◌+◌, ◌*◌, ◌/◌, ◌%◌, ◌<◌, ◌≤◌}
use native.Mathlib.Omega.{arith}
use native.Mathlib.Decide.{ℕ_discrete, dec_lt}
use mathlib.Core.Path.{◌≡◌, refl, sym, ap, subst, ◌∙◌}
use mathlib.Core.Logic.{◌⊎◌, inl, inr}
use mathlib.Core.Bool.{true, true≢false}
use mathlib.Core.List.{List}
use lib.ListN.{length, get_or, set}
use lib.Seq.{get_or-set_same, get_or-set_other}
use Rattle.scheme.specs.Flags.{is_kept}
use Rattle.casefile.specs.Records.{Record}
use Rattle.casefile.specs.Kinds.{Kind, count}
use Rattle.index.specs.layout.Layout.{max_goals, groups_at, row_limit, word_bits, no_number}
use Rattle.marks.specs.Marks.{bit_of, In, TakesOut}
use Rattle.tables.specs.Facts.{TypesAre, BindingsAre, binding_at, CandidatesAre}
use Rattle.tables.specs.Filling.{words_for, LeavesSets}
use Rattle.tables.specs.reading.Cells.{own_of}
use Rattle.tables.specs.declared.candidates.Chain.{Chain}
use Rattle.tables.specs.candidates.Chains.{along, widest, set_at, OnChain, Passes, Begins}
use Rattle.tables.proofs.candidates.Walking.{Walked, walk_none, walk_more, walk_over, chain, same_bit}

-- the cells number fewer than 65,536 bindings
pub numbered : {rs : List Record} {t : List ℕ} → BindingsAre rs t → ((i : ℕ) → get_or t i 0 < 65536) → count Kind.binding rs ≤ 65536
numbered {rs} {t} bs cells = go (dec_lt 65536 (count Kind.binding rs))
  where
    go : Dec (65536 < count Kind.binding rs) → count Kind.binding rs ≤ 65536
    go (no l) = omega arith
    go (yes l) =
        let f = (binding_at rs 65536).nonterminal in
        let (x, y) = bs.grouped 65536 l in
        let z = cells (groups_at + suc f % row_limit) in
        absurd (omega arith)

-- while a binding is taken out: the first k sets of its chain lack it, and no other bit changed
pub record LeaveTo (t : List ℕ) (b words : ℕ) (before : List ℕ) (s : Chain) (sets : List ℕ) : Type 0 where
  pub k : ℕ
  pub walked : Walked t b s k
  pub long : length sets ≡ length before
  pub gone : (j : ℕ) → j < k → In sets (set_at words (along t b j)) b → ⊥
  pub fewer : (i j : ℕ) → j < word_bits → bit_of j (get_or sets i 0) ≡ 1 → bit_of j (get_or before i 0) ≡ 1
  pub stays : (i j : ℕ) → j < word_bits → bit_of j (get_or before i 0) ≡ 1 → (bit_of j (get_or sets i 0) ≡ 1) ⊎ OnChain t b words i j

pub leave_none : {t : List ℕ} {b words : ℕ} {before : List ℕ} {s first : Chain} → s ≡ first → Begins t b first → LeaveTo t b words before s before
leave_none e x = record { k = 0; walked = walk_none e x; long = refl; gone = λ j h. absurd (omega arith); fewer = λ i j h y. y; stays = λ i j h y. inl y }

module _ {t : List ℕ} {b words : ℕ} {before : List ℕ} {s : Chain} {sets : List ℕ} (so : LeaveTo t b words before s sets) where
  pub leave_more : {g : ℕ} {s' : Chain} → Passes s g s' → (after : List ℕ) → TakesOut sets (g * (words % widest)) b after → LeaveTo t b words before s' after
  leave_more {g} p after out =
      record {
        k = so.k + 1;
        walked = walk_more so.walked p;
        long = out.long ∙ so.long;
        gone = λ j l. lacks j l (ℕ_discrete j so.k);
        fewer = λ i j l x. so.fewer i j l (out.fewer i j l x);
        stays = λ i j l x. still i j l (so.stays i j l x);
      }
    where
      e : g ≡ along t b so.k
      e = p.is_goal ∙ so.walked.at

      lacks : (j : ℕ) → j < so.k + 1 → Dec (j ≡ so.k) → In after (set_at words (along t b j)) b → ⊥
      lacks j l (yes z) x = out.gone (subst (λ y. In after (set_at words y) b) (ap (along t b) z ∙ sym e) x)
      lacks j l (no z) x = let y : (j ≡ so.k → ⊥) = z in so.gone j (omega arith) (out.fewer (set_at words (along t b j) + b / word_bits) (b % word_bits) (omega arith) x)

      still : (i j : ℕ) → j < word_bits → (bit_of j (get_or sets i 0) ≡ 1) ⊎ OnChain t b words i j → (bit_of j (get_or after i 0) ≡ 1) ⊎ OnChain t b words i j
      still i j l (inr on) = inr on
      still i j l (inl x) = by (out.stays i j l x)
        where
          by : (bit_of j (get_or after i 0) ≡ 1) ⊎ ((i ≡ g * (words % widest) + b / word_bits) × (j ≡ b % word_bits)) → (bit_of j (get_or after i 0) ≡ 1) ⊎ OnChain t b words i j
          by (inl y) = inl y
          by (inr (q, r)) = inr (record { steps = so.k; few = let f = so.walked.steps in let h = p.step in omega arith; some_goal = λ z. p.some_goal (e ∙ z); word = q ∙ ap (λ y. set_at words y + b / word_bits) e; bit = r })

  pub leave_over : ((i : ℕ) → get_or t i 0 < 65536) → (s.goal ≡ no_number) ⊎ (s.steps ≡ 0) → LeavesSets t b words before sets
  unfolding is_kept
  leave_over cells over =
      record {
        long = so.long;
        left = λ rs kept ts bs h l ew c. record {
          all_in = λ i m is j g σ n o x. still rs (numbered bs cells) h ew i m g (c.all_in i m (same kept l i is).1 j g σ n o x) (same kept l i is).0;
          kept_only = λ i g m n o. one rs kept ts bs h ew c i g m n o (ℕ_discrete i b);
          chained = λ i g m n o. c.chained i g m n (so.fewer (g * words + i / word_bits) (i % word_bits) (omega arith) o);
        };
      }
    where
      -- a binding that is kept is another one, and was kept
      same : (kept : List ℕ) → b < length kept → (i : ℕ) → is_kept (get_or (set kept b 0) i 0) ≡ true → (i ≡ b → ⊥) × (is_kept (get_or kept i 0) ≡ true)
      same kept l i is = by (ℕ_discrete i b)
        where
          by : Dec (i ≡ b) → (i ≡ b → ⊥) × (is_kept (get_or kept i 0) ≡ true)
          by (yes z) = absurd (true≢false (sym is ∙ ap (λ x. is_kept (get_or (set kept b 0) x 0)) z ∙ ap is_kept (get_or-set_same kept b 0 0 l)))
          by (no z) = (z, ap is_kept (sym (get_or-set_other kept b i 0 0 z)) ∙ is)

      still : (rs : List Record) → count Kind.binding rs ≤ 65536 → b < count Kind.binding rs → words ≡ words_for rs → (i : ℕ) → i < count Kind.binding rs → (g : ℕ) → In before (g * words) i → (i ≡ b → ⊥) → In sets (g * words) i
      still rs few h ew i m g x ne = by (so.stays (g * words + i / word_bits) (i % word_bits) (omega arith) x)
        where
          by : (In sets (g * words) i) ⊎ OnChain t b words (g * words + i / word_bits) (i % word_bits) → In sets (g * words) i
          by (inl y) = y
          by (inr on) = absurd (ne (same_bit (count Kind.binding rs) few ew h m on).1)

      -- a set that has the binding has a goal on its chain, and there it was taken out
      out : (rs : List Record) (kept : List ℕ) → TypesAre rs t → BindingsAre rs t → b < count Kind.binding rs → words ≡ words_for rs → CandidatesAre rs kept before words → (g : ℕ) → g < max_goals → In sets (g * words) b → ⊥
      out rs kept ts bs h ew c g n o =
          let few = numbered bs cells in
          let wide : words % widest ≡ words = omega arith in
          let (j, σ, l, p, x) = c.chained b g h n (so.fewer (g * words + b / word_bits) (b % word_bits) (omega arith) o) in
          let is : along t b j ≡ g = ts.one_number (along t b j) g σ (chain ts j (own_of t b) (binding_at rs b).type σ (bs.own b h) p) x in
          let place : set_at words (along t b j) ≡ g * words = ap (set_at words) is ∙ ap (λ z. g * z) wide in
          at j l is (subst (λ z. In sets z b) (sym place) o) (dec_lt j so.k)
        where
          at : (j : ℕ) → j < 256 → along t b j ≡ g → In sets (set_at words (along t b j)) b → Dec (j < so.k) → ⊥
          at j l is x (yes m) = so.gone j m x
          at j l is x (no m) = let z = walk_over so.walked over j (omega arith) l in omega arith

      one : (rs : List Record) (kept : List ℕ) → TypesAre rs t → BindingsAre rs t → b < count Kind.binding rs → words ≡ words_for rs → CandidatesAre rs kept before words → (i g : ℕ) → i < count Kind.binding rs → g < max_goals → In sets (g * words) i → Dec (i ≡ b) → is_kept (get_or (set kept b 0) i 0) ≡ true
      one rs kept ts bs h ew c i g m n o (yes z) = absurd (out rs kept ts bs h ew c g n (subst (λ x. In sets (g * words) x) z o))
      one rs kept ts bs h ew c i g m n o (no z) = ap is_kept (get_or-set_other kept b i 0 0 z) ∙ c.kept_only i g m n (so.fewer (g * words + i / word_bits) (i % word_bits) (omega arith) o)

-- One turn over the marked bindings: those that are passed are tested, and all that is not marked rests on its notes as before.
use Prim.Native.Nat.{ℕ, ◌+◌, ◌*◌, ◌/◌, ◌%◌, ◌<◌, ◌≤◌}
use native.Mathlib.Omega.{arith}
use native.Mathlib.Decide.{dec_lt, ℕ_discrete}
use mathlib.Core.Path.{◌≡◌, refl, sym, subst, ◌∙◌}
use mathlib.Core.Bool.{true}
use mathlib.Core.List.{List}
use Rattle.std.specs.Prelude.{None}
use lib.ListN.{length, get_or, drop}
use Rattle.scheme.specs.Flags.{is_kept}
use Rattle.casefile.specs.Records.{Record}
use Rattle.index.specs.layout.Layout.{word_bits, max_binding_words, row_limit, test_cells}
use Rattle.marks.specs.Marks.{bit_of, In}
use Rattle.marks.specs.briefs.Briefs.{FindsMarked}
use Rattle.answers.specs.Answers.{Under}
use Rattle.tables.specs.Filling.{words_for}
use Rattle.term_check.specs.Worlds.{answers_of, users_of}
use Rattle.marks.proofs.briefs.Passing.{in_more, marked_more}
use Rattle.rounds.specs.Resting.{total, Holds, Rests}
use Rattle.rounds.specs.tested.Tested.{Placed, Todo, Grows, past_in, Ranged, Retests}
use Rattle.rounds.specs.shrinking.Shrinking.{Turnable, Turns}
use Rattle.rounds.specs.declared.tested.Sizes.{Sizes}
use Rattle.rounds.specs.declared.tested.Course.{Course}
use Rattle.rounds.proofs.tested.Placing.{moved}

pub rests_more : (rs : List Record) (kept users users' : List ℕ) → Grows users users' → (b : ℕ) → Rests rs kept users b → Rests rs kept users' b
rests_more rs kept users users' g b r flags h = r flags (λ c l k n. h c l k (marked_more users users' g (c * words_for rs) (total rs * words_for rs + c) b n))

pub in_or_not : (words : List ℕ) (at n : ℕ) → Dec (In words at n)
in_or_not words at n = ℕ_discrete (bit_of (n % word_bits) (get_or words (at + n / word_bits) 0)) 1

module _ (t sets firsts : List ℕ) (sizes : Sizes) (kept todo memo users failed : List ℕ) (last : ℕ) where
  -- what a turn asks of a file
  abbrev pub Given : List Record → Type 0
  Given rs = Turnable t sets firsts sizes kept todo memo users failed last rs

  -- all marked bindings below b are tested
  pub record Turning (memo' users' failed' : List ℕ) (n : Course) (b : ℕ) : Type 0 where
    pub users_long : length users' ≡ length users
    pub failed_long : length failed' ≡ length failed
    pub under : Under memo (last + 1) → Under memo' (n.last + 1)
    pub before : past_in n.failures ≤ b
    pub ranged : (rs : List Record) → Given rs → Ranged failed' n.failures
    pub failures : (rs : List Record) → Given rs → (c : ℕ) → c < total rs → In failed' 0 c → (is_kept (get_or kept c 0) ≡ true) × (Holds rs kept c → ⊥)
    pub settled : (rs : List Record) → Given rs → (c : ℕ) → c < total rs → is_kept (get_or kept c 0) ≡ true → (In failed' 0 c → ⊥) → (Todo todo c → c < b) → Rests rs kept users' c

  pub turn_none : (end b : ℕ) → FindsMarked todo 0 max_binding_words 0 end b → Turning memo users failed (record { last = last; failures = None }) b
  turn_none end b f =
      record {
        users_long = refl;
        failed_long = refl;
        under = λ u. u;
        before = omega arith;
        ranged = λ rs g. g.none;
        failures = λ rs g c l i. absurd (g.none c i);
        settled = λ rs g c l k n m. g.settled c l k (λ i. f.passed c (omega arith) (m i) i);
      }

  module _ (memo' users' failed' : List ℕ) (n : Course) (b : ℕ) (w : Turning memo' users' failed' n b) (end : ℕ) (is : end ≡ sizes.bindings % row_limit) where
    pub turn_more : b < end → (memo'' users'' failed'' : List ℕ) (next : Course) (b' : ℕ) → length users'' ≡ length users' → length failed'' ≡ length failed'
        → Retests t sets firsts sizes kept memo' users' failed' n b memo'' users'' failed'' next → FindsMarked todo 0 max_binding_words (b + 1) end b'
        → Turning memo'' users'' failed'' next b'
    turn_more small memo'' users'' failed'' next b' lu lf r f =
        record {
          users_long = lu ∙ w.users_long;
          failed_long = lf ∙ w.failed_long;
          under = λ u. r.under (w.under u);
          before = let k = r.before w.before (omega arith) in let l = behind in omega arith;
          ranged = λ rs g. let long = g.long in let fl = w.failed_long in let few = inside rs g in let most = g.frame.few_bindings in r.ranged w.before (omega arith) (omega arith) (w.ranged rs g);
          failures = λ rs g c l i. failing rs g c l i (ℕ_discrete c b) (in_or_not failed' 0 c);
          settled = λ rs g c l k no' m. settling rs g c l k no' m (ℕ_discrete c b);
        }
      where
        behind : b + 1 ≤ b'
        behind = go (dec_lt b' end)
          where
            go : Dec (b' < end) → b + 1 ≤ b'
            go (yes l) = f.found l
            go (no l) = omega arith

        inside : (rs : List Record) → Given rs → b < total rs
        inside rs g = let few = g.frame.few_bindings in let all = g.frame.bindings_are in omega arith

        answer : (rs : List Record) → Given rs → b < total rs → (is_kept (get_or kept b 0) ≡ true → (In failed'' 0 b → ⊥) → Rests rs kept users'' b) × (In failed'' 0 b → (In failed' 0 b → ⊥) → (is_kept (get_or kept b 0) ≡ true) × (Holds rs kept b → ⊥))
        answer rs g l = let ul = w.users_long in let fl = w.failed_long in let room = g.room in let long = g.long in r.answer rs g.frame g.candidates (omega arith) (w.under g.under) (omega arith) l

        failing : (rs : List Record) → Given rs → (c : ℕ) → c < total rs → In failed'' 0 c → Dec (c ≡ b) → Dec (In failed' 0 c) → (is_kept (get_or kept c 0) ≡ true) × (Holds rs kept c → ⊥)
        failing rs g c l i d (yes j) = w.failures rs g c l j
        failing rs g c l i (no d) (no j) = absurd (j (r.only c i d))
        failing rs g c l i (yes e) (no j) =
            subst (λ x. In failed'' 0 x → (In failed' 0 x → ⊥) → x < total rs → (is_kept (get_or kept x 0) ≡ true) × (Holds rs kept x → ⊥)) (sym e) (λ i' j' l'. (answer rs g l').1 i' j') i j l

        settling : (rs : List Record) → Given rs → (c : ℕ) → c < total rs → is_kept (get_or kept c 0) ≡ true → (In failed'' 0 c → ⊥) → (Todo todo c → c < b') → Dec (c ≡ b) → Rests rs kept users'' c
        settling rs g c l k no' m (yes e) =
            subst (λ x. x < total rs → is_kept (get_or kept x 0) ≡ true → (In failed'' 0 x → ⊥) → Rests rs kept users'' x) (sym e) (λ l' k' n'. (answer rs g l').0 k' n') l k no'
        settling rs g c l k no' m (no d) =
            rests_more rs kept users' users'' r.grows c (w.settled rs g c l k (λ i. no' (in_more failed' failed'' r.more 0 c i)) (λ i. below c d i (m i) (dec_lt c b)))
          where
            below : (c : ℕ) → (c ≡ b → ⊥) → Todo todo c → c < b' → Dec (c < b) → c < b
            below c d i h (yes s) = s
            below c d i h (no s) = absurd (f.passed c (let z = d in omega arith) h i)

    pub turn_all : b ≤ end → end ≤ b → Turns t sets firsts sizes kept todo memo users failed last memo' users' failed' n
    turn_all l h =
        record {
          users_long = w.users_long;
          failed_long = w.failed_long;
          under = w.under;
          before = let k = w.before in omega arith;
          ranged = w.ranged;
          failures = w.failures;
          settled = λ rs g c l k no'.
              let few = g.frame.few_bindings in
              let all = g.frame.bindings_are in
              w.settled rs g c l k no' (λ i. omega arith);
        }

-- the same by the places as they stood before
pub turns_from : (r₀ r w w' t firsts : List ℕ) (sizes : Sizes) (kept todo failed : List ℕ) (last : ℕ) (failed' : List ℕ) (n : Course) → Placed r₀ r → Turns t (drop test_cells r) firsts sizes kept todo (answers_of r w) (users_of r w) failed last (answers_of r w') (users_of r w') failed' n
    → Turns t (drop test_cells r) firsts sizes kept todo (answers_of r₀ w) (users_of r₀ w) failed last (answers_of r₀ w') (users_of r₀ w') failed' n
turns_from r₀ r w w' t firsts sizes kept todo failed last failed' n p x = moved r₀ r p (λ answers users. Turns t (drop test_cells r) firsts sizes kept todo (answers w) (users w) failed last (answers w') (users w') failed' n) x

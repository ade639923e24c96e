-- From a turn to a round, and from a round to the rounds: what each step leaves, for a file whose tables are there.
use Prim.Native.Nat.{ℕ, zero, suc, ◌+◌, ◌/◌, ◌%◌, ◌^◌, ◌<◌, ◌≤◌}
use native.Mathlib.Omega.{arith}
use native.Mathlib.Decide.{dec_lt}
use mathlib.Core.Path.{◌≡◌, refl, sym, ap, ap₂, subst, ◌∙◌}
use mathlib.Core.Bool.{Bool, true, false, ◌&&◌, false≢true}
use mathlib.Core.List.{List, ◌++◌}
use Rattle.std.specs.Prelude.{None, Some}
use lib.Dec.{T}
use lib.ListN.{length, get_or, take, drop, replicate, get_or-replicate, length-drop, take-append-drop}
use lib.Seq.{get_or-take, get_or-drop, ext_get_or, length-take-le}
use Rattle.scheme.specs.Rounds
use Rattle.scheme.specs.Flags.{bit, is_kept, chosen, round_flags, kept_flags}
use Rattle.scheme.proofs.Flags.{chosen_round}
use Rattle.casefile.specs.Records.{Record}
use Rattle.casefile.specs.Tables.{bindings_of}
use Rattle.casefile.proofs.Plans.{bindings_many}
use Rattle.index.specs.layout.Layout.{word_bits}
use Rattle.marks.specs.Marks.{bit_of, In}
use Rattle.marks.proofs.Bits.{bit_next, zero_bit}
use Rattle.answers.specs.Answers.{Under}
use Rattle.tables.specs.Facts.{binding_at, no_binding, CandidatesAre}
use Rattle.tables.specs.Filling.{words_for}
use Rattle.rounds.specs.Resting.{total, test_of, Holds, Frame, Noted, Rests, Room}
use Rattle.rounds.specs.tested.Tested.{past_in, Spans, Ranged, Todo}
use Rattle.rounds.specs.dropping.Dropping.{DropsAll}
use Rattle.rounds.specs.shrinking.Shrinking.{Settled, Turnable, Turns, KeepsAll, Counts, ShrinksByRounds}
use Rattle.rounds.specs.declared.tested.Sizes.{Sizes}
use Rattle.rounds.specs.declared.tested.Failures.{Failures}
use Rattle.rounds.specs.declared.tested.Course.{Course}
use Rattle.rounds.proofs.shrinking.Flagged.{chosen_take, round_take, round_length, round_at}
use Rattle.rounds.proofs.shrinking.Leaving.{Left, left_start, left_turn, left_same, left_rounds, left_flags, left_kept}
use Rattle.rounds.proofs.shrinking.Turning.{in_or_not}

-- no number is in a set of words that are 0
pub none_in : (n m : ℕ) → In (replicate n 0) 0 m → ⊥
none_in n m i = let z = zero_bit (m % word_bits) in let w = ap (bit_of (m % word_bits)) (zeros n (0 + m / word_bits)) in omega arith
  where
    zeros : (n i : ℕ) → ◌≡◌ {A = ℕ} (get_or (replicate n 0) i 0) 0
    zeros zero i = refl
    zeros (suc n) zero = refl
    zeros (suc n) (suc i) = zeros n i

-- all numbers are in a set of words of ones
ones_bit : (w : ℕ) (k : ℕ) (n : ℕ) → k < w → n + 1 ≡ 2 ^ w → bit_of k n ≡ 1
ones_bit zero k n h e = absurd (omega arith)
ones_bit (suc w) zero n h e = omega arith
ones_bit (suc w) (suc k) n h e = bit_next k n ∙ ones_bit w k (n / 2) (omega arith) (omega arith)

pub all_marked : (m : ℕ) → m < 1024 → Todo (replicate 33 4294967295) m
all_marked m h = (h, bit_there (0 + m / word_bits) (m % word_bits) (omega arith) (omega arith), bit_there 32 (m / word_bits) (omega arith) (omega arith))
  where
    bit_there : (i k : ℕ) → i < 33 → k < 32 → bit_of k (get_or (replicate 33 4294967295) i 0) ≡ 1
    bit_there i k l b = ap (bit_of k) (get_or-replicate 33 i 4294967295 0 l) ∙ ones_bit 32 k 4294967295 b refl

-- what a flag becomes, by whether it says kept, whether the test failed, and the test's answer
flag_dropped : (f : ℕ) (v : Bool) → (T v → ⊥) → 0 ≡ bit (is_kept f && v)
unfolding bit is_kept
flag_dropped f true no_test = absurd (no_test tt)
flag_dropped zero false no_test = refl
flag_dropped (suc f) false no_test = refl

flag_stays : (f : ℕ) (v : Bool) → f ≤ 1 → (is_kept f ≡ true → T v) → f ≡ bit (is_kept f && v)
unfolding bit is_kept
flag_stays zero v s h = refl
flag_stays (suc zero) true s h = refl
flag_stays (suc zero) false s h = absurd (h refl)
flag_stays (suc (suc f)) v s h = absurd (omega arith)

zero_dropped : is_kept 0 ≡ true → ⊥
unfolding is_kept
zero_dropped e = false≢true e

-- flags that are the same up to the last binding choose the same candidates
candidates_same : (rs : List Record) (kept kept' sets : List ℕ) → ((b : ℕ) → b < total rs → get_or kept' b 0 ≡ get_or kept b 0) → CandidatesAre rs kept sets (words_for rs) → CandidatesAre rs kept' sets (words_for rs)
candidates_same rs kept kept' sets same c =
    record {
      all_in = λ b l k. c.all_in b l (ap is_kept (sym (same b l)) ∙ k);
      kept_only = λ b g l m i. ap is_kept (same b l) ∙ c.kept_only b g l m i;
      chained = c.chained;
    }

module _ (t firsts : List ℕ) (sizes : Sizes) (sets₀ memo₀ users₀ lent : List ℕ) where
  -- what the rounds ask of a file
  pub record Given (rs : List Record) : Type 0 where
    pub frame : Frame rs t firsts sizes
    pub candidates : CandidatesAre rs (replicate (total rs) 1) sets₀ (words_for rs)
    pub room : Room rs users₀
    pub under : Under memo₀ 1
    pub long : total rs ≤ length lent

  -- between rounds: the flags are those that the last one made, and past the bindings as they were lent; what is not marked rests on
  -- its notes
  pub record Going (sets memo users flags todo : List ℕ) (rounds last : ℕ) : Type 0 where
    pub long : length flags ≡ length lent
    pub users_long : length users ≡ length users₀
    pub marks_long : length todo ≡ 33
    pub under : Under memo₀ 1 → Under memo (last + 1)
    pub stays : (rs : List Record) → Given rs → drop (total rs) flags ≡ drop (total rs) lent
    pub candidates : (rs : List Record) → Given rs → CandidatesAre rs flags sets (words_for rs)
    pub settled : (rs : List Record) → Given rs → Settled rs flags users (Todo todo)
    pub few : (rs : List Record) → Given rs → rounds + length (chosen flags (bindings_of rs)) ≤ total rs
    pub left : (rs : List Record) → Given rs → Left (test_of rs) (bindings_of rs) flags (length (chosen flags (bindings_of rs))) rounds

  reached : (end : ℕ) → end ≡ sizes.bindings % 2048 → (rs : List Record) → Given rs → end ≡ total rs
  reached end is rs w = let few = w.frame.few_bindings in let all = w.frame.bindings_are in omega arith

  -- all start kept and marked
  pub going_none : (end : ℕ) → end ≡ sizes.bindings % 2048 → (entry : List ℕ) → KeepsAll end entry lent → Going sets₀ memo₀ users₀ lent (replicate 33 4294967295) 0 0
  going_none end is entry k =
      record {
        long = refl;
        users_long = refl;
        marks_long = refl;
        under = λ u. u;
        stays = λ rs w. refl;
        candidates = λ rs w. candidates_same rs (replicate (total rs) 1) lent sets₀ (λ b l. sym (get_or-take (total rs) lent b 0 l) ∙ ap (λ fs. get_or fs b 0) (ones rs w)) w.candidates;
        settled = λ rs w b l s n. absurd (n (all_marked b (let few = w.frame.few_bindings in omega arith)));
        few = λ rs w. let e = (start rs w).kept_are in let many = bindings_many rs in omega arith;
        left = λ rs w. subst (λ n. Left (test_of rs) (bindings_of rs) lent n 0) (start rs w).kept_are (start rs w);
      }
    where
      ones : (rs : List Record) → Given rs → take (total rs) lent ≡ replicate (total rs) 1
      ones rs w = subst (λ n. take n lent ≡ replicate n 1) (reached end is rs w) (k.ones (let l = w.long in let e = k.long in let r = reached end is rs w in omega arith))

      start : (rs : List Record) → Given rs → Left (test_of rs) (bindings_of rs) lent (total rs) 0
      start rs w = left_start (test_of rs) (bindings_of rs) lent (total rs) (ones rs w) (sym (bindings_many rs))

  module _ (sets memo users flags todo : List ℕ) (rounds last : ℕ) (g : Going sets memo users flags todo rounds last) (end : ℕ) (is : end ≡ sizes.bindings % 2048) where
    -- so many rounds there are not
    pub going_out : end < rounds → (kept counted : ℕ) → ShrinksByRounds t sets₀ firsts sizes memo₀ users₀ lent flags kept counted
    going_out h kept counted =
        record {
          long = g.long;
          flags_are = λ rs fr ca ro un lo. absurd (never rs (record { frame = fr; candidates = ca; room = ro; under = un; long = lo }));
          kept_are = λ rs fr ca ro un lo. absurd (never rs (record { frame = fr; candidates = ca; room = ro; under = un; long = lo }));
          rounds_are = λ rs fr ca ro un lo. absurd (never rs (record { frame = fr; candidates = ca; room = ro; under = un; long = lo }));
        }
      where
        never : (rs : List Record) → Given rs → ⊥
        never rs w = let few = g.few rs w in let r = reached end is rs w in omega arith

    module _ (memo' users' failed : List ℕ) (n : Course) (turn : Turns t sets firsts sizes flags todo memo users (replicate 32 0) last memo' users' failed n) where
      module _ (rs : List Record) (w : Given rs) where
        asks : Turnable t sets firsts sizes flags todo memo users (replicate 32 0) last rs
        asks =
            record {
              frame = w.frame;
              candidates = g.candidates rs w;
              room = let r = w.room in let l = g.users_long in omega arith;
              under = g.under w.under;
              long = omega arith;
              none = none_in 32;
              settled = g.settled rs w;
            }

        failures : (b : ℕ) → b < total rs → In failed 0 b → (is_kept (get_or flags b 0) ≡ true) × (Holds rs flags b → ⊥)
        failures = turn.failures rs asks

        resting : Settled rs flags users' (In failed 0)
        resting = turn.settled rs asks

        ranged : Ranged failed n.failures
        ranged = turn.ranged rs asks

        few_failed : past_in n.failures ≤ total rs
        few_failed = let r = reached end is rs w in let b = turn.before in omega arith

        enough : length (bindings_of rs) ≤ length flags
        enough = let l = g.long in let many = bindings_many rs in let k = w.long in omega arith

        small : (b : ℕ) → b < total rs → get_or flags b 0 ≤ 1
        small b l = let many = bindings_many rs in subst (λ x. x ≤ 1) (get_or-take (length (bindings_of rs)) flags b 0 (omega arith)) ((g.left rs w).small b)

        -- flags from which those that failed are dropped are those of a round
        made : (new : List ℕ) → length new ≡ length flags → ((c : ℕ) → c < total rs → In failed 0 c → get_or new c 0 ≡ 0) → ((c : ℕ) → c < total rs → (In failed 0 c → ⊥) → get_or new c 0 ≡ get_or flags c 0)
            → take (length (bindings_of rs)) new ≡ round_flags (test_of rs) (bindings_of rs) flags
        made new long gone others = ext_get_or 0 (take all new) (round_flags (test_of rs) (bindings_of rs) flags) (inside ∙ sym (round_length (test_of rs) (bindings_of rs) flags enough)) here
          where
            all : ℕ
            all = length (bindings_of rs)

            inside : length (take all new) ≡ all
            inside = length-take-le all new (let e = enough in omega arith)

            flag : (b : ℕ) → b < total rs → Dec (In failed 0 b) → get_or new b 0 ≡ bit (is_kept (get_or flags b 0) && test_of rs (chosen flags (bindings_of rs)) (binding_at rs b))
            flag b l (yes i) = gone b l i ∙ flag_dropped (get_or flags b 0) (test_of rs (chosen flags (bindings_of rs)) (binding_at rs b)) (failures b l i).1
            flag b l (no i) =
                others b l i ∙ flag_stays (get_or flags b 0) (test_of rs (chosen flags (bindings_of rs)) (binding_at rs b)) (small b l) (λ k. resting b l k i flags (λ c m s noted. s))

            here : (b : ℕ) → b < length (take all new) → get_or (take all new) b 0 ≡ get_or (round_flags (test_of rs) (bindings_of rs) flags) b 0
            here b l =
                let e = inside in
                let many = bindings_many rs in
                get_or-take all new b 0 (omega arith) ∙ flag b (omega arith) (in_or_not failed 0 b) ∙ sym (round_at (test_of rs) (bindings_of rs) flags b no_binding (omega arith) enough)

        kept_made : (new : List ℕ) → take (length (bindings_of rs)) new ≡ round_flags (test_of rs) (bindings_of rs) flags → length (chosen new (bindings_of rs)) ≡ length (Rounds.round (test_of rs) (chosen flags (bindings_of rs)))
        kept_made new e = ap length (sym (chosen_take new (bindings_of rs)) ∙ ap (λ fs. chosen fs (bindings_of rs)) e ∙ chosen_round (test_of rs) (bindings_of rs) flags)

      -- nothing failed
      module _ (h : n.failures ≡ None) where
        module _ (rs : List Record) (w : Given rs) where
          more : length (chosen flags (bindings_of rs)) ≡ length (Rounds.round (test_of rs) (chosen flags (bindings_of rs)))
          more =
              kept_made rs w flags
              (made rs w flags refl (λ c l i. absurd (subst (Ranged failed) h (ranged rs w) c i)) (λ c l i. refl))

          kept_all : length (chosen flags (bindings_of rs)) ≤ length (Rounds.round (test_of rs) (chosen flags (bindings_of rs)))
          kept_all = let m = more in omega arith

        pub going_all : (kept : ℕ) → Counts flags end kept → ShrinksByRounds t sets₀ firsts sizes memo₀ users₀ lent flags kept rounds
        going_all kept counts =
            record {
              long = g.long;
              flags_are = λ rs fr ca ro un lo. flags_here rs (record { frame = fr; candidates = ca; room = ro; under = un; long = lo });
              kept_are = λ rs fr ca ro un lo. kept_here rs (record { frame = fr; candidates = ca; room = ro; under = un; long = lo });
              rounds_are = λ rs fr ca ro un lo. rounds_here rs (record { frame = fr; candidates = ca; room = ro; under = un; long = lo });
            }
          where
            flags_here : (rs : List Record) → Given rs → flags ≡ kept_flags (test_of rs) (bindings_of rs) ++ drop (total rs) lent
            flags_here rs w =
                sym (take-append-drop (total rs) flags)
                ∙ ap₂ ◌++◌ (ap (λ n. take n flags) (sym (bindings_many rs)) ∙ left_flags (test_of rs) (bindings_of rs) flags _ rounds (g.left rs w) (length (Rounds.round (test_of rs) (chosen flags (bindings_of rs)))) (enough rs w) refl (kept_all rs w)) (g.stays rs w)

            kept_here : (rs : List Record) → Given rs → kept ≡ length (Rounds.kept (test_of rs) (bindings_of rs))
            kept_here rs w =
                let many = bindings_many rs in
                let r = reached end is rs w in
                let e = enough rs w in
                counts.counted (bindings_of rs) (omega arith) (omega arith)
                ∙ left_kept (test_of rs) (bindings_of rs) flags _ rounds (g.left rs w) (length (Rounds.round (test_of rs) (chosen flags (bindings_of rs)))) e refl (kept_all rs w)

            rounds_here : (rs : List Record) → Given rs → rounds ≡ Rounds.rounds (test_of rs) (bindings_of rs)
            rounds_here rs w = left_rounds (test_of rs) (bindings_of rs) flags _ rounds (g.left rs w) (length (Rounds.round (test_of rs) (chosen flags (bindings_of rs)))) (enough rs w) refl (kept_all rs w)

      -- some failed, and are dropped
      module _ (f : Failures) (h : n.failures ≡ Some f) (sets' new todo' : List ℕ) (d : DropsAll t firsts users' sizes failed sets flags (replicate 33 0) f.least f.past sets' new todo') where
        module _ (rs : List Record) (w : Given rs) where
          spans : Spans failed f
          spans = subst (Ranged failed) h (ranged rs w)

          few_past : f.past ≤ total rs
          few_past = let few = few_failed rs w in let e = ap past_in h in omega arith

          gone : (c : ℕ) → c < total rs → In failed 0 c → get_or new c 0 ≡ 0
          gone c l i = let k = spans.inside c i in d.gone rs w.frame few_past (let l = g.long in let k = w.long in omega arith) c k.0 k.1 i

          others : (c : ℕ) → (In failed 0 c → ⊥) → get_or new c 0 ≡ get_or flags c 0
          others = d.others

          made_new : take (length (bindings_of rs)) new ≡ round_flags (test_of rs) (bindings_of rs) flags
          made_new = made rs w new d.flags_long gone (λ c l i. others c i)

          fewer : length (chosen new (bindings_of rs)) < length (chosen flags (bindings_of rs))
          fewer = go (dec_lt (length (chosen new (bindings_of rs))) (length (chosen flags (bindings_of rs))))
            where
              all : ℕ
              all = length (bindings_of rs)

              first : ℕ
              first = f.least

              in_first : In failed 0 first
              in_first = spans.some_failed

              below : first < total rs
              below = let k = spans.inside first in_first in let b = few_past in omega arith

              go : Dec (length (chosen new (bindings_of rs)) < length (chosen flags (bindings_of rs))) → length (chosen new (bindings_of rs)) < length (chosen flags (bindings_of rs))
              go (yes l) = l
              go (no l) =
                  let same : take all new ≡ take all flags =
                  made_new ∙ sym (round_take (test_of rs) (bindings_of rs) flags) ∙ left_same (test_of rs) (bindings_of rs) flags _ rounds (g.left rs w) (length (chosen new (bindings_of rs))) (enough rs w) (kept_made rs w new made_new) (omega arith) in
                  let many = bindings_many rs in
                  let at : get_or flags first 0 ≡ 0 = sym (get_or-take all flags first 0 (let b = below in omega arith)) ∙ ap (λ fs. get_or fs first 0) (sym same) ∙ get_or-take all new first 0 (let b = below in omega arith) ∙ gone first below in_first in
                  absurd (zero_dropped (ap is_kept (sym at) ∙ (failures rs w first below in_first).0))

          settled_new : Settled rs new users' (Todo todo')
          settled_new b l k unmarked = go (in_or_not failed 0 b)
            where
              go : Dec (In failed 0 b) → Rests rs new users' b
              go (yes i) = absurd (zero_dropped (ap is_kept (sym (gone b l i)) ∙ k))
              go (no i) = λ fs kept-noted. resting rs w b l (ap is_kept (sym (others b i)) ∙ k) i fs (λ c m s noted. has fs kept-noted c m s noted (in_or_not failed 0 c))
                where
                  room : Room rs users'
                  room = let r = w.room in let a = g.users_long in let b = turn.users_long in omega arith

                  has : (fs : List ℕ) → ((c : ℕ) → c < total rs → is_kept (get_or new c 0) ≡ true → Noted rs users' b c → is_kept (get_or fs c 0) ≡ true) → (c : ℕ) → c < total rs → is_kept (get_or flags c 0) ≡ true → Noted rs users' b c → Dec (In failed 0 c) → is_kept (get_or fs c 0) ≡ true
                  has fs kept-noted c m s noted (yes j) = let k = spans.inside c j in absurd (unmarked (d.marked rs w.frame room few_past (omega arith) c b k.0 k.1 j noted))
                  has fs kept-noted c m s noted (no j) = kept-noted c m (ap is_kept (others c j) ∙ s) noted

          past : drop (total rs) new ≡ drop (total rs) flags
          past =
              let e = length-drop (total rs) new in
              let e' = length-drop (total rs) flags in
              let l = d.flags_long in
              ext_get_or 0 (drop (total rs) new) (drop (total rs) flags) (omega arith)
              (λ i m. get_or-drop (total rs) new i 0 ∙ others (total rs + i) (λ k. let m = spans.inside (total rs + i) k in let b = few_past in absurd (omega arith)) ∙ sym (get_or-drop (total rs) flags i 0))

        pub going_more : Going sets' memo' users' new todo' (rounds + 1) n.last
        going_more =
            record {
              long = d.flags_long ∙ g.long;
              users_long = turn.users_long ∙ g.users_long;
              marks_long = d.todo_long;
              under = λ u. turn.under (g.under u);
              stays = λ rs w. past rs w ∙ g.stays rs w;
              candidates = λ rs w. d.candidates rs w.frame (few_past rs w) (let l = g.long in let k = w.long in omega arith) (g.candidates rs w);
              settled = settled_new;
              few = λ rs w. let was = g.few rs w in let less = fewer rs w in omega arith;
              left = λ rs w. left_turn (test_of rs) (bindings_of rs) flags _ rounds (g.left rs w) new (length (chosen new (bindings_of rs))) (made_new rs w) (kept_made rs w new (made_new rs w)) (fewer rs w);
            }

-- the flags as they were lent, before all were set
pub going_from : (t sets firsts : List ℕ) (sizes : Sizes) (memo users entry lent flags : List ℕ) (kept rounds end : ℕ) → ShrinksByRounds t sets firsts sizes memo users lent flags kept rounds → end ≡ sizes.bindings % 2048 → KeepsAll end entry lent
    → ShrinksByRounds t sets firsts sizes memo users entry flags kept rounds
going_from t sets firsts sizes memo users entry lent flags kept rounds end s is k =
    record {
      long = s.long ∙ k.long;
      flags_are = λ rs fr ca ro un lo. s.flags_are rs fr ca ro un (enough rs lo) ∙ ap (kept_flags (test_of rs) (bindings_of rs) ++◌) (subst (λ n. drop n lent ≡ drop n entry) (reached rs fr) k.stays);
      kept_are = λ rs fr ca ro un lo. s.kept_are rs fr ca ro un (enough rs lo);
      rounds_are = λ rs fr ca ro un lo. s.rounds_are rs fr ca ro un (enough rs lo);
    }
  where
    enough : (rs : List Record) → total rs ≤ length entry → total rs ≤ length lent
    enough rs lo = let e = k.long in omega arith

    reached : (rs : List Record) → Frame rs t firsts sizes → end ≡ total rs
    reached rs fr = let few = fr.few_bindings in let all = fr.bindings_are in omega arith

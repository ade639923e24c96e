-- The rounds one by one, for any test: the rounds that are left, whose count and flags are those of the definitions.
use Prim.Native.Nat.{ℕ, zero, suc, ◌+◌, ◌<◌, ◌≤◌}
use native.Mathlib.Omega.{arith}
use native.Mathlib.Nat.{zero-add}
use mathlib.Core.Path.{◌≡◌, refl, sym, ap, subst, ◌∙◌}
use mathlib.Core.Bool.{Bool}
use mathlib.Core.List.{List, [], ◌∷◌}
use borrow.Author.Tests.{eq-eqb, ne_eqb}
use lib.ListN.{length, take, replicate}
use lib.Seq.{length-take-le}
use Rattle.scheme.specs.Lists.{keep_if}
use Rattle.scheme.specs.Rounds
use Rattle.scheme.specs.Rounds.{count_to}
use Rattle.scheme.specs.Flags.{is_kept, chosen, round_flags, flags_after_rounds, kept_flags}
use Rattle.scheme.proofs.Rounds.{round_length as round-fewer}
use Rattle.scheme.proofs.Flags.{chosen_round, chosen_kept}
use Rattle.rounds.proofs.shrinking.Flagged.{Small, chosen_take, round_take, round_small, round_same, after_same}

-- between rounds: `kept` elements are kept by the flags, after `rounds` rounds that dropped something; as many rounds as the
-- fuel says lead to what the definitions say
pub record Left {B : Type 0} (test : List B → B → Bool) (bs : List B) (old : List ℕ) (kept rounds : ℕ) : Type 0 where
  pub small : Small (take (length bs) old)
  pub kept_are : kept ≡ length (chosen old bs)
  pub fuel : ℕ
  pub enough : kept ≤ fuel
  pub count : rounds + count_to test fuel (chosen old bs) ≡ Rounds.rounds test bs
  pub flags : flags_after_rounds test bs fuel (take (length bs) old) ≡ kept_flags test bs

module _ {B : Type 0} (test : List B → B → Bool) (bs : List B) where
  ones_small : (n : ℕ) → Small (replicate n 1)
  ones_small zero i = omega arith
  ones_small (suc n) zero = omega arith
  ones_small (suc n) (suc i) = ones_small n i

  chosen_ones : {A : Type 0} (as' : List A) → chosen (replicate (length as') 1) as' ≡ as'
  unfolding chosen is_kept keep_if
  chosen_ones [] = refl
  chosen_ones (a ∷ as') = ap (a ∷◌) (chosen_ones as')

  -- all start kept
  pub left_start : (old : List ℕ) (n : ℕ) → take n old ≡ replicate n 1 → n ≡ length bs → Left test bs old n 0
  unfolding Rounds.rounds kept_flags
  left_start old n e k =
      let t : take (length bs) old ≡ replicate (length bs) 1 = subst (λ m. take m old ≡ replicate m 1) k e in
      let c : chosen old bs ≡ bs = sym (chosen_take old bs) ∙ ap (λ fs. chosen fs bs) t ∙ chosen_ones bs in
      record {
        small = subst Small (sym t) (ones_small (length bs));
        kept_are = k ∙ sym (ap length c);
        fuel = length bs;
        enough = omega arith;
        count = zero-add (count_to test (length bs) (chosen old bs)) ∙ ap (count_to test (length bs)) c;
        flags = ap (flags_after_rounds test bs (length bs)) t;
      }

  module _ (old : List ℕ) (kept rounds : ℕ) (w : Left test bs old kept rounds) where
    -- what is left to count, by what the round before says
    turn : (fuel more : ℕ) → more < kept → kept ≤ fuel → more ≡ length (Rounds.round test (chosen old bs)) → kept ≡ length (chosen old bs)
        → (f : ℕ) × (fuel ≡ suc f) × (count_to test fuel (chosen old bs) ≡ suc (count_to test f (Rounds.round test (chosen old bs))))
    unfolding count_to
    turn zero more h k e g = absurd (omega arith)
    turn (suc f) more h k e g = (f, refl, rw (ne_eqb (length (Rounds.round test (chosen old bs))) (length (chosen old bs)) (λ z. omega arith)))

    -- a round that drops something
    pub left_turn : (new : List ℕ) (more : ℕ) → take (length bs) new ≡ round_flags test bs old → more ≡ length (Rounds.round test (chosen old bs)) → more < kept → Left test bs new more (rounds + 1)
    unfolding flags_after_rounds
    left_turn new more t e h =
        let (f, is, c) = turn w.fuel more h w.enough e w.kept_are in
        let r : take (length bs) new ≡ round_flags test bs (take (length bs) old) = t ∙ sym (round_take test bs old) in
        let s : chosen new bs ≡ Rounds.round test (chosen old bs) = sym (chosen_take new bs) ∙ ap (λ fs. chosen fs bs) t ∙ chosen_round test bs old in
        record {
          small = subst Small (sym t) (round_small test bs old);
          kept_are = e ∙ sym (ap length s);
          fuel = f;
          enough = let en = w.enough in omega arith;
          count = let a = ap (count_to test f) s in let b = w.count in omega arith;
          flags = ap (flags_after_rounds test bs f) r ∙ sym (ap (λ n. flags_after_rounds test bs n (take (length bs) old)) is) ∙ w.flags;
        }

    -- a round that drops nothing
    module _ (more : ℕ) (long : length bs ≤ length old) (e : more ≡ length (Rounds.round test (chosen old bs))) (h : kept ≤ more) where
      none_more : (fuel : ℕ) → count_to test fuel (chosen old bs) ≡ 0
      unfolding count_to
      none_more zero = refl
      none_more (suc f) = let fewer = round-fewer test (chosen old bs) in let k = w.kept_are in rw (eq-eqb (length (Rounds.round test (chosen old bs))) (length (chosen old bs)) (omega arith))

      pub left_rounds : rounds ≡ Rounds.rounds test bs
      left_rounds = let a = none_more w.fuel in let b = w.count in omega arith

      -- it leaves the flags as they are
      pub left_same : round_flags test bs (take (length bs) old) ≡ take (length bs) old
      left_same =
          let fs = take (length bs) old in
          let a : chosen fs bs ≡ chosen old bs = chosen_take old bs in
          let b : chosen (round_flags test bs fs) bs ≡ Rounds.round test (chosen fs bs) = chosen_round test bs fs in
          let g : length (Rounds.round test (chosen fs bs)) ≡ more = ap (λ s. length (Rounds.round test s)) a ∙ sym e in
          let k = w.kept_are in
          round_same test bs fs (length-take-le (length bs) old long) w.small (let p = ap length a in let q = ap length b in omega arith)

      pub left_flags : take (length bs) old ≡ kept_flags test bs
      left_flags = sym (after_same test bs w.fuel (take (length bs) old) left_same) ∙ w.flags

      pub left_kept : kept ≡ length (Rounds.kept test bs)
      left_kept = w.kept_are ∙ ap length (sym (chosen_take old bs) ∙ ap (λ fs. chosen fs bs) left_flags ∙ chosen_kept test bs)

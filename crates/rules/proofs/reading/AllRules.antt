-- The rules one after another: the nodes of the rules before, and the ends of their subterms.
use Prim.Native.Nat.{ℕ, zero, suc, ◌+◌, ◌-◌, ◌/◌, ◌<◌, ◌≤◌}
use native.Mathlib.Omega.{arith}
use native.Mathlib.Nat.{le_of_suc-le-suc}
use mathlib.Core.Path.{◌≡◌, refl, sym, ap, subst, ◌∙◌}
use mathlib.Core.Bool.{true, false}
use mathlib.Core.List.{List, [], ◌∷◌, ◌++◌}
use borrow.Author.Count.{below_more}
use borrow.Rule.Slice.PartMut.{put_mid, post_of, same_len_mid}
use Rattle.std.specs.Prelude.{Option, Some, None}
use lib.ListN.{length, get_or, take, drop, get_or-append}
use lib.Seq.{get_or-take, get_or-append-add, length-take-le}
use Rattle.casefile.specs.Records.{Record}
use Rattle.casefile.specs.Kinds.{rule, payloads}
use Rattle.casefile.proofs.TypeTable.{count_payloads}
use Rattle.bodies.specs.declared.Heads.{Heads}
use Rattle.rules.specs.reading.RuleBodies.{nodes_in, rule_of, first_node, wrong_at, end_at, Judged, RuleRead, Accepted, ReadsRules}

-- one body more
nodes_suc : (ps : List (List ℕ)) (f : ℕ) → f < length ps → nodes_in (take (suc f) ps) ≡ nodes_in (take f ps) + length (get_or ps f []) / 4
unfolding nodes_in
nodes_suc [] f h = absurd (omega arith)
nodes_suc (p ∷ ps) zero h = omega arith
nodes_suc (p ∷ ps) (suc f) h = let e = nodes_suc ps f (le_of_suc-le-suc h) in omega arith

pub nodes_more : (ps : List (List ℕ)) (f : ℕ) → f < length ps → nodes_in (take (f + 1) ps) ≡ nodes_in (take f ps) + length (get_or ps f []) / 4
nodes_more ps f h = let one : f + 1 ≡ suc f = omega arith in ap (λ k. nodes_in (take k ps)) one ∙ nodes_suc ps f h

pub nodes_some : (ps : List (List ℕ)) (f : ℕ) → nodes_in (take f ps) ≤ nodes_in ps
unfolding nodes_in
nodes_some [] zero = omega arith
nodes_some [] (suc f) = omega arith
nodes_some (p ∷ ps) zero = omega arith
nodes_some (p ∷ ps) (suc f) = let e = nodes_some ps f in omega arith

-- the bodies before g have no more nodes than those before f, g's own with them
nodes_before : (ps : List (List ℕ)) (f g : ℕ) → g < f → f ≤ length ps → nodes_in (take g ps) + length (get_or ps g []) / 4 ≤ nodes_in (take f ps)
unfolding nodes_in
nodes_before [] f g l h = absurd (omega arith)
nodes_before (p ∷ ps) zero g l h = absurd (omega arith)
nodes_before (p ∷ ps) (suc f) zero l h = omega arith
nodes_before (p ∷ ps) (suc f) (suc g) l h = let e = nodes_before ps f g (le_of_suc-le-suc l) (le_of_suc-le-suc h) in omega arith

-- a table after its part from place `at` on was changed
pub record Changed (ends ends' part : List ℕ) (at : ℕ) : Type 0 where
  pub long : length ends' ≡ length ends
  pub same : (k : ℕ) → k < at → get_or ends' k 0 ≡ get_or ends k 0
  pub changed : (k : ℕ) → k < length part → get_or ends' (at + k) 0 ≡ get_or part k 0

-- the part from a place on
pub changed_put : (ends part : List ℕ) (at : ℕ) → at ≤ length ends → length part ≡ length (take (length ends - at) (drop at ends)) → Changed ends (put_mid at (length ends - at) ends part) part at
changed_put ends part at h e =
    let post = post_of at (length ends - at) ends in
    let l : length (take at ends) ≡ at = length-take-le at ends h in
    record {
      long = same_len_mid at (length ends - at) ends part e;
      same = λ k m. get_or-append (take at ends) (part ++ post) 0 k (omega arith) ∙ get_or-take at ends k 0 m;
      changed = λ k m. ap (λ z. get_or (take at ends ++ (part ++ post)) (z + k) 0) (sym l) ∙ get_or-append-add (take at ends) (part ++ post) k 0 ∙ get_or-append part post 0 k m;
    }

module _ (file index : List ℕ) (heads : Heads) (rules : ℕ) (before : List ℕ) where
  -- the rules before f are accepted, and the next one has its nodes from `at` on
  pub record Going (f at : ℕ) (ends : List ℕ) : Type 0 where
    pub inside : at ≤ length ends
    pub long : length ends ≡ length before
    pub sofar : (rs : List Record) → Judged file index heads rules rs → nodes_in (payloads rule rs) ≤ length before → (at ≡ first_node rs f) × Accepted rs f ends

  pub going_none : Going 0 0 before
  unfolding nodes_in
  going_none = record { inside = omega arith; long = refl; sofar = λ rs j l. (refl, record { right = λ g h. absurd (omega arith); ends_are = λ g i h k. absurd (omega arith) }) }

  module _ (f at : ℕ) (ends part part' ends' : List ℕ) (found : Option ℕ) (going : Going f at ends) (h : f < rules) (size : length part ≡ length ends - at)
      (read : RuleRead file index heads f part part' found) (after : Changed ends ends' part' at) where
    module _ (rs : List Record) (j : Judged file index heads rules rs) (l : nodes_in (payloads rule rs) ≤ length before) where
      counted : f < length (payloads rule rs)
      counted = let a = j.there.counted in let b = count_payloads rule rs in omega arith

      -- there is room for the nodes of rule f
      room : length (rule_of rs f) / 4 ≤ length part
      room =
          let a = nodes_more (payloads rule rs) f counted in
          let b = nodes_some (payloads rule rs) (f + 1) in
          let e = (going.sofar rs j l).0 in
          let m = going.long in
          omega arith

      -- what was read of the rules before stays
      stays : Accepted rs f ends'
      stays =
          let (e, x) = going.sofar rs j l in
          record {
            right = x.right;
            ends_are = λ g i lg li. after.same (first_node rs g + i) (let b = nodes_before (payloads rule rs) f g lg (let q = counted in omega arith) in omega arith) ∙ x.ends_are g i lg li;
          }

      next : (n : ℕ) → found ≡ Some n → (at + n ≡ first_node rs (f + 1)) × Accepted rs (f + 1) ends'
      next n is =
          let (en, right, ends_are) = read.fits rules rs j h room n is in
          let e = (going.sofar rs j l).0 in
          let a = nodes_more (payloads rule rs) f counted in
          let b = read.long in
          let q = room in (
            omega arith,
            record {
              right = below_more (λ g. wrong_at rs g ≡ false) f stays.right right;
              ends_are = λ g i lg. below_more (λ g. (i : ℕ) → i < length (rule_of rs g) / 4 → get_or ends' (first_node rs g + i) 0 ≡ end_at rs g i) f
                  (λ g lg i li. stays.ends_are g i lg li)
                  (λ i li. ap (λ z. get_or ends' (z + i) 0) (sym e) ∙ after.changed i (omega arith) ∙ ends_are i li) g lg i;
            },
          )

    pub going_stop : found ≡ None → ReadsRules file index heads rules before ends' (Some f)
    going_stop z rs j l = record {
      within = λ g e. let same : f ≡ g = cc in omega arith;
      before = λ g e. let same : f ≡ g = cc in subst (λ g. Accepted rs g ends') same (stays rs j l);
      wrong_there = λ g e. let same : f ≡ g = cc in subst (λ g. wrong_at rs g ≡ true) same (read.fails rules rs j h (room rs j l) z);
      all = λ e. absurd (cc);
    }

    pub going_more : (n : ℕ) → found ≡ Some n → Going (f + 1) (at + n) ends'
    going_more n is = record {
      inside = let a = read.within n is in let b = after.long in let d = going.inside in omega arith;
      long = after.long ∙ going.long;
      sofar = λ rs j l. next rs j l n is;
    }

  pub going_end : (f at : ℕ) (ends : List ℕ) → Going f at ends → f ≤ rules → rules ≤ f → ReadsRules file index heads rules before ends None
  going_end f at ends g a b rs j l =
      let e : f ≡ rules = omega arith in
      record { within = λ g e. absurd (cc); before = λ g e. absurd (cc); wrong_there = λ g e. absurd (cc); all = λ _. subst (λ z. Accepted rs z ends) e (g.sofar rs j l).1 }

-- The term at a node against a goal, by what is remembered or by the check; then the members of an arrow, up to the first that it lacks.
use Prim.Native.Nat.{ℕ, suc, ◌<◌, ◌≤◌}
use native.Mathlib.Omega.{arith}
use mathlib.Core.Path.{◌≡◌, refl, sym, subst}
use mathlib.Core.Bool.{Bool, true, false, not, true≢false}
use mathlib.Core.List.{List}
use lib.Dec.{T}
use lib.ListN.{length, get_or}
use Rattle.std.specs.Prelude.{Some, None}
use Rattle.scheme.specs.Terms.{Term}
use Rattle.scheme.specs.Types.{Ty, state, arrow, Tys, members, same}
use Rattle.scheme.specs.Typing.{has}
use Rattle.scheme.proofs.Lists.{T→true, not_in}
use Rattle.scheme.proofs.Reasons.{first_none_at, first_some_at}
use Rattle.answers.specs.Answers.{Looks}
use Rattle.answers.specs.declared.Outlook.{Outlook}
use Rattle.tables.specs.reading.Cells.{many_of_spec, member_of_spec}
use Rattle.tables.specs.Facts.{Goal, At}
use Rattle.term_check.specs.notes.Notes.{stamp_in, wide_in}
use Rattle.term_check.specs.masks.Masks.{HasBit}
use Rattle.term_check.specs.Worlds.{Case, World, Ready, ChecksTerm}
use Rattle.term_check.proofs.check.Keeping.{keeps_all, keeps_on, ready_on}
use Rattle.term_check.proofs.check.Members.{Asked, had_more}
use Rattle.reasons.specs.Searching.{heads_of}
use Rattle.reasons.specs.missing.Missing.{LacksMember}

-- it is remembered
module _ (x : Case) (memo users : List ℕ) (at goal : ℕ) (known : Outlook) (looks : Looks memo (wide_in x.test) (stamp_in x.test) at goal known) (b : Bool) where
  pub known_no : HasBit known.lacked goal b → b ≡ true → ChecksTerm x memo users at goal memo users false
  known_no d e = record { keeps = keeps_all x memo users; yes = λ y. absurd (true≢false (sym y)); no = λ y w r. r.right.no at goal (looks.no goal refl (d.yes e)) }

  pub known_yes : HasBit known.had goal b → b ≡ true → ChecksTerm x memo users at goal memo users true
  known_yes d e = record { keeps = keeps_all x memo users; yes = λ y w r. r.right.yes at goal (looks.yes goal refl (d.yes e)); no = λ y. absurd (true≢false y) }

-- what is told of lists is told of equal lists
pub term_moved : (x : Case) (memo users : List ℕ) (at goal : ℕ) (memo' users' users'' : List ℕ) (b : Bool) → users'' ≡ users' → ChecksTerm x memo users at goal memo' users' b → ChecksTerm x memo users at goal memo' users'' b
term_moved x memo users at goal memo' users' users'' b e = subst (λ u. ChecksTerm x memo users at goal memo' u b) (sym e)

-- a test that is turned round, by what it comes to
pub not_had : (b : Bool) → T b → not b ≡ false
not_had true h = refl
not_had false h = absurd h

pub not_lacking : (b : Bool) → not b ≡ false → T b
not_lacking true e = tt
not_lacking false e = absurd (true≢false e)

pub not_lacked : (b : Bool) → (T b → ⊥) → not b ≡ true
not_lacked b h = T→true (not b) (not_in b h)

module _ (x : Case) (memo users : List ℕ) (at g : ℕ) {memo' users' : List ℕ} {j : ℕ} (a : Asked x memo users at g memo' users' j) (many : ℕ) (is-many : many ≡ many_of_spec x.t g) where
  -- members before j are had
  had_before : (w : World) → Ready x w memo users → (b : Tys) (s : Ty) → Goal w.rs g (arrow b s) → (u : Term) → At w.ns at u → (k : ℕ) → k < j → k < length (members b) → not (has same (heads_of w) u (get_or (members b) k (state 0))) ≡ false
  had_before w r b s gb u here k l inside =
      let m = get_or (members b) k (state 0) in
      not_had (has same (heads_of w) u m) (a.had w r k l w.kept (λ c h rests. rests.is_kept_law) u here m ((r.setting.types.arrow_row g b s gb).member k inside))

  pub members_had : many ≤ j → LacksMember x memo users at g memo' users' None
  members_had h =
      record {
        keeps = a.keeps;
        lacks = λ w r b s gb u here.
            let n = (r.setting.types.arrow_row g b s gb).many in
            first_none_at (λ m. not (has same (heads_of w) u m)) (members b) (state 0) (λ k l. had_before w r b s gb u here k (omega arith) l);
      }

  module _ (l : j < many) (goal : ℕ) (is_goal : goal ≡ member_of_spec x.t g j) (memo'' users'' : List ℕ) (b : Bool) (told : ChecksTerm x memo' users' at goal memo'' users'' b) where
    pub member_had : b ≡ true → (j' : ℕ) → j' ≡ suc j → Asked x memo users at g memo'' users'' j'
    member_had e = had_more x memo users at g a many is-many l goal is_goal memo'' users'' told.keeps (λ w r. told.yes e w (ready_on a.keeps r))

    -- member j as a goal
    member_goal : (w : World) → Ready x w memo users → (c : Tys) (s : Ty) → Goal w.rs g (arrow c s) → (j < length (members c)) × Goal w.rs goal (get_or (members c) j (state 0))
    member_goal w r c s gc =
        let row = r.setting.types.arrow_row g c s gc in
        let n = row.many in
        let i : j < length (members c) = omega arith in
        (i, subst (λ h. Goal w.rs h (get_or (members c) j (state 0))) (sym is_goal) (row.member j i))

    pub member_lacked : b ≡ false → LacksMember x memo users at g memo'' users'' (Some goal)
    member_lacked e =
        record {
          keeps = keeps_on a.keeps told.keeps;
          lacks = λ w r c s gc u here.
              let (i, gm) = member_goal w r c s gc in
              let m = get_or (members c) j (state 0) in (
                m,
                gm,
                first_some_at (λ m. not (has same (heads_of w) u m)) (members c) (state 0) j i (λ k h. had_before w r c s gc u here k h (omega arith))
                    (not_lacked (has same (heads_of w) u m) (told.no e w (ready_on a.keeps r) u here m gm)),
              );
        }

-- The type of a binding that leads to a goal, return by return.
use Prim.Native.Nat.{ℕ, ◌*◌, ◌%◌, ◌<◌, ◌≤◌}
use native.Mathlib.Omega.{arith}
use native.Mathlib.Nat.{mul-le-mul}
use mathlib.Core.Path.{◌≡◌, refl, sym, ap, subst, ◌∙◌}
use mathlib.Core.Bool.{Bool, true, false}
use mathlib.Core.List.{List}
use lib.Dec.{eqb}
use borrow.Author.Tests.{eqb-true, eqb-false}
use Rattle.std.specs.Prelude.{Option, Some, None}
use Rattle.std.specs.Bool.{then_some}
use Rattle.std.proofs.lemmas.Option.{none-some, same_Some}
use Rattle.scheme.specs.Types.{Ty}
use Rattle.index.specs.layout.Layout.{row_limit, words_limit}
use Rattle.marks.specs.Marks.{In, Decides}
use Rattle.tables.specs.reading.Cells.{symbol_of, own_of, off_of}
use Rattle.tables.specs.Facts.{Goal, binding_at}
use Rattle.term_check.specs.notes.Notes.{words_in, total_in}
use Rattle.term_check.specs.Worlds.{Case, World, Setting, total, symbols}
use Rattle.term_check.specs.heads.Heads.{Leads, IsLeading, IsCandidate}
use Rattle.term_check.proofs.Goals.{goal_below, off_is, off_number}

pub row_fits : (g k : ℕ) → g % row_limit * (k % words_limit) ≤ 128961
row_fits g k = mul-le-mul {n₁ = g % row_limit} {m₁ = k % words_limit} {n₂ = 2047} {m₂ = 63} (omega arith) (omega arith)

module _ (x : Case) (number n goal c : ℕ) where
  missing : ((w : World) → Setting x w → (σ : Ty) → Goal w.rs goal σ → n < 256 → Leads w number n σ c → ⊥) → IsCandidate x number n goal c None
  missing h = record { leads = λ ty e. absurd (none-some ty e); owns = λ ty e. absurd (none-some ty e); misses = λ e. h }

  -- the place of the set of a goal's candidates
  place : (w : World) → Setting x w → (σ : Ty) → Goal w.rs goal σ → goal % row_limit * words_in x.test ≡ goal * words_in x.test
  place w s σ g = let h = goal_below s.types g in ap (λ a. a * words_in x.test) (let i : goal % row_limit ≡ goal = omega arith in i)

  pub not_in_set : (b : Bool) → Decides x.sets (goal % row_limit * words_in x.test) c b → b ≡ false → IsCandidate x number n goal c None
  not_in_set b d f = missing (λ w s σ g few l. d.no f (subst (λ a. In x.sets a c) (sym (place w s σ g)) (s.candidates.all_in c l.inside l.is_kept_law n goal σ few l.rest g)))

  -- a binding that is in the set of the goal, and of which it is known that it is one of the nonterminal
  pub candidate_is : (r : Option ℕ) → In x.sets (goal % row_limit * words_in x.test) c → ((w : World) → Setting x w → number < symbols w → (c < total w) × ((binding_at w.rs c).nonterminal ≡ number))
      → IsLeading x.t n goal c r → IsCandidate x number n goal c r
  candidate_is r is-in stands leading =
      record {
        leads = λ ty is w s known σ g.
            let (inside, symbol) = stands w s known in
            record {
              inside = inside;
              is_kept_law = s.candidates.kept_only c goal inside (goal_below s.types g) (subst (λ a. In x.sets a c) (place w s σ g) is-in);
              symbol = symbol;
              rest = off_is s.types n ty goal (binding_at w.rs c).type σ (owns ty is w s inside) g (leading.leads ty is).1;
            };
        owns = owns;
        misses = λ z w s σ g few l.
            let own = s.bindings.own c l.inside in
            leading.misses z (off_number s.types n (own_of x.t c) goal (binding_at w.rs c).type σ own g l.rest);
      }
    where
      owns : (ty : ℕ) → r ≡ Some ty → (w : World) → Setting x w → c < total w → Goal w.rs ty (binding_at w.rs c).type
      owns ty is w s inside = subst (λ j. Goal w.rs j (binding_at w.rs c).type) (sym (leading.leads ty is).0) (s.bindings.own c inside)

-- a binding is below all, and has the nonterminal
pub stands_by : (x : Case) (number c m f : ℕ) → m ≡ total_in x.test → c < m → f ≡ symbol_of x.t c → f ≡ number → (w : World) → Setting x w → number < symbols w → (c < total w) × ((binding_at w.rs c).nonterminal ≡ number)
stands_by x number c m f all h fs fn w s known = let a = s.all_bindings_law in let inside : c < total w = omega arith in (inside, sym (s.bindings.symbol c inside) ∙ sym fs ∙ fn)

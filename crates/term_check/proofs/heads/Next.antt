-- The first kept binding of a nonterminal, from one on, that leads to a goal: those that are passed do not.
use Prim.Native.Nat.{ℕ, suc, ◌+◌, ◌*◌, ◌%◌, ◌<◌, ◌≤◌}
use native.Mathlib.Omega.{arith}
use native.Mathlib.Decide.{dec_lt, ℕ_discrete}
use mathlib.Core.Path.{◌≡◌, refl, sym, ap, subst, ◌∙◌}
use mathlib.Core.List.{List}
use Rattle.std.specs.Prelude.{Option, None}
use Rattle.index.specs.layout.Layout.{row_limit}
use Rattle.marks.specs.Marks.{In, FindsNext}
use Rattle.tables.specs.reading.Cells.{group_of}
use Rattle.term_check.specs.notes.Notes.{words_in}
use Rattle.tables.specs.declared.reading.Node.{Node}
use Rattle.term_check.specs.heads.Heads.{Leads, IsLeading, IsCandidate, Misses}
use Rattle.term_check.specs.Worlds.{Case}
use Rattle.term_check.proofs.Goals.{goal_below}
use Rattle.term_check.proofs.heads.Candidates.{candidate_is}

-- the entry behind that of a nonterminal
pub next_group : (t : List ℕ) (f : ℕ) → group_of t (f % row_limit + 1) ≡ group_of t (suc f)
next_group t f = let e : (f % row_limit + 1) % row_limit ≡ suc f % row_limit = omega arith in rw (e) refl

-- what is found below the end is in the set of the goal, and one of the nonterminal
pub listed_is : (x : Case) (number n goal from high c : ℕ) (r : Option ℕ) → FindsNext x.sets (goal % row_limit * words_in x.test) from high c → c < high → group_of x.t number ≤ from → high ≡ group_of x.t (number % row_limit + 1)
    → IsLeading x.t n goal c r → IsCandidate x number n goal c r
listed_is x number n goal from high c r next h low eh leading =
    let (behind, is-in) = next.found h in
    candidate_is x number n goal c r is-in
    (λ w s known. s.bindings.between number c known (omega arith) (subst (λ g. c < g) (eh ∙ next_group x.t number) h)) leading

-- what is found stands behind where the search began
pub next_behind : (words : List ℕ) (row from high c : ℕ) → FindsNext words row from high c → from ≤ high → from ≤ c
next_behind words row from high c n h = go (dec_lt c high)
  where
    go : Dec (c < high) → from ≤ c
    go (yes l) = (n.found l).0
    go (no l) = omega arith

module _ (x : Case) (a : Node) (goal from : ℕ) where
  -- those from one on, and before another, do not lead to the goal
  pub record Before (next : ℕ) : Type 0 where
    pub misses : (c : ℕ) → from ≤ c → c < next → Misses x a.number a.count goal c

  pub before_none : Before from
  before_none = record { misses = λ c l h. absurd (omega arith) }

  module _ {next : ℕ} (b : Before next) where
    -- a binding of the nonterminal stands in its group
    pub before_all : (high : ℕ) → high ≡ group_of x.t (a.number % row_limit + 1) → high ≤ next → (c : ℕ) → from ≤ c → Misses x a.number a.count goal c
    before_all high eh l c h w s σ g few leads =
        let (low, below) = s.bindings.grouped c leads.inside in
        let k : c < high = subst (λ k. c < k) (sym (eh ∙ next_group x.t a.number)) (subst (λ f. c < group_of x.t (suc f)) leads.symbol below) in
        b.misses c h (omega arith) w s σ g few leads

    module _ (c high : ℕ) (finds : FindsNext x.sets (goal % row_limit * words_in x.test) next high c) where
      -- those before the next one in the set of the goal do not lead to it
      pub before_found : Before c
      before_found = record { misses = λ d l h. by d l h (dec_lt d next) }
        where
          by : (d : ℕ) → from ≤ d → d < c → Dec (d < next) → Misses x a.number a.count goal d
          by d l h (yes k) w s σ g few leads = b.misses d l k w s σ g few leads
          by d l h (no k) w s σ g few leads =
              let below = goal_below s.types g in
              let e : goal % row_limit * words_in x.test ≡ goal * words_in x.test = ap (λ k. k * words_in x.test) (let m : goal % row_limit ≡ goal = omega arith in m) in
              finds.passed d (omega arith) h (subst (λ k. In x.sets k d) (sym e) (s.candidates.all_in d leads.inside leads.is_kept_law a.count goal σ few leads.rest g))

      -- the next one does not lead to it either
      pub before_more : IsCandidate x a.number a.count goal c None → (next' : ℕ) → next' ≡ suc c → Before next'
      before_more is next' en = record { misses = λ d l h. by d l h (ℕ_discrete d c) }
        where
          by : (d : ℕ) → from ≤ d → d < next' → Dec (d ≡ c) → Misses x a.number a.count goal d
          by d l h (yes e) w s σ g few leads = is.misses refl w s σ g few (subst (Leads w a.number a.count σ) e leads)
          by d l h (no ne) w s σ g few leads = before_found.misses d l (omega arith) w s σ g few leads

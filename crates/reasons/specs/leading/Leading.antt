-- What our own crates promise each other; nothing here has to be believed.
-- The first type of a head that leads to a goal.
use Rattle.std.specs.Prelude.{ℕ, ◌<◌, ◌≡◌, Option, MatchOption}
use Rattle.std.proofs.Math.Option.{none, some}
use Rattle.scheme.specs.Lists.{first_of}
use Rattle.scheme.specs.Types.{Ty, same}
use Rattle.scheme.specs.Reasons.{leads_to}
use Rattle.tables.specs.Facts.{Goal, head_by}
use Rattle.tables.specs.declared.reading.Node.{Node}
use Rattle.term_check.specs.Worlds.{Case, World, Setting, symbols}
use Rattle.reasons.specs.Searching.{heads_of}

-- r is the first type of the head of a node that leads to a goal, as a goal; a nonterminal is one of the file's
abbrev pub LeadsFirst : Case → Node → ℕ → Option ℕ → Type 0
LeadsFirst x a goal r =
    (w : World) → Setting x w → (σ : Ty) → Goal w.rs goal σ → (a.tag ≡ 1 → a.number < symbols w) → a.count < 256
    → let first = first_of (leads_to same a.count σ) (heads_of w (head_by a.tag a.number)) in MatchOption r (first ≡ none) (λ ty. (τ : Ty) × Goal w.rs ty τ × (first ≡ some τ))

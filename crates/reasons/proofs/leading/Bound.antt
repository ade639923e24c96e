-- The first kept binding of a nonterminal whose type leads to a goal: those before it do not.
use Prim.Native.Nat.{ℕ, ◌<◌, ◌≤◌}
use native.Mathlib.Omega.{arith}
use mathlib.Core.Path.{◌≡◌, refl, ap, subst, ◌∙◌}
use Rattle.std.specs.Prelude.{Some, None}
use Rattle.scheme.specs.Lists.{first_of}
use Rattle.scheme.specs.Terms.{nt}
use Rattle.scheme.specs.Types.{same}
use Rattle.scheme.specs.Typing.{head_types}
use Rattle.scheme.specs.Reasons.{leads_to}
use Rattle.casefile.specs.Tables.{bindings_of}
use Rattle.casefile.proofs.Plans.{bindings_many}
use Rattle.tables.specs.reading.Cells.{group_of}
use Rattle.tables.specs.declared.reading.Node.{Node}
use Rattle.tables.specs.Facts.{head_by, no_binding, binding_at}
use Rattle.term_check.specs.declared.heads.Listed.{Listed}
use Rattle.term_check.specs.heads.Heads.{Misses, IsCandidate}
use Rattle.term_check.specs.Worlds.{Case, World, Setting, total}
use Rattle.term_check.proofs.check.Bound.{head_bound}
use Rattle.reasons.specs.Searching.{heads_of}
use Rattle.reasons.specs.leading.Leading.{LeadsFirst}
use Rattle.reasons.proofs.Firsts.{bound_first, bound_none}
use Rattle.reasons.proofs.Goals.{off_leads, leads_not}

module _ (x : Case) (a : Node) (goal from : ℕ) (start : from ≡ group_of x.t a.number) (et : a.tag ≡ 1) where
  head_is : (w : World) → heads_of w (head_by a.tag a.number) ≡ heads_of w (nt a.number)
  head_is w = ap (heads_of w) (head_bound a.tag a.number et)

  -- a binding of the nonterminal does not stand before its first
  behind : (w : World) → Setting x w → (c : ℕ) → c < total w → (binding_at w.rs c).nonterminal ≡ a.number → from ≤ c
  behind w s c inside symbol = let low = subst (λ f. group_of x.t f ≤ c) symbol (s.bindings.grouped c inside).0 in omega arith

  -- none of them leads to the goal
  pub first_none : ((c : ℕ) → from ≤ c → Misses x a.number a.count goal c) → LeadsFirst x a goal None
  unfolding head_types
  first_none misses w s σ g known few =
      ap (first_of (leads_to same a.count σ)) (head_is w)
      ∙ bound_none (leads_to same a.count σ) a.number no_binding w.kept (bindings_of w.rs)
      (λ c h k symbol. leads_not a.count σ (binding_at w.rs c).type (λ o.
      let many = bindings_many w.rs in
      let inside : c < total w = omega arith in
      misses c (behind w s c inside symbol) w s σ g few (record { inside = inside; is_kept_law = k; symbol = symbol; rest = o })))

  -- one leads to it, and none before does
  pub first_leads : (found : Listed) → ((c : ℕ) → from ≤ c → c < found.binding → Misses x a.number a.count goal c) → IsCandidate x a.number a.count goal found.binding (Some found.ty) → LeadsFirst x a goal (Some found.ty)
  unfolding head_types
  first_leads found misses is w s σ g known few =
      let there = is.leads found.ty refl w s (known et) σ g in
      let many = bindings_many w.rs in
      let τ = (binding_at w.rs found.binding).type in (
        τ,
        is.owns found.ty refl w s there.inside,
        ap (first_of (leads_to same a.count σ)) (head_is w)
            ∙ bound_first (leads_to same a.count σ) a.number no_binding w.kept (bindings_of w.rs) found.binding (let i = there.inside in omega arith) there.is_kept_law there.symbol (off_leads a.count σ τ there.rest)
            (λ d h kept symbol. leads_not a.count σ (binding_at w.rs d).type (λ o.
            let i = there.inside in
            let inside : d < total w = omega arith in
            misses d (behind w s d inside symbol) h w s σ g few (record { inside = inside; is_kept_law = kept; symbol = symbol; rest = o }))),
      )

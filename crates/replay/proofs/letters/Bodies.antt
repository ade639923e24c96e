-- The body of a rule where it stands in the file.
use Prim.Native.Nat.{ℕ, zero, suc, ◌+◌, ◌*◌, ◌/◌, ◌<◌, ◌≤◌}
use native.Mathlib.Omega.{arith}
use mathlib.Core.Path.{◌≡◌, sym, ap, ap₂, subst, ◌∙◌}
use mathlib.Core.List.{List, [], map}
use lib.ListN.{length, get_or, drop, length-map, get_or-eq_default, drop_of_length-le}
use Rattle.scheme.specs.Terms.{nt, Term, node, []ᵗ}
use Rattle.scheme.specs.Prefix.{flat}
use Rattle.scheme.specs.Reduction.{body}
use Rattle.scheme.proofs.Lists.{get_d_map_in}
use Rattle.casefile.specs.Fields.{field, byte, word}
use Rattle.casefile.specs.Records.{Record}
use Rattle.casefile.specs.Kinds.{Kind, payloads}
use Rattle.casefile.specs.Tables.{head_of, nodes_of, body_of, plan_of}
use Rattle.casefile.proofs.Cells.{node_at, nodes_length, nodes_drop}
use Rattle.casefile.proofs.TypeTable.{count_payloads}
use Rattle.index.specs.layout.Layout.{rules_at}
use Rattle.index.specs.Wholes.{Whole, Bodies}
use Rattle.closures.specs.closures.Nodes.{head_by, NodeAt, NodesAt}

-- a payload that a file has at a place
module _ (file p : List ℕ) (place : ℕ) (small : place < 65536) (there : (w at : ℕ) → at + w ≤ length p → field w file (place + at) ≡ field w p at) (whole : Whole p) where
  node_there : (i : ℕ) → i < length p / 4 → NodeAt file (place + i * 4) (node_at p i)
  unfolding head_of
  node_there i h =
      let few = whole.short in
      let tag : byte file (place + i * 4) ≡ byte p (i * 4) = there 1 (i * 4) (omega arith) in
      let e : place + i * 4 + 1 ≡ place + (i * 4 + 1) = omega arith in
      let number : word file (place + i * 4 + 1) ≡ word p (i * 4 + 1) = ap (word file) e ∙ there 2 (i * 4 + 1) (omega arith) in
      let f : place + i * 4 + 3 ≡ place + (i * 4 + 3) = omega arith in
      let known = whole.tags i h in
      record {
        near = omega arith;
        tag = omega arith;
        head_is = ap₂ head_by tag number;
        count_is = ap (byte file) f ∙ there 1 (i * 4 + 3) (omega arith);
      }

  nodes_there : (n i : ℕ) → i + n ≡ length p / 4 → (q : ℕ) → q ≡ place + i * 4 → NodesAt file q (drop i (nodes_of p))
  unfolding NodesAt
  nodes_there zero i e q eq =
      let l = nodes_length p in
      let past : length (nodes_of p) ≤ i = omega arith in
      subst (NodesAt file q) (sym (drop_of_length-le (nodes_of p) past)) tt
  nodes_there (suc n) i e q eq =
      subst (NodesAt file q) (sym (nodes_drop p i (omega arith)))
      (subst (λ r. NodeAt file r (node_at p i)) (sym eq) (node_there i (omega arith)), nodes_there n (suc i) (omega arith) (q + 4) (omega arith))

  pub term_there : NodesAt file place (flat (body_of p))
  term_there = subst (NodesAt file place) whole.one_term (nodes_there (length p / 4) 0 (omega arith) place (omega arith))

module _ {file index : List ℕ} {rules : ℕ} {rs : List Record} (b : Bodies file index rules rs) (f : ℕ) where
  rule_count : length (payloads Kind.rule rs) ≡ rules
  rule_count = sym (count_payloads Kind.rule rs) ∙ b.there.counted

  rule_body : f < rules → body (plan_of rs) f ≡ body_of (get_or (payloads Kind.rule rs) f [])
  unfolding body plan_of
  rule_body h = get_d_map_in body_of (payloads Kind.rule rs) f (node (nt f) []ᵗ) [] (let c = rule_count in omega arith)

  pub rule_none : rules ≤ f → body (plan_of rs) f ≡ node (nt f) []ᵗ
  unfolding body plan_of
  rule_none h = get_or-eq_default (map body_of (payloads Kind.rule rs)) (node (nt f) []ᵗ) (let c = rule_count in let m = length-map (payloads Kind.rule rs) body_of in omega arith)

  -- the body of a rule stands where the index says
  pub rule_there : f < rules → (place : ℕ) → place ≡ get_or index (rules_at + f) 0 → place < 65536 → NodesAt file place (flat (body (plan_of rs) f))
  rule_there h place e small =
      subst (λ (t : Term). NodesAt file place (flat t)) (sym (rule_body h))
      (term_there file (get_or (payloads Kind.rule rs) f []) place small
      (λ w at k. ap (λ q. field w file (q + at)) e ∙ b.there.field_there f h w at k) (b.whole f h))

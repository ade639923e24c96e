-- The nodes of the rules are counted rule by rule; a rule that passed has at most 256 nodes, so the first node of
-- each of 256 rules fits an entry.
use Prim.Native.Nat.{ℕ, ◌+◌, ◌-◌, ◌*◌, ◌/◌, ◌<◌, ◌≤◌, max}
use native.Mathlib.Omega.{arith}
use native.Mathlib.Decide.{ℕ_discrete}
use mathlib.Core.Path.{◌≡◌, refl, sym, ap, ◌∙◌}
use mathlib.Core.List.{List}
use lib.ListN.{length, get_or, set, length-set}
use lib.Seq.{get_or-set_same, get_or-set_other, take_all}
use Rattle.casefile.specs.Records.{Record}
use Rattle.casefile.specs.Kinds.{Kind, payloads}
use Rattle.casefile.specs.Promises.{Passed}
use Rattle.casefile.proofs.TypeTable.{count_payloads}
use Rattle.records.specs.fields.Promises.{HasLength}
use Rattle.index.specs.layout.Layout.{max_nonterminals, max_nodes, max_body, rules_at, rows_size}
use Rattle.index.specs.entries.Index.{Indexed}
use Rattle.rules.specs.reading.RuleBodies.{nodes_in, rule_of, first_node}
use Rattle.rules.proofs.reading.AllRules.{nodes_more}
use Rattle.rules.proofs.rules.Judging.{rule_fits}
use Rattle.rules.specs.first_nodes.FirstNodes.{CountsNodes, CountsAll}

rule_there : {file index : List ℕ} {rules : ℕ} {rs : List Record} → Indexed file index Kind.rule rules rs → (f : ℕ) → f < rules → f < length (payloads Kind.rule rs)
rule_there {rules = rules} {rs = rs} ix f h = let many = sym (count_payloads Kind.rule rs) ∙ ix.counted in omega arith

-- the nodes of one rule
module _ {file index : List ℕ} {f : ℕ} where
  nodes_not : ((rules : ℕ) (rs : List Record) → Passed rs → Indexed file index Kind.rule rules rs → rules ≤ max_nonterminals → f < rules → ⊥) → CountsNodes file index f 0
  nodes_not z = record { few = omega arith; nodes = λ rules rs ok ix l h. absurd (z rules rs ok ix l h) }

  module _ (place : ℕ) (ep : place ≡ get_or index (rules_at + f) 0) where
    module _ (len : ℕ) (el : HasLength file place len) where
      length_is : (rules : ℕ) (rs : List Record) → Indexed file index Kind.rule rules rs → f < rules → len ≡ length (rule_of rs f)
      length_is rules rs ix h =
          let y : 4 ≤ get_or index (rules_at + f) 0 = ix.behind_header f h in
          let z : (place - 4) + 4 ≡ get_or index (rules_at + f) 0 = omega arith in
          el.headed (omega arith) ∙ ix.length_there f (place - 4) h z

      pub nodes_long : max_body < len → CountsNodes file index f 0
      nodes_long x = nodes_not (λ rules rs ok ix l h. let y = rule_fits ok f (rule_there ix f h) in let z = length_is rules rs ix h in omega arith)

-- while the nodes are counted: the rules below f have `at` nodes
pub record Counted (file index : List ℕ) (rules at f : ℕ) : Type 0 where
  pub few : rules ≤ max_nonterminals
  pub small : at ≤ max_nodes * f
  pub counted : (rs : List Record) → Passed rs → Indexed file index Kind.rule rules rs → at ≡ first_node rs f

pub counted_none : {file index : List ℕ} (rules : ℕ) → rules ≤ max_nonterminals → Counted file index rules 0 0
unfolding nodes_in
counted_none rules h = record { few = h; small = omega arith; counted = λ rs ok ix. refl }

module _ {file index : List ℕ} {rules at f : ℕ} (so : Counted file index rules at f) where
  pub counted_more : (n : ℕ) → f < rules → CountsNodes file index f n → Counted file index rules (at + n) (f + 1)
  counted_more n h c =
      record {
        few = so.few;
        small = omega (arith, so.small, c.few);
        counted = λ rs ok ix. let a = so.counted rs ok ix in let b = c.nodes rules rs ok ix so.few h in let more = nodes_more (payloads Kind.rule rs) f (rule_there ix f h) in omega arith;
      }

  pub counted_all : rules ≤ f → CountsAll file index rules at
  counted_all h =
      record {
        all = λ rs ok ix few.
            let many = sym (count_payloads Kind.rule rs) ∙ ix.counted in
            so.counted rs ok ix ∙ ap nodes_in (take_all f (payloads Kind.rule rs) (omega arith));
      }

-- while the table is filled: the entries below f are in it, and no rule below f has more nodes than `most`
pub record Sofar (file index : List ℕ) (rules : ℕ) (before after : List ℕ) (at most f : ℕ) : Type 0 where
  pub counting : Counted file index rules at f
  pub room : rows_size ≤ length after
  pub long : length after ≡ length before
  pub most_small : most ≤ max_nodes
  pub entries : (rs : List Record) → Passed rs → Indexed file index Kind.rule rules rs → (g : ℕ) → g < f → get_or after g 0 ≡ first_node rs g
  pub none_more : (rs : List Record) → Passed rs → Indexed file index Kind.rule rules rs → (g : ℕ) → g < f → length (rule_of rs g) / 4 ≤ most

pub numbers_none : (file index : List ℕ) (rules : ℕ) (before : List ℕ) → rules ≤ max_nonterminals → rows_size ≤ length before → Sofar file index rules before before 0 0 0
numbers_none file index rules before h k =
    record {
      counting = counted_none rules h;
      room = k;
      long = refl;
      most_small = omega arith;
      entries = λ rs ok ix g l. absurd (omega arith);
      none_more = λ rs ok ix g l. absurd (omega arith);
    }

module _ {file index : List ℕ} {rules : ℕ} {before after : List ℕ} {at most f : ℕ} (so : Sofar file index rules before after at most f) where
  pub numbers_more : (n : ℕ) → f < rules → CountsNodes file index f n → (next : ℕ) → next ≡ max most n → Sofar file index rules before (set after f at) (at + n) next (f + 1)
  numbers_more n h c next e =
      let same = length-set after f at in
      record {
        counting = counted_more so.counting n h c;
        room = omega (arith, so.room);
        long = same ∙ so.long;
        most_small = omega (arith, so.most_small, c.few);
        entries = λ rs ok ix g l. go rs (so.counting.counted rs ok ix) (so.entries rs ok ix) g l (ℕ_discrete g f);
        none_more = λ rs ok ix g l. by rs ok ix g l (ℕ_discrete g f);
      }
    where
      go : (rs : List Record) → at ≡ first_node rs f → ((g : ℕ) → g < f → get_or after g 0 ≡ first_node rs g) → (g : ℕ) → g < f + 1 → Dec (g ≡ f) → get_or (set after f at) g 0 ≡ first_node rs g
      go rs e old g l (yes z) = ap (λ x. get_or (set after f at) x 0) z ∙ get_or-set_same after f at 0 (omega (arith, so.room, so.counting.few)) ∙ e ∙ ap (first_node rs) (sym z)
      go rs e old g l (no z) = get_or-set_other after f g at 0 z ∙ old g (let w = z in omega arith)

      by : (rs : List Record) → Passed rs → Indexed file index Kind.rule rules rs → (g : ℕ) → g < f + 1 → Dec (g ≡ f) → length (rule_of rs g) / 4 ≤ next
      by rs ok ix g l (yes z) = let b = c.nodes rules rs ok ix so.counting.few h in let d = ap (λ x. length (rule_of rs x) / 4) z in omega arith
      by rs ok ix g l (no z) = let b = so.none_more rs ok ix g (let w = z in omega arith) in omega arith

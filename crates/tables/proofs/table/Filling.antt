-- The whole table: its parts are filled one after another, and each leaves the others as they are.
use Prim.Native.Nat.{ℕ, zero, suc, ◌+◌, ◌-◌, ◌*◌, ◌/◌, ◌%◌, ◌<◌, ◌≤◌}
use native.Mathlib.Omega.{arith}
use native.Mathlib.Decide.{dec_le}
use mathlib.Core.Path.{◌≡◌, sym, ap, subst, ◌∙◌}
use mathlib.Core.List.{List, ◌++◌}
use lib.ListN.{length, get_or, take, drop, length-drop}
use lib.Seq.{take-append_seam, drop-append_seam, get_or-take, get_or-drop, length-take-le}
use borrow.Rule.Slice.PartMut.{same_len_mid}
use Rattle.casefile.specs.Records.{Record}
use Rattle.casefile.specs.Kinds.{Kind, number, payloads, count}
use Rattle.casefile.specs.Tables.{nodes_of}
use Rattle.casefile.proofs.TypeTable.{count_payloads}
use Rattle.records.specs.cursor.Reading.{part_of}
use Rattle.records.proofs.cursor.Reading.{part_out}
use Rattle.index.specs.layout.Layout.{max_states, max_types, max_bindings, max_constructors, max_nonterminals, rows_size, groups_at, pairs_at, pair_cells, rows_at, row_cells, row_limit, node_cells}
use Rattle.index.specs.entries.Index.{Indexed}
use Rattle.index.proofs.Wholes.{names_known}
use Rattle.intake.proofs.plan.Contents.{payload_bytes}
use Rattle.rules.specs.reading.RuleBodies.{nodes_in, rule_of, first_node}
use Rattle.rules.proofs.reading.AllRules.{nodes_more, nodes_some}
use Rattle.goals.specs.groups.Groups.{Grouped, Fills}
use Rattle.tables.specs.Facts.{StateRow, TypesAre, BindingsAre, AutomatonIs, NodesAre}
use Rattle.tables.specs.Filling.{Given, nodes_from, table_for, TableIs, FillsTable}
use Rattle.tables.specs.reading.Cells.{row_at, cell_of, pair_at, group_of}
use Rattle.tables.specs.types.Rows.{TypeSays, FillsStates, FillsTypes, FillsBindings}
use Rattle.tables.specs.automaton.Packing.{FillsAutomaton}
use Rattle.tables.specs.nodes.Bodies.{BodySays, start_of, first_of, Bodied, FillsNodes}
use Rattle.tables.specs.table.Parts.{groups_in, FillsGroups}
use Rattle.tables.proofs.types.Records.{Listed}
use Rattle.tables.proofs.types.Meaning.{Done, done, types_are}
use Rattle.tables.proofs.types.Kept.{types_kept, bindings_kept}
use Rattle.tables.proofs.types.Bindings.{symbol_below, bindings_are}
use Rattle.tables.proofs.automaton.Meaning.{automaton_is, automaton_kept}
use Rattle.tables.proofs.nodes.Meaning.{nodes_are}

pub groups_put : {file index : List ℕ} {n last : ℕ} (t groups : List ℕ) → pairs_at ≤ length t → Fills file index n last (take rows_size (drop groups_at t)) groups → FillsGroups file index n last t (take groups_at t ++ (groups ++ drop rows_size (drop groups_at t)))
groups_put {file} {index} {n} {last} t groups room fills =
    record {
      long = same_len_mid groups_at rows_size t groups fills.long;
      grouped = λ l few rs ok ix small known. subst (Grouped rs n) (sym same) (fills.grouped (omega (arith, size)) rs ok ix small known);
    }
  where
    size : length (take rows_size (drop groups_at t)) ≡ rows_size
    size = length-take-le rows_size (drop groups_at t) (let d = length-drop groups_at t in omega arith)

    front : length (take groups_at t) ≡ groups_at
    front = length-take-le groups_at t (omega arith)

    rest : List ℕ
    rest = drop rows_size (drop groups_at t)

    same : groups_in (take groups_at t ++ (groups ++ rest)) ≡ groups
    same =
        ap (take rows_size) (ap (λ k. drop k (take groups_at t ++ (groups ++ rest))) (sym front) ∙ drop-append_seam (take groups_at t) (groups ++ rest))
        ∙ ap (λ k. take k (groups ++ rest)) (sym (fills.long ∙ size)) ∙ take-append_seam groups rest

-- the nodes of the rules one after another
nodes_up_to : (ps : List (List ℕ)) (f d : ℕ) → f + d ≤ length ps → nodes_in (take f ps) ≤ nodes_in (take (f + d) ps)
nodes_up_to ps f zero h = let z : f + 0 ≡ f = omega arith in subst (λ k. nodes_in (take f ps) ≤ nodes_in (take k ps)) (sym z) (omega arith)
nodes_up_to ps f (suc d) h =
    let z : f + d + 1 ≡ f + suc d = omega arith in
    let m = nodes_more ps (f + d) (omega arith) in
    let ih = nodes_up_to ps f d (omega arith) in
    subst (λ k. nodes_in (take f ps) ≤ nodes_in (take k ps)) z (omega arith)

-- the nodes of a payload lie in the file
part_there : (file : List ℕ) (start : ℕ) (p : List ℕ) → part_of file start (length p) ≡ p → length p / 4 * 4 ≤ length file - start
part_there file start p e = go (dec_le (start + length p) (length file))
  where
    go : Dec (start + length p ≤ length file) → length p / 4 * 4 ≤ length file - start
    go (yes l) = omega arith
    go (no l) = let none : length p ≡ 0 = ap length (sym e ∙ part_out file start (length p) (omega arith)) in omega arith

-- where the nodes begin
pub nodes_from_law : {file index counts ends firsts : List ℕ} (rs : List Record) → Given file index counts ends firsts rs → (types : ℕ) → types ≡ get_or counts 7 0 → rows_at + (types + max_states) * row_cells ≡ nodes_from rs
unfolding number
nodes_from_law rs given types et = ap (λ k. rows_at + (k + max_states) * row_cells) (et ∙ sym (given.known.entries Kind.type).counted)

module _ {file index counts ends firsts : List ℕ} (rs : List Record) (given : Given file index counts ends firsts rs) (types bindings nonterminals constructors rules at : ℕ)
    (et : types ≡ get_or counts 7 0) (eb : bindings ≡ get_or counts 8 0) (en : nonterminals ≡ get_or counts 3 0) (ec : constructors ≡ get_or counts 2 0) (er : rules ≡ get_or counts 4 0) (ea : at ≡ nodes_from rs)
    (t a b c d e f : List ℕ) (gs : FillsGroups file index bindings nonterminals t a) (as' : FillsAutomaton file index constructors a b) (ss : FillsStates b c) (ts : FillsTypes file index types c d) (bs : FillsBindings file index bindings d e)
    (ns : FillsNodes file index ends firsts rules at e f) (room : table_for rs ≤ length t) where
  -- the entries of each kind
  type_there : Indexed file index Kind.type types rs
  unfolding number
  type_there = subst (λ k. Indexed file index Kind.type k rs) (sym et) (given.known.entries Kind.type)

  binding_there : Indexed file index Kind.binding bindings rs
  unfolding number
  binding_there = subst (λ k. Indexed file index Kind.binding k rs) (sym eb) (given.known.entries Kind.binding)

  constructor_there : Indexed file index Kind.constructor constructors rs
  unfolding number
  constructor_there = subst (λ k. Indexed file index Kind.constructor k rs) (sym ec) (given.known.entries Kind.constructor)

  rule_there : Indexed file index Kind.rule rules rs
  unfolding number
  rule_there = subst (λ k. Indexed file index Kind.rule k rs) (sym er) (given.known.entries Kind.rule)

  nonterminal_there : Indexed file index Kind.nonterminal nonterminals rs
  unfolding number
  nonterminal_there = subst (λ k. Indexed file index Kind.nonterminal k rs) (sym en) (given.known.entries Kind.nonterminal)

  few_types_law : types ≤ max_types
  unfolding number
  few_types_law = subst (λ k. k ≤ max_types) (sym et) (given.known.fits Kind.type)

  few_bindings : bindings ≤ max_bindings
  unfolding number
  few_bindings = subst (λ k. k ≤ max_bindings) (sym eb) (given.known.fits Kind.binding)

  few_constructors : constructors ≤ max_constructors
  unfolding number
  few_constructors = subst (λ k. k ≤ max_constructors) (sym ec) (given.known.fits Kind.constructor)

  few_rules : rules ≤ max_nonterminals
  unfolding number
  few_rules = subst (λ k. k ≤ max_nonterminals) (sym er) (given.known.fits Kind.rule)

  few_nonterminals : nonterminals ≤ max_nonterminals
  unfolding number
  few_nonterminals = subst (λ k. k ≤ max_nonterminals) (sym en) (given.known.fits Kind.nonterminal)

  one_states : length (payloads Kind.states rs) ≤ 1
  unfolding number
  one_states =
      let x = given.known.fits Kind.states in
      let y = (given.known.entries Kind.states).counted in
      let z = count_payloads Kind.states rs in
      omega arith

  -- the table has room for the rows
  rows_there : (rows_at + (types + max_states) * row_cells ≤ at) × (pairs_at + bindings * pair_cells ≤ rows_at) × (at ≤ length t)
  rows_there =
      let x = type_there.counted in
      let few = few_bindings in
      (omega arith, omega arith, omega arith)

  lengths : (length a ≡ length t) × (length b ≡ length t) × (length c ≡ length t) × (length d ≡ length t) × (length e ≡ length t)
  lengths =
      let la = gs.long in
      let lb = as'.within.long in
      let lc = ss.within.long in
      let ld = ts.within.long in
      let le = bs.within.long in
      (omega arith, omega arith, omega arith, omega arith, omega arith)

  -- the types
  listed : Listed file index types rs
  listed = record { passed = given.passed; bytes = payload_bytes type_there given.bytes; there = type_there; few = few_types_law }

  state_rows : (q : ℕ) → q < max_states → StateRow d q
  state_rows q h =
      let (r, s, u) = rows_there in
      let (la, lb, lc, ld, le) = lengths in
      let old = ss.rows (omega arith) q h in
      let same : (k : ℕ) → k < row_cells → cell_of d q k ≡ cell_of c q k = λ k l. ts.within.outside (row_at q + k) (λ x y. omega arith) in
      record { no_result = same 0 (omega arith) ∙ old.no_result; own_end = same 1 (omega arith) ∙ old.own_end; no_members = same 4 (omega arith) ∙ old.no_members }

  says : (m : ℕ) → m < types → TypeSays file index m d
  says = let (r, s, u) = rows_there in let (la, lb, lc, ld, le) = lengths in ts.says few_types_law (omega arith)

  types_there : TypesAre rs d
  types_there = types_are listed d state_rows says

  types_done : (i : ℕ) → i < count Kind.type rs → Done rs d i
  types_done i h = let x = type_there.counted in done listed d state_rows says i (omega arith)

  -- a cell of a row below the nodes
  row_kept : (g k : ℕ) → (g < types + max_states) → k < row_cells → cell_of f g k ≡ cell_of e g k
  row_kept g k h l = let (r, s, u) = rows_there in let few = few_types_law in ns.below (row_at g + k) (omega arith)

  binding_kept : (g k : ℕ) → k < pair_cells → get_or f (pair_at g + k) 0 ≡ get_or e (pair_at g + k) 0
  binding_kept g k l = let (r, s, u) = rows_there in ns.below (pair_at g + k) (omega arith)

  types_last : TypesAre rs f
  types_last = let x = type_there.counted in types_kept rs d f (λ g k h l. row_kept g k (omega arith) l ∙ bs.within.outside (row_at g + k) (λ y z. omega arith)) types_there

  -- the groups
  groups_kept : (g : ℕ) → g < rows_size → group_of e g ≡ get_or (groups_in a) g 0
  groups_kept g h =
      let i = groups_at + g % row_limit in
      let z : groups_at + g % row_limit ≡ groups_at + g = omega arith in
      bs.within.outside i (λ x y. omega arith) ∙ ts.within.outside i (λ x y. omega arith) ∙ ss.within.outside i (λ x y. omega arith) ∙ as'.within.outside i (λ x y. omega arith)
      ∙ ap (λ k. get_or a k 0) z ∙ sym (get_or-take rows_size (drop groups_at a) g 0 h ∙ get_or-drop groups_at a g 0)

  bindings_there : BindingsAre rs e
  bindings_there =
      let (r, s, u) = rows_there in
      let (la, lb, lc, ld, le) = lengths in
      let k = nonterminal_there.counted in
      let few = few_nonterminals in
      bindings_are given.passed binding_there few_bindings bs (omega arith) types_done (groups_in a) (gs.grouped (omega arith) (omega arith) rs given.passed binding_there few_bindings (omega arith)) (omega arith) groups_kept

  bindings_last : BindingsAre rs f
  bindings_last =
      let (r, s, u) = rows_there in
      let n = binding_there.counted in
      let k = nonterminal_there.counted in
      let few = few_nonterminals in
      bindings_kept rs e f (omega arith) binding_kept (λ g h. ns.below (groups_at + g % row_limit) (omega arith)) (λ g h. let l = symbol_below given.passed binding_there few_bindings g (omega arith) in omega arith) bindings_there

  -- the automaton
  automaton_last : AutomatonIs rs f
  automaton_last =
      let (r, s, u) = rows_there in
      let (la, lb, lc, ld, le) = lengths in
      automaton_kept rs b f (λ i h. ns.below i (omega arith) ∙ bs.within.outside i (λ x y. omega arith) ∙ ts.within.outside i (λ x y. omega arith) ∙ ss.within.outside i (λ x y. omega arith))
      (automaton_is given.passed one_states constructor_there few_constructors given.rows_are b (as'.says (omega arith)))

  -- the nodes
  nodes_of_law : ℕ → ℕ
  nodes_of_law g = length (rule_of rs g) / 4

  rules_many : length (payloads Kind.rule rs) ≡ rules
  rules_many = sym (count_payloads Kind.rule rs) ∙ rule_there.counted

  first_is : (g : ℕ) → g < rules → first_of firsts g ≡ first_node rs g
  first_is g h = let n = rule_there.counted in given.firsts_are g (omega arith)

  node_next : (g : ℕ) → g < rules → first_node rs (g + 1) ≡ first_node rs g + length (rule_of rs g) / 4
  node_next g h = let m = rules_many in nodes_more (payloads Kind.rule rs) g (omega arith)

  bodied : Bodied file index firsts rules at nodes_of_law (length e)
  unfolding nodes_of_law
  bodied =
      record {
        headed = λ g h. rule_there.behind_header g h;
        counted = λ g h.
            let l : 4 ≤ start_of index g = rule_there.behind_header g h in
            let z : (start_of index g - 4) + 4 ≡ start_of index g = omega arith in
            ap (λ k. k / 4) (sym (rule_there.length_there g (start_of index g - 4) h z));
        few = λ g h. let n = rule_there.counted in (given.bodies g (omega arith)).short;
        there = λ g h. part_there file (start_of index g) (rule_of rs g) (rule_there.payload_there g h);
        apart = λ g g' l h.
            let m = rules_many in
            let z : g + 1 + (g' - (g + 1)) ≡ g' = omega arith in
            let up = subst (λ k. first_node rs (g + 1) ≤ first_node rs k) z (nodes_up_to (payloads Kind.rule rs) (g + 1) (g' - (g + 1)) (omega arith)) in
            let x = first_is g (omega arith) in
            let y = first_is g' h in
            let w = node_next g (omega arith) in
            omega arith;
        room = λ g h.
            let (la, lb, lc, ld, le) = lengths in
            let x = first_is g h in
            let w = node_next g h in
            let s = nodes_some (payloads Kind.rule rs) (g + 1) in
            omega arith;
      }

  bodies_last : (g : ℕ) → g < count Kind.rule rs → NodesAre (count Kind.nonterminal rs) f (nodes_from rs + first_node rs g * node_cells) (nodes_of (rule_of rs g))
  unfolding nodes_of_law
  bodies_last g h =
      let n = rule_there.counted in
      let l : g < rules = omega arith in
      let x = type_there.counted in
      let y = binding_there.counted in
      let ft = few_types_law in
      let fb = few_bindings in
      let fn = given.few_nodes in
      let w = nodes_some (payloads Kind.rule rs) g in
      let whole = given.bodies g h in
      nodes_are file (start_of index g) (rule_of rs g) (λ k i m. rule_there.field_there g l k i m) (payload_bytes rule_there given.bytes g) whole.short whole.tags (count Kind.nonterminal rs) (names_known given.passed g h) ends (first_node rs g) (λ i k. given.ends_are g i h k)
      (nodes_from rs + first_node rs g * node_cells) (omega arith) f
      (subst (λ k. BodySays file (start_of index g) (length (rule_of rs g) / 4) ends (first_node rs g) (k + first_node rs g * node_cells) f) ea
      (subst (λ k. BodySays file (start_of index g) (length (rule_of rs g) / 4) ends k (at + k * node_cells) f) (first_is g l) (ns.says few_rules (omega arith) nodes_of_law bodied g l)))

  pub table_is : TableIs rs f
  table_is = record { types = types_last; bindings = bindings_last; automaton = automaton_last; bodies = bodies_last }

-- THE TABLE
pub table_filled : {file index counts ends firsts : List ℕ} (types bindings nonterminals constructors rules : ℕ) → types ≡ get_or counts 7 0 → bindings ≡ get_or counts 8 0 → nonterminals ≡ get_or counts 3 0 → constructors ≡ get_or counts 2 0 → rules ≡ get_or counts 4 0
    → (t a b c d e f : List ℕ) → FillsGroups file index bindings nonterminals t a → FillsAutomaton file index constructors a b → FillsStates b c → FillsTypes file index types c d → FillsBindings file index bindings d e
    → FillsNodes file index ends firsts rules (rows_at + (types + max_states) * row_cells) e f → FillsTable file index counts ends firsts t f (rows_at + (types + max_states) * row_cells)
table_filled types bindings nonterminals constructors rules et eb en ec er t a b c d e f gs as' ss ts bs ns =
    record {
      long = ns.long ∙ bs.within.long ∙ ts.within.long ∙ ss.within.long ∙ as'.within.long ∙ gs.long;
      place = λ rs given. nodes_from_law rs given types et;
      filled = λ rs given room. table_is rs given types bindings nonterminals constructors rules (rows_at + (types + max_states) * row_cells) et eb en ec er (nodes_from_law rs given types et) t a b c d e f gs as' ss ts bs ns room;
    }

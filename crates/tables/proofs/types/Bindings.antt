-- What the cells of bindings mean: the nonterminal and the type of each; its nonterminal has it in its group.
use Prim.Native.Nat.{ℕ, suc, ◌+◌, ◌*◌, ◌<◌, ◌≤◌}
use native.Mathlib.Omega.{arith}
use native.Mathlib.Decide.{dec_lt}
use native.Mathlib.Nat.{add-zero}
use mathlib.Core.Path.{◌≡◌, sym, ap, subst, ◌∙◌}
use mathlib.Core.List.{List, []}
use borrow.Author.Tests.{eqb-true, leb-false, not-false}
use lib.Dec.{eqb, leb}
use lib.ListN.{length, get_or}
use Rattle.scheme.specs.Types.{Ty, state}
use Rattle.scheme.specs.Typing.{Binding}
use Rattle.scheme.proofs.Lists.{or_false, get_d_map_in}
use Rattle.casefile.specs.Fields.{word}
use Rattle.casefile.specs.Records.{Record}
use Rattle.casefile.specs.Kinds.{Kind, payloads, count}
use Rattle.casefile.specs.Refusals.{wrong_length, out_of_range}
use Rattle.casefile.specs.Tables.{types_of, bindings_of}
use Rattle.casefile.specs.Promises.{Passed}
use Rattle.casefile.proofs.Passed.{count_fewer, entry}
use Rattle.casefile.proofs.TypeTable.{count_payloads}
use Rattle.index.specs.layout.Layout.{max_bindings, rows_size, pairs_at, pair_cells, bindings_at}
use Rattle.index.specs.entries.Index.{Indexed}
use Rattle.goals.specs.groups.Groups.{nonterminal_of, Grouped}
use Rattle.tables.specs.Facts.{Goal, no_binding, binding_at, BindingsAre}
use Rattle.tables.specs.reading.Cells.{own_of, group_of}
use Rattle.tables.specs.types.Rows.{goal_of_spec, FillsBindings}
use Rattle.tables.proofs.types.Records.{type_at}
use Rattle.tables.proofs.types.Meaning.{Done}

-- a binding's payload, and the numbers of its nonterminal and its type
pub binding_there : {rs : List Record} → Passed rs → (j : ℕ) → j < length (payloads Kind.binding rs)
    → (length (get_or (payloads Kind.binding rs) j []) ≡ 4) × (word (get_or (payloads Kind.binding rs) j []) 0 < count Kind.nonterminal rs) × (word (get_or (payloads Kind.binding rs) j []) 2 < count Kind.type rs)
unfolding wrong_length out_of_range
binding_there {rs} ok j h =
    let e = entry ok Kind.binding j h in
    let p = e.payload in
    let four = eqb-true (length p) 4 (not-false (eqb (length p) 4) e.passed_tests.fits) in
    let named = or_false (leb (count Kind.nonterminal e.earlier) (word p 0)) (leb (count Kind.type e.earlier) (word p 2)) e.passed_tests.ranges in
    let symbol = leb-false (count Kind.nonterminal e.earlier) (word p 0) named.0 in
    let below = leb-false (count Kind.type e.earlier) (word p 2) named.1 in
    let symbols = subst (λ l. count Kind.nonterminal e.earlier ≤ count Kind.nonterminal l) e.together (count_fewer Kind.nonterminal e.earlier e.later) in
    let more = subst (λ l. count Kind.type e.earlier ≤ count Kind.type l) e.together (count_fewer Kind.type e.earlier e.later) in
    subst (λ l. (length l ≡ 4) × (word l 0 < count Kind.nonterminal rs) × (word l 2 < count Kind.type rs)) (sym e.here) (four, omega arith, omega arith)

made : List Ty → List ℕ → Binding
made types p = record { nonterminal = word p 0; type = get_or types (word p 2) (state 0) }

pub binding_made : (rs : List Record) (i : ℕ) → i < length (payloads Kind.binding rs)
    → ((binding_at rs i).nonterminal ≡ nonterminal_of rs i) × ((binding_at rs i).type ≡ type_at rs (word (get_or (payloads Kind.binding rs) i []) 2))
unfolding bindings_of made
binding_made rs i h =
    let e : get_or (bindings_of rs) i no_binding ≡ made (types_of rs) (get_or (payloads Kind.binding rs) i []) = get_d_map_in (made (types_of rs)) (payloads Kind.binding rs) i no_binding [] h in
    (ap (λ b. b.nonterminal) e, ap (λ b. b.type) e)

module _ {file index : List ℕ} {n : ℕ} {rs : List Record} (ok : Passed rs) (ix : Indexed file index Kind.binding n rs) (few : n ≤ max_bindings) where
  many : length (payloads Kind.binding rs) ≡ n
  many = sym (count_payloads Kind.binding rs) ∙ ix.counted

  -- the nonterminal of a binding is one of the file's
  pub symbol_below : (b : ℕ) → b < n → (binding_at rs b).nonterminal < count Kind.nonterminal rs
  symbol_below b h =
      let c = many in
      let e = (binding_made rs b (omega arith)).0 in
      let l = (binding_there ok b (omega arith)).1 in
      omega arith

  -- THE CELLS OF BINDINGS
  pub bindings_are : {t after : List ℕ} → FillsBindings file index n t after → pairs_at + n * pair_cells ≤ length t → ((i : ℕ) → i < count Kind.type rs → Done rs t i)
      → (groups : List ℕ) → Grouped rs n groups → count Kind.nonterminal rs < rows_size → ((f : ℕ) → f < rows_size → group_of after f ≡ get_or groups f 0) → BindingsAre rs after
  bindings_are {t} {after} fills room done groups gs known same =
      record {
        symbol = λ b h. fills.symbol few room b (inside b h) ∙ number b h ∙ sym (binding_made rs b (listed b h)).0;
        own = λ b h.
            let (four, symbol, below) = binding_there ok b (listed b h) in
            let f : word file (get_or index (bindings_at + b) 0 + 2) ≡ word (get_or (payloads Kind.binding rs) b []) 2 = ix.field_there b (inside b h) 2 2 (omega arith) in
            let e : own_of after b ≡ goal_of_spec t (word (get_or (payloads Kind.binding rs) b []) 2) = fills.own few room b (inside b h) ∙ ap (goal_of_spec t) f in
            subst (Goal rs (own_of after b)) (sym (binding_made rs b (listed b h)).1) (subst (λ x. Goal rs x (type_at rs (word (get_or (payloads Kind.binding rs) b []) 2))) (sym e) (done (word (get_or (payloads Kind.binding rs) b []) 2) below).goal);
        grouped = λ b h.
            let f = (binding_at rs b).nonterminal in
            let l = symbol_below b (inside b h) in
            let e = (binding_made rs b (listed b h)).0 in
            let x = same f (omega arith) in
            let y = same (suc f) (omega arith) in
            (first b h f l e x (dec_lt b (get_or groups f 0)), second b h f l e y (dec_lt b (get_or groups (suc f) 0)));
        between = λ f b l low below.
            let x = same f (omega arith) in
            let y = same (suc f) (omega arith) in
            let n = gs.within (suc f) (omega arith) in
            let c = ix.counted in
            let h : b < count Kind.binding rs = omega arith in
            let e = (binding_made rs b (listed b h)).0 in
            let u = gs.below (suc f) b (omega arith) (omega arith) in
            let v = gs.from_on f b (omega arith) (omega arith) (omega arith) in
            (h, omega arith);
      }
    where
      inside : (b : ℕ) → b < count Kind.binding rs → b < n
      inside b h = let c = ix.counted in omega arith

      listed : (b : ℕ) → b < count Kind.binding rs → b < length (payloads Kind.binding rs)
      listed b h = let c = many in let d = ix.counted in omega arith

      number : (b : ℕ) → b < count Kind.binding rs → word file (get_or index (bindings_at + b) 0) ≡ nonterminal_of rs b
      number b h = let four = (binding_there ok b (listed b h)).0 in ap (word file) (sym (add-zero (get_or index (bindings_at + b) 0))) ∙ ix.field_there b (inside b h) 2 0 (omega arith)

      first : (b : ℕ) → b < count Kind.binding rs → (f : ℕ) → f < count Kind.nonterminal rs → f ≡ nonterminal_of rs b → group_of after f ≡ get_or groups f 0 → Dec (b < get_or groups f 0) → group_of after f ≤ b
      first b h f l e x (yes k) = let z = gs.below f b (omega arith) k in absurd (omega arith)
      first b h f l e x (no k) = omega arith

      second : (b : ℕ) → b < count Kind.binding rs → (f : ℕ) → f < count Kind.nonterminal rs → f ≡ nonterminal_of rs b → group_of after (suc f) ≡ get_or groups (suc f) 0 → Dec (b < get_or groups (suc f) 0) → b < group_of after (suc f)
      second b h f l e y (yes k) = omega arith
      second b h f l e y (no k) = let z = gs.from_on (suc f) b (omega arith) (omega arith) (inside b h) in absurd (omega arith)

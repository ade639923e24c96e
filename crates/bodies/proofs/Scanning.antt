-- The pass over a body's nodes, the last one first.
use Prim.Native.Nat.{ℕ, ◌/◌, ◌≤◌}
use mathlib.Core.Path.{◌≡◌, refl, sym, subst, ◌∙◌}
use mathlib.Core.List.{List, []}
use native.Mathlib.Omega.{arith}
use Rattle.std.specs.Prelude.{None}
use lib.Dec.{T}
use lib.ListN.{length, drop, drop_of_length-le}
use Rattle.scheme.specs.Sorts.{Sort}
use Rattle.scheme.specs.Terms.{Head}
use Rattle.scheme.specs.Prefix.{Node, terms, complete}
use Rattle.casefile.specs.Tables.{nodes_of}
use Rattle.bodies.specs.declared.Heads.{Heads}
use Rattle.bodies.specs.Bodies.{Held, HeldFrom, HeldAs, heads_by, BodyTables}
use Rattle.casefile.proofs.Cells.{nodes_length}
use Rattle.index.specs.layout.Layout.{max_nodes, rows_size}

-- behind the last node there is nothing to hold
held_none : (hs : Head → Sort) (sorts : List Sort) (ns : List Node) (ends codes depths : List ℕ) (i : ℕ) → i ≡ length ns → HeldFrom hs sorts ns ends codes depths i
unfolding Held terms complete
held_none hs sorts ns ends codes depths i e =
    let l : length ns ≤ i = omega arith in
    let d : drop i ns ≡ [] = drop_of_length-le ns l in
    record {
      whole = subst (λ l. T (complete l)) (sym d) tt;
      held = subst (λ l. Held hs sorts ends codes depths (length ns) (terms l) i) (sym d) e;
      ends_are = λ j l m. absurd (omega arith);
    }

-- behind the last node the tables hold no node
pub held_past : {ends codes depths : List ℕ} {n i : ℕ} → n ≤ i → HeldAs ends codes depths n i None
held_past h = record { behind = λ e. h; inside = λ a e. absurd (cc); end_is = λ a e. absurd (cc); sort_is = λ a e. absurd (cc); deep_is = λ a e. absurd (cc) }

-- the tables hold the nodes from i on
pub record Scanning (p : List ℕ) (heads : Heads) (own : ℕ) (before ends codes depths : List ℕ) (i : ℕ) : Type 0 where
  pub within : i ≤ length p / 4
  pub few : length p / 4 ≤ max_nodes
  pub long : length ends ≡ length before
  pub long_codes : length codes ≡ rows_size
  pub long_depths : length depths ≡ rows_size
  pub rest : drop (length p / 4) ends ≡ drop (length p / 4) before
  pub holds : (sorts : List Sort) (counts numbers : List ℕ) → BodyTables sorts counts numbers p heads own → length p / 4 ≤ length before
      → HeldFrom (heads_by sorts counts numbers own) sorts (nodes_of p) ends codes depths i

module _ {p : List ℕ} {heads : Heads} {own : ℕ} where
  pub scan_start : {ends codes depths : List ℕ} (i : ℕ) → i ≡ length p / 4 → length p / 4 ≤ max_nodes → length codes ≡ rows_size → length depths ≡ rows_size
      → Scanning p heads own ends ends codes depths i
  scan_start {ends} {codes} {depths} i e f lc ld = record {
    within = omega arith;
    few = f;
    long = refl;
    long_codes = lc;
    long_depths = ld;
    rest = refl;
    holds = λ sorts counts numbers w h. held_none (heads_by sorts counts numbers own) sorts (nodes_of p) ends codes depths i (e ∙ sym (nodes_length p));
  }

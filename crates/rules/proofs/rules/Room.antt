-- How many nodes the bytes of a file have room for: four bytes a node.
use Prim.Native.Nat.{ℕ, ◌+◌, ◌*◌, ◌/◌, ◌≤◌}
use native.Mathlib.Omega.{arith}
use mathlib.Core.Path.{◌≡◌, refl, sym, subst}
use mathlib.Core.Bool.{Bool, true, false}
use mathlib.Core.List.{List, [], ◌∷◌, ◌++◌}
use lib.Dec.{eqb}
use lib.ListN.{length}
use Rattle.scheme.specs.Lists.{select}
use Rattle.casefile.specs.Records.{Record, records_of, listed}
use Rattle.casefile.specs.Promises.{Passed, nothing, also}
use Rattle.casefile.specs.Kinds.{Kind, rule, number, of_kind, payloads, count}
use Rattle.casefile.proofs.Passed.{payloads_more, payloads_other}
use Rattle.casefile.proofs.Remarks.{bytes_of, records_within}
use Rattle.index.specs.entries.Known.{room, Known}
use Rattle.rules.specs.reading.RuleBodies.{nodes_in}

bytes_more : (rs : List Record) (r : Record) → bytes_of (rs ++ (r ∷ [])) ≡ bytes_of rs + (4 + length r.payload)
unfolding bytes_of
bytes_more [] r = omega arith
bytes_more (x ∷ rs) r = let i = bytes_more rs r in omega arith

nodes_more : (ps : List (List ℕ)) (p : List ℕ) → nodes_in (ps ++ (p ∷ [])) ≡ nodes_in ps + length p / 4
unfolding nodes_in
nodes_more [] p = omega arith
nodes_more (q ∷ ps) p = let i = nodes_more ps p in omega arith

-- the nodes of records take no more bytes than these
none_least : 4 * nodes_in (payloads rule []) ≤ bytes_of []
unfolding payloads of_kind select nodes_in bytes_of
none_least = omega arith

record_least : {rs : List Record} → Passed rs → 4 * nodes_in (payloads rule rs) ≤ bytes_of rs
unfolding number
record_least nothing = none_least
record_least (also {rs} r ok e) = go (eqb r.kind (number rule)) refl (record_least ok)
  where
    go : (a : Bool) → eqb r.kind (number rule) ≡ a → 4 * nodes_in (payloads rule rs) ≤ bytes_of rs → 4 * nodes_in (payloads rule (rs ++ (r ∷ []))) ≤ bytes_of (rs ++ (r ∷ []))
    go true p ih = rw (payloads_more rule rs r p, bytes_more rs r, nodes_more (payloads rule rs) r.payload) (omega arith)
    go false p ih = rw (payloads_other rule rs r p, bytes_more rs r) (omega arith)

-- how many records there are of a kind, where the index holds them
pub count_few : {file index lens counts : List ℕ} {rs : List Record} → Known file index lens counts rs → (k : Kind) → count k rs ≤ room k
count_few known k = subst (λ n. n ≤ room k) (sym (known.entries k).counted) (known.fits k)

-- the records of a file that all passed
module _ (s : List ℕ) (ok : Passed (listed (records_of s))) where
  pub file_room : 4 * nodes_in (payloads rule (listed (records_of s))) ≤ length s
  file_room = let a = records_within s in let b = record_least ok in omega arith

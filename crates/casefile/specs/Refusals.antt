-- Refusals 1 and 3 to 12: a number and a place. Section "What is turned away" of the scope.
use Rattle.std.specs.Prelude.{ℕ, suc, ◌+◌, ◌%◌, Bool, true, false, ◌&&◌, ◌||◌, not, List, [], ◌∷◌, ◌++◌, map, ltb, leb, eqb, length, get_or, take, drop}
use Rattle.std.proofs.Math.Option.{Option, none, some}
use Rattle.scheme.specs.Lists.{choose◌then◌else◌, found, any, last_or}
use Rattle.scheme.specs.Sorts.{Sort, o, same_sort, arguments}
use Rattle.scheme.specs.Terms.{countᵗ}
use Rattle.scheme.specs.Prefix.{terms, complete, depth}
use Rattle.scheme.specs.Sorting.{head_sort, sort_of}
use Rattle.scheme.specs.Types.{fits}
use Rattle.scheme.specs.Typing.{Binding}
use Rattle.casefile.specs.Fields.{byte, word}
use Rattle.casefile.specs.Records.{Record}
use Rattle.casefile.specs.Kinds.{Kind, sort, constructor, nonterminal, rule, states, transition, type, binding, path, kind_of, of_kind, payloads, count}
use Rattle.casefile.specs.Tables.{sorts_of, arities_of, signatures_of, Cell, cells_of, nodes_of, body_of, state_count_spec, words, bindings_of}

-- "A refusal is a number and a place"
pub record Refusal : Type 0 where
  pub number : ℕ
  pub place : ℕ

infix 5 refuse◌at◌when◌
-- a refusal and the test that gives it
pub data Test : Type 0 where
  refuse◌at◌when◌ : ℕ → ℕ → Bool → Test

-- the refusal of the first test that is met
unfoldable pub first : List Test → Option Refusal
first [] = none
first ((refuse n at p when b) ∷ ts) = let others = first ts in choose b then some (record { number = n; place = p }) else others

-- 1: "over 60,000 bytes"
unfoldable pub too_long : List ℕ → Bool
too_long s = ltb 60000 (length s)

-- 4: "payload length wrong for the kind (rules: a multiple of 4, at least 4; types: 1, or even from 2 to 34; paths: any)"
unfoldable pub wrong_length : Kind → ℕ → Bool
wrong_length sort n = not (eqb n 4)
wrong_length constructor n = not (eqb n 1)
wrong_length nonterminal n = not (eqb n 2)
wrong_length rule n = ltb n 4 || not (eqb (n % 4) 0)
wrong_length states n = not (eqb n 1)
wrong_length transition n = not (eqb n 6)
wrong_length type n = not (eqb n 1 || (leb 2 n && leb n 34 && eqb (n % 2) 0))
wrong_length binding n = not (eqb n 4)
wrong_length path n = false

-- 5, "over a limit in the kind table's last column": the record comes after n of its kind, which are all that are allowed
unfoldable pub too_many : Kind → ℕ → Bool
too_many sort n = leb 64 n
too_many constructor n = leb 32 n
too_many nonterminal n = leb 256 n
too_many rule n = false
too_many states n = leb 1 n
too_many transition n = leb 512 n
too_many type n = leb 1024 n
too_many binding n = leb 1024 n
too_many path n = leb 1 n

-- 6, a node: a tag over 2, "a number with no entry, a parameter its nonterminal lacks", an argument count over 8
unfoldable pub wrong_cell_spec : ℕ → ℕ → ℕ → Cell → Bool
wrong_cell_spec constructors nonterminals parameters c =
    ltb 2 c.tag || leb (get_or (constructors ∷ nonterminals ∷ []) c.tag parameters) c.number || ltb 8 c.count

-- 6, targets: one of the first n is no state, or "targets past the constructor's arguments" are not 0
unfoldable pub wrong_targets_spec : ℕ → ℕ → List ℕ → Bool
wrong_targets_spec state_count_spec n targets = any (λ (t : ℕ). leb state_count_spec t) (take n targets) || any (λ (t : ℕ). ltb 0 t) (drop n targets)

-- two payloads are equal
unfoldable pub same_bytes_spec : List ℕ → List ℕ → Bool
same_bytes_spec [] [] = true
same_bytes_spec [] (b ∷ bs) = false
same_bytes_spec (a ∷ as') [] = false
same_bytes_spec (a ∷ as') (b ∷ bs) = eqb a b && same_bytes_spec as' bs

-- each number is more than a and than those before it
unfoldable pub ascends_from : ℕ → List ℕ → Bool
ascends_from a [] = true
ascends_from a (b ∷ bs) = ltb a b && ascends_from b bs

-- "strictly ascending"
unfoldable pub ascends : List ℕ → Bool
ascends [] = true
ascends (a ∷ bs) = ascends_from a bs

-- the pair (a, b) stands before the pair (c, d): by the first, then the second
unfoldable pub before : ℕ → ℕ → ℕ → ℕ → Bool
before a b c d = ltb a c || (eqb a c && ltb b d)

-- the last payload, if there is one, stands before p
unfoldable pub follows : (List ℕ → List ℕ → Bool) → List (List ℕ) → List ℕ → Bool
follows earlier [] p = true
follows earlier (e ∷ es) p = earlier (last_or e es) p

-- The tests of a record with payload p, after the records rs.
module _ (rs : List Record) (p : List ℕ) where
  -- 5, the record itself: "8 arguments a sort", "256 nodes a rule", "4,096 letters";
  -- "a sort has one argument more than the sort its to names, where there is one"
  unfoldable pub too_large : Kind → Bool
  too_large sort = let sorts = sorts_of rs in ltb (word p 2) (length sorts) && ltb 8 (suc (length (arguments (get_or sorts (word p 2) o))))
  too_large constructor = false
  too_large nonterminal = false
  too_large rule = ltb 256 (length (cells_of p))
  too_large states = false
  too_large transition = false
  too_large type = false
  too_large binding = false
  too_large path = ltb 4096 (length p)

  -- 6: "a field out of range, a number with no entry, a parameter its nonterminal lacks, a rule with no nonterminal"
  unfoldable pub out_of_range : Kind → Bool
  out_of_range sort = let n = length (sorts_of rs) in leb n (word p 0) || leb n (word p 2)
  out_of_range constructor = ltb 4 (byte p 0)
  out_of_range nonterminal = leb (length (sorts_of rs)) (word p 0)
  out_of_range rule =
      let f = count rule rs in
      let sigs = signatures_of rs in
      leb (length sigs) f || any (wrong_cell_spec (length (arities_of rs)) (length sigs) (length (arguments (get_or sigs f o)))) (cells_of p)
  out_of_range states = eqb (byte p 0) 0 || ltb 16 (byte p 0)
  out_of_range transition =
      let qs = state_count_spec rs in
      let ns = arities_of rs in
      leb qs (byte p 0) || leb (length ns) (byte p 1) || wrong_targets_spec qs (get_or ns (byte p 1) 0) (drop 2 p)
  out_of_range type =
      let n = count type rs in
      choose eqb (length p) 1 then leb (state_count_spec rs) (byte p 0) else any (λ (t : ℕ). leb n t) (words p)
  out_of_range binding = leb (count nonterminal rs) (word p 0) || leb (count type rs) (word p 2)
  out_of_range path = false

  -- an earlier record of the kind has the same payload: "No two sorts and no two types are equal records"
  unfoldable pub repeats : Kind → Bool
  repeats k = any (same_bytes_spec p) (payloads k rs)

  -- 7: "a repeat, or not ascending where it must"
  unfoldable pub misplaced : Kind → Bool
  misplaced sort = repeats sort
  misplaced constructor = false
  misplaced nonterminal = false
  misplaced rule = false
  misplaced states = false
  misplaced transition = not (follows (λ (e f : List ℕ). before (byte e 0) (byte e 1) (byte f 0) (byte f 1)) (payloads transition rs) p)
  misplaced type = (ltb 1 (length p) && not (ascends (words (drop 2 p)))) || repeats type
  misplaced binding = not (follows (λ (e f : List ℕ). before (word e 0) (word e 2) (word f 0) (word f 2)) (payloads binding rs) p)
  misplaced path = false

-- 4 to 7 in number order, for a record of kind k after the records rs
unfoldable pub refuse_as : List Record → Record → Kind → Option Refusal
refuse_as rs r k =
    let p = r.payload in
    first (
    (refuse 4 at r.place when wrong_length k (length p)) ∷
    (refuse 5 at r.place when too_many k (count k rs) || too_large rs p k) ∷
    (refuse 6 at r.place when out_of_range rs p k) ∷
    (refuse 7 at r.place when misplaced rs p k) ∷ [])

-- 3: "kind not 1 to 9"
unfoldable pub refuse_kind : List Record → Record → Option Kind → Option Refusal
refuse_kind rs r none = some (record { number = 3; place = r.place })
refuse_kind rs r (some k) = refuse_as rs r k

-- the kind of the last record, 0 before the first
unfoldable pub last_kind : List Record → ℕ
last_kind rs = last_or 0 (map (λ (r : Record). r.kind) rs)

-- 3: "or lower than the one before"; then 4 to 7
unfoldable pub refuse_record : List Record → Record → Option Refusal
refuse_record rs r =
    let others = refuse_kind rs r (kind_of r.kind) in
    choose ltb r.kind (last_kind rs) then some (record { number = 3; place = r.place }) else others

-- 9, a body: "not exactly one term of sort 0 within 64 levels"; s is its nonterminal's sort
unfoldable pub wrong_body : List ℕ → List Sort → Sort → List ℕ → Bool
wrong_body arities signatures s p =
    not (complete (nodes_of p) && eqb (countᵗ (terms (nodes_of p))) 1
    && found (sort_of (head_sort arities signatures (arguments s)) (body_of p)) (same_sort o) && leb (depth (body_of p)) 64)

-- a test for each rule, with its nonterminal's sort
unfoldable pub wrong_bodies : List ℕ → List Sort → List Sort → List Record → List Test
wrong_bodies arities signatures [] rs = []
wrong_bodies arities signatures (s ∷ ss) [] = []
wrong_bodies arities signatures (s ∷ ss) (r ∷ rs) = (refuse 9 at r.place when wrong_body arities signatures s r.payload) ∷ wrong_bodies arities signatures ss rs

-- 9: "start not of sort 0"
unfoldable pub wrong_start : List Record → List Test
wrong_start [] = []
wrong_start (r ∷ rs) = (refuse 9 at r.place when not (eqb (word r.payload 0) 0)) ∷ []

-- 11: "a binding's type does not fit its nonterminal's sort"
unfoldable pub misfits : List Sort → List Binding → List Record → List Test
misfits signatures [] rs = []
misfits signatures (b ∷ bs) [] = []
misfits signatures (b ∷ bs) (r ∷ rs) = (refuse 11 at r.place when not (fits b.type (get_or signatures b.nonterminal o))) ∷ misfits signatures bs rs

-- 8 to 12 "over the whole file, each by its first offender, the start before the bodies", where `flags` flag bytes are lent
unfoldable pub refuse_whole : List Record → ℕ → Option Refusal
refuse_whole rs flags =
    let sigs = signatures_of rs in
    first (
    (refuse 8 at 0 when eqb (count states rs) 0 || eqb (count nonterminal rs) 0 || not (eqb (count rule rs) (count nonterminal rs))) ∷
    wrong_start (of_kind nonterminal rs) ++
    wrong_bodies (arities_of rs) sigs sigs (of_kind rule rs) ++
    (refuse 10 at 0 when ltb 0 (count type rs + count binding rs) && ltb 0 (count path rs)) ∷
    misfits sigs (bindings_of rs) (of_kind binding rs) ++
    (refuse 12 at 0 when ltb flags (count binding rs)) ∷ [])

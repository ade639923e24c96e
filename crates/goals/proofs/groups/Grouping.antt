-- The groups of bindings: the search for the first of a group, and the table.
use Prim.Native.Nat.{ℕ, zero, suc, ◌+◌, ◌-◌, ◌<◌, ◌≤◌}
use native.Mathlib.Nat.{add-zero}
use native.Mathlib.Omega.{arith}
use mathlib.Core.Path.{◌≡◌, refl, sym, ap, subst, ◌∙◌}
use mathlib.Core.Bool.{Bool, true, false, ◌&&◌, ◌||◌}
use mathlib.Core.List.{List, []}
use borrow.Author.Tests.{eqb-true, ltb-true, not-false}
use lib.Dec.{eqb, ltb}
use lib.ListN.{length, get_or}
use lib.Seq.{get_or-take, length-take-le}
use Rattle.casefile.specs.Fields.{word}
use Rattle.casefile.specs.Records.{Record}
use Rattle.casefile.specs.Kinds.{Kind, payloads}
use Rattle.casefile.specs.Refusals.{wrong_length, before, follows, misplaced}
use Rattle.casefile.proofs.Passed.{entry}
use Rattle.casefile.specs.Promises.{Passed}
use Rattle.casefile.proofs.TypeTable.{count_payloads}
use Rattle.index.specs.layout.Layout.{bindings_at}
use Rattle.index.specs.entries.Index.{Indexed}
use Rattle.index.proofs.entries.Earlier.{in_order, follows_last}
use Rattle.goals.specs.groups.Groups.{nonterminal_in, nonterminal_of, Fills, Sofar}

-- while a group is sought: the numbers before i were passed
pub record Seeking (g : ℕ → ℕ) (n from f i : ℕ) : Type 0 where
  pub few : n ≤ 1024
  pub behind : from ≤ i
  pub within : from ≤ n → i ≤ n
  pub passed : (j : ℕ) → from ≤ j → j < i → g j < f

before_le : (a b c d : ℕ) → before a b c d ≡ true → a ≤ c
unfolding before
before_le a b c d = go (ltb a c) (eqb a c) refl refl
  where
    go : (x y : Bool) → ltb a c ≡ x → eqb a c ≡ y → (x || (y && ltb b d)) ≡ true → a ≤ c
    go true y p q h = let l = ltb-true a c p in omega arith
    go false true p q h = let l = eqb-true a c q in omega arith
    go false false p q h = absurd (no h)
      where
        no : false ≡ true → ⊥
        no z = let one : ◌≡◌ {A = ℕ} 0 1 = cc in omega arith

-- the nonterminals of bindings never fall
pub next_nonterminal : {rs : List Record} → Passed rs → (m : ℕ) → suc m < length (payloads Kind.binding rs) → nonterminal_of rs m ≤ nonterminal_of rs (suc m)
unfolding misplaced
next_nonterminal {rs} ok m h =
    let ps = payloads Kind.binding rs in
    let e = entry ok Kind.binding (suc m) h in
    let p = e.payload in
    let after = not-false (follows (in_order 2) (payloads Kind.binding e.earlier) p) e.passed_tests.placed in
    let many : length (payloads Kind.binding e.earlier) ≡ suc m = ap length e.before ∙ length-take-le (suc m) ps (omega arith) in
    let last : get_or (payloads Kind.binding e.earlier) m [] ≡ get_or ps m [] = ap (λ l. get_or l m []) e.before ∙ get_or-take (suc m) ps m [] (omega arith) in
    let there = sym (follows_last (in_order 2) p (payloads Kind.binding e.earlier) m many) ∙ after in
    let order = before_le (word (get_or (payloads Kind.binding e.earlier) m []) 0) (word (get_or (payloads Kind.binding e.earlier) m []) 2) (word p 0) (word p 2) there in
    subst (λ l. nonterminal_of rs m ≤ word l 0) (sym e.here) (subst (λ l. word l 0 ≤ word p 0) last order)

pub nonterminals_ascend : {rs : List Record} → Passed rs → (i k : ℕ) → i + k < length (payloads Kind.binding rs) → nonterminal_of rs i ≤ nonterminal_of rs (i + k)
nonterminals_ascend {rs} ok i zero h = let z = add-zero i in subst (λ x. nonterminal_of rs i ≤ nonterminal_of rs x) (sym z) (omega arith)
nonterminals_ascend {rs} ok i (suc k) h =
    let shift : suc (i + k) ≡ i + suc k = omega arith in
    let a = nonterminals_ascend ok i k (omega arith) in
    let b = next_nonterminal ok (i + k) (omega arith) in
    subst (λ x. nonterminal_of rs i ≤ nonterminal_of rs x) shift (omega arith)

-- the numbers that the file has for its bindings, from the entries of the index
module _ {file index : List ℕ} {n : ℕ} {rs : List Record} (ok : Passed rs) (ix : Indexed file index Kind.binding n rs) where
  many : length (payloads Kind.binding rs) ≡ n
  many = sym (count_payloads Kind.binding rs) ∙ ix.counted

  four : (i : ℕ) → i < n → length (get_or (payloads Kind.binding rs) i []) ≡ 4
  unfolding wrong_length
  four i k = let e = entry ok Kind.binding i (omega (arith, many)) in ap length e.here ∙ eqb-true (length e.payload) 4 (not-false (eqb (length e.payload) 4) e.passed_tests.fits)

  same : (i : ℕ) → i < n → nonterminal_in file index i ≡ nonterminal_of rs i
  same i k = let l = four i k in ap (word file) (sym (add-zero (get_or index (bindings_at + i) 0))) ∙ ix.field_there i k 2 0 (omega arith)

module _ (file index : List ℕ) (n last : ℕ) (before : List ℕ) where
  -- there are too many bindings, or no room
  pub group_not : (n ≤ 1024 → last < length before → ⊥) → Fills file index n last before before
  group_not never = record { long = refl; grouped = λ room rs ok ix few known. absurd (never few room) }

  pub group_all : (b f : ℕ) (groups : List ℕ) → Sofar (nonterminal_in file index) n b f before groups → last < f → Fills file index n last before groups
  group_all b f groups so h =
      record {
        long = so.long;
        grouped = λ room rs ok ix few known. record {
          within = λ e k. so.entries e (omega arith);
          below = λ e i k l. let m = so.entries e (omega arith) in let z = same ok ix i (omega arith) in let w = so.lower e i (omega arith) l in omega arith;
          from_on = λ e i k l m.
              let first = get_or groups e 0 in
              let apart : first + (i - first) ≡ i = omega arith in
              let reached = so.reached e (omega arith) (omega arith) in
              let z = same ok ix first (omega arith) in
              let up = nonterminals_ascend ok first (i - first) (omega (arith, many ok ix)) in
              let at_i = subst (λ x. nonterminal_of rs first ≤ nonterminal_of rs x) apart up in
              omega arith;
        };
      }

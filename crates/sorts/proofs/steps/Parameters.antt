-- The sorts of parameters, along the numbers of a nonterminal's sort.
use Prim.Native.Nat.{ℕ, zero, suc, ◌+◌, ◌-◌, ◌<◌, ◌≤◌}
use mathlib.Core.Path.{◌≡◌, sym, ap, subst, ◌∙◌}
use mathlib.Core.List.{List, ◌∷◌}
use native.Mathlib.Omega.{arith}
use native.Mathlib.Decide.{dec_lt, ℕ_discrete}
use lib.ListN.{length, get_or, set, length-set}
use lib.Seq.{get_or-set_same, get_or-set_other}
use Rattle.scheme.specs.Sorts.{Sort, o, arguments}
use Rattle.sorts.specs.declared.codes.Sorts.{Sorts}
use Rattle.sorts.specs.codes.Sorted.{SortArrays, ParameterSort, ParameterSorts}

-- a sort that has arguments is listed with the first one's number and that of the rest
arguments_step : {sorts : List Sort} {arrows : Sorts} → SortArrays sorts arrows → (s l : ℕ) → s < length sorts → l < length (arguments (get_or sorts s o))
    → (0 < s) × (arguments (get_or sorts s o) ≡ get_or sorts (get_or arrows.froms.now s 0) o ∷ arguments (get_or sorts (get_or arrows.tos.now s 0) o))
unfolding arguments
arguments_step w zero l h k = absurd (let e = w.start in let q = rw e at k in omega arith)
arguments_step w (suc s) l h k = (omega arith, ap arguments (w.made (suc s) (omega arith) h))

-- argument `left` of sort s is parameter j of sort own
abbrev pub Along : Sorts → ℕ → ℕ → ℕ → ℕ → Type 0
Along arrows own j s left =
    (sorts : List Sort) → SortArrays sorts arrows → own < length sorts → j < length (arguments (get_or sorts own o))
    → (s < length sorts) × (left < length (arguments (get_or sorts s o))) × (get_or (arguments (get_or sorts s o)) left o ≡ get_or (arguments (get_or sorts own o)) j o)

-- one argument on
next_argument : {sorts : List Sort} {arrows : Sorts} → SortArrays sorts arrows → (s left : ℕ) (x : Sort) → 0 < left → s < length sorts → left < length (arguments (get_or sorts s o)) → get_or (arguments (get_or sorts s o)) left o ≡ x
    → (get_or arrows.tos.now s 0 < length sorts) × (left - 1 < length (arguments (get_or sorts (get_or arrows.tos.now s 0) o))) × (get_or (arguments (get_or sorts (get_or arrows.tos.now s 0) o)) (left - 1) o ≡ x)
next_argument w s zero x p h k e = absurd (omega arith)
next_argument {sorts} {arrows} w s (suc l) x p h k e =
    let (q, f) = arguments_step w s (suc l) h k in
    let b = w.to_below s q h in
    let k' = rw f at k in
    let e' = rw f at e in
    let z : suc l - 1 ≡ l = omega arith in
    (omega arith, omega arith, ap (λ i. get_or (arguments (get_or sorts (get_or arrows.tos.now s 0) o)) i o) z ∙ e')

along_next : (arrows : Sorts) (own j s left r : ℕ) → Along arrows own j s left → 0 < left → r ≡ get_or arrows.tos.now s 0 → Along arrows own j r (left - 1)
along_next arrows own j s left r a p er sorts w h k =
    let (x, y, z) = a sorts w h k in
    rw er (next_argument w s left (get_or (arguments (get_or sorts own o)) j o) p x y z)

-- the same by how many arguments are behind
pub along_more : (arrows : Sorts) (own j s k r : ℕ) → Along arrows own j s (j - k) → k < j → r ≡ get_or arrows.tos.now s 0 → Along arrows own j r (j - (k + 1))
along_more arrows own j s k r a h e =
    let z : j - k - 1 ≡ j - (k + 1) = omega arith in
    subst (Along arrows own j r) z (along_next arrows own j s (j - k) r a (omega arith) e)

pub along_end : (arrows : Sorts) (own j s left r : ℕ) → Along arrows own j s left → left ≡ 0 → r ≡ get_or arrows.froms.now s 0 → ParameterSort arrows own j r
along_end arrows own j s left r a z er sorts w h k =
    let (x, y, e) = a sorts w h k in
    let (p, f) = arguments_step w s left x y in
    let b = w.from_below s p x in
    let e₀ : get_or (arguments (get_or sorts s o)) 0 o ≡ get_or (arguments (get_or sorts own o)) j o = rw z at e in
    let e₁ = rw f at e₀ in
    rw er (omega arith, e₁)

-- while the sorts of parameters are listed: those before j are in the list, and argument m - j of sort s is parameter m
pub record Listing (arrows : Sorts) (own s j : ℕ) (sorts : List ℕ) : Type 0 where
  pub eight : length sorts ≡ 8
  pub done : (e : ℕ) → e < j → ParameterSort arrows own e (get_or sorts e 0)
  pub ahead : (m : ℕ) → j ≤ m → Along arrows own m s (m - j)

module _ (arrows : Sorts) (own : ℕ) where
  module _ (s j : ℕ) (sorts : List ℕ) (l : Listing arrows own s j sorts) where
    pub list_more : (v t : ℕ) → j < 8 → v ≡ get_or arrows.froms.now s 0 → t ≡ get_or arrows.tos.now s 0 → Listing arrows own t (j + 1) (set sorts j v)
    list_more v t h ev et =
        record {
          eight = length-set sorts j v ∙ l.eight;
          done = λ e k. go e k (ℕ_discrete e j);
          ahead = λ m k. along_more arrows own m s j t (l.ahead m (omega arith)) (omega arith) et;
        }
      where
        here : ParameterSort arrows own j v
        here = along_end arrows own j s (j - j) v (l.ahead j (omega arith)) (omega arith) ev

        go : (e : ℕ) → e < j + 1 → Dec (e ≡ j) → ParameterSort arrows own e (get_or (set sorts j v) e 0)
        go e k (yes z) = subst (λ x. ParameterSort arrows own x (get_or (set sorts j v) x 0)) (sym z) (subst (ParameterSort arrows own j) (sym (get_or-set_same sorts j v 0 (let y = l.eight in omega arith))) here)
        go e k (no z) = subst (ParameterSort arrows own e) (sym (get_or-set_other sorts j e v 0 z)) (l.done e (let w = z in omega arith))

    -- sort 0 has no arguments, so there are no other parameters
    pub list_stop : s ≡ 0 → ParameterSorts arrows own sorts
    list_stop z e k = go (dec_lt e j)
      where
        go : Dec (e < j) → ParameterSort arrows own e (get_or sorts e 0)
        go (yes h) = l.done e h
        go (no h) = λ ss w a b.
            let (x, y, q) = l.ahead e (omega arith) ss w a b in
            let (p, f) = arguments_step w s (e - j) x y in
            absurd (omega arith)

    pub list_all : 8 ≤ j → ParameterSorts arrows own sorts
    list_all h e k = l.done e (omega arith)

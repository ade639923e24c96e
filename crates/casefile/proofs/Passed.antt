-- What is known of the records of a file that is not refused: each passed its tests after those before it.
-- `entry` below gives, for number i of a kind, the records before it, under which it passed 4 to 7.
use Prim.Native.Nat.{ℕ, ◌+◌, ◌<◌, ◌≤◌}
use native.Mathlib.Omega.{arith}
use native.Mathlib.Decide.{dec_lt}
use mathlib.Core.Path.{◌≡◌, refl, sym, ap, subst, ◌∙◌}
use mathlib.Core.Logic.{◌⊎◌, inl, inr}
use mathlib.Core.Bool.{Bool, true, false, ◌||◌}
use mathlib.Core.List.{List, [], ◌∷◌, ◌++◌, map-append, append-nil, append_assoc}
use mathlib.Core.Option.{Option, none, some}
use borrow.Author.Tests.{eqb-true}
use lib.Dec.{eqb, ltb}
use lib.ListN.{length, get_or, take, length-append, get_or-append}
use lib.Seq.{take-append_seam, take-append-le, get_or-append_seam}
use Rattle.scheme.specs.Lists.{choose◌then◌else◌, keep_if, select}
use Rattle.scheme.proofs.Lists.{select_append, none_some}
use Rattle.casefile.specs.Records.{Record, Walk, end, cut, next, records_of, listed}
use Rattle.casefile.specs.Kinds.{Kind, sort, constructor, nonterminal, rule, states, transition, type, binding, path, number, kind_of, of_kind, payloads, count}
use Rattle.casefile.specs.Refusals.{Refusal, Test, refuse◌at◌when◌, first, too_long, wrong_length, too_many, too_large, out_of_range, misplaced, refuse_as, refuse_kind, last_kind, refuse_record, refuse_whole}
use Rattle.casefile.specs.Cases.{Case, refused_case, binding_case, path_case, unless_refused, accepted_case, case_from, case_of}
use Rattle.casefile.specs.Promises.{Passed, nothing, also}

-- the records of a kind in two parts, and that those before are among all
pub count_append : (k : Kind) (xs ys : List Record) → count k (xs ++ ys) ≡ count k xs + count k ys
unfolding count of_kind
count_append k xs ys = ap length (select_append (λ (r : Record). eqb r.kind (number k)) xs ys) ∙ length-append (of_kind k xs) (of_kind k ys)

pub count_fewer : (k : Kind) (xs ys : List Record) → count k xs ≤ count k (xs ++ ys)
count_fewer k xs ys = let e = count_append k xs ys in omega arith

-- no test in a list was met
pub first_none : (n p : ℕ) (b : Bool) (ts : List Test) → first ((refuse n at p when b) ∷ ts) ≡ none → (b ≡ false) × (first ts ≡ none)
unfolding first
first_none n p true ts e = absurd (none_some e refl)
first_none n p false ts e = (refl, e)

-- the tests that a record of a kind passed
pub record Tested (rs : List Record) (p : List ℕ) (k : Kind) : Type 0 where
  pub fits : wrong_length k (length p) ≡ false
  pub few : (too_many k (count k rs) || too_large rs p k) ≡ false
  pub ranges : out_of_range rs p k ≡ false
  pub placed : misplaced rs p k ≡ false

tested : (rs : List Record) (r : Record) (k : Kind) → refuse_as rs r k ≡ none → Tested rs r.payload k
unfolding refuse_as
tested rs r k e =
    let (a, f) = first_none 4 r.place (wrong_length k (length r.payload)) _ e in
    let (b, g) = first_none 5 r.place (too_many k (count k rs) || too_large rs r.payload k) _ f in
    let (c, h) = first_none 6 r.place (out_of_range rs r.payload k) _ g in
    let (d, i) = first_none 7 r.place (misplaced rs r.payload k) _ h in
    record { fits = a; few = b; ranges = c; placed = d }

pub kind_of_number : (k : Kind) → kind_of (number k) ≡ some k
unfolding kind_of number
kind_of_number sort = refl
kind_of_number constructor = refl
kind_of_number nonterminal = refl
kind_of_number rule = refl
kind_of_number states = refl
kind_of_number transition = refl
kind_of_number type = refl
kind_of_number binding = refl
kind_of_number path = refl

-- a record that passed is of a known kind, no lower than the one before
pub passed_kind : (rs : List Record) (r : Record) → refuse_record rs r ≡ none → (ltb r.kind (last_kind rs) ≡ false) × ((k : Kind) × (kind_of r.kind ≡ some k) × (refuse_as rs r k ≡ none))
unfolding refuse_record refuse_kind
passed_kind rs r e = go (ltb r.kind (last_kind rs)) (kind_of r.kind) refl e
  where
    go : (b : Bool) (x : Option Kind) → kind_of r.kind ≡ x → (choose b then some (record { number = 3; place = r.place }) else refuse_kind rs r x) ≡ none
        → (b ≡ false) × ((k : Kind) × (x ≡ some k) × (refuse_as rs r k ≡ none))
    go true x f e = absurd (none_some e refl)
    go false none f e = absurd (none_some e refl)
    go false (some k) f e = (refl, (k, refl, e))

-- a record of kind k that passed, passed the tests of that kind
pub passed_tested : (rs : List Record) (r : Record) (k : Kind) → refuse_record rs r ≡ none → eqb r.kind (number k) ≡ true → Tested rs r.payload k
passed_tested rs r k e f =
    let (up, (k', known, passed)) = passed_kind rs r e in
    let same : k' ≡ k = some_inj (sym known ∙ ap kind_of (eqb-true r.kind (number k) f) ∙ kind_of_number k) in
    subst (Tested rs r.payload) same (tested rs r k' passed)
  where
    some_inj : {a b : Kind} → some a ≡ some b → a ≡ b
    some_inj g = cc

-- one record more adds its payload to those of its kind, and to no others
pub payloads_more : (k : Kind) (rs : List Record) (r : Record) → eqb r.kind (number k) ≡ true → payloads k (rs ++ (r ∷ [])) ≡ payloads k rs ++ (r.payload ∷ [])
unfolding payloads of_kind select keep_if
payloads_more k rs r e = rw (select_append, e) (map-append (λ (r : Record). r.payload) (of_kind k rs) (r ∷ []))

pub payloads_other : (k : Kind) (rs : List Record) (r : Record) → eqb r.kind (number k) ≡ false → payloads k (rs ++ (r ∷ [])) ≡ payloads k rs
unfolding payloads of_kind select keep_if
payloads_other k rs r e = rw (select_append, e, append-nil) refl

-- number i of a kind: the records before it, which hold the first i of the kind, and the tests that it passed after them
pub record Entry (k : Kind) (rs : List Record) (i : ℕ) : Type 0 where
  pub earlier : List Record
  pub later : List Record
  pub together : earlier ++ later ≡ rs
  pub passed : Passed earlier
  pub payload : List ℕ
  pub here : get_or (payloads k rs) i [] ≡ payload
  pub before : payloads k earlier ≡ take i (payloads k rs)
  pub passed_tests : Tested earlier payload k

entry_more : (k : Kind) (rs : List Record) (r : Record) (i : ℕ) (more : List (List ℕ)) → payloads k (rs ++ (r ∷ [])) ≡ payloads k rs ++ more → i < length (payloads k rs) → Entry k rs i → Entry k (rs ++ (r ∷ [])) i
entry_more k rs r i more e h n =
    record {
      earlier = n.earlier;
      later = n.later ++ (r ∷ []);
      together = sym (append_assoc n.earlier n.later (r ∷ [])) ∙ ap (λ l. l ++ (r ∷ [])) n.together;
      passed = n.passed;
      payload = n.payload;
      here = ap (λ l. get_or l i []) e ∙ get_or-append (payloads k rs) more [] i h ∙ n.here;
      before = n.before ∙ sym (ap (take i) e ∙ take-append-le i (payloads k rs) more (omega arith));
      passed_tests = n.passed_tests;
    }

entry_last : (k : Kind) (rs : List Record) (r : Record) → Passed rs → refuse_record rs r ≡ none → eqb r.kind (number k) ≡ true → Entry k (rs ++ (r ∷ [])) (length (payloads k rs))
entry_last k rs r ok e f =
    record {
      earlier = rs;
      later = r ∷ [];
      together = refl;
      passed = ok;
      payload = r.payload;
      here = ap (λ l. get_or l (length (payloads k rs)) []) (payloads_more k rs r f) ∙ get_or-append_seam (payloads k rs) r.payload [] [];
      before = sym (ap (take (length (payloads k rs))) (payloads_more k rs r f) ∙ take-append_seam (payloads k rs) (r.payload ∷ []));
      passed_tests = passed_tested rs r k e f;
    }

-- every number of a kind is such an entry
pub entry : {rs : List Record} → Passed rs → (k : Kind) (i : ℕ) → i < length (payloads k rs) → Entry k rs i
unfolding payloads of_kind select
entry nothing k i h = absurd (omega arith)
entry (also {rs} r ok e) k i h = go (eqb r.kind (number k)) refl (λ l. entry ok k i l)
  where
    go : (b : Bool) → eqb r.kind (number k) ≡ b → (i < length (payloads k rs) → Entry k rs i) → Entry k (rs ++ (r ∷ [])) i
    go false f ih =
        let same = payloads_other k rs r f in
        let h' : i < length (payloads k rs) = subst (λ l. i < length l) same h in
        entry_more k rs r i [] (same ∙ sym (append-nil (payloads k rs))) h' (ih h')
    go true f ih = by (dec_lt i (length (payloads k rs)))
      where
        by : Dec (i < length (payloads k rs)) → Entry k (rs ++ (r ∷ [])) i
        by (yes l) = entry_more k rs r i (r.payload ∷ []) (payloads_more k rs r f) l (ih l)
        by (no l) =
            let h' : i < length (payloads k rs ++ (r.payload ∷ [])) = subst (λ l. i < length l) (payloads_more k rs r f) h in
            let n = length-append (payloads k rs) (r.payload ∷ []) in
            let last : length (payloads k rs) ≡ i = omega arith in
            subst (Entry k (rs ++ (r ∷ []))) last (entry_last k rs r ok e f)

-- Back from the case of a file to its records.
-- what is known of the records of a file that is not refused by 1 to 12
pub record Accepted (s : List ℕ) (flags : ℕ) (rs : List Record) : Type 0 where
  pub all_records : rs ≡ listed (records_of s)
  pub passed : Passed rs
  pub whole_file : refuse_whole rs flags ≡ none
  pub short : too_long s ≡ false

module _ (flags : ℕ) where
  -- the records, with what is known of them, or a refusal
  Outcome : List Record → Case → Type 0
  Outcome rs c = ((r : Refusal) × (c ≡ refused_case r)) ⊎ (Passed rs × (refuse_whole rs flags ≡ none) × (c ≡ accepted_case rs (payloads path rs)))

  from_walk : (w : Walk) (rs : List Record) → Passed rs → Outcome (rs ++ listed w) (case_from flags w rs)
  unfolding Outcome case_from listed unless_refused
  from_walk end rs ok = rw append-nil (by (refuse_whole rs flags) refl)
    where
      by : (x : Option Refusal) → refuse_whole rs flags ≡ x → Outcome rs (unless_refused x (accepted_case rs (payloads path rs)))
      by none e = inr (ok, e, refl)
      by (some r) e = inl (r, refl)
  from_walk (cut p) rs ok = inl (record { number = 2; place = p }, refl)
  from_walk (next r w) rs ok = by (refuse_record rs r) refl (from_walk w (rs ++ (r ∷ [])))
    where
      by : (x : Option Refusal) → refuse_record rs r ≡ x → (Passed (rs ++ (r ∷ [])) → Outcome ((rs ++ (r ∷ [])) ++ listed w) (case_from flags w (rs ++ (r ∷ []))))
          → Outcome (rs ++ (r ∷ listed w)) (unless_refused x (case_from flags w (rs ++ (r ∷ []))))
      by none e ih = rw append_assoc at (ih (also r ok e))
      by (some e') e ih = inl (e', refl)

  module _ (s : List ℕ) where
    Known : Case → Type 0
    Known c = ((r : Refusal) × (c ≡ refused_case r)) ⊎ (Accepted s flags (listed (records_of s)) × (c ≡ accepted_case (listed (records_of s)) (payloads path (listed (records_of s)))))

    from_case : Known (case_of s flags)
    unfolding Known Outcome case_of
    from_case = by (too_long s) refl (from_walk (records_of s) [] nothing)
      where
        by : (b : Bool) → too_long s ≡ b → Outcome (listed (records_of s)) (case_from flags (records_of s) []) → Known (choose b then refused_case (record { number = 1; place = 0 }) else case_from flags (records_of s) [])
        by true e x = inl (record { number = 1; place = 0 }, refl)
        by false e (inl r) = inl r
        by false e (inr (ok, none-met, c)) = inr (record { all_records = refl; passed = ok; whole_file = none-met; short = e }, c)

    accepted_bindings : (rs rs' : List Record) (ps : List (List ℕ)) → accepted_case rs ps ≡ binding_case rs' → (rs ≡ rs') × (ps ≡ [])
    unfolding accepted_case
    accepted_bindings rs rs' [] e = (cc, refl)
    accepted_bindings rs rs' (l ∷ ps) e = absurd (let z : ◌≡◌ {A = ℕ} 0 1 = cc in omega arith)

    accepted_path : (rs rs' : List Record) (ls : List ℕ) (ps : List (List ℕ)) → accepted_case rs ps ≡ path_case rs' ls → (rs ≡ rs') × (get_or ps 0 [] ≡ ls)
    unfolding accepted_case
    accepted_path rs rs' ls [] e = absurd (let z : ◌≡◌ {A = ℕ} 0 1 = cc in omega arith)
    accepted_path rs rs' ls (l ∷ ps) e = (cc, cc)

    -- a binding case has the records of the file, which passed, and no path
    pub binding_case_law : (rs : List Record) → case_of s flags ≡ binding_case rs → Accepted s flags rs × (payloads path rs ≡ [])
    unfolding Known
    binding_case_law rs e = by from_case
      where
        by : Known (case_of s flags) → Accepted s flags rs × (payloads path rs ≡ [])
        by (inl (r, f)) = absurd (let z : ◌≡◌ {A = ℕ} 0 1 = cc in omega arith)
        by (inr (a, f)) =
            let (same, none-there) = accepted_bindings (listed (records_of s)) rs (payloads path (listed (records_of s))) (sym f ∙ e) in
            (subst (Accepted s flags) same a, subst (λ z. payloads path z ≡ []) same none-there)

    -- a path case has the records of the file, which passed, and the letters of its path
    pub path_case_law : (rs : List Record) (ls : List ℕ) → case_of s flags ≡ path_case rs ls → Accepted s flags rs × (get_or (payloads path rs) 0 [] ≡ ls)
    unfolding Known
    path_case_law rs ls e = by from_case
      where
        by : Known (case_of s flags) → Accepted s flags rs × (get_or (payloads path rs) 0 [] ≡ ls)
        by (inl (r, f)) = absurd (let z : ◌≡◌ {A = ℕ} 0 1 = cc in omega arith)
        by (inr (a, f)) =
            let (same, first_path) = accepted_path (listed (records_of s)) rs ls (payloads path (listed (records_of s))) (sym f ∙ e) in
            (subst (Accepted s flags) same a, subst (λ z. get_or (payloads path z) 0 [] ≡ ls) same first_path)

    -- and a path case has a path
    pub path_there : (rs : List Record) (ls : List ℕ) → case_of s flags ≡ path_case rs ls → payloads path (listed (records_of s)) ≡ [] → ⊥
    unfolding Known accepted_case
    path_there rs ls e none-there = by from_case
      where
        by : Known (case_of s flags) → ⊥
        by (inl (r, f)) = let z : ◌≡◌ {A = ℕ} 0 1 = cc in omega arith
        by (inr (a, f)) =
            let g : binding_case (listed (records_of s)) ≡ path_case rs ls = ap (accepted_case (listed (records_of s))) (sym none-there) ∙ sym f ∙ e in
            let z : ◌≡◌ {A = ℕ} 0 1 = cc in
            omega arith

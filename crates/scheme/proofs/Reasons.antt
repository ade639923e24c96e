-- The search for a reason that computes takes the steps of the one that is read: it ends at a node of the term, no type of that
-- node's head leads to the type wanted there, and that type is a part of those that the heads have.
use Prim.Native.Nat.{ℕ, zero, suc, ◌+◌, ◌<◌}
use native.Mathlib.Omega.{arith}
use native.Mathlib.Nat.{le_of_suc-le-suc, not-suc-le-zero}
use mathlib.Core.Path.{◌≡◌, refl, sym, ap, subst, ◌∙◌}
use mathlib.Core.Logic.{◌⊎◌, inl, inr}
use mathlib.Core.Bool.{Bool, true, false, not, true≢false}
use mathlib.Core.List.Memᴰ
use mathlib.Core.List.{List, [], ◌∷◌, ◌++◌, Memᴰ}
use mathlib.Core.Option.{Option, none, some}
use borrow.Author.Tests.{not-false, not-true}
use lib.Dec.{T}
use lib.ListN.{length, get_or, length-append, get_or-append}
use lib.Seq.{get_or-append-add}
use Rattle.scheme.specs.Lists.{choose◌then◌else◌, found, first_of, found_or, all}
use Rattle.scheme.specs.Terms.{Head, con, nt, par, Term, node, Terms, []ᵗ, ◌∷ᵗ◌, countᵗ, nodes}
use Rattle.scheme.specs.Prefix.{Node, flat, flats}
use Rattle.scheme.specs.Reduction.{Plan, body}
use Rattle.scheme.specs.Types.{Ty, state, arrow, Tys, members, takes, domains, off, final, same}
use Rattle.scheme.specs.Typing.{Automaton, Binding, has, leads, head_types, holds}
use Rattle.scheme.specs.Reasons.{Reason, leads_to, reason, lacking, reason_for}
use Rattle.scheme.specs.ReasonRules.{First, at_once, behind, LeadsOff, HasHere, SearchEnds, this_node, an_argument, SearchEndsIn, the_first, a_later, ReasonByRules}
use Rattle.scheme.specs.Acceptance.{holds_exactly, binding_reason}
use Rattle.scheme.proofs.Lists.{T→true, true→T, false_T, any_false, all_in, and_false, not_out, not_in, found_out, none_some}
use Rattle.scheme.proofs.Prefix.{length_flat}
use Rattle.scheme.proofs.Exact.{same→≡, ≡→same}
use Rattle.scheme.proofs.Heads.{bound_out, con_types_out}
use Rattle.scheme.proofs.TypingRules.{has_rules, rules_has}

-- The first of a list that passes a test.
module _ {A : Type 0} (p : A → Bool) where
  -- none passes
  pub first_none : (l : List A) → first_of p l ≡ none → (x : A) → Memᴰ x l → p x ≡ false
  unfolding first_of
  first_none [] e x m = absurd (Memᴰ.not-nil m)
  first_none (y ∷ ys) e x m = go (p y) refl e (Memᴰ.cases_cons m) (λ f k. first_none ys f x k)
    where
      go : (v : Bool) → p y ≡ v → (choose v then some y else first_of p ys) ≡ none → (x ≡ y) ⊎ Memᴰ x ys → (first_of p ys ≡ none → Memᴰ x ys → p x ≡ false) → p x ≡ false
      go true w f c ih = absurd (none_some f refl)
      go false w f (inl s) ih = ap p s ∙ w
      go false w f (inr k) ih = ih f k

  -- one passes, and none before it
  pub first_some : (l : List A) (x : A) → first_of p l ≡ some x → First (λ y. T (p y)) l x
  unfolding first_of
  first_some [] x e = absurd (none_some refl e)
  first_some (y ∷ ys) x e = go (p y) refl e (first_some ys x)
    where
      go : (v : Bool) → p y ≡ v → (choose v then some y else first_of p ys) ≡ some x → (first_of p ys ≡ some x → First (λ z. T (p z)) ys x) → First (λ z. T (p z)) (y ∷ ys) x
      go true w f ih = let s : y ≡ x = cc in subst (First (λ z. T (p z)) (y ∷ ys)) s (at_once (true→T w))
      go false w f ih = behind (false_T w) (ih f)

  -- by number: no element passes, or element i does and none before it
  pub first_none_at : (l : List A) (d : A) → ((j : ℕ) → j < length l → p (get_or l j d) ≡ false) → first_of p l ≡ none
  unfolding first_of
  first_none_at [] d h = refl
  first_none_at (y ∷ ys) d h = rw (h 0 (omega arith)) (first_none_at ys d (λ j l. h (suc j) (omega arith)))

  pub first_some_at : (l : List A) (d : A) (i : ℕ) → i < length l → ((j : ℕ) → j < i → p (get_or l j d) ≡ false) → p (get_or l i d) ≡ true → first_of p l ≡ some (get_or l i d)
  unfolding first_of
  first_some_at [] d i l h e = absurd (not-suc-le-zero l)
  first_some_at (y ∷ ys) d zero l h e = rw e refl
  first_some_at (y ∷ ys) d (suc i) l h e = rw (h 0 (omega arith)) (first_some_at ys d i (le_of_suc-le-suc l) (λ j k. h (suc j) (omega arith)) e)

-- what is true of the first, and that it is one of the list
pub first_true : {A : Type 0} {P : A → Type 0} {l : List A} {x : A} → First P l x → P x × Memᴰ x l
first_true (at_once h) = (h, Memᴰ.head refl)
first_true (behind ne f) = let (h, m) = first_true f in (h, Memᴰ.tail m)

-- the first by one statement is the first by another that says the same
pub first_same : {A : Type 0} {P Q : A → Type 0} {l : List A} {x : A} → ((y : A) → P y → Q y) → ((y : A) → Q y → P y) → First P l x → First Q l x
first_same into out (at_once {x = x} h) = at_once (into x h)
first_same into out (behind {y = y} ne f) = behind (λ q. ne (out y q)) (first_same into out f)

-- every member in a type, for any of its arguments
abbrev pub Within : (Ty → Type 0) → Ty → Type 0
Within P τ = (ms : List Ty) → Memᴰ ms (domains τ) → (m : Ty) → Memᴰ m ms → P m

-- The search that is read.
module _ (Matches : Ty → Ty → Type 0) (heads : Head → List Ty) where
  -- a search at a term whose head is node n ends with a reason that is read
  abbrev pub EndsAt : Term → ℕ → Ty → Reason → Type 0
  EndsAt t n goal r = (k : ℕ) × (r.place ≡ n + k) × SearchEnds Matches heads t goal k r.wanted

  -- and one in arguments that begin at node n
  abbrev pub EndsIn : Terms → ℕ → Ty → Reason → Type 0
  EndsIn ts n τ r = (k : ℕ) × (r.place ≡ n + k) × SearchEndsIn Matches heads ts τ k r.wanted

  -- node k of some nodes is the head of a term none of whose types leads to a type
  abbrev pub Stands : Node → List Node → ℕ → Ty → Type 0
  Stands d ns k σ = (h : Head) × (count : ℕ) × (k < length ns) × (get_or ns k d ≡ record { head = h; count = count }) × ((τ : Ty) → Memᴰ τ (heads h) → LeadsOff Matches count σ τ → ⊥)

  stands_behind : (d : Node) (ms ns : List Node) (j k : ℕ) (σ : Ty) → length ms ≡ j → Stands d ns k σ → Stands d (ms ++ ns) (j + k) σ
  stands_behind d ms ns j k σ e (h, count, l, at, leads) =
      let long = length-append ms ns in
      (h, count, omega arith, ap (λ i. get_or (ms ++ ns) (i + k) d) (sym e) ∙ get_or-append-add ms ns k d ∙ at, leads)

  stands_before : (d : Node) (ms ns : List Node) (k : ℕ) (σ : Ty) → Stands d ms k σ → Stands d (ms ++ ns) k σ
  stands_before d ms ns k σ (h, count, l, at, leads) =
      let long = length-append ms ns in
      (h, count, omega arith, get_or-append ms ns d k l ∙ at, leads)

  -- how a search at a head ended: there, or in the arguments
  abbrev AtHead : Head → Terms → Ty → ℕ → Ty → Type 0
  AtHead h ts goal k σ =
      ((k ≡ 0) × (σ ≡ goal) × ((τ : Ty) → Memᴰ τ (heads h) → LeadsOff Matches (countᵗ ts) goal τ → ⊥))
      ⊎ ((τ : Ty) × (j : ℕ) × (k ≡ 1 + j) × Memᴰ τ (heads h) × SearchEndsIn Matches heads ts τ j σ)

  search_out : (h : Head) (ts : Terms) {goal σ : Ty} {k : ℕ} → SearchEnds Matches heads (node h ts) goal k σ → AtHead h ts goal k σ
  search_out h ts (this_node none_leads) = inl (refl, refl, none_leads)
  search_out h ts (an_argument {τ = τ} {k = j} first ends) = inr (τ, j, omega arith, (first_true first).1, ends)

  -- and in arguments: in the first, or in a later one
  abbrev InArguments : Term → Terms → Tys → Ty → ℕ → Ty → Type 0
  InArguments t ts a r k σ = ((m : Ty) × Memᴰ m (members a) × SearchEnds Matches heads t m k σ) ⊎ ((j : ℕ) × (k ≡ nodes t + j) × SearchEndsIn Matches heads ts r j σ)

  search_in_out : (t : Term) (ts : Terms) {τ σ : Ty} {k : ℕ} → SearchEndsIn Matches heads (t ∷ᵗ ts) τ k σ → (a : Tys) × (r : Ty) × (τ ≡ arrow a r) × InArguments t ts a r k σ
  search_in_out t ts (the_first {a = a} {r = r} {m = m} first ends) = (a, r, refl, inl (m, (first_true first).1, ends))
  search_in_out t ts (a_later {a = a} {r = r} {k = j} every ends) = (a, r, refl, inr (j, refl, ends))

  search_in_none : {τ σ : Ty} {k : ℕ} → SearchEndsIn Matches heads []ᵗ τ k σ → ⊥
  search_in_none e = elim e [ ]

  module _ (d : Node) where
    stands_at : (h : Head) (ts : Terms) {goal σ : Ty} {k : ℕ} → ((τ : Ty) (j : ℕ) → SearchEndsIn Matches heads ts τ j σ → Stands d (flats ts) j σ) → AtHead h ts goal k σ → Stands d (flat (node h ts)) k σ
    unfolding flat
    stands_at h ts ih (inl (ek, eσ, none_leads)) = rw (ek, eσ) (h, countᵗ ts, omega arith, refl, none_leads)
    stands_at h ts {σ = σ} ih (inr (τ, j, ek, m, ends)) = rw ek (stands_behind d (record { head = h; count = countᵗ ts } ∷ []) (flats ts) 1 j σ refl (ih τ j ends))

    stands_in : (t : Term) (ts : Terms) (a : Tys) (r : Ty) {σ : Ty} {k : ℕ} → ((m : Ty) → SearchEnds Matches heads t m k σ → Stands d (flat t) k σ)
        → ((j : ℕ) → SearchEndsIn Matches heads ts r j σ → Stands d (flats ts) j σ) → InArguments t ts a r k σ → Stands d (flats (t ∷ᵗ ts)) k σ
    unfolding flats
    stands_in t ts a r {σ} {k} here there (inl (m, i, ends)) = stands_before d (flat t) (flats ts) k σ (here m ends)
    stands_in t ts a r {σ} here there (inr (j, ek, ends)) = rw ek (stands_behind d (flat t) (flats ts) (nodes t) j σ (length_flat t) (there j ends))

    mutual
      -- it ends at a node of the term, and no type of that node's head leads to the type wanted there
      pub search_stands : (t : Term) {goal σ : Ty} {k : ℕ} → SearchEnds Matches heads t goal k σ → Stands d (flat t) k σ
      search_stands (node h ts) e = stands_at h ts (λ τ j f. search_stands_in ts f) (search_out h ts e)

      search_stands_in : (ts : Terms) {τ σ : Ty} {k : ℕ} → SearchEndsIn Matches heads ts τ k σ → Stands d (flats ts) k σ
      search_stands_in []ᵗ e = absurd (search_in_none e)
      search_stands_in (t ∷ᵗ ts) e = let (a, r, eτ, how) = search_in_out t ts e in stands_in t ts a r (λ m f. search_stands t f) (λ j f. search_stands_in ts f) how

  module _ (P : Ty → Type 0) (heads_within : (h : Head) (τ : Ty) → Memᴰ τ (heads h) → Within P τ) where
    listed_at : (h : Head) (ts : Terms) {goal σ : Ty} {k : ℕ} → ((τ : Ty) (j : ℕ) → SearchEndsIn Matches heads ts τ j σ → Within P τ → P σ) → AtHead h ts goal k σ → P goal → P σ
    listed_at h ts ih (inl (ek, eσ, none_leads)) w = subst P (sym eσ) w
    listed_at h ts ih (inr (τ, j, ek, m, ends)) w = ih τ j ends (heads_within h τ m)

    listed_in : (t : Term) (ts : Terms) (a : Tys) (r : Ty) {σ : Ty} {k : ℕ} → ((m : Ty) → SearchEnds Matches heads t m k σ → P m → P σ)
        → ((j : ℕ) → SearchEndsIn Matches heads ts r j σ → Within P r → P σ) → InArguments t ts a r k σ → Within P (arrow a r) → P σ
    unfolding domains
    listed_in t ts a r here there (inl (m, i, ends)) w = here m ends (w (members a) (Memᴰ.head refl) m i)
    listed_in t ts a r here there (inr (j, ek, ends)) w = there j ends (λ ms i. w ms (Memᴰ.tail i))

    mutual
      -- the type wanted is one of which all is true that is true of the goal and of the members in the types of heads
      pub search_listed : (t : Term) {goal σ : Ty} {k : ℕ} → SearchEnds Matches heads t goal k σ → P goal → P σ
      search_listed (node h ts) e w = listed_at h ts (λ τ j f v. search_listed_in ts f v) (search_out h ts e) w

      search_listed_in : (ts : Terms) {τ σ : Ty} {k : ℕ} → SearchEndsIn Matches heads ts τ k σ → Within P τ → P σ
      search_listed_in []ᵗ e w = absurd (search_in_none e)
      search_listed_in (t ∷ᵗ ts) e w = let (a, r, eτ, how) = search_in_out t ts e in listed_in t ts a r (λ m f v. search_listed t f v) (λ j f v. search_listed_in ts f v) how (subst (Within P) eτ w)

-- `Matches` is what the test `serves` decides
module _ (serves : Ty → Ty → Bool) (Matches : Ty → Ty → Type 0) (serves-in : (a b : Ty) → Matches a b → T (serves a b)) (serves-out : (a b : Ty) → T (serves a b) → Matches a b)
    (heads : Head → List Ty) where
  leads_off : (count : ℕ) (goal τ : Ty) → T (leads_to serves count goal τ) → LeadsOff Matches count goal τ
  unfolding leads_to
  leads_off count goal τ t = let (ρ, e, s) = found_out (off count τ) (λ ρ. serves ρ goal) t in (ρ, e, serves-out ρ goal s)

  off_leads : (count : ℕ) (goal τ : Ty) → LeadsOff Matches count goal τ → T (leads_to serves count goal τ)
  unfolding leads_to found
  off_leads count goal τ (ρ, e, m) = rw e (serves-in ρ goal m)

  has_here : (t : Term) (τ : Ty) → T (has serves heads t τ) → HasHere Matches heads t τ
  has_here = has_rules serves Matches heads (λ h τ. Memᴰ τ (heads h)) serves-out (λ h τ m. m)

  here_has : (t : Term) (τ : Ty) → HasHere Matches heads t τ → T (has serves heads t τ)
  here_has = rules_has serves Matches heads (λ h τ. Memᴰ τ (heads h)) serves-in (λ h τ m. m)

  lacks_here : (t : Term) (τ : Ty) → T (not (has serves heads t τ)) → HasHere Matches heads t τ → ⊥
  lacks_here t τ u v = not_out (has serves heads t τ) u (here_has t τ v)

  here_lacks : (t : Term) (τ : Ty) → (HasHere Matches heads t τ → ⊥) → T (not (has serves heads t τ))
  here_lacks t τ v = not_in (has serves heads t τ) (λ u. v (has_here t τ u))

  -- at a head, by the first of its types that leads
  at_head : (h : Head) (ts : Terms) (n : ℕ) (goal : Ty) → has serves heads (node h ts) goal ≡ false
      → ((τ : Ty) → leads_to serves (countᵗ ts) goal τ ≡ true → leads serves heads ts τ goal ≡ false → EndsIn Matches heads ts (suc n) τ (lacking serves heads (suc n) ts τ))
      → EndsAt Matches heads (node h ts) n goal (reason serves heads n (node h ts) goal)
  unfolding reason found_or has
  at_head h ts n goal e ih = by (first_of (leads_to serves (countᵗ ts) goal) (heads h)) refl
    where
      by : (x : Option Ty) → first_of (leads_to serves (countᵗ ts) goal) (heads h) ≡ x → EndsAt Matches heads (node h ts) n goal (reason serves heads n (node h ts) goal)
      by none f = rw f (0, omega arith, this_node (λ τ m l. false_T (first_none (leads_to serves (countᵗ ts) goal) (heads h) f τ m) (off_leads (countᵗ ts) goal τ l)))
      by (some τ) f =
          let it = first_some (leads_to serves (countᵗ ts) goal) (heads h) τ f in
          let (l, m) = first_true it in
          let (k, at, ends) = ih τ (T→true (leads_to serves (countᵗ ts) goal τ) l) (any_false (λ σ. leads serves heads ts σ goal) e m) in
          rw f (suc k, omega arith, an_argument (first_same (leads_off (countᵗ ts) goal) (off_leads (countᵗ ts) goal) it) ends)

  -- at an argument, by the first member that it lacks
  at_argument : (t : Term) (ts : Terms) (n : ℕ) (a : Tys) (r goal : Ty) → leads serves heads (t ∷ᵗ ts) (arrow a r) goal ≡ false
      → ((m : Ty) → has serves heads t m ≡ false → EndsAt Matches heads t n m (reason serves heads n t m))
      → (leads serves heads ts r goal ≡ false → EndsIn Matches heads ts (n + nodes t) r (lacking serves heads (n + nodes t) ts r))
      → EndsIn Matches heads (t ∷ᵗ ts) n (arrow a r) (lacking serves heads n (t ∷ᵗ ts) (arrow a r))
  unfolding lacking found_or leads
  at_argument t ts n a r goal e here there = by (first_of (λ m. not (has serves heads t m)) (members a)) refl
    where
      by : (x : Option Ty) → first_of (λ m. not (has serves heads t m)) (members a) ≡ x → EndsIn Matches heads (t ∷ᵗ ts) n (arrow a r) (lacking serves heads n (t ∷ᵗ ts) (arrow a r))
      by none f =
          let every : (m : Ty) → Memᴰ m (members a) → T (has serves heads t m) = λ m j. true→T (not-false (has serves heads t m) (first_none (λ m. not (has serves heads t m)) (members a) f m j)) in
          let (k, at, ends) = there (and_false (all (has serves heads t) (members a)) (leads serves heads ts r goal) e (T→true (all (has serves heads t) (members a)) (all_in (has serves heads t) (members a) every))) in
          rw f (nodes t + k, omega arith, a_later (λ m j. has_here t m (every m j)) ends)
      by (some m) f =
          let it = first_some (λ m. not (has serves heads t m)) (members a) m f in
          let (k, at, ends) = here m (not-true (has serves heads t m) (T→true (not (has serves heads t m)) (first_true it).0)) in
          rw f (k, at, the_first (first_same (lacks_here t) (here_lacks t) it) ends)

  mutual
    unfolding leads leads_to off found countᵗ

    -- THE SEARCH, at a term that lacks the goal
    pub search_ends : (t : Term) (n : ℕ) (goal : Ty) → has serves heads t goal ≡ false → EndsAt Matches heads t n goal (reason serves heads n t goal)
    search_ends (node h ts) n goal e = at_head h ts n goal e (λ τ l f. lacking_ends ts (suc n) τ goal l f)

    pub lacking_ends : (ts : Terms) (n : ℕ) (τ goal : Ty) → leads_to serves (countᵗ ts) goal τ ≡ true → leads serves heads ts τ goal ≡ false → EndsIn Matches heads ts n τ (lacking serves heads n ts τ)
    lacking_ends []ᵗ n τ goal l e = absurd (true≢false (sym l ∙ e))
    lacking_ends (t ∷ᵗ ts) n (state q) goal l e = absurd (true≢false (sym l))
    lacking_ends (t ∷ᵗ ts) n (arrow a r) goal l e = at_argument t ts n a r goal e (λ m f. search_ends t n m f) (λ f. lacking_ends ts (n + nodes t) r goal l f)

-- a binding that does not hold has the reason that is read
module _ (aut : Automaton) (plan : Plan) (env : List Binding) (b : Binding) where
  pub reason_rules : (serves : Ty → Ty → Bool) (Matches : Ty → Ty → Type 0) → ((a b : Ty) → Matches a b → T (serves a b)) → ((a b : Ty) → T (serves a b) → Matches a b)
      → holds serves aut plan env b ≡ false → ReasonByRules Matches aut plan env b (reason_for serves aut plan env b).place (reason_for serves aut plan env b).wanted
  unfolding holds reason_for
  reason_rules serves Matches into out e =
      let heads = head_types aut env (domains b.type) in
      let (k, at, ends) = search_ends serves Matches into out heads (body plan b.nonterminal) 0 (final b.type) e in
      let same : k ≡ (reason serves heads 0 (body plan b.nonterminal) (final b.type)).place = omega arith in
      subst (λ k. SearchEnds Matches heads (body plan b.nonterminal) (final b.type) k (reason serves heads 0 (body plan b.nonterminal) (final b.type)).wanted) same ends

  -- the same under the exact match
  pub reason_exactly : holds_exactly aut plan env b ≡ false → ReasonByRules (λ a b. a ≡ b) aut plan env b (binding_reason aut plan env b).place (binding_reason aut plan env b).wanted
  unfolding holds_exactly binding_reason
  reason_exactly = reason_rules same (λ a b. a ≡ b) ≡→same same→≡

-- The types that are wanted: what is true of all states and of the types that are bound, and of a type's parts where it is true of
-- the type, is true of them.
module _ (P : Ty → Type 0) (closed : (a : Tys) (r : Ty) → P (arrow a r) → P r × ((m : Ty) → Memᴰ m (members a) → P m)) (states : (q : ℕ) → P (state q)) where
  within : (τ : Ty) → P τ → Within P τ
  unfolding domains
  within (state q) h ms i m j = absurd (Memᴰ.not-nil i)
  within (arrow a r) h ms i m j = go (Memᴰ.cases_cons i) (λ k. within r (closed a r h).0 ms k m j)
    where
      go : (ms ≡ members a) ⊎ Memᴰ ms (domains r) → (Memᴰ ms (domains r) → P m) → P m
      go (inl e) ih = (closed a r h).1 m (subst (Memᴰ m) e j)
      go (inr k) ih = ih k

  takes_within : (qs : List ℕ) (q : ℕ) → Within P (takes qs q)
  unfolding domains takes members
  takes_within [] q ms i m j = absurd (Memᴰ.not-nil i)
  takes_within (p ∷ qs) q ms i m j = go (Memᴰ.cases_cons i) (λ k. takes_within qs q ms k m j)
    where
      go : (ms ≡ state p ∷ []) ⊎ Memᴰ ms (domains (takes qs q)) → (Memᴰ ms (domains (takes qs q)) → P m) → P m
      go (inl e) ih = subst P (sym (Memᴰ.eq_of_singleton (subst (Memᴰ m) e j))) (states p)
      go (inr k) ih = ih k

  given_out : (given : List (List Ty)) (i : ℕ) (σ : Ty) → Memᴰ σ (get_or given i []) → Memᴰ (get_or given i []) given
  given_out [] i σ m = absurd (Memᴰ.not-nil m)
  given_out (ms ∷ given) zero σ m = Memᴰ.head refl
  given_out (ms ∷ given) (suc i) σ m = Memᴰ.tail (given_out given i σ m)

  module _ (aut : Automaton) (env : List Binding) (bound-are : (c : Binding) → Memᴰ c env → P c.type) where
    heads_within : (τ : Ty) → P τ → (h : Head) (σ : Ty) → Memᴰ σ (head_types aut env (domains τ) h) → Within P σ
    unfolding head_types
    heads_within τ w (con c) σ m = let (q, qs, l, e, eσ) = con_types_out aut.targets aut.states c m in subst (Within P) (sym eσ) (takes_within qs q)
    heads_within τ w (nt f) σ m = let (c, k, ef, eσ) = bound_out env f m in subst (Within P) (sym eσ) (within c.type (bound-are c k))
    heads_within τ w (par i) σ m = within σ (within τ w (get_or (domains τ) i []) (given_out (domains τ) i σ m) σ m)

    final_state : (τ : Ty) → P (final τ)
    unfolding final
    final_state (state q) = states q
    final_state (arrow a r) = final_state r

    pub reason_listed : (Matches : Ty → Ty → Type 0) (plan : Plan) (b : Binding) → P b.type → {k : ℕ} {σ : Ty} → ReasonByRules Matches aut plan env b k σ → P σ
    reason_listed Matches plan b w e =
        search_listed Matches (head_types aut env (domains b.type)) P (heads_within b.type w) (body plan b.nonterminal) e (final_state b.type)

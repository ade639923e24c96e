-- Two files whose records say the same, wherever they stand: 1 to 12 refuse both or neither, where neither is too long or cut.
use Prim.Native.Nat.{ℕ}
use native.Mathlib.Omega.{arith}
use mathlib.Core.Path.{◌≡◌, refl, sym, ap, ap₂, ◌∙◌}
use mathlib.Core.Bool.{Bool, true, false, ◌||◌}
use mathlib.Core.List.{List, [], ◌∷◌, ◌++◌, map, map-map, map-append}
use mathlib.Core.Option.{Option, none, some}
use borrow.Author.Tests.{ltb-false, le-ltb}
use lib.ListN.{length}
use Rattle.scheme.specs.Lists.{choose◌then◌else◌, last_or}
use Rattle.scheme.specs.Sorts.{Sort}
use Rattle.scheme.specs.Typing.{Binding}
use Rattle.casefile.specs.Records.{Record, Walk, end, cut, next, records_of, listed}
use Rattle.casefile.specs.Kinds.{Kind, sort, constructor, nonterminal, rule, states, transition, type, binding, path, of_kind, payloads, count}
use Rattle.casefile.specs.Tables.{sorts_of, arities_of, signatures_of, plan_of, state_count_spec, transitions_of, automaton_of, types_of, bindings_of}
use Rattle.casefile.specs.Refusals.{Refusal, Test, refuse◌at◌when◌, first, too_long, too_many, too_large, out_of_range, repeats, misplaced, refuse_as, refuse_kind, last_kind, refuse_record, wrong_bodies, wrong_start, misfits, refuse_whole}
use Rattle.casefile.specs.Cases.{Case, refused_case, unless_refused, accepted_case, case_from, case_of}
use Rattle.casefile.specs.Remarks.{Content, content_of, told, contents, without_remarks}
use Rattle.casefile.proofs.Passed.{first_none, passed_kind}
use Rattle.casefile.proofs.TypeTable.{count_payloads}
use Rattle.casefile.proofs.Remarks.{Uncut, ended, further, told_payloads, without_same, without_uncut, without_short}

-- two kinds are not the same
apart : ◌≡◌ {A = ℕ} 0 1 → ⊥
apart e = omega arith

-- Some test of a list is met. The places do not matter for that.
met : List Test → Bool
met [] = false
met ((refuse n at p when b) ∷ ts) = b || met ts

met_out : (ts : List Test) → first ts ≡ none → met ts ≡ false
unfolding met
met_out [] e = refl
met_out ((refuse n at p when b) ∷ ts) e = let (f, g) = first_none n p b ts e in rw (f, met_out ts g)

met_in : (ts : List Test) → met ts ≡ false → first ts ≡ none
unfolding met first
met_in [] e = refl
met_in ((refuse n at p when true) ∷ ts) e = absurd (let z : ◌≡◌ {A = ℕ} 0 1 = cc in omega arith)
met_in ((refuse n at p when false) ∷ ts) e = met_in ts e

met_both : (xs ys : List Test) → met (xs ++ ys) ≡ (met xs || met ys)
unfolding met
met_both [] ys = refl
met_both ((refuse n at p when true) ∷ xs) ys = refl
met_both ((refuse n at p when false) ∷ xs) ys = met_both xs ys

-- records with the same payloads, at no place
bare : List Record → List Record
bare qs = map (λ (p : List ℕ). record { place = 0; kind = 0; payload = p }) (map (λ (r : Record). r.payload) qs)

-- the tests of the start, of the bodies and of the bindings turn on the payloads alone
bare_start : (qs : List Record) → met (wrong_start qs) ≡ met (wrong_start (bare qs))
unfolding met wrong_start bare
bare_start [] = refl
bare_start (q ∷ qs) = refl

bare_bodies : (arities : List ℕ) (sigs ss : List Sort) (qs : List Record) → met (wrong_bodies arities sigs ss qs) ≡ met (wrong_bodies arities sigs ss (bare qs))
unfolding met wrong_bodies bare
bare_bodies arities sigs [] qs = refl
bare_bodies arities sigs (s ∷ ss) [] = refl
bare_bodies arities sigs (s ∷ ss) (q ∷ qs) = rw (bare_bodies arities sigs ss qs)

bare_bindings : (sigs : List Sort) (bs : List Binding) (qs : List Record) → met (misfits sigs bs qs) ≡ met (misfits sigs bs (bare qs))
unfolding met misfits bare
bare_bindings sigs [] qs = refl
bare_bindings sigs (b ∷ bs) [] = refl
bare_bindings sigs (b ∷ bs) (q ∷ qs) = rw (bare_bindings sigs bs qs)

-- 5 to 7 of a record with a payload, of a kind
bits : List Record → List ℕ → Kind → Bool
bits rs p k = (too_many k (count k rs) || too_large rs p k) || (out_of_range rs p k || (misplaced rs p k || false))

-- Records that have the same payloads of each kind but nonterminals: these decide only what is refused.
abbrev pub SamePayloads : List Record → List Record → Type 0
SamePayloads rs rs' = (k : Kind) → (k ≡ nonterminal → ⊥) → payloads k rs ≡ payloads k rs'

-- Their plan, automaton, bindings and path are the same.
module _ (rs rs' : List Record) (same : SamePayloads rs rs') where
  same_arities : arities_of rs ≡ arities_of rs'
  unfolding arities_of
  same_arities = rw (same constructor (λ e. apart cc))

  same_states : state_count_spec rs ≡ state_count_spec rs'
  unfolding state_count_spec
  same_states = rw (same states (λ e. apart cc))

  pub same_plan : plan_of rs ≡ plan_of rs'
  unfolding plan_of
  same_plan = rw (same rule (λ e. apart cc))

  pub same_automaton : automaton_of rs ≡ automaton_of rs'
  unfolding automaton_of transitions_of
  same_automaton = rw (same_states, same_arities, same transition (λ e. apart cc))

  pub same_bindings : bindings_of rs ≡ bindings_of rs'
  unfolding bindings_of types_of
  same_bindings = rw (same type (λ e. apart cc), same binding (λ e. apart cc))

  pub same_path : payloads path rs ≡ payloads path rs'
  same_path = same path (λ e. apart cc)

-- Where nonterminals have the same too, all tables are the same, and so are the tests.
module _ (rs rs' : List Record) (same : (k : Kind) → payloads k rs ≡ payloads k rs') where
  same_count : (k : Kind) → count k rs ≡ count k rs'
  same_count k = count_payloads k rs ∙ ap length (same k) ∙ sym (count_payloads k rs')

  same_sorts : sorts_of rs ≡ sorts_of rs'
  unfolding sorts_of
  same_sorts = rw (same sort)

  same_signatures : signatures_of rs ≡ signatures_of rs'
  unfolding signatures_of
  same_signatures = rw (same_sorts, same nonterminal)

  most : SamePayloads rs rs'
  most k ne = same k

  -- the tests of a record of a kind, with a payload
  same_bits : (p : List ℕ) (k : Kind) → bits rs p k ≡ bits rs' p k
  unfolding bits too_many too_large out_of_range misplaced repeats
  same_bits p sort = simp (same_count, same_sorts, same)
  same_bits p constructor = simp same_count
  same_bits p nonterminal = simp (same_count, same_sorts)
  same_bits p rule = simp (same_count, same_signatures, same_arities rs rs' most)
  same_bits p states = simp same_count
  same_bits p transition = simp (same_count, same_states rs rs' most, same_arities rs rs' most, same)
  same_bits p type = simp (same_count, same_states rs rs' most, same)
  same_bits p binding = simp (same_count, same)
  same_bits p path = simp same_count

  same_as : (r r' : Record) (k : Kind) → r.payload ≡ r'.payload → refuse_as rs' r' k ≡ none → refuse_as rs r k ≡ none
  unfolding refuse_as met bits
  same_as r r' k e h = met_in _ (rw (e, same_bits r'.payload k) (met_out _ h))

  -- tests of records of a kind that turn on their payloads alone
  same_met : (f : List Record → List Test) (k : Kind) → ((qs : List Record) → met (f qs) ≡ met (f (bare qs))) → met (f (of_kind k rs)) ≡ met (f (of_kind k rs'))
  unfolding bare payloads
  same_met f k e = e (of_kind k rs) ∙ rw (same k) (sym (e (of_kind k rs')))

  -- the tests of the whole file
  same_whole : (flags : ℕ) → refuse_whole rs' flags ≡ none → refuse_whole rs flags ≡ none
  unfolding refuse_whole met
  same_whole flags e =
      let ns = arities_of rs' in
      let sigs = signatures_of rs' in
      let bs = bindings_of rs' in
      met_in _
      (simp met_both
      (simp (same_count, same_arities rs rs' most, same_signatures, same_bindings rs rs' most, same_met wrong_start nonterminal bare_start, same_met (wrong_bodies ns sigs sigs) rule (bare_bodies ns sigs sigs), same_met (misfits sigs bs) binding (bare_bindings sigs bs))
      (simp met_both at (met_out _ e))))

-- records that say the same have the same last kind
same_last : (rs rs' : List Record) → map content_of rs ≡ map content_of rs' → last_kind rs ≡ last_kind rs'
unfolding last_kind content_of
same_last rs rs' e = simp map-map at (ap (λ cs. last_or 0 (map (λ (c : Content). c.kind) cs)) e)

-- A record passes 3 to 7 after others wherever they stand.
pub record_alike : (rs rs' : List Record) (r r' : Record) → map content_of rs ≡ map content_of rs' → content_of r ≡ content_of r' → refuse_record rs r ≡ none → refuse_record rs' r' ≡ none
unfolding refuse_record refuse_kind refuse_as content_of
record_alike rs rs' r r' e f h =
    let (up, (k, known, passed)) = passed_kind rs r h in
    rw (same_last rs' rs (sym e), ap (λ (c : Content). c.kind) (sym f), up, known) (same_as rs' rs (told_payloads rs' rs (sym e)) r' r k (ap (λ (c : Content). c.payload) (sym f)) passed)

-- The records of a file pass 8 to 12 wherever they stand.
pub whole_alike : (rs rs' : List Record) (flags : ℕ) → map content_of rs ≡ map content_of rs' → refuse_whole rs flags ≡ none → refuse_whole rs' flags ≡ none
whole_alike rs rs' flags e h = same_whole rs' rs (told_payloads rs' rs (sym e)) flags h

-- a case that is not refused
abbrev Fine : Case → Type 0
Fine c = (r : Refusal) → c ≡ refused_case r → ⊥

fine_accepted : (rs : List Record) (ps : List (List ℕ)) → Fine (accepted_case rs ps)
unfolding accepted_case
fine_accepted rs [] r e = let z : ◌≡◌ {A = ℕ} 0 1 = cc in omega arith
fine_accepted rs (p ∷ ps) r e = let z : ◌≡◌ {A = ℕ} 0 1 = cc in omega arith

fine_both : (x : Option Refusal) (c : Case) → Fine (unless_refused x c) → (x ≡ none) × Fine c
unfolding unless_refused
fine_both none c h = (refl, h)
fine_both (some r) c h = absurd (h r refl)

-- Two walks that say the same, the second not cut, after records that say the same.
module _ (flags : ℕ) where
  from_alike : (w : Walk) {w' : Walk} → Uncut w' → told w ≡ told w' → (rs rs' : List Record) → map content_of rs ≡ map content_of rs' → Fine (case_from flags w rs) → Fine (case_from flags w' rs')
  unfolding told listed case_from unless_refused
  from_alike end ended t rs rs' e h = rw (whole_alike rs rs' flags e (fine_both (refuse_whole rs flags) _ h).0) (fine_accepted rs' (payloads path rs'))
  from_alike end (further u) t rs rs' e h = absurd (let z : ◌≡◌ {A = ℕ} 0 1 = cc in omega arith)
  from_alike (cut p) u t rs rs' e h = absurd (h _ refl)
  from_alike (next r w) ended t rs rs' e h = absurd (let z : ◌≡◌ {A = ℕ} 0 1 = cc in omega arith)
  from_alike (next r w) (further {r = r'} {w = w'} u) t rs rs' e h =
      let (passed, rest) = fine_both (refuse_record rs r) _ h in
      let one : content_of r ≡ content_of r' = cc in
      let others : told w ≡ told w' = cc in
      rw (record_alike rs rs' r r' e one passed)
      (from_alike w u others (rs ++ (r ∷ [])) (rs' ++ (r' ∷ [])) (simp map-append (ap₂ (λ cs c. cs ++ (c ∷ [])) e one)) rest)

-- and what is known of the file of such a case
fine_case : (s : List ℕ) (flags : ℕ) → Fine (case_of s flags) → (too_long s ≡ false) × Fine (case_from flags (records_of s) [])
unfolding case_of
fine_case s flags h = go (too_long s) h
  where
    go : (b : Bool) → Fine (choose b then refused_case (record { number = 1; place = 0 }) else case_from flags (records_of s) []) → (b ≡ false) × Fine (case_from flags (records_of s) [])
    go true x = absurd (x _ refl)
    go false x = (refl, x)

-- A file that says what another says is refused by 1 to 12 only where the other is, if it is not too long and not cut.
pub case_alike : (f g : List ℕ) (flags : ℕ) → contents f ≡ contents g → too_long g ≡ false → Uncut (records_of g) → Fine (case_of f flags) → Fine (case_of g flags)
unfolding case_of contents
case_alike f g flags e short u h = rw short (from_alike flags (records_of f) u e [] [] refl (fine_case f flags h).1)

-- A file without its remarks is refused by 1 to 12 only where the file is.
pub without_case : (s : List ℕ) (flags : ℕ) → Fine (case_of s flags) → Fine (case_of (without_remarks s) flags)
unfolding too_long
without_case s flags h =
    let long = ltb-false 60000 (length s) (fine_case s flags h).0 in
    let short = without_short s in
    case_alike s (without_remarks s) flags (sym (without_same s)) (le-ltb 60000 (length (without_remarks s)) (omega arith)) (without_uncut s) h

-- The walk under way: how it starts, what a record does to it, how it ends, and how a turn ends.
use Prim.Native.Nat.{ℕ, suc, ◌+◌, ◌<◌, ◌≤◌}
use native.Mathlib.Omega.{arith}
use native.Mathlib.Nat.{zero-add}
use mathlib.Core.Path.{◌≡◌, refl, sym, ap, ap₂, subst, ◌∙◌}
use mathlib.Core.Bool.{Bool, true, false, ◌||◌}
use mathlib.Core.List.{List, [], ◌∷◌, ◌++◌, map, map-append, append-nil, append_assoc}
use mathlib.Core.Option.{Option, none, some}
use native.Mathlib.Decide.{ℕ_discrete}
use borrow.Author.Tests.{lt-ltb, le-ltb, leb-false, ltb-false, eq-eqb}
use lib.Dec.{ltb, leb, eqb}
use lib.ListN.{length, get_or, set, length-set}
use lib.Seq.{get_or-set_same}
use Rattle.scheme.specs.Lists.{choose◌then◌else◌, last_or, select}
use Rattle.scheme.specs.Sorts.{o, arguments}
use Rattle.casefile.specs.Fields.{word}
use Rattle.casefile.specs.Records.{Record, record_at, end, next, records_of, listed}
use Rattle.std.specs.Prelude.{Some, None, Result, Ok, Err, MatchResult}
use Rattle.std.specs.Result.{IsErrAnd}
use Rattle.records.specs.cursor.Reading.{read_at, part_of}
use Rattle.records.specs.declared.cursor.Record
use Rattle.records.specs.declared.refusal.Refusal
use Rattle.records.specs.declared.refusal.Fault.{Fault}
use Rattle.records.specs.declared.refusal.Fault.TheVariants.{WrongKind}
use Rattle.records.specs.refusal.Numbers.{number_of, code_of}
use Rattle.records.proofs.refusal.Numbers.{number_some}
use Rattle.records.proofs.cursor.Reading.{RecordRead, read_record_law, read_refused, read_end}
use Rattle.casefile.specs.Kinds.{Kind, sort, constructor, nonterminal, rule, states, transition, type, binding, path, number, kind_of, payloads, count, of_kind}
use Rattle.casefile.specs.Tables.{grow, sorts_of, signatures_of}
use Rattle.casefile.specs.Refusals.{Refusal, first, wrong_length, too_many, too_large, out_of_range, misplaced, refuse_as, refuse_kind, last_kind, refuse_record, refuse_whole}
use Rattle.casefile.specs.Cases.{refused_case, unless_refused, accepted_case, case_from}
use Rattle.casefile.proofs.Passed.{Tested, passed_tested}
use Rattle.casefile.specs.Promises.{records_from, Passed, nothing, also}
use Rattle.casefile.proofs.Plans.{signatures_length}
use Rattle.walk.proofs.kinds.Dispatch.{sorts_length}
use Rattle.walk.proofs.kinds.Taking.{number_is}
use Rattle.scheme.proofs.Lists.{or_false, and_false, last_more}
use Rattle.index.specs.layout.Layout.{max_file, max_sorts, max_constructors, max_nonterminals, max_transitions, max_types, max_bindings, hashes, hashes_at, places_at, kinds, all_sorts}
use Rattle.index.specs.entries.Codes.{code_for}
use Rattle.index.specs.entries.Index.{base, Indexed}
use Rattle.index.specs.entries.Chains.{hash_of_spec}
use Rattle.index.proofs.chains.Hashing.{hash_few}
use Rattle.index.proofs.chains.Chaining.{latest_few}
use Rattle.index.specs.entries.Known.{room, Known}
use Rattle.walk.specs.kinds.Codes.{code_as}
use Rattle.walk.specs.kinds.Taking.{Taken}
use Rattle.index.specs.enter.Entering.{Clears, stored, lens_after, chains_after}
use Rattle.walk.specs.walk.Walking.{Walking, WalkEnds, TurnsTo, PassesTo, WalksTo}
use Rattle.walk.proofs.walk.Chains.{chained_none}
use Rattle.walk.proofs.walk.Known.{known_more, known_sort, known_type, chained_before, number_few}
use Rattle.index.proofs.enter.Storing.{number_inj, stored_set, lens_length, lens_other, chains_other, chains_set, chains_length}

-- no record yet
none_indexed : (file index : List ℕ) (k : Kind) (n : ℕ) → n ≡ 0 → Indexed file index k n []
unfolding count of_kind select
none_indexed file index k n e =
    record {
      counted = sym e;
      behind_header = λ i h. absurd (omega arith);
      place_there = λ i h. absurd (omega arith);
      length_there = λ i a h f. absurd (omega arith);
      payload_there = λ i h. absurd (omega arith);
      field_there = λ i h w a l. absurd (omega arith);
    }

-- the counts of the kinds when all are cleared
zero_count : (counts counts' : List ℕ) → length counts ≡ kinds → Clears counts 0 kinds counts' → (k : ℕ) → k < kinds → get_or counts' k 0 ≡ 0
zero_count counts counts' ten c k h = ap (λ j. get_or counts' j 0) (sym (zero-add k)) ∙ c.zeros (omega arith) k h

pub starts : (file index lens lens' counts counts' : List ℕ) → places_at ≤ length index → ((h : ℕ) → h < hashes → get_or index (hashes_at + h) 0 ≡ 0) → length lens ≡ all_sorts → length counts ≡ kinds → Clears counts 0 kinds counts' → lens' ≡ stored lens 0 0
    → Walking file index lens' counts' 0 0
unfolding last_kind last_or records_of sorts_of payloads of_kind select grow arguments
starts file index lens lens' counts counts' hi hz hl hc ec el =
    let none : (k : ℕ) → k < kinds → get_or counts' k 0 ≡ 0 = zero_count counts counts' hc ec in
    let is : lens' ≡ set lens 0 0 = el ∙ stored_set lens 0 0 (omega arith) in
    record {
      rs = [];
      known = record {
        entries = λ k. none_indexed file index k (get_or counts' (number k) 0) (none (number k) (number_few k));
        fits = λ k. let z = none (number k) (number_few k) in omega arith;
        sort_lens = λ i h.
            let none-there = none 1 (omega arith) in
            let first : i ≡ 0 = omega arith in
            rw first (ap (λ z. get_or z 0 0) is ∙ get_or-set_same lens 0 0 0 (omega arith));
        chained = rw (none 7 (omega arith)) (chained_none index hz);
      };
      passed = nothing;
      lastly = refl;
      inside = omega arith;
      same = λ flags. refl;
      all = refl;
      index_long = hi;
      lens_long = ap length is ∙ length-set lens 0 0 ∙ hl;
      counts_long = ec.long ∙ hc;
    }

-- The code of a record is its refusal.
code_none : (rs : List Record) (r : Record) (k : Kind) → 0 ≡ code_for rs r.payload k → refuse_as rs r k ≡ none
unfolding code_for refuse_as first
code_none rs r k e = by (wrong_length k (length r.payload)) (too_many k (count k rs) || too_large rs r.payload k) (out_of_range rs r.payload k) (misplaced rs r.payload k) e
  where
    by : (a b c d : Bool) → ◌≡◌ {A = ℕ} 0 (choose a then 4 else (choose b then 5 else (choose c then 6 else (choose d then 7 else 0))))
        → ◌≡◌ {A = Option Refusal} (choose a then some (record { number = 4; place = r.place }) else (choose b then some (record { number = 5; place = r.place }) else (choose c then some (record { number = 6; place = r.place }) else (choose d then some (record { number = 7; place = r.place }) else none)))) none
    by true b c d e = absurd (omega arith)
    by false true c d e = absurd (omega arith)
    by false false true d e = absurd (omega arith)
    by false false false true e = absurd (omega arith)
    by false false false false e = refl

code_some : (rs : List Record) (r : Record) (k : Kind) (n : ℕ) → n ≡ code_for rs r.payload k → (n ≡ 0 → ⊥) → refuse_as rs r k ≡ some (record { number = n; place = r.place })
unfolding code_for refuse_as first
code_some rs r k n e ne = by (wrong_length k (length r.payload)) (too_many k (count k rs) || too_large rs r.payload k) (out_of_range rs r.payload k) (misplaced rs r.payload k) e
  where
    as_number : (m : ℕ) → n ≡ m → ◌≡◌ {A = Option Refusal} (some (record { number = m; place = r.place })) (some (record { number = n; place = r.place }))
    as_number m f = ap (λ z. some (record { number = z; place = r.place })) (sym f)

    by : (a b c d : Bool) → n ≡ (choose a then 4 else (choose b then 5 else (choose c then 6 else (choose d then 7 else 0))))
        → ◌≡◌ {A = Option Refusal} (choose a then some (record { number = 4; place = r.place }) else (choose b then some (record { number = 5; place = r.place }) else (choose c then some (record { number = 6; place = r.place }) else (choose d then some (record { number = 7; place = r.place }) else none)))) (some (record { number = n; place = r.place }))
    by true b c d e = as_number 4 e
    by false true c d e = as_number 5 e
    by false false true d e = as_number 6 e
    by false false false true e = as_number 7 e
    by false false false false e = absurd (ne e)

module _ (rs : List Record) (r : Record) (up : last_kind rs ≤ r.kind) where
  as_kind : refuse_record rs r ≡ refuse_kind rs r (kind_of r.kind)
  unfolding refuse_record
  as_kind = simp (le-ltb r.kind (last_kind rs) up)

  pub refused_code : (n : ℕ) → n ≡ code_as rs r.payload (kind_of r.kind) → (n ≡ 0 → ⊥) → refuse_record rs r ≡ some (record { number = n; place = r.place })
  unfolding code_as refuse_kind
  refused_code n e ne = as_kind ∙ by (kind_of r.kind) e
    where
      by : (x : Option Kind) → n ≡ code_as rs r.payload x → refuse_kind rs r x ≡ some (record { number = n; place = r.place })
      by none f = ap (λ z. some (record { number = z; place = r.place })) (sym f)
      by (some k) f = code_some rs r k n f ne

  -- a record with code 0 passes, and its kind is known
  pub passed_code : 0 ≡ code_as rs r.payload (kind_of r.kind) → (refuse_record rs r ≡ none) × ((k : Kind) × (kind_of r.kind ≡ some k))
  unfolding code_as refuse_kind
  passed_code e = by (kind_of r.kind) refl e
    where
      by : (x : Option Kind) → kind_of r.kind ≡ x → 0 ≡ code_as rs r.payload x → (refuse_record rs r ≡ none) × ((k : Kind) × (x ≡ some k))
      by none f g = absurd (omega arith)
      by (some k) f g = (as_kind ∙ ap (refuse_kind rs r) f ∙ code_none rs r k g, (k, refl))

-- There is room for a record that passed.
room_left : (k : Kind) (rs : List Record) (p : List ℕ) → Tested rs p k → count nonterminal rs ≤ max_nonterminals → count k rs < room k
unfolding too_many out_of_range
room_left sort rs p t h = leb-false max_sorts (count sort rs) (or_false (leb max_sorts (count sort rs)) (too_large rs p sort) t.few).0
room_left constructor rs p t h = leb-false max_constructors (count constructor rs) (or_false (leb max_constructors (count constructor rs)) (too_large rs p constructor) t.few).0
room_left nonterminal rs p t h = leb-false max_nonterminals (count nonterminal rs) (or_false (leb max_nonterminals (count nonterminal rs)) (too_large rs p nonterminal) t.few).0
room_left rule rs p t h = let below = leb-false (length (signatures_of rs)) (count rule rs) (or_false (leb (length (signatures_of rs)) (count rule rs)) _ t.ranges).0 in let e = signatures_length rs in omega arith
room_left states rs p t h = leb-false 1 (count states rs) (or_false (leb 1 (count states rs)) (too_large rs p states) t.few).0
room_left transition rs p t h = leb-false max_transitions (count transition rs) (or_false (leb max_transitions (count transition rs)) (too_large rs p transition) t.few).0
room_left type rs p t h = leb-false max_types (count type rs) (or_false (leb max_types (count type rs)) (too_large rs p type) t.few).0
room_left binding rs p t h = leb-false max_bindings (count binding rs) (or_false (leb max_bindings (count binding rs)) (too_large rs p binding) t.few).0
room_left path rs p t h = leb-false 1 (count path rs) (or_false (leb 1 (count path rs)) (too_large rs p path) t.few).0

-- the sort that `to` names is listed
to_listed : (rs : List Record) (p : List ℕ) → Tested rs p sort → word p 2 ≤ count sort rs
unfolding out_of_range
to_listed rs p t =
    let below = leb-false (length (sorts_of rs)) (word p 2) (or_false (leb (length (sorts_of rs)) (word p 0)) (leb (length (sorts_of rs)) (word p 2)) t.ranges).1 in
    let e = sorts_length rs in
    omega arith

last_kind_law : (rs : List Record) (r : Record) → last_kind (rs ++ (r ∷ [])) ≡ r.kind
unfolding last_kind last_or
last_kind_law rs r = ap (last_or 0) (map-append (λ (r : Record). r.kind) rs (r ∷ [])) ∙ last_more 0 (map (λ (r : Record). r.kind) rs) r.kind

room_few : (k : Kind) → room k ≤ 1024
room_few sort = omega arith
room_few constructor = omega arith
room_few nonterminal = omega arith
room_few rule = omega arith
room_few states = omega arith
room_few transition = omega arith
room_few type = omega arith
room_few binding = omega arith
room_few path = omega arith

module _ {file index lens counts : List ℕ} {at last : ℕ} (w : Walking file index lens counts at last) where
  -- the walk ends, with a record that is cut or with every record read
  pub ends_refused : (x : Refusal.Refusal) → Err x ≡ read_at file at → WalkEnds file index lens counts (Err x)
  unfolding WalkEnds case_from
  ends_refused x e = λ flags.
      let rr = read_refused file at x (sym e) in
      sym (w.same flags) ∙ ap (λ z. case_from flags z w.rs) rr.walk_is ∙ ap (λ f. refused_case (record { number = number_of f; place = x.place })) (sym rr.fault_is)

  pub ends_read : Ok None ≡ read_at file at → WalkEnds file index lens counts (Ok tt)
  unfolding WalkEnds case_from listed
  ends_read e = record { passed = subst Passed is w.passed; known = subst (Known file index lens counts) is w.known; left = λ flags. sym (w.same flags) ∙ ap (λ z. case_from flags z w.rs) done ∙ ap (λ z. unless_refused (refuse_whole z flags) (accepted_case z (payloads path z))) is }
    where
      done : records_from file at ≡ end
      done = read_end file at (sym e)

      is : w.rs ≡ listed (records_of file)
      is = sym (append-nil w.rs) ∙ ap (λ z. w.rs ++ listed z) (sym done) ∙ w.all

  module _ (got : Record.Record) (e : Ok (Some got) ≡ read_at file at) where
    abbrev place : ℕ
    place = got.place

    abbrev start : ℕ
    start = got.start

    abbrev kind : ℕ
    kind = got.kind

    rr : RecordRead file at got
    rr = read_record_law file at got (sym e)

    r : Record
    r = record_at file place

    r_kind : r.kind ≡ kind
    unfolding r record_at
    r_kind = sym rr.kind_is

    r_place : r.place ≡ place
    unfolding r record_at
    r_place = refl

    -- one step of the walk
    stepped : records_from file at ≡ next r (records_from file got.next.at)
    unfolding r
    stepped = rr.walk_is

    refuses : (x : Refusal) → refuse_record w.rs r ≡ some x → (flags : ℕ) → case_from flags (records_of file) [] ≡ refused_case x
    unfolding case_from unless_refused
    refuses x f flags = sym (w.same flags) ∙ ap (λ z. case_from flags z w.rs) stepped ∙ ap (λ z. unless_refused z (case_from flags (records_from file got.next.at) (w.rs ++ (r ∷ [])))) f

    as_place : (f : Fault) → refuse_record w.rs r ≡ some (record { number = number_of f; place = r.place }) → WalkEnds file index lens counts (Err (record { fault = f; place = place }))
    unfolding WalkEnds
    as_place f g = refuses (record { number = number_of f; place = place }) (g ∙ ap (λ z. some (record { number = number_of f; place = z })) r_place)

    -- a kind lower than the one before
    pub falls : kind < last → WalkEnds file index lens counts (Err (record { fault = WrongKind; place = place }))
    unfolding refuse_record
    falls h = as_place WrongKind (simp (lt-ltb r.kind (last_kind w.rs) (let a = w.lastly in let b = r_kind in omega arith)))

    r_payload : (p : List ℕ) → p ≡ part_of file start got.len → p ≡ r.payload
    unfolding r
    r_payload p ep = ep ∙ rr.payload_is

    not_lower : last ≤ kind → last_kind w.rs ≤ r.kind
    not_lower h = let a = w.lastly in let b = r_kind in omega arith

    code_is : (p : List ℕ) (n : ℕ) → p ≡ part_of file start got.len → n ≡ code_as w.rs p (kind_of kind) → n ≡ code_as w.rs r.payload (kind_of r.kind)
    code_is p n ep en = en ∙ ap₂ (λ x y. code_as w.rs x (kind_of y)) (r_payload p ep) (sym r_kind)

    -- a record that meets one of 3 to 7
    pub turned : (p : List ℕ) (f : Fault) → p ≡ part_of file start got.len → last ≤ kind → number_of f ≡ code_as w.rs p (kind_of kind) → WalkEnds file index lens counts (Err (record { fault = f; place = place }))
    turned p f ep up en = as_place f (refused_code w.rs r (not_lower up) (number_of f) (code_is p (number_of f) ep en) (λ z. let some = number_some f in omega arith))

    -- a record that passes
    module _ (p index' lens' counts' : List ℕ) (ep : p ≡ part_of file start got.len) (up : last ≤ kind) (ez : 0 ≡ code_as w.rs p (kind_of kind)) (few : length file ≤ max_file)
        (ei : (k : Kind) → kind ≡ number k → index' ≡ chains_after (stored index (base k + get_or counts kind 0) start) kind (get_or counts kind 0) p)
        (el : lens' ≡ lens_after lens kind (get_or counts kind 0) p) (ec : counts' ≡ stored counts kind (get_or counts kind 0 + 1)) where
      passes : (refuse_record w.rs r ≡ none) × ((k : Kind) × (kind_of r.kind ≡ some k))
      passes = passed_code w.rs r (not_lower up) (code_is p 0 ep ez)

      k : Kind
      k = passes.1.0

      is_kind : kind ≡ number k
      unfolding k
      is_kind = sym r_kind ∙ number_is r.kind passes.1.0 passes.1.1

      now_kind : eqb r.kind (number k) ≡ true
      now_kind = eq-eqb r.kind (number k) (r_kind ∙ is_kind)

      tests : Tested w.rs r.payload k
      tests = passed_tested w.rs r k passes.0 now_kind

      abbrev n : ℕ
      n = get_or counts (number k) 0

      counted : count k w.rs ≡ n
      counted = (w.known.entries k).counted

      many : n < room k
      many = subst (λ z. z < room k) counted (room_left k w.rs r.payload tests (let h = w.known.fits nonterminal in let c = (w.known.entries nonterminal).counted in omega arith))

      start_few : start < 65536
      start_few = let a = rr.start_is in let b = rr.next_is in let c = rr.next_fits in omega arith

      index_is : index' ≡ chains_after (set index (base k + n) start) kind n r.payload
      index_is =
          ei k is_kind ∙ ap₂ (λ z y. chains_after (stored index (base k + get_or counts z 0) start) kind (get_or counts z 0) y) is_kind (r_payload p ep)
          ∙ ap (λ z. chains_after z kind n r.payload) (stored_set index (base k + n) start start_few)

      index_other : (number k ≡ 7 → ⊥) → index' ≡ set index (base k + n) start
      index_other ne = index_is ∙ sym (chains_other (set index (base k + n) start) kind n r.payload (λ z. ne (sym is_kind ∙ z)))

      counts_is : counts' ≡ set counts (number k) (n + 1)
      counts_is = ec ∙ ap (λ z. stored counts z (get_or counts z 0 + 1)) is_kind ∙ stored_set counts (number k) (get_or counts (number k) 0 + 1) (let h = room_few k in let m = many in omega arith)

      r_is : r ≡ record_at file place
      unfolding r
      r_is = refl

      -- the arguments of the sort that a sort's `to` names
      arguments_few : k ≡ sort → (word r.payload 2 ≤ n) × (get_or lens (word r.payload 2) 0 < 8)
      unfolding too_large number
      arguments_few e =
          let t = subst (Tested w.rs r.payload) e tests in
          let m = sorts_length w.rs in
          let l = to_listed w.rs r.payload t in
          let c = (w.known.entries sort).counted in
          let same : n ≡ get_or counts 1 0 = ap (λ z. get_or counts (number z) 0) e in
          let few = and_false (ltb (word r.payload 2) (length (sorts_of w.rs))) (ltb 8 (suc (length (arguments (get_or (sorts_of w.rs) (word r.payload 2) o))))) (or_false (too_many sort (count sort w.rs)) (too_large w.rs r.payload sort) t.few).1 (lt-ltb (word r.payload 2) (length (sorts_of w.rs)) (omega arith)) in
          let below = ltb-false 8 (suc (length (arguments (get_or (sorts_of w.rs) (word r.payload 2) o)))) few in
          let is = w.known.sort_lens (word r.payload 2) (omega arith) in
          (omega arith, omega arith)

      abbrev next_records : List Record
      next_records = w.rs ++ (r ∷ [])

      as_told : (y x : List ℕ) → index' ≡ y → lens' ≡ x → Known file y x (set counts (number k) (n + 1)) next_records → Known file index' lens' counts' next_records
      as_told y x f e h = subst (λ z. Known file index' lens' z next_records) (sym counts_is) (subst (λ z. Known file index' z (set counts (number k) (n + 1)) next_records) (sym e) (subst (λ z. Known file z x (set counts (number k) (n + 1)) next_records) (sym f) h))

      lens_kept : (number k ≡ 1 → ⊥) → lens' ≡ lens
      lens_kept ne = el ∙ sym (lens_other lens kind (get_or counts kind 0) p (λ z. ne (sym is_kind ∙ z)))

      known_next : Known file index' lens' counts' next_records
      unfolding lens_after number
      known_next = by (ℕ_discrete (number k) 1) (ℕ_discrete (number k) 7)
        where
          by : Dec (number k ≡ 1) → Dec (number k ≡ 7) → Known file index' lens' counts' next_records
          by (no ne) (no ne') = as_told (set index (base k + n) start) lens (index_other ne') (lens_kept ne) (known_more file index lens counts w.rs w.known r place start r_is rr.fits rr.start_is k (r_kind ∙ is_kind) many w.index_long w.counts_long ne ne')
          by (no ne) (yes e) =
              let before = chained_before file index lens counts w.rs w.known r place start r_is rr.fits rr.start_is k (r_kind ∙ is_kind) many w.index_long w.counts_long e in
              let small = before.heads (hash_of_spec r.payload) (hash_few r.payload) in
              let below = latest_few (payloads type w.rs) (hash_of_spec r.payload) n in
              let rooms = room_few k in
              let m = many in
              as_told _ lens (index_is ∙ chains_set (set index (base k + n) start) kind n r.payload (is_kind ∙ e) (omega arith) (omega arith)) (lens_kept ne)
              (known_type file index lens counts w.rs w.known r place start r_is rr.fits rr.start_is k (r_kind ∙ is_kind) many w.index_long w.counts_long e)
          by (yes e) d =
              let is_sort : k ≡ sort = number_inj k sort e in
              let (listed-to, few_arguments) = arguments_few is_sort in
              let len = get_or lens (word r.payload 2) 0 + 1 in
              as_told (set index (base k + n) start) (set lens (n + 1) len) (index_other (λ f. let z : ◌≡◌ {A = ℕ} 1 7 = sym e ∙ f in omega arith))
              (el ∙ ap₂ (λ x y. lens_after lens kind (get_or counts x 0) y) is_kind (r_payload p ep) ∙ simp (eq-eqb kind 1 (is_kind ∙ e)) (stored_set lens (n + 1) len (omega arith)))
              (known_sort file index lens counts w.rs w.known r place start r_is rr.fits rr.start_is k (r_kind ∙ is_kind) many w.index_long w.counts_long is_sort len listed-to refl w.lens_long)

      pub goes_on : Walking file index' lens' counts' got.next.at kind
      unfolding case_from unless_refused listed
      goes_on =
          record {
            rs = next_records;
            known = known_next;
            passed = also r w.passed passes.0;
            lastly = last_kind_law w.rs r ∙ r_kind;
            inside = rr.next_fits;
            same = λ flags. sym (ap (λ z. unless_refused z (case_from flags (records_from file got.next.at) next_records)) passes.0) ∙ sym (ap (λ z. case_from flags z w.rs) stepped) ∙ w.same flags;
            all = append_assoc w.rs (r ∷ []) (listed (records_from file got.next.at)) ∙ sym (ap (λ z. w.rs ++ listed z) stepped) ∙ w.all;
            index_long = subst (λ z. places_at ≤ z) (sym (ap length index_is ∙ chains_length (set index (base k + n) start) kind n r.payload ∙ length-set index (base k + n) start)) w.index_long;
            lens_long = ap length el ∙ lens_length lens kind (get_or counts kind 0) p ∙ w.lens_long;
            counts_long = ap length counts_is ∙ length-set counts (number k) (n + 1) ∙ w.counts_long;
          }

-- How a turn ends, from what its functions promise.
module _ {file index lens counts : List ℕ} {last : ℕ} (got : Record.Record) where
  -- a kind lower than the one before
  pub turn_falls : got.kind < last → (x : Refusal.Refusal) → x ≡ record { fault = WrongKind; place = got.place } → TurnsTo file got last index lens counts index lens counts (Err x)
  turn_falls h x e = record { comes_to = λ at eg few w. subst (λ z. WalkEnds file index lens counts (Err z)) (sym e) (falls w got eg h) }

  module _ (p index' lens' counts' : List ℕ) (ep : p ≡ part_of file got.start got.len) (up : last ≤ got.kind) where
    -- a record that meets one of 3 to 7
    pub turn_refuses : (f : Fault) → Taken file index lens counts got.kind got.start p index' lens' counts' (number_of f) → (x : Refusal.Refusal) → x ≡ record { fault = f; place = got.place } → TurnsTo file got last index lens counts index' lens' counts' (Err x)
    turn_refuses f taken x e = record {
      comes_to = λ at eg few w.
          let some = number_some f in
          let ends = turned w got eg p f ep up (taken.code w.rs w.known w.passed) in
          let stay = taken.stay (λ z. omega arith) in
          subst (λ z. WalkEnds file index' lens' counts' (Err z)) (sym e) (rw (stay.0, stay.1, stay.2) ends);
    }

    -- a record that passes
    pub turn_goes_on : Taken file index lens counts got.kind got.start p index' lens' counts' 0 → TurnsTo file got last index lens counts index' lens' counts' (Ok tt)
    turn_goes_on taken = record {
      comes_to = λ at eg.
          let rr = read_record_law file at got (sym eg) in
          let told = taken.entered refl in
          record {
            less = (let a = rr.inside in let b = rr.next_is in let d = rr.next_fits in let f = rr.onward in omega arith);
            walking = λ few w. goes_on w got eg p index' lens' counts' ep up (taken.code w.rs w.known w.passed) few told.index_is told.lens_are told.counts_are;
          };
    }

  -- what a turn answers, from the code of its record
  pub turn_ends : (p index' lens' counts' : List ℕ) → p ≡ part_of file got.start got.len → last ≤ got.kind → (t : Result Unit Fault) (r : Result Unit Refusal.Refusal) → Taken file index lens counts got.kind got.start p index' lens' counts' (code_of t)
      → MatchResult t (λ x. r ≡ Ok x) (λ f. IsErrAnd r (λ x. x ≡ record { fault = f; place = got.place })) → TurnsTo file got last index lens counts index' lens' counts' r
  turn_ends p index' lens' counts' ep up (Ok x) r taken e = subst (TurnsTo file got last index lens counts index' lens' counts') (sym e) (turn_goes_on p index' lens' counts' ep up taken)
  turn_ends p index' lens' counts' ep up (Err f) (Ok x) taken e = absurd e
  turn_ends p index' lens' counts' ep up (Err f) (Err y) taken e = turn_refuses p index' lens' counts' ep up f taken y e

pub whole_walk : (file index index' lens lens' counts counts' index'' lens'' counts'' : List ℕ) (r : Result Unit Refusal.Refusal) → Clears counts 0 kinds counts' → lens' ≡ stored lens 0 0 → Clears index hashes_at hashes index'
    → PassesTo file index' lens' counts' index'' lens'' counts'' r → WalksTo file index lens counts index'' lens'' counts'' r
whole_walk file index index' lens lens' counts counts' index'' lens'' counts'' r ec el empty passes = λ hi hl hc few.
    passes few (starts file index' lens lens' counts counts' (subst (λ z. places_at ≤ z) (sym empty.long) hi) (empty.zeros (omega arith)) hl hc ec el)

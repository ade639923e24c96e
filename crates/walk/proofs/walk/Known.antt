-- One record more: the arrays of the walk go on to hold what they should.
-- The blocks of the index do not meet, so an entry of one kind leaves the others as they are.
use Prim.Native.Nat.{ℕ, suc, ◌+◌, ◌<◌, ◌≤◌}
use native.Mathlib.Omega.{arith}
use native.Mathlib.Decide.{ℕ_discrete, dec_lt}
use mathlib.Core.Path.{◌≡◌, refl, sym, ap, subst, ◌∙◌}
use mathlib.Core.Logic.{◌⊎◌, inl, inr, ◌≢◌}
use mathlib.Core.Bool.{true, false}
use mathlib.Core.List.{List, [], ◌∷◌, ◌++◌, map, map-append, append-nil}
use borrow.Author.Tests.{eq-eqb, ne_eqb, le-ltb, lt-ltb}
use lib.Dec.{eqb, ltb}
use lib.ListN.{length, get_or, set, length-set, length-map, length-append, get_or-append}
use lib.Seq.{get_or_at, get_or-set_same, get_or-set_other, get_or-append_seam}
use Rattle.scheme.specs.Lists.{choose◌then◌else◌, keep_if, select}
use Rattle.scheme.proofs.Lists.{select_append}
use Rattle.scheme.specs.Sorts.{Sort, o, arguments}
use Rattle.casefile.specs.Fields.{field, word}
use Rattle.casefile.specs.Records.{Record, whole, record_at}
use Rattle.casefile.proofs.Fields.{field_part}
use Rattle.records.specs.cursor.Reading.{part_of}
use Rattle.casefile.proofs.Walk.{whole_end, payload_length}
use Rattle.records.proofs.cursor.Reading.{part_of_law}
use Rattle.casefile.specs.Kinds.{Kind, sort, constructor, nonterminal, rule, states, transition, type, binding, path, number, of_kind, payloads, count, place_of}
use Rattle.casefile.specs.Tables.{grow, sort_from, sorts_of}
use Rattle.casefile.proofs.Passed.{payloads_more, payloads_other}
use Rattle.casefile.proofs.Growth.{grow_append, grow_length}
use Rattle.casefile.proofs.TypeTable.{count_payloads}
use Rattle.index.specs.layout.Layout.{max_sorts, max_types, sorts_at, constructors_at, nonterminals_at, rules_at, transitions_at, types_at, bindings_at, states_at, path_at, hashes_at, links_at, places_at, kinds, all_sorts}
use Rattle.index.specs.entries.Index.{base, Indexed}
use Rattle.index.proofs.entries.Stays.{indexed_same}
use Rattle.index.specs.entries.Chains.{hash_of_spec, Chained}
use Rattle.index.specs.entries.Known.{room, Known}
use Rattle.index.proofs.enter.Storing.{number_inj}
use Rattle.walk.proofs.walk.Chains.{chained_below, chained_more}

-- the number of the kind whose block holds a place of the index
block_of : ℕ → ℕ
block_of n = choose ltb n constructors_at then 1 else (choose ltb n nonterminals_at then 2 else (choose ltb n rules_at then 3 else (choose ltb n transitions_at then 4 else (choose ltb n types_at then 6 else (choose ltb n bindings_at then 7 else (choose ltb n states_at then 8 else (choose ltb n path_at then 5 else 9)))))))

block : (k : Kind) (i : ℕ) → i < room k → block_of (base k + i) ≡ number k
unfolding block_of number
block sort i h = simp (lt-ltb (sorts_at + i) constructors_at (omega arith))
block constructor i h = simp (le-ltb (constructors_at + i) constructors_at (omega arith), lt-ltb (constructors_at + i) nonterminals_at (omega arith))
block nonterminal i h = simp (le-ltb (nonterminals_at + i) constructors_at (omega arith), le-ltb (nonterminals_at + i) nonterminals_at (omega arith), lt-ltb (nonterminals_at + i) rules_at (omega arith))
block rule i h = simp (le-ltb (rules_at + i) constructors_at (omega arith), le-ltb (rules_at + i) nonterminals_at (omega arith), le-ltb (rules_at + i) rules_at (omega arith), lt-ltb (rules_at + i) transitions_at (omega arith))
block states i h = simp (le-ltb (states_at + i) constructors_at (omega arith), le-ltb (states_at + i) nonterminals_at (omega arith), le-ltb (states_at + i) rules_at (omega arith), le-ltb (states_at + i) transitions_at (omega arith), le-ltb (states_at + i) types_at (omega arith), le-ltb (states_at + i) bindings_at (omega arith), le-ltb (states_at + i) states_at (omega arith), lt-ltb (states_at + i) path_at (omega arith))
block transition i h = simp (le-ltb (transitions_at + i) constructors_at (omega arith), le-ltb (transitions_at + i) nonterminals_at (omega arith), le-ltb (transitions_at + i) rules_at (omega arith), le-ltb (transitions_at + i) transitions_at (omega arith), lt-ltb (transitions_at + i) types_at (omega arith))
block type i h = simp (le-ltb (types_at + i) constructors_at (omega arith), le-ltb (types_at + i) nonterminals_at (omega arith), le-ltb (types_at + i) rules_at (omega arith), le-ltb (types_at + i) transitions_at (omega arith), le-ltb (types_at + i) types_at (omega arith), lt-ltb (types_at + i) bindings_at (omega arith))
block binding i h = simp (le-ltb (bindings_at + i) constructors_at (omega arith), le-ltb (bindings_at + i) nonterminals_at (omega arith), le-ltb (bindings_at + i) rules_at (omega arith), le-ltb (bindings_at + i) transitions_at (omega arith), le-ltb (bindings_at + i) types_at (omega arith), le-ltb (bindings_at + i) bindings_at (omega arith), lt-ltb (bindings_at + i) states_at (omega arith))
block path i h = simp (le-ltb (path_at + i) constructors_at (omega arith), le-ltb (path_at + i) nonterminals_at (omega arith), le-ltb (path_at + i) rules_at (omega arith), le-ltb (path_at + i) transitions_at (omega arith), le-ltb (path_at + i) types_at (omega arith), le-ltb (path_at + i) bindings_at (omega arith), le-ltb (path_at + i) states_at (omega arith), le-ltb (path_at + i) path_at (omega arith))

-- places of two kinds differ
apart : (k k' : Kind) (i j : ℕ) → i < room k → j < room k' → (number k ≡ number k' → ⊥) → base k + i ≢ base k' + j
apart k k' i j h h' ne e = ne (sym (block k i h) ∙ ap block_of e ∙ block k' j h')

-- the places of records, with one record more
place_other : (k : Kind) (rs : List Record) (r : Record) → eqb r.kind (number k) ≡ false → (i : ℕ) → place_of k (rs ++ (r ∷ [])) i ≡ place_of k rs i
unfolding of_kind select keep_if
place_other k rs r e i = rw (select_append, e, append-nil) refl

places_more : (k : Kind) (rs : List Record) (r : Record) → eqb r.kind (number k) ≡ true → map (λ (r : Record). r.place) (of_kind k (rs ++ (r ∷ []))) ≡ map (λ (r : Record). r.place) (of_kind k rs) ++ (r.place ∷ [])
unfolding of_kind select keep_if
places_more k rs r e = rw (select_append, e) (map-append (λ (r : Record). r.place) (of_kind k rs) (r ∷ []))

places_many : (k : Kind) (rs : List Record) → length (map (λ (r : Record). r.place) (of_kind k rs)) ≡ count k rs
unfolding count
places_many k rs = length-map (of_kind k rs) (λ (r : Record). r.place)

-- the entries of a kind stay where another place of the index is written
module _ (file index : List ℕ) (rs : List Record) (r : Record) (k : Kind) (n : ℕ) (old : Indexed file index k n rs) where
  -- the record is of another kind
  other_kind : (place start : ℕ) → ((i : ℕ) → i < n → base k + i ≢ place) → eqb r.kind (number k) ≡ false → Indexed file (set index place start) k n (rs ++ (r ∷ []))
  other_kind place start away e =
      let same = payloads_other k rs r e in
      record {
        counted = count_payloads k (rs ++ (r ∷ [])) ∙ ap length same ∙ sym (count_payloads k rs) ∙ old.counted;
        behind_header = λ i h. rw (get_or-set_other index place (base k + i) start 0 (away i h)) (old.behind_header i h);
        place_there = λ i h. ap (◌+ 4) (place_other k rs r e i) ∙ old.place_there i h ∙ sym (get_or-set_other index place (base k + i) start 0 (away i h));
        length_there = λ i at h f. rw same (old.length_there i at h (f ∙ get_or-set_other index place (base k + i) start 0 (away i h)));
        payload_there = λ i h. rw (get_or-set_other index place (base k + i) start 0 (away i h), same) (old.payload_there i h);
        field_there = λ i h w at l. rw (get_or-set_other index place (base k + i) start 0 (away i h), same) (old.field_there i h w at (rw same at l));
      }

  -- the record is of the kind, and its payload starts at `start`
  module _ (at start : ℕ) (is-record : r ≡ record_at file at) (fits : whole file at ≡ true) (is-start : start ≡ at + 4)
      (long : base k + n < length index) (e : eqb r.kind (number k) ≡ true) where
    index' : List ℕ
    index' = set index (base k + n) start

    all_payloads : payloads k (rs ++ (r ∷ [])) ≡ payloads k rs ++ (r.payload ∷ [])
    all_payloads = payloads_more k rs r e

    so_many : length (payloads k rs) ≡ n
    so_many = sym (count_payloads k rs) ∙ old.counted

    old_payload : (i : ℕ) → i < n → get_or (payloads k (rs ++ (r ∷ []))) i [] ≡ get_or (payloads k rs) i []
    old_payload i h = ap (λ l. get_or l i []) all_payloads ∙ get_or-append (payloads k rs) (r.payload ∷ []) [] i (omega (arith, so_many))

    new_payload : get_or (payloads k (rs ++ (r ∷ []))) n [] ≡ (record_at file at).payload
    new_payload =
        ap (λ l. get_or l n []) all_payloads ∙ ap (λ m. get_or (payloads k rs ++ (r.payload ∷ [])) m []) (sym so_many) ∙ get_or-append_seam (payloads k rs) r.payload [] []
        ∙ ap (λ (z : Record). z.payload) is-record

    old_place : (i : ℕ) → i < n → get_or index' (base k + i) 0 ≡ get_or index (base k + i) 0
    unfolding index'
    old_place i h = get_or-set_other index (base k + n) (base k + i) start 0 (omega arith)

    new_place : get_or index' (base k + n) 0 ≡ at + 4
    unfolding index'
    new_place = get_or-set_same index (base k + n) start 0 long ∙ is-start

    last_or : (i : ℕ) → i < suc n → (i < n) ⊎ (i ≡ n)
    last_or i h = go (dec_lt i n)
      where
        go : Dec (i < n) → (i < n) ⊎ (i ≡ n)
        go (yes l) = inl l
        go (no l) = inr (omega arith)

    -- something of every entry, the new one among them
    each : (P : ℕ → List ℕ → Type 0) → ((i : ℕ) → i < n → P (get_or index (base k + i) 0) (get_or (payloads k rs) i [])) → P (at + 4) (record_at file at).payload
        → (i : ℕ) → i < suc n → P (get_or index' (base k + i) 0) (get_or (payloads k (rs ++ (r ∷ []))) i [])
    each P olds new i h = go (last_or i h)
      where
        go : (i < n) ⊎ (i ≡ n) → P (get_or index' (base k + i) 0) (get_or (payloads k (rs ++ (r ∷ []))) i [])
        go (inl l) = rw (old_place i l, old_payload i l) (olds i l)
        go (inr f) = rw f (rw (new_place, new_payload) new)

    old_where : (i : ℕ) → i < n → place_of k (rs ++ (r ∷ [])) i ≡ place_of k rs i
    old_where i h = ap (λ l. get_or l i 0) (places_more k rs r e) ∙ get_or-append (map (λ (r : Record). r.place) (of_kind k rs)) (r.place ∷ []) 0 i (let a = places_many k rs in let b = old.counted in omega arith)

    new_where : place_of k (rs ++ (r ∷ [])) n ≡ at
    unfolding record_at
    new_where = ap (λ l. get_or l n 0) (places_more k rs r e) ∙ get_or_at (map (λ (r : Record). r.place) (of_kind k rs)) r.place [] 0 n (places_many k rs ∙ old.counted) ∙ ap (λ (z : Record). z.place) is-record

    where_all : (i : ℕ) → i < suc n → place_of k (rs ++ (r ∷ [])) i + 4 ≡ get_or index' (base k + i) 0
    where_all i h = go (last_or i h)
      where
        go : (i < n) ⊎ (i ≡ n) → place_of k (rs ++ (r ∷ [])) i + 4 ≡ get_or index' (base k + i) 0
        go (inl l) = ap (◌+ 4) (old_where i l) ∙ old.place_there i l ∙ sym (old_place i l)
        go (inr f) = rw f (ap (◌+ 4) new_where ∙ sym new_place)

    new_length : (a : ℕ) → a + 4 ≡ at + 4 → word file a ≡ length (record_at file at).payload
    new_length a f = let same : a ≡ at = omega arith in ap (word file) same ∙ sym (payload_length file at fits)

    new_field : (w off : ℕ) → off + w ≤ length (record_at file at).payload → field w file (at + 4 + off) ≡ field w (record_at file at).payload off
    unfolding record_at
    new_field w off h = sym (field_part w file (at + 4) (word file at) off (subst (λ m. off + w ≤ m) (payload_length file at fits) h))

    new_part : part_of file (at + 4) (length (record_at file at).payload) ≡ (record_at file at).payload
    unfolding record_at
    new_part = ap (part_of file (at + 4)) (payload_length file at fits) ∙ part_of_law file (at + 4) (word file at) (whole_end file at fits)

    pub same_kind : Indexed file (set index (base k + n) start) k (suc n) (rs ++ (r ∷ []))
    unfolding index'
    same_kind =
        record {
          counted = count_payloads k (rs ++ (r ∷ [])) ∙ ap length all_payloads ∙ length-append (payloads k rs) (r.payload ∷ []) ∙ omega (arith, so_many);
          behind_header = each (λ a p. 4 ≤ a) (λ i h. old.behind_header i h) (omega arith);
          place_there = where_all;
          length_there = λ i a h. each (λ b p. a + 4 ≡ b → word file a ≡ length p) (λ j l. old.length_there j a l) (new_length a) i h;
          payload_there = each (λ b p. part_of file b (length p) ≡ p) (λ i h. old.payload_there i h) new_part;
          field_there = each (λ b p. (w off : ℕ) → off + w ≤ length p → field w file (b + off) ≡ field w p off) (λ i h. old.field_there i h) new_field;
        }

pub number_few : (k : Kind) → number k < kinds
unfolding number
number_few sort = omega arith
number_few constructor = omega arith
number_few nonterminal = omega arith
number_few rule = omega arith
number_few states = omega arith
number_few transition = omega arith
number_few type = omega arith
number_few binding = omega arith
number_few path = omega arith

pub base_room : (k : Kind) (i : ℕ) → i < room k → base k + i < hashes_at
base_room sort i h = omega arith
base_room constructor i h = omega arith
base_room nonterminal i h = omega arith
base_room rule i h = omega arith
base_room states i h = omega arith
base_room transition i h = omega arith
base_room type i h = omega arith
base_room binding i h = omega arith
base_room path i h = omega arith

-- A record of kind k more, for which there is room.
module _ (file index lens counts : List ℕ) (rs : List Record) (known : Known file index lens counts rs)
    (r : Record) (at start : ℕ) (is-record : r ≡ record_at file at) (fits : whole file at ≡ true) (is-start : start ≡ at + 4)
    (k : Kind) (is_kind : r.kind ≡ number k) (many : get_or counts (number k) 0 < room k)
    (index_long : places_at ≤ length index) (counts_long : length counts ≡ kinds) where
  abbrev n : ℕ
  n = get_or counts (number k) 0

  abbrev counts⁺ : List ℕ
  counts⁺ = set counts (number k) (n + 1)

  abbrev index⁺ : List ℕ
  index⁺ = set index (base k + n) start

  counted_here : get_or counts⁺ (number k) 0 ≡ n + 1
  counted_here = get_or-set_same counts (number k) (n + 1) 0 (let h = number_few k in omega arith)

  counted_other : (k' : Kind) → number k' ≢ number k → get_or counts⁺ (number k') 0 ≡ get_or counts (number k') 0
  counted_other k' ne = get_or-set_other counts (number k) (number k') (n + 1) 0 ne

  entries_here : Indexed file index⁺ k (get_or counts⁺ (number k) 0) (rs ++ (r ∷ []))
  entries_here =
      let one : suc n ≡ n + 1 = omega arith in
      rw (counted_here, ← one) (same_kind file index rs r k n (known.entries k) at start is-record fits is-start (let h = base_room k n many in omega arith) (eq-eqb r.kind (number k) is_kind))

  entries_other : (k' : Kind) → number k' ≢ number k → Indexed file index⁺ k' (get_or counts⁺ (number k') 0) (rs ++ (r ∷ []))
  entries_other k' ne =
      rw (counted_other k' ne) (other_kind file index rs r k' (get_or counts (number k') 0) (known.entries k') (base k + n) start
      (λ i h. apart k' k i n (let f = known.fits k' in omega arith) many ne)
      (ne_eqb r.kind (number k') (λ e. ne (sym e ∙ is_kind))))

  entries_all : (k' : Kind) → Indexed file index⁺ k' (get_or counts⁺ (number k') 0) (rs ++ (r ∷ []))
  entries_all k' = go (ℕ_discrete (number k') (number k))
    where
      go : Dec (number k' ≡ number k) → Indexed file index⁺ k' (get_or counts⁺ (number k') 0) (rs ++ (r ∷ []))
      go (yes e) = subst (λ z. Indexed file index⁺ z (get_or counts⁺ (number z) 0) (rs ++ (r ∷ []))) (sym (number_inj k' k e)) entries_here
      go (no ne) = entries_other k' ne

  fits_all : (k' : Kind) → get_or counts⁺ (number k') 0 ≤ room k'
  fits_all k' = go (ℕ_discrete (number k') (number k))
    where
      go : Dec (number k' ≡ number k) → get_or counts⁺ (number k') 0 ≤ room k'
      go (yes e) = subst (λ z. get_or counts⁺ (number z) 0 ≤ room z) (sym (number_inj k' k e)) (let f = counted_here in omega arith)
      go (no ne) = let f = counted_other k' ne in let g = known.fits k' in omega arith

  chained⁺ : Chained index⁺ (payloads type rs) (get_or counts 7 0)
  chained⁺ = chained_below index (payloads type rs) (get_or counts 7 0) (base k + n) start (base_room k n many) known.chained

  -- a record that is no type leaves the chains
  chained_other : number k ≢ 7 → Chained index⁺ (payloads type (rs ++ (r ∷ []))) (get_or counts⁺ 7 0)
  unfolding number
  chained_other ne = rw (payloads_other type rs r (ne_eqb r.kind 7 (λ e. ne (sym is_kind ∙ e))), counted_other type (λ e. ne (sym e))) chained⁺

  -- one that is no sort leaves their argument counts
  lens_other : number k ≢ 1 → (i : ℕ) → i < suc (get_or counts⁺ 1 0) → get_or lens i 0 ≡ length (arguments (get_or (sorts_of (rs ++ (r ∷ []))) i o))
  unfolding sorts_of number
  lens_other ne i h =
      rw (payloads_other sort rs r (ne_eqb r.kind 1 (λ e. ne (sym is_kind ∙ e))))
      (known.sort_lens i (subst (λ m. i < suc m) (counted_other sort (λ e. ne (sym e))) h))

  -- a record that is no sort and no type
  pub known_more : number k ≢ 1 → number k ≢ 7 → Known file (set index (base k + n) start) lens (set counts (number k) (n + 1)) (rs ++ (r ∷ []))
  known_more ne ne' = record { entries = entries_all; fits = fits_all; sort_lens = lens_other ne; chained = chained_other ne' }

  -- a type, chained by the hash of its payload
  module _ (is-type : number k ≡ 7) where
    abbrev head : ℕ
    head = hashes_at + hash_of_spec r.payload

    abbrev index⁺⁺ : List ℕ
    index⁺⁺ = set (set index⁺ (links_at + n) (get_or index⁺ head 0)) head (n + 1)

    pub chained_before : Chained (set index (base k + n) start) (payloads type rs) n
    chained_before = subst (Chained index⁺ (payloads type rs)) (ap (λ z. get_or counts z 0) (sym is-type)) chained⁺

    types_many : length (payloads type rs) ≡ n
    unfolding number
    types_many = sym (count_payloads type rs) ∙ (known.entries type).counted ∙ ap (λ z. get_or counts z 0) (sym is-type)

    few : n < max_types
    unfolding number
    few = subst (λ z. n < room z) (number_inj k type is-type) many

    outside : (k' : Kind) (i : ℕ) → i < get_or counts⁺ (number k') 0 → get_or index⁺⁺ (base k' + i) 0 ≡ get_or index⁺ (base k' + i) 0
    outside k' i h =
        let below = base_room k' i (let f = fits_all k' in omega arith) in
        get_or-set_other (set index⁺ (links_at + n) (get_or index⁺ head 0)) head (base k' + i) (n + 1) 0 (omega arith) ∙ get_or-set_other index⁺ (links_at + n) (base k' + i) (get_or index⁺ head 0) 0 (omega arith)

    chained_type : Chained index⁺⁺ (payloads type (rs ++ (r ∷ []))) (get_or counts⁺ 7 0)
    unfolding number
    chained_type =
        let one : suc n ≡ get_or counts⁺ 7 0 = (let a = counted_here in let b = ap (λ z. get_or counts⁺ z 0) is-type in omega arith) in
        rw (payloads_more type rs r (eq-eqb r.kind 7 (is_kind ∙ is-type)), ← one)
        (chained_more index⁺ (payloads type rs) n r.payload (subst (λ z. places_at ≤ z) (sym (length-set index (base k + n) start)) index_long) types_many few chained_before)

    pub known_type : Known file (set (set (set index (base k + n) start) (links_at + n) (get_or (set index (base k + n) start) (hashes_at + hash_of_spec r.payload) 0)) (hashes_at + hash_of_spec r.payload) (n + 1)) lens (set counts (number k) (n + 1)) (rs ++ (r ∷ []))
    known_type =
        record {
          entries = λ k'. indexed_same (outside k') (entries_all k');
          fits = fits_all;
          sort_lens = lens_other (λ e. let z : ◌≡◌ {A = ℕ} 1 7 = sym e ∙ is-type in omega arith);
          chained = chained_type;
        }

  -- a sort, of one argument more than the sort its `to` names
  module _ (is_sort : k ≡ sort) (len : ℕ) (to_listed : word r.payload 2 ≤ n) (is-len : len ≡ get_or lens (word r.payload 2) 0 + 1) (lens_long : length lens ≡ all_sorts) where
    sorts : List Sort
    sorts = sorts_of rs

    one_more : sorts_of (rs ++ (r ∷ [])) ≡ sorts_of rs ++ (sort_from (sorts_of rs) r.payload ∷ [])
    unfolding sorts_of grow number
    one_more =
        ap (grow sort_from (o ∷ [])) (payloads_more sort rs r (eq-eqb r.kind 1 (is_kind ∙ ap number is_sort)))
        ∙ grow_append sort_from (o ∷ []) (payloads sort rs) (r.payload ∷ [])

    sorts_many : length (sorts_of rs) ≡ suc n
    unfolding sorts_of number
    sorts_many = grow_length sort_from (o ∷ []) (payloads sort rs) ∙ (
        let a = count_payloads sort rs in
        let b = (known.entries sort).counted in
        let c = ap (λ z. get_or counts (number z) 0) is_sort in
        omega arith)

    new_len : length (arguments (sort_from (sorts_of rs) r.payload)) ≡ len
    unfolding sort_from arguments number
    new_len =
        let c = ap (λ z. get_or counts (number z) 0) is_sort in
        let old = known.sort_lens (word r.payload 2) (omega arith) in
        omega arith

    pub known_sort : Known file (set index (base k + n) start) (set lens (n + 1) len) (set counts (number k) (n + 1)) (rs ++ (r ∷ []))
    unfolding number
    known_sort =
        record {
          entries = entries_all;
          fits = fits_all;
          sort_lens = λ i h. lens_by i (last_sort i (subst (λ m. i < suc m) counted h));
          chained = chained_other (λ e. let z : ◌≡◌ {A = ℕ} 1 7 = sym (ap number is_sort) ∙ e in omega arith);
        }
      where
        counted : get_or counts⁺ 1 0 ≡ suc n
        counted = ap (λ z. get_or counts⁺ (number z) 0) (sym is_sort) ∙ counted_here ∙ (omega arith)

        last_sort : (i : ℕ) → i < suc (suc n) → (i < suc n) ⊎ (i ≡ n + 1)
        last_sort i h = go (dec_lt i (suc n))
          where
            go : Dec (i < suc n) → (i < suc n) ⊎ (i ≡ n + 1)
            go (yes l) = inl l
            go (no l) = inr (omega arith)

        room_left : n < max_sorts
        room_left = subst (λ z. n < room z) is_sort many

        lens_by : (i : ℕ) → (i < suc n) ⊎ (i ≡ n + 1) → get_or (set lens (n + 1) len) i 0 ≡ length (arguments (get_or (sorts_of (rs ++ (r ∷ []))) i o))
        lens_by i (inl l) =
            let c = ap (λ z. get_or counts (number z) 0) is_sort in
            get_or-set_other lens (n + 1) i len 0 (omega arith) ∙ known.sort_lens i (omega arith)
            ∙ ap (λ z. length (arguments z)) (sym (ap (λ z. get_or z i o) one_more ∙ get_or-append (sorts_of rs) (sort_from (sorts_of rs) r.payload ∷ []) o i (omega (arith, sorts_many))))
        lens_by i (inr e) =
            let there : get_or (sorts_of rs ++ (sort_from (sorts_of rs) r.payload ∷ [])) (n + 1) o ≡ sort_from (sorts_of rs) r.payload = get_or_at (sorts_of rs) (sort_from (sorts_of rs) r.payload) [] o (n + 1) (sorts_many ∙ (omega arith)) in
            rw e (get_or-set_same lens (n + 1) len 0 (omega (arith, room_left)) ∙ sym new_len ∙ ap (λ z. length (arguments z)) (sym (ap (λ z. get_or z (n + 1) o) one_more ∙ there)))

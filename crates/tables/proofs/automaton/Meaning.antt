-- What the automaton in the table means: its transitions are those of the file, and the digits of the targets are the target states.
use Prim.Native.Nat.{ℕ, zero, suc, ◌+◌, ◌*◌, ◌/◌, ◌%◌, ◌^◌, ◌<◌, ◌≤◌}
use native.Mathlib.Omega.{arith}
use native.Mathlib.Decide.{ℕ_discrete, dec_lt}
use mathlib.Core.Path.{◌≡◌, refl, sym, ap, subst, ◌∙◌}
use mathlib.Core.List.{List, [], ◌∷◌}
use mathlib.Core.Option.{none, some}
use borrow.Author.Tests.{eq-eqb, ne_eqb}
use lib.ListN.{length, get_or, take}
use lib.Seq.{get_or-take}
use Rattle.scheme.specs.Lists.{choose◌then◌else◌}
use Rattle.casefile.specs.Fields.{byte}
use Rattle.casefile.specs.Records.{Record}
use Rattle.casefile.specs.Kinds.{Kind, payloads}
use Rattle.casefile.specs.Tables.{arities_of, state_count_spec, transitions_of, targets_at}
use Rattle.casefile.specs.Promises.{Passed}
use Rattle.casefile.proofs.Payloads.{arity_small}
use Rattle.index.specs.layout.Layout.{max_states, max_constructors, targets_base, present_at, arities_at, groups_at}
use Rattle.index.specs.entries.Index.{Indexed}
use Rattle.transitions.specs.places.RowPlaces.{place_in, targets_from, RowsFor}
use Rattle.transitions.specs.table.Moves.{four_at}
use Rattle.transitions.proofs.table.Meaning.{states_few, no_constructor}
use Rattle.transitions.proofs.table.Targets.{targets_some}
use Rattle.transitions.proofs.rows.Rows.{constructor_count}
use Rattle.marks.specs.Marks.{bit_of}
use Rattle.tables.specs.Facts.{TransitionIs, AutomatonIs}
use Rattle.tables.specs.reading.Cells.{targets_of_spec, present_of_spec, arity_of_spec}
use Rattle.tables.specs.automaton.Packing.{packed_at, ConstructorSays}

-- the digits of a number to the base 16
digit : (a b c d : ℕ) → a < 16 → b < 16 → c < 16 → d < 16 → (k : ℕ) → k < 4 → (a + 16 * b + 256 * c + 4096 * d) / 16 ^ k % 16 ≡ get_or (a ∷ b ∷ c ∷ d ∷ []) k 0
digit a b c d ha hb hc hd zero h = omega arith
digit a b c d ha hb hc hd (suc zero) h = omega arith
digit a b c d ha hb hc hd (suc (suc zero)) h = omega arith
digit a b c d ha hb hc hd (suc (suc (suc zero))) h = omega arith
digit a b c d ha hb hc hd (suc (suc (suc (suc k)))) h = absurd (omega arith)

-- the digits of the targets at a place
packed_digit : (file : List ℕ) (place k : ℕ) → k < 4 → packed_at file place / 16 ^ k % 16 ≡ get_or (four_at file place) k 0 % 16
unfolding packed_at
packed_digit file place k h =
    digit (byte file (place + 2) % 16) (byte file (place + 3) % 16) (byte file (place + 4) % 16) (byte file (place + 5) % 16) (omega arith) (omega arith) (omega arith) (omega arith) k h ∙ at k h
  where
    at : (j : ℕ) → j < 4 → get_or (byte file (place + 2) % 16 ∷ byte file (place + 3) % 16 ∷ byte file (place + 4) % 16 ∷ byte file (place + 5) % 16 ∷ []) j 0 ≡ get_or (four_at file place) j 0 % 16
    at zero l = refl
    at (suc zero) l = refl
    at (suc (suc zero)) l = refl
    at (suc (suc (suc zero))) l = refl
    at (suc (suc (suc (suc j)))) l = absurd (omega arith)

-- the targets at a place
targets_none : (file : List ℕ) (arity place : ℕ) → place ≡ 0 → targets_from file arity place ≡ none
unfolding targets_from
targets_none file arity place e = ap (λ b. choose b then none else some (take arity (four_at file place))) (eq-eqb place 0 e)

targets_there : (file : List ℕ) (arity place : ℕ) → (place ≡ 0 → ⊥) → targets_from file arity place ≡ some (take arity (four_at file place))
unfolding targets_from
targets_there file arity place ne = ap (λ b. choose b then none else some (take arity (four_at file place))) (ne_eqb place 0 ne)

module _ {file index : List ℕ} {constructors : ℕ} {rs : List Record} (ok : Passed rs) (one : length (payloads Kind.states rs) ≤ 1) (ix : Indexed file index Kind.constructor constructors rs) (few : constructors ≤ max_constructors) (rows : RowsFor file index rs)
    (t : List ℕ) (says : (c : ℕ) → c < max_constructors → ConstructorSays file index constructors c t) where
  within : (q c : ℕ) (qs : List ℕ) → targets_at (transitions_of rs) q c ≡ some qs → (q < state_count_spec rs) × (q < max_states) × (c < max_constructors)
  within q c qs e =
      let state = (targets_some ok one q c qs e).0 in
      let small = states_few ok in
      (state, omega arith, go (dec_lt c max_constructors))
    where
      go : Dec (c < max_constructors) → c < max_constructors
      go (yes h) = h
      go (no h) =
          let n = constructor_count rs ix in
          let f = no_constructor ok q c (omega arith) in
          let z : ◌≡◌ {A = ℕ} 0 1 = cc in
          absurd (omega arith)

  present : (q c : ℕ) → q < max_states → c < max_constructors → bit_of q (present_of_spec t c) ≡ 1 → (qs : List ℕ) × TransitionIs rs t c q qs
  present q c hq hc e = (
    qs,
    record {
      there = there;
      arity = long ∙ sym arity;
      target = λ k h. let l = long in let f = four in digit_is k (omega arith) (omega arith);
    },
  )
    where
      place : ℕ
      place = place_in index q c

      qs : List ℕ
      qs = take (get_or (arities_of rs) c 0) (four_at file place)

      there : targets_at (transitions_of rs) q c ≡ some qs
      there = sym (rows.targets q c hq hc) ∙ targets_there file (get_or (arities_of rs) c 0) place ((says c hc).present.only q e)

      arity : arity_of_spec t c ≡ get_or (arities_of rs) c 0
      arity = (says c hc).arity rs ok ix few

      long : length qs ≡ get_or (arities_of rs) c 0
      long = (targets_some ok one q c qs there).1

      four : get_or (arities_of rs) c 0 ≤ 4
      four = arity_small ok c

      digit_is : (k : ℕ) → k < get_or (arities_of rs) c 0 → k < 4 → get_or qs k 0 ≡ targets_of_spec t c q / 16 ^ k % 16
      digit_is k h l =
          let small = (targets_some ok one q c qs there).2 k in
          let is : get_or qs k 0 ≡ get_or (four_at file place) k 0 = get_or-take (get_or (arities_of rs) c 0) (four_at file place) k 0 h in
          let is_digit : targets_of_spec t c q / 16 ^ k % 16 ≡ get_or (four_at file place) k 0 % 16 = ap (λ x. x / 16 ^ k % 16) ((says c hc).targets q hq e) ∙ packed_digit file place k l in
          is ∙ low (get_or (four_at file place) k 0) (omega arith) ∙ sym is_digit
        where
          low : (x : ℕ) → x < 16 → x ≡ x % 16
          low x h = omega arith

  absent : (q c : ℕ) → q < max_states → c < max_constructors → (bit_of q (present_of_spec t c) ≡ 1 → ⊥) → targets_at (transitions_of rs) q c ≡ none
  absent q c hq hc ne = by (dec_lt c constructors)
    where
      no_place : c < constructors → Dec (place_in index q c ≡ 0) → place_in index q c ≡ 0
      no_place l (yes z) = z
      no_place l (no z) = absurd (ne ((says c hc).present.in_set l q hq z))

      by : Dec (c < constructors) → targets_at (transitions_of rs) q c ≡ none
      by (yes l) = sym (rows.targets q c hq hc) ∙ targets_none file (get_or (arities_of rs) c 0) (place_in index q c) (no_place l (ℕ_discrete (place_in index q c) 0))
      by (no l) = let n = constructor_count rs ix in no_constructor ok q c (omega arith)

  -- THE AUTOMATON
  pub automaton_is : AutomatonIs rs t
  automaton_is =
      record {
        within = within;
        few = λ c h. let e = (says c h).arity rs ok ix few in let s = arity_small ok c in omega arith;
        present = present;
        absent = absent;
      }

-- it stays while its cells stay
pub automaton_kept : (rs : List Record) (t after : List ℕ) → ((i : ℕ) → i < groups_at → get_or after i 0 ≡ get_or t i 0) → AutomatonIs rs t → AutomatonIs rs after
automaton_kept rs t after same x =
    record {
      within = x.within;
      few = λ c h. let e = arity c in let l = x.few c h in omega arith;
      present = λ q c hq hc e.
          let (qs, is) = x.present q c hq hc (subst (λ y. bit_of q y ≡ 1) (states c) e) in
          (qs, record { there = is.there; arity = is.arity ∙ sym (arity c); target = λ k h. is.target k h ∙ ap (λ y. y / 16 ^ k % 16) (sym (targets c q)) });
      absent = λ q c hq hc ne. x.absent q c hq hc (λ e. ne (subst (λ y. bit_of q y ≡ 1) (sym (states c)) e));
    }
  where
    arity : (c : ℕ) → arity_of_spec after c ≡ arity_of_spec t c
    arity c = same (arities_at + c % max_constructors) (omega arith)

    states : (c : ℕ) → present_of_spec after c ≡ present_of_spec t c
    states c = same (present_at + c % max_constructors) (omega arith)

    targets : (c q : ℕ) → targets_of_spec after c q ≡ targets_of_spec t c q
    targets c q = same (targets_base + c % max_constructors * max_states + q % max_states) (omega arith)

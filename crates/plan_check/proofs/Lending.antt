-- The tables of a frame have room for every file of up to so many nodes, types and bindings; a file with no binding needs none.
use Prim.Native.Nat.{ℕ, zero, suc, ◌+◌, ◌/◌, ◌≤◌}
use native.Mathlib.Omega.{arith}
use native.Mathlib.Nat.{mul-le-mul}
use mathlib.Core.Path.{◌≡◌, refl, sym, subst}
use mathlib.Core.Bool.{Bool, false}
use mathlib.Core.Logic.{◌⊎◌, inl, inr}
use mathlib.Core.List.{List, [], ◌∷◌}
use lib.ListN.{length, get_or, replicate}
use Rattle.scheme.specs.Lists.{any}
use Rattle.scheme.specs.Reduction.{Plan}
use Rattle.scheme.specs.Typing.{Automaton, Binding}
use Rattle.scheme.specs.Rounds.{after, kept, count_to, rounds}
use Rattle.scheme.specs.Flags.{flags_after_rounds, kept_flags}
use Rattle.scheme.specs.Acceptance.{accepts}
use Rattle.casefile.specs.Records.{Record, records_of, listed}
use Rattle.casefile.specs.Kinds.{Kind, number, payloads, count}
use Rattle.casefile.specs.Tables.{bindings_of}
use Rattle.casefile.specs.BindingCases.{shrunk}
use Rattle.casefile.proofs.Plans.{bindings_many}
use Rattle.index.specs.layout.Layout.{max_nonterminals, max_types, max_bindings, max_states, node_bytes, ends_size, index_size, rows_size, word_bits}
use Rattle.index.specs.entries.Index.{Indexed}
use Rattle.rules.specs.reading.RuleBodies.{nodes_in}
use Rattle.rules.specs.first_nodes.FirstNodes.{CountsAll}
use Rattle.rules.proofs.rules.Room.{file_room, count_few}
use Rattle.binding_cases.specs.Judging.{IsShrunk, Lent, JudgesBindings}
use Rattle.plan_check.specs.Promises.{of_bindings_spec, room_of, HasNodes, HasRoom, HasTables, JudgesWithin, JudgesBindingCase}
use Rattle.plan_check.specs.declared.rooms.Frame.{Frame}
use Rattle.plan_check.specs.declared.rooms.Frame.TheVariants.{All}
use Rattle.plan_check.specs.declared.Verdict.{Verdict}
use Rattle.plan_check.specs.declared.Verdict.TheVariants.{Unproved}

-- an array of zeros
pub zeros : (n i : ℕ) → ◌≡◌ {A = ℕ} (get_or (replicate {A = ℕ} n 0) i 0) 0
zeros zero i = refl
zeros (suc n) zero = refl
zeros (suc n) (suc i) = zeros n i

module _ {nodes types bindings flat read write hints : ℕ} (enough : HasTables nodes types bindings flat read write hints) {firsts table r w : List ℕ}
    (firsts_long : rows_size ≤ length firsts) (table_long : flat ≤ length table) (read_long : read ≤ length r) (write_long : write ≤ length w)
    (no_numbers : (i : ℕ) → get_or r i 0 ≡ 0) (no_answers : (i : ℕ) → get_or w i 0 ≡ 0) where
  lent_room : (rs : List Record) → nodes_in (payloads Kind.rule rs) ≤ nodes → count Kind.type rs ≤ types → count Kind.binding rs ≤ bindings → Lent rs firsts table r w hints
  lent_room rs n t b =
      let words : (count Kind.binding rs + 31) / word_bits ≤ (bindings + 31) / word_bits = omega arith in
      let sets-fit = mul-le-mul {n₁ = count Kind.type rs + max_states} {n₂ = types + max_states} (omega arith) words in
      let users-fit = mul-le-mul b words in
      record {
        firsts_long = firsts_long;
        table_long = omega (arith, enough.table_long, table_long);
        read_long = omega (arith, enough.read_long, read_long);
        write_long = omega (arith, enough.write_long, write_long);
        few_hints = enough.few_hints;
        no_numbers = no_numbers;
        no_answers = no_answers;
      }

  pub frame_judges : {file index counts ends lent marks : List ℕ} {accepted : Bool} {kept total rounds : ℕ} → index_size ≤ length index
      → JudgesBindings file index counts ends firsts table r w hints lent marks accepted kept total rounds
      → JudgesWithin nodes types bindings file index counts ends lent marks accepted kept total rounds
  frame_judges {file} index_long judges =
      record {
        judged = λ n t b lens known ok ends_are whole.
            let rs = listed (records_of file) in
            judges.judged lens rs known ok ends_are whole index_long (omega (arith, enough.few_nodes)) (lent_room rs n t b);
      }

-- no binding is offered
none_shrunk : (automaton : Automaton) (plan : Plan) (offered : List Binding) (lent : List ℕ) → length offered ≡ 0 → IsShrunk (shrunk automaton plan offered) lent lent false 0 0 0
unfolding shrunk accepts kept after any rounds count_to kept_flags flags_after_rounds
none_shrunk automaton plan [] lent e = record { accepted_is = refl; kept_is = refl; total_is = refl; rounds_are = refl; flags_are = refl }
none_shrunk automaton plan (b ∷ bs) lent e = absurd (omega arith)

module _ {file index counts : List ℕ} where
  -- how many nodes the file has at most: by its length, or counted
  pub nodes_by_length : HasNodes file index counts (length file / node_bytes)
  nodes_by_length = record { few = λ lens known ok. let room = file_room file ok in omega arith }

  pub nodes_by_rules : {rules n : ℕ} → rules ≡ get_or counts 4 0 → CountsAll file index rules n → HasNodes file index counts n
  unfolding number
  nodes_by_rules e Counts-all =
      record {
        few = λ lens known ok.
            let rs = listed (records_of file) in
            let is = Counts-all.all rs ok (subst (λ k. Indexed file index Kind.rule k rs) (sym e) (known.entries Kind.rule)) (subst (λ k. k ≤ max_nonterminals) (sym e) (known.fits Kind.rule)) in
            omega arith;
      }

module _ {file index counts ends lent : List ℕ} where
  pub no_bindings_judged : {total : ℕ} → total ≡ get_or counts 8 0 → total ≡ 0 → JudgesBindingCase file index counts ends lent lent (Unproved 0 0 0)
  unfolding number of_bindings_spec
  no_bindings_judged e z =
      record {
        accepted = false;
        kept = 0;
        total = 0;
        rounds = 0;
        judged = λ short lens known ok ends_are whole.
            let rs = listed (records_of file) in
            let many = bindings_many rs in
            let counted = (known.entries Kind.binding).counted in
            none_shrunk _ _ (bindings_of rs) lent (omega arith);
        is_verdict = refl;
      }

  -- a frame that has room for the nodes, types and bindings of the file, by the counts
  pub case_judged : {nodes types bindings most many total : ℕ} → HasNodes file index counts most → (most ≤ nodes) × (many ≤ types) × (total ≤ bindings) → many ≡ get_or counts 7 0 → total ≡ get_or counts 8 0
      → {marks : List ℕ} {accepted : Bool} {kept offered rounds : ℕ} {v : Verdict} → JudgesWithin nodes types bindings file index counts ends lent marks accepted kept offered rounds
      → v ≡ of_bindings_spec accepted kept offered rounds → JudgesBindingCase file index counts ends lent marks v
  unfolding number
  case_judged has (n, t, b) et eb judges e =
      record {
        accepted = _;
        kept = _;
        total = _;
        rounds = _;
        judged = λ short lens known ok.
            let few = has.few lens known ok in
            let counted-types = (known.entries Kind.type).counted in
            let counted-bindings = (known.entries Kind.binding).counted in
            judges.judged (omega arith) (omega arith) (omega arith) lens known ok;
        is_verdict = e;
      }

  -- the frame that has room for every file
  pub all_judged : {marks : List ℕ} {accepted : Bool} {kept total rounds : ℕ} {v : Verdict} → JudgesWithin ends_size max_types max_bindings file index counts ends lent marks accepted kept total rounds
      → v ≡ of_bindings_spec accepted kept total rounds → JudgesBindingCase file index counts ends lent marks v
  all_judged judges e =
      record {
        accepted = _;
        kept = _;
        total = _;
        rounds = _;
        judged = λ short lens known ok.
            let room = file_room file ok in
            judges.judged (omega arith) (count_few known Kind.type) (count_few known Kind.binding) lens known ok;
        is_verdict = e;
      }

  -- the frame that was chosen
  pub chosen_judged : {frame : Frame} {most many total : ℕ} → HasNodes file index counts most → HasRoom (room_of frame) most many total ⊎ (frame ≡ All) → many ≡ get_or counts 7 0 → total ≡ get_or counts 8 0
      → {marks : List ℕ} {accepted : Bool} {kept offered rounds : ℕ} {v : Verdict}
      → JudgesWithin (room_of frame).nodes (room_of frame).types (room_of frame).bindings file index counts ends lent marks accepted kept offered rounds
      → v ≡ of_bindings_spec accepted kept offered rounds → JudgesBindingCase file index counts ends lent marks v
  chosen_judged has (inl room) et eb judges e = case_judged has room et eb judges e
  chosen_judged has (inr last) et eb {marks} {accepted} {kept} {offered} {rounds} judges e =
      all_judged (subst (λ f. JudgesWithin (room_of f).nodes (room_of f).types (room_of f).bindings file index counts ends lent marks accepted kept offered rounds) last judges) e

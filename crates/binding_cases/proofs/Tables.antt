-- The tables of a file that is not refused are ready for the rounds; and what the rounds leave is what the definitions say.
use Prim.Native.Nat.{ℕ, ◌+◌, ◌*◌, ◌/◌, ◌%◌, ◌<◌, ◌≤◌}
use native.Mathlib.Omega.{arith}
use mathlib.Core.Path.{◌≡◌, sym, ap, subst, ◌∙◌}
use mathlib.Core.Bool.{Bool}
use mathlib.Core.List.{List, ◌++◌}
use mathlib.Core.Option.{none}
use lib.ListN.{length, get_or, take, drop, replicate, length-drop}
use lib.Seq.{take_at, get_or-drop}
use Rattle.scheme.specs.Lists.{any}
use Rattle.scheme.specs.Rounds
use Rattle.scheme.specs.Flags.{chosen, kept_flags}
use Rattle.scheme.specs.Acceptance.{is_start, accepts}
use Rattle.scheme.proofs.Flags.{chosen_kept, kept_flags_length}
use Rattle.casefile.specs.Records.{Record}
use Rattle.casefile.specs.Promises.{Bytes, Passed}
use Rattle.casefile.specs.Kinds.{Kind, number, payloads, count}
use Rattle.casefile.specs.Tables.{plan_of, automaton_of, bindings_of}
use Rattle.casefile.specs.Refusals.{refuse_whole}
use Rattle.casefile.specs.BindingCases.{shrunk}
use Rattle.casefile.proofs.Plans.{bindings_many, plan_right, enough_flags}
use Rattle.index.specs.layout.Layout.{max_states, hashes_at, links_at, index_size, ends_size, word_bits, place_limit, test_cells}
use Rattle.index.specs.entries.Index.{base, Indexed}
use Rattle.index.specs.entries.Tests.{IsPlace}
use Rattle.index.specs.entries.Known.{room, Known}
use Rattle.index.proofs.entries.Stays.{indexed_same}
use Rattle.index.proofs.Wholes.{whole_body}
use Rattle.rules.specs.reading.RuleBodies.{nodes_in, first_node}
use Rattle.rules.specs.first_nodes.FirstNodes.{FillsFirsts}
use Rattle.intake.specs.plan.PlanTests.{EndsAre}
use Rattle.transitions.specs.places.RowPlaces.{row_base, RowsFor, FillsRows}
use Rattle.tables.specs.Facts.{CandidatesAre}
use Rattle.tables.specs.Filling.{Given, TableIs, FillsTable, words_for}
use Rattle.tables.proofs.types.Bindings.{symbol_below}
use Rattle.term_check.specs.Worlds.{answers_of, users_of}
use Rattle.rounds.specs.declared.tested.Sizes.{Sizes}
use Rattle.rounds.specs.Resting.{test_of, Frame}
use Rattle.rounds.specs.shrinking.Shrinking.{ShrinksByRounds}
use Rattle.rounds.proofs.shrinking.Flagged.{chosen_take}
use Rattle.binding_cases.specs.Judging.{FindsStart, IsShrunk, Places, Fills, Lent, JudgesBindings}
use Rattle.binding_cases.proofs.Parts.{users_room, no_answer}

-- an index that is the same up to the places of transitions has the same entries
known_same : {file before index lens counts : List ℕ} {rs : List Record} → ((i : ℕ) → i < row_base → get_or index i 0 ≡ get_or before i 0) → Known file before lens counts rs → Known file index lens counts rs
unfolding number
known_same {counts = counts} same known =
    record {
      entries = λ k. indexed_same (λ i h. same (base k + i) (inside k i (let f = known.fits k in omega arith))) (known.entries k);
      fits = known.fits;
      sort_lens = known.sort_lens;
      chained = record {
        heads = λ h l. same (hashes_at + h) (omega arith) ∙ known.chained.heads h l;
        links = λ i l. same (links_at + i) (omega (arith, known.fits Kind.type)) ∙ known.chained.links i l;
      };
    }
  where
    inside : (k : Kind) (i : ℕ) → i < room k → base k + i < row_base
    inside Kind.sort i h = omega arith
    inside Kind.constructor i h = omega arith
    inside Kind.nonterminal i h = omega arith
    inside Kind.rule i h = omega arith
    inside Kind.states i h = omega arith
    inside Kind.transition i h = omega arith
    inside Kind.type i h = omega arith
    inside Kind.binding i h = omega arith
    inside Kind.path i h = omega arith

-- the tables that were filled, and what the rounds and the search for the start binding left
module _ (file before counts ends lent-firsts lent-table read write : List ℕ) (hints : ℕ) (lent flags : List ℕ) (r : Bool) (kept rounds total transitions rules types : ℕ) (index firsts t placed reads : List ℕ) (nodes words : ℕ) (sizes : Sizes) where
  abbrev sets : List ℕ
  sets = drop test_cells reads

  module _ (bytes : Bytes file) (et : IsPlace counts 8 total) (em : IsPlace counts 6 transitions) (er : IsPlace counts 4 rules) (ey : IsPlace counts 7 types)
      (fills-rows : FillsRows file before transitions index) (fills-firsts : FillsFirsts file index rules lent-firsts firsts) (fills-table : FillsTable file index counts ends firsts lent-table t nodes)
      (ew : words ≡ (total + 31) / word_bits) (places : Places (hints % place_limit) (hints % place_limit + (total * words + total)) read placed) (fills : Fills t total words placed reads)
      (en : sizes.nodes ≡ nodes) (eg : sizes.goals ≡ types + max_states) (eb : sizes.bindings ≡ total)
      (shrinks : ShrinksByRounds t sets firsts sizes (answers_of reads write) (users_of reads write) lent flags kept rounds) (starts : FindsStart t flags total r) where
    module _ (lens : List ℕ) (rs : List Record) (known₀ : Known file before lens counts rs) (ok : Passed rs) (ends_are : EndsAre rs ends) (whole : refuse_whole rs (length lent) ≡ none)
        (enough : index_size ≤ length before) (few : nodes_in (payloads Kind.rule rs) ≤ ends_size) (room_for : Lent rs lent-firsts lent-table read write hints) where
      known : Known file index lens counts rs
      known = known_same fills-rows.stays known₀

      all_bindings_law : Indexed file index Kind.binding total rs
      unfolding number
      all_bindings_law = subst (λ n. Indexed file index Kind.binding n rs) (sym et.value) (known.entries Kind.binding)

      all_rules : Indexed file index Kind.rule rules rs
      unfolding number
      all_rules = subst (λ n. Indexed file index Kind.rule n rs) (sym er.value) (known.entries Kind.rule)

      -- how many there are
      bindings_count : total ≡ count Kind.binding rs
      bindings_count = sym all_bindings_law.counted

      bindings_few : total ≤ 1024
      unfolding number
      bindings_few = let a = known.fits Kind.binding in let b = et.value in omega arith

      rules_few : rules ≤ 256
      unfolding number
      rules_few = let a = known.fits Kind.rule in let b = er.value in omega arith

      types_count : types ≡ count Kind.type rs
      unfolding number
      types_count = let a = (known.entries Kind.type).counted in let b = ey.value in omega arith

      words_are : words ≡ words_for rs
      words_are = ew ∙ ap (λ n. (n + 31) / word_bits) bindings_count

      rows : RowsFor file index rs
      unfolding number
      rows =
          fills-rows.rows rs ok (subst (λ n. Indexed file before Kind.transition n rs) (sym em.value) (known₀.entries Kind.transition))
          (let a = known₀.fits Kind.transition in let b = em.value in omega arith) enough

      firsts_are : (f : ℕ) → f < count Kind.rule rs → get_or firsts f 0 ≡ first_node rs f
      firsts_are f h = fills-firsts.firsts rs ok all_rules rules_few room_for.firsts_long f (let c = all_rules.counted in omega arith)

      given : Given file index counts ends firsts rs
      given =
          record {
            lens = lens;
            bytes = bytes;
            passed = ok;
            known = known;
            rules_all = (plan_right rs (length lent) whole).rules_all;
            bodies = whole_body ok (length lent) whole;
            few_nodes = few;
            firsts_are = firsts_are;
            ends_are = ends_are;
            rows_are = rows;
          }

      table : TableIs rs t
      table = fills-table.filled rs given room_for.table_long

      frame : Frame rs t firsts sizes
      frame =
          record {
            table = table;
            rules_all = (plan_right rs (length lent) whole).rules_all;
            named = λ b h. symbol_below ok all_bindings_law bindings_few b (let c = bindings_count in omega arith);
            bodies = whole_body ok (length lent) whole;
            firsts_are = firsts_are;
            nodes_from_law = en ∙ fills-table.place rs given;
            goals_are = eg ∙ ap (◌+ max_states) types_count;
            bindings_are = eb ∙ bindings_count;
            few_bindings = let c = bindings_count in let d = bindings_few in omega arith;
          }

      few_cells : test_cells ≤ length read
      few_cells = omega (arith, room_for.read_long)

      few_placed : test_cells ≤ length placed
      few_placed = omega (arith, few_cells, places.long)

      sets_long : (count Kind.type rs + max_states) * words_for rs ≤ length (drop test_cells placed)
      sets_long = omega (arith, room_for.read_long, ap length places.sets, length-drop test_cells read)

      no_sets : (i : ℕ) → get_or (drop test_cells placed) i 0 ≡ 0
      no_sets i = ap (λ l. get_or l i 0) places.sets ∙ get_or-drop test_cells read i 0 ∙ room_for.no_numbers (test_cells + i)

      hints_are : hints % place_limit ≡ hints
      hints_are = omega (arith, room_for.few_hints)

      sizes_are : total * words + total ≡ count Kind.binding rs * words_for rs + count Kind.binding rs
      sizes_are = ap (λ n. n * words + n) bindings_count ∙ ap (λ n. count Kind.binding rs * n + count Kind.binding rs) words_are

      users_long : count Kind.binding rs * words_for rs + count Kind.binding rs ≤ length (users_of reads write)
      users_long =
          users_room reads write hints (count Kind.binding rs * words_for rs + count Kind.binding rs) (fills.placed.users_at ∙ places.users_at few_cells ∙ hints_are)
          (fills.placed.answers_at ∙ places.answers_at few_cells ∙ ap (◌+ (total * words + total)) hints_are ∙ ap (λ n. hints + n) sizes_are) room_for.write_long

      candidates : CandidatesAre rs (replicate (count Kind.binding rs) 1) sets (words_for rs)
      candidates =
          subst (λ n. CandidatesAre rs (replicate n 1) sets (words_for rs)) bindings_count
          (subst (λ w. CandidatesAre rs (replicate total 1) sets w) words_are
          ((fills.filled few_placed).filled rs table.types table.bindings bindings_count bindings_few words_are
          (subst (λ w. (count Kind.type rs + max_states) * w ≤ length (drop test_cells placed)) (sym words_are) sets_long) no_sets))

      is_shrunk : IsShrunk (shrunk (automaton_of rs) (plan_of rs) (bindings_of rs)) lent flags r kept total rounds
      unfolding shrunk accepts
      is_shrunk =
          let bs = bindings_of rs in
          let test = test_of rs in
          let long = bindings_many rs in
          let flagged = enough_flags rs (length lent) whole in
          let under : (i : ℕ) → get_or (answers_of reads write) (i * 3) 0 < 1 = λ i. let z = no_answer reads write room_for.no_answers (i * 3) in omega arith in
          let many_kept : length (kept_flags test bs) ≡ length bs = kept_flags_length test bs in
          let written : flags ≡ kept_flags test bs ++ drop (count Kind.binding rs) lent = shrinks.flags_are rs frame candidates users_long under flagged in
          let taken : take (length bs) flags ≡ kept_flags test bs = ap (take (length bs)) written ∙ take_at (kept_flags test bs) (drop (count Kind.binding rs) lent) (length bs) many_kept in
          let chose : chosen flags bs ≡ Rounds.kept test bs = sym (chosen_take flags bs) ∙ ap (λ fs. chosen fs bs) taken ∙ chosen_kept test bs in
          record {
            accepted_is = starts.answer rs table.types table.bindings bindings_count ∙ ap (any is_start) chose;
            kept_is = shrinks.kept_are rs frame candidates users_long under flagged;
            total_is = bindings_count ∙ sym long;
            rounds_are = shrinks.rounds_are rs frame candidates users_long under flagged;
            flags_are = written ∙ ap (λ n. kept_flags test bs ++ drop n lent) (sym long ∙ sym many_kept);
          }

    -- THE BINDINGS ARE JUDGED
    pub judged : JudgesBindings file before counts ends lent-firsts lent-table read write hints lent flags r kept total rounds
    judged = record { judged = λ lens rs known₀ ok ends_are whole enough few room_for. is_shrunk lens rs known₀ ok ends_are whole enough few room_for }

-- The test of a binding is the check of its nonterminal's body against the final state of its type, with the numbers of the test in front
-- of what is read and nothing remembered under the number of the test.
use Prim.Native.Nat.{ℕ, ◌+◌, ◌*◌, ◌/◌, ◌%◌, ◌<◌, ◌≤◌}
use native.Mathlib.Omega.{arith}
use native.Mathlib.Nat.{mul-le-mul}
use mathlib.Core.Path.{◌≡◌, refl, sym, ap, subst, ◌∙◌}
use mathlib.Core.Bool.{Bool, true, false, false≢true}
use mathlib.Core.List.{List, [], ◌∷◌, append-nil}
use lib.ListN.{length, get_or, drop}
use Rattle.scheme.specs.Terms.{nt, node, []ᵗ}
use Rattle.scheme.specs.Prefix.{flat}
use Rattle.scheme.specs.Reduction.{body}
use Rattle.scheme.specs.Types.{Ty, final}
use Rattle.scheme.specs.Typing.{holds}
use Rattle.scheme.specs.Acceptance.{holds_exactly}
use Rattle.scheme.specs.Flags.{is_kept}
use Rattle.scheme.proofs.Lists.{get_d_map_in}
use Rattle.casefile.specs.Records.{Record}
use Rattle.casefile.specs.Kinds.{Kind, payloads, count}
use Rattle.casefile.specs.Tables.{nodes_of, body_of, plan_of}
use Rattle.casefile.proofs.TypeTable.{count_payloads}
use Rattle.index.specs.layout.Layout.{test_own, test_base, test_binding, test_stamp, test_words, test_bindings, test_answers, test_cells}
use Rattle.rules.specs.reading.RuleBodies.{rule_of, first_node}
use Rattle.marks.specs.briefs.Briefs.{Marked}
use Rattle.answers.specs.Answers.{Under}
use Rattle.answers.proofs.Answers.{fresh}
use Rattle.tables.specs.reading.Cells.{end_of, own_of, symbol_of}
use Rattle.tables.specs.Facts.{Goal, of_state_law, of_arrow, TypesAre, CandidatesAre, NodesAre, At, binding_at}
use Rattle.tables.specs.Filling.{nodes_from, words_for}
use Rattle.term_check.specs.notes.Notes.{own_in_spec, base_in, owner_in, stamp_in, wide_in, words_in, total_in, column_of, brief_of, Noted}
use Rattle.term_check.specs.Worlds.{Case, case_of, World, Setting, Includes, Right, Ready, ChecksTerm, Has, answers_of, users_of}
use Rattle.term_check.specs.Worlds as Worlds
use Rattle.rounds.specs.Resting.{total, Holds, Frame, Room}
use Rattle.rounds.specs.tested.Tested.{Writes, TestsBinding}
use Rattle.rounds.specs.declared.tested.Sizes.{Sizes}
use Rattle.rounds.proofs.tested.Placing.{no_users, moved_sets, writes_same}

-- the final state of a type, as a goal
pub end_goal : {rs : List Record} {t : List ℕ} → TypesAre rs t → (g : ℕ) (τ : Ty) → Goal rs g τ → Goal rs (end_of t g) (final τ)
unfolding final
end_goal {rs} {t} are g τ (of_state_law q h e f) = of_state_law q h (ap (end_of t) e ∙ (are.state_row q h).own_end) (ap final f)
end_goal {rs} {t} are g τ (of_arrow m a r k x u y) = let row = are.arrow_row g a r (of_arrow m a r k x u refl) in of_state_law (end_of t g) row.end_small refl (ap final y ∙ row.ends)

-- the body of a nonterminal with a rule
body_there : (rs : List Record) (f : ℕ) → f < count Kind.rule rs → body (plan_of rs) f ≡ body_of (rule_of rs f)
unfolding body plan_of
body_there rs f h = get_d_map_in body_of (payloads Kind.rule rs) f (node (nt f) []ᵗ) [] (let c = count_payloads Kind.rule rs in omega arith)

module _ (t firsts : List ℕ) (sizes : Sizes) (before test memo users : List ℕ) (stamp b : ℕ) (own first base number words wide all goal : ℕ) (written : Writes (own ∷ base ∷ number ∷ stamp ∷ wide ∷ words ∷ all ∷ []) before test) where
  abbrev sets : List ℕ
  sets = drop test_cells test

  abbrev pub x : Case
  x = case_of t test

  -- the numbers of the test
  stamp_is : stamp_in test ≡ stamp
  stamp_is = written.written test_stamp (omega arith)

  owner_is : owner_in test ≡ number
  owner_is = written.written test_binding (omega arith)

  own_in : own_in_spec test ≡ own
  own_in = written.written test_own (omega arith)

  base_in_law : base_in test ≡ base
  base_in_law = written.written test_base (omega arith)

  words_in_law : get_or test test_words 0 ≡ words
  words_in_law = written.written test_words (omega arith)

  all_in : total_in test ≡ all
  all_in = written.written test_bindings (omega arith)

  module _ (own_is : own ≡ own_of t b) (first_is : first ≡ get_or firsts (symbol_of t b) 0) (base-is : base ≡ sizes.nodes % 131072 + first * 3) (number_is : number ≡ b % 1024) (words-is : words ≡ (sizes.bindings % 2048 + 31) / 32) (all-is : all ≡ sizes.bindings % 2048) (goal_is : goal ≡ end_of t own) where
    module _ (rs : List Record) (kept : List ℕ) (frame : Frame rs t firsts sizes) (are : CandidatesAre rs kept sets (words_for rs)) (room : Room rs users) (under : Under memo stamp) (inside : b < total rs) where
      abbrev f : ℕ
      f = (binding_at rs b).nonterminal

      abbrev τ : Ty
      τ = (binding_at rs b).type

      abbrev w : World
      w = record { rs = rs; kept = kept; τ = τ; ns = nodes_of (rule_of rs f) }

      ruled : f < count Kind.rule rs
      ruled = let n = frame.named b inside in let r = frame.rules_all in omega arith

      words_for_law : words_in test ≡ words_for rs
      words_for_law = let n = frame.bindings_are in let few = frame.few_bindings in let i = words_in_law in omega arith

      all_for : total_in test ≡ total rs
      all_for = let n = frame.bindings_are in let few = frame.few_bindings in let i = all_in in omega arith

      number_for : number ≡ b
      number_for = let few = frame.few_bindings in omega arith

      first_for : first ≡ first_node rs f
      first_for = first_is ∙ ap (λ k. get_or firsts k 0) (frame.table.bindings.symbol b inside) ∙ frame.firsts_are f ruled

      base_for : base ≡ nodes_from rs + first_node rs f * 3
      base_for =
          let n = frame.nodes_from_law in
          let few = frame.few_bindings in
          let types = frame.table.types.few_types_law in
          let i = first_for in
          omega arith

      column_for : (c : ℕ) → c < total rs → column_of test c ≡ c * words_for rs
      column_for c h = let few = frame.few_bindings in let i : c % 1024 ≡ c = omega arith in ap (λ k. k * words_in test) i ∙ ap (λ k. c * k) words_for_law

      brief_for : (c : ℕ) → c < total rs → brief_of test c ≡ total rs * words_for rs + c
      brief_for c h = let few = frame.few_bindings in let i : c % 1024 ≡ c = omega arith in ap (λ k. total_in test * words_in test + k) i ∙ ap (λ k. k * words_in test + c) all_for ∙ ap (λ k. total rs * k + c) words_for_law

      is_own : Goal rs own τ
      is_own = subst (λ k. Goal rs k τ) (sym own_is) (frame.table.bindings.own b inside)

      setting : Setting x w
      setting =
          record {
            types = frame.table.types;
            bindings = frame.table.bindings;
            automaton = frame.table.automaton;
            candidates = subst (CandidatesAre rs kept sets) (sym words_for_law) are;
            nodes = subst (λ k. NodesAre (count Kind.nonterminal rs) t k (nodes_of (rule_of rs f))) (sym (base_in_law ∙ base_for)) (frame.table.bodies f ruled);
            own = subst (λ k. Goal rs k τ) (sym own_in) is_own;
            all_bindings_law = all_for;
            few_bindings = frame.few_bindings;
          }

      roomy : Worlds.Room x w users
      roomy =
          record {
            owner = let few = frame.few_bindings in let o = owner_is in let n = number_for in omega arith;
            columns = λ c h.
                let i = column_for c h in
                let o = owner_is in
                let n = number_for in
                let m : (c + 1) * words_for rs ≤ total rs * words_for rs = mul-le-mul {n₁ = c + 1} {m₁ = words_for rs} {n₂ = total rs} {m₂ = words_for rs} (omega arith) (omega arith) in
                let e : (c + 1) * words_for rs ≡ c * words_for rs + words_for rs = omega arith in
                let k : owner_in test / 32 < words_for rs = omega arith in
                omega arith;
            briefs = λ c h. let i = brief_for c h in omega arith;
          }

      right : Right x w memo users
      right =
          record {
            yes = λ i g s. absurd (fresh memo (wide_in test) (stamp_in test) i g true (subst (Under memo) (sym stamp_is) under) s);
            no = λ i g s. absurd (fresh memo (wide_in test) (stamp_in test) i g false (subst (Under memo) (sym stamp_is) under) s);
          }

      pub ready : Ready x w memo users
      ready = record { setting = setting; room = roomy; right = right }

      -- the body stands at the first node, and the final state is the goal
      pub at_first : At (nodes_of (rule_of rs f)) 0 (body_of (rule_of rs f))
      at_first = ([], (frame.bodies f ruled).one_term ∙ sym (append-nil (flat (body_of (rule_of rs f)))))

      pub is_goal : Goal rs goal (final τ)
      is_goal = subst (λ k. Goal rs k (final τ)) (sym goal_is) (end_goal frame.table.types own τ is_own)

      -- what it is to hold
      pub to_holds : (flags : List ℕ) → Has w flags (body_of (rule_of rs f)) (final τ) → Holds rs flags b
      unfolding holds_exactly holds
      to_holds flags h = subst (λ u. Has w flags u (final τ)) (sym (body_there rs f ruled)) h

      pub from_holds : (flags : List ℕ) → Holds rs flags b → Has w flags (body_of (rule_of rs f)) (final τ)
      unfolding holds_exactly holds
      from_holds flags h = subst (λ u. Has w flags u (final τ)) (body_there rs f ruled) h

      -- flags that have what is noted for the binding
      pub includes : (users' flags : List ℕ) → ((c : ℕ) → c < total rs → is_kept (get_or kept c 0) ≡ true → Marked users' (c * words_for rs) (total rs * words_for rs + c) b → is_kept (get_or flags c 0) ≡ true) → Includes x w users' flags
      includes users' flags inc c h r = inc c h r.is_kept_law (go r.noted)
        where
          go : Noted users' test c → Marked users' (c * words_for rs) (total rs * words_for rs + c) b
          go n = subst (λ k. Marked users' (c * words_for rs) k b) (brief_for c h) (subst (λ k. Marked users' k (brief_of test c) b) (column_for c h) (subst (λ k. Marked users' (column_of test c) (brief_of test c) k) (owner_is ∙ number_for) n))

    pub tests : (memo' users' : List ℕ) (r : Bool) → ChecksTerm x memo users 0 goal memo' users' r → TestsBinding t sets firsts sizes memo users stamp b memo' users' r
    tests memo' users' r told =
        record {
          grows = told.keeps.grows;
          under = λ u. told.keeps.under (stamp + 1) (let e = stamp_is in omega arith) (λ i. let k = u i in omega arith);
          yes = λ y rs kept frame are room u h flags inc.
              to_holds rs kept frame are room u h flags
              (told.yes y (w rs kept frame are room u h) (ready rs kept frame are room u h) flags (includes rs kept frame are room u h users' flags inc) (body_of (rule_of rs (binding_at rs b).nonterminal)) (at_first rs kept frame are room u h) (final (binding_at rs b).type) (is_goal rs kept frame are room u h));
          no = λ y rs kept frame are room u h k.
              told.no y (w rs kept frame are room u h) (ready rs kept frame are room u h) (body_of (rule_of rs (binding_at rs b).nonterminal)) (at_first rs kept frame are room u h) (final (binding_at rs b).type) (is_goal rs kept frame are room u h) (from_holds rs kept frame are room u h kept k);
        }

-- the same of the parts as they were before the numbers were written
pub tests_before : (t firsts : List ℕ) (sizes : Sizes) (before test now : List ℕ) (stamp b : ℕ) (own first base number words wide all goal : ℕ) → Writes (own ∷ base ∷ number ∷ stamp ∷ wide ∷ words ∷ all ∷ []) before test
    → own ≡ own_of t b → first ≡ get_or firsts (symbol_of t b) 0 → base ≡ sizes.nodes % 131072 + first * 3 → number ≡ b % 1024 → words ≡ (sizes.bindings % 2048 + 31) / 32 → all ≡ sizes.bindings % 2048 → goal ≡ end_of t own
    → (later : List ℕ) (r : Bool) → ChecksTerm (case_of t test) (answers_of test now) (users_of test now) 0 goal (answers_of test later) (users_of test later) r
    → TestsBinding t (drop test_cells before) firsts sizes (answers_of before now) (users_of before now) stamp b (answers_of before later) (users_of before later) r
tests_before t firsts sizes before test now stamp b own first base number words wide all goal written e₁ e₂ e₃ e₄ e₅ e₆ e₇ later r told =
    moved_sets before test (writes_same _ before test written) (λ sets answers users. TestsBinding t sets firsts sizes (answers now) (users now) stamp b (answers later) (users later) r)
    (tests t firsts sizes before test (answers_of test now) (users_of test now) stamp b own first base number words wide all goal written e₁ e₂ e₃ e₄ e₅ e₆ e₇ (answers_of test later) (users_of test later) r told)

-- no room for the numbers of a test
pub tests_not : (t firsts : List ℕ) (sizes : Sizes) (r w : List ℕ) (stamp b : ℕ) → length r ≤ test_answers → TestsBinding t (drop test_cells r) firsts sizes (answers_of r w) (users_of r w) stamp b (answers_of r w) (users_of r w) false
tests_not t firsts sizes r w stamp b h =
    record {
      grows = λ i k l e. e;
      under = λ u i. let k = u i in omega arith;
      yes = λ y. absurd (false≢true y);
      no = λ y rs kept frame are room u l k. let z = no_users r w h in let m = mul-le-mul {n₁ = 1} {m₁ = 1} {n₂ = total rs} {m₂ = words_for rs} (omega arith) (omega arith) in omega arith;
    }

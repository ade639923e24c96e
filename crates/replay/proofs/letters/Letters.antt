-- A letter on the term held: what the definition says, and how the next term is held.
use Prim.Native.Nat.{ℕ, suc, ◌+◌, ◌-◌, ◌<◌, ◌≤◌}
use native.Mathlib.Omega.{arith}
use mathlib.Core.Path.{◌≡◌, refl, sym, ap, subst, ◌∙◌}
use mathlib.Core.Bool.{false}
use mathlib.Core.List.{List}
use mathlib.Core.Option.{none, some}
use borrow.Author.Tests.{ne_eqb, le-ltb}
use lib.ListN.{length, get_or}
use Rattle.std.specs.Prelude.{Option as Maybe, None, Some, IfSome, IsSomeAnd, MatchOption, ok_or, Result, Ok, Err, IsErrAnd}
use Rattle.std.proofs.lemmas.Result.{err_from_is_err_and}
use Rattle.std.proofs.lemmas.Option.{MatchOption-at_some}
use mathlib.Core.Logic.{inl, inr}
use Rattle.records.specs.declared.refusal.Fault.{Fault}
use Rattle.records.specs.declared.refusal.Fault.TheVariants.{Lost, TooLarge}
use Rattle.closures.specs.heads.Heads.{head_as}
use Rattle.closures.specs.declared.heads.Head.{Head as Code}
use Rattle.closures.specs.declared.heads.Head.TheVariants.{Constructor, Nonterminal, Parameter}
use Rattle.closures.specs.declared.closures.Closure.{Closure as Packed}
use Rattle.scheme.specs.Sorts.{o}
use Rattle.scheme.specs.Sorting.{sort_of}
use Rattle.scheme.specs.Terms.{con, nt, Term, node, Terms, []ᵗ, countᵗ, term_at, nodes, put}
use Rattle.scheme.specs.Prefix.{flat}
use Rattle.scheme.specs.Reduction.{Plan, body}
use Rattle.scheme.specs.Typing.{Automaton}
use Rattle.scheme.specs.Replay
use Rattle.scheme.specs.Replay.{exceeds}
use Rattle.casefile.specs.Records.{Record}
use Rattle.casefile.specs.Tables.{transitions_of, targets_at, plan_of, automaton_of}
use Rattle.casefile.specs.Promises.{Passed}
use Rattle.casefile.specs.Sorted.{closed_sorts}
use Rattle.casefile.proofs.Small.{few_arguments}
use Rattle.casefile.proofs.Replays.{follow_sorted}
use Rattle.closures.specs.closures.Nodes.{NodesAt}
use Rattle.closures.specs.closures.Closures.{block_in_spec, count_in, place_in, slot_of, lone, Closure, Frame}
use Rattle.closures.specs.closures.Promises.{IsClosureAt, Capped}
use Rattle.closures.proofs.closures.Trees.{nodes_node, nodes_at}
use Rattle.closures.proofs.closures.Closures.{closure_parts, frame_none}
use Rattle.closures.specs.fronts.Fronts.{argumentsᵗ, Gatherable, IsFront, Gathers}
use Rattle.closures.specs.declared.fronts.Front.{Front}
use Rattle.transitions.specs.rows.Rows.{targets_of, IsRow, IsArity}
use Rattle.transitions.proofs.rows.Rows.{constructor_count}
use Rattle.replay.specs.letters.Letters.{Replaying, Holding, LeadsTo, Ready, Unfolds, IsTargetOf, Descends, Follows}
use Rattle.replay.specs.declared.letters.Held.{Held}
use Rattle.replay.proofs.letters.Bodies.{rule_none, rule_there}
use Rattle.replay.proofs.letters.Arguments.{descend_some}
use Rattle.index.specs.layout.Layout.{max_term, rules_at, block_units}

-- what a `?` gives where there is none
pub lost_by : {T : Type 0} (r : Result Held Fault) (there : Maybe T) (d : Fault) → IsErrAnd r (λ y. y ≡ d) → there ≡ None → ◌≡◌ {A = Result T Fault} (Err d) (ok_or there Lost) → r ≡ Err Lost
lost_by r there d h n e =
    let (y, is, same) = err_from_is_err_and r h in
    let lost : d ≡ Lost = cc in
    is ∙ ap Err (same ∙ lost)

-- a letter on a head
module _ (aut : Automaton) (plan : Plan) (ts : Terms) (q : ℕ) where
  not_unfolded : (h : Code) → ((f : ℕ) → h ≡ Nonterminal f → ⊥) → Replay.follow aut plan 0 (node (head_as h) ts) q ≡ none
  unfolding Replay.follow
  not_unfolded (Constructor c) k = refl
  not_unfolded (Nonterminal f) k = absurd (k f refl)
  not_unfolded (Parameter i) k = refl

  not_descended : (i : ℕ) (h : Code) → ((c : ℕ) → h ≡ Constructor c → ⊥) → Replay.follow aut plan (suc i) (node (head_as h) ts) q ≡ none
  unfolding Replay.follow
  not_descended i (Constructor c) k = absurd (k c refl)
  not_descended i (Nonterminal f) k = refl
  not_descended i (Parameter j) k = refl

  unfolded : (f : ℕ) → Replay.follow aut plan 0 (node (nt f) ts) q ≡ some (record { term = put ts (body plan f); state = q })
  unfolding Replay.follow
  unfolded f = refl

  descended : (i c : ℕ) → Replay.follow aut plan (suc i) (node (con c) ts) q ≡ Replay.descend i ts (aut.targets q c)
  unfolding Replay.follow
  descended i c = refl

-- a term within the limit, or after a letter that is not 0
within_limit : (t : Term) → nodes t ≤ max_term → exceeds max_term 0 t ≡ false
unfolding exceeds
within_limit t h = rw (le-ltb max_term (nodes t) h)

not_weighed : (i : ℕ) (t : Term) → exceeds max_term (suc i) t ≡ false
unfolding exceeds
not_weighed i t = rw (ne_eqb (suc i) 0 (λ z. omega arith))

few_there : (rs : List Record) → Passed rs → (t : Term) → sort_of (closed_sorts rs) t ≡ some o → countᵗ (argumentsᵗ t) ≤ 8
unfolding argumentsᵗ
few_there rs ok (node h ts) e = few_arguments rs ok h ts o e

-- the term in front, gathered, is held in block `top`
held_front : {file cells : List ℕ} {top q : ℕ} (front : Front) {t : Term} → IsFront file cells top front t → nodes t ≤ max_term
    → Holding file cells (top + 1) (record { head = front.head; frame = record { block = top; count = front.count }; state = q }) t q
held_front front w size = record { head = w.head; arguments = w.arguments; is = w.is; head_is = w.head_is; frame = w.frame; lower = omega arith; size = size; state_is = refl }

-- a nonterminal alone
put_nonterminal : (xs : Terms) (f : ℕ) → put xs (node (nt f) []ᵗ) ≡ node (nt f) []ᵗ
unfolding put
put_nonterminal xs f = refl

nodes_nonterminal : (f : ℕ) → nodes (node (nt f) []ᵗ) ≡ 1
unfolding nodes
nodes_nonterminal f = refl

-- the head that is held is that of the term
pub held_is : {file cells : List ℕ} {top : ℕ} {held : Held} {t : Term} {q : ℕ} (h : Holding file cells top held t q) (y : Code) → held.head ≡ y → t ≡ node (head_as y) h.arguments
held_is h y e = h.is ∙ ap (λ u. node u h.arguments) (sym h.head_is ∙ ap head_as e)

-- letter 0
module _ (file index : List ℕ) (rules : ℕ) (cells : List ℕ) (held : Held) (top : ℕ) where
  pub unfold_not : ((f : ℕ) → held.head ≡ Nonterminal f → ⊥) → Unfolds file index rules cells cells held top (Err Lost)
  unfolding LeadsTo
  unfold_not k =
      record {
        long = refl;
        leads = λ constructors table rs s t q w.
            let h = w.holding in
            inl (refl, ap (λ u. Replay.follow (automaton_of rs) (plan_of rs) 0 u q) (held_is h held.head refl) ∙ not_unfolded (automaton_of rs) (plan_of rs) h.arguments q held.head k);
      }

  module _ (f : ℕ) (k : held.head ≡ Nonterminal f) where
    next_is : (rs : List Record) (t : Term) (q : ℕ) (h : Holding file cells top held t q) → Replay.follow (automaton_of rs) (plan_of rs) 0 t q ≡ some (record { term = put h.arguments (body (plan_of rs) f); state = q })
    next_is rs t q h = ap (λ u. Replay.follow (automaton_of rs) (plan_of rs) 0 u q) (held_is h (Nonterminal f) k) ∙ unfolded (automaton_of rs) (plan_of rs) h.arguments q f

    pub unfold_itself : rules ≤ f → Unfolds file index rules cells cells held top (Ok (record { head = held.head; frame = record { block = held.frame.block; count = 0 }; state = held.state }))
    unfolding LeadsTo
    unfold_itself l =
        record {
          long = refl;
          leads = λ constructors table rs s t q w.
              let h = w.holding in
              let z : put h.arguments (body (plan_of rs) f) ≡ node (nt f) []ᵗ = ap (put h.arguments) (rule_none s.bodies f l) ∙ put_nonterminal h.arguments f in
              let size : nodes (put h.arguments (body (plan_of rs) f)) ≤ max_term = let n = ap nodes z ∙ nodes_nonterminal f in omega arith in (
                record { term = put h.arguments (body (plan_of rs) f); state = q },
                next_is rs t q h,
                within_limit (put h.arguments (body (plan_of rs) f)) size,
                record { head = nt f; arguments = []ᵗ; is = z; head_is = ap head_as k; frame = frame_none held.frame.block; lower = let a = h.lower in omega arith; size = size; state_is = h.state_is },
              );
        }

    module _ (l : f < rules) (at : ℕ) (ea : at ≡ get_or index (rules_at + f) 0) (small : at < 65536) (r : Maybe Front) {cells' : List ℕ} (gathers : Gathers file cells cells' at held.frame.block held.frame.count top r) where
      -- the body with the arguments put
      module _ (constructors : ℕ) (table : List (List (List ℕ))) (rs : List Record) (s : Replaying file index rules constructors table rs) (t : Term) (q : ℕ) (w : Ready file cells rs held top t q) where
        next : Term
        next = put w.holding.arguments (body (plan_of rs) f)

        next_there : Replay.follow (automaton_of rs) (plan_of rs) 0 t q ≡ some (record { term = next; state = q })
        unfolding next
        next_there = next_is rs t q w.holding

        gatherable : Gatherable file cells at held.frame.block held.frame.count top (body (plan_of rs) f) w.holding.arguments
        unfolding next
        gatherable =
            record {
              here = rule_there s.bodies f l at ea small;
              frame = w.holding.frame;
              behind = w.holding.lower;
              few = w.few;
              room = w.room;
              narrow = few_there rs s.passed next (follow_sorted rs s.flags s.passed s.whole 0 t q (record { term = next; state = q }) w.sorted next_there);
            }

        next_size : IsSomeAnd r (λ front. Capped front.nodes (nodes next))
        unfolding next
        next_size = gathers.total (body (plan_of rs) f) w.holding.arguments gatherable

        next_front : nodes next ≤ max_term → IsSomeAnd r (λ front. IsFront file cells' top front next)
        unfolding next
        next_front size = gathers.gathers (body (plan_of rs) f) w.holding.arguments gatherable (omega arith)

      -- a term stands there
      pub unfold_none : r ≡ None → Unfolds file index rules cells cells' held top (Err Lost)
      unfold_none e =
          record { long = gathers.long; leads = λ constructors table rs s t q w. absurd (subst (λ o. IsSomeAnd o (λ front. Capped front.nodes (nodes (next constructors table rs s t q w)))) e (next_size constructors table rs s t q w)) }

      module _ (front : Front) (e : r ≡ Some front) where
        size_is : (constructors : ℕ) (table : List (List (List ℕ))) (rs : List Record) (s : Replaying file index rules constructors table rs) (t : Term) (q : ℕ) (w : Ready file cells rs held top t q) → Capped front.nodes (nodes (next constructors table rs s t q w))
        size_is constructors table rs s t q w = subst (λ o. IsSomeAnd o (λ front. Capped front.nodes (nodes (next constructors table rs s t q w)))) e (next_size constructors table rs s t q w)

        pub unfold_large : max_term < front.nodes → Unfolds file index rules cells cells' held top (Err TooLarge)
        unfolding LeadsTo
        unfold_large m =
            record {
              long = gathers.long;
              leads = λ constructors table rs s t q w.
                  inr (refl, refl, record { term = next constructors table rs s t q w; state = q }, next_there constructors table rs s t q w, (size_is constructors table rs s t q w).over m);
            }

        pub unfold_does : front.nodes ≤ max_term → Unfolds file index rules cells cells' held top (Ok (record { head = front.head; frame = record { block = top; count = front.count }; state = held.state }))
        unfolding LeadsTo
        unfold_does m =
            record {
              long = gathers.long;
              leads = λ constructors table rs s t q w.
                  let u = next constructors table rs s t q w in
                  let size : nodes u ≤ max_term = let e = (size_is constructors table rs s t q w).exact m in omega arith in
                  let there : IsFront file cells' top front u = subst (λ o. IsSomeAnd o (λ front. IsFront file cells' top front u)) e (next_front constructors table rs s t q w size) in (
                    record { term = u; state = q },
                    next_there constructors table rs s t q w,
                    within_limit u size,
                    subst (λ p. Holding file cells' (top + 1) (record { head = front.head; frame = record { block = top; count = front.count }; state = p }) u q) (sym w.holding.state_is) (held_front front there size),
                  );
            }

-- a letter from 1 on
module _ {file index : List ℕ} {constructors : ℕ} {table : List (List (List ℕ))} {cells : List ℕ} {held : Held} {i top : ℕ} where
  pub descend_not : ((c : ℕ) → held.head ≡ Constructor c → ⊥) → Descends file index constructors table cells cells held i top (Err Lost)
  unfolding LeadsTo
  descend_not k =
      record {
        long = refl;
        leads = λ rules rs s t q w.
            let h = w.holding in
            inl (refl, ap (λ u. Replay.follow (automaton_of rs) (plan_of rs) (suc i) u q) (held_is h held.head refl) ∙ not_descended (automaton_of rs) (plan_of rs) h.arguments q i held.head k);
      }

  module _ (c : ℕ) (k : held.head ≡ Constructor c) (row : Maybe (List ℕ)) (is_row : IsRow table constructors held.state c row) (arity : ℕ) (is-arity : IsArity file index constructors c arity) (target : Maybe ℕ) (is-target : IsTargetOf row arity held.frame.count i target) where
    -- what the letter leads to, by the row
    by_row : (rules : ℕ) (rs : List Record) → Replaying file index rules constructors table rs → (t : Term) (q : ℕ) (h : Holding file cells top held t q)
        → Replay.follow (automaton_of rs) (plan_of rs) (suc i) t q ≡ Replay.descend i h.arguments (targets_of arity row)
    unfolding automaton_of
    by_row rules rs s t q h =
        let x = is_row.targets rs s.passed s.table_is (constructor_count rs s.constructors_there) s.few_constructors in
        let a = is-arity rs s.passed s.constructors_there s.few_constructors in
        ap (λ u. Replay.follow (automaton_of rs) (plan_of rs) (suc i) u q) (held_is h (Constructor c) k)
        ∙ descended (automaton_of rs) (plan_of rs) h.arguments q i c
        ∙ ap (λ p. Replay.descend i h.arguments (targets_at (transitions_of rs) p c)) (sym h.state_is)
        ∙ ap (Replay.descend i h.arguments) (sym x ∙ ap (λ n. targets_of n row) (sym a))

    pub descend_lost : target ≡ None → Descends file index constructors table cells cells held i top (Err Lost)
    unfolding LeadsTo
    descend_lost e =
        record {
          long = refl;
          leads = λ rules rs s t q w.
              let h = w.holding in
              inl (refl, by_row rules rs s t q h ∙ is-target.stops e h.arguments h.frame.counted (is_row.four rs s.table_is));
        }

    module _ (r : ℕ) (e : target ≡ Some r) (found : Maybe Packed) (cell : IsClosureAt cells held.frame.block held.frame.count i found) where
      -- there is such an argument
      cell_there : (t : Term) (q : ℕ) (h : Holding file cells top held t q) → top < block_units → MatchOption found (held.frame.count ≤ i) (λ v. (i < held.frame.count) × (v.0 ≡ get_or cells (slot_of held.frame.block held.frame.count + i) 0))
      cell_there t q h few = let l = h.lower in cell (omega arith) h.frame.few

      module _ (v : Packed) (z : found ≡ Some v) (at block count : ℕ) (eat : at ≡ place_in v.0) (eblock : block ≡ block_in_spec v.0) (ecount : count ≡ count_in v.0) (result : Maybe Front) {cells' : List ℕ} (gathers : Gathers file cells cells' at block count top result) where
        next_at : (rules : ℕ) (rs : List Record) → Replaying file index rules constructors table rs → (t : Term) (q : ℕ) (h : Holding file cells top held t q)
            → Replay.follow (automaton_of rs) (plan_of rs) (suc i) t q ≡ some (record { term = term_at h.arguments i lone; state = r })
        next_at rules rs s t q h =
            let (targets, there, below, inside, few, is) = is-target.goes r e in
            let c = h.frame.counted in
            let four : length targets ≡ 4 = subst (λ o. IfSome o (λ targets. length targets ≡ 4)) there (is_row.four rs s.table_is) in
            by_row rules rs s t q h
            ∙ ap (λ o. Replay.descend i h.arguments (targets_of arity o)) there
            ∙ descend_some i h.arguments targets arity lone (omega arith) inside (omega arith)
            ∙ ap (λ p. some (record { term = term_at h.arguments i lone; state = p })) is

        closure_there : (t : Term) (q : ℕ) (h : Holding file cells top held t q) → top < block_units → Closure file cells held.frame.block v.0 (term_at h.arguments i lone)
        closure_there t q h few =
            let (below, is) = MatchOption-at_some (held.frame.count ≤ i) (λ v. (i < held.frame.count) × (v.0 ≡ get_or cells (slot_of held.frame.block held.frame.count + i) 0)) v z (cell_there t q h few) in
            subst (λ u. Closure file cells held.frame.block u (term_at h.arguments i lone)) (sym is) (h.frame.closures i below)

        small_there : (t : Term) (q : ℕ) (h : Holding file cells top held t q) → nodes (term_at h.arguments i lone) ≤ max_term
        small_there t q h =
            let (targets, there, below, inside, few, is) = is-target.goes r e in
            let c = h.frame.counted in
            let n = nodes_at h.arguments i lone (omega arith) in
            let a = ap nodes h.is ∙ nodes_node h.head h.arguments in
            omega (arith, h.size)

        front_there : (rules : ℕ) (rs : List Record) → Replaying file index rules constructors table rs → (t : Term) (q : ℕ) (w : Ready file cells rs held top t q) → IsSomeAnd result (λ front. IsFront file cells' top front (term_at w.holding.arguments i lone))
        front_there rules rs s t q w =
            let h = w.holding in
            let (b, xs, falls, here, frame, is) = closure_parts (closure_there t q h w.few) in
            let sorted = follow_sorted rs s.flags s.passed s.whole (suc i) t q (record { term = term_at h.arguments i lone; state = r }) w.sorted (next_at rules rs s t q h) in
            let few = few_there rs s.passed (term_at h.arguments i lone) sorted in
            let size = small_there t q h in
            subst (λ u. IsSomeAnd result (λ front. IsFront file cells' top front u)) (sym is)
            (gathers.gathers b xs
            (record {
              here = subst (λ p. NodesAt file p (flat b)) (sym eat) here;
              frame = subst (λ n. Frame file cells n count xs) (sym eblock) (subst (λ n. Frame file cells (block_in_spec v.0) n xs) (sym ecount) frame);
              behind = let l = h.lower in omega arith;
              few = w.few;
              room = w.room;
              narrow = subst (λ u. countᵗ (argumentsᵗ u) ≤ 8) is few;
            })
            (let n = ap nodes is in omega arith))

        pub descend_never : result ≡ None → Descends file index constructors table cells cells' held i top (Err Lost)
        descend_never y =
            record { long = gathers.long; leads = λ rules rs s t q w. absurd (subst (λ o. IsSomeAnd o (λ front. IsFront file cells' top front (term_at w.holding.arguments i lone))) y (front_there rules rs s t q w)) }

        pub descend_does : (front : Front) → result ≡ Some front → Descends file index constructors table cells cells' held i top (Ok (record { head = front.head; frame = record { block = top; count = front.count }; state = r }))
        unfolding LeadsTo
        descend_does front y =
            record {
              long = gathers.long;
              leads = λ rules rs s t q w.
                  let h = w.holding in
                  let there : IsFront file cells' top front (term_at h.arguments i lone) = subst (λ o. IsSomeAnd o (λ front. IsFront file cells' top front (term_at h.arguments i lone))) y (front_there rules rs s t q w) in (
                    record { term = term_at h.arguments i lone; state = r },
                    next_at rules rs s t q h,
                    not_weighed i (term_at h.arguments i lone),
                    held_front front there (small_there t q h),
                  );
            }

-- either kind of letter
module _ {file index : List ℕ} {rules constructors : ℕ} {table : List (List (List ℕ))} {cells cells' : List ℕ} {held : Held} {letter top : ℕ} {r : Result Held Fault} where
  pub follow_unfolds : letter ≡ 0 → Unfolds file index rules cells cells' held top r → Follows file index rules constructors table cells cells' held letter top r
  follow_unfolds z w =
      record {
        long = w.long;
        leads = λ rs s t q x. subst (λ l. LeadsTo file cells' top l (Replay.follow (automaton_of rs) (plan_of rs) l t q) r) (sym z) (w.leads constructors table rs s t q x);
      }

  pub follow_descends : (letter ≡ 0 → ⊥) → Descends file index constructors table cells cells' held (letter - 1) top r → Follows file index rules constructors table cells cells' held letter top r
  follow_descends z w =
      record {
        long = w.long;
        leads = λ rs s t q x.
            let e : suc (letter - 1) ≡ letter = omega arith in
            subst (λ l. LeadsTo file cells' top l (Replay.follow (automaton_of rs) (plan_of rs) l t q) r) e (w.leads rules rs s t q x);
      }

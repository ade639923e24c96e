-- Bindings that are dropped one by one: those that failed and are passed are gone and what they served is marked, the sets of candidates
-- are right for the flags.
use Prim.Native.Nat.{ℕ, zero, suc, ◌+◌, ◌*◌, ◌/◌, ◌%◌, ◌<◌, ◌≤◌}
use native.Mathlib.Omega.{arith}
use native.Mathlib.Decide.{dec_lt, ℕ_discrete}
use native.Mathlib.Nat.{mul-le-mul, le_of_suc-le-suc}
use mathlib.Core.Path.{◌≡◌, refl, sym, ap, ap₂, subst, ◌∙◌}
use mathlib.Core.List.{List, [], ◌∷◌}
use lib.ListN.{length, get_or, set, length-set}
use lib.Seq.{get_or-set_same, get_or-set_other}
use Rattle.casefile.specs.Records.{Record}
use Rattle.index.specs.layout.Layout.{max_bindings, max_binding_words, row_limit}
use Rattle.marks.specs.Marks.{In, FindsNext}
use Rattle.marks.specs.briefs.Briefs.{Marked}
use Rattle.tables.specs.Facts.{CandidatesAre}
use Rattle.tables.specs.Filling.{words_for, LeavesSets}
use Rattle.marks.proofs.briefs.Passing.{marked_more}
use Rattle.rounds.specs.Resting.{total, Frame, Noted, Room}
use Rattle.rounds.specs.tested.Tested.{Todo}
use Rattle.rounds.specs.dropping.Dropping.{Joins, Drops, DropsAll}
use Rattle.rounds.specs.declared.tested.Sizes.{Sizes}

-- a store past the end changes nothing
pub set_past : (l : List ℕ) (i : ℕ) → length l ≤ i → set l i 0 ≡ l
set_past [] i h = refl
set_past (x ∷ xs) zero h = absurd (omega arith)
set_past (x ∷ xs) (suc i) h = ap (x ∷◌) (set_past xs i (le_of_suc-le-suc h))

-- the places of a set of so many bindings fit a word
pub places_fit : (n words m : ℕ) → n < row_limit → words ≡ (m % row_limit + 31) / 32 → n * words ≤ 131008
places_fit n words m l e = mul-le-mul {n₁ = n} {m₁ = words} {n₂ = 2047} {m₂ = 64} (omega arith) (omega arith)

module _ {rs : List Record} {t firsts : List ℕ} {sizes : Sizes} (f : Frame rs t firsts sizes) where
  pub total_is : sizes.bindings % row_limit ≡ total rs
  total_is = let e = f.bindings_are in let l = f.few_bindings in omega arith

  pub words_are : (sizes.bindings % row_limit + 31) / 32 ≡ words_for rs
  words_are = ap (λ n. (n + 31) / 32) total_is

module _ (t firsts users : List ℕ) (sizes : Sizes) where
  pub dropped_one : (b : ℕ) (sets flags todo sets' flags' todo' : List ℕ) (all words : ℕ) → all ≡ sizes.bindings % row_limit → words ≡ (sizes.bindings % row_limit + 31) / 32 → flags' ≡ set flags b 0 → LeavesSets t b words sets sets'
      → Joins users (b % max_bindings * words) (all * words + b % max_bindings) todo todo' → Drops t firsts users sizes b sets flags todo sets' flags' todo'
  dropped_one b sets flags todo sets' flags' todo' all words ea ew e l j =
      record {
        sets_long = l.long;
        flags_long = ap length e ∙ length-set flags b 0;
        todo_long = j.long;
        gone = λ h. ap (λ x. get_or x b 0) e ∙ get_or-set_same flags b 0 0 h;
        others = λ c d. ap (λ x. get_or x c 0) e ∙ get_or-set_other flags b c 0 0 d;
        grows = j.grows;
        candidates = λ rs f h k cs.
            let w = ew ∙ words_are f in
            subst (λ x. CandidatesAre rs x sets' (words_for rs)) (sym e)
            (subst (CandidatesAre rs (set flags b 0) sets') w (l.left rs flags f.table.types f.table.bindings h k w (subst (CandidatesAre rs flags sets) (sym w) cs)));
        marked = λ rs f room h long d i.
            let n = ea ∙ total_is f in
            let w = ew ∙ words_are f in
            let few = f.few_bindings in
            let own : b ≡ b % max_bindings = omega arith in
            let place : b * words_for rs ≡ b % max_bindings * words = ap₂ ◌*◌ own (sym w) in
            let brief : total rs * words_for rs + b ≡ all * words + b % max_bindings = ap₂ ◌+◌ (ap₂ ◌*◌ (sym n) (sym w)) own in
            j.joined d long (subst (λ x. Marked users (b % max_bindings * words) x d) brief (subst (λ x. Marked users x (total rs * words_for rs + b) d) place i));
      }

  -- all that failed below b are dropped
  pub record Dropped (failed sets flags todo : List ℕ) (least past : ℕ) (sets' flags' todo' : List ℕ) (b : ℕ) : Type 0 where
    pub sets_long : length sets' ≡ length sets
    pub flags_long : length flags' ≡ length flags
    pub todo_long : length todo' ≡ length todo
    pub gone : (rs : List Record) → Frame rs t firsts sizes → past ≤ total rs → total rs ≤ length flags → (c : ℕ) → c < b → least ≤ c → c < past → In failed 0 c → get_or flags' c 0 ≡ 0
    pub others : (c : ℕ) → (In failed 0 c → ⊥) → get_or flags' c 0 ≡ get_or flags c 0
    pub candidates : (rs : List Record) → Frame rs t firsts sizes → past ≤ total rs → total rs ≤ length flags → CandidatesAre rs flags sets (words_for rs) → CandidatesAre rs flags' sets' (words_for rs)
    pub marked : (rs : List Record) → Frame rs t firsts sizes → Room rs users → past ≤ total rs → max_binding_words < length todo → (c d : ℕ) → c < b → least ≤ c → c < past → In failed 0 c → Noted rs users d c → Todo todo' d

  module _ (failed sets flags todo : List ℕ) (least past : ℕ) where
    pub dropped_none : (r : ℕ) → FindsNext failed 0 least past r → Dropped failed sets flags todo least past sets flags todo r
    dropped_none r n =
        record {
          sets_long = refl;
          flags_long = refl;
          todo_long = refl;
          gone = λ rs f all room c l a h i. absurd (n.passed c a l i);
          others = λ c d. refl;
          candidates = λ rs f all room cs. cs;
          marked = λ rs f ro all room c d l a h i m. absurd (n.passed c a l i);
        }

    module _ (sets' flags' todo' : List ℕ) (b : ℕ) (w : Dropped failed sets flags todo least past sets' flags' todo' b) where
      pub dropped_more : b < past → In failed 0 b → (sets'' flags'' todo'' : List ℕ) → Drops t firsts users sizes b sets' flags' todo' sets'' flags'' todo'' → (r : ℕ) → FindsNext failed 0 (b + 1) past r
          → Dropped failed sets flags todo least past sets'' flags'' todo'' r
      dropped_more h here sets'' flags'' todo'' o r n =
          record {
            sets_long = o.sets_long ∙ w.sets_long;
            flags_long = o.flags_long ∙ w.flags_long;
            todo_long = o.todo_long ∙ w.todo_long;
            gone = λ rs f all room c l a k i. gone_at rs f all room c l a k i (ℕ_discrete c b);
            others = λ c d. o.others c (λ e. d (subst (In failed 0) (sym e) here)) ∙ w.others c d;
            candidates = λ rs f all room cs. o.candidates rs f (omega arith) (inside rs all room) (w.candidates rs f all room cs);
            marked = λ rs f ro all room c d l a k i u. marked_at rs f ro all room c d l a k i u (ℕ_discrete c b);
          }
        where
          inside : (rs : List Record) → past ≤ total rs → total rs ≤ length flags → b < length flags'
          inside rs all room = let s = w.flags_long in omega arith

          passed : (c : ℕ) → c < r → (c ≡ b → ⊥) → In failed 0 c → c < b
          passed c l d i = go (dec_lt c b)
            where
              go : Dec (c < b) → c < b
              go (yes x) = x
              go (no x) = absurd (n.passed c (let y = d in omega arith) l i)

          gone_at : (rs : List Record) → Frame rs t firsts sizes → past ≤ total rs → total rs ≤ length flags → (c : ℕ) → c < r → least ≤ c → c < past → In failed 0 c → Dec (c ≡ b) → get_or flags'' c 0 ≡ 0
          gone_at rs f all room c l a k i (yes e) = ap (λ x. get_or flags'' x 0) e ∙ o.gone (inside rs all room)
          gone_at rs f all room c l a k i (no d) = o.others c d ∙ w.gone rs f all room c (passed c l d i) a k i

          marked_at : (rs : List Record) → Frame rs t firsts sizes → Room rs users → past ≤ total rs → max_binding_words < length todo → (c d : ℕ) → c < r → least ≤ c → c < past → In failed 0 c → Noted rs users d c → Dec (c ≡ b) → Todo todo'' d
          marked_at rs f ro all room c d l a k i u (yes e) = o.marked rs f ro (omega arith) (let s = w.todo_long in omega arith) d (subst (Noted rs users d) e u)
          marked_at rs f ro all room c d l a k i u (no x) = marked_more todo' todo'' o.grows 0 max_binding_words d (w.marked rs f ro all room c d (passed c l x i) a k i u)

      pub dropped_all : past ≤ b → DropsAll t firsts users sizes failed sets flags todo least past sets' flags' todo'
      dropped_all h =
          record {
            sets_long = w.sets_long;
            flags_long = w.flags_long;
            todo_long = w.todo_long;
            gone = λ rs f all room c a k i. w.gone rs f all room c (omega arith) a k i;
            others = w.others;
            candidates = w.candidates;
            marked = λ rs f ro all room c d a k i u. w.marked rs f ro all room c d (omega arith) a k i u;
          }

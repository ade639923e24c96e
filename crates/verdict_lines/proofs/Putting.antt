-- Texts put into a line one behind another, and the lengths of the lines. A text that is put
-- behind another one is put as their concatenation, so that a line is put by putting its words and numbers in turn.
use Prim.Native.Nat.{ℕ, ◌+◌, ◌-◌, ◌^◌, ◌<◌, ◌≤◌}
use mathlib.Core.Path.{◌≡◌, sym, ap, subst, ◌∙◌}
use mathlib.Core.List.{List, ◌++◌, append_assoc}
use native.Mathlib.Decide.{dec_lt}
use native.Mathlib.Omega.{arith}
use borrow.Author.Tests.{lt-ltb, le-ltb}
use lib.ListN.{length, take, length-append, length-take}
use Rattle.io.specs.Counts.{IsPrefixLen}
use Rattle.io.specs.Digits.{last_digits, IsDigitCount}
use Rattle.plan_check.specs.Verdicts.{answer_as}
use Rattle.plan_check.specs.declared.Verdict.{Verdict}
use Rattle.plan_check.specs.declared.Verdict.TheVariants.{Proved, Unproved, Refuted, Refused}
use Rattle.verdict_lines.specs.Lines.{Puts, numbered, numeral, line_of, proved_word, unproved_word, of_word, rounds_word, refuted_word, state_word, constructor_word, refused_word, at_word, binding_word, round_word, node_word, goal_state_word, goal_type_word, wanted_part, wanted_as, explanation_as, reason_line}
use Rattle.verdict_lines.proofs.Numerals.{numeral_digits, numeral_length}

-- one text behind another
pub puts_then : (line : List ℕ) (from : ℕ) (s one : List ℕ) (at : ℕ) (t two : List ℕ) (r : ℕ) → length one ≡ length line → Puts line from s one at → Puts one at t two r → Puts line from (s ++ t) two r
puts_then line from s one at t two r same a b =
    let long = length-append s t in
    record {
      is_place = λ room. let p = a.is_place (omega arith) in let q = b.is_place (omega arith) in omega arith;
      is_text =
          λ room.
          let p = a.is_place (omega arith) in
          b.is_text (omega arith) ∙ ap (λ (l : List ℕ). l ++ t) (a.is_text (omega arith)) ∙ append_assoc (take from line) s t;
    }

-- a word, and behind it the digits of a number
pub puts_numbered : (line : List ℕ) (from : ℕ) (word one : List ℕ) (at number k : ℕ) (spelt two : List ℕ) (r : ℕ) → length one ≡ length line → IsDigitCount 10 1 number k → spelt ≡ last_digits 10 k number → Puts line from word one at → Puts one at spelt two r → Puts line from (numbered word number) two r
unfolding numbered
puts_numbered line from word one at number k spelt two r same few is a b =
    puts_then line from word one at (numeral number) two r same a (subst (λ (t : List ℕ). Puts one at t two r) (is ∙ numeral_digits k number few) b)

-- a word and its number are 20 bytes longer than the word at most
numbered_length : (word : List ℕ) (n : ℕ) → n < 2 ^ 64 → length (numbered word n) ≤ length word + 20
unfolding numbered
numbered_length word n h = rw length-append (let few = numeral_length n h in omega arith)

two_length : (v w : List ℕ) (m n : ℕ) → m < 2 ^ 64 → n < 2 ^ 64 → length (numbered v m ++ numbered w n) ≤ length v + length w + 40
two_length v w m n hm hn =
    rw length-append (let a = numbered_length v m hm in let b = numbered_length w n hn in omega arith)

three_length : (u v w : List ℕ) (l m n : ℕ) → l < 2 ^ 64 → m < 2 ^ 64 → n < 2 ^ 64 → length (numbered u l ++ numbered v m ++ numbered w n) ≤ length u + length v + length w + 60
three_length u v w l m n hl hm hn =
    rw length-append (let a = two_length u v l m hl hm in let b = numbered_length w n hn in omega arith)

-- what is promised of the line of a verdict
abbrev Says : Verdict → List ℕ → ℕ → Type 0
Says v after r = (r ≤ 128) × (IsPrefixLen r after × (take r after ≡ line_of (answer_as v)))

-- a text that the first r bytes are, and that has r bytes, is within the line
counts_text : (r : ℕ) (text after : List ℕ) → r ≡ length text → take r after ≡ text → IsPrefixLen r after
counts_text r text after e is =
    let long = length-take r after in
    let same = ap length is in
    (omega arith, omega arith)

-- a text for which there is room is all that is put at the start of a buffer
puts_first : (line text after : List ℕ) (r : ℕ) → length line ≡ 128 → length text ≤ 128 → Puts line 0 text after r → (r ≤ 128) × (IsPrefixLen r after × (take r after ≡ text))
puts_first line text after r size room p =
    let e = p.is_place (omega arith) in
    let is = p.is_text (omega arith) in
    (omega arith, (counts_text r text after (omega arith) is, is))

-- THE LINE of each verdict
pub says_proved : (v : Verdict) (k t n : ℕ) (line after : List ℕ) (r : ℕ) → v ≡ Proved k t n → k < 2 ^ 64 → t < 2 ^ 64 → n < 2 ^ 64 → length line ≡ 128 → Puts line 0 (numbered proved_word k ++ numbered of_word t ++ numbered rounds_word n) after r → Says v after r
unfolding line_of answer_as
says_proved v k t n line after r e hk ht hn size p =
    let fits = three_length proved_word of_word rounds_word k t n hk ht hn in
    subst (λ (w : Verdict). Says w after r) (sym e) (puts_first line _ after r size (omega arith) p)

pub says_unproved : (v : Verdict) (k t n : ℕ) (line after : List ℕ) (r : ℕ) → v ≡ Unproved k t n → k < 2 ^ 64 → t < 2 ^ 64 → n < 2 ^ 64 → length line ≡ 128 → Puts line 0 (numbered unproved_word k ++ numbered of_word t ++ numbered rounds_word n) after r → Says v after r
unfolding line_of answer_as
says_unproved v k t n line after r e hk ht hn size p =
    let fits = three_length unproved_word of_word rounds_word k t n hk ht hn in
    subst (λ (w : Verdict). Says w after r) (sym e) (puts_first line _ after r size (omega arith) p)

pub says_refuted : (v : Verdict) (n q c : ℕ) (line after : List ℕ) (r : ℕ) → v ≡ Refuted n q c → n < 2 ^ 64 → q < 2 ^ 64 → c < 2 ^ 64 → length line ≡ 128 → Puts line 0 (numbered refuted_word n ++ numbered state_word q ++ numbered constructor_word c) after r → Says v after r
unfolding line_of answer_as
says_refuted v n q c line after r e hn hq hc size p =
    let fits = three_length refuted_word state_word constructor_word n q c hn hq hc in
    subst (λ (w : Verdict). Says w after r) (sym e) (puts_first line _ after r size (omega arith) p)

pub says_refused : (v : Verdict) (n q : ℕ) (line after : List ℕ) (r : ℕ) → v ≡ Refused n q → n < 2 ^ 64 → q < 2 ^ 64 → length line ≡ 128 → Puts line 0 (numbered refused_word n ++ numbered at_word q) after r → Says v after r
unfolding line_of answer_as
says_refused v n q line after r e hn hq size p =
    let fits = two_length refused_word at_word n q hn hq in
    subst (λ (w : Verdict). Says w after r) (sym e) (puts_first line _ after r size (omega arith) p)

-- a goal below 16 is a state, and any other a type
wanted_part_state : (goal : ℕ) → goal < 16 → wanted_part (wanted_as goal) ≡ numbered goal_state_word goal
unfolding wanted_as wanted_part
wanted_part_state goal h = rw (lt-ltb goal 16 h)

wanted_part_type : (goal : ℕ) → 16 ≤ goal → wanted_part (wanted_as goal) ≡ numbered goal_type_word (goal - 16)
unfolding wanted_as wanted_part
wanted_part_type goal h = rw (le-ltb goal 16 h)

-- the goal that is put, by its number
pub puts_state : (line : List ℕ) (from goal : ℕ) (after : List ℕ) (r : ℕ) → goal < 16 → Puts line from (numbered goal_state_word goal) after r → Puts line from (wanted_part (wanted_as goal)) after r
puts_state line from goal after r h p = rw (wanted_part_state goal h) p

pub puts_type : (line : List ℕ) (from goal : ℕ) (after : List ℕ) (r : ℕ) → 16 ≤ goal → Puts line from (numbered goal_type_word (goal - 16)) after r → Puts line from (wanted_part (wanted_as goal)) after r
puts_type line from goal after r h p = rw (wanted_part_type goal h) p

-- its part of the line has 32 bytes at most
wanted_part_length : (goal : ℕ) → goal < 2 ^ 64 → Dec (goal < 16) → length (wanted_part (wanted_as goal)) ≤ 32
wanted_part_length goal h (yes small) = rw (wanted_part_state goal small) (let a = numbered_length goal_state_word goal h in omega arith)
wanted_part_length goal h (no large) =
    rw (wanted_part_type goal (omega arith)) (let a = numbered_length goal_type_word (goal - 16) (omega arith) in omega arith)

-- the line of a dropped binding, put part by part
pub puts_reason : (line : List ℕ) (binding n place goal : ℕ) (one : List ℕ) (a : ℕ) (two : List ℕ) (b : ℕ) (three : List ℕ) (c : ℕ) (after : List ℕ) (r : ℕ) → length one ≡ length line → length two ≡ length line → length three ≡ length line → Puts line 0 (numbered binding_word binding) one a → Puts one a (numbered round_word n) two b → Puts two b (numbered node_word place) three c → Puts three c (wanted_part (wanted_as goal)) after r → Puts line 0 (reason_line binding (explanation_as n place goal)) after r
unfolding reason_line
puts_reason line binding n place goal one a two b three c after r h1 h2 h3 p1 p2 p3 p4 =
    puts_then _ _ _ _ _ _ _ _ h3 (puts_then _ _ _ _ _ _ _ _ h2 (puts_then _ _ _ _ _ _ _ _ h1 p1 p2) p3) p4

-- THE LINE of a dropped binding
pub says_reason : (binding n place goal : ℕ) (line after : List ℕ) (r : ℕ) → binding < 2 ^ 64 → n < 2 ^ 64 → place < 2 ^ 64 → goal < 2 ^ 64 → length line ≡ 128 → Puts line 0 (reason_line binding (explanation_as n place goal)) after r → (r ≤ 128) × (IsPrefixLen r after × (take r after ≡ reason_line binding (explanation_as n place goal)))
unfolding reason_line
says_reason binding n place goal line after r hb hn hp hg size p =
    puts_first line _ after r size
    (rw length-append (let a = three_length binding_word round_word node_word binding n place hb hn hp in let b = wanted_part_length goal hg (dec_lt goal 16) in omega arith))
    p

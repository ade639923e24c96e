-- What our own crates promise each other; nothing here has to be believed.
-- The check of a term by the nodes of a body and the numbers of goals, and what its answers rest on. Section "Types and shrinking" of
-- the scope: "Checking a term calls for its arguments, and each argument is again a term".
use Rattle.std.specs.Prelude.{ℕ, ◌+◌, ◌*◌, ◌/◌, ◌%◌, ◌^◌, ◌<◌, ◌≤◌, min, ◌≡◌, ◌⊎◌, Bool, true, false, Option, Some, T, length, get_or, take, drop}
use mathlib.Core.List.{List, Memᴰ}
use Rattle.std.proofs.Math.Option.{some}
use Rattle.scheme.specs.Terms.{Term, Terms, []ᵗ, ◌∷ᵗ◌, countᵗ}
use Rattle.scheme.specs.Prefix.{Node}
use Rattle.scheme.specs.Types.{Ty, state, arrow, Tys, members, same, takes, domains, off}
use Rattle.scheme.specs.Typing.{head_types, has}
use Rattle.scheme.specs.Flags.{is_kept, chosen}
use Rattle.casefile.specs.Records.{Record}
use Rattle.casefile.specs.Kinds.{Kind, count}
use Rattle.casefile.specs.Tables.{automaton_of, bindings_of}
use Rattle.index.specs.layout.Layout.{max_bindings, word_bits, test_users, test_answers, test_cells}
use Rattle.marks.specs.Marks.{bit_of}
use Rattle.answers.specs.Answers.{Says, Looks, Under}
use Rattle.answers.specs.declared.Outlook.{Outlook}
use Rattle.tables.specs.Facts.{Goal, TypesAre, BindingsAre, AutomatonIs, CandidatesAre, NodesAre, At, AllAt}
use Rattle.term_check.specs.notes.Notes.{own_in_spec, base_in, owner_in, stamp_in, wide_in, words_in, total_in, column_of, brief_of, Noted}

-- each argument has every member that a type asks for, P saying what it is to have a type
unfoldable pub Args : (Term → Ty → Type 0) → Terms → Ty → Type 0
Args P []ᵗ τ = Unit {0}
Args P (t ∷ᵗ ts) (state q) = ⊥
Args P (t ∷ᵗ ts) (arrow a r) = ((m : Ty) → Memᴰ m (members a) → P t m) × Args P ts r

-- what a check reads: the flat table, the sets of candidates, the numbers of the test
pub record Case : Type 0 where
  pub t : List ℕ
  pub sets : List ℕ
  pub test : List ℕ

-- the case of a flat table and of what is read beside it: the numbers of the test, then the sets of candidates
abbrev pub case_of : List ℕ → List ℕ → Case
case_of t r = record { t = t; sets = drop test_cells r; test = r }

-- what a check writes: hints, then users from a place on, then the answers from a place on
unfoldable pub split_at : List ℕ → List ℕ → ℕ
split_at r w = min (get_or r test_answers 0) (length w)

unfoldable pub from_in : List ℕ → List ℕ → ℕ
from_in r w = min (get_or r test_users 0) (split_at r w)

unfoldable pub answers_of : List ℕ → List ℕ → List ℕ
answers_of r w = drop (split_at r w) w

unfoldable pub users_of : List ℕ → List ℕ → List ℕ
users_of r w = drop (from_in r w) (take (split_at r w) w)

-- bit k is in the word at a place, where that is below an end; no bit is lost, and from the end on nothing changed
pub record PutsBelow (words : List ℕ) (end i k : ℕ) (after : List ℕ) : Type 0 where
  pub long : length after ≡ length words
  pub behind : drop end after ≡ drop end words
  pub grows : (j b : ℕ) → b < word_bits → bit_of b (get_or words j 0) ≡ 1 → bit_of b (get_or after j 0) ≡ 1
  pub put : i < end → bit_of (k % word_bits) (get_or after i 0) ≡ 1

-- what it is about: the records of a file, the flags of the kept bindings, the type of the binding under test, and the nodes of its body
pub record World : Type 0 where
  pub rs : List Record
  pub kept : List ℕ
  pub τ : Ty
  pub ns : List Node

-- how many bindings there are
abbrev pub total : World → ℕ
total w = count Kind.binding w.rs

-- how many nonterminals
abbrev pub symbols : World → ℕ
symbols w = count Kind.nonterminal w.rs

-- a term has a type where the bindings with a flag are kept, by the definitions
abbrev pub Has : World → List ℕ → Term → Ty → Type 0
Has w flags t σ = T (has same (head_types (automaton_of w.rs) (chosen flags (bindings_of w.rs)) (domains w.τ)) t σ)

-- the tables are those of the records
pub record Setting (x : Case) (w : World) : Type 0 where
  pub types : TypesAre w.rs x.t
  pub bindings : BindingsAre w.rs x.t
  pub automaton : AutomatonIs w.rs x.t
  pub candidates : CandidatesAre w.rs w.kept x.sets (words_in x.test)
  pub nodes : NodesAre (symbols w) x.t (base_in x.test) w.ns
  pub own : Goal w.rs (own_in_spec x.test) w.τ
  pub all_bindings_law : total_in x.test ≡ total w
  pub few_bindings : total w ≤ max_bindings

-- there is room for the notes
pub record Room (x : Case) (w : World) (users : List ℕ) : Type 0 where
  pub owner : owner_in x.test < word_bits * word_bits
  pub columns : (c : ℕ) → c < total w → column_of x.test c + owner_in x.test / word_bits < length users
  pub briefs : (c : ℕ) → c < total w → brief_of x.test c < length users

-- binding c is kept, and it is noted
pub record Rests (x : Case) (w : World) (users : List ℕ) (c : ℕ) : Type 0 where
  pub is_kept_law : is_kept (get_or w.kept c 0) ≡ true
  pub noted : Noted users x.test c

-- some flags have all that is noted
abbrev pub Includes : Case → World → List ℕ → List ℕ → Type 0
Includes x w users flags = (c : ℕ) → c < total w → Rests x w users c → is_kept (get_or flags c 0) ≡ true

-- YES: the term at a node has a goal, whichever bindings are kept, so long as those that are noted are
abbrev pub Yes : Case → World → List ℕ → ℕ → ℕ → Type 0
Yes x w users i g = (flags : List ℕ) → Includes x w users flags → (u : Term) → At w.ns i u → (σ : Ty) → Goal w.rs g σ → Has w flags u σ

-- NO: it has not, with all that are kept
abbrev pub No : Case → World → ℕ → ℕ → Type 0
No x w i g = (u : Term) → At w.ns i u → (σ : Ty) → Goal w.rs g σ → Has w w.kept u σ → ⊥

-- all that is remembered is so
pub record Right (x : Case) (w : World) (memo users : List ℕ) : Type 0 where
  pub yes : (i g : ℕ) → Says memo (wide_in x.test) (stamp_in x.test) i g true → Yes x w users i g
  pub no : (i g : ℕ) → Says memo (wide_in x.test) (stamp_in x.test) i g false → No x w i g

-- the tables, the room, and what is remembered
pub record Ready (x : Case) (w : World) (memo users : List ℕ) : Type 0 where
  pub setting : Setting x w
  pub room : Room x w users
  pub right : Right x w memo users

-- notes are not lost, what is remembered stays right, and tests are remembered by their own numbers alone
pub record Keeps (x : Case) (memo users memo' users' : List ℕ) : Type 0 where
  pub long : length users' ≡ length users
  pub grows : (i k : ℕ) → k < word_bits → bit_of k (get_or users i 0) ≡ 1 → bit_of k (get_or users' i 0) ≡ 1
  pub under : (bound : ℕ) → stamp_in x.test < bound → Under memo bound → Under memo' bound
  pub right : (w : World) → Ready x w memo users → Right x w memo' users'

-- r is the answer to a question, with what a yes and what a no say
pub record Tells (x : Case) (memo users memo' users' : List ℕ) (Y N : World → Type 0) (r : Bool) : Type 0 where
  pub keeps : Keeps x memo users memo' users'
  pub yes : r ≡ true → (w : World) → Ready x w memo users → Y w
  pub no : r ≡ false → (w : World) → Ready x w memo users → N w

-- the question for the term at a node and a goal
abbrev pub ChecksTerm : Case → List ℕ → List ℕ → ℕ → ℕ → List ℕ → List ℕ → Bool → Type 0
ChecksTerm x memo users i g memo' users' r = Tells x memo users memo' users' (λ w. Yes x w users' i g) (λ w. No x w i g) r

-- the question for one argument and the members that an arrow asks for
abbrev pub MembersYes : Case → World → List ℕ → ℕ → ℕ → Type 0
MembersYes x w users i g = (a : Tys) (r : Ty) → Goal w.rs g (arrow a r) → (m : Ty) → Memᴰ m (members a) → (flags : List ℕ) → Includes x w users flags → (u : Term) → At w.ns i u → Has w flags u m

abbrev pub MembersNo : Case → World → ℕ → ℕ → Type 0
MembersNo x w i g = (a : Tys) (r : Ty) → Goal w.rs g (arrow a r) → (u : Term) → At w.ns i u → ((m : Ty) → Memᴰ m (members a) → Has w w.kept u m) → ⊥

abbrev pub ChecksMembers : Case → List ℕ → List ℕ → ℕ → ℕ → List ℕ → List ℕ → Bool → Type 0
ChecksMembers x memo users i g memo' users' r = Tells x memo users memo' users' (λ w. MembersYes x w users' i g) (λ w. MembersNo x w i g) r

-- the question for the term at a node and all goals of a set, as bits
abbrev pub ChecksAll : Case → List ℕ → List ℕ → ℕ → ℕ → List ℕ → List ℕ → Bool → Type 0
ChecksAll x memo users i mask memo' users' r = Tells x memo users memo' users' (λ w. (q : ℕ) → bit_of q mask ≡ 1 → Yes x w users' i q) (λ w. (q : ℕ) × (bit_of q mask ≡ 1) × No x w i q) r

-- the bits of m are goals that the term at a node has
pub record Finds (x : Case) (memo users : List ℕ) (i : ℕ) (memo' users' : List ℕ) (m : ℕ) : Type 0 where
  pub keeps : Keeps x memo users memo' users'
  pub found : (w : World) → Ready x w memo users → (q : ℕ) → bit_of q m ≡ 1 → Yes x w users' i q

-- what is found of the goals of a set, as bits: some that the term at a node has, and some of the set that it lacks
pub record Settles (x : Case) (memo users : List ℕ) (i asked : ℕ) (memo' users' : List ℕ) (m : Outlook) : Type 0 where
  pub finds : Finds x memo users i memo' users' m.had
  pub within : (q : ℕ) → bit_of q m.lacked ≡ 1 → bit_of q asked ≡ 1
  pub lacks : (w : World) → Ready x w memo users → (q : ℕ) → bit_of q m.lacked ≡ 1 → No x w i q

-- r is what was known last of the goals of a word, where the goal is one of them, or else what is remembered
abbrev pub LooksOn : List ℕ → ℕ → ℕ → ℕ → ℕ → Option (ℕ × Outlook) → Outlook → Type 0
LooksOn memo wide stamp at goal last r = (last ≡ Some (goal / word_bits, r)) ⊎ Looks memo wide stamp at goal r

-- the question for the arguments from a node on, and a type that has an arrow for each
abbrev pub ArgsYes : Case → World → List ℕ → ℕ → ℕ → ℕ → Type 0
ArgsYes x w users first n g =
    (flags : List ℕ) → Includes x w users flags → (ts : Terms) → AllAt w.ns first ts → countᵗ ts ≡ n → (υ ρ : Ty) → Goal w.rs g υ → off n υ ≡ some ρ → Args (Has w flags) ts υ

abbrev pub ArgsNo : Case → World → ℕ → ℕ → ℕ → Type 0
ArgsNo x w first n g = (ts : Terms) → AllAt w.ns first ts → countᵗ ts ≡ n → (υ ρ : Ty) → Goal w.rs g υ → off n υ ≡ some ρ → Args (Has w w.kept) ts υ → ⊥

abbrev pub ChecksArgs : Case → List ℕ → List ℕ → ℕ → ℕ → ℕ → List ℕ → List ℕ → Bool → Type 0
ChecksArgs x memo users first n g memo' users' r = Tells x memo users memo' users' (λ w. ArgsYes x w users' first n g) (λ w. ArgsNo x w first n g) r

-- the question for the arguments of a constructor, each with a target, four bits each
abbrev pub Targets : ℕ → ℕ → List ℕ → Type 0
Targets n targets qs = (n ≤ length qs) × ((k : ℕ) → k < n → get_or qs k 0 ≡ targets / 16 ^ k % 16)

abbrev pub TargetsYes : Case → World → List ℕ → ℕ → ℕ → ℕ → Type 0
TargetsYes x w users first n targets =
    (flags : List ℕ) → Includes x w users flags → (ts : Terms) → AllAt w.ns first ts → countᵗ ts ≡ n → (qs : List ℕ) (q : ℕ) → Targets n targets qs → Args (Has w flags) ts (takes qs q)

abbrev pub TargetsNo : Case → World → ℕ → ℕ → ℕ → Type 0
TargetsNo x w first n targets = (ts : Terms) → AllAt w.ns first ts → countᵗ ts ≡ n → (qs : List ℕ) (q : ℕ) → Targets n targets qs → Args (Has w w.kept) ts (takes qs q) → ⊥

abbrev pub ChecksTargets : Case → List ℕ → List ℕ → ℕ → ℕ → ℕ → List ℕ → List ℕ → Bool → Type 0
ChecksTargets x memo users first n targets memo' users' r = Tells x memo users memo' users' (λ w. TargetsYes x w users' first n targets) (λ w. TargetsNo x w first n targets) r

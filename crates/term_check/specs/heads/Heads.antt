-- What our own crates promise each other; nothing here has to be believed.
-- The types of a head against a goal, and what is known of an argument without a check.
use Rattle.std.specs.Prelude.{ℕ, suc, ◌+◌, ◌/◌, ◌%◌, ◌^◌, ◌<◌, ◌≤◌, ◌≡◌, MatchOption, Bool, true, false, Option, Some, None, List, length, get_or}
use Rattle.std.proofs.Math.Option.{some}
use Rattle.scheme.specs.Terms.{Terms, countᵗ}
use Rattle.scheme.specs.Types.{Ty, state, arrow, Tys, members, takes, final, off}
use Rattle.scheme.specs.Flags.{is_kept}
use Rattle.casefile.specs.Tables.{transitions_of, targets_at}
use Rattle.index.specs.layout.Layout.{max_states, no_number, row_limit, word_bits}
use Rattle.marks.specs.Marks.{bit_of}
use Rattle.tables.specs.reading.Cells.{member_of_spec, node_at, own_of, off_of, group_of}
use Rattle.tables.specs.declared.reading.Node.{Node}
use Rattle.tables.specs.Facts.{Goal, AllAt, TypesAre, binding_at}
use Rattle.answers.specs.declared.Outlook.{Outlook}
use Rattle.term_check.specs.declared.heads.Listed.{Listed}
use Rattle.term_check.specs.notes.Notes.{own_in_spec, base_in}
use Rattle.term_check.specs.Worlds.{Args, Case, World, Has, Setting, Ready, Tells, Yes, No, ArgsYes, Targets, total, symbols}

-- binding c is kept, it is one of a nonterminal, and its type with arrows off is σ
pub record Leads (w : World) (number n : ℕ) (σ : Ty) (c : ℕ) : Type 0 where
  pub inside : c < total w
  pub is_kept_law : is_kept (get_or w.kept c 0) ≡ true
  pub symbol : (binding_at w.rs c).nonterminal ≡ number
  pub rest : off n (binding_at w.rs c).type ≡ some σ

-- binding c does not serve for the term at a node: it does not lead to the goal, or the arguments lack what its type asks for
abbrev pub Fails : World → ℕ → ℕ → Node → ℕ → Type 0
Fails w at goal a c =
    (σ : Ty) → Goal w.rs goal σ → (ts : Terms) → AllAt w.ns (suc at) ts → countᵗ ts ≡ a.count → a.count < 256 → Leads w a.number a.count σ c → Args (Has w w.kept) ts (binding_at w.rs c).type → ⊥

-- r says whether binding c serves for the term at a node with a nonterminal in front
abbrev pub Tries : Case → List ℕ → List ℕ → ℕ → ℕ → Node → ℕ → List ℕ → List ℕ → Bool → Type 0
Tries x memo users at goal a c memo' users' r =
    a ≡ node_at x.t (base_in x.test) at → a.tag ≡ 1 → Tells x memo users memo' users' (λ w. Yes x w users' at goal) (λ w. Fails w at goal a c) r

-- r is the type of a parameter of the binding under test, as a goal, by the table: it has the types that are given for the parameter
abbrev pub IsGiven : Case → ℕ → Option ℕ → Type 0
IsGiven x number None = off_of x.t number (own_in_spec x.test) ≡ no_number
IsGiven x number (Some given) = (given ≡ off_of x.t number (own_in_spec x.test)) × (given ≡ no_number → ⊥)

-- r is the type of binding c where it is a goal with arrows off, by the table
pub record IsLeading (t : List ℕ) (n goal c : ℕ) (r : Option ℕ) : Type 0 where
  pub leads : (ty : ℕ) → r ≡ Some ty → (ty ≡ own_of t c) × (off_of t n ty ≡ goal)
  pub misses : r ≡ None → off_of t n (own_of t c) ≡ goal → ⊥

-- r is the type of binding c where it is one of a nonterminal of the file that leads to a goal
pub record IsCandidate (x : Case) (number n goal c : ℕ) (r : Option ℕ) : Type 0 where
  pub leads : (ty : ℕ) → r ≡ Some ty → (w : World) → Setting x w → number < symbols w → (σ : Ty) → Goal w.rs goal σ → Leads w number n σ c
  pub owns : (ty : ℕ) → r ≡ Some ty → (w : World) → Setting x w → c < total w → Goal w.rs ty (binding_at w.rs c).type
  pub misses : r ≡ None → (w : World) → Setting x w → (σ : Ty) → Goal w.rs goal σ → n < 256 → Leads w number n σ c → ⊥

-- binding c is not kept, or it does not lead to the goal
abbrev pub Misses : Case → ℕ → ℕ → ℕ → ℕ → Type 0
Misses x number n goal c = (w : World) → Setting x w → (σ : Ty) → Goal w.rs goal σ → n < 256 → Leads w number n σ c → ⊥

-- r is the first binding of the nonterminal of a node, from one on, that is kept and leads to a goal, with its type
abbrev pub NextLeads : Case → Node → ℕ → ℕ → Option Listed → Type 0
NextLeads x a goal from r =
    group_of x.t a.number ≤ from
    → MatchOption r ((c : ℕ) → from ≤ c → Misses x a.number a.count goal c) (λ found. (from ≤ found.binding) × (found.binding < group_of x.t (a.number % row_limit + 1)) × ((c : ℕ) → from ≤ c → c < found.binding → Misses x a.number a.count goal c) × IsCandidate x a.number a.count goal found.binding (Some found.ty))

-- r says whether a goal takes targets, so many that are packed in a number, to a state
pub record Matches (t : List ℕ) (goal targets left : ℕ) (r : Bool) : Type 0 where
  pub yes : r ≡ true → (w : World) → TypesAre w.rs t → (σ : Ty) → Goal w.rs goal σ → (ps : List ℕ) (q : ℕ) → length ps ≡ left → ((k : ℕ) → k < left → get_or ps k 0 ≡ targets / 16 ^ k % 16) → final σ ≡ state q → σ ≡ takes ps q
  pub no : r ≡ false → (w : World) → TypesAre w.rs t → (σ : Ty) → Goal w.rs goal σ → (ps : List ℕ) (q : ℕ) → length ps ≡ left → ((k : ℕ) → k < left → get_or ps k 0 ≡ targets / 16 ^ k % 16) → σ ≡ takes ps q → ⊥

-- r has the targets of the transition of constructor c whose type with arrows off is a goal; None where there is none
pub record IsTargets (t : List ℕ) (c n goal : ℕ) (r : Option ℕ) : Type 0 where
  pub found : (targets : ℕ) → r ≡ Some targets → (x : Case) (w : World) → x.t ≡ t → Setting x w → (σ : Ty) → Goal w.rs goal σ
      → (q : ℕ) × (qs : List ℕ) × (targets_at (transitions_of w.rs) q c ≡ some qs) × (off n (takes qs q) ≡ some σ)
  pub all : (x : Case) (w : World) → x.t ≡ t → Setting x w → (σ : Ty) → Goal w.rs goal σ → (q : ℕ) (qs : List ℕ) → targets_at (transitions_of w.rs) q c ≡ some qs → off n (takes qs q) ≡ some σ → (targets : ℕ) × (r ≡ Some targets) × Targets n targets qs

-- of the states of a set, as bits, those at which a node with a constructor in front and no argument has a transition, and those at which
-- it has none
pub record Leaf (t : List ℕ) (a : Node) (asked : ℕ) (r : Outlook) : Type 0 where
  pub had : (q : ℕ) → bit_of q r.had ≡ 1 → (a.count ≡ 0) × IsTargets t a.number 0 q (Some 0)
  pub lacked : (q : ℕ) → bit_of q r.lacked ≡ 1 → (bit_of q asked ≡ 1) × IsTargets t a.number a.count q None

-- where r is known, it says whether a node, which has no constructor and no nonterminal in front, stands alone and has a goal
pub record Alone (x : Case) (a : Node) (goal : ℕ) (r : Option Bool) : Type 0 where
  pub yes : r ≡ Some true → (w : World) (users : List ℕ) (i : ℕ) → Setting x w → a ≡ node_at x.t (base_in x.test) i → (a.tag ≡ 0 → ⊥) → (a.tag ≡ 1 → ⊥) → Yes x w users i goal
  pub no : r ≡ Some false → (w : World) (i : ℕ) → Setting x w → a ≡ node_at x.t (base_in x.test) i → (a.tag ≡ 0 → ⊥) → (a.tag ≡ 1 → ⊥) → No x w i goal

-- the bits of r are states that the term at a node has, and states that it lacks
pub record Seen (x : Case) (memo : List ℕ) (i : ℕ) (r : Outlook) : Type 0 where
  pub yes : (w : World) (users : List ℕ) → Ready x w memo users → (q : ℕ) → q < max_states → bit_of q r.had ≡ 1 → Yes x w users i q
  pub no : (w : World) (users : List ℕ) → Ready x w memo users → (q : ℕ) → q < max_states → bit_of q r.lacked ≡ 1 → No x w i q

-- where r is true, the term at a node has all members of an arrow
pub record AllHad (x : Case) (memo : List ℕ) (i g : ℕ) (r : Bool) : Type 0 where
  pub had : r ≡ true → (w : World) (users : List ℕ) → Ready x w memo users → (a : Tys) (ρ : Ty) → Goal w.rs g (arrow a ρ) → (j : ℕ) → j < length (members a) → Yes x w users i (member_of_spec x.t g j)

-- where r is true, the arguments from a node on have what a type asks for
pub record ArgsKnown (x : Case) (memo : List ℕ) (first n g : ℕ) (r : Bool) : Type 0 where
  pub have : r ≡ true → (w : World) (users : List ℕ) → Ready x w memo users → ArgsYes x w users first n g

-- r is the goal that a type becomes with arrows off, where it is one of a set, as bits
pub record Wanted (t : List ℕ) (goals ty n : ℕ) (r : Option ℕ) : Type 0 where
  pub leads : (g : ℕ) → r ≡ Some g → (g < word_bits) × (bit_of g goals ≡ 1) × (g ≡ off_of t n ty)
  pub misses : r ≡ None → (g : ℕ) → bit_of g goals ≡ 1 → off_of t n ty ≡ g → ⊥

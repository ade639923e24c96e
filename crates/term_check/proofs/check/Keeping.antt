-- What is noted stays noted, and what is remembered stays right: of two steps, and of more notes.
use Prim.Native.Nat.{ℕ, ◌+◌, ◌/◌, ◌%◌, ◌<◌}
use mathlib.Core.Path.{◌≡◌, refl, sym, ap, subst, ◌∙◌}
use mathlib.Core.Logic.{◌⊎◌, inl, inr}
use mathlib.Core.Bool.{Bool, true, false}
use mathlib.Core.List.{List}
use lib.ListN.{length, get_or}
use Rattle.index.specs.layout.Layout.{word_bits}
use Rattle.scheme.specs.Flags.{bit}
use Rattle.marks.specs.Marks.{bit_of}
use Rattle.marks.proofs.briefs.Passing.{marked_more}
use Rattle.answers.specs.Answers.{Says, Learns}
use Rattle.tables.specs.reading.Cells.{node_at}
use Rattle.tables.specs.declared.reading.Node.{Node}
use Rattle.term_check.specs.notes.Notes.{base_in, owner_in, stamp_in, wide_in, column_of, brief_of, Notes}
use Rattle.term_check.specs.Worlds.{Case, World, Room, Includes, Yes, No, Right, Ready, Keeps, Tells}

-- notes that grew
abbrev pub Grows : List ℕ → List ℕ → Type 0
Grows users users' = (i k : ℕ) → k < word_bits → bit_of k (get_or users i 0) ≡ 1 → bit_of k (get_or users' i 0) ≡ 1

module _ (x : Case) (w : World) where
  pub includes_less : (users users' : List ℕ) → Grows users users' → (flags : List ℕ) → Includes x w users' flags → Includes x w users flags
  includes_less users users' more flags inc c h r = inc c h (record { is_kept_law = r.is_kept_law; noted = marked_more users users' more (column_of x.test c) (brief_of x.test c) (owner_in x.test) r.noted })

  pub yes_more : (users users' : List ℕ) → Grows users users' → (i g : ℕ) → Yes x w users i g → Yes x w users' i g
  yes_more users users' more i g y flags inc = y flags (includes_less users users' more flags inc)

  pub right_more : (memo users users' : List ℕ) → Grows users users' → Right x w memo users → Right x w memo users'
  right_more memo users users' more r = record { yes = λ i g s. yes_more users users' more i g (r.yes i g s); no = r.no }

  pub room_same : (users users' : List ℕ) → length users' ≡ length users → Room x w users → Room x w users'
  room_same users users' e r =
      record {
        owner = r.owner;
        columns = λ c h. subst (λ n. column_of x.test c + owner_in x.test / word_bits < n) (sym e) (r.columns c h);
        briefs = λ c h. subst (λ n. brief_of x.test c < n) (sym e) (r.briefs c h);
      }

pub ready_on : {x : Case} {w : World} {memo users memo' users' : List ℕ} → Keeps x memo users memo' users' → Ready x w memo users → Ready x w memo' users'
ready_on {x} {w} {memo} {users} {memo'} {users'} k r = record { setting = r.setting; room = room_same x w users users' k.long r.room; right = k.right w r }

pub keeps_all : (x : Case) (memo users : List ℕ) → Keeps x memo users memo users
keeps_all x memo users = record { long = refl; grows = λ i k h b. b; under = λ bound s u. u; right = λ w r. r.right }

pub keeps_on : {x : Case} {memo users memo' users' memo'' users'' : List ℕ} → Keeps x memo users memo' users' → Keeps x memo' users' memo'' users'' → Keeps x memo users memo'' users''
keeps_on k l =
    record {
      long = l.long ∙ k.long;
      grows = λ i j h b. l.grows i j h (k.grows i j h b);
      under = λ bound s u. l.under bound s (k.under bound s u);
      right = λ w r. l.right w (ready_on k r);
    }

-- a note keeps all
pub keeps_note : (x : Case) (memo users users' : List ℕ) (c : ℕ) → Notes users x.test c users' → Keeps x memo users memo users'
keeps_note x memo users users' c n = record { long = n.long; grows = n.grows; under = λ bound s u. u; right = λ w r. right_more x w memo users users' n.grows r.right }

-- an answer after what keeps all is an answer
pub tells_on : {x : Case} {memo users memo' users' memo'' users'' : List ℕ} {Y N : World → Type 0} {r : Bool} → Keeps x memo users memo' users' → Tells x memo' users' memo'' users'' Y N r → Tells x memo users memo'' users'' Y N r
tells_on k told = record { keeps = keeps_on k told.keeps; yes = λ e w r. told.yes e w (ready_on k r); no = λ e w r. told.no e w (ready_on k r) }

-- answers that are right are remembered
module _ {x : Case} {memo users memo' users' : List ℕ} (k : Keeps x memo users memo' users') (at goal known had : ℕ) (memo'' : List ℕ) (learns : Learns memo' (wide_in x.test) (stamp_in x.test) at goal known had memo'') where
  -- what the goals of one cell that are known are
  pub record Known : Type 0 where
    pub yes : (w : World) → Ready x w memo users → (h : ℕ) → h / word_bits ≡ goal / word_bits → bit_of (h % word_bits) known ≡ 1 → bit_of (h % word_bits) had ≡ 1 → Yes x w users' at h
    pub no : (w : World) → Ready x w memo users → (h : ℕ) → h / word_bits ≡ goal / word_bits → bit_of (h % word_bits) known ≡ 1 → bit_of (h % word_bits) had ≡ 0 → No x w at h

  pub keeps_learn : Known → Keeps x memo users memo'' users'
  unfolding bit
  keeps_learn are =
      record {
        long = k.long;
        grows = k.grows;
        under = λ bound s u. learns.under bound s (k.under bound s u);
        right = λ w r. record { yes = λ i h s. yes_there w r i h (learns.told _ i h true s); no = λ i h s. no_there w r i h (learns.told _ i h false s) };
      }
    where
      Told : Bool → ℕ → ℕ → Type 0
      Told c i h = Says memo' (wide_in x.test) (stamp_in x.test) i h c ⊎ ((stamp_in x.test ≡ stamp_in x.test) × (i ≡ at) × (h / word_bits ≡ goal / word_bits) × (bit_of (h % word_bits) known ≡ 1) × (bit_of (h % word_bits) had ≡ bit c))

      yes_there : (w : World) → Ready x w memo users → (i h : ℕ) → Told true i h → Yes x w users' i h
      yes_there w r i h (inl s) = (k.right w r).yes i h s
      yes_there w r i h (inr (e, p, q, a, b)) = subst (λ j. Yes x w users' j h) (sym p) (are.yes w r h q a b)

      no_there : (w : World) → Ready x w memo users → (i h : ℕ) → Told false i h → No x w i h
      no_there w r i h (inl s) = (k.right w r).no i h s
      no_there w r i h (inr (e, p, q, a, b)) = subst (λ j. No x w j h) (sym p) (are.no w r h q a b)

-- a node by the numbers of the test
module _ (t test : List ℕ) (base at : ℕ) (r : Node) (eb : base ≡ base_in test) (er : r ≡ node_at t base at) where
  pub node_by : r ≡ node_at t (base_in test) at
  node_by = er ∙ ap (λ b. node_at t b at) eb

  pub next_by : r.next ≡ (node_at t (base_in test) at).next
  next_by = ap (λ (z : Node). z.next) node_by

-- One term against a set of states, as bits: those that are found at once, then the others one by one.
use Prim.Native.Nat.{ℕ, ◌/◌, ◌%◌, ◌<◌}
use native.Mathlib.Omega.{arith}
use mathlib.Core.Path.{◌≡◌, sym, ap, subst}
use mathlib.Core.Logic.{◌⊎◌, inl, inr}
use mathlib.Core.Bool.{Bool, true, false, true≢false}
use mathlib.Core.List.{List}
use Rattle.index.specs.layout.Layout.{word_bits}
use Rattle.marks.specs.Marks.{bit_of}
use Rattle.marks.proofs.Bits.{zero_bit}
use Rattle.answers.specs.Answers.{Learns}
use Rattle.answers.specs.declared.Outlook.{Outlook}
use Rattle.tables.specs.Frames.{Adds}
use Rattle.term_check.specs.masks.Masks.{Lowest, TakesOut, Leaves}
use Rattle.term_check.specs.notes.Notes.{stamp_in, wide_in}
use Rattle.term_check.specs.Worlds.{Case, World, Ready, Yes, No, Keeps, ChecksTerm, ChecksAll, Finds, Settles}
use Rattle.term_check.proofs.check.Keeping.{yes_more, ready_on, keeps_all, keeps_on, keeps_learn}

-- What is found.
module _ (x : Case) (memo users : List ℕ) (at : ℕ) where
  pub finds_none : Finds x memo users at memo users 0
  finds_none = record { keeps = keeps_all x memo users; found = λ w r q b. let z = zero_bit q in absurd (omega arith) }

  module _ {memo' users' : List ℕ} {had : ℕ} (f : Finds x memo users at memo' users' had) {memo'' users'' : List ℕ} (k : Keeps x memo' users' memo'' users'') where
    pub finds_on : Finds x memo users at memo'' users'' had
    finds_on = record { keeps = keeps_on f.keeps k; found = λ w r q b. yes_more x w users' users'' k.grows at q (f.found w r q b) }

    -- one more
    pub finds_more : (q had' : ℕ) → q < word_bits → Adds had q had' → ((w : World) → Ready x w memo' users' → Yes x w users'' at q) → Finds x memo users at memo'' users'' had'
    finds_more q had' l puts yes-q = record { keeps = keeps_on f.keeps k; found = λ w r p b. go w r p (puts.only l p b) }
      where
        go : (w : World) → Ready x w memo users → (p : ℕ) → (bit_of p had ≡ 1) ⊎ (p ≡ q) → Yes x w users'' at p
        go w r p (inl b) = finds_on.found w r p b
        go w r p (inr e) = subst (Yes x w users'' at) (sym e) (yes-q w (ready_on f.keeps r))

  -- nothing is found to be lacked
  pub settles_found : (asked : ℕ) {memo' users' : List ℕ} {had : ℕ} → Finds x memo users at memo' users' had → Settles x memo users at asked memo' users' (record { had = had; lacked = 0 })
  settles_found asked f = record { finds = f; within = λ q b. absurd (nothing q b); lacks = λ w r q b. absurd (nothing q b) }
    where
      nothing : (q : ℕ) → bit_of q 0 ≡ 1 → ⊥
      nothing q b = let z = zero_bit q in omega arith

-- What is left.
module _ (x : Case) (memo users : List ℕ) (at asked : ℕ) where
  pub record Left (memo' users' : List ℕ) (had left : ℕ) : Type 0 where
    pub finds : Finds x memo users at memo' users' had
    pub all : (q : ℕ) → bit_of q asked ≡ 1 → (bit_of q left ≡ 1) ⊎ (bit_of q had ≡ 1)
    pub within : (q : ℕ) → bit_of q left ≡ 1 → bit_of q asked ≡ 1

  pub left_start : {memo' users' : List ℕ} {had left : ℕ} → Finds x memo users at memo' users' had → Leaves asked had left → Left memo' users' had left
  left_start f leaves = record { finds = f; all = leaves.all; within = leaves.within }

  -- the states stand in one cell
  state_bit : (h : ℕ) → h / word_bits ≡ 0 / word_bits → (n : ℕ) → bit_of (h % word_bits) n ≡ 1 → bit_of h n ≡ 1
  state_bit h e n b = subst (λ k. bit_of k n ≡ 1) (let f : h % word_bits ≡ h = omega arith in f) b

  -- one of them is lacked, and that is remembered
  lost : {memo' users' : List ℕ} {had : ℕ} → Finds x memo users at memo' users' had → (q : ℕ) → q < word_bits → bit_of q asked ≡ 1 → ((w : World) → Ready x w memo users → No x w at q) → (known : ℕ) → Adds had q known → (memo'' : List ℕ)
      → Learns memo' (wide_in x.test) (stamp_in x.test) at 0 known had memo'' → ChecksAll x memo users at asked memo'' users' false
  lost {memo'} {users'} {had} f q low is-asked no-q known puts memo'' learns =
      record {
        keeps =
            keeps_learn f.keeps at 0 known had memo'' learns
            (record { yes = λ w r h e k o. f.found w r h (state_bit h e had o); no = λ w r h e k o. lacks w r h e o (puts.only low (h % word_bits) k) });
        yes = λ y. absurd (true≢false (sym y));
        no = λ y w r. (q, is-asked, no-q w r);
      }
    where
      lacks : (w : World) → Ready x w memo users → (h : ℕ) → h / word_bits ≡ 0 / word_bits → bit_of (h % word_bits) had ≡ 0 → (bit_of (h % word_bits) had ≡ 1) ⊎ (h % word_bits ≡ q) → No x w at h
      lacks w r h e z (inl o) = absurd (omega arith)
      lacks w r h e z (inr o) = subst (No x w at) (let g : q ≡ h = omega arith in g) (no-q w r)

  module _ {memo' users' : List ℕ} {had left : ℕ} (s : Left memo' users' had left) where
    -- all are had
    pub left_end : left ≡ 0 → (memo'' : List ℕ) → Learns memo' (wide_in x.test) (stamp_in x.test) at 0 had had memo'' → ChecksAll x memo users at asked memo'' users' true
    left_end z memo'' learns =
        record {
          keeps =
              keeps_learn s.finds.keeps at 0 had had memo'' learns
              (record { yes = λ w r h e k b. s.finds.found w r h (state_bit h e had b); no = λ w r h e k b. absurd (omega arith) });
          yes = λ y w r q b. go w r q (s.all q b);
          no = λ y. absurd (true≢false y);
        }
      where
        go : (w : World) → Ready x w memo users → (q : ℕ) → (bit_of q left ≡ 1) ⊎ (bit_of q had ≡ 1) → Yes x w users' at q
        go w r q (inl b) = let n = zero_bit q in let y = ap (bit_of q) z in absurd (omega arith)
        go w r q (inr b) = s.finds.found w r q b

    -- the next one is checked
    module _ (nz : left ≡ 0 → ⊥) (q : ℕ) (is : Lowest left q) (memo'' users'' : List ℕ) (b : Bool) (told : ChecksTerm x memo' users' at q memo'' users'' b) where
      pub left_more : b ≡ true → (had' left' : ℕ) → Adds had q had' → TakesOut left q left' → Left memo'' users'' had' left'
      left_more e had' left' puts out =
          record {
            finds = finds_more x memo users at s.finds told.keeps q had' (is.within nz) puts (told.yes e);
            all = λ p o. go p (s.all p o);
            within = λ p o. s.within p (out.fewer p o);
          }
        where
          go : (p : ℕ) → (bit_of p left ≡ 1) ⊎ (bit_of p had ≡ 1) → (bit_of p left' ≡ 1) ⊎ (bit_of p had' ≡ 1)
          go p (inr o) = inr (puts.grows p o)
          go p (inl o) = by (out.stays (is.within nz) p o)
            where
              by : (bit_of p left' ≡ 1) ⊎ (p ≡ q) → (bit_of p left' ≡ 1) ⊎ (bit_of p had' ≡ 1)
              by (inl k) = inl k
              by (inr f) = inr (subst (λ k. bit_of k had' ≡ 1) (sym f) (puts.put (is.within nz)))

      pub left_fails : b ≡ false → (known : ℕ) → Adds had q known → (memo''' : List ℕ) → Learns memo'' (wide_in x.test) (stamp_in x.test) at 0 known had memo''' → ChecksAll x memo users at asked memo''' users'' false
      left_fails e known puts memo''' learns = lost (finds_on x memo users at s.finds told.keeps) q (is.within nz) (s.within q (is.has nz)) (λ w r. told.no e w (ready_on s.finds.keeps r)) known puts memo''' learns

  -- some are found to be lacked at once
  pub settled_fails : {memo' users' : List ℕ} {m : Outlook} → Settles x memo users at asked memo' users' m → (m.lacked ≡ 0 → ⊥) → (q : ℕ) → Lowest m.lacked q → (known : ℕ) → Adds m.had q known → (memo'' : List ℕ)
      → Learns memo' (wide_in x.test) (stamp_in x.test) at 0 known m.had memo'' → ChecksAll x memo users at asked memo'' users' false
  settled_fails s nz q is known puts memo'' learns = lost s.finds q (is.within nz) (s.within q (is.has nz)) (λ w r. s.lacks w r q (is.has nz)) known puts memo'' learns

-- One argument against the members of an arrow.
use Prim.Native.Nat.{ℕ, zero, suc, ◌/◌, ◌%◌, ◌<◌, ◌≤◌}
use native.Mathlib.Omega.{arith}
use native.Mathlib.Decide.{dec_lt}
use mathlib.Core.Path.{◌≡◌, refl, sym, ap, subst, ◌∙◌}
use mathlib.Core.Logic.{◌⊎◌, inl, inr}
use mathlib.Core.Bool.{Bool, true, false, true≢false}
use mathlib.Core.List.Memᴰ
use mathlib.Core.List.{List, [], ◌∷◌, Memᴰ}
use lib.Bits.{bit_and, and_le_l}
use lib.ListN.{length, get_or}
use Rattle.std.specs.Prelude.{Option, Some, None}
use Rattle.std.proofs.lemmas.Option.{none-some, some_pair_parts}
use Rattle.scheme.specs.Terms.{Term}
use Rattle.scheme.specs.Types.{Ty, state, arrow, Tys, members}
use Rattle.casefile.proofs.Repeats.{get_d_mem}
use Rattle.index.specs.layout.Layout.{max_states, word_bits}
use Rattle.marks.specs.Marks.{bit_of}
use Rattle.marks.proofs.Bits.{bit_small, zero_bit, and_bit, some_bit, high_bit}
use Rattle.answers.specs.Answers.{Learns}
use Rattle.answers.specs.declared.Outlook.{Outlook}
use Rattle.tables.specs.reading.Cells.{many_of_spec, member_of_spec, states_of_spec, arrows_of_spec}
use Rattle.tables.specs.Facts.{Goal, of_state_law, At}
use Rattle.term_check.specs.notes.Notes.{stamp_in, wide_in}
use Rattle.tables.specs.Frames.{Adds}
use Rattle.term_check.specs.masks.Masks.{HasBit, Leaves}
use Rattle.term_check.specs.heads.Heads.{Seen, AllHad}
use Rattle.term_check.specs.Worlds.{Case, World, Has, Ready, Includes, Yes, No, Keeps, ChecksTerm, ChecksMembers, MembersNo, ChecksAll, LooksOn}
use Rattle.term_check.proofs.Goals.{state_below}
use Rattle.term_check.proofs.check.Keeping.{Grows, yes_more, ready_on, keeps_all, keeps_on}
use Rattle.term_check.proofs.check.Learning.{learned_no, learned_yes}

-- an element by its number
pub mem_index : {A : Type 0} (d : A) (l : List A) (a : A) → Memᴰ a l → (j : ℕ) × (j < length l) × (get_or l j d ≡ a)
mem_index d [] a m = absurd (Memᴰ.not-nil m)
mem_index {A} d (b ∷ l) a m = go (Memᴰ.cases_cons m) (mem_index d l a)
  where
    Out : List A → Type 0
    Out l = (j : ℕ) × (j < length l) × (get_or l j d ≡ a)

    go : (a ≡ b) ⊎ Memᴰ a l → (Memᴰ a l → Out l) → Out (b ∷ l)
    go (inl e) ih = (zero, omega arith, sym e)
    go (inr k) ih = let (j, h, e) = ih k in (suc j, omega arith, e)

module _ (x : Case) (memo users : List ℕ) (at g : ℕ) where
  -- the states among the members, and what is known of them without a check
  module _ (states : ℕ) (is : states ≡ states_of_spec x.t g) (small : states < 65536) (k : Outlook) (seen : Seen x memo at k) where
    low_bit : (q : ℕ) → bit_of q states ≡ 1 → q < max_states
    low_bit q b = go (dec_lt q max_states)
      where
        go : Dec (q < max_states) → q < max_states
        go (yes h) = h
        go (no h) = let z = high_bit q 16 states (omega arith) (omega arith) in absurd (omega arith)

    -- one of them is lacked
    no_state : (w : World) → Ready x w memo users → (q : ℕ) → bit_of q states ≡ 1 → No x w at q → MembersNo x w at g
    no_state w r q b no-q a ρ ga u here all =
        let l = low_bit q b in
        no-q u here (state q) (of_state_law q l refl refl) (all (state q) ((r.setting.types.arrow_row g a ρ ga).states_in q l (ap (bit_of q) (sym is) ∙ b)))

    pub states_lack : (bit_and states k.lacked ≡ 0 → ⊥) → ChecksMembers x memo users at g memo users false
    states_lack d =
        record {
          keeps = keeps_all x memo users;
          yes = λ y. absurd (true≢false (sym y));
          no = λ y w r.
              let le = and_le_l states k.lacked in
              let (q, l, b) = some_bit 16 (bit_and states k.lacked) (omega arith) d in
              let both = and_bit q states k.lacked in
              let s1 = bit_small q states in
              let s2 = bit_small q k.lacked in
              no_state w r q (omega arith) (seen.no w users r q l (omega arith));
        }

    -- no member is an arrow, and all are had
    all_states : (memo' users' : List ℕ) → Keeps x memo users memo' users' → arrows_of_spec x.t g ≡ 0 → ((w : World) → Ready x w memo users → (q : ℕ) → bit_of q states ≡ 1 → Yes x w users' at q) → ChecksMembers x memo users at g memo' users' true
    all_states memo' users' keeps none had =
        record {
          keeps = keeps;
          yes = λ y w r a ρ ga m mem flags inc u here. having w r a ρ ga m mem flags inc u here;
          no = λ y. absurd (true≢false y);
        }
      where
        having : (w : World) → Ready x w memo users → (a : Tys) (ρ : Ty) → Goal w.rs g (arrow a ρ) → (m : Ty) → Memᴰ m (members a) → (flags : List ℕ) → Includes x w users' flags → (u : Term) → At w.ns at u → Has w flags u m
        having w r a ρ ga (arrow b s) mem flags inc u here = absurd ((r.setting.types.arrow_row g a ρ ga).pure none b s mem)
        having w r a ρ ga (state q) mem flags inc u here =
            let row = r.setting.types.arrow_row g a ρ ga in
            let (j, l, e) = mem_index (state 0) (members a) (state q) mem in
            let low = (state_below q (subst (Goal w.rs _) e (row.member j l))).1 in
            had w r q (ap (bit_of q) is ∙ row.states_out q mem) flags inc u here (state q) (of_state_law q low refl refl)

    module _ (left : ℕ) (leaves : Leaves states k.had left) where
      pub states_had : left ≡ 0 → arrows_of_spec x.t g ≡ 0 → ChecksMembers x memo users at g memo users true
      states_had z none = all_states memo users (keeps_all x memo users) none (λ w r q b. go w r q (low_bit q b) (leaves.all q b))
        where
          go : (w : World) → Ready x w memo users → (q : ℕ) → q < max_states → (bit_of q left ≡ 1) ⊎ (bit_of q k.had ≡ 1) → Yes x w users at q
          go w r q l (inl b) = let y = ap (bit_of q) z in let n = zero_bit q in absurd (omega arith)
          go w r q l (inr b) = seen.yes w users r q l b

      -- those that are not known are checked
      module _ (memo' users' : List ℕ) (b : Bool) (told : ChecksAll x memo users at left memo' users' b) where
        pub states_fail : b ≡ false → ChecksMembers x memo users at g memo' users' false
        states_fail e =
            record {
              keeps = told.keeps;
              yes = λ y. absurd (true≢false (sym y));
              no = λ y w r. let (q, o, no-q) = told.no e w r in no_state w r q (leaves.within q o) no-q;
            }

        pub states_checked : b ≡ true → arrows_of_spec x.t g ≡ 0 → ChecksMembers x memo users at g memo' users' true
        states_checked e none = all_states memo' users' told.keeps none (λ w r q o. go w r q (low_bit q o) (leaves.all q o))
          where
            go : (w : World) → Ready x w memo users → (q : ℕ) → q < max_states → (bit_of q left ≡ 1) ⊎ (bit_of q k.had ≡ 1) → Yes x w users' at q
            go w r q l (inl o) = told.yes e w r q o
            go w r q l (inr o) = yes_more x w users users' told.keeps.grows at q (seen.yes w users r q l o)

  -- all are had at once
  pub had_at_once : {b : Bool} → AllHad x memo at g b → b ≡ true → ChecksMembers x memo users at g memo users true
  had_at_once is e =
      record {
        keeps = keeps_all x memo users;
        yes = λ y w r a ρ ga m mem flags inc u here.
            let (j, l, em) = mem_index (state 0) (members a) m mem in
            subst (Has w flags u) em (is.had e w users r a ρ ga j l flags inc u here (get_or (members a) j (state 0)) ((r.setting.types.arrow_row g a ρ ga).member j l));
        no = λ y. absurd (true≢false y);
      }

  -- while members are asked for: those before number j are had
  pub record Asked (memo' users' : List ℕ) (j : ℕ) : Type 0 where
    pub keeps : Keeps x memo users memo' users'
    pub had : (w : World) → Ready x w memo users → (k : ℕ) → k < j → Yes x w users' at (member_of_spec x.t g k)

  -- what was known last of the goals of a word
  pub record Recalled (users' : List ℕ) (last : Option (ℕ × Outlook)) : Type 0 where
    pub yes : (w : World) → Ready x w memo users → (h : ℕ) (known : Outlook) → last ≡ Some (h / word_bits, known) → bit_of (h % word_bits) known.had ≡ 1 → Yes x w users' at h
    pub no : (w : World) → Ready x w memo users → (h : ℕ) (known : Outlook) → last ≡ Some (h / word_bits, known) → bit_of (h % word_bits) known.lacked ≡ 1 → No x w at h

  pub recalled_more : {users' users'' : List ℕ} {last : Option (ℕ × Outlook)} → Grows users' users'' → Recalled users' last → Recalled users'' last
  recalled_more {users'} {users''} more is = record { yes = λ w r h known e o. yes_more x w users' users'' more at h (is.yes w r h known e o); no = is.no }

  pub recalled_on : {memo' users' : List ℕ} → Keeps x memo users memo' users' → (goal : ℕ) (last : Option (ℕ × Outlook)) (s : Outlook) → Recalled users' last
      → LooksOn memo' (wide_in x.test) (stamp_in x.test) at goal last s → Recalled users' (Some (goal / word_bits, s))
  recalled_on {memo'} {users'} k goal last s is (inl e) = subst (Recalled users') e is
  recalled_on {memo'} {users'} k goal last s is (inr looks) =
      record {
        yes = λ w r h known e o. let (word, same) = some_pair_parts (goal / word_bits) (h / word_bits) s known e in (k.right w r).yes at h (looks.yes h (sym word) (subst (λ (z : Outlook). bit_of (h % word_bits) z.had ≡ 1) (sym same) o));
        no = λ w r h known e o. let (word, same) = some_pair_parts (goal / word_bits) (h / word_bits) s known e in (k.right w r).no at h (looks.no h (sym word) (subst (λ (z : Outlook). bit_of (h % word_bits) z.lacked ≡ 1) (sym same) o));
      }

  module _ {memo' users' : List ℕ} {j : ℕ} (a : Asked memo' users' j) (many : ℕ) (is-many : many ≡ many_of_spec x.t g) where
    -- all are had
    pub asked_end : many ≤ j → ChecksMembers x memo users at g memo' users' true
    asked_end h =
        record {
          keeps = a.keeps;
          yes = λ y w r b s go m mem flags inc u here.
              let row = r.setting.types.arrow_row g b s go in
              let (k, l, e) = mem_index (state 0) (members b) m mem in
              let n = row.many in
              subst (Has w flags u) e (a.had w r k (omega arith) flags inc u here (get_or (members b) k (state 0)) (row.member k l));
          no = λ y. absurd (true≢false y);
        }

    module _ (l : j < many) (goal : ℕ) (is_goal : goal ≡ member_of_spec x.t g j) where
      -- member j is lacked
      lacked : (memo'' users'' : List ℕ) → Keeps x memo users memo'' users'' → ((w : World) → Ready x w memo users → No x w at goal) → ChecksMembers x memo users at g memo'' users'' false
      lacked memo'' users'' k no_there =
          record {
            keeps = k;
            yes = λ y. absurd (true≢false (sym y));
            no = λ y w r b s go u here all.
                let row = r.setting.types.arrow_row g b s go in
                let n = row.many in
                let i : j < length (members b) = omega arith in
                no_there w r u here (get_or (members b) j (state 0)) (subst (λ h. Goal w.rs h (get_or (members b) j (state 0))) (sym is_goal) (row.member j i)) (all (get_or (members b) j (state 0)) (get_d_mem (members b) j (state 0) i));
          }

      -- member j is had
      pub had_more : (memo'' users'' : List ℕ) → Keeps x memo' users' memo'' users'' → ((w : World) → Ready x w memo users → Yes x w users'' at goal) → (j' : ℕ) → j' ≡ suc j → Asked memo'' users'' j'
      had_more memo'' users'' k yes_there j' ej =
          record {
            keeps = keeps_on a.keeps k;
            had = λ w r i h. go w r i h;
          }
        where
          go : (w : World) → Ready x w memo users → (i : ℕ) → i < j' → Yes x w users'' at (member_of_spec x.t g i)
          go w r i h = by (dec_lt i j)
            where
              by : Dec (i < j) → Yes x w users'' at (member_of_spec x.t g i)
              by (yes l) = yes_more x w users' users'' k.grows at (member_of_spec x.t g i) (a.had w r i l)
              by (no l) = let e : j ≡ i = omega arith in subst (Yes x w users'' at) (is_goal ∙ ap (member_of_spec x.t g) e) (yes_there w r)

      -- it is known
      module _ (known : Outlook) (is : Recalled users' (Some (goal / word_bits, known))) (b : Bool) where
        pub recalled_no : HasBit known.lacked goal b → b ≡ true → ChecksMembers x memo users at g memo' users' false
        recalled_no d e = lacked memo' users' a.keeps (λ w r. is.no w r goal known refl (d.yes e))

        pub recalled_yes : HasBit known.had goal b → b ≡ true → (j' : ℕ) → j' ≡ suc j → Asked memo' users' j'
        recalled_yes d e j' ej = had_more memo' users' (keeps_all x memo' users') (λ w r. is.yes w r goal known refl (d.yes e)) j' ej

      -- it is checked, and what was found is remembered
      module _ (bit : ℕ) (puts : Adds 0 (goal % word_bits) bit) (memo'' users'' : List ℕ) (b : Bool) (told : ChecksTerm x memo' users' at goal memo'' users'' b) (memo''' : List ℕ) where
        pub checked_no : b ≡ false → Learns memo'' (wide_in x.test) (stamp_in x.test) at goal bit 0 memo''' → ChecksMembers x memo users at g memo''' users'' false
        checked_no e learns =
            let term = learned_no x memo' users' at goal bit puts memo'' users'' b told memo''' e learns in
            lacked memo''' users'' (keeps_on a.keeps term.keeps) (λ w r. term.no refl w (ready_on a.keeps r))

        pub checked_yes : b ≡ true → Learns memo'' (wide_in x.test) (stamp_in x.test) at goal bit bit memo''' → (j' : ℕ) → j' ≡ suc j → Asked memo''' users'' j'
        checked_yes e learns j' ej =
            let term = learned_yes x memo' users' at goal bit puts memo'' users'' b told memo''' e learns in
            had_more memo''' users'' term.keeps (λ w r. term.yes refl w (ready_on a.keeps r)) j' ej

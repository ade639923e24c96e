-- The states of a set that a parameter's term has by the members given for it, one after another.
use Prim.Native.Nat.{ℕ, suc, ◌<◌, ◌≤◌}
use native.Mathlib.Omega.{arith}
use mathlib.Core.Path.{◌≡◌, refl, sym, ap, subst}
use mathlib.Core.Logic.{◌⊎◌, inl, inr}
use mathlib.Core.Bool.{Bool, true, false}
use mathlib.Core.List.{List}
use Rattle.index.specs.layout.Layout.{no_number}
use Rattle.std.specs.Prelude.{Some, None}
use Rattle.marks.specs.Marks.{bit_of}
use Rattle.marks.proofs.Bits.{zero_bit}
use Rattle.tables.specs.reading.Cells.{many_of_spec, member_of_spec, off_of, node_at}
use Rattle.tables.specs.declared.reading.Node.{Node}
use Rattle.tables.specs.Frames.{Adds}
use Rattle.term_check.specs.masks.Masks.{TakesOut}
use Rattle.term_check.specs.notes.Notes.{own_in_spec, base_in}
use Rattle.term_check.specs.heads.Heads.{Wanted}
use Rattle.term_check.specs.Worlds.{Case, Finds, Settles, ChecksTerm, ChecksArgs}
use Rattle.term_check.proofs.check.States.{finds_on, finds_more}
use Rattle.term_check.proofs.check.Given.{Tried, given_end, tried_on, member_misses, member_fails, member_has}

module _ (x : Case) (memo users : List ℕ) (at asked : ℕ) (a : Node) (given : ℕ) where
  -- before member j: what is found so far; and for what is still asked for none of the members before serves
  pub record Sought (memo' users' : List ℕ) (had left j : ℕ) : Type 0 where
    pub finds : Finds x memo users at memo' users' had
    pub within : (q : ℕ) → bit_of q left ≡ 1 → bit_of q asked ≡ 1
    pub tried : (q : ℕ) → bit_of q left ≡ 1 → Tried x memo users at q a given memo' users' j

  module _ {memo' users' : List ℕ} {had left j : ℕ} (s : Sought memo' users' had left j) where
    module _ (ty : ℕ) (is-ty : ty ≡ member_of_spec x.t given j) (j' : ℕ) (ej : j' ≡ suc j) where
      -- member j leads to none of them
      pub sought_misses : Wanted x.t left ty a.count None → Sought memo' users' had left j'
      sought_misses wanted = record { finds = s.finds; within = s.within; tried = λ p b. member_misses x memo users at p a given (s.tried p b) ty is-ty j' ej (off_of x.t a.count ty) refl (wanted.misses refl p b) }

      module _ (q : ℕ) (wanted : Wanted x.t left ty a.count (Some q)) (first : ℕ) (is-first : first ≡ suc at) (memo'' users'' : List ℕ) (b : Bool) (told : ChecksArgs x memo' users' first a.count ty memo'' users'' b) where
        low : q < 32
        low = (wanted.leads q refl).0

        is_left : bit_of q left ≡ 1
        is_left = (wanted.leads q refl).1

        leads : q ≡ off_of x.t a.count ty
        leads = (wanted.leads q refl).2

        -- it leads to q, and fails
        pub sought_fails : b ≡ false → (left' : ℕ) → Adds 0 q left' → Sought memo'' users'' had left' j'
        sought_fails e left' puts =
            record {
              finds = finds_on x memo users at s.finds told.keeps;
              within = λ p o. subst (λ k. bit_of k asked ≡ 1) (only p (puts.only low p o)) (s.within q is_left);
              tried = λ p o. subst (λ k. Tried x memo users at k a given memo'' users'' j') (only p (puts.only low p o)) (member_fails x memo users at q a given (s.tried q is_left) ty is-ty j' ej q leads refl first is-first memo'' users'' b told e);
            }
          where
            only : (p : ℕ) → (bit_of p 0 ≡ 1) ⊎ (p ≡ q) → q ≡ p
            only p (inl o) = let z = zero_bit p in absurd (omega arith)
            only p (inr f) = sym f

        -- it leads to q, and serves
        pub sought_serves : given ≡ off_of x.t a.number (own_in_spec x.test) → a ≡ node_at x.t (base_in x.test) at → (a.tag ≡ 0 → ⊥) → (a.tag ≡ 1 → ⊥) → (many : ℕ) → many ≡ many_of_spec x.t given → j < many → (given ≡ no_number → ⊥)
            → b ≡ true → (had' left' : ℕ) → Adds had q had' → TakesOut left q left' → Sought memo'' users'' had' left' j'
        sought_serves is-given ea nc nn many is-many l ne e had' left' puts out =
            record {
              finds = finds_more x memo users at s.finds has.keeps q had' low puts (has.yes refl);
              within = λ p o. s.within p (out.fewer p o);
              tried = λ p o. tried_on x memo users at p a given told.keeps (member_misses x memo users at p a given (s.tried p (out.fewer p o)) ty is-ty j' ej q leads (other p o));
            }
          where
            has : ChecksTerm x memo' users' at q memo'' users'' true
            has = member_has x memo' users' at q a given is-given ea nc nn j many is-many l ne ty is-ty q leads refl first is-first memo'' users'' b told e

            other : (p : ℕ) → bit_of p left' ≡ 1 → q ≡ p → ⊥
            other p o f = let z = out.gone low in let y = ap (λ k. bit_of k left') f in omega arith

    -- after the last member
    pub sought_end : given ≡ off_of x.t a.number (own_in_spec x.test) → a ≡ node_at x.t (base_in x.test) at → (a.tag ≡ 0 → ⊥) → (a.tag ≡ 1 → ⊥) → (many : ℕ) → many ≡ many_of_spec x.t given → many ≤ j
        → Settles x memo users at asked memo' users' (record { had = had; lacked = left })
    sought_end is-given ea nc nn many is-many h = record { finds = s.finds; within = s.within; lacks = λ w r q b. (given_end x memo users at q a given is-given ea nc nn (s.tried q b) many is-many h).no refl w r }

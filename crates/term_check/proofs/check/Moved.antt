-- What is told of lists is told of equal lists.
use Prim.Native.Nat.{ℕ}
use mathlib.Core.Path.{◌≡◌, sym, subst}
use mathlib.Core.Bool.{Bool}
use mathlib.Core.List.{List}
use Rattle.std.specs.Prelude.{Option}
use Rattle.answers.specs.declared.Outlook.{Outlook}
use Rattle.tables.specs.declared.reading.Node.{Node}
use Rattle.term_check.specs.heads.Heads.{Tries}
use Rattle.term_check.specs.Worlds.{Case, ChecksMembers, ChecksAll}
use Rattle.term_check.proofs.check.Members.{Asked, Recalled}

module _ (x : Case) (memo users : List ℕ) (at g : ℕ) where
  pub members_moved : (memo' users' users'' : List ℕ) (b : Bool) → users'' ≡ users' → ChecksMembers x memo users at g memo' users' b → ChecksMembers x memo users at g memo' users'' b
  members_moved memo' users' users'' b e = subst (λ u. ChecksMembers x memo users at g memo' u b) (sym e)

  pub asked_moved : (memo' users' users'' : List ℕ) (j : ℕ) → users'' ≡ users' → Asked x memo users at g memo' users' j → Asked x memo users at g memo' users'' j
  asked_moved memo' users' users'' j e = subst (λ u. Asked x memo users at g memo' u j) (sym e)

  pub recalled_moved : (users' users'' : List ℕ) (last : Option (ℕ × Outlook)) → users'' ≡ users' → Recalled x memo users at g users' last → Recalled x memo users at g users'' last
  recalled_moved users' users'' last e = subst (λ u. Recalled x memo users at g u last) (sym e)

  pub all_moved : (memo' users' users'' : List ℕ) (b : Bool) → users'' ≡ users' → ChecksAll x memo users at g memo' users' b → ChecksAll x memo users at g memo' users'' b
  all_moved memo' users' users'' b e = subst (λ u. ChecksAll x memo users at g memo' u b) (sym e)

  pub tries_moved : (a : Node) (c : ℕ) (memo' users' memo'' users'' : List ℕ) (b : Bool) → memo'' ≡ memo' → users'' ≡ users' → Tries x memo users at g a c memo' users' b → Tries x memo users at g a c memo'' users'' b
  tries_moved a c memo' users' memo'' users'' b em eu told = subst (λ u. Tries x memo users at g a c memo'' u b) (sym eu) (subst (λ m. Tries x memo users at g a c m users' b) (sym em) told)

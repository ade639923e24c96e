-- What our own crates promise each other; nothing here has to be believed.
-- A payload that one of the types has.
use Rattle.std.specs.Prelude.{ℕ, ◌≤◌, ◌≡◌, Bool, List, length}
use Rattle.casefile.specs.Records.{Record}
use Rattle.casefile.specs.Kinds.{type, payloads}
use Rattle.casefile.specs.Refusals.{repeats}
use Rattle.index.specs.layout.Layout.{max_types}
use Rattle.index.specs.entries.Index.{Indexed}
use Rattle.index.specs.entries.Chains.{Chained}

-- one of the types that the index holds and chains has the payload p
abbrev pub Listed : List ℕ → List ℕ → List ℕ → Bool → Type 0
Listed file index p r = (n : ℕ) (rs : List Record) → Indexed file index type n rs → Chained index (payloads type rs) n → n ≤ max_types → length p ≤ 64 → r ≡ repeats rs p type

-- What our own functions promise each other; nothing here has to be believed.
use Rattle.std.specs.Prelude.{ℕ, ◌+◌, ◌*◌, ◌/◌, ◌<◌, ◌≤◌, ◌≡◌, Bool, List, length, Result, Ok, Err}
use Rattle.std.proofs.Math.Option.{none}
use Rattle.scheme.specs.Lists.{choose◌then◌else◌}
use Rattle.casefile.specs.Records.{records_of, listed}
use Rattle.casefile.specs.Kinds.{Kind, payloads, count}
use Rattle.casefile.specs.Tables.{plan_of, automaton_of, bindings_of}
use Rattle.casefile.specs.Refusals.{refuse_whole}
use Rattle.casefile.specs.Promises.{Passed}
use Rattle.casefile.specs.BindingCases.{shrunk}
use Rattle.index.specs.layout.Layout.{max_file, max_types, max_bindings, max_states, ends_size, place_limit, rows_at, row_cells, node_cells, word_bits, test_cells, tiny_nodes, tiny_types, tiny_bindings_spec, small_nodes, small_types, small_bindings_spec, modest_nodes, modest_types, modest_bindings_spec, plain_nodes, plain_types, plain_bindings_spec, broad_nodes, broad_types, broad_bindings_spec, middle_nodes, middle_types, middle_bindings_spec, wide_nodes, wide_types, wide_bindings_spec}
use Rattle.index.specs.entries.Known.{Known}
use Rattle.rules.specs.reading.RuleBodies.{nodes_in}
use Rattle.intake.specs.plan.PlanTests.{EndsAre}
use Rattle.records.specs.declared.refusal.Refusal.{Refusal}
use Rattle.records.specs.refusal.Numbers.{number_of}
use Rattle.replay.specs.declared.replay.Refuted.{Refuted as RefutedPath}
use Rattle.binding_cases.specs.Judging.{IsShrunk}
use Rattle.plan_check.specs.declared.rooms.Frame.{Frame}
use Rattle.plan_check.specs.declared.rooms.Frame.TheVariants.{Tiny, Small, Modest, Plain, Broad, Middle, Wide, All}
use Rattle.plan_check.specs.declared.rooms.Room.{Room}
use Rattle.plan_check.specs.declared.Verdict.{Verdict}
use Rattle.plan_check.specs.declared.Verdict.TheVariants.{Proved, Unproved, Refuted, Refused}

-- the verdict for the kept bindings: whether they are accepted, how many are kept and were offered, and the rounds
unfoldable pub of_bindings_spec : Bool → ℕ → ℕ → ℕ → Verdict
of_bindings_spec accepted k t r = choose accepted then Proved k t r else Unproved k t r

-- the verdict on a path that ends where no transition is
abbrev pub of_refuted : RefutedPath → Verdict
of_refuted r = Refuted r.letters r.state r.constructor

-- the verdict on a file that is refused
abbrev pub of_refusal : Refusal → Verdict
of_refusal r = Refused (number_of r.fault) r.place

-- the verdict for the answer to a path
unfoldable pub of_path_spec : Result RefutedPath Refusal → Verdict
of_path_spec (Ok r) = of_refuted r
of_path_spec (Err r) = of_refusal r

-- the verdict that was found, or that on a refusal
abbrev pub verdict_of : Result Verdict Refusal → Verdict
verdict_of (Ok v) = v
verdict_of (Err r) = of_refusal r

-- what the definitions keep of the bindings of a file that is not refused, by its tables
abbrev pub Judges : (file index counts ends lent marks : List ℕ) (accepted : Bool) (kept total rounds : ℕ) → Type 0
Judges file index counts ends lent marks accepted kept total rounds =
    (lens : List ℕ) → Known file index lens counts (listed (records_of file)) → Passed (listed (records_of file)) → EndsAre (listed (records_of file)) ends
    → refuse_whole (listed (records_of file)) (length lent) ≡ none
    → IsShrunk (shrunk (automaton_of (listed (records_of file))) (plan_of (listed (records_of file))) (bindings_of (listed (records_of file)))) lent marks accepted kept total rounds

-- so it is where the file has no more than given numbers of nodes, types and bindings
pub record JudgesWithin (nodes types bindings : ℕ) (file index counts ends lent marks : List ℕ) (accepted : Bool) (kept total rounds : ℕ) : Type 0 where
  pub judged : nodes_in (payloads Kind.rule (listed (records_of file))) ≤ nodes → count Kind.type (listed (records_of file)) ≤ types → count Kind.binding (listed (records_of file)) ≤ bindings
      → Judges file index counts ends lent marks accepted kept total rounds

-- a file whose records passed has no more than a given number of nodes, by its tables
pub record HasNodes (file index counts : List ℕ) (nodes : ℕ) : Type 0 where
  pub few : (lens : List ℕ) → Known file index lens counts (listed (records_of file)) → Passed (listed (records_of file)) → nodes_in (payloads Kind.rule (listed (records_of file))) ≤ nodes

-- how many nodes, types and bindings each frame has room for; the last one for those of every file
abbrev pub room_of : Frame → Room
room_of Tiny = record { nodes = tiny_nodes; types = tiny_types; bindings = tiny_bindings_spec }
room_of Small = record { nodes = small_nodes; types = small_types; bindings = small_bindings_spec }
room_of Modest = record { nodes = modest_nodes; types = modest_types; bindings = modest_bindings_spec }
room_of Plain = record { nodes = plain_nodes; types = plain_types; bindings = plain_bindings_spec }
room_of Broad = record { nodes = broad_nodes; types = broad_types; bindings = broad_bindings_spec }
room_of Middle = record { nodes = middle_nodes; types = middle_types; bindings = middle_bindings_spec }
room_of Wide = record { nodes = wide_nodes; types = wide_types; bindings = wide_bindings_spec }
room_of All = record { nodes = ends_size; types = max_types; bindings = max_bindings }

-- there is room for so many nodes, types and bindings
abbrev pub HasRoom : Room → ℕ → ℕ → ℕ → Type 0
HasRoom room nodes types bindings = (nodes ≤ room.nodes) × (types ≤ room.types) × (bindings ≤ room.bindings)

-- tables of given sizes serve for so many nodes, types and bindings: the flat table has a row for each goal; what tests read and what
-- they write, of which so many cells are hints
pub record HasTables (nodes types bindings flat read write hints : ℕ) : Type 0 where
  pub few_nodes : nodes ≤ ends_size
  pub few_hints : hints < place_limit
  pub table_long : rows_at + (types + max_states) * row_cells + nodes * node_cells ≤ flat
  pub read_long : test_cells + (types + max_states) * ((bindings + 31) / word_bits) ≤ read
  pub write_long : hints + bindings * ((bindings + 31) / word_bits + 1) ≤ write

-- v is the verdict on the bindings of a file, by its tables, and the lent flags became `marks`
pub record JudgesBindingCase (file index counts ends lent marks : List ℕ) (v : Verdict) : Type 0 where
  pub accepted : Bool
  pub kept : ℕ
  pub total : ℕ
  pub rounds : ℕ
  pub judged : length file ≤ max_file → Judges file index counts ends lent marks accepted kept total rounds
  pub is_verdict : v ≡ of_bindings_spec accepted kept total rounds

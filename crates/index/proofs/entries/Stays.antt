-- The entries of a kind stay where every other place of the index is written.
use Prim.Native.Nat.{ℕ, ◌+◌, ◌<◌, ◌≤◌}
use mathlib.Core.Path.{◌≡◌, sym, ap, subst, ◌∙◌}
use mathlib.Core.List.{List, []}
use lib.ListN.{length, get_or}
use Rattle.casefile.specs.Fields.{field}
use Rattle.casefile.specs.Records.{Record}
use Rattle.records.specs.cursor.Reading.{part_of}
use Rattle.casefile.specs.Kinds.{Kind, payloads}
use Rattle.index.specs.entries.Index.{base, Indexed}

-- an index with the same entries of a kind has them too
pub indexed_same : {file before index : List ℕ} {k : Kind} {n : ℕ} {rs : List Record} → ((i : ℕ) → i < n → get_or index (base k + i) 0 ≡ get_or before (base k + i) 0) → Indexed file before k n rs → Indexed file index k n rs
indexed_same {file} {before} {index} {k} {n} {rs} same ix =
    record {
      counted = ix.counted;
      behind_header = λ i h. subst (λ x. 4 ≤ x) (sym (same i h)) (ix.behind_header i h);
      place_there = λ i h. ix.place_there i h ∙ sym (same i h);
      length_there = λ i at h e. ix.length_there i at h (e ∙ same i h);
      payload_there = λ i h. ap (λ x. part_of file x (length (get_or (payloads k rs) i []))) (same i h) ∙ ix.payload_there i h;
      field_there = λ i h w at l. ap (λ x. field w file (x + at)) (same i h) ∙ ix.field_there i h w at l;
    }

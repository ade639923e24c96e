use mathlib.Core.Path.{◌∙◌}
use lib.Dec.{leb}
use borrow.Author.Tests.{tests}
use Rattle.std.proofs.Common.{rules}
use Rattle.std.proofs.lemmas.Iterator.Search.{any_from_yields_List}
use Rattle.casefile.specs.Fields.{word}
use Rattle.casefile.specs.Tables.{words}
use Rattle.record_tests.proofs.Parts.{any_is, parts_yielded}
use Rattle.record_tests.proofs.type_record.Numbers.{words_few, words_more}
use Rattle.record_tests.proofs.type_record.names_later.Goals as goal

pub returns : goal.returns
returns c =
    let y = parts_yielded 2 (λ p. word p 0) words words_few words_more c.args.p.now c.chunks_exact.ensures.rest c.chunks_exact.ensures.size in
    any_from_yields_List (leb c.args.n) _ _ _ c.any.ensures.ran y (λ x b q k. search (rules, tests)) ∙ any_is (leb c.args.n) (words c.args.p.now)

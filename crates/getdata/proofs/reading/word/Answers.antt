-- `getdata::reading::word` meets its contract. Assumes nothing.
use mathlib.Core.Path.{ap, ◌∙◌}
use lib.ListN.{length}
use Rattle.model.specs.Getdata.{from_big_endian}
use Rattle.getdata.proofs.Reader.{word_is}
use Rattle.getdata.proofs.reading.word.Goals as goal

pub returns-in-Some : goal.returns-in-Some
returns-in-Some c =
    let same = c.in-Some.ensures.cases.same in
    c.from_be_bytes.ensures ∙ word_is c.in-Some.eight.now (ap length same ∙ c.requires) ∙ ap (from_big_endian 0) same

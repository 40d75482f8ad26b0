-- `records::field_of` meets its contract. Assumes nothing.
use Rattle.records.proofs.Words.{field_words}
use Rattle.records.proofs.field_of.Goals as goal

pub returns : goal.returns
returns c = field_words _ _ c.requires

-- `getdata::writing::put_word` meets its contract. Assumes nothing.
use mathlib.Core.Path.{◌∙◌}
use Rattle.getdata.proofs.Written.{word_bytes}
use Rattle.getdata.proofs.writing.put_word.Goals as goal

pub returns : goal.returns
returns c = c.copy_from_slice.ensures.after ∙ c.to_be_bytes.ensures ∙ word_bytes c.args.word

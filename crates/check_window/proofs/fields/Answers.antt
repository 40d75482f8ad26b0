-- `check_window::fields` meets its contract: the code is the definition. Assumes nothing.
use Rattle.std.proofs.Common.{refl}
use Rattle.facts.specs.Flags.{fold}
use Rattle.facts.specs.Words.{fields, fields_fit}
use Rattle.check_window.proofs.fields.Goals as goal

pub returns : goal.returns
unfolding fields_fit fields fold
returns c = refl

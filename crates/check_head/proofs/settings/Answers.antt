-- `check_head::settings` meets its contract: the code is the row of tests. Assumes nothing.
use Rattle.facts.specs.Head.{settings_row, settings_is}
use Rattle.facts.specs.Flags.{fold}
use Rattle.check_head.proofs.settings.Goals as goal

pub returns : goal.returns
unfolding fold settings_row
returns c = settings_is _

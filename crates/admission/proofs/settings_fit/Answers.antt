-- `admission::settings_fit` meets its contract. Assumes nothing.
use Rattle.facts.specs.Flags.{fold}
use Rattle.admission.specs.Opening.{settings_tests, settings_are}
use Rattle.admission.proofs.settings_fit.Goals as goal

pub returns : goal.returns
unfolding fold settings_tests
returns c = settings_are c.args.b

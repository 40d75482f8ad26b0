-- `layout::settings_list` meets its contract. Assumes nothing.
use mathlib.Core.Path.{refl}
use Rattle.model.specs.Layout.{settings_words}
use Rattle.layout.proofs.settings_list.Goals as goal

pub returns : goal.returns
unfolding settings_words
returns c = refl

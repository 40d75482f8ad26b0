-- `queries::contains_pending` meets its contract. Assumes nothing.
use Rattle.std.specs.Prelude.{◌≡◌, true, ℕ, List, Result, Ok, Err}
use mathlib.Core.Path.{sym, ap, ◌∙◌}
use Rattle.std.specs.Result.{is_ok}
use Rattle.model.specs.Layout.{rising}
use Rattle.model.specs.Records.{found, is_there}
use Rattle.model.specs.declared.Hash.{Hash}
use Rattle.model.specs.declared.Entry.{Entry}
use Rattle.records.specs.Places.{Finds, here_found, free_found}
use Rattle.queries.proofs.contains_pending.Goals as goal

there : (h : Hash) (l : List Entry) (p : Result ℕ ℕ) → rising l ≡ true → Finds h l p → is_ok p ≡ is_there (found h l)
there h l (Ok at) r f = sym (ap is_there (here_found h l at r f).0)
there h l (Err at) r f = sym (ap is_there (free_found h l at r f).0)

pub returns : goal.returns
returns c = c.is_ok.ensures.value ∙ there _ _ _ c.requires.1 c.find.ensures

-- `kofudile::kofudile_observe_blocked` meets its contract. Assumes nothing.
use mathlib.Core.Path.{ap, ◌∙◌}
use mathlib.Core.List.{[]}
use Rattle.model.specs.Refusals.{changes, observes}
use Rattle.model.specs.Perform.{perform}
use Rattle.observation.specs.Look.{look}
use Rattle.flat.specs.Flat.{blocked_flat}
use Rattle.kofudile.proofs.kofudile_observe_blocked.Goals as goal

pub returns : goal.returns
returns c =
    let a = c.args in
    let ws = a.words.now in
    let next = c.then_some-at.ensures in
    let frontier = c.then_some-hash.ensures in
    let highest = c.then_some-top.ensures in
    let e = c.observe_blocked.ensures in
    (c.of_blocked.ensures ∙ ap blocked_flat (e.0 ∙ (λ i. (perform (changes (observes a.clock (look (next i) (frontier i) a.busy a.staged (highest i)))) ws []).answer)), e.1 ∙ (λ i. (perform (changes (observes a.clock (look (next i) (frontier i) a.busy a.staged (highest i)))) ws []).words))

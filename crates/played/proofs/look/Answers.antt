-- `played::look` meets its contract. Assumes nothing.
use Rattle.std.specs.Prelude.{Some}
use mathlib.Core.Bool.{false}
use mathlib.Core.Path.{◌∙◌, ap, refl, sym}
use lib.ListN.{replicate}
use Rattle.lend.specs.Goes.{leaves_as, quiet_change}
use Rattle.model.specs.Refusals.{changes, observes}
use Rattle.observation.specs.Look.{look}
use Rattle.played.specs.Steps.{looking, spoken}
use Rattle.played.specs.Told.{blocked_told, plays_quietly}
use Rattle.played.proofs.look.Goals as goal

pub returns : goal.returns
returns c =
    let r = c.observe_blocked-r in
    let s = c.args.s in
    plays_quietly (looking s) c.args.b _ _ _ _ (quiet_change _ refl)
    (leaves_as _ (looking s).call _
    (λ i. changes (observes s.clock (look (Some s.first) (Some s.hash) false s.other (Some (sym c.height_after-highest.ensures i))))) _ _ r.ensures)
    (ap spoken c.blocked.ensures ∙ blocked_told r.result (replicate 2304 0)) refl

-- `deliveries::set_fanout_eligible_peers` meets its contract. Assumes nothing.
use mathlib.Core.Path.{sym, ◌∙◌}
use mathlib.Core.Bool.{true, false}
use Rattle.model.specs.Calls.{set_fanout_eligible_peers}
use Rattle.model.specs.Layout.{window_of}
use Rattle.model.specs.Window.{with_fanout, without_probe}
use Rattle.rules.specs.Rows.{then, by_value}
use Rattle.deliveries.specs.Steps.{engaged_so}
use Rattle.deliveries.proofs.set_fanout_eligible_peers.Goals as goal

pub returns-then-engaged : goal.returns-then-engaged
unfolding set_fanout_eligible_peers
returns-then-engaged c =
    let a = c.args in
    let w = window_of a.words.now in
    let e = engaged_so w a.n a.clock c.engages-engaged.ensures c.get_settings-b.ensures c.get_fanout-f.ensures c.get_probe-p.ensures in
    let set = by_value (λ b. with_fanout (record { eligible = a.n; engaged = b }) w) e c.set_fanout.ensures in
    rw (sym e ∙ c.if-engaged.true) (then without_probe (rw (sym e ∙ c.if-engaged.true) at set) c.clear_probe.ensures)

pub returns-else-engaged : goal.returns-else-engaged
unfolding set_fanout_eligible_peers
returns-else-engaged c =
    let a = c.args in
    let w = window_of a.words.now in
    let e = engaged_so w a.n a.clock c.engages-engaged.ensures c.get_settings-b.ensures c.get_fanout-f.ensures c.get_probe-p.ensures in
    let set = by_value (λ b. with_fanout (record { eligible = a.n; engaged = b }) w) e c.set_fanout.ensures in
    rw (sym e ∙ c.if-engaged.false) (rw (sym e ∙ c.if-engaged.false) at set)

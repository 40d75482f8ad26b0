-- `retain::keep_probe` meets its contract. Assumes nothing.
use mathlib.Core.Path.{ap, ◌∙◌}
use Rattle.model.specs.Lists.{count}
use Rattle.model.specs.Numbers.{present}
use Rattle.model.specs.Window.{Window}
use Rattle.laws.specs.Whole.{holds_whole}
use Rattle.retain.specs.Retains.{probe_none, probe_stays, probe_goes}
use Rattle.retain.proofs.keep_probe.Goals as goal

pub returns-in-None : goal.returns-in-None
returns-in-None c =
    let a = c.args in
    probe_none a.flags.now a.words.now c.get_probe-p.result c.get_probe-p.ensures c.in-None.is (holds_whole a.words.now c.requires)

pub returns-then-owned-n : goal.returns-then-owned-n
returns-then-owned-n c =
    let a = c.args in
    let n = c.racers_left-n.ensures ∙ ap (λ (v : Window). count present v.races.racers) c.keep_racers.ensures.is in
    probe_stays a.flags.now a.words.now _ _ _ c.get_probe-p.result c.get_probe-p.ensures c.in-Some.is c.is_kept-owned.result c.is_kept-owned.ensures c.racers_left-n.result n c.keep_racers.new.words c.if-owned-n.true c.keep_racers.ensures

pub clear_probe-requires : goal.clear_probe-requires
clear_probe-requires c = c.keep_racers.ensures.whole

pub returns : goal.returns
returns c =
    let a = c.args in
    let n = c.racers_left-n.ensures ∙ ap (λ (v : Window). count present v.races.racers) c.keep_racers.ensures.is in
    probe_goes a.flags.now a.words.now _ _ _ c.get_probe-p.result c.get_probe-p.ensures c.in-Some.is c.is_kept-owned.result c.is_kept-owned.ensures c.racers_left-n.result n c.keep_racers.new.words c.clear_probe.new.words c.if-owned-n.false c.keep_racers.ensures c.clear_probe.ensures

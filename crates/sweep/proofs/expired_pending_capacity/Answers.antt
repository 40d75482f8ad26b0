-- `sweep::expired_pending_capacity` meets its contract. Assumes nothing.
use Rattle.model.specs.Layout.{window_of}
use Rattle.laws.specs.Pending.{sound_ranged}
use Rattle.sweep.proofs.expired_pending_capacity.Goals as goal

pub timeout_of-timeout-requires : goal.timeout_of-timeout-requires
timeout_of-timeout-requires c = c.requires.1.settings

pub forecast_of-requires : goal.forecast_of-requires
forecast_of-requires c =
    let a = c.args in
    (c.pending_count-count.ensures.0, c.timeout_of-timeout.ensures, sound_ranged a.clock (window_of a.words.now) c.requires.1, c.requires.1.clock)

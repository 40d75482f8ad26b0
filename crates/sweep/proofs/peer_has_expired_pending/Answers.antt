-- `sweep::peer_has_expired_pending` meets its contract. Assumes nothing.
use mathlib.Core.Path.{◌∙◌}
use Rattle.model.specs.Time.{expired, owner_download_expired, peer_has_expired_pending}
use Rattle.sweep.proofs.peer_has_expired_pending.Goals as goal

pub timeout_of-timeout-requires : goal.timeout_of-timeout-requires
timeout_of-timeout-requires c = c.requires.1.0.settings

pub start_of-start-requires : goal.start_of-start-requires
start_of-start-requires c = c.requires.1.1

pub expired-requires : goal.expired-requires
expired-requires c = c.requires.1.0.clock

pub returns : goal.returns
unfolding peer_has_expired_pending owner_download_expired
returns c = c.expired.ensures ∙ (λ i. expired c.args.clock (c.timeout_of-timeout.ensures i) (c.start_of-start.ensures i))

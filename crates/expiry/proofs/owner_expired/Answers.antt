-- `expiry::owner_expired` meets its contract. Assumes nothing.
use mathlib.Core.Path.{◌∙◌}
use Rattle.model.specs.Time.{expired, owner_download_expired}
use Rattle.expiry.proofs.owner_expired.Goals as goal

pub returns : goal.returns
unfolding owner_download_expired
returns c = c.expired.ensures ∙ (λ i. expired c.args.clock (c.owner_timeout-timeout.ensures i) (c.start_of-start.ensures i))

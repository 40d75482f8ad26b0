-- `kofudile::kofudile_credit_delivery_from` meets its contract. Assumes nothing.
use Rattle.std.specs.Prelude.{Option, ℕ}
use Rattle.std.proofs.Common.{ap}
use Rattle.model.specs.Refusals.{credits}
use Rattle.model.specs.Says.{let_go_says}
use Rattle.flat.specs.Flat.{gone_flat}
use Rattle.kofudile.proofs.Exports.{exports}
use Rattle.kofudile.proofs.kofudile_credit_delivery_from.Goals as goal

pub returns : goal.returns
returns c = exports _ _ (ap (λ (given : Option ℕ). credits c.args.clock c.args.h c.args.source given) c.then_some-pending.ensures) _ _ _ _ let_go_says gone_flat _ _ c.of_let_go.ensures c.credit_delivery_from.ensures

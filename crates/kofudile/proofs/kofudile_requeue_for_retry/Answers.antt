-- `kofudile::kofudile_requeue_for_retry` meets its contract. Assumes nothing.
use Rattle.std.specs.Prelude.{Option, ℕ}
use Rattle.std.proofs.Common.{ap}
use Rattle.model.specs.Refusals.{requeues}
use Rattle.model.specs.Says.{let_go_says}
use Rattle.flat.specs.Flat.{gone_flat}
use Rattle.kofudile.proofs.Exports.{exports}
use Rattle.kofudile.proofs.kofudile_requeue_for_retry.Goals as goal

pub returns : goal.returns
returns c = exports _ _ (ap (λ (named : Option ℕ). requeues c.args.clock c.args.h named) c.then_some-named.ensures) _ _ _ _ let_go_says gone_flat _ _ c.of_let_go.ensures c.requeue_for_retry.ensures

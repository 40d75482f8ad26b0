-- `kofudile::kofudile_mark_received_from` meets its contract. Assumes nothing.
use Rattle.std.specs.Prelude.{Option, ℕ}
use Rattle.std.proofs.Common.{ap}
use Rattle.model.specs.Refusals.{receives}
use Rattle.model.specs.Says.{received_says}
use Rattle.flat.specs.Flat.{received_flat}
use Rattle.kofudile.proofs.Exports.{exports}
use Rattle.kofudile.proofs.kofudile_mark_received_from.Goals as goal

pub returns : goal.returns
returns c = exports _ _ (ap (λ (s : Option ℕ). receives c.args.clock c.args.h c.args.bytes s) c.then_some-s.ensures) _ _ _ _ received_says received_flat _ _ c.of_received.ensures c.mark_received_from.ensures

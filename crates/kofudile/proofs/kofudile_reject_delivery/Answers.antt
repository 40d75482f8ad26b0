-- `kofudile::kofudile_reject_delivery` meets its contract. Assumes nothing.
use Rattle.std.specs.Prelude.{Option, ℕ}
use Rattle.std.proofs.Common.{ap}
use Rattle.model.specs.Refusals.{rejects}
use Rattle.model.specs.Says.{rejected_says}
use Rattle.flat.specs.Flat.{rejected_flat}
use Rattle.kofudile.proofs.Exports.{exports}
use Rattle.kofudile.proofs.kofudile_reject_delivery.Goals as goal

pub returns : goal.returns
returns c = exports _ _ (ap (λ (s : Option ℕ). rejects c.args.clock c.args.h s) c.then_some-s.ensures) _ _ _ _ rejected_says rejected_flat _ _ c.of_rejected.ensures c.reject_delivery.ensures

-- `kofudile::kofudile_release_pending` meets its contract. Assumes nothing.
use Rattle.std.proofs.Common.{refl}
use Rattle.model.specs.Says.{let_go_says}
use Rattle.flat.specs.Flat.{gone_flat}
use Rattle.kofudile.proofs.Exports.{exports}
use Rattle.kofudile.proofs.kofudile_release_pending.Goals as goal

pub returns : goal.returns
returns c = exports _ _ refl _ _ _ _ let_go_says gone_flat _ _ c.of_let_go.ensures c.release_pending.ensures

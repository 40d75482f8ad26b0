-- `kofudile::kofudile_next_peer_request_words` meets its contract. Assumes nothing.
use Rattle.std.proofs.Common.{refl}
use Rattle.model.specs.Says.{next_request_says}
use Rattle.flat.specs.Flat.{next_request_flat}
use Rattle.kofudile.proofs.Exports.{exports_planned}
use Rattle.kofudile.proofs.kofudile_next_peer_request_words.Goals as goal

pub returns : goal.returns
returns c = exports_planned _ _ refl _ _ _ _ next_request_says next_request_flat _ _ c.of_next_request.ensures _ _ _ _ c.next_peer_request.ensures

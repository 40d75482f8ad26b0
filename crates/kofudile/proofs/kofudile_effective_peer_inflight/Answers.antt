-- `kofudile::kofudile_effective_peer_inflight` meets its contract. Assumes nothing.
use Rattle.kofudile.proofs.kofudile_effective_peer_inflight.Goals as goal

pub returns : goal.returns
returns c = cc

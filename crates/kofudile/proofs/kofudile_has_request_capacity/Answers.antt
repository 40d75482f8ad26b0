-- `kofudile::kofudile_has_request_capacity` meets its contract. Assumes nothing.
use Rattle.kofudile.proofs.kofudile_has_request_capacity.Goals as goal

pub returns : goal.returns
returns c = cc

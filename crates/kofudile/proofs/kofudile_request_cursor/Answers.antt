-- `kofudile::kofudile_request_cursor` meets its contract. Assumes nothing.
use Rattle.kofudile.proofs.kofudile_request_cursor.Goals as goal

pub returns : goal.returns
returns c = cc

-- `expiry::lowest_expired` meets its contract. Assumes nothing.
use Rattle.expiry.specs.Late.{spacing_le, seated}
use Rattle.expiry.proofs.lowest_expired.Goals as goal

pub owner_timeout-timeout-requires : goal.owner_timeout-timeout-requires
owner_timeout-timeout-requires c = let start = c in
    spacing_le _ start.requires.1.settings

pub lowest_late-at-requires : goal.lowest_late-at-requires
lowest_late-at-requires c =
    let start = c in
    let count = c.pending_count-n in
    (count.ensures.1, start.requires.1.clock, seated start.args.clock start.args.words.now count.result start.requires.0 start.requires.1 count.ensures.0)

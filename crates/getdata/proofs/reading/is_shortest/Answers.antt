-- `getdata::reading::is_shortest` meets its contract. Assumes nothing.
use Rattle.getdata.proofs.Reader.{shortest_two, shortest_one}
use Rattle.getdata.proofs.reading.is_shortest.Goals as goal

pub returns-then-first : goal.returns-then-first
returns-then-first c =
    let first = c.byte_at-first in
    shortest_two c.args.payload.now first.result first.ensures.0 c.count_of.result c.if-first.true c.count_of.ensures.0

pub returns : goal.returns
returns c =
    let first = c.byte_at-first in
    shortest_one c.args.payload.now first.result first.ensures.0 c.if-first.false

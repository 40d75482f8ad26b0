-- `planning::plan_with` meets its contract. Assumes nothing.
use native.Mathlib.Omega.{arith}
use Rattle.planning.specs.Rows.{lends, asked, has_mean, asked_again, scannable, requests}
use Rattle.planning.proofs.plan_with.Goals as goal

pub expired_request_entries-d-requires : goal.expired_request_entries-d-requires
expired_request_entries-d-requires N c = lends c.requires.0.0 c.args.batch c.args.bytes c.requires.0.1 _ c.clear.ensures

pub maybe_rewind_request_frontier-requires : goal.maybe_rewind_request_frontier-requires
maybe_rewind_request_frontier-requires N c = asked c.requires.0.0 c.args.batch c.args.bytes c.requires.0.1

pub scan_of-s-requires : goal.scan_of-s-requires
scan_of-s-requires N c = (has_mean c.requires.0.0 c.args.batch c.args.bytes c.requires.0.1 _ _ _ c.new-staged.ensures c.new-refused.ensures c.maybe_rewind_request_frontier.ensures).1

pub request_from-request-requires : goal.request_from-request-requires
request_from-request-requires N c =
    let x = c.expired_request_entries-d in
    let y = c.maybe_rewind_request_frontier in (
      asked_again c.requires.0.0 c.args.batch c.args.bytes c.requires.0.1 _ _ _ c.new-staged.ensures c.new-refused.ensures y.ensures,
      scannable c.requires.0.0 c.args.batch c.args.bytes c.requires.0.1 _ _ _ c.new-staged.ensures c.new-refused.ensures y.ensures
          _ _ _ x.result.count x.result.bytes x.result.low x.ensures c.scan_of-s.result c.scan_of-s.ensures.0 x.auto.hashes x.auto.heights (c.scan_of-s.ensures.1 (omega arith)),
    )

pub returns : goal.returns
returns N c =
    let x = c.expired_request_entries-d in
    let y = c.maybe_rewind_request_frontier in
    let z = c.scan_of-s in
    requests c.requires.0.0 c.args.batch c.args.bytes c.requires.0.1 _ _ _ c.new-staged.ensures c.new-refused.ensures y.ensures
    _ _ _ x.result.count x.result.bytes x.result.low x.ensures z.result z.ensures.0 _ _ c.request_from-request.result c.request_from-request.ensures

-- `plan_scan::non_empty_request` meets its contract. Assumes nothing.
use Rattle.plan_scan.specs.Proposes.{answers_none, answers_some}
use Rattle.plan_scan.proofs.non_empty_request.Goals as goal

pub returns-then-count-eq0 : goal.returns-then-count-eq0
returns-then-count-eq0 c = answers_none c.args.count c.args.next c.if-count-eq0.true

pub returns : goal.returns
returns c = answers_some c.args.count c.args.next c.if-count-eq0.false

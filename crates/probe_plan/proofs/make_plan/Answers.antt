-- `probe_plan::make_plan` meets its contract. Assumes nothing.
use mathlib.Core.Path.{refl, sym, ap, ◌∙◌}
use native.Mathlib.Omega.{arith}
use Rattle.model.specs.Races.{plan_limit}
use Rattle.model.specs.Layout.{window_of}
use Rattle.probe_plan.specs.Plans.{none_plans, walked_plans, lowest_height, plan_busy, plan_none, plan_passed, plan_small, plan_walked}
use Rattle.probe_plan.proofs.make_plan.Goals as goal

pub returns-then-is_busy : goal.returns-then-is_busy
returns-then-is_busy c = none_plans _ (window_of c.args.words.now) c.no_planning.ensures (plan_busy (window_of c.args.words.now) (sym c.is_busy.ensures ∙ c.if-is_busy.true))

pub returns-in_default : goal.returns-in_default
returns-in_default c = none_plans _ (window_of c.args.words.now) c.no_planning-in_default.ensures (plan_none (window_of c.args.words.now) (sym c.is_busy.ensures ∙ c.if-is_busy.false) c.lowest-lowest.result c.lowest-lowest.ensures c.in_default.is)

pub returns-then-is_passed : goal.returns-then-is_passed
returns-then-is_passed c = none_plans _ (window_of c.args.words.now) c.no_planning-then-is_passed.ensures (plan_passed (window_of c.args.words.now) (sym c.is_busy.ensures ∙ c.if-is_busy.false) c.lowest-lowest.result c.lowest-lowest.ensures _ c.in-Some.is (sym c.is_passed.ensures ∙ c.if-is_passed.true))

pub returns-then-limit-lt-PREFIX_PROBE_WIN_BLOCKS : goal.returns-then-limit-lt-PREFIX_PROBE_WIN_BLOCKS
returns-then-limit-lt-PREFIX_PROBE_WIN_BLOCKS c = none_plans _ (window_of c.args.words.now) c.no_planning-then-limit-lt-PREFIX_PROBE_WIN_BLOCKS.ensures (plan_small (window_of c.args.words.now) (sym c.is_busy.ensures ∙ c.if-is_busy.false) c.lowest-lowest.result c.lowest-lowest.ensures _ c.in-Some.is (sym c.is_passed.ensures ∙ c.if-is_passed.false) c.plan_limit-limit.result (c.plan_limit-limit.ensures.0 ∙ ap plan_limit c.get_mean-mean.ensures) (omega (arith, c.if-limit-lt-PREFIX_PROBE_WIN_BLOCKS.true)))

pub walk_up-w-requires : goal.walk_up-w-requires
walk_up-w-requires c = (c.requires.0, (c.plan_limit-limit.ensures.1, lowest_height (window_of c.args.words.now).queue.pending c.lowest-lowest.result _ c.requires.1.0 c.lowest-lowest.ensures c.in-Some.is))

pub returns : goal.returns
returns c = walked_plans c.plan_limit-limit.result _ _ (window_of c.args.words.now) c.plan_limit-limit.ensures.1 c.walk_up-w.ensures (plan_walked (window_of c.args.words.now) (sym c.is_busy.ensures ∙ c.if-is_busy.false) c.lowest-lowest.result c.lowest-lowest.ensures _ c.in-Some.is (sym c.is_passed.ensures ∙ c.if-is_passed.false) c.plan_limit-limit.result (c.plan_limit-limit.ensures.0 ∙ ap plan_limit c.get_mean-mean.ensures) (omega (arith, c.if-limit-lt-PREFIX_PROBE_WIN_BLOCKS.false)) c.plan_limit-limit.ensures.1 _ refl c.walk_up-w.ensures)

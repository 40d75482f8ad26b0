-- `probe_confirm::confirm_prefix_probe` meets its contract. Assumes nothing.
use mathlib.Core.Path.{sym, subst, ◌∙◌}
use native.Mathlib.Omega.{arith}
use Rattle.model.specs.Layout.{window_of}
use Rattle.model.specs.Window.{Window}
use Rattle.laws.specs.Pending.{sound_ranged}
use Rattle.laws.specs.Whole.{Holds, holds_whole}
use Rattle.probe_confirm.specs.Confirms.{confirm_none, confirm_small, confirm_other, confirm_rows, confirm_not, confirm_is}
use Rattle.probe_confirm.proofs.confirm_prefix_probe.Goals as goal

pub returns-then-alternates-eq0 : goal.returns-then-alternates-eq0
returns-then-alternates-eq0 c =
    let s = c in
    let ws = s.args.words.now in
    subst (λ (v : Window). Holds v ws) (confirm_none s.args.owner s.args.given.now s.args.clock (window_of ws) s.args.alternates.now (omega (arith, c.if-alternates-eq0.true))) (holds_whole ws s.requires.0)

pub make_plan-p-requires : goal.make_plan-p-requires
make_plan-p-requires c = let s = c in (s.requires.0, (sound_ranged s.args.clock (window_of s.args.words.now) s.requires.1.0, s.requires.1.0.mean_least))

pub returns-then-n-lt4 : goal.returns-then-n-lt4
returns-then-n-lt4 c =
    let s = c in
    let ws = s.args.words.now in
    let m = c.make_plan-p in
    subst (λ (v : Window). Holds v ws) (confirm_small s.args.owner s.args.given.now s.args.clock (window_of ws) s.args.alternates.now c.if-alternates-eq0.false m.result m.ensures (omega (arith, c.if-n-lt4.true))) (holds_whole ws s.requires.0)

pub returns-then-planned-owner : goal.returns-then-planned-owner
returns-then-planned-owner c =
    let s = c in
    let ws = s.args.words.now in
    let m = c.make_plan-p in
    subst (λ (v : Window). Holds v ws) (confirm_other s.args.owner s.args.given.now s.args.clock (window_of ws) s.args.alternates.now c.if-alternates-eq0.false m.result m.ensures (omega (arith, c.if-n-lt4.false)) c.if-planned-owner.true) (holds_whole ws s.requires.0)

pub plan_hashes-rows-requires : goal.plan_hashes-rows-requires
plan_hashes-rows-requires c = (c.requires.0, c.make_plan-p.ensures)

pub is_plan-requires : goal.is_plan-requires
is_plan-requires c =
    let s = c in
    let ws = s.args.words.now in
    let m = c.make_plan-p in
    confirm_rows s.args.owner s.args.given.now s.args.clock (window_of ws) s.args.alternates.now c.if-alternates-eq0.false m.result m.ensures (omega (arith, c.if-n-lt4.false)) c.if-planned-owner.false c.plan_hashes-rows.result c.plan_hashes-rows.ensures

pub returns-then-not-is_plan : goal.returns-then-not-is_plan
returns-then-not-is_plan c =
    let s = c in
    let ws = s.args.words.now in
    let m = c.make_plan-p in
    subst (λ (v : Window). Holds v ws) (confirm_not s.args.owner s.args.given.now s.args.clock (window_of ws) s.args.alternates.now c.if-alternates-eq0.false m.result m.ensures (omega (arith, c.if-n-lt4.false)) c.if-planned-owner.false c.plan_hashes-rows.result c.plan_hashes-rows.ensures (sym c.is_plan.ensures ∙ c.if-not-is_plan.true)) (holds_whole ws s.requires.0)

pub start_probe-requires : goal.start_probe-requires
start_probe-requires c =
    let s = c in
    let ws = s.args.words.now in
    let m = c.make_plan-p in
    (s.requires.0, (confirm_rows s.args.owner s.args.given.now s.args.clock (window_of ws) s.args.alternates.now c.if-alternates-eq0.false m.result m.ensures (omega (arith, c.if-n-lt4.false)) c.if-planned-owner.false c.plan_hashes-rows.result c.plan_hashes-rows.ensures, (s.requires.1.1.0, (s.requires.1.0.clock, s.requires.1.1.1))))

pub returns : goal.returns
returns c =
    let s = c in
    let ws = s.args.words.now in
    let m = c.make_plan-p in
    subst (λ (v : Window). Holds v c.start_probe.new.words) (confirm_is s.args.owner s.args.given.now s.args.clock (window_of ws) s.args.alternates.now c.if-alternates-eq0.false m.result m.ensures (omega (arith, c.if-n-lt4.false)) c.if-planned-owner.false c.plan_hashes-rows.result c.plan_hashes-rows.ensures (sym c.is_plan.ensures ∙ c.if-not-is_plan.false)) c.start_probe.ensures

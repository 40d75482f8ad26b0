-- `window::open` meets its contract. Assumes nothing.
use mathlib.Core.Path.{refl, ap, ◌∙◌}
use Rattle.model.specs.Says.{number}
use Rattle.refusals.specs.Tests.{opening_1}
use Rattle.model.specs.Refusals.{opens}
use Rattle.refusals.specs.Outcomes.{opened_so}
use Rattle.refusals.specs.Arrays.{taken, not_taken, performed_in}
use Rattle.refusals.specs.Passed.{call_passed}
use Rattle.window.proofs.open.Goals as goal

pub returns-in_err-words : goal.returns-in_err-words
returns-in_err-words c =
    let a = c.args in
    let t = (not_taken c.args.words.now c.as_mut_array.result c.as_mut_array.ensures.cases c.ok_or.ensures.value c.in_err-words.was) in
    call_passed _ _ c.from_residual.ensures.1 _ (opens a.clock a.settings a.keys.now) _ (ap number t.0 ∙ opening_1 a.clock a.settings a.keys.now _ t.1)

pub returns-in_err-keys : goal.returns-in_err-keys
returns-in_err-keys c =
    let a = c.args in
    performed_in _ _ (taken c.args.words.now c.as_mut_array.result c.as_mut_array.ensures.cases c.ok_or.ensures.value c.in_ok-words.was) _ _ _
    (call_passed _ _ c.from_residual-in_err-keys.ensures.1 _ (opens a.clock a.settings a.keys.now) _ c.in_err-keys.ensures.refusal)

pub returns : goal.returns
returns c =
    let a = c.args in
    performed_in _ _ (taken c.args.words.now c.as_mut_array.result c.as_mut_array.ensures.cases c.ok_or.ensures.value c.in_ok-words.was) _ _ _
    (opened_so a.clock a.settings a.keys.now _ c.«open».new.words 0 c.in_ok-keys.ensures.refusal refl (rw c.in_ok-keys.ensures.same at c.«open».ensures))

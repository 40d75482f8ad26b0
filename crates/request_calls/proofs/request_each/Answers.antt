-- `request_calls::request_each` meets its contract. Assumes nothing.
use mathlib.Core.Path.{refl, sym, ◌∙◌}
use Rattle.model.specs.Calls.{asks_in}
use Rattle.model.specs.Layout.{window_of}
use Rattle.laws.specs.Kept.{requestable_is}
use Rattle.laws.specs.Whole.{sound_rises}
use Rattle.refusals.specs.Passed.{number_some, passed_on}
use Rattle.request_calls.specs.Answer.{stays}
use Rattle.request_calls.proofs.request_each.Goals as goal

pub request_refusal-requires : goal.request_refusal-requires
request_refusal-requires c = (c.requires.0, sound_rises c.args.clock (window_of c.args.words.now) c.requires.1.0)

pub returns-in_err-request_refusal : goal.returns-in_err-request_refusal
returns-in_err-request_refusal c =
    let a = c.args in
    let r = c.in_err-request_refusal.field-0.0 in
    rw (passed_on c.from_residual.result r c.from_residual.ensures.1)
    (c.in_err-request_refusal.ensures, stays _ (asks_in a.hashes.now a.heights.now) a.owner a.next a.clock a.words.now c.requires.0 (number_some r))

pub mark_requested-requires : goal.mark_requested-requires
mark_requested-requires c =
    let a = c.args in
    (c.requires.0, (c.requires.1.0, (requestable_is (asks_in a.hashes.now a.heights.now) (window_of a.words.now) (sym c.in_ok-request_refusal.ensures), c.requires.1.1)))

pub returns : goal.returns
returns c = (c.in_ok-request_refusal.ensures, c.mark_requested.ensures)

-- `requests::raise` meets its contract. Assumes nothing.
use mathlib.Core.Path.{◌∙◌}
use Rattle.model.specs.Numbers.{greater}
use Rattle.model.specs.Calls.{raised}
use Rattle.model.specs.Layout.{window_of}
use Rattle.model.specs.Window.{with_high, with_frontier}
use Rattle.rules.specs.Rows.{then, by_value}
use Rattle.requests.proofs.raise.Goals as goal

pub returns : goal.returns
unfolding raised
returns c =
    let a = c.args in
    let w = window_of a.words.now in
    let top = c.greater-top.ensures ∙ (λ i. greater (c.get_high_blocks-high.ensures i) (c.pending_count-count.ensures.0 i)) in
    let most = c.greater-most.ensures ∙ (λ i. greater (c.get_high_bytes-bytes.ensures i) (c.get_total-total.ensures i)) in
    let f = c.greater-f.ensures ∙ (λ i. greater (c.get_frontier-frontier.ensures i) a.next) in
    then (λ v. with_frontier (greater w.frontier a.next) v) (by_value (λ h. with_high h w) (λ i. record { blocks = top i; bytes = most i }) c.set_high.ensures)
    (by_value (λ x. with_frontier x (window_of c.set_high.new.words)) f c.set_frontier.ensures)

-- `plan_scan::next_from` meets its contract. Assumes nothing.
use mathlib.Core.Path.{sym, ap, ◌∙◌}
use mathlib.Core.Bool.{Bool, cond}
use Rattle.model.specs.Numbers.{greater, next_height}
use Rattle.model.specs.Planning.{held_back}
use Rattle.plan_scan.proofs.next_from.Goals as goal

pub returns-then-clean : goal.returns-then-clean
returns-then-clean c =
    let a = c.args in
    let clean-next = greater a.frontier (next_height a.last) in
    let other = held_back a.first a.frontier (held_back a.low a.frontier (cond a.is_full a.next (greater a.next (next_height a.tip)))) in
    c.greater.ensures ∙ ap (greater a.frontier) c.next_height.ensures ∙ sym (ap (λ (b : Bool). cond b clean-next other) c.if-clean.true)

pub returns : goal.returns
returns c =
    let a = c.args in
    let clean-next = greater a.frontier (next_height a.last) in
    let other = held_back a.first a.frontier (held_back a.low a.frontier (cond a.is_full a.next (greater a.next (next_height a.tip)))) in
    c.next_scanned.ensures ∙ sym (ap (λ (b : Bool). cond b clean-next other) c.if-clean.false)

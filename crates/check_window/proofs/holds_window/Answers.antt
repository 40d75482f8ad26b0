-- `check_window::holds_window` meets its contract: each exit is a condition that fails; past it, it holds. Assumes nothing.
use Rattle.std.proofs.Common.{◌≡◌, true, ◌&&◌, List, ℕ, length, sym, ◌∙◌, eq-eqb}
use Rattle.model.specs.Layout.{is_window}
use Rattle.facts.specs.Words.{head_fits, unused_zero, records_fit, total_fits, seats_fit, conditions, fits}
use Rattle.facts.specs.Flags.{fold}
use Rattle.facts.specs.Head.{head_count, head_clock}
use Rattle.facts.proofs.Whole.{fits_is}
use Rattle.check_window.proofs.holds_window.Goals.{Else-not-head, Else-not-unused}
use Rattle.check_window.proofs.holds_window.Goals as goal

-- all conditions but the words' number
by_parts : (w : List ℕ) → length w ≡ 4096 → (head_fits w && unused_zero w && records_fit w && total_fits w && seats_fit w) ≡ is_window w
unfolding fits conditions fold
by_parts w n =
    sym (λ j. eq-eqb (length w) 4096 n j && head_fits w && unused_zero w && records_fit w && total_fits w && seats_fit w)
    ∙ fits_is w ∙ (λ j. eq-eqb (length w) 4096 n j && is_window w)

-- what holds past each exit
is_head : (c : Else-not-head) → head_fits c.args.words.now ≡ true
is_head c = sym c.head.ensures ∙ c.if-not-head.false

is_unused : (c : Else-not-unused) → unused_zero c.args.words.now ≡ true
is_unused c = sym c.unused.ensures ∙ c.if-not-unused.false

pub returns-then-not-head : goal.returns-then-not-head
returns-then-not-head c =
    let w = c.args.words.now in
    let f = sym c.head.ensures ∙ c.if-not-head.true in
    sym (λ j. f j && unused_zero w && records_fit w && total_fits w && seats_fit w) ∙ by_parts w c.told-words

pub unused-requires : goal.unused-requires
unused-requires c = head_count c.args.words.now (is_head (goal.at.unused-requires c).Else-not-head)

pub returns-then-not-unused : goal.returns-then-not-unused
returns-then-not-unused c =
    let w = c.args.words.now in
    let f = sym c.unused.ensures ∙ c.if-not-unused.true in
    sym (λ j. is_head (goal.at.returns-then-not-unused c).Else-not-head j && f j && records_fit w && total_fits w && seats_fit w) ∙ by_parts w c.told-words

pub records-requires : goal.records-requires
records-requires c =
    let w = c.args.words.now in
    (head_count w (is_head (goal.at.records-requires c).Else-not-head), head_clock w (is_head (goal.at.records-requires c).Else-not-head))

pub returns : goal.returns
returns c =
    let w = c.args.words.now in
    c.records.ensures
    ∙ sym (λ j. is_head (goal.at.returns c).Else-not-head j && is_unused (goal.at.returns c).Else-not-unused j && records_fit w && total_fits w && seats_fit w)
    ∙ by_parts w c.told-words

-- `check_window::is_window` meets its contract. Assumes nothing.
use Rattle.std.proofs.Common.{◌&&◌, length, sym, ap, ◌∙◌, eq-eqb, ne_eqb}
use Rattle.model.specs.Layout.{is_window}
use Rattle.check_window.proofs.is_window.Goals as goal

pub returns-in-None : goal.returns-in-None
returns-in-None c =
    let w = c.args.words.now in
    sym (λ j. ne_eqb (length w) 4096 c.in-None.ensures.cases j && is_window w)

pub returns-in-Some : goal.returns-in-Some
returns-in-Some c =
    let w = c.args.words.now in
    let a = c.in-Some.ensures.cases in
    c.holds_window.ensures ∙ ap is_window a.same ∙ sym (λ j. eq-eqb (length w) 4096 a.long j && is_window w)

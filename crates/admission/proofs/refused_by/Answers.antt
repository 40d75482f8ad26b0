-- `admission::refused_by` meets its contract. Assumes nothing.
use Rattle.std.proofs.Common.{sym, ap, ◌∙◌}
use Rattle.model.specs.Refusals.{moment_ok}
use Rattle.refusals.specs.Tests.{refused_2, refused_3, refused_4, refused_6, by_content}
use Rattle.admission.specs.Given.{moment_at}
use Rattle.admission.proofs.refused_by.Goals as goal

pub returns-then-not-holds_window : goal.returns-then-not-holds_window
returns-then-not-holds_window c = refused_2 _ _ _ c.told-words (sym c.holds_window.ensures ∙ c.if-not-holds_window.true)

pub returns-then-not-room_fits : goal.returns-then-not-room_fits
returns-then-not-room_fits c = refused_3 _ _ _ c.told-words (sym c.holds_window.ensures ∙ c.if-not-holds_window.false) (sym c.room_fits.ensures ∙ c.if-not-room_fits.true)

pub returns-then-not-is_in_time : goal.returns-then-not-is_in_time
returns-then-not-is_in_time c =
    refused_4 _ _ _ c.told-words (sym c.holds_window.ensures ∙ c.if-not-holds_window.false) (sym c.room_fits.ensures ∙ c.if-not-room_fits.false)
    (ap (moment_ok (moment_at c.args.clock)) (sym c.get_clock.ensures) ∙ sym c.is_in_time.ensures ∙ c.if-not-is_in_time.true)

pub returns-then-not-peers : goal.returns-then-not-peers
returns-then-not-peers c =
    refused_6 _ _ _ c.told-words (sym c.holds_window.ensures ∙ c.if-not-holds_window.false) (sym c.room_fits.ensures ∙ c.if-not-room_fits.false)
    (ap (moment_ok (moment_at c.args.clock)) (sym c.get_clock.ensures) ∙ sym c.is_in_time.ensures ∙ c.if-not-is_in_time.false) c.if-not-peers.true

pub returns : goal.returns
returns c =
    by_content _ _ _ c.told-words (sym c.holds_window.ensures ∙ c.if-not-holds_window.false) (sym c.room_fits.ensures ∙ c.if-not-room_fits.false)
    (ap (moment_ok (moment_at c.args.clock)) (sym c.get_clock.ensures) ∙ sym c.is_in_time.ensures ∙ c.if-not-is_in_time.false) c.if-not-peers.false

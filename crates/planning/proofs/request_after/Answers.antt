-- `planning::request_after` meets its contract. Assumes nothing.
use Rattle.std.proofs.Common.{refl, sym, ap, ◌∙◌}
use Rattle.capacity.specs.OnNumbers.{batch_says}
use Rattle.report_words.specs.Report.{releases_of}
use Rattle.model.specs.Layout.{window_of}
use Rattle.planning.specs.Proposes.{lent_by}
use Rattle.planning.specs.Swept.{none_planned, batch_few, after_some, after_none}
use Rattle.planning.proofs.request_after.Goals as goal

pub request_by-requires : goal.request_by-requires
request_by-requires c =
    let a = c.args in (
      c.requires,
      batch_few a.source a.given.byte_headroom a.given.count_headroom _ _ (window_of a.words.now) c.requires.sound.settings
          (sym (ap batch_says c.in-Some.is) ∙ c.compute_request_capacity.ensures),
    )

pub returns-in-None : goal.returns-in-None
returns-in-None c =
    let a = c.args in
    after_none a.source a.n a.words.now a.gone.now (lent_by a.given) _ a.words.now a.hashes.now a.hashes.now a.heights.now a.heights.now
    (sym (ap batch_says c.in-None.is) ∙ c.compute_request_capacity.ensures)
    (none_planned a.n (releases_of a.n a.gone.now) a.words.now a.gone.now a.hashes.now a.heights.now c.requires.few refl c.requires.whole _ c.no_request.ensures)

pub returns-in-Some : goal.returns-in-Some
returns-in-Some c =
    let y = c.request_by in
    let a = c.args in
    after_some a.source a.n a.words.now a.gone.now (lent_by a.given) y.result y.new.words a.hashes.now y.new.hashes a.heights.now y.new.heights _ _
    (sym (ap batch_says c.in-Some.is) ∙ c.compute_request_capacity.ensures) y.ensures

-- `probe_race::race_progress` meets its contract. Assumes nothing.
use mathlib.Core.Path.{sym, ap, ◌∙◌, subst}
use native.Mathlib.Omega.{arith}
use Rattle.model.specs.Layout.{window_of}
use Rattle.model.specs.Window.{Step}
use Rattle.laws.specs.Sound.{Sound, SoundSource}
use Rattle.laws.specs.Whole.{Holds}
use Rattle.report_words.specs.Report.{releases_of}
use Rattle.probe_race.specs.Race.{probe_ranges, noted_sound, race_on_is, race_won_is}
use Rattle.probe_race.proofs.race_progress.Goals as goal

pub bit_of-bit-requires : goal.bit_of-bit-requires
bit_of-bit-requires c = c.requires.2

pub note_progress-requires : goal.note_progress-requires
note_progress-requires c =
    let s = c in
    (s.requires.0, (c.bit_of-bit.ensures.0, (c.bit_of-bit.ensures.1, (omega (arith, s.requires.3), s.requires.1.races.racers.most s.args.source))))

pub race_on-requires : goal.race_on-requires
race_on-requires c =
    let s = c in
    let a = s.args in
    (c.note_progress.ensures.whole, (probe_ranges a.clock a.owner a.accepted a.started (window_of a.words.now) s.requires.1 s.requires.4).1)

pub race_won-requires : goal.race_won-requires
race_won-requires c =
    let s = c in
    let by-note-progress = c.note_progress in
    let a = s.args in
    let w = window_of a.words.now in
    let e = s.requires.4 in
    let g = noted_sound a.clock a.i a.source a.owner a.accepted a.started w s.requires.2 s.requires.1 e in
    (by-note-progress.ensures.whole, subst (Sound a.clock) (sym by-note-progress.ensures.is) g, subst SoundSource c.in-Some.is c.winner-w.ensures.1, (probe_ranges a.clock a.owner a.accepted a.started w s.requires.1 e).0)

pub returns-in-None : goal.returns-in-None
unfolding releases_of
returns-in-None c =
    let by-bit-of = c.bit_of-bit in
    let by-winner = c.winner-w in
    let a = c.args in
    let t = race_on_is a.i a.source a.owner a.accepted a.started a.clock (window_of a.words.now) _ c.note_progress.ensures.is by-winner.result by-winner.ensures.0 by-bit-of.result by-bit-of.ensures.0 c.in-None.is in
    (omega arith, subst (λ (s : Step). Holds s.window c.race_on.new.words) t c.race_on.ensures, ap (λ (s : Step). s.gone) t)

pub returns-in-Some : goal.returns-in-Some
returns-in-Some c =
    let by-winner = c.winner-w in
    let by-race-won = c.race_won in
    let a = c.args in
    let t = race_won_is a.i a.source a.owner a.accepted a.started a.clock (window_of a.words.now) _ c.note_progress.ensures.is by-winner.result by-winner.ensures.0 _ c.in-Some.is in
    (by-race-won.ensures.0, subst (λ (s : Step). Holds s.window by-race-won.new.words) t by-race-won.ensures.1, by-race-won.ensures.2 ∙ ap (λ (s : Step). s.gone) t)

-- `probe_race::race_won` meets its contract. Assumes nothing.
use mathlib.Core.Path.{◌∙◌, subst}
use native.Mathlib.Omega.{arith}
use Rattle.model.specs.Layout.{window_of}
use Rattle.model.specs.Window.{Window}
use Rattle.laws.specs.Whole.{Holds}
use Rattle.probe_race.specs.Race.{ended_ranged, key_kept, won_window, won_gone}
use Rattle.probe_race.proofs.race_won.Goals as goal

pub retain_peer_assignments_by-n-requires : goal.retain_peer_assignments_by-n-requires
retain_peer_assignments_by-n-requires c =
    let s = c in
    let by-end-races = c.end_races in
    (by-end-races.ensures.whole, ended_ranged s.args.clock (window_of s.args.words.now) _ s.requires.1 by-end-races.ensures.is)

pub cool_loser-requires : goal.cool_loser-requires
cool_loser-requires c =
    let s = c in
    let by-race-flags = c.race_flags-flags in
    let by-retain-peer-assignments = c.retain_peer_assignments_by-n in
    let w = window_of s.args.words.now in
    let k = key_kept s.args.clock s.args.win s.args.owner w _ _ by-race-flags.result s.requires.1 by-race-flags.ensures c.end_races.ensures.is by-retain-peer-assignments.ensures.1.is in
    (by-retain-peer-assignments.ensures.1.whole, (omega (arith, s.requires.3), (s.requires.1.clock, k)))

pub set_preferred-requires : goal.set_preferred-requires
set_preferred-requires c = (c.cool_loser.ensures.whole, omega (arith, c.requires.2))

pub returns : goal.returns
returns c =
    let s = c in
    let by-race-flags = c.race_flags-flags in
    let by-end-races = c.end_races in
    let by-retain-peer-assignments = c.retain_peer_assignments_by-n in
    let w = window_of s.args.words.now in
    let e = won_window s.args.clock s.args.win s.args.owner w _ _ by-race-flags.result s.requires.1 by-race-flags.ensures by-end-races.ensures.is by-retain-peer-assignments.ensures.1.is _ c.cool_loser.ensures.is in
    let g = won_gone s.args.clock s.args.win s.args.owner w _ _ by-race-flags.result s.requires.1 by-race-flags.ensures by-end-races.ensures.is by-retain-peer-assignments.ensures.1.is in
    (by-retain-peer-assignments.ensures.0, subst (λ (v : Window). Holds v c.set_preferred.new.words) e c.set_preferred.ensures, by-retain-peer-assignments.ensures.2 ∙ g)

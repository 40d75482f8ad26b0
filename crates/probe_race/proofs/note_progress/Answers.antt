-- `probe_race::note_progress` meets its contract. Assumes nothing.
use mathlib.Core.Path.{ap, ◌∙◌}
use Prim.Native.Nat.{ℕ}
use native.Mathlib.Omega.{arith}
use lib.ListN.{set}
use Rattle.model.specs.Layout.{window_of}
use Rattle.model.specs.Races.{progressed}
use Rattle.model.specs.Window.{with_probe}
use Rattle.rules.specs.Rows.{by_value}
use Rattle.probe_race.proofs.note_progress.Goals as goal

pub progressed-next-requires : goal.progressed-next-requires
progressed-next-requires c =
    let s = c in
    (s.requires.1.0, (s.requires.1.1.0, omega (arith, c.racer_of-racer.ensures, s.requires.1.1.1.1)))

pub returns : goal.returns
returns c =
    let s = c in
    let w = window_of s.args.words.now in
    by_value (λ (x : ℕ). with_probe w.races.probe w.races.planned (set w.races.racers s.args.source x) w)
    (c.progressed-next.ensures ∙ ap (progressed s.args.i) c.racer_of-racer.ensures) c.set_racer.ensures

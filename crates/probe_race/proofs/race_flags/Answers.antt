-- `probe_race::race_flags` meets its contract: the seats before s are flagged. Assumes nothing.
use mathlib.Core.Bool.{◌||◌}
use mathlib.Core.Path.{◌≡◌, refl, ap, ◌∙◌, subst}
use mathlib.Core.Bool.{cond, not}
use Prim.Native.Nat.{ℕ, ◌-◌}
use native.Mathlib.Omega.{arith}
use native.Mathlib.Numerals.{add-one}
use lib.Dec.{eqb}
use Rattle.model.specs.Numbers.{present}
use Rattle.model.specs.Layout.{window_of}
use Rattle.probe_race.specs.Scans.{keeps, Flags, flags_none, flags_turn}
use Rattle.probe_race.proofs.race_flags.Goals as goal

pub loop-s-init : goal.loop-s-init
loop-s-init c = flags_none c.args.win (window_of c.args.words.now).races.racers _ refl

pub bounds-flags-s : goal.bounds-flags-s
bounds-flags-s c = omega (arith, c.loop-s.invariant.long)

pub loop-s-preserved : goal.loop-s-preserved
unfolding keeps
loop-s-preserved c =
    let s = c in
    let by_loop = c.loop-s in
    let rs = (window_of s.args.words.now).races.racers in
    let v = c.race_flag.ensures ∙ ap (λ (x : ℕ). cond (eqb by_loop.s s.args.win || not (present x)) 1 0) c.racer_of-racer.ensures in
    rw add-one (flags_turn s.args.win rs by_loop.s c.race_flag.result by_loop.flags (omega arith) v by_loop.invariant)

pub returns : goal.returns
returns c =
    let s = c in
    let q : c.loop-s.s ≡ 256 = omega arith in
    subst (λ (n : ℕ). Flags s.args.win (window_of s.args.words.now).races.racers n c.loop-s.flags) q c.loop-s.invariant

-- `probe_race::place_of` meets its contract: none of those before i is the hash. Assumes nothing.
use mathlib.Core.Path.{◌≡◌, sym, ap, ◌∙◌}
use Prim.Native.Nat.{ℕ, ◌-◌}
use native.Mathlib.Omega.{arith}
use native.Mathlib.Numerals.{add-one}
use lib.ListN.{length, drop}
use Rattle.model.specs.Hash.{same, hash}
use Rattle.model.specs.Races.{place_of}
use Rattle.model.specs.Layout.{window_of}
use Rattle.model.specs.declared.Hash.{Hash}
use Rattle.probe_race.specs.Scans.{place_here, place_on, place_end}
use Rattle.probe_race.proofs.place_of.Goals as goal

pub loop-i-init : goal.loop-i-init
loop-i-init c = omega arith

pub planned_hash-x-requires : goal.planned_hash-x-requires
planned_hash-x-requires c = omega (arith, c.planned_count-n.ensures)

pub returns-then-equal : goal.returns-then-equal
returns-then-equal c =
    let s = c in
    let by_loop = c.loop-i in
    let l = (window_of s.args.words.now).races.planned in
    let e = place_here s.args.h l by_loop.i (hash 0 0 0 0) (omega (arith, c.planned_count-n.ensures))
    (ap (λ (x : Hash). same x s.args.h) (sym c.planned_hash-x.ensures) ∙ sym c.equal.ensures ∙ c.if-equal.true) in
    omega (arith, by_loop.invariant, e)

pub loop-i-preserved : goal.loop-i-preserved
loop-i-preserved c =
    let s = c in
    let by-planned-count = c.planned_count-n in
    let by_loop = c.loop-i in
    let l = (window_of s.args.words.now).races.planned in
    let e = place_on s.args.h l by_loop.i (hash 0 0 0 0) (omega (arith, by-planned-count.ensures))
    (ap (λ (x : Hash). same x s.args.h) (sym c.planned_hash-x.ensures) ∙ sym c.equal.ensures ∙ c.if-equal.false) in
    rw add-one (omega (arith, by_loop.invariant, e))

pub returns : goal.returns
returns c =
    let s = c in
    let l = (window_of s.args.words.now).races.planned in
    let q : c.loop-i.i ≡ length l = omega (arith, c.planned_count-n.ensures) in
    let e = ap (λ (i : ℕ). place_of s.args.h (drop i l)) q ∙ place_end s.args.h l in
    omega (arith, c.loop-i.invariant, e, c.planned_count-n.ensures)

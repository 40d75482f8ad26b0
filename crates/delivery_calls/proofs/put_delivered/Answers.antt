-- `delivery_calls::put_delivered` meets its contract. Assumes nothing.
use Rattle.std.specs.Prelude.{Option}
use mathlib.Core.Path.{subst}
use Prim.Native.Nat.{◌+◌, ◌≤◌}
use native.Mathlib.Omega.{arith}
use lib.ListN.{length}
use Rattle.delivery_calls.specs.Receives.{delivered, delivered_alone, delivered_before}
use Rattle.delivery_calls.proofs.put_delivered.Goals as goal
use Rattle.model.specs.declared.Entry.{Entry}

pub returns-in_default : goal.returns-in_default
returns-in_default c = rw c.in_default.is

pub returns-then-n-eq0 : goal.returns-then-n-eq0
returns-then-n-eq0 c =
    let s = c in
    delivered_alone s.args.front _ s.args.n s.args.gone.now _ c.in-Some.is c.if-n-eq0.true (rw c.from.ensures at c.put_release.ensures)

pub overflow_add-result : goal.overflow_add-result
overflow_add-result c = omega (arith, c.requires)

pub returns : goal.returns
returns c =
    let s = c in
    let by_front = c.in-Some.is in
    let by-nine = c.nine-first in
    let room : _ = subst (λ (f : Option Entry). length (delivered f) + s.args.n ≤ 256) by_front s.requires in
    delivered_before s.args.front _ s.args.n by-nine.result s.args.gone.now _ by_front (rw c.from-2.ensures at by-nine.ensures) (c.put_first.ensures s.args.n (omega (arith, room)))

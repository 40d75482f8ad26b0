-- `plan_look::look_at` meets its contract. Assumes nothing.
use mathlib.Core.Bool.{◌||◌}
use mathlib.Core.Bool.{not}
use Rattle.std.proofs.Common.{ap}
use lib.ListN.{take}
use Rattle.model.specs.Lists.{any}
use Rattle.model.specs.Hash.{same, hashes_in}
use Rattle.model.specs.Records.{found, is_there}
use Rattle.model.specs.Layout.{window_of}
use Rattle.model.specs.Planning.{names}
use Rattle.plan_look.specs.Steps.{look_closed, look_listed, look_refused, look_taken}
use Rattle.plan_look.proofs.look_at.Goals as goal

pub returns-then-not-is_open : goal.returns-then-not-is_open
returns-then-not-is_open c =
    let a = c.args in
    let x = is_there (found a.h (window_of a.words.now).queue.pending) || names a.staged.hashes.now a.h in
    let z = any (same a.h) (take a.n (hashes_in a.hashes.now)) in
    let q = names a.refused.hashes.now a.h in
    look_closed x z q _ c.is_open.ensures (ap not c.if-not-is_open.true)

pub returns-then-names_first : goal.returns-then-names_first
returns-then-names_first c =
    let a = c.args in
    let x = is_there (found a.h (window_of a.words.now).queue.pending) || names a.staged.hashes.now a.h in
    let z = any (same a.h) (take a.n (hashes_in a.hashes.now)) in
    let q = names a.refused.hashes.now a.h in
    look_listed x z q _ c.is_open.ensures (ap not c.if-not-is_open.false) _ c.names_first.ensures c.if-names_first.true

pub returns-then-names : goal.returns-then-names
returns-then-names c =
    let a = c.args in
    let x = is_there (found a.h (window_of a.words.now).queue.pending) || names a.staged.hashes.now a.h in
    let z = any (same a.h) (take a.n (hashes_in a.hashes.now)) in
    let q = names a.refused.hashes.now a.h in
    look_refused x z q _ c.is_open.ensures (ap not c.if-not-is_open.false) _ c.names_first.ensures c.if-names_first.false _ c.names.ensures c.if-names.true

pub returns : goal.returns
returns c =
    let a = c.args in
    let x = is_there (found a.h (window_of a.words.now).queue.pending) || names a.staged.hashes.now a.h in
    let z = any (same a.h) (take a.n (hashes_in a.hashes.now)) in
    let q = names a.refused.hashes.now a.h in
    look_taken x z q _ c.is_open.ensures (ap not c.if-not-is_open.false) _ c.names_first.ensures c.if-names_first.false _ c.names.ensures c.if-names.false

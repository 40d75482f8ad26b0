-- `requests::put_all` meets its contract. Assumes nothing.
use mathlib.Core.Path.{◌≡◌, refl, subst, ◌∙◌}
use mathlib.Core.List.{List, []}
use Prim.Native.Nat.{◌<◌}
use native.Mathlib.Omega.{arith}
use lib.ListN.{length, drop}
use Rattle.model.specs.Calls.{Ask, asks_in}
use Rattle.model.specs.Window.{Window}
use Rattle.model.specs.Layout.{window_of}
use Rattle.laws.specs.Whole.{Holds, holds_whole}
use Rattle.requests.specs.Asks.{asks_within}
use Rattle.requests.specs.Puts.{drop_all, Putting, putting_start, turn_takes, turn_puts, putting_done}
use Rattle.requests.proofs.put_all.Goals as goal

pub loop-i-init : goal.loop-i-init
loop-i-init c = let s = c in (s.requires.0, (putting_start (asks_in s.args.hashes.now s.args.heights.now) s.args.owner s.args.clock (window_of s.args.words.now) s.requires.1.1.0, refl))

pub overflow_mul-i : goal.overflow_mul-i
overflow_mul-i c = let s = c in omega (arith, asks_within s.args.hashes.now s.args.heights.now, s.requires.1.1.1, c.loop-i-test.true, s.well_formed)

pub hash_in-h-requires : goal.hash_in-h-requires
hash_in-h-requires c = let s = c in omega (arith, asks_within s.args.hashes.now s.args.heights.now, s.requires.1.1.1, c.loop-i-test.true)

pub offset_bounds-heights-i : goal.offset_bounds-heights-i
offset_bounds-heights-i c = let s = c in omega (arith, asks_within s.args.hashes.now s.args.heights.now, s.requires.1.1.1, c.loop-i-test.true, s.well_formed)

pub bounds-heights-i : goal.bounds-heights-i
bounds-heights-i c = let s = c in omega (arith, asks_within s.args.hashes.now s.args.heights.now, s.requires.1.1.1, c.loop-i-test.true)

pub overflow_cast-height : goal.overflow_cast-height
overflow_cast-height c = omega (arith, c.shared_slice_known-in-loop-i-1.given c.loop-i.i)

pub put_one-requires : goal.put_one-requires
put_one-requires c =
    let s = c in
    let l = c.loop-i in
    let within : l.i < length (asks_in s.args.hashes.now s.args.heights.now) = omega (arith, s.requires.1.1.1, c.loop-i-test.true) in
    (l.invariant.0, turn_takes s.args.hashes.now s.args.heights.now s.args.owner s.args.clock (window_of s.args.words.now) l.i c.hash_in-h.result (window_of l.words) within c.hash_in-h.ensures s.requires.1.0 l.invariant.1.0)

pub loop-i-preserved : goal.loop-i-preserved
loop-i-preserved c =
    let s = c in
    let l = c.loop-i in
    let within : l.i < length (asks_in s.args.hashes.now s.args.heights.now) = omega (arith, s.requires.1.1.1, c.loop-i-test.true) in
    (c.put_one.ensures.whole, (turn_puts s.args.hashes.now s.args.heights.now s.args.owner s.args.clock (window_of s.args.words.now) l.i c.hash_in-h.result (window_of l.words) (window_of c.put_one.new.words) within c.hash_in-h.ensures s.requires.1.0 c.put_one.ensures.is l.invariant.1.0, (omega arith) ∙ l.invariant.1.1))

pub returns : goal.returns
returns c =
    let s = c in
    let l = c.loop-i in
    let asks = asks_in s.args.hashes.now s.args.heights.now in
    let end : drop l.i asks ≡ [] = drop_all asks l.i (omega (arith, s.requires.1.1.1, c.loop-i-test.false)) in
    subst (λ (v : Window). Holds v l.words) (putting_done asks s.args.owner s.args.clock (window_of s.args.words.now) (window_of l.words) (subst (λ (r : List Ask). Putting asks s.args.owner s.args.clock (window_of s.args.words.now) r (window_of l.words)) end l.invariant.1.0)) (holds_whole l.words l.invariant.0)

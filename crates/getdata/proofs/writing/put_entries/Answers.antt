-- `getdata::writing::put_entries` meets its contract: at the loop's head the first i entries are written, and those of the words from 4 * i on are left.
-- Assumes nothing.
use mathlib.Core.Path.{◌≡◌, refl, sym, ap, ◌∙◌}
use mathlib.Core.List.{List}
use Prim.Native.Nat.{ℕ, ◌+◌, ◌-◌, ◌*◌, ◌/◌}
use native.Mathlib.Omega.{arith}
use lib.ListN.{length}
use Rattle.model.specs.Hash.{hashes_in}
use Rattle.getdata.proofs.Written.{hash_count, entries_next, entries_done}
use Rattle.getdata.proofs.writing.put_entries.Goals as goal

long₀ : (out hs : List ℕ) → length out ≡ length (hashes_in hs) * 36 → length out ≡ length hs / 4 * 36
long₀ out hs e = e ∙ ap (λ (n : ℕ). n * 36) (hash_count hs)

pub loop-i-init : goal.loop-i-init
loop-i-init c = refl

pub slice_bounds-put_entry-end : goal.slice_bounds-put_entry-end
slice_bounds-put_entry-end c = omega (arith, long₀ c.args.out.now c.args.hashes.now c.requires)

pub loop-i-preserved : goal.loop-i-preserved
loop-i-preserved c =
    let v = c.loop-i in
    let hs = c.args.hashes.now in
    let m = 36 * v.i + 36 - 36 * v.i in
    let long = long₀ c.args.out.now hs c.requires in
    v.invariant ∙ (entries_next hs v.out c.put_entry.new.out v.i m (omega arith) (omega arith) (omega arith) c.put_entry.ensures).1

pub returns : goal.returns
returns c =
    let v = c.loop-i in
    let hs = c.args.hashes.now in
    let long = long₀ c.args.out.now hs c.requires in
    sym (v.invariant ∙ entries_done hs v.out v.i (omega arith) (omega arith))

-- `request_many::row_entry` meets its contract. Assumes nothing.
use mathlib.Core.Path.{ap, ◌∙◌}
use native.Mathlib.Omega.{arith}
use Prim.Native.Nat.{◌-◌}
use lib.ListN.{get_or}
use Rattle.model.specs.Records.{new_entry}
use Rattle.model.specs.Layout.{decode}
use Rattle.model.specs.declared.Hash.{Hash}
use Rattle.laws.specs.Tables.{sized_decode}
use Rattle.requests.specs.Asks.{asks_within}
use Rattle.request_many.specs.Fill.{row_record, row_ask}
use Rattle.request_many.proofs.row_entry.Goals as goal

pub entry_of-requires : goal.entry_of-requires
entry_of-requires c = let s = c in
    omega (arith, s.requires.0, c.if-row-m.true)

pub returns-then-row-m : goal.returns-then-row-m
returns-then-row-m c =
    let s = c in
    let a = s.args in
    c.entry_of.ensures
    ∙ row_record (decode a.words.now).entries a.hashes.now a.heights.now a.owner a.clock a.mean a.m a.row
    (sized_decode a.words.now s.told-words).entries s.requires.0 (omega (arith, c.if-row-m.true))

pub overflow_mul-k : goal.overflow_mul-k
overflow_mul-k c = let s = c in omega (arith, s.requires.1, asks_within s.args.hashes.now s.args.heights.now, c.if-row-m.false, s.well_formed)

pub hash_in-hash-requires : goal.hash_in-hash-requires
hash_in-hash-requires c = let s = c in omega (arith, s.requires.1, asks_within s.args.hashes.now s.args.heights.now, c.if-row-m.false)

pub offset_bounds-heights-k : goal.offset_bounds-heights-k
offset_bounds-heights-k c = let s = c in omega (arith, s.requires.1, asks_within s.args.hashes.now s.args.heights.now, c.if-row-m.false, s.well_formed)

pub bounds-heights-k : goal.bounds-heights-k
bounds-heights-k c = let s = c in omega (arith, s.requires.1, asks_within s.args.hashes.now s.args.heights.now, c.if-row-m.false)

pub overflow_cast-height : goal.overflow_cast-height
overflow_cast-height c = let s = c in omega (arith, c.type_inv.heights (s.args.row - s.args.m))

pub returns : goal.returns
returns c =
    let s = c in
    let a = s.args in
    c.new_entry.ensures
    ∙ ap (λ (h : Hash). new_entry h a.owner a.clock (get_or a.heights.now (a.row - a.m) 0) a.mean) c.hash_in-hash.ensures
    ∙ row_ask (decode a.words.now).entries a.hashes.now a.heights.now a.owner a.clock a.mean a.m a.row
    (sized_decode a.words.now s.told-words).entries s.requires.0 (omega (arith, c.if-row-m.false))

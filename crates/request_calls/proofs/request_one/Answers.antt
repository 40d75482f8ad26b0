-- `request_calls::request_one` meets its contract. Assumes nothing.
use mathlib.Core.Path.{sym, subst}
use native.Mathlib.Omega.{arith}
use Rattle.model.specs.Calls.{asks_in}
use Rattle.model.specs.Layout.{window_of}
use Rattle.model.specs.declared.Hash.{Hash}
use Rattle.laws.specs.Kept.{requestable_is}
use Rattle.laws.specs.Whole.{sound_rises}
use Rattle.records.specs.Places.{Finds}
use Rattle.std.specs.Prelude.{Err}
use Rattle.requests.specs.Asks.{asks_within}
use Rattle.request_calls.specs.Answer.{stays, one_there, one_full, one_good}
use Rattle.request_calls.proofs.request_one.Goals as goal

pub hash_in-h-requires : goal.hash_in-h-requires
hash_in-h-requires c =
    let s = c in
    omega (arith, s.requires.1.1, (asks_within s.args.hashes.now s.args.heights.now).0)

pub returns-then-m-ge-PLACES : goal.returns-then-m-ge-PLACES
returns-then-m-ge-PLACES c =
    let s = c in
    let a = s.args in
    let w = window_of a.words.now in
    let f = subst (Finds c.hash_in-h.result w.queue.pending) c.in-Err.is c.find-p.ensures in (
      one_full a.hashes.now a.heights.now s.requires.1.1 w (sound_rises a.clock w s.requires.0.1.0) c.hash_in-h.result c.hash_in-h.ensures c.in-Err.at f (omega (arith, s.requires.1.0, c.if-m-ge-PLACES.true)),
      stays 8 (asks_in a.hashes.now a.heights.now) a.owner a.next a.clock a.words.now s.requires.0.0 (λ z. omega (arith, z)),
    )

pub mark_found-requires : goal.mark_found-requires
mark_found-requires c =
    let s = c in
    let a = s.args in
    let w = window_of a.words.now in
    let e = c.hash_in-h.ensures in
    let f = subst (Finds c.hash_in-h.result w.queue.pending) c.in-Err.is c.find-p.ensures in
    let good = one_good a.hashes.now a.heights.now s.requires.1.1 w (sound_rises a.clock w s.requires.0.1.0) c.hash_in-h.result e c.in-Err.at f (omega (arith, s.requires.1.0, c.if-m-ge-PLACES.false)) in (
      (s.requires.0.0, (s.requires.0.1.0, (requestable_is (asks_in a.hashes.now a.heights.now) w (sym good), s.requires.0.1.1))),
      (s.requires.1.1, subst (λ (g : Hash). Finds g w.queue.pending (Err c.in-Err.at)) e f),
    )

pub returns-in-Ok : goal.returns-in-Ok
returns-in-Ok c =
    let s = c in
    let a = s.args in
    let w = window_of a.words.now in
    let f = subst (Finds c.hash_in-h.result w.queue.pending) c.in-Ok.is c.find-p.ensures in (
      one_there a.hashes.now a.heights.now s.requires.1.1 w (sound_rises a.clock w s.requires.0.1.0) c.hash_in-h.result c.hash_in-h.ensures c.in-Ok.field-0 f,
      stays 7 (asks_in a.hashes.now a.heights.now) a.owner a.next a.clock a.words.now s.requires.0.0 (λ z. omega (arith, z)),
    )

pub returns-else-m-ge-PLACES : goal.returns-else-m-ge-PLACES
returns-else-m-ge-PLACES c =
    let s = c in
    let a = s.args in
    let w = window_of a.words.now in
    let f = subst (Finds c.hash_in-h.result w.queue.pending) c.in-Err.is c.find-p.ensures in (
      one_good a.hashes.now a.heights.now s.requires.1.1 w (sound_rises a.clock w s.requires.0.1.0) c.hash_in-h.result c.hash_in-h.ensures c.in-Err.at f (omega (arith, s.requires.1.0, c.if-m-ge-PLACES.false)),
      c.mark_found.ensures,
    )

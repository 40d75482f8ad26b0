-- `requests::mark_found` meets its contract. Assumes nothing.
use mathlib.Core.Path.{◌≡◌, sym, subst, ap, ◌∙◌}
use Prim.Native.Nat.{ℕ}
use native.Mathlib.Omega.{arith}
use mathlib.Core.List.{List, []}
use Rattle.model.specs.Calls.{Ask, asks_in}
use Rattle.model.specs.Layout.{window_of}
use Rattle.model.specs.Window.{Window, Queue}
use Rattle.model.specs.declared.Hash.{Hash}
use Rattle.records.specs.Places.{Finds}
use Rattle.std.specs.Prelude.{Err}
use Rattle.rules.specs.Rows.{then, by_value}
use Rattle.requests.specs.Asks.{hash_in, ask_at, asks_within}
use Rattle.requests.specs.Puts.{Ready, Takes, ready_sound, ready_takes}
use Rattle.requests.specs.Rows.{forgotten, forgotten_same, closed, filled, requested_row, one_ask, filled_one}
use Rattle.requests.proofs.mark_found.Goals as goal

pub hash_in-h-requires : goal.hash_in-h-requires
hash_in-h-requires c =
    let s = c in
    omega (arith, s.requires.1.0, (asks_within s.args.hashes.now s.args.heights.now).0)

pub bounds-heights-0 : goal.bounds-heights-0
bounds-heights-0 c =
    let s = c in
    omega (arith, s.requires.1.0, (asks_within s.args.hashes.now s.args.heights.now).1)

pub overflow_cast-height : goal.overflow_cast-height
overflow_cast-height c = omega (arith, c.shared_slice_known-3-1.given 0)

pub forget_attempted-requires : goal.forget_attempted-requires
forget_attempted-requires c = c.requires.0.0

pub put_found-requires : goal.put_found-requires
put_found-requires c =
    let s = c in
    let a = s.args in
    let f = c.forget_attempted in
    let w = window_of a.words.now in
    let v = window_of f.new.words in
    let asks = asks_in a.hashes.now a.heights.now in
    let same = forgotten_same 1 w in
    let q : v.queue ≡ w.queue = ap (λ (u : Window). u.queue) f.ensures.is ∙ same.0 in
    let m : v.mean ≡ w.mean = ap (λ (u : Window). u.mean) f.ensures.is ∙ same.1 in
    let r = s.requires.0.1.1.0 in
    let ready : Ready asks v.queue = subst (Ready asks) (sym q) (ready_sound asks s.requires.0.1.0.queue r.free r.once r.room) in
    let e = c.hash_in-h.ensures in
    let takes : Takes (ask_at a.hashes.now a.heights.now 0).hash v =
    ready_takes {a = ask_at a.hashes.now a.heights.now 0} {rest = []} {w = v} (omega (arith, m, s.requires.0.1.0.mean_most)) (subst (λ (l : List Ask). Ready l v.queue) (one_ask a.hashes.now a.heights.now s.requires.1.0) ready) in
    let finds : Finds c.hash_in-h.result v.queue.pending (Err a.at) =
    subst (λ (g : Hash). Finds g v.queue.pending (Err a.at)) (sym e) (subst (λ (x : Queue). Finds (hash_in a.hashes.now 0) x.pending (Err a.at)) (sym q) s.requires.1.1) in
    (f.ensures.whole, (subst (λ (g : Hash). Takes g v) (sym e) takes, finds))

pub returns : goal.returns
returns c =
    let s = c in
    let a = s.args in
    let w = window_of a.words.now in
    let hs = a.hashes.now in
    let ts = a.heights.now in
    let asks = asks_in hs ts in
    let one = s.requires.1.0 in
    let f = c.forget_attempted in
    let v = window_of f.new.words in
    let put : _ = by_value (λ (u : Window). u) (filled_one hs ts one c.hash_in-h.result a.owner a.clock v c.hash_in-h.ensures) c.put_found.ensures in
    by_value (λ (u : Window). u) (ap (λ (k : ℕ). closed k a.owner a.next a.clock (filled asks a.owner a.clock (forgotten k w))) (sym one) ∙ requested_row asks a.owner a.next a.clock w)
    (then (closed 1 a.owner a.next a.clock) (then (filled asks a.owner a.clock) f.ensures put) c.close.ensures)

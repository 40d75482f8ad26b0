-- `requests::mark_requested` meets its contract. Assumes nothing.
use mathlib.Core.Path.{◌≡◌, sym, subst, ap, ◌∙◌}
use native.Mathlib.Omega.{arith}
use Prim.Native.Nat.{ℕ}
use Rattle.model.specs.Calls.{asks_in}
use Rattle.model.specs.Layout.{window_of}
use Rattle.model.specs.Window.{Window}
use Rattle.rules.specs.Rows.{then, by_value}
use Rattle.requests.specs.Asks.{asks_length}
use Rattle.requests.specs.Puts.{Ready, ready_sound}
use Rattle.requests.specs.Rows.{forgotten, forgotten_same, closed, filled, requested_row}
use Rattle.requests.proofs.mark_requested.Goals as goal

pub put_all-requires : goal.put_all-requires
put_all-requires c =
    let s = c in
    let w = window_of s.args.words.now in
    let asks = asks_in s.args.hashes.now s.args.heights.now in
    let same = forgotten_same c.asked-n.result w in
    let is = c.forget_attempted.ensures.is in
    let q : (window_of c.forget_attempted.new.words).queue ≡ w.queue = ap (λ (v : Window). v.queue) is ∙ same.0 in
    let m : (window_of c.forget_attempted.new.words).mean ≡ w.mean = ap (λ (v : Window). v.mean) is ∙ same.1 in
    let r = s.requires.1.1.0 in
    (c.forget_attempted.ensures.whole, (omega (arith, s.requires.1.0.mean_most), (subst (Ready asks) (sym q) (ready_sound asks s.requires.1.0.queue r.free r.once r.room), c.asked-n.ensures ∙ sym (asks_length s.args.hashes.now s.args.heights.now))))

pub returns : goal.returns
returns c =
    let s = c in
    let w = window_of s.args.words.now in
    let a = s.args in
    let asks = asks_in a.hashes.now a.heights.now in
    let n = c.asked-n.ensures ∙ sym (asks_length a.hashes.now a.heights.now) in
    by_value (λ (v : Window). v) (ap (λ (k : ℕ). closed k a.owner a.next a.clock (filled asks a.owner a.clock (forgotten k w))) n ∙ requested_row asks a.owner a.next a.clock w)
    (then (closed c.asked-n.result a.owner a.next a.clock) (then (filled asks a.owner a.clock) c.forget_attempted.ensures c.put_all.ensures) c.close.ensures)

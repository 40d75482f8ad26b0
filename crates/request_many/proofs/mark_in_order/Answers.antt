-- `request_many::mark_in_order` meets its contract. Assumes nothing.
use mathlib.Core.Path.{◌≡◌, sym, ap, subst, ◌∙◌}
use Prim.Native.Nat.{ℕ, ◌+◌}
use native.Mathlib.Omega.{arith}
use lib.ListN.{length}
use Rattle.model.specs.Calls.{asks_in}
use Rattle.model.specs.Layout.{window_of}
use Rattle.model.specs.Window.{Window, Queue}
use Rattle.rules.specs.Rows.{then, by_value}
use Rattle.requests.specs.Puts.{Ready, ready_sound}
use Rattle.requests.specs.Rows.{forgotten, forgotten_same, closed, filled, requested_row}
use Rattle.request_order.specs.Order.{Ordered}
use Rattle.request_many.proofs.mark_in_order.Goals as goal

pub forget_attempted-requires : goal.forget_attempted-requires
forget_attempted-requires c = c.requires.0.0

pub fill_all-requires : goal.fill_all-requires
fill_all-requires c =
    let s = c in
    let a = s.args in
    let w = window_of a.words.now in
    let asks = asks_in a.hashes.now a.heights.now in
    let same = forgotten_same a.n w in
    let f = c.forget_attempted in
    let q : (window_of f.new.words).queue ≡ w.queue = ap (λ (v : Window). v.queue) f.ensures.is ∙ same.0 in
    let mean : (window_of f.new.words).mean ≡ w.mean = ap (λ (v : Window). v.mean) f.ensures.is ∙ same.1 in
    let r = s.requires.0.1.1.0 in (
      f.ensures.whole,
      (
        omega (arith, s.requires.0.1.0.mean_most, mean),
        (
          subst (Ready asks) (sym q) (ready_sound asks s.requires.0.1.0.queue r.free r.once r.room),
          (
            s.requires.1.0 ∙ ap (λ (x : Queue). length x.pending) (sym q),
            (s.requires.1.1.0, subst (λ (x : Queue). Ordered x.pending a.hashes.now (a.m + a.n) a.order.now) (sym q) s.requires.1.1.1),
          ),
        ),
      ),
    )

pub returns : goal.returns
returns c =
    let s = c in
    let w = window_of s.args.words.now in
    let a = s.args in
    let asks = asks_in a.hashes.now a.heights.now in
    by_value (λ (v : Window). v)
    (ap (λ (k : ℕ). closed k a.owner a.next a.clock (filled asks a.owner a.clock (forgotten k w))) s.requires.1.1.0 ∙ requested_row asks a.owner a.next a.clock w)
    (then (closed a.n a.owner a.next a.clock)
    (then (filled asks a.owner a.clock) c.forget_attempted.ensures c.fill_all.ensures)
    c.close.ensures)

-- `request_many::fill_all` meets its contract. Assumes nothing.
use mathlib.Core.Path.{sym, subst}
use mathlib.Core.List.{List}
use Prim.Native.Nat.{◌+◌}
use native.Mathlib.Omega.{arith}
use borrow.Author.Rules.{rules}
use Rattle.model.specs.declared.Entry.{Entry}
use Rattle.state_queue.specs.Steps.{live_is, blank_after}
use Rattle.request_order.specs.Order.{Ordered}
use Rattle.request_many.specs.Fill.{filled_words, bytes_fit}
use Rattle.request_many.proofs.fill_all.Goals as goal

pub overflow_mul-bytes : goal.overflow_mul-bytes
overflow_mul-bytes c =
    let s = c in
    let mean = c.get_mean-mean in
    let r = s.requires.1.1.0 in
    omega (arith, bytes_fit s.args.n mean.result c.get_total-before.result s.args.m (omega (arith, r.room, s.requires.1.1.1.0, s.requires.1.1.1.1.0)) (omega (arith, mean.ensures, s.requires.1.0)) (omega (arith, c.get_total-before.ensures, r.bytes, s.requires.1.1.1.0)))

pub overflow_add-bytes : goal.overflow_add-bytes
overflow_add-bytes c =
    let s = c in
    let mean = c.get_mean-mean in
    let r = s.requires.1.1.0 in
    omega (arith, bytes_fit s.args.n mean.result c.get_total-before.result s.args.m (omega (arith, r.room, s.requires.1.1.1.0, s.requires.1.1.1.1.0)) (omega (arith, mean.ensures, s.requires.1.0)) (omega (arith, c.get_total-before.ensures, r.bytes, s.requires.1.1.1.0)))

pub overflow_add-count : goal.overflow_add-count
overflow_add-count c =
    let s = c in
    omega (arith, s.requires.1.1.0.room, s.requires.1.1.1.0, s.requires.1.1.1.1.0)

pub fill-requires : goal.fill-requires
fill-requires c =
    let s = c in
    let a = s.args in
    let m = s.requires.1.1.1.0 in
    let n = s.requires.1.1.1.1.0 in
    record {
      long = s.requires.0.long;
      start = omega arith;
      few = omega (arith, s.requires.1.1.0.room, m, n);
      rows = omega (arith, n);
      order = subst (λ (l : List Entry). Ordered l a.hashes.now (a.m + a.n) a.order.now) (sym (live_is a.words.now s.requires.0 a.m m)) s.requires.1.1.1.1.1;
      blanks = blank_after a.words.now s.requires.0 a.m m;
    }

pub returns : goal.returns
returns c =
    let s = c in
    let a = s.args in
    let f = c.fill in
    let x = c.set_word in
    let y = c.set_word-2 in
    let t = c.get_total-before in
    let mean = c.get_mean-mean in
    filled_words a.words.now a.hashes.now a.heights.now a.order.now a.m a.n a.owner a.clock mean.result t.result s.requires.0 s.requires.1.0 s.requires.1.1.0
    s.requires.1.1.1.0 s.requires.1.1.1.1.0 s.requires.1.1.1.1.1 mean.ensures t.ensures f.new.words x.new.words y.new.words f.ensures x.ensures y.ensures (search rules)

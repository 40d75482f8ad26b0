-- `fetches::ask` meets its contract. Assumes nothing.
use mathlib.Core.Path.{◌≡◌, sym, subst, ap, ◌∙◌}
use native.Mathlib.Omega.{arith}
use Rattle.model.specs.Calls.{puts}
use Rattle.model.specs.Layout.{window_of, source_word}
use Rattle.model.specs.Window.{Window, with_attempted}
use Rattle.rules.specs.Rows.{then, by_value}
use Rattle.requests.specs.Puts.{Ready, ready_takes}
use Rattle.requests.specs.Rows.{forgotten_same, closed, filled, requested_row}
use Rattle.fetches.specs.Fetches.{source_writes, ask_of, asking_ready}
use Rattle.fetches.proofs.ask.Goals as goal

pub put_one-requires : goal.put_one-requires
put_one-requires c =
    let s = c in
    let w = window_of s.args.words.now in
    let same = forgotten_same 1 w in
    let is = c.forget_attempted.ensures.is in
    let q : (window_of c.forget_attempted.new.words).queue ≡ w.queue = ap (λ (v : Window). v.queue) is ∙ same.0 in
    let m : (window_of c.forget_attempted.new.words).mean ≡ w.mean = ap (λ (v : Window). v.mean) is ∙ same.1 in
    (c.forget_attempted.ensures.whole, ready_takes (omega (arith, s.requires.1.0.mean_most)) (subst (Ready (ask_of s.args.h s.args.height)) (sym q) (asking_ready s.args.h s.args.height s.requires.1.0 s.requires.1.1.0)))

pub set_attempted-requires : goal.set_attempted-requires
set_attempted-requires c =
    let s = c in
    let kept = source_writes (window_of s.args.words.now).races.attempted s.requires.1.0.races.attempted in
    let same = ap source_word c.get_attempted-attempted.ensures in
    (c.close.ensures.whole, omega arith)

pub returns : goal.returns
unfolding puts
returns c =
    let s = c in
    let a = s.args in
    let w = window_of a.words.now in
    let asks = ask_of a.h a.height in
    let Filled-in = then (λ v. filled asks a.owner a.clock v) c.forget_attempted.ensures c.put_one.ensures in
    let row = by_value (λ (v : Window). v) (requested_row asks a.owner 0 a.clock w) (then (λ v. closed 1 a.owner 0 a.clock v) Filled-in c.close.ensures) in
    then (λ v. with_attempted w.races.attempted v) row (by_value (λ x. with_attempted x (window_of c.close.new.words)) c.get_attempted-attempted.ensures c.set_attempted.ensures)

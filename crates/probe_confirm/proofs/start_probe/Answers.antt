-- `probe_confirm::start_probe` meets its contract. Assumes nothing.
use Rattle.std.specs.Prelude.{Some, Option}
use mathlib.Core.Path.{◌≡◌, ap, subst, ◌∙◌}
use mathlib.Core.List.{List}
use Prim.Native.Nat.{ℕ}
use native.Mathlib.Omega.{arith}
use lib.ListN.{set}
use Rattle.model.specs.Layout.{window_of}
use Rattle.model.specs.Races.{probe_started}
use Rattle.model.specs.Window.{Window, with_probe, with_attempted, no_seats, probing}
use Rattle.model.specs.declared.Hash.{Hash}
use Rattle.model.specs.declared.PrefixProbe.{PrefixProbe}
use Rattle.plans.specs.Rows.{rows_hashes}
use Rattle.probe_confirm.specs.Confirms.{enters}
use Rattle.laws.specs.Whole.{Holds}
use Rattle.probe_confirm.proofs.start_probe.Goals as goal

-- the steps before the alternates enter
together : (owner : ℕ) (hs : List Hash) (x : Option PrefixProbe) (w a b d e : Window) → a ≡ with_attempted (Some owner) w → b ≡ with_probe x hs a.races.racers a
    → d ≡ with_probe b.races.probe b.races.planned no_seats b → e ≡ with_probe d.races.probe d.races.planned (set d.races.racers owner 1) d
    → e ≡ with_probe x hs (set no_seats owner 1) (with_attempted (Some owner) w)
together owner hs x w a b d e p q r t =
    t ∙ ap (λ (v : Window). with_probe v.races.probe v.races.planned (set v.races.racers owner 1) v) (r ∙ ap (λ (v : Window). with_probe v.races.probe v.races.planned no_seats v) (q ∙ ap (λ (v : Window). with_probe x hs v.races.racers v) p))

pub set_attempted-requires : goal.set_attempted-requires
set_attempted-requires c = (c.requires.0, omega (arith, c.requires.1.1.0))

pub set_rows-requires : goal.set_rows-requires
set_rows-requires c = (c.set_attempted.ensures.whole, (c.requires.1.1.1.0, c.requires.1.0))

pub clear_racers-requires : goal.clear_racers-requires
clear_racers-requires c = c.set_rows.ensures.whole

pub set_racer-requires : goal.set_racer-requires
set_racer-requires c = (c.clear_racers.ensures.whole, omega (arith, c.requires.1.1.0))

pub enter_all-requires : goal.enter_all-requires
enter_all-requires c = (c.set_racer.ensures.whole, c.requires.1.1.1.1)

pub returns : goal.returns
unfolding probe_started
returns c =
    let s = c in
    let n = s.args.n in
    let owner = s.args.owner in
    let hs = rows_hashes n s.args.rows in
    let x = probing owner 0 s.args.clock in
    let ws = c.enter_all.new.words in
    let alternates = s.args.alternates.now in
    subst (λ (v : Window). Holds (enters alternates v) ws) (together owner hs x (window_of s.args.words.now) _ _ _ _ c.set_attempted.ensures.is c.set_rows.ensures.is c.clear_racers.ensures.is c.set_racer.ensures.is) c.enter_all.ensures

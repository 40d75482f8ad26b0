-- `cold_front::advance_cold_front` meets its contract. Assumes nothing.
use mathlib.Core.Path.{sym, ap, subst}
use Rattle.model.specs.Races.{ColdStep}
use Rattle.model.specs.Layout.{window_of}
use Rattle.states.specs.Fits.{cold_fits}
use Rattle.cold_front.specs.Cold.{advance_fits}
use Rattle.cold_front.proofs.advance_cold_front.Goals as goal

pub set_cold-requires : goal.set_cold-requires
set_cold-requires c = (c.requires.0, subst cold_fits (sym (ap (λ (s : ColdStep). s.cold) c.next_turn-t.ensures)) (advance_fits c.args.clock c.requires.1.0 c.args.next (window_of c.args.words.now) c.requires.1.1))

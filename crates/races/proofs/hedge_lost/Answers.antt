-- `races::hedge_lost` meets its contract. Assumes nothing.
use mathlib.Core.Path.{◌∙◌, subst}
use native.Mathlib.Omega.{arith}
use Rattle.model.specs.Layout.{window_of}
use Rattle.model.specs.Window.{Window}
use Rattle.laws.specs.Whole.{Holds}
use Rattle.races.specs.Hedges.{probe_ranged, key_kept, lost_window, lost_gone}
use Rattle.races.proofs.hedge_lost.Goals as goal

pub retain_peer_assignments_by-n-requires : goal.retain_peer_assignments_by-n-requires
retain_peer_assignments_by-n-requires c = (c.clear_probe.ensures.whole, probe_ranged c.args.clock (window_of c.args.words.now) _ c.requires.1 c.clear_probe.ensures.is)

pub mark_peer_unresponsive-requires : goal.mark_peer_unresponsive-requires
mark_peer_unresponsive-requires c = (c.retain_peer_assignments_by-n.ensures.1.whole, (c.requires.2, (c.requires.1.clock, key_kept c.args.clock c.args.owner c.args.alternate (window_of c.args.words.now) _ _ c.requires.1 c.requires.2 c.clear_probe.ensures.is c.retain_peer_assignments_by-n.ensures.1.is)))

pub set_preferred-requires : goal.set_preferred-requires
set_preferred-requires c = (c.mark_peer_unresponsive.ensures.whole, omega (arith, c.requires.3))

pub returns : goal.returns
returns c = (c.retain_peer_assignments_by-n.ensures.0, subst (λ (v : Window). Holds v c.set_preferred.new.words) (lost_window c.args.clock c.args.owner c.args.alternate (window_of c.args.words.now) _ _ c.requires.1 c.requires.2 c.clear_probe.ensures.is c.retain_peer_assignments_by-n.ensures.1.is _ c.mark_peer_unresponsive.ensures.is) c.set_preferred.ensures, c.retain_peer_assignments_by-n.ensures.2 ∙ lost_gone c.args.clock c.args.owner c.args.alternate (window_of c.args.words.now) _ _ c.requires.1 c.requires.2 c.clear_probe.ensures.is c.retain_peer_assignments_by-n.ensures.1.is)

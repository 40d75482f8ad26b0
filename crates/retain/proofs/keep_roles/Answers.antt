-- `retain::keep_roles` meets its contract. Assumes nothing.
use Rattle.std.specs.Prelude.{Option, ℕ}
use mathlib.Core.Path.{sym, ap, ◌∙◌, subst}
use Prim.Native.Nat.{◌≤◌}
use Rattle.model.specs.LettingGo.{flagged, cold_kept, peer_kept}
use Rattle.model.specs.Layout.{window_of, source_word}
use Rattle.states.specs.Fits.{cold_fits}
use Rattle.retain.specs.Retains.{cold_kept_fits, peer_kept_fits, roles_hold}
use Rattle.retain.proofs.keep_roles.Goals as goal

pub set_cold-requires : goal.set_cold-requires
set_cold-requires c =
    let owns = flagged c.args.flags.now in
    (c.requires.0, subst cold_fits (sym (c.cold_kept-cold.ensures ∙ ap (cold_kept owns) c.get_cold-c.ensures)) (cold_kept_fits owns (window_of c.args.words.now).races.cold c.requires.1.cold))

pub set_preferred-requires : goal.set_preferred-requires
set_preferred-requires c =
    let owns = flagged c.args.flags.now in
    (c.set_cold.ensures.whole, subst (λ (x : Option ℕ). source_word x ≤ 256) (sym (c.peer_kept-preferred.ensures ∙ ap (peer_kept owns) c.get_preferred-p.ensures)) (peer_kept_fits owns (window_of c.args.words.now).races.preferred c.requires.1.preferred))

pub set_attempted-requires : goal.set_attempted-requires
set_attempted-requires c =
    let owns = flagged c.args.flags.now in
    (c.set_preferred.ensures.whole, subst (λ (x : Option ℕ). source_word x ≤ 256) (sym (c.peer_kept-attempted.ensures ∙ ap (peer_kept owns) c.get_attempted-a.ensures)) (peer_kept_fits owns (window_of c.args.words.now).races.attempted c.requires.1.attempted))

pub keep_probe-requires : goal.keep_probe-requires
keep_probe-requires c = c.set_attempted.ensures.whole

pub returns : goal.returns
returns c =
    let a = c.args in
    roles_hold a.flags.now a.words.now c.set_cold.new.words c.set_preferred.new.words c.set_attempted.new.words c.keep_probe.new.words c.get_cold-c.result c.cold_kept-cold.result c.get_preferred-p.result c.peer_kept-preferred.result c.get_attempted-a.result c.peer_kept-attempted.result
    c.get_cold-c.ensures c.cold_kept-cold.ensures c.get_preferred-p.ensures c.peer_kept-preferred.ensures c.get_attempted-a.ensures c.peer_kept-attempted.ensures c.set_cold.ensures c.set_preferred.ensures c.set_attempted.ensures c.keep_probe.ensures

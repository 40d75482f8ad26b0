-- `retain::retain_owned_by` meets its contract. Assumes nothing.
use mathlib.Core.Path.{ap, ◌∙◌, subst}
use Rattle.model.specs.Window.{Step}
use Rattle.laws.specs.Whole.{Holds}
use Rattle.retain.specs.Retains.{roles_ranged, owned_is}
use Rattle.retain.proofs.retain_owned_by.Goals as goal

pub keep_roles-requires : goal.keep_roles-requires
keep_roles-requires c = (c.requires.0, c.requires.2)

pub retain_peer_assignments_by-requires : goal.retain_peer_assignments_by-requires
retain_peer_assignments_by-requires c =
    let a = c.args in
    (c.keep_roles.ensures.whole, roles_ranged a.flags.now a.words.now c.keep_roles.new.words c.requires.1 c.keep_roles.ensures)

pub returns : goal.returns
returns c =
    let a = c.args in
    let e = owned_is a.flags.now a.words.now c.keep_roles.new.words c.keep_roles.ensures in
    let d = c.retain_peer_assignments_by.ensures in
    (d.0, subst (λ (s : Step). Holds s.window c.retain_peer_assignments_by.new.words) e d.1, d.2 ∙ ap (λ (s : Step). s.gone) e)

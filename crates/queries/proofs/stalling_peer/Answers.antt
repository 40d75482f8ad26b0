-- `queries::stalling_peer` meets its contract. Assumes nothing.
use Rattle.std.specs.Prelude.{Option}
use Rattle.model.specs.Queries.{stall_values}
use Rattle.model.specs.Layout.{window_of}
use Rattle.model.specs.declared.StallEpisode.{StallEpisode}
use mathlib.Core.Path.{sym, subst, ap, ◌∙◌}
use mathlib.Core.List.{[], ◌∷◌}
use Prim.Native.Nat.{ℕ}
use native.Mathlib.Omega.{arith}
use Rattle.model.specs.Perform.{says}
use Rattle.queries.specs.Values.{seated}
use Rattle.queries.proofs.stalling_peer.Goals as goal

pub key_of-key-requires : goal.key_of-key-requires
key_of-key-requires c =
    let owner = subst seated (sym c.get_stall-s.ensures ∙ c.in-Some.is) c.requires in
    omega arith

pub returns-in-None : goal.returns-in-None
returns-in-None c = rw (← c.get_stall-s.ensures, c.in-None.is)

pub returns-in-Some : goal.returns-in-Some
returns-in-Some c =
    let w = window_of c.args.words.now in
    ap (λ (k : ℕ). says 0 (k ∷ c.in-Some.field-0.since ∷ [])) c.key_of-key.ensures ∙ sym (ap (λ (s : Option StallEpisode). says 0 (stall_values s w)) (sym c.get_stall-s.ensures ∙ c.in-Some.is))

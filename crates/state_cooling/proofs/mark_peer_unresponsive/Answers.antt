-- `state_cooling::mark_peer_unresponsive` meets its contract. Assumes nothing.
use mathlib.Core.Path.{sym, subst}
use Prim.Native.Nat.{ℕ, ◌≤◌}
use Rattle.model.specs.Numbers.{max_seat}
use Rattle.model.specs.Cooling.{key_of}
use Rattle.model.specs.Layout.{decode, read, window_of}
use Rattle.laws.specs.Tables.{sized_decode}
use Rattle.state_cooling.specs.Cooled.{cooled}
use Rattle.state_cooling.proofs.mark_peer_unresponsive.Goals as goal

pub mark_unresponsive-requires : goal.mark_unresponsive-requires
unfolding key_of window_of read decode
mark_unresponsive-requires c =
    let ws = c.args.words.now in
    let long = c.requires.0.long in
    ((sized_decode ws long).cooling, subst (λ (k : ℕ). k ≤ max_seat) (sym c.key_of-key.ensures) c.requires.1.1.1, c.requires.1.1.0)

pub returns : goal.returns
returns c =
    let start = c in
    cooled start.args.words.now start.requires.0 c.mark_unresponsive.new.table c.word_of-cooldown.result c.key_of-key.result start.args.source start.args.clock c.word_of-cooldown.ensures c.key_of-key.ensures
    c.mark_unresponsive.auto.table c.mark_unresponsive.ensures

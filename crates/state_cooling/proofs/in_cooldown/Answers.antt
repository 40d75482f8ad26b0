-- `state_cooling::in_cooldown` meets its contract. Assumes nothing.
use mathlib.Core.Path.{sym, subst, ◌∙◌}
use Prim.Native.Nat.{ℕ, ◌≤◌}
use Rattle.model.specs.Numbers.{max_seat}
use Rattle.model.specs.Cooling.{key_of}
use Rattle.model.specs.Layout.{decode, read, window_of}
use Rattle.laws.specs.Tables.{sized_decode}
use Rattle.state_cooling.specs.Cooled.{cooling_read}
use Rattle.state_cooling.proofs.in_cooldown.Goals as goal

pub is_cooling-requires : goal.is_cooling-requires
unfolding key_of window_of read decode
is_cooling-requires c =
    let ws = c.args.words.now in
    let long = c.told-words in
    ((sized_decode ws long).cooling, subst (λ (k : ℕ). k ≤ max_seat) (sym c.key_of-key.ensures) c.requires.2, c.requires.1)

pub returns : goal.returns
returns c =
    let start = c in
    c.is_cooling.ensures ∙ cooling_read start.args.words.now c.word_of-cooldown.result c.key_of-key.result start.args.source start.args.clock c.word_of-cooldown.ensures c.key_of-key.ensures

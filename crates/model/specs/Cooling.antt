-- SPECIFICATION 6.5: peers that were found unresponsive, by key. Definitions only.
use Rattle.std.specs.Prelude.{ℕ, suc, Bool, ◌&&◌, cond, List, map, get_or, set, ltb}
use Rattle.model.specs.Numbers.{present, age}
use Rattle.model.specs.Window.{Window, with_cooling}

-- SPECIFICATION 6.5: a key is cooling while its age is under the cooldown; s is its stored time
unfoldable pub cools : ℕ → ℕ → ℕ → Bool
cools cooldown now s = present s && ltb (age now s) cooldown

-- first the keys go whose age is at least the cooldown, then this one is noted
unfoldable pub cooling_noted : ℕ → ℕ → ℕ → List ℕ → List ℕ
cooling_noted cooldown key now table = set (map (λ s. cond (cools cooldown now s) s 0) table) key (suc now)

-- the key of a seat, `StallerKey::from(source)`
unfoldable pub key_of : ℕ → Window → ℕ
key_of seat w = get_or w.keys seat 0

-- `mark_peer_unresponsive`
unfoldable pub mark_peer_unresponsive : ℕ → ℕ → Window → Window
mark_peer_unresponsive source now w = with_cooling (cooling_noted w.settings.staller_cooldown (key_of source w) now w.cooling) w

-- `peer_in_staller_cooldown`
unfoldable pub peer_in_staller_cooldown : ℕ → ℕ → Window → Bool
peer_in_staller_cooldown source now w = cools w.settings.staller_cooldown now (get_or w.cooling (key_of source w) 0)

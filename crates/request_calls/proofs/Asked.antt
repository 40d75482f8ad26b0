-- The asks of two slices, by the number of them that the code has. Assumes nothing.
use mathlib.Core.Path.{◌≡◌, sym, ◌∙◌}
use mathlib.Core.List.{List}
use Prim.Native.Nat.{ℕ, ◌+◌, ◌*◌, ◌/◌, ◌≤◌, ◌<◌}
use native.Mathlib.Omega.{arith}
use lib.ListN.{length}
use Rattle.model.specs.Numbers.{lesser}
use Rattle.model.specs.Calls.{asks_in}
use Rattle.requests.specs.Asks.{asks_length, asks_within}

-- an ask is at i, and the words of its hash
abbrev pub AskAt : List ℕ → List ℕ → ℕ → Type 0
AskAt hs ts i = (i < length (asks_in hs ts)) × (4 * i + 4 ≤ length hs)

module _ (hs ts : List ℕ) (i n : ℕ) (e : n ≡ lesser (length hs / 4) (length ts)) where
  many : n ≡ length (asks_in hs ts)
  many = e ∙ sym (asks_length hs ts)

  pub ask_there : i < n → AskAt hs ts i
  ask_there l = (omega (arith, many, l), omega (arith, many, asks_within hs ts, l))

  pub ask_none : n ≤ i → length (asks_in hs ts) ≤ i
  ask_none l = omega (arith, many, l)

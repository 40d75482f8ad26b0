-- `records::parting` meets its contract: at the loop's head the record before `lo` comes before the hash, and the one at `hi` does not. Assumes
-- nothing.
use mathlib.Core.Path.{◌≡◌}
use mathlib.Core.Bool.{true, false}
use mathlib.Core.List.{List}
use Prim.Native.Nat.{ℕ, suc, ◌-◌, ◌≤◌, ◌<◌}
use lib.ListN.{take, get_or}
use Rattle.model.specs.Lists.{count}
use Rattle.model.specs.Hash.{less}
use Rattle.model.specs.Layout.{blank, rows}
use Rattle.model.specs.declared.Entry.{Entry}
use Rattle.model.specs.declared.Hash.{Hash}
use Rattle.records.proofs.parting.Given as goal

-- the first m records
abbrev pub L : ℕ → List ℕ → List Entry
L m ws = take m (rows 256 ws)

pub record Inv (ws : List ℕ) (m : ℕ) (h : Hash) (lo hi : ℕ) : Type 0 where
  pub order : lo ≤ hi
  pub top : hi ≤ m
  pub before : (k : ℕ) → suc k ≡ lo → less (get_or (L m ws) k blank).hash h ≡ true
  pub from : hi < m → less (get_or (L m ws) hi blank).hash h ≡ false

abbrev pub invariant-loop-lo : goal.invariant-loop-lo
invariant-loop-lo l = Inv l.words l.count l.h l.lo l.hi

abbrev pub decreases-loop-lo : goal.decreases-loop-lo
decreases-loop-lo l = l.hi - l.lo

-- SPECIFICATION 6.3: the records, strictly rising by hash. Definitions only.
use Rattle.std.specs.Prelude.{ℕ, ◌+◌, Bool, true, false, cond, List, [], ◌∷◌, eqb, leb, None, Some, Option}
use Rattle.model.specs.Lists.{count}
use Rattle.model.specs.Hash.{same, less}
use Rattle.model.specs.declared.Hash.{Hash}
use Rattle.model.specs.declared.Entry.{Entry}

-- an entry is built here alone
unfoldable pub new_entry : Hash → ℕ → ℕ → ℕ → ℕ → Entry
new_entry h owner now height estimate = record { hash = h; owner = owner; time = now; height = height; estimate = estimate }

-- `pending.insert`, of a hash that is not there: in its place by hash
unfoldable pub insert : Entry → List Entry → List Entry
insert e [] = e ∷ []
insert e (x ∷ l) = cond (less e.hash x.hash) (e ∷ x ∷ l) (x ∷ insert e l)

-- `pending.remove`
unfoldable pub remove : Hash → List Entry → List Entry
remove h [] = []
remove h (x ∷ l) = cond (same x.hash h) l (x ∷ remove h l)

-- `pending.get`
unfoldable pub found : Hash → List Entry → Option Entry
found h [] = None
found h (x ∷ l) = cond (same x.hash h) (Some x) (found h l)

-- `contains_pending`
abbrev pub is_there : Option Entry → Bool
is_there None = false
is_there (Some e) = true

-- the lower of an entry and the lowest of those that rise after it
abbrev pub lower : Entry → Option Entry → Option Entry
lower e None = Some e
lower e (Some x) = cond (leb e.height x.height) (Some e) (Some x)

-- `min_by_key(height)`; SPECIFICATION 6.3: equal heights, lower hash
unfoldable pub lowest : List Entry → Option Entry
lowest [] = None
lowest (e ∷ l) = lower e (lowest l)

-- `find(height ==)`: the entry at a height, the lower hash first
unfoldable pub at_height : ℕ → List Entry → Option Entry
at_height n [] = None
at_height n (e ∷ l) = cond (eqb e.height n) (Some e) (at_height n l)

-- the estimates of some entries
unfoldable pub sum : List Entry → ℕ
sum [] = 0
sum (e ∷ l) = e.estimate + sum l

abbrev pub owned_by : ℕ → Entry → Bool
owned_by s e = eqb e.owner s

-- `pending_count_for`
unfoldable pub pending_count_for : ℕ → List Entry → ℕ
pending_count_for s l = count (owned_by s) l

-- Which arguments a call can have, by the types that the code takes. Definitions only.
use Rattle.std.specs.Prelude.{List, [], ◌∷◌, ℕ, ◌≤◌, None, Some, Option}
use Rattle.model.specs.Numbers.{max_height}
use Rattle.model.specs.Refusals.{Change, Call, opens, changes, queries, requests, fetches, receives, credits, credits_duplicate, rejects, expires, requeues, releases, retires, retains, marks_unresponsive, confirms_probe, confirms_hedge, observes, sets_fanout, clears_preferred, plans, plans_retry}

-- SPECIFICATION 1.1: a height has 32 bits. All else may be any number: nothing that is proved here rests on the words of a hash, or on a number of
-- bytes or blocks, being below 2^64
abbrev pub LowAll : List ℕ → Type 0
LowAll [] = Unit {0}
LowAll (t ∷ ts) = (t ≤ max_height) × LowAll ts

abbrev pub LowHeight : Option ℕ → Type 0
LowHeight None = Unit {0}
LowHeight (Some n) = n ≤ max_height

abbrev pub FitsChange : Change → Type 0
FitsChange (requests c owner hashes heights next bytes n) = LowAll heights × (next ≤ max_height)
FitsChange (fetches c owner h height is_staged bytes n) = height ≤ max_height
FitsChange (receives c h bytes source) = Unit {0}
FitsChange (credits c h source height) = Unit {0}
FitsChange (credits_duplicate h source) = Unit {0}
FitsChange (rejects c h source) = Unit {0}
FitsChange (expires c) = Unit {0}
FitsChange (requeues c h named) = Unit {0}
FitsChange (releases c h) = Unit {0}
FitsChange (retires c height) = Unit {0}
FitsChange (retains flags) = Unit {0}
FitsChange (marks_unresponsive c source) = Unit {0}
FitsChange (confirms_probe c owner given alternates) = Unit {0}
FitsChange (confirms_hedge owner alternate h) = Unit {0}
FitsChange (observes c l) = LowHeight l.next
FitsChange (sets_fanout c n) = Unit {0}
FitsChange clears_preferred = Unit {0}
FitsChange (plans c source l hash_words heights) = Unit {0}
FitsChange (plans_retry c source l hash_words heights) = Unit {0}

abbrev pub Fits : Call → Type 0
Fits (opens c b keys) = Unit {0}
Fits (changes x) = FitsChange x
Fits (queries q) = Unit {0}

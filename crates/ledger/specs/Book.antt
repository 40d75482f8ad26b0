-- The book that a program keeps beside a window: sums of 64 bits that stop at the top, what a report lets go by reason, and the verdict.
use Rattle.std.specs.Prelude.{Bool, cond, ◌&&◌, List, [], ◌∷◌, ℕ, zero, suc, ◌+◌, ◌*◌, eqb, leb, get_or, set, min, replicate, Result, Ok, Err}
use Rattle.std.specs.Result.{result_unwrap_or}
use Rattle.model.specs.declared.Fetch.{Fetch}
use Rattle.model.specs.declared.Fetch.TheVariants.{Held, Staged, Asked, NoCapacity}
use Rattle.ledger.specs.declared.Amount.{Amount}
use Rattle.ledger.specs.declared.Book.{Book}
use Rattle.model.specs.declared.Refusal.{Refusal}

abbrev pub capped : ℕ → ℕ → ℕ
capped a b = min (a + b) 18446744073709551615

-- the same number added so many times
unfoldable pub added : ℕ → ℕ → ℕ → ℕ
added a by zero = a
added a by (suc n) = capped (added a by n) by

-- ---- blocks and bytes

abbrev pub amount : ℕ → ℕ → Amount
amount in_blocks in_bytes = record { blocks = in_blocks; bytes = in_bytes }

abbrev pub none : Amount
none = amount 0 0

abbrev pub plus : Amount → Amount → Amount
plus a b = amount (capped a.blocks b.blocks) (capped a.bytes b.bytes)

-- n blocks more, each with this estimate
unfoldable pub more : Amount → ℕ → ℕ → Amount
more a n estimate = amount (added a.blocks 1 n) (added a.bytes estimate n)

-- of the first so many
unfoldable pub total : ℕ → List Amount → Amount
total zero l = none
total (suc i) l = plus (total i l) (get_or l i none)

-- the place of a reason: none is place 0
abbrev pub place_of : ℕ → ℕ
place_of reason = cond (leb reason 10) reason 0

-- one more place of a report: a block, and its estimate
unfoldable pub one_more : List Amount → ℕ → ℕ → List Amount
one_more l reason estimate = set l (place_of reason) (plus (get_or l (place_of reason) none) (amount 1 estimate))

-- the first so many places of a report, nine words each: the eighth is the estimate, the ninth the reason
unfoldable pub tallied : List ℕ → ℕ → List Amount → List Amount
tallied gone zero l = l
tallied gone (suc i) l = one_more (tallied gone i l) (get_or gone (9 * i + 8) 0) (get_or gone (9 * i + 7) 0)

-- what was opened is what was let go and what is pending
abbrev pub adds_up : ℕ → ℕ → ℕ → Bool
adds_up opened gone pending = eqb opened (gone + pending)

-- in blocks and in bytes
abbrev pub balanced : Amount → Amount → Amount → Bool
balanced opened gone pending = adds_up opened.blocks gone.blocks pending.blocks && adds_up opened.bytes gone.bytes pending.bytes

-- what a query answers, 0 where it is refused
abbrev pub value : Result ℕ Refusal → ℕ
value n = result_unwrap_or n 0

abbrev pub empty : Book
empty = record { opened = none; gone = replicate 11 none }

-- so many blocks more, each with this estimate
unfoldable pub opened : Book → ℕ → ℕ → Book
opened b n estimate = record { opened = more b.opened n estimate; gone = b.gone }

-- how many of the n blocks of a request its answer says were opened
abbrev pub of_request : Result Bool Refusal → ℕ → ℕ
of_request (Err r) n = 0
of_request (Ok room) n = n

-- a fetch is of one block
abbrev pub of_fetch : Result Fetch Refusal → ℕ
of_fetch (Err r) = 0
of_fetch (Ok Held) = 0
of_fetch (Ok Staged) = 0
of_fetch (Ok Asked) = 1
of_fetch (Ok NoCapacity) = 0

-- what the first n of a report's 256 places let go
unfoldable pub let_go : Book → List ℕ → ℕ → Book
let_go b report n = record { opened = b.opened; gone = tallied report (min n 256) b.gone }

-- the page at the end: opened, let go for each of the ten reasons and in all, pending
unfoldable pub page : Book → Amount → List Amount
page b pending =
    b.opened
    ∷ get_or b.gone 1 none
    ∷ get_or b.gone 2 none
    ∷ get_or b.gone 3 none
    ∷ get_or b.gone 4 none
    ∷ get_or b.gone 5 none
    ∷ get_or b.gone 6 none
    ∷ get_or b.gone 7 none
    ∷ get_or b.gone 8 none
    ∷ get_or b.gone 9 none
    ∷ get_or b.gone 10 none
    ∷ total 11 b.gone
    ∷ pending
    ∷ []

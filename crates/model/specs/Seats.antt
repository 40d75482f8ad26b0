-- SPECIFICATION 6.4: start times and last body times by seat. Definitions only.
use Rattle.std.specs.Prelude.{ℕ, zero, suc, Bool, cond, List, [], ◌∷◌, get_or, set, eqb, ltb}
use Rattle.model.specs.Numbers.{lesser, greater, present}
use Rattle.model.specs.Lists.{count}
use Rattle.model.specs.Window.{Queue, queue}
use Rattle.model.specs.declared.Entry.{Entry}

-- the earlier of two stored times, of which the second may be missing
abbrev pub sooner : ℕ → ℕ → ℕ
sooner t zero = t
sooner t (suc u) = lesser t (suc u)

-- the least request time among the entries of the seat s, as it is stored: 0 where the seat has none
unfoldable pub oldest : ℕ → List Entry → ℕ
oldest s [] = 0
oldest s (e ∷ l) = cond (eqb e.owner s) (sooner (suc e.time) (oldest s l)) (oldest s l)

-- a seat's start after an entry of the stored time t went, by the oldest that is left: none left, it goes; t older, the clock; equal, the later
-- of start and oldest; newer, as it was
abbrev pub start_reset : ℕ → ℕ → ℕ → ℕ → ℕ
start_reset now t zero start = 0
start_reset now t (suc u) start = cond (ltb t (suc u)) (suc now) (cond (eqb t (suc u)) (greater start (suc u)) start)

-- a seat's last body goes with its last entry
abbrev pub body_reset : ℕ → ℕ → ℕ
body_reset zero body = 0
body_reset (suc u) body = body

-- `reset_owner_queue_start`: an entry of the owner, asked at `removed`, has gone
unfoldable pub reset_owner_queue_start : ℕ → ℕ → ℕ → Queue → Queue
reset_owner_queue_start owner removed now q =
    queue q.total q.pending
    (set q.starts owner (start_reset now (suc removed) (oldest owner q.pending) (get_or q.starts owner 0)))
    (set q.bodies owner (body_reset (oldest owner q.pending) (get_or q.bodies owner 0)))

-- `owner_downloading_since.entry(owner).or_insert(now)`
abbrev pub start_noted : ℕ → ℕ → ℕ
start_noted now zero = suc now
start_noted now (suc s) = suc s

-- `active_downloading_peers`
unfoldable pub active_downloading_peers : List ℕ → ℕ
active_downloading_peers starts = count present starts

-- `is_downloading`
unfoldable pub is_downloading : ℕ → List ℕ → Bool
is_downloading s starts = present (get_or starts s 0)

-- `retain` over a table by seat, from the seat i on
unfoldable pub keep_seats : (ℕ → Bool) → ℕ → List ℕ → List ℕ
keep_seats keep i [] = []
keep_seats keep i (x ∷ l) = cond (keep i) x 0 ∷ keep_seats keep (suc i) l

-- SPECIFICATION 16, request 02: the next request is planned. Each of the Rust's functions is a definition by its name. Definitions only.
-- Branch retargeting is left out. The Rust walks the chain down from the end of its reach and takes the last it saw; here the same heights rise,
-- and the first are taken. A hash that is already in the plan is passed by like a pending one: on a chain that names no hash twice that is what the
-- Rust does.
use Rattle.std.specs.Prelude.{ℕ, suc, ◌+◌, ◌-◌, ◌/◌, Bool, false, cond, not, ◌&&◌, ◌||◌, List, [], ◌∷◌, ◌++◌, map, length, take, drop, eqb, ltb, leb, None, Some, Option}
use Rattle.model.specs.Numbers.{lesser, greater, next_height}
use Rattle.model.specs.Lists.{any, select, every}
use Rattle.model.specs.Hash.{same, hashes_in}
use Rattle.model.specs.Window.{Window, Step, stay, after, with_frontier}
use Rattle.model.specs.Records.{found, is_there}
use Rattle.model.specs.Time.{peer_has_expired_pending}
use Rattle.model.specs.Cooling.{peer_in_staller_cooldown}
use Rattle.model.specs.Capacity.{Capacity, no_capacity, capacity, compute_request_capacity}
use Rattle.model.specs.LettingGo.{expire_pending}
use Rattle.model.specs.Races.{is_empty, by_height}
use Rattle.model.specs.Calls.{Ask}
use Rattle.model.specs.declared.Hash.{Hash}
use Rattle.model.specs.declared.Release.{Release}

-- ---- what is lent and said for one plan

-- `chain`: the hashes from height 0 to the tip; `staged` and `refused` ones; each list has four words a hash, and what is past the last whole hash
-- is not read. `tip`: the chain's last height (refusal 12: the chain has tip + 1 hashes). `start`: `request_start_height`; `best`: `peer_best_height`;
-- `floor`: `servable_floor`. `exhausted`: `staged_bytes_exhausted`. `bytes` and `count`: `staged_byte_headroom` and `staged_count_headroom` as they are
-- after the sweep
pub record Lent : Type 0 where
  pub chain : List ℕ
  pub tip : ℕ
  pub staged : List ℕ
  pub refused : List ℕ
  pub start : ℕ
  pub best : ℕ
  pub floor : ℕ
  pub exhausted : Bool
  pub bytes : ℕ
  pub count : ℕ

abbrev pub ask : Hash → ℕ → Ask
ask h height = record { hash = h; height = height }

-- a list of words names the hash h
unfoldable pub names : List ℕ → Hash → Bool
names words h = any (same h) (hashes_in words)

unfoldable pub is_pending : Window → Ask → Bool
is_pending w a = is_there (found a.hash w.queue.pending)

unfoldable pub is_staged : Lent → Ask → Bool
is_staged l a = names l.staged a.hash

unfoldable pub is_refused : Lent → Ask → Bool
is_refused l a = names l.refused a.hash

unfoldable pub is_open : Lent → Window → Ask → Bool
is_open l w a = not (is_pending w a || is_staged l a)

-- hashes of the chain with their heights, the first of them at n
unfoldable pub heights_from : ℕ → List Hash → List Ask
heights_from n [] = []
heights_from n (h ∷ hs) = ask h n ∷ heights_from (suc n) hs

-- the chain from one height to another, both included: `contiguous_request_entries`
unfoldable pub contiguous_request_entries : ℕ → ℕ → List ℕ → List Ask
contiguous_request_entries first last chain = heights_from first (take (suc last - first) (drop first (hashes_in chain)))

-- each hash at its lowest height alone, and none of those that were seen before: `SelectedHashes`
unfoldable pub first_named : List Hash → List Ask → List Ask
first_named seen [] = []
first_named seen (a ∷ rest) = cond (any (same a.hash) seen) (first_named seen rest) (a ∷ first_named (a.hash ∷ seen) rest)

-- ---- `RefusalFilter`: the lowest refused height so far

abbrev pub lower_of : Option ℕ → ℕ → Option ℕ
lower_of None n = Some n
lower_of (Some m) n = Some (lesser m n)

-- `keep`, of one after the other: what it notes
unfoldable pub noticed : Lent → List Ask → Option ℕ → Option ℕ
noticed l [] low = low
noticed l (a ∷ rest) low = noticed l rest (cond (is_refused l a) (lower_of low a.height) low)

-- `min_refused` holds the next height back, not below the frontier
abbrev pub held_back : Option ℕ → ℕ → ℕ → ℕ
held_back None frontier next = next
held_back (Some low) frontier next = greater (lesser next low) frontier

-- ---- a plan

-- what a plan has come to: its entries in order, the bytes left, the lowest refused height
pub record Draft : Type 0 where
  pub asks : List Ask
  pub bytes : ℕ
  pub low : Option ℕ

abbrev pub draft : List Ask → ℕ → Option ℕ → Draft
draft asks bytes low = record { asks = asks; bytes = bytes; low = low }

-- `RequestScan`, and what it is about
pub record Scan : Type 0 where
  pub height : ℕ
  pub tip : ℕ
  pub limit : ℕ
  pub next : ℕ

-- the window after it, what was swept, the entries of the request and its next height; no entries, no request
pub record Proposal : Type 0 where
  pub window : Window
  pub gone : List Release
  pub asks : List Ask
  pub next : ℕ

abbrev pub no_request : Step → Proposal
no_request s = record { window = s.window; gone = s.gone; asks = []; next = 0 }

-- `non_empty_request`
unfoldable pub non_empty_request : Step → List Ask → ℕ → Proposal
non_empty_request s asks next = cond (is_empty asks) (no_request s) (record { window = s.window; gone = s.gone; asks = asks; next = next })

-- ---- the swept ones

-- what was swept, by height: equal heights as they stood, by rising hash (`sort_by_key` is stable)
unfoldable pub swept_asks : List Release → List Ask
swept_asks gs = map (λ e. ask e.hash e.height) (by_height (map (λ g. g.entry) gs))

-- one more in front
abbrev pub and_ask : Ask → Draft → Draft
and_ask a d = draft (a ∷ d.asks) d.bytes d.low

-- `expired_request_entries`: up to `room` of them, each takes the mean off the bytes; a refused one is noted before anything else is asked of it
unfoldable pub expired_request_entries : Lent → Window → List Ask → ℕ → ℕ → Option ℕ → Draft
expired_request_entries l w [] room bytes low = draft [] bytes low
expired_request_entries l w (a ∷ rest) room bytes low =
    cond (eqb room 0 || ltb bytes w.mean) (draft [] bytes low)
    (cond (is_refused l a) (expired_request_entries l w rest room bytes (lower_of low a.height))
    (cond (ltb a.height l.floor || not (is_open l w a)) (expired_request_entries l w rest room bytes low)
    (and_ask a (expired_request_entries l w rest (room - 1) (bytes - w.mean) low))))

-- ---- the chain

-- the first of some hashes is there, and neither pending nor staged
abbrev pub is_first_open : Lent → Window → List Hash → Bool
is_first_open l w [] = false
is_first_open l w (h ∷ hs) = is_open l w (ask h l.start)

-- `maybe_rewind_request_frontier`: refused hashes and the plan are not asked about
unfoldable pub maybe_rewind_request_frontier : Lent → Window → Window
maybe_rewind_request_frontier l w =
    cond (ltb l.start w.frontier && is_first_open l w (drop l.start (hashes_in l.chain))) (with_frontier l.start w) w

-- the last of n heights
unfoldable pub reach : ℕ → Scan → ℕ
reach n s = lesser (s.height + (n - 1)) s.tip

-- the stretch of the chain that is asked for where nothing stands in the way
unfoldable pub clean_stretch : Lent → Scan → List Ask
clean_stretch l s = first_named [] (contiguous_request_entries s.height (reach s.limit s) l.chain)

-- nothing is taken, pending or staged, and nothing in the stretch is refused
unfoldable pub is_clean : Lent → Window → Scan → Draft → Bool
is_clean l w s d =
    every (is_empty d.asks ∷ is_empty w.queue.pending ∷ is_empty (hashes_in l.staged) ∷ not (any (is_refused l) (clean_stretch l s)) ∷ [])

-- `clean_contiguous_peer_request`, where it makes one: the lowest refused height, which a swept hash may have set, does not hold it back. What it
-- notes where it makes none the scan notes too, since both have the same reach then.
unfoldable pub clean_contiguous_peer_request : Lent → Step → Scan → Proposal
clean_contiguous_peer_request l t s = non_empty_request t (clean_stretch l s) (greater s.next (next_height (reach s.limit s)))

-- in the scan's reach, what is neither pending nor staged nor in the plan: as many heights are looked at as are wanted, pending, staged and taken
unfoldable pub open_in_reach : Lent → Window → Scan → List Ask → List Ask
open_in_reach l w s taken =
    first_named (map (λ a. a.hash) taken) (select (is_open l w)
    (contiguous_request_entries s.height (reach (s.limit + (length w.queue.pending + (length (hashes_in l.staged) + length taken))) s) l.chain))

-- those of them that are not refused
unfoldable pub candidates : Lent → Window → Scan → List Ask → List Ask
candidates l w s taken = select (λ a. not (is_refused l a)) (open_in_reach l w s taken)

-- past the heights of some entries
unfoldable pub past : List Ask → ℕ → ℕ
past [] n = n
past (a ∷ rest) n = past rest (greater n (next_height a.height))

-- past what is taken of the candidates; past all that the peer has, where they are fewer than wanted
unfoldable pub next_after : Scan → List Ask → ℕ
next_after s cs =
    let next = past (take s.limit cs) s.next in
    cond (ltb (length cs) s.limit) (greater next (next_height s.tip)) next

-- `extend_request_by_reverse_scan`, and the hold of the lowest refused height: every refused one in reach counts
unfoldable pub extend_request_by_reverse_scan : Lent → Step → Scan → Draft → Proposal
extend_request_by_reverse_scan l t s d =
    let w = t.window in
    let cs = candidates l w s d.asks in
    non_empty_request t (d.asks ++ take s.limit cs)
    (held_back (noticed l (open_in_reach l w s d.asks) d.low) w.frontier (next_after s cs))

-- ---- the request

-- the window w is swept and rewound, d the plan so far
unfoldable pub scan_of : Lent → Window → ℕ → Draft → Scan
scan_of l w batch d = record {
  height = greater (greater l.start w.frontier) l.floor;
  tip = lesser l.tip l.best;
  limit = lesser (batch - length d.asks) (d.bytes / w.mean);
  next = w.frontier;
}

unfoldable pub request_from : Lent → Step → Scan → Draft → Proposal
request_from l t s d =
    cond (leb s.height s.tip && ltb 0 s.limit)
    (cond (is_clean l t.window s d) (clean_contiguous_peer_request l t s) (extend_request_by_reverse_scan l t s d))
    (non_empty_request t d.asks (held_back d.low t.window.frontier s.next))

-- by what `compute_request_capacity` says of the swept window; without capacity the sweep stands, and nothing is rewound
abbrev pub request_by : Capacity → Lent → Step → Proposal
request_by no_capacity l swept = no_request swept
request_by (capacity batch bytes) l swept =
    let d = expired_request_entries l swept.window (swept_asks swept.gone) batch bytes None in
    let t = after swept (maybe_rewind_request_frontier l) in
    request_from l t (scan_of l t.window batch d) d

unfoldable pub request_after : ℕ → Lent → Step → Proposal
request_after source l swept = request_by (compute_request_capacity source l.bytes l.count swept.window) l swept

-- `next_peer_request_allowing_retry`
unfoldable pub next_peer_request_allowing_retry : ℕ → Lent → ℕ → Window → Proposal
next_peer_request_allowing_retry source l now w = cond l.exhausted (no_request (stay w)) (request_after source l (expire_pending now w))

-- `next_peer_request`: an expired or cooling peer gets none, and nothing is swept
unfoldable pub next_peer_request : ℕ → Lent → ℕ → Window → Proposal
next_peer_request source l now w =
    cond (peer_has_expired_pending source now w || peer_in_staller_cooldown source now w) (no_request (stay w))
    (next_peer_request_allowing_retry source l now w)

-- ---- a plan in the lists that are lent for it

-- its hashes, four words each
unfoldable pub ask_hashes : List Ask → List ℕ
ask_hashes [] = []
ask_hashes (x ∷ l) = x.hash.a ∷ x.hash.b ∷ x.hash.c ∷ x.hash.d ∷ ask_hashes l

-- its heights
unfoldable pub ask_heights : List Ask → List ℕ
ask_heights [] = []
ask_heights (x ∷ l) = x.height ∷ ask_heights l

-- a lent list with some numbers in its first places, the others as they were lent
unfoldable pub written : List ℕ → List ℕ → List ℕ
written l lent = l ++ drop (length l) lent

-- REQUEST 02'S SENTENCES ABOUT A PLAN, each a theorem of the definitions: of both calls, for every seat, clock and window, and for every chain, staged
-- and refused list. Where a theorem asks for more, it says so: a sound window (`Sound`, which every accepted call has), or hashes that are named once.
-- Each may be read without its proof. Assumes nothing.
use Rattle.std.specs.Prelude.{◌≡◌, refl, ◌⊎◌, Bool, true, false, cond, not, ◌&&◌, ◌||◌, ℕ, ◌+◌, ◌-◌, ◌*◌, ◌≤◌, ◌<◌, ltb, get_or}
use Rattle.std.proofs.Math.Path.{ap}
use Rattle.std.proofs.Common.{◌∙◌, inl, inr, arith}
use Rattle.std.proofs.Math.ListN.{length}
use borrow.Author.Tests.{le-ltb, le-leb}
use Rattle.model.specs.Numbers.{lesser, max_clock, max_height, max_pending, max_seat, clock_ok, read_clock}
use Rattle.model.specs.Lists.{any, every}
use Rattle.model.specs.Hash.{hashes_in}
use Rattle.model.specs.Window.{Window, stay, with_clock}
use Rattle.model.specs.Records.{pending_count_for}
use Rattle.model.specs.Time.{peer_has_expired_pending}
use Rattle.model.specs.Cooling.{peer_in_staller_cooldown}
use Rattle.model.specs.Capacity.{effective_peer_inflight, no_capacity, compute_request_capacity}
use Rattle.model.specs.Races.{is_empty}
use Rattle.model.specs.LettingGo.{expire_pending}
use Rattle.model.specs.Calls.{Ask, asks_in, mark_requested}
use Rattle.model.specs.Refusals.{Change, requests, checks, listed_once, list_ok, request_refusal, report_ok, refusal_at}
use Rattle.model.specs.Perform.{changed, requested}
use Rattle.model.specs.Layout.{settings_ok}
use Rattle.model.specs.Planning.{Lent, Proposal, ask, no_request, is_pending, is_staged, is_refused, is_open, maybe_rewind_request_frontier, next_peer_request, next_peer_request_allowing_retry, ask_hashes, ask_heights}
use Rattle.model.specs.declared.Hash.{Hash}
use Rattle.laws.specs.Numbers.{both, lesser_le_first, lesser_le_second}
use Rattle.laws.specs.Every.{and_so, blocks_le}
use Rattle.laws.specs.Entries.{Rising, Picks, each_map}
use Rattle.laws.specs.Sound.{Sound}
use Rattle.laws.proofs.PlansKept.{plans_lets, plans_retry_lets}
use Rattle.laws.specs.Fits.{FitsChange}
use Rattle.plan_laws.specs.Lists.{Every, every_map, none_any, none_all}
use Rattle.plan_laws.specs.Named.{NamesOnce, hashes_of, times_hashes, once_listed}
use Rattle.plan_laws.specs.Chain.{Stands}
use Rattle.plan_laws.specs.Drafts.{Good, expire_every, swept_every}
use Rattle.plan_laws.specs.Cases.{Plan, retry_plan, first_plan}
use Rattle.plan_laws.specs.Entries.{plan_good, plan_once, plan_where}
use Rattle.plan_laws.specs.Complete.{is_planned, plan_complete}
use Rattle.plan_laws.specs.Left.{was_swept, plan_picks, plan_within, plan_bytes, plan_source, plan_left, plan_ge, plan_low, marked_frontier, asks_back, heights_low}
use Rattle.plan_laws.specs.Unplanned.{first_alike, first_none, retry_none, retry_swept, rewound_frontier}

-- the two calls: `next_peer_request` and `next_peer_request_allowing_retry`
pub data Form : Type 0 where
  first allowing_retry : Form

abbrev pub plan : Form → ℕ → Lent → ℕ → Window → Proposal
plan first source l now w = next_peer_request source l now w
plan allowing_retry source l now w = next_peer_request_allowing_retry source l now w

plan_is : (form : Form) (source : ℕ) (l : Lent) (now : ℕ) (w : Window) → Plan source l now w (plan form source l now w)
plan_is first source l now w = first_plan source l now w
plan_is allowing_retry source l now w = retry_plan source l now w

module _ (form : Form) (source : ℕ) (l : Lent) (now : ℕ) (w : Window) where
  -- P.window is the window as the call leaves it, P.gone what was swept, P.asks the entries in order, P.next the next height. No entries: no request
  abbrev P : Proposal
  P = plan form source l now w

  it : Plan source l now w P
  it = plan_is form source l now w

  -- ---- "A plan never names a hash that is pending as it returns, staged or refused, nor a height under the servable floor"

  none_of : (p : Ask → Bool) → ((a : Ask) → Good l P.window a → p a ≡ false) → any p P.asks ≡ false
  none_of p f = none_any p P.asks (every_map (Good l P.window) (λ a. p a ≡ false) f P.asks (plan_good source l now w it))

  pub never_pending : any (is_pending P.window) P.asks ≡ false
  never_pending = none_of (is_pending P.window) (λ a g. g.pending)

  pub never_staged : any (is_staged l) P.asks ≡ false
  never_staged = none_of (is_staged l) (λ a g. g.staged)

  pub never_refused : any (is_refused l) P.asks ≡ false
  never_refused = none_of (is_refused l) (λ a g. g.refused)

  pub never_under_the_floor : any (λ a. ltb a.height l.floor) P.asks ≡ false
  never_under_the_floor = none_of (λ a. ltb a.height l.floor) (λ a g. le-ltb a.height l.floor (omega (arith, g.floor)))

  -- ---- "and its length stays in the batch limit"

  pub within_the_batch : length P.asks ≤ w.settings.getdata_batch_limit
  within_the_batch = omega (arith, (plan_within source l now w it).batch)

  -- and in what the other limits leave beside what is pending as it returns: blocks, the seat's own, bytes by the mean
  pub within_the_blocks : length P.asks ≤ w.settings.max_pending_blocks - length P.window.queue.pending
  within_the_blocks = omega (arith, (plan_within source l now w it).blocks)

  pub within_the_peer : length P.asks ≤ effective_peer_inflight w - pending_count_for source P.window.queue.pending
  unfolding effective_peer_inflight
  within_the_peer = (plan_within source l now w it).peer

  pub within_the_bytes : length P.asks * w.mean ≤ w.settings.max_pending_bytes - P.window.queue.total
  within_the_bytes = plan_bytes source l now w it

  -- so lists of 256 places hold it
  pub within_256 : settings_ok w.settings ≡ true → length P.asks ≤ max_pending
  within_256 e = omega (arith, (plan_within source l now w it).blocks, blocks_le w.settings e)

  -- ---- "A hash already in the plan is passed by like a pending one": no hash stands in it twice, whatever the lists name twice. The window's hashes
  -- rise strictly, as in every sound one (two records of one hash, both swept, would both be named)

  pub never_twice : Rising 0 w.queue.pending → NamesOnce (hashes_of P.asks)
  never_twice r h = omega (arith, times_hashes h P.asks, plan_once source l now w r it h)

  -- in the words of refusal 7
  pub never_listed_twice : Rising 0 w.queue.pending → listed_once P.asks ≡ true
  never_listed_twice r = once_listed P.asks (plan_once source l now w r it)

  -- ---- each entry went just now, or stands on the chain at its height, within what the peer has

  abbrev pub OnChain : Ask → Type 0
  OnChain a = (a.height ≤ l.tip) × (a.height ≤ l.best) × (a.height < length (hashes_in l.chain)) × (get_or (hashes_in l.chain) a.height a.hash ≡ a.hash)

  on_chain : (a : Ask) → Stands (hashes_in l.chain) l.floor (lesser l.tip l.best) a → OnChain a
  on_chain a k = (omega (arith, k.high, lesser_le_first l.tip l.best), omega (arith, k.high, lesser_le_second l.tip l.best), k.there, k.own)

  pub swept_or_on_the_chain : Every (λ a. (was_swept P.gone a ≡ true) ⊎ OnChain a) P.asks
  swept_or_on_the_chain =
      every_map (λ a. (was_swept P.gone a ≡ true) ⊎ Stands (hashes_in l.chain) l.floor (lesser l.tip l.best) a) (λ a. (was_swept P.gone a ≡ true) ⊎ OnChain a)
      (λ a k. elim k [ inl e ↦ inl e | inr e ↦ inr (on_chain a e) ]) P.asks (plan_source source l now w it)

  -- ---- what is left where nothing is planned: everything where staged bytes are exhausted, and in the first form for an expired or cooling peer; the
  -- sweep where there is then no capacity

  pub exhausted_leaves : l.exhausted ≡ true → P ≡ no_request (stay w)
  exhausted_leaves e = leaves form
    where
      leaves : (f : Form) → plan f source l now w ≡ no_request (stay w)
      leaves first = elim (both (peer_has_expired_pending source now w || peer_in_staller_cooldown source now w)) [
        | inl q ↦ first_none source l now w q
        | inr q ↦ first_alike source l now w q ∙ retry_none source l now w e
      ]
      leaves allowing_retry = retry_none source l now w e

  pub expired_or_cooling_leaves : (peer_has_expired_pending source now w || peer_in_staller_cooldown source now w) ≡ true → next_peer_request source l now w ≡ no_request (stay w)
  expired_or_cooling_leaves e = first_none source l now w e

  pub otherwise_alike : (peer_has_expired_pending source now w || peer_in_staller_cooldown source now w) ≡ false → next_peer_request source l now w ≡ next_peer_request_allowing_retry source l now w
  otherwise_alike e = first_alike source l now w e

  pub no_capacity_sweeps : l.exhausted ≡ false → compute_request_capacity source l.bytes l.count (expire_pending now w).window ≡ no_capacity
      → next_peer_request_allowing_retry source l now w ≡ no_request (expire_pending now w)
  no_capacity_sweeps e c = retry_swept source l now w e c

  -- ---- "no entry is opened until the request is marked": the pending entries are those of before without what went

  pub nothing_opened : Picks P.gone w.queue.pending P.window.queue.pending
  nothing_opened = plan_picks source l now w it

  -- where there is a request, the window was swept and its frontier rewound, and nothing else
  pub swept_and_rewound : is_empty P.asks ≡ false → (P.window ≡ maybe_rewind_request_frontier l (expire_pending now w).window) × (P.gone ≡ (expire_pending now w).gone)
  swept_and_rewound e = plan_left source l now w it e

  -- it is rewound to the start height where this is below the frontier of the swept window, and the chain's hash there is neither pending nor staged
  pub rewound_to_the_start : (x : Hash) → is_empty P.asks ≡ false → let v = (expire_pending now w).window in let chain = hashes_in l.chain in P.window.frontier
      ≡ cond (ltb l.start v.frontier && (ltb l.start (length chain) && not (is_pending v (ask (get_or chain l.start x) l.start) || is_staged l (ask (get_or chain l.start x) l.start)))) l.start v.frontier
  unfolding is_open
  rewound_to_the_start x e = ap (λ (v : Window). v.frontier) (plan_left source l now w it e).0 ∙ rewound_frontier l (expire_pending now w).window x

  -- ---- a plan that is marked at once for the same seat is not refused by 7 or 8, and the frontier is then the plan's next height

  module _ (g : Sound now w) where
    pub left_sound : Sound now P.window
    left_sound = keeps form
      where
        keeps : (f : Form) → Sound now (plan f source l now w).window
        keeps first = (plans_lets source l g).sound
        keeps allowing_retry = (plans_retry_lets source l g).sound

    -- neither 7 nor 8
    pub marked_at_once : request_refusal P.asks P.window ≡ 0
    unfolding request_refusal list_ok every is_pending
    marked_at_once =
        let v = P.window in
        let free = none_all (is_pending v) P.asks (every_map (Good l v) (λ a. is_pending v a ≡ false) (λ a k. k.pending) P.asks (plan_good source l now w it)) in
        let fits : length v.queue.pending + length P.asks ≤ max_pending = omega (arith, (plan_within source l now w it).blocks, blocks_le w.settings g.settings, left_sound.queue.few) in
        rw (and_so free (and_so (never_listed_twice g.queue.rising) refl), le-leb (length v.queue.pending + length P.asks) max_pending fits)

  pub next_is_the_frontier : is_empty P.asks ≡ false → (mark_requested P.asks source P.next now P.window).frontier ≡ P.next
  next_is_the_frontier e = marked_frontier P.asks source P.next now P.window (plan_ge source l now w it e)

  -- in two lists, as a plan is written and a request is made
  pub handed_on : asks_in (ask_hashes P.asks) (ask_heights P.asks) ≡ P.asks
  handed_on = asks_back P.asks

  -- the same of the public call: a request of the plan's two lists and next height, made of the words that the plan left at its own clock, has
  -- arguments that fit and is accepted, whatever headrooms and report are handed in with it; it leaves the frontier at the plan's next height
  abbrev pub marking : ℕ → ℕ → Change
  marking bytes n = requests now source (ask_hashes P.asks) (ask_heights P.asks) P.next bytes n

  module _ (g : Sound now w) (bytes n : ℕ) where
    pub marking_fits : l.tip ≤ max_height → FitsChange (marking bytes n)
    marking_fits b =
        let low : Ask → Type 0 = λ a. a.height ≤ max_height in
        let swept = swept_every low (expire_pending now w).gone (expire_every (λ e. e.height ≤ max_height) now w (each_map (λ e k. k.height) w.queue.pending g.queue.each)) in (
          heights_low P.asks (plan_where source l now w low swept (λ a k. omega (arith, k.high, lesser_le_first l.tip l.best)) it),
          plan_low source l now w it (left_sound g).frontier,
        )

    pub marking_accepted : source ≤ max_seat → (room : ℕ) → refusal_at (checks (marking bytes n)) (with_clock now P.window) room ≡ 0
    unfolding refusal_at report_ok clock_ok request_refusal list_ok
    marking_accepted b room = rw (le-leb now max_clock g.clock, le-leb now now (omega arith), le-leb source max_seat b, handed_on) (marked_at_once g)

  pub marking_frontier : (bytes n : ℕ) → is_empty P.asks ≡ false → (changed (marking bytes n) (with_clock now P.window)).window.frontier ≡ P.next
  unfolding changed requested read_clock
  marking_frontier bytes n e = rw handed_on (marked_frontier P.asks source P.next now (with_clock now P.window) (plan_ge source l now w it e))

  -- ---- on a chain that names no hash twice nothing that could be asked for is left out between the scan's first height, which is the greatest of
  -- start, frontier and floor, and the next height: a hash of the chain at such a height n is pending as the plan returns, staged, or in the plan. So a
  -- refused one that is neither pending nor staged is not below the next height. (Without a request the next height is 0.)

  pub nothing_left_out : NamesOnce (hashes_in l.chain) → (x : Hash) (n : ℕ) → l.start ≤ n → P.window.frontier ≤ n → l.floor ≤ n → n < P.next → n < length (hashes_in l.chain)
      → let a = ask (get_or (hashes_in l.chain) n x) n in (is_pending P.window a || is_staged l a || is_planned P.asks a.hash) ≡ true
  nothing_left_out once x n s f b c d = plan_complete source l now w it once x n (omega arith) (omega arith) (omega arith) (omega arith) (omega arith)

-- What a plan leaves: settings as they were, pending entries without those that went, room for its entries, a frontier that its next height is no
-- lower than. Assumes nothing.
use Rattle.std.specs.Prelude.{◌≡◌, ◌⊎◌, Bool, true, false, not, ◌&&◌, ℕ, ◌-◌, ◌*◌, ◌≤◌, eqb}
use Rattle.std.proofs.Math.Path.{refl, ap, subst}
use Rattle.std.proofs.Common.{◌∙◌, inl, inr, true≢false, eq-eqb}
use mathlib.Core.List.{List, [], ◌∷◌, Memᴰ}
use Rattle.std.proofs.Math.Nat.{zero-mul}
use native.Mathlib.Omega.{arith}
use Rattle.std.proofs.Math.ListN.{length}
use Rattle.model.specs.Numbers.{lesser, max_height}
use Rattle.model.specs.Lists.{any}
use Rattle.model.specs.Hash.{same, hashes_in}
use Rattle.model.specs.Window.{Window, Queue, queue, with_queue}
use Rattle.model.specs.Records.{pending_count_for}
use Rattle.model.specs.Time.{effective_owner_timeout, active}
use Rattle.model.specs.LettingGo.{gone, kept, total_after, extract, sweep_reason, expire_pending}
use Rattle.model.specs.Capacity.{effective_peer_inflight, batch_limit, byte_capacity}
use Rattle.model.specs.Races.{is_empty}
use Rattle.model.specs.Calls.{Ask, asks_in, noted, mark_requested}
use Rattle.model.specs.Planning.{Lent, Proposal, ask, ask_hashes, ask_heights, maybe_rewind_request_frontier, non_empty_request, scan_of}
use Rattle.model.specs.declared.Release.{Release}
use Rattle.model.specs.declared.Settings.{Settings}
use Rattle.laws.specs.Numbers.{both, lesser_le_first, lesser_le_second, greater_second}
use Rattle.laws.specs.Every.{and_so}
use Rattle.laws.specs.Entries.{Picks, done, sift}
use Rattle.laws.specs.Queues.{resets_pending}
use Rattle.laws.specs.Fits.{LowAll}
use Rattle.plan_laws.specs.Lists.{Every, every_own, member_any}
use Rattle.plan_laws.specs.Named.{same_self}
use Rattle.plan_laws.specs.Chain.{Stands}
use Rattle.plan_laws.specs.Drafts.{swept_every}
use Rattle.plan_laws.specs.Cases.{made, the_batch, the_step, Plan, unasked, no_room, room, named_window, named_gone, rewind_queue}
use Rattle.plan_laws.specs.Nexts.{from_ge, from_low}
use Rattle.plan_laws.specs.Entries.{plan_few, plan_spends, plan_where}

-- ---- the sweep

expire_settings : (now : ℕ) (w : Window) → (expire_pending now w).window.settings ≡ w.settings
unfolding expire_pending extract
expire_settings now w = refl

-- on any window, sound or not
expire_picks : (now : ℕ) (w : Window) → Picks (expire_pending now w).gone w.queue.pending (expire_pending now w).window.queue.pending
unfolding expire_pending extract
expire_picks now w =
    let q = w.queue in
    let goes = sweep_reason now (effective_owner_timeout (active w) w) w in
    let gs = gone goes q.pending in
    rw (resets_pending now gs (queue (total_after gs q.total) (kept goes q.pending) q.starts q.bodies)) (sift goes q.pending)

-- an entry that went just now, at its height
unfoldable pub was_swept : List Release → Ask → Bool
was_swept gs a = any (λ g. same g.entry.hash a.hash && eqb g.entry.height a.height) gs

swept_self : (gs : List Release) (g : Release) → Memᴰ g gs → was_swept gs (ask g.entry.hash g.entry.height) ≡ true
unfolding was_swept
swept_self gs g m =
    member_any (λ (x : Release). same x.entry.hash g.entry.hash && eqb x.entry.height g.entry.height) g gs m
    (and_so (same_self g.entry.hash) (eq-eqb g.entry.height g.entry.height refl))

-- ---- the limits of the batch

pub record Within (n source : ℕ) (w : Window) : Type 0 where
  pub batch : n ≤ w.settings.getdata_batch_limit
  pub blocks : n ≤ w.settings.max_pending_blocks - length w.queue.pending
  pub peer : n ≤ effective_peer_inflight w - pending_count_for source w.queue.pending

batch_within : (source n : ℕ) (w : Window) → Within (batch_limit source n w) source w
unfolding batch_limit
batch_within source n w =
    let a = w.settings.getdata_batch_limit in
    let b = effective_peer_inflight w - pending_count_for source w.queue.pending in
    let c = w.settings.max_pending_blocks - length w.queue.pending in
    let d = lesser_le_first (lesser a b) (lesser c n) in
    record {
      batch = omega (arith, lesser_le_first a b);
      blocks = omega (arith, lesser_le_second (lesser a b) (lesser c n), lesser_le_first c n);
      peer = omega (arith, lesser_le_second a b);
    }

-- ---- a plan

module _ (source : ℕ) (l : Lent) (now : ℕ) (w : Window) where
  pub plan_picks : {P : Proposal} → Plan source l now w P → Picks P.gone w.queue.pending P.window.queue.pending
  plan_picks unasked = done
  plan_picks no_room = expire_picks now w
  plan_picks (room (made {asks} {next} f)) =
      let t = the_step source l now w in
      rw (named_window t next asks, named_gone t next asks, rewind_queue l (expire_pending now w).window) (expire_picks now w)

  -- the queue as the sweep left it, settings, fan-out and mean as they were: so are the limits
  swept_limits : (queue : Queue) → queue ≡ (expire_pending now w).window.queue → Within (the_batch source l now w) source (with_queue queue w)
  unfolding expire_pending extract effective_peer_inflight
  swept_limits queue e = let k = batch_within source l.count (expire_pending now w).window in rw e (record { batch = k.batch; blocks = k.blocks; peer = k.peer })

  fewer : (n : ℕ) (v : Window) → n ≤ the_batch source l now w → Within (the_batch source l now w) source v → Within n source v
  fewer n v b k = record { batch = omega (arith, k.batch); blocks = omega (arith, k.blocks); peer = omega (arith, k.peer) }

  pub plan_within : {P : Proposal} → Plan source l now w P → Within (length P.asks) source (with_queue P.window.queue w)
  plan_within unasked = record { batch = omega arith; blocks = omega arith; peer = omega arith }
  plan_within no_room = record { batch = omega arith; blocks = omega arith; peer = omega arith }
  plan_within (room (made {asks} {next} f)) =
      let t = the_step source l now w in
      let q = ap (λ (v : Window). v.queue) (named_window t next asks) ∙ rewind_queue l (expire_pending now w).window in
      let P = non_empty_request t asks next in
      fewer (length P.asks) (with_queue P.window.queue w) (plan_few source l now w (room (made f))) (swept_limits P.window.queue q)

  expire_mean : (expire_pending now w).window.mean ≡ w.mean
  unfolding expire_pending extract
  expire_mean = refl

  pub plan_bytes : {P : Proposal} → Plan source l now w P → length P.asks * w.mean ≤ w.settings.max_pending_bytes - P.window.queue.total
  unfolding byte_capacity
  plan_bytes unasked = omega (arith, zero-mul w.mean)
  plan_bytes no_room = omega (arith, zero-mul w.mean)
  plan_bytes (room (made {asks} {next} f)) =
      let v = (expire_pending now w).window in
      let t = the_step source l now w in
      let q = ap (λ (x : Window). x.queue.total) (named_window t next asks) ∙ ap (λ (x : Queue). x.total) (rewind_queue l v) in
      let b = ap (λ (x : Settings). x.max_pending_bytes) (expire_settings now w) in
      let spends = plan_spends source l now w (room (made f)) in
      let spends_so : length (non_empty_request t asks next).asks * w.mean ≤ lesser (v.settings.max_pending_bytes - v.queue.total) l.bytes =
      subst (λ (m : ℕ). length (non_empty_request t asks next).asks * m ≤ lesser (v.settings.max_pending_bytes - v.queue.total) l.bytes) expire_mean spends in
      omega (arith, lesser_le_first (v.settings.max_pending_bytes - v.queue.total) l.bytes)

  -- every entry went just now, or stands on the chain
  pub plan_source : {P : Proposal} → Plan source l now w P
      → Every (λ a. (was_swept P.gone a ≡ true) ⊎ Stands (hashes_in l.chain) l.floor (lesser l.tip l.best) a) P.asks
  plan_source unasked = tt
  plan_source no_room = tt
  plan_source (room (made {asks} {next} f)) =
      let t = the_step source l now w in
      let gs = (expire_pending now w).gone in
      let Q : Ask → Type 0 = λ a. (was_swept gs a ≡ true) ⊎ Stands (hashes_in l.chain) l.floor (lesser l.tip l.best) a in
      rw (named_gone t next asks) (plan_where source l now w Q (swept_every Q gs (every_own (λ (g : Release). Q (ask g.entry.hash g.entry.height)) gs (λ g m. inl (swept_self gs g m)))) (λ a k. inr k) (room (made f)))

  -- where there is a request, both parts of the sweep stand, rewound
  pub plan_left : {P : Proposal} → Plan source l now w P → is_empty P.asks ≡ false
      → (P.window ≡ maybe_rewind_request_frontier l (expire_pending now w).window) × (P.gone ≡ (expire_pending now w).gone)
  plan_left unasked e = absurd (true≢false e)
  plan_left no_room e = absurd (true≢false e)
  plan_left (room (made {asks} {next} f)) e = let t = the_step source l now w in (named_window t next asks, named_gone t next asks)

  pub plan_ge : {P : Proposal} → Plan source l now w P → is_empty P.asks ≡ false → P.window.frontier ≤ P.next
  unfolding scan_of non_empty_request
  plan_ge unasked e = absurd (true≢false e)
  plan_ge no_room e = absurd (true≢false e)
  plan_ge (room (made {asks = []} {next} f)) e = absurd (true≢false e)
  plan_ge (room (made {asks = a ∷ asks} {next} f)) e = from_ge refl f

  pub plan_low : {P : Proposal} → Plan source l now w P → P.window.frontier ≤ max_height → P.next ≤ max_height
  unfolding scan_of non_empty_request
  plan_low unasked b = omega arith
  plan_low no_room b = omega arith
  plan_low (room (made {asks = []} {next} f)) b = omega arith
  plan_low (room (made {asks = a ∷ asks} {next} f)) b = from_low b b f

-- ---- it is marked

pub marked_frontier : (asks : List Ask) (owner next now : ℕ) (v : Window) → v.frontier ≤ next → (mark_requested asks owner next now v).frontier ≡ next
unfolding mark_requested noted
marked_frontier asks owner next now v b = elim (both (is_empty v.queue.pending && not (is_empty asks))) [
  | inl q ↦ rw q (greater_second v.frontier next b)
  | inr q ↦ rw q (greater_second v.frontier next b)
]

-- ---- it is handed on in two lists

pub asks_back : (asks : List Ask) → asks_in (ask_hashes asks) (ask_heights asks) ≡ asks
unfolding asks_in ask_hashes ask_heights
asks_back [] = refl
asks_back (a ∷ asks) = ap (λ (r : List Ask). a ∷ r) (asks_back asks)

pub heights_low : (asks : List Ask) → Every (λ a. a.height ≤ max_height) asks → LowAll (ask_heights asks)
unfolding ask_heights
heights_low [] p = tt
heights_low (a ∷ asks) p = (p.0, heights_low asks p.1)

-- A request after the sweep: what the code asks and gives there, and the laws of its cases. Assumes nothing.
use Rattle.std.specs.Prelude.{◌≡◌, Bool, true, false, ◌||◌, ℕ, suc, ◌-◌, ◌*◌, ◌≤◌, length, eqb, ltb, None}
use Rattle.std.proofs.Math.Path.{refl, sym, subst}
use Rattle.std.proofs.Common.{ap, ◌∙◌, arith}
use Rattle.std.proofs.Math.Bool.{cond}
use mathlib.Core.List.{List, []}
use Rattle.model.specs.Numbers.{lesser}
use Rattle.model.specs.Window.{Window, Step, stay}
use Rattle.model.specs.Layout.{window_of, settings_ok}
use Rattle.model.specs.Records.{pending_count_for}
use Rattle.model.specs.Capacity.{Capacity, no_capacity, capacity, batch_limit, byte_capacity, effective_peer_inflight, compute_request_capacity}
use Rattle.model.specs.Time.{peer_has_expired_pending}
use Rattle.model.specs.Cooling.{peer_in_staller_cooldown}
use Rattle.model.specs.LettingGo.{expire_pending}
use Rattle.model.specs.Planning.{Lent, Proposal, no_request, request_by, request_after, next_peer_request_allowing_retry, next_peer_request, ask_hashes, ask_heights, written}
use Rattle.model.specs.Says.{request_values}
use Rattle.model.specs.declared.Release.{Release}
use Rattle.model.specs.declared.NextRequest.{NextRequest}
use Rattle.laws.specs.Numbers.{lesser_le_first, lesser_le_second}
use Rattle.laws.specs.Every.{blocks_le}
use Rattle.laws.specs.Sound.{Sound}
use Rattle.laws.specs.Whole.{Whole, Holds, holds_whole}
use Rattle.laws.proofs.Lets.{expire_lets}
use Rattle.report_words.specs.Report.{releases_of}
use Rattle.batch.specs.Resets.{Went}
use Rattle.swept_order.specs.Keys.{low_height, swept_heights}
use Rattle.planning.specs.Proposes.{lent, Ready, Proposes}

-- ---- what the code asks and gives

abbrev pub step : Window → List Release → Step
step w gs = record { window = w; gone = gs }

-- words that were swept, at some clock: n releases stand in `gone`
pub record Swept (n : ℕ) (ws gone hs ts : List ℕ) (l : Lent) : Type 0 where
  pub clock : ℕ
  pub whole : Whole ws
  pub sound : Sound clock (window_of ws)
  pub few : n ≤ 256
  pub long : length gone ≡ 2304
  pub low : Went low_height (releases_of n gone)
  pub hashes : 1024 ≤ length hs
  pub heights : 256 ≤ length ts
  pub reaches : length l.chain ≡ 4 * suc l.tip

-- the same lists and heights, whatever else is said of the window's room
abbrev pub with_room : Lent → Bool → ℕ → ℕ → Lent
with_room l exhausted bytes count = lent l.chain l.tip l.start l.best l.floor l.staged l.refused exhausted bytes count

-- the proposal of a capacity for `batch` entries of `bytes` in all; what else is said of the window's room is not read
abbrev pub Requests : ℕ → List ℕ → List ℕ → Lent → ℕ → ℕ → NextRequest → List ℕ → List ℕ → List ℕ → List ℕ → List ℕ → Type 0
Requests n ws gone l batch bytes r ws' hashes hashes' heights heights' =
    (exhausted : Bool) (byte_headroom count_headroom : ℕ)
    → Proposes (request_by (capacity batch bytes) (with_room l exhausted byte_headroom count_headroom) (step (window_of ws) (releases_of n gone))) r
    ws' gone hashes hashes' heights heights'

-- the proposal of what capacity there is
abbrev pub RequestsAfter : ℕ → ℕ → List ℕ → List ℕ → Lent → NextRequest → List ℕ → List ℕ → List ℕ → List ℕ → List ℕ → Type 0
RequestsAfter source n ws gone l r ws' hashes hashes' heights heights' =
    (exhausted : Bool)
    → Proposes (request_after source (with_room l exhausted l.bytes l.count) (step (window_of ws) (releases_of n gone))) r
    ws' gone hashes hashes' heights heights'

-- ---- nothing is planned

pub none_planned : (n : ℕ) (gs : List Release) (ws gone hashes heights : List ℕ) → n ≤ 256 → releases_of n gone ≡ gs → Whole ws
    → (r : NextRequest) → (r.places ≡ n) × (r.request ≡ None)
    → Proposes (no_request (step (window_of ws) gs)) r ws gone hashes hashes heights heights
unfolding ask_hashes ask_heights written
none_planned n gs ws gone hashes heights few e h r q =
    (omega (arith, q.0), holds_whole ws h, ap (λ (k : ℕ). releases_of k gone) q.0 ∙ e, refl, refl, ap request_values q.1)

-- ---- the capacity

limit_few : (source count_headroom : ℕ) (w : Window) → settings_ok w.settings ≡ true → batch_limit source count_headroom w ≤ 256
unfolding batch_limit
limit_few source count_headroom w ok =
    let b = w.settings in
    let a = lesser b.getdata_batch_limit (effective_peer_inflight w - pending_count_for source w.queue.pending) in
    let blocks = b.max_pending_blocks - length w.queue.pending in
    omega (arith, lesser_le_second a (lesser blocks count_headroom), lesser_le_first blocks count_headroom, blocks_le b ok)

-- the batch that a capacity is for, 0 for none
abbrev batch_of : Capacity → ℕ
batch_of no_capacity = 0
batch_of (capacity batch bytes) = batch

some_by : (none : Bool) (k y batch bytes : ℕ) → capacity batch bytes ≡ cond none no_capacity (capacity k y) → batch ≤ k
some_by true k y batch bytes e = omega (arith, ap batch_of e)
some_by false k y batch bytes e = omega (arith, ap batch_of e)

-- a batch has no more entries than a window has places
pub batch_few : (source byte_headroom count_headroom batch bytes : ℕ) (w : Window) → settings_ok w.settings ≡ true
    → capacity batch bytes ≡ compute_request_capacity source byte_headroom count_headroom w → batch ≤ 256
unfolding compute_request_capacity
batch_few source byte_headroom count_headroom batch bytes w ok e =
    let k = batch_limit source count_headroom w in
    let y = byte_capacity byte_headroom w in
    let q = some_by (eqb k 0 || ltb y w.mean) k y batch bytes e in
    omega (arith, q, limit_few source count_headroom w ok)

module _ (source n : ℕ) (ws gone : List ℕ) (l : Lent) (r : NextRequest) (ws' hashes hashes' heights heights' : List ℕ) where
  abbrev swept : Step
  swept = step (window_of ws) (releases_of n gone)

  abbrev lends : Bool → Lent
  lends exhausted = with_room l exhausted l.bytes l.count

  after_by : (k : Capacity) → k ≡ compute_request_capacity source l.bytes l.count (window_of ws)
      → ((exhausted : Bool) → Proposes (request_by k (lends exhausted) swept) r ws' gone hashes hashes' heights heights')
      → RequestsAfter source n ws gone l r ws' hashes hashes' heights heights'
  unfolding request_after
  after_by k e h = λ exhausted. subst (λ (x : Capacity). Proposes (request_by x (lends exhausted) swept) r ws' gone hashes hashes' heights heights') e (h exhausted)

  pub after_some : (batch bytes : ℕ) → capacity batch bytes ≡ compute_request_capacity source l.bytes l.count (window_of ws)
      → Requests n ws gone l batch bytes r ws' hashes hashes' heights heights'
      → RequestsAfter source n ws gone l r ws' hashes hashes' heights heights'
  after_some batch bytes e h = after_by (capacity batch bytes) e (λ exhausted. h exhausted l.bytes l.count)

  pub after_none : no_capacity ≡ compute_request_capacity source l.bytes l.count (window_of ws)
      → Proposes (no_request swept) r ws' gone hashes hashes' heights heights'
      → RequestsAfter source n ws gone l r ws' hashes hashes' heights heights'
  after_none e h = after_by no_capacity e (λ exhausted. h)

-- ---- the sweep

module _ (source clock n : ℕ) (ws ws₁ gone : List ℕ) (e : Holds (expire_pending clock (window_of ws)).window ws₁) (q : releases_of n gone ≡ (expire_pending clock (window_of ws)).gone) where
  pub swept_sound : (hs ts old : List ℕ) (l : Lent) → Ready clock source ws old hs ts l → n ≤ 256 → length gone ≡ length old → Swept n ws₁ gone hs ts l
  swept_sound hs ts old l p few long = record {
    clock = clock;
    whole = e.whole;
    sound = subst (Sound clock) (sym e.is) (expire_lets p.1).sound;
    few = few;
    long = long ∙ p.2;
    low = subst (Went low_height) (sym q) (swept_heights p.1);
    hashes = p.3;
    heights = p.4;
    reaches = p.5;
  }

  module _ (l : Lent) (x : l.exhausted ≡ false) where
    retry_swept : request_after source l (step (window_of ws₁) (releases_of n gone)) ≡ next_peer_request_allowing_retry source l clock (window_of ws)
    unfolding next_peer_request_allowing_retry
    retry_swept =
        (λ i. request_after source l (step (e.is i) (q i)))
        ∙ sym (ap (λ (b : Bool). cond b (no_request (stay (window_of ws))) (request_after source l (expire_pending clock (window_of ws)))) x)

    pub retry_planned : (r : NextRequest) (ws₂ hs hs' ts ts' : List ℕ) → Proposes (request_after source l (step (window_of ws₁) (releases_of n gone))) r ws₂ gone hs hs' ts ts'
        → Proposes (next_peer_request_allowing_retry source l clock (window_of ws)) r ws₂ gone hs hs' ts ts'
    retry_planned r ws₂ hs hs' ts ts' h = subst (λ (p : Proposal). Proposes p r ws₂ gone hs hs' ts ts') retry_swept h

-- ---- the cases

module _ (source clock : ℕ) (l : Lent) (ws gone hs ts : List ℕ) (g : Whole ws) where
  abbrev w : Window
  w = window_of ws

  -- an answer that says nothing
  abbrev pub SaysNone : NextRequest → Type 0
  SaysNone r = (r.places ≡ 0) × (r.request ≡ None)

  -- the proposal that is made of nothing
  none_by : (p : Proposal) (r : NextRequest) → SaysNone r → no_request (stay w) ≡ p → Proposes p r ws gone hs hs ts ts
  unfolding releases_of
  none_by p r q e = subst (λ (x : Proposal). Proposes x r ws gone hs hs ts ts) e (none_planned 0 [] ws gone hs ts (omega arith) refl g r q)

  pub retry_exhausted : (r : NextRequest) → SaysNone r → l.exhausted ≡ true → Proposes (next_peer_request_allowing_retry source l clock w) r ws gone hs hs ts ts
  unfolding next_peer_request_allowing_retry
  retry_exhausted r q x =
      none_by (next_peer_request_allowing_retry source l clock w) r q (sym (ap (λ (b : Bool). cond b (no_request (stay w)) (request_after source l (expire_pending clock w))) x))

  -- by whether the peer is expired, and whether it is cooling
  by_peer : (a b : Bool) → a ≡ peer_has_expired_pending source clock w → b ≡ peer_in_staller_cooldown source clock w
      → cond (a || b) (no_request (stay w)) (next_peer_request_allowing_retry source l clock w) ≡ next_peer_request source l clock w
  unfolding next_peer_request
  by_peer a b x y = λ i. cond (x i || y i) (no_request (stay w)) (next_peer_request_allowing_retry source l clock w)

  pub request_expired : (r : NextRequest) → SaysNone r → (a : Bool) → a ≡ peer_has_expired_pending source clock w → a ≡ true
      → Proposes (next_peer_request source l clock w) r ws gone hs hs ts ts
  request_expired r q a x t = none_by (next_peer_request source l clock w) r q (by_peer true (peer_in_staller_cooldown source clock w) (sym t ∙ x) refl)

  module _ (a b : Bool) (x : a ≡ peer_has_expired_pending source clock w) (y : b ≡ peer_in_staller_cooldown source clock w) (f : a ≡ false) where
    pub request_cooling : (r : NextRequest) → SaysNone r → b ≡ true → Proposes (next_peer_request source l clock w) r ws gone hs hs ts ts
    request_cooling r q t = none_by (next_peer_request source l clock w) r q (by_peer false true (sym f ∙ x) (sym t ∙ y))

    pub request_free : b ≡ false → next_peer_request_allowing_retry source l clock w ≡ next_peer_request source l clock w
    request_free t = by_peer false false (sym f ∙ x) (sym t ∙ y)

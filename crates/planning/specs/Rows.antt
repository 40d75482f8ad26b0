-- The plan over swept words, step by step: what each asks of those before it, and that they come to the proposal. Assumes nothing.
use Rattle.std.specs.Prelude.{◌≡◌, Bool, true, false, cond, ◌&&◌, List, ℕ, ◌≤◌, ◌<◌, length, leb, None, Option}
use Rattle.std.proofs.Math.Path.{refl}
use Rattle.std.proofs.Common.{sym, ap, subst, ◌∙◌, arith}
use Rattle.std.proofs.Math.Dec.{ltb}
use Rattle.model.specs.Numbers.{max_height}
use Rattle.model.specs.Window.{Window, Step, after}
use Rattle.model.specs.Layout.{window_of}
use Rattle.model.specs.Races.{is_empty}
use Rattle.model.specs.Calls.{Ask}
use Rattle.model.specs.Planning.{Lent, Scan, Draft, Proposal, no_request, non_empty_request, held_back, maybe_rewind_request_frontier, is_clean, clean_contiguous_peer_request, extend_request_by_reverse_scan, expired_request_entries, swept_asks, scan_of, request_from}
use Rattle.model.specs.declared.Request.{Request}
use Rattle.laws.specs.Sound.{Sound}
use Rattle.laws.specs.Whole.{Holds, sound_rises}
use Rattle.report_words.specs.Report.{releases_of}
use Rattle.listed.specs.Index.{Empty}
use Rattle.retries.specs.Retries.{retries, retries_are, Lends, Drafted}
use Rattle.plan_look.specs.Steps.{Asked, Rewinds, rewound_sound}
use Rattle.plan_scan.specs.declared.RequestScan.{RequestScan}
use Rattle.plan_scan.specs.Proposes.{plannable}
use Rattle.plan_scan.specs.Promises.{scan_says, scan_at, scan_of_is, Plannable, Planned}
use Rattle.plan_scan.specs.Promises as scan
use Rattle.planning.specs.Swept.{step, with_room, Swept, Requests}

-- ---- a request leaves the step that it is made in

module _ (t : Step) where
  abbrev Leaves : Proposal → Type 0
  Leaves p = step p.window p.gone ≡ t

  either : (b : Bool) (p q : Proposal) → Leaves p → Leaves q → Leaves (cond b p q)
  either true p q h k = h
  either false p q h k = k

  request_leaves : (asks : List Ask) (next : ℕ) → Leaves (non_empty_request t asks next)
  unfolding non_empty_request
  request_leaves asks next = either (is_empty asks) (no_request t) (record { window = t.window; gone = t.gone; asks = asks; next = next }) refl refl

  from_leaves : (l : Lent) (s : Scan) (d : Draft) → Leaves (request_from l t s d)
  unfolding request_from clean_contiguous_peer_request extend_request_by_reverse_scan
  from_leaves l s d =
      let made = clean_contiguous_peer_request l t s in
      let extended = extend_request_by_reverse_scan l t s d in
      either (leb s.height s.tip && ltb 0 s.limit) (cond (is_clean l t.window s d) made extended)
      (non_empty_request t d.asks (held_back d.low t.window.frontier s.next))
      (either (is_clean l t.window s d) made extended (request_leaves _ _) (request_leaves _ _)) (request_leaves d.asks _)

-- ---- the steps

module _ {n : ℕ} {ws gone hs ts : List ℕ} {l : Lent} (g : Swept n ws gone hs ts l) (batch bytes : ℕ) (few : batch ≤ 256) where
  pub lends : (index : List ℕ) → Empty index → Lends ws gone hs ts index n batch
  lends index e = record {
    whole = g.whole;
    rises = sound_rises g.clock (window_of ws) g.sound;
    long = g.long;
    few = g.few;
    low = g.low;
    hashes = omega (arith, g.hashes);
    heights = omega (arith, g.heights);
    index = e hs;
  }

  pub asked : Asked ws
  asked = record { whole = g.whole; rises = sound_rises g.clock (window_of ws) g.sound }

  -- the lists that an index was made of are those that are lent
  module _ (ws₁ staged refused : List ℕ) (es : staged ≡ l.staged) (er : refused ≡ l.refused) (w : Rewinds l.chain staged l.start ws ws₁) where
    -- the window is rewound, whatever else is lent
    at : (exhausted : Bool) (byte_headroom count_headroom : ℕ) → Holds (maybe_rewind_request_frontier (with_room l exhausted byte_headroom count_headroom) (window_of ws)) ws₁
    at exhausted byte_headroom count_headroom = w (with_room l exhausted byte_headroom count_headroom) refl (sym es) refl

    sound₁ : Sound g.clock (window_of ws₁)
    sound₁ = subst (Sound g.clock) (sym (w l refl (sym es) refl).is) (rewound_sound l g.sound)

    pub has_mean : (length ws₁ ≡ 4096) × (0 < (window_of ws₁).mean)
    has_mean = ((w l refl (sym es) refl).whole.long, omega (arith, sound₁.mean_least))

    pub asked_again : Asked ws₁
    asked_again = record { whole = (w l refl (sym es) refl).whole; rises = sound_rises g.clock (window_of ws₁) sound₁ }

    module _ (hs₁ ts₁ index : List ℕ) (count left : ℕ) (low : Option ℕ) (d : Drafted (retries staged refused l.floor ws n gone batch bytes) batch hs ts hs₁ ts₁ index count left low)
        (s : RequestScan) (e : scan_says s ≡ scan_at l.tip l.start l.best l.floor batch count left (window_of ws₁)) where
      pub scannable : length hs₁ ≡ length hs → length ts₁ ≡ length ts → s.tip ≤ max_height → Plannable ws₁ l.chain hs₁ ts₁ index s count
      scannable lh lt top =
          plannable ws₁ l.chain hs₁ ts₁ index s l.tip l.start l.best l.floor batch count left e (omega (arith, g.reaches)) top few (omega (arith, d.few))
          d.index (omega (arith, g.hashes)) (omega (arith, g.heights))

      module _ (hs₂ ts₂ : List ℕ) (r : Option Request) (p : scan.Proposes l.chain staged refused (window_of ws₁) hs₁ ts₁ s count low hs₂ ts₂ r) where
        pub requests : Requests n ws gone l batch bytes (record { places = n; request = r }) ws₁ hs hs₂ ts ts₂
        requests exhausted byte_headroom count_headroom =
            let o = with_room l exhausted byte_headroom count_headroom in
            let w₀ = window_of ws in
            let h = at exhausted byte_headroom count_headroom in
            let t = after (step w₀ (releases_of n gone)) (maybe_rewind_request_frontier o) in
            let q = expired_request_entries o w₀ (swept_asks (releases_of n gone)) batch bytes None in
            let b = subst (λ (x : Draft). Drafted x batch hs ts hs₁ ts₁ index count left low) ((λ i. retries (es i) (er i) l.floor ws n gone batch bytes) ∙ retries_are o ws n gone batch bytes) d in
            let scans : scan_says s ≡ scan_of o t.window batch q = e ∙ (λ i. scan_at l.tip l.start l.best l.floor batch (b.count i) (b.bytes i) (h.is i)) ∙ sym (scan_of_is o t.window batch q) in
            let m : Planned (request_from o t (scan_of o t.window batch q) q) hs ts hs₂ ts₂ r =
            subst (λ (x : Scan). Planned (request_from o t x q) hs ts hs₂ ts₂ r) scans (p o t q hs ts (record {
              chain_is = refl;
              staged_is = sym es;
              refused_is = sym er;
              window = sym h.is;
              count = b.count;
              low = sym b.low;
              hashes = b.hashes;
              heights = b.heights;
            })) in
            let leaves = from_leaves t o (scan_of o t.window batch q) q in (
              g.few,
              subst (λ (v : Window). Holds v ws₁) (sym (ap (λ (x : Step). x.window) leaves)) h,
              sym (ap (λ (x : Step). x.gone) leaves),
              m.hashes,
              m.heights,
              m.values,
            )

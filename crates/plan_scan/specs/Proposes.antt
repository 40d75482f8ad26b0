-- `request_from` by what the code answers. Assumes nothing.
use Rattle.std.specs.Prelude.{◌≡◌, refl, Bool, true, false, cond, not, ◌&&◌, List, [], ◌∷◌, ℕ, zero, suc, ◌+◌, ◌*◌, ◌-◌, ◌/◌, ◌≤◌, ◌<◌, length, eqb, ltb, leb, None, Option}
use Rattle.std.proofs.Common.{sym, ap, subst, ◌∙◌, inl, inr, arith, eq-eqb, ne_eqb, eqb-true, leb-true, ltb-true}
use Rattle.std.proofs.lemmas.Bool.{eqb-false, not-false}
use Rattle.model.specs.Numbers.{lesser, greater, next_height, max_height}
use Rattle.model.specs.Hash.{hashes_in}
use Rattle.model.specs.Window.{Window, Step}
use Rattle.model.specs.Layout.{window_of}
use Rattle.model.specs.Calls.{Ask}
use Rattle.model.specs.Planning.{Lent, Scan, Draft, Proposal, held_back, non_empty_request, contiguous_request_entries, reach, request_from, ask_hashes, ask_heights, written}
use Rattle.model.specs.Perform.{plan_values}
use Rattle.model.specs.Says.{request_values}
use Rattle.model.specs.declared.Request.{Request}
use Rattle.laws.specs.Numbers.{both, and_left, and_right, lesser_le_first, lesser_le_second, second_le_greater}
use Rattle.listed.specs.Index.{Indexed}
use Rattle.listed.specs.Search.{length_hashes}
use Rattle.plan_scan.specs.declared.RequestScan.{RequestScan}
use Rattle.plan_scan.specs.declared.Scanning.{Scanning}
use Rattle.plan_look.specs.Scan.{Scanned, scanned, scan_over}
use Rattle.plan_scan.specs.Notes.{greater_max, held_twice}
use Rattle.plan_scan.specs.Request.{is_unknown, ended, next_from, met_none, last_height, scan_end, is_met_none, request_scanned, request_over}
use Rattle.plan_look.specs.Plan.{Drawn}
use Rattle.plan_scan.specs.Promises.{Scannable, Scans, plan_numbers, scan_says, scan_at, Plannable, Given, Planned, Proposes}

-- what the code answers, of n asks
abbrev pub Answers : ℕ → ℕ → Option Request → Type 0
Answers n next r = request_values r ≡ plan_numbers n next

-- ---- a request that is not empty, or none

numbers_are : (asks : List Ask) (next : ℕ) → plan_numbers (length asks) next ≡ plan_values asks next
unfolding plan_numbers
numbers_are [] next = refl
numbers_are (a ∷ asks) next = refl

planned_some : (t : Step) (asks : List Ask) (next : ℕ) (hs₀ ts₀ hs ts : List ℕ) (r : Option Request) → request_values r ≡ plan_values asks next
    → hs ≡ written (ask_hashes asks) hs₀ → ts ≡ written (ask_heights asks) ts₀ → Planned (non_empty_request t asks next) hs₀ ts₀ hs ts r
unfolding non_empty_request
planned_some t [] next hs₀ ts₀ hs ts r e h k = record { values = e; hashes = h; heights = k }
planned_some t (a ∷ asks) next hs₀ ts₀ hs ts r e h k = record { values = e; hashes = h; heights = k }

planned : (p : Proposal) (t : Step) (asks : List Ask) (next m n : ℕ) (hs₀ ts₀ hs ts : List ℕ) (r : Option Request) → p ≡ non_empty_request t asks next → n ≡ length asks → m ≡ next → Answers n m r
    → hs ≡ written (ask_hashes asks) hs₀ → ts ≡ written (ask_heights asks) ts₀ → Planned p hs₀ ts₀ hs ts r
planned p t asks next m n hs₀ ts₀ hs ts r is c q a h k =
    subst (λ (x : Proposal). Planned x hs₀ ts₀ hs ts r) (sym is)
    (planned_some t asks next hs₀ ts₀ hs ts r (a ∙ (λ i. plan_numbers (c i) (q i)) ∙ numbers_are asks next) h k)

pub answers_none : (n next : ℕ) → n ≡ 0 → [] ≡ plan_numbers n next
unfolding plan_numbers
answers_none n next z = rw z

pub answers_some : (n next : ℕ) → (n ≡ 0 → ⊥) → n ∷ next ∷ [] ≡ plan_numbers n next
unfolding plan_numbers
answers_some zero next h = absurd (h refl)
answers_some (suc n) next h = refl

-- ---- nothing to scan

pub proposes_over : (chain staged refused : List ℕ) (w : Window) (hs ts : List ℕ) (s : RequestScan) (count : ℕ) (low : Option ℕ) (next : ℕ) (r : Option Request)
    → s.next ≡ w.frontier → (leb s.height s.tip && ltb 0 s.limit) ≡ false → next ≡ held_back low s.next s.next → Answers count next r
    → Proposes chain staged refused w hs ts s count low hs ts r
proposes_over chain staged refused w hs ts s count low next r f b e a = λ l t d hs₀ ts₀ g.
    planned (request_from l t (scan_says s) d) t d.asks _ next count hs₀ ts₀ hs ts r (request_over l t (scan_says s) d b) g.count
    (e ∙ (λ i. held_back (sym g.low i) ((f ∙ sym (ap (λ (v : Window). v.frontier) g.window)) i) s.next)) a g.hashes g.heights

-- ---- a scan

pub scans_both : (height tip limit : ℕ) (r : Bool) → r ≡ (leb height tip && ltb 0 limit) → not r ≡ false → (height ≤ tip) × (0 < limit)
scans_both height tip limit r e n =
    let t : (leb height tip && ltb 0 limit) ≡ true = sym e ∙ not-false r n in
    (leb-true height tip (and_left (leb height tip) (ltb 0 limit) t), ltb-true 0 limit (and_right (leb height tip) (ltb 0 limit) t))

-- what the scan's loop asks, of a last height that is no higher than the tip
pub scannable : (ws chain hs ts index : List ℕ) (s : RequestScan) (count last end : ℕ) → Plannable ws chain hs ts index s count → last ≡ lesser end s.tip
    → Scannable chain hs ts index last count (count + s.limit)
scannable ws chain hs ts index s count last end p e =
    let b : last ≤ s.tip = omega (arith, e, lesser_le_second end s.tip) in
    record {
      reaches = omega (arith, p.reaches, b);
      top = omega (arith, p.top, b);
      plan = p.plan;
      more = omega arith;
      few = p.room;
      hashes = p.hashes;
      heights = p.heights;
    }

full_is : (n left full : ℕ) → n + left ≡ full → eqb n full ≡ eqb left 0
full_is n left full e = elim (both (eqb left 0)) [
  | inl q ↦ eq-eqb n full (omega (arith, eqb-true left 0 q)) ∙ sym q
  | inr q ↦ ne_eqb n full (λ z. eqb-false left 0 q (omega (arith, z))) ∙ sym q
]

-- the code's next height is the definition's
next_is : (s : Scan) (last : ℕ) (low : Option ℕ) (x : Scanned) (taken pending staged full n : ℕ) (first : Option ℕ) (next : ℕ)
    → n + x.left ≡ full → first ≡ x.first → next ≡ x.next
    → cond (eqb taken 0 && (eqb pending 0 && (eqb staged 0 && is_unknown first))) (greater s.next (next_height last))
    (held_back first s.next (held_back low s.next (cond (eqb n full) next (greater next (next_height s.tip)))))
    ≡ next_from (met_none taken pending staged x.first) s last low x
next_is s last low x taken pending staged full n first next room p q =
    (λ i. cond (eqb taken 0 && (eqb pending 0 && (eqb staged 0 && is_unknown (p i)))) (greater s.next (next_height last))
    (held_back (p i) s.next (held_back low s.next (cond (full_is n x.left full room i) (q i) (greater (q i) (next_height s.tip))))))
    ∙ ap (cond (met_none taken pending staged x.first) (greater s.next (next_height last))) (held_twice low x.first s.next (ended s x))

module _ (chain staged refused : List ℕ) (w : Window) (hs ts hs' ts' : List ℕ) (s : RequestScan) (count : ℕ) (low : Option ℕ) (pending held last full : ℕ) (x : Scanning)
    (frontier : s.next ≡ w.frontier) (above : s.next ≤ s.height) (some : s.height ≤ s.tip) (wants : 0 < s.limit)
    (pending_is : pending ≡ length w.queue.pending) (held_is : held ≡ length staged / 4)
    (last_is : last ≡ lesser (s.height + (s.limit + (pending + (held + count)) - 1)) s.tip) (full_by : full ≡ count + s.limit)
    (scans : Scans w.queue.pending chain staged refused hs ts s.height last count full s.next hs' ts' x) where
  module _ (l : Lent) (t : Step) (d : Draft) (hs₀ ts₀ : List ℕ) (g : Given chain staged refused w hs ts count low l t d hs₀ ts₀) where
    abbrev end : Scanned
    end = scan_end l t (scan_says s) d

    pending_by : pending ≡ length t.window.queue.pending
    pending_by = pending_is ∙ sym (ap (λ (v : Window). length v.queue.pending) g.window)

    held_by : held ≡ length (hashes_in l.staged)
    held_by = held_is ∙ sym (ap (λ (z : List ℕ). length (hashes_in z)) g.staged_is ∙ length_hashes staged)

    last_by : last ≡ last_height l t (scan_says s) d
    unfolding reach
    last_by = last_is ∙ (λ i. lesser (s.height + (s.limit + (pending_by i + (held_by i + g.count i)) - 1)) s.tip)

    drawn : Drawn end hs₀ ts₀ full x.count x.first x.next hs' ts'
    drawn =
        let left : full - count ≡ s.limit = omega (arith, full_by) in
        subst (λ (z : Scanned). Drawn z hs₀ ts₀ full x.count x.first x.next hs' ts')
        (λ i. scan_over (sym g.window i).queue.pending (sym g.staged_is i) (sym g.refused_is i) (contiguous_request_entries s.height (last_by i) (sym g.chain_is i)) (scanned d.asks None s.next (left i)))
        (scans d.asks hs₀ ts₀ g.count g.hashes g.heights)

    requested : request_from l t (scan_says s) d ≡ non_empty_request t end.asks (next_from (is_met_none l t (scan_says s) d (ap (λ (v : Window). v.frontier) g.window ∙ sym frontier) above wants) (scan_says s) (last_height l t (scan_says s) d) d.low end)
    requested = request_scanned l t (scan_says s) d (ap (λ (v : Window). v.frontier) g.window ∙ sym frontier) above wants some

    module _ (clean full? : Bool) (clean_is : clean ≡ (eqb count 0 && (eqb pending 0 && (eqb held 0 && is_unknown x.first)))) (full_says : full? ≡ eqb x.count full) where
      next_by : cond clean (greater s.next (next_height last))
          (held_back x.first s.next (held_back low s.next (cond full? x.next (greater x.next (next_height s.tip)))))
          ≡ next_from (met_none (length d.asks) (length t.window.queue.pending) (length (hashes_in l.staged)) end.first) (scan_says s) (last_height l t (scan_says s) d) d.low end
      next_by =
          (λ i. cond ((clean_is ∙ (λ j. eqb (g.count j) 0 && (eqb (pending_by j) 0 && (eqb (held_by j) 0 && is_unknown x.first)))) i) (greater s.next (next_height (last_by i)))
          (held_back x.first s.next (held_back (sym g.low i) s.next (cond (full_says i) x.next (greater x.next (next_height s.tip))))))
          ∙ next_is (scan_says s) (last_height l t (scan_says s) d) d.low end (length d.asks) (length t.window.queue.pending) (length (hashes_in l.staged)) full x.count x.first x.next
          drawn.room drawn.first drawn.next

  pub proposes_scanned : (clean full? : Bool) → clean ≡ (eqb count 0 && (eqb pending 0 && (eqb held 0 && is_unknown x.first))) → full? ≡ eqb x.count full → (next : ℕ)
      → next ≡ cond clean (greater s.next (next_height last))
      (held_back x.first s.next (held_back low s.next (cond full? x.next (greater x.next (next_height s.tip)))))
      → (r : Option Request) → Answers x.count next r → Proposes chain staged refused w hs ts s count low hs' ts' r
  proposes_scanned clean full? c f next e r a = λ l t d hs₀ ts₀ g.
      let y = drawn l t d hs₀ ts₀ g in
      planned (request_from l t (scan_says s) d) t (scan_end l t (scan_says s) d).asks _ next x.count hs₀ ts₀ hs' ts' r (requested l t d hs₀ ts₀ g) y.count
      (e ∙ next_by l t d hs₀ ts₀ g clean full? c f) a y.hashes y.heights

-- ---- for callers: what `scan_of` answers is a scan that may be made

pub plannable : (ws chain hs ts index : List ℕ) (r : RequestScan) (tip start best floor batch count bytes : ℕ)
    → scan_says r ≡ scan_at tip start best floor batch count bytes (window_of ws) → 4 * suc tip ≤ length chain → r.tip ≤ max_height → batch ≤ 256 → count ≤ 256
    → Indexed count hs index → 1024 ≤ length hs → 256 ≤ length ts → Plannable ws chain hs ts index r count
plannable ws chain hs ts index r tip start best floor batch count bytes e long top few room plan h k =
    let f = (window_of ws).frontier in
    let height : r.height ≡ greater (greater start f) floor = ap (λ (s : Scan). s.height) e in
    let low : r.tip ≡ lesser tip best = ap (λ (s : Scan). s.tip) e in
    let limit : r.limit ≡ lesser (batch - count) (bytes / (window_of ws).mean) = ap (λ (s : Scan). s.limit) e in
    let next : r.next ≡ f = ap (λ (s : Scan). s.next) e in
    let below : r.tip ≤ tip = omega (arith, low, lesser_le_first tip best) in
    record {
      reaches = omega (arith, long, below);
      top = top;
      frontier = next;
      above = omega (arith, next, height, second_le_greater start f, greater_max (greater start f) floor);
      plan = plan;
      room = omega (arith, limit, lesser_le_first (batch - count) (bytes / (window_of ws).mean));
      hashes = h;
      heights = k;
    }

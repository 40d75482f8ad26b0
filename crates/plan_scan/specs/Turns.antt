-- The scan's loop: what holds at its head, its turn and its two ends. Assumes nothing.
use Rattle.std.specs.Prelude.{◌≡◌, refl, ℕ, zero, suc, ◌+◌, ◌*◌, ◌-◌, ◌≤◌, ◌<◌, length, take, get_or, None, Option}
use Rattle.std.proofs.Common.{sym, ◌∙◌, not-suc-le-zero, le_of_suc-le-suc, take-append-drop, take-suc, take_all, get_or-take}
use Rattle.std.proofs.Math.Path.{ap, subst}
use mathlib.Core.List.{List, [], ◌∷◌, ◌++◌}
use native.Mathlib.Omega.{arith}
use Rattle.std.proofs.Math.ListN.{drop, length-take, length-drop}
use Rattle.std.proofs.Math.Seq.{get_or-drop}
use Rattle.model.specs.Hash.{hash, hash_words, hashes_in}
use Rattle.model.specs.Calls.{Ask}
use Rattle.model.specs.Planning.{ask, names, heights_from, contiguous_request_entries, ask_hashes, ask_heights, written}
use Rattle.model.specs.declared.Hash.{Hash}
use Rattle.model.specs.declared.Entry.{Entry}
use Rattle.requests.specs.Asks.{hash_in}
use Rattle.listed.specs.Index.{Indexed}
use Rattle.listed.specs.Search.{length_hashes, hashes_at}
use Rattle.plan_look.specs.declared.Look.{Look}
use Rattle.plan_look.specs.Scan.{Scanned, scanned, passes, look_of, look, looked, scan_over, scan_append, scan_full}
use Rattle.plan_scan.specs.Request.{heights_length}
use Rattle.plan_look.specs.Plan.{count_after, first_after, next_past, words_after, Drawn, drawn_turn}
use Rattle.plan_scan.specs.Promises.{Scannable, Scans}

heights_at : (hs : List Hash) (n j : ℕ) (z : Ask) (g : Hash) → j < length hs → get_or (heights_from n hs) j z ≡ ask (get_or hs j g) (n + j)
unfolding heights_from
heights_at [] n j z g h = absurd (not-suc-le-zero h)
heights_at (x ∷ hs) n zero z g h = let e : n ≡ n + 0 = omega arith in ap (ask x) e
heights_at (x ∷ hs) n (suc j) z g h = let e : suc n + j ≡ n + suc j = omega arith in heights_at hs (suc n) j z g (le_of_suc-le-suc h) ∙ ap (ask (get_or hs j g)) e

module _ (chain : List ℕ) (from last : ℕ) (long : 4 * suc last ≤ length chain) where
  abbrev entries : List Ask
  entries = contiguous_request_entries from last chain

  entries_length : length entries ≡ suc last - from
  unfolding contiguous_request_entries
  entries_length =
      let hs = drop from (hashes_in chain) in
      heights_length from (take (suc last - from) hs) ∙ length-take (suc last - from) hs ∙ omega (arith, length-drop from (hashes_in chain), length_hashes chain)

  entries_at : (j : ℕ) (z : Ask) → from + j ≤ last → get_or entries j z ≡ ask (hash_in chain (4 * (from + j))) (from + j)
  unfolding contiguous_request_entries
  entries_at j z h =
      let g : Hash = hash 0 0 0 0 in
      let hs = drop from (hashes_in chain) in
      heights_at (take (suc last - from) hs) from j z g (omega (arith, length-take (suc last - from) hs, length-drop from (hashes_in chain), length_hashes chain))
      ∙ ap (λ (x : Hash). ask x (from + j)) (get_or-take (suc last - from) hs j g (omega arith) ∙ get_or-drop from (hashes_in chain) j g ∙ hashes_at chain (from + j) g (omega arith))

  -- one height more
  pub entries_more : (height : ℕ) → from ≤ height → height ≤ last → take (height + 1 - from) entries ≡ take (height - from) entries ++ (ask (hash_in chain (4 * height)) height ∷ [])
  entries_more height a b =
      let z : Ask = ask (hash 0 0 0 0) 0 in
      let j = height - from in
      let e : height + 1 - from ≡ suc j = omega arith in
      let k : from + j ≡ height = omega arith in
      ap (λ (n : ℕ). take n entries) e ∙ take-suc entries j z (omega (arith, entries_length))
      ∙ ap (λ (x : Ask). take j entries ++ (x ∷ [])) (entries_at j z (omega arith) ∙ ap (λ (n : ℕ). ask (hash_in chain (4 * n)) n) k)

  pub entries_all : (height : ℕ) → last < height → take (height - from) entries ≡ entries
  entries_all height h = take_all (height - from) entries (omega (arith, entries_length))

module _ (es : List Entry) (chain staged refused hs₁ ts₁ ix₁ : List ℕ) (from last count full frontier : ℕ) where
  -- what the scan has come to below a height, from the asks of the plan
  abbrev state_at : List Ask → ℕ → Scanned
  state_at asks height = scan_over es staged refused (take (height - from) (contiguous_request_entries from last chain)) (scanned asks None frontier (full - count))

  pub record Turning (height n : ℕ) (first : Option ℕ) (next : ℕ) (hs ts ix : List ℕ) : Type 0 where
    pub start : from ≤ height
    pub some : n ≤ full
    pub plan : Indexed n hs ix
    pub hashes : length hs ≡ length hs₁
    pub heights : length ts ≡ length ts₁
    pub index : length ix ≡ length ix₁
    pub drawn : (asks : List Ask) (hs₀ ts₀ : List ℕ) → count ≡ length asks → hs₁ ≡ written (ask_hashes asks) hs₀ → ts₁ ≡ written (ask_heights asks) ts₀
        → Drawn (state_at asks height) hs₀ ts₀ full n first next hs ts

  module _ (s : Scannable chain hs₁ ts₁ ix₁ last count full) where
    pub turning_start : Turning from count None frontier hs₁ ts₁ ix₁
    unfolding scan_over
    turning_start = record {
      start = omega arith;
      some = s.more;
      plan = s.plan;
      hashes = refl;
      heights = refl;
      index = refl;
      drawn = λ asks hs₀ ts₀ e p q.
          let z : from - from ≡ 0 = omega arith in
          subst (λ (n : ℕ). Drawn (scan_over es staged refused (take n (contiguous_request_entries from last chain)) (scanned asks None frontier (full - count))) hs₀ ts₀ full count None frontier hs₁ ts₁) (sym z)
          (record { count = e; room = omega (arith, s.more); first = refl; next = refl; hashes = p; heights = q });
    }

    module _ (height n : ℕ) (first : Option ℕ) (next : ℕ) (hs ts ix : List ℕ) (t : Turning height n first next hs ts ix) where
      pub turning_step : height ≤ last → (n ≡ full → ⊥) → (h : Hash) → h ≡ hash_in chain (4 * height) → (k : Look)
          → k ≡ look_of (passes es staged (take n (hashes_in hs)) (ask h height)) (names refused h)
          → (hs' ts' ix' : List ℕ) → hs' ≡ words_after k (4 * n) (hash_words h) hs → ts' ≡ words_after k n (height ∷ []) ts → Indexed (count_after k n) hs' ix'
          → length hs' ≡ length hs → length ts' ≡ length ts → length ix' ≡ length ix → (n' : ℕ) (first' : Option ℕ) (next' : ℕ)
          → n' ≡ count_after k n → first' ≡ first_after k first height → next' ≡ next_past k next height → Turning (height + 1) n' first' next' hs' ts' ix'
      unfolding scan_over
      turning_step b w h e k by hs' ts' ix' eh et plan lh lt li n' first' next' en ef ex = record {
        start = omega (arith, t.start);
        some = omega (arith, count_le k, t.some, w, en);
        plan = subst (λ (m : ℕ). Indexed m hs' ix') (sym en) plan;
        hashes = lh ∙ t.hashes;
        heights = lt ∙ t.heights;
        index = li ∙ t.index;
        drawn = λ asks hs₀ ts₀ c p q.
            let a = ask h height in
            let so : state_at asks (height + 1) ≡ looked (look es staged refused a (state_at asks height)) a (state_at asks height) =
            ap (λ (x : List Ask). scan_over es staged refused x (scanned asks None frontier (full - count))) (entries_more chain from last s.reaches height t.start b)
            ∙ scan_append es staged refused (take (height - from) (contiguous_request_entries from last chain)) (ask (hash_in chain (4 * height)) height ∷ []) (scanned asks None frontier (full - count))
            ∙ ap (λ (g : Hash). looked (look es staged refused (ask g height) (state_at asks height)) (ask g height) (state_at asks height)) (sym e) in
            subst (λ (x : Scanned). Drawn x hs₀ ts₀ full n' first' next' hs' ts') (sym so)
            (drawn_turn (state_at asks height) hs₀ ts₀ full n first next hs ts (t.drawn asks hs₀ ts₀ c p q) a es staged refused k w n' first' next' hs' ts' by en ef ex eh et);
      }
        where
          count_le : (k : Look) → count_after k n ≤ n + 1
          count_le Look.PassBy = omega arith
          count_le Look.NoteRefused = omega arith
          count_le Look.Take = omega arith

      -- it has all
      pub turning_full : n ≡ full → Scans es chain staged refused hs₁ ts₁ from last count full frontier hs ts (record { count = n; first = first; next = next })
      turning_full e = λ asks hs₀ ts₀ c p q.
          let d = t.drawn asks hs₀ ts₀ c p q in
          let l = contiguous_request_entries from last chain in
          let i = height - from in
          let so : scan_over es staged refused l (scanned asks None frontier (full - count)) ≡ state_at asks height =
          ap (λ (x : List Ask). scan_over es staged refused x (scanned asks None frontier (full - count))) (sym (take-append-drop i l))
          ∙ scan_append es staged refused (take i l) (drop i l) (scanned asks None frontier (full - count))
          ∙ scan_full es staged refused (drop i l) (state_at asks height) (omega (arith, d.room, e)) in
          subst (λ (x : Scanned). Drawn x hs₀ ts₀ full n first next hs ts) (sym so) d

      -- no height is left
      pub turning_end : last < height → Scans es chain staged refused hs₁ ts₁ from last count full frontier hs ts (record { count = n; first = first; next = next })
      turning_end b = λ asks hs₀ ts₀ c p q.
          subst (λ (x : List Ask). Drawn (scan_over es staged refused x (scanned asks None frontier (full - count))) hs₀ ts₀ full n first next hs ts)
          (entries_all chain from last s.reaches height b) (t.drawn asks hs₀ ts₀ c p q)

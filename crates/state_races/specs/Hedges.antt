-- How many hedged fronts and planned hashes there are and which, in words that hold a window; one more hedged front; a probe without its racers.
-- Assumes nothing.
use Rattle.std.specs.Prelude.{◌≡◌, Bool, true, false, ◌||◌, List, [], ◌∷◌, ◌++◌, ℕ, zero, suc, ◌+◌, ◌-◌, ◌*◌, ◌≤◌, ◌<◌, drop, replicate, None, Some, Option}
use Rattle.std.proofs.Math.Path.{refl, sym, ap}
use Rattle.std.proofs.Common.{◌∙◌, not-suc-le-zero, le_of_suc-le-suc, arith, length-append, length-take, drop-cons}
use Rattle.std.proofs.Math.ListN.{length, get_or, take, length-drop}
use Rattle.std.proofs.Math.Seq.{get_or-drop, get_or-take, length-take-le, drop-length}
use Rattle.model.specs.Lists.{pad, all, any}
use Rattle.model.specs.Hash.{hash, hashes_in, hashes_words}
use Rattle.model.specs.Layout.{Table, decode, window_of, read, table, word, words_at, hash_at, is_0, settings_words, stall_words, stuck_words, cold_words, hedged_words, observation_words, probe_words, planned_words, counts_words, small_words, head_words}
use Rattle.model.specs.Window.{Window, with_probe}
use Rattle.model.specs.declared.Hash.{Hash}
use Rattle.model.specs.declared.PrefixProbe.{PrefixProbe}
use Rattle.laws.specs.Tables.{with_words, sized_decode}
use Rattle.laws.specs.Groups.{plan_in}
use Rattle.laws.specs.Heads.{seg, padded_back, count_said}
use Rattle.laws.specs.Whole.{Shaped, Whole, words_shaped, length_stall, length_stuck, length_cold, length_hedged, length_observation}

-- ---- the counts

third : (x : Option PrefixProbe) (n : ℕ) → get_or (probe_words x n) 2 0 ≡ n
third None n = refl
third (Some p) n = refl

at_46 : (w : Window) → drop 46 (head_words w) ≡ hedged_words w.races.hedged ++ (observation_words w.watch.observation
    ++ (probe_words w.races.probe (length w.races.planned) ++ (planned_words w.races.planned ++ replicate 415 0)))
unfolding head_words counts_words settings_words small_words
at_46 w =
    let l = head_words w in
    let a = seg 27 33 6 l (stall_words w.watch.stall) _ refl (length_stall w.watch.stall) refl in
    let b = seg 33 39 6 l (stuck_words w.watch.stuck) _ refl (length_stuck w.watch.stuck) a.1 in
    (seg 39 46 7 l (cold_words w.races.cold) _ refl (length_cold w.races.cold) b.1).1

hedges : (w : Window) → word 46 (table w) ≡ length w.races.hedged
unfolding word table hedged_words
hedges w = sym (get_or-drop 46 (head_words w) 0 0) ∙ ap (λ (l : List ℕ). get_or l 0 0) (at_46 w)

-- a word of the first of two lists
in_first : (p r : List ℕ) (i : ℕ) → i < length p → get_or (p ++ r) i 0 ≡ get_or p i 0
in_first [] r i h = absurd (not-suc-le-zero h)
in_first (x ∷ p) r zero h = refl
in_first (x ∷ p) r (suc i) h = in_first p r i (le_of_suc-le-suc h)

plans : (w : Window) → Shaped w → word 63 (table w) ≡ length w.races.planned
unfolding word table
plans w s =
    let l = head_words w in
    let n = length w.races.planned in
    let p = probe_words w.races.probe n in
    let d = seg 46 55 9 l (hedged_words w.races.hedged) _ refl (length_hedged w.races.hedged s.hedged) (at_46 w) in
    let e = seg 55 61 6 l (observation_words w.watch.observation) _ refl (length_observation w.watch.observation) d.1 in
    sym (get_or-drop 61 l 2 0) ∙ ap (λ (x : List ℕ). get_or x 2 0) e.1 ∙ in_first p _ 2 (long w.races.probe n) ∙ third w.races.probe n
  where
    long : (x : Option PrefixProbe) (n : ℕ) → 2 < length (probe_words x n)
    long None n = omega arith
    long (Some p) n = omega arith

module _ (ws : List ℕ) (h : Whole ws) where
  pub hedged_count : word 46 (decode ws) ≡ length (window_of ws).races.hedged
  hedged_count = ap (word 46) (sym h.kept) ∙ hedges (window_of ws)

  pub planned_count : word 63 (decode ws) ≡ length (window_of ws).races.planned
  planned_count = ap (word 63) (sym h.kept) ∙ plans (window_of ws) (words_shaped ws h.long)

-- ---- one of the hashes

-- the hash at i of a list of words
said_at : (l : List ℕ) (i : ℕ) → 4 * i + 4 ≤ length l
    → get_or (hashes_in l) i (hash 0 0 0 0) ≡ hash (get_or l (4 * i) 0) (get_or l (4 * i + 1) 0) (get_or l (4 * i + 2) 0) (get_or l (4 * i + 3) 0)
unfolding hashes_in
said_at [] i h = absurd (omega arith)
said_at (a ∷ []) i h = absurd (omega arith)
said_at (a ∷ b ∷ []) i h = absurd (omega arith)
said_at (a ∷ b ∷ c ∷ []) i h = absurd (omega arith)
said_at (a ∷ b ∷ c ∷ d ∷ l) zero h = refl
said_at (a ∷ b ∷ c ∷ d ∷ l) (suc i) h =
    said_at l i (omega arith)
    ∙ sym (λ j. hash (up (4 * suc i) (4 * i) (omega arith) j) (up (4 * suc i + 1) (4 * i + 1) (omega arith) j) (up (4 * suc i + 2) (4 * i + 2) (omega arith) j)
    (up (4 * suc i + 3) (4 * i + 3) (omega arith) j))
  where
    up : (m n : ℕ) → m ≡ suc (suc (suc (suc n))) → get_or (a ∷ b ∷ c ∷ d ∷ l) m 0 ≡ get_or l n 0
    up m n q = ap (λ (x : ℕ). get_or (a ∷ b ∷ c ∷ d ∷ l) x 0) q

module _ (ws : List ℕ) (n : length ws ≡ 4096) where
  -- the i-th of the hashes that m words of the head from k on say
  pub one_said : (k m c i j : ℕ) → i < c → 4 * i + 4 ≤ m → k + m ≤ 512 → k + 4 * i ≡ j
      → hash_at j (decode ws) ≡ get_or (take c (hashes_in (words_at k m (decode ws)))) i (hash 0 0 0 0)
  unfolding words_at hash_at word
  one_said k m c i j h b f e =
      let hd = (decode ws).head in
      let p = take m (drop k hd) in
      let long : length p ≡ m = length-take-le m (drop k hd) (rw length-drop (omega (arith, (sized_decode ws n).head))) in
      let at : (d x y : ℕ) → d ≤ 3 → 4 * i + d ≡ x → k + x ≡ y → get_or p x 0 ≡ get_or hd y 0 =
      λ d x y u q r. get_or-take m (drop k hd) x 0 (omega arith) ∙ get_or-drop k hd x 0 ∙ ap (λ (z : ℕ). get_or hd z 0) r in
      sym (get_or-take c (hashes_in p) i (hash 0 0 0 0) h ∙ said_at p i (omega arith)
      ∙ (λ z. hash (at 0 (4 * i) j (omega arith) (omega arith) (omega arith) z) (at 1 (4 * i + 1) (j + 1) (omega arith) refl (omega arith) z)
      (at 2 (4 * i + 2) (j + 2) (omega arith) refl (omega arith) z) (at 3 (4 * i + 3) (j + 3) (omega arith) refl (omega arith) z)))

-- a hedged front, and a planned hash
module _ (ws : List ℕ) (n : length ws ≡ 4096) (i : ℕ) where
  below : (c : ℕ) (l : List Hash) → i < length (take c l) → i < c
  below c l h = omega (arith, length-take c l)

  pub hedged_few : i < length (window_of ws).races.hedged → i < 2
  hedged_few h = omega (arith, (words_shaped ws n).hedged)

  pub planned_few : i < length (window_of ws).races.planned → i < 8
  planned_few h = omega (arith, (words_shaped ws n).planned)

  pub hedged_at : i < length (window_of ws).races.hedged → hash_at (47 + 4 * i) (decode ws) ≡ get_or (window_of ws).races.hedged i (hash 0 0 0 0)
  unfolding window_of read
  hedged_at h = let b = hedged_few h in one_said ws n 47 8 (word 46 (decode ws)) i (47 + 4 * i) (below _ _ h) (omega arith) (omega arith) refl

  pub planned_at : i < length (window_of ws).races.planned → hash_at (65 + 4 * i) (decode ws) ≡ get_or (window_of ws).races.planned i (hash 0 0 0 0)
  unfolding window_of read
  planned_at h = let b = planned_few h in one_said ws n 65 32 (word 63 (decode ws)) i (65 + 4 * i) (below _ _ h) (omega arith) (omega arith) refl

-- ---- a search from the front

module _ {A : Type 0} (p : A → Bool) where
  pub any_turn : (l : List A) (i : ℕ) (d : A) (b : Bool) → i < length l → p (get_or l i d) ≡ b → any p (drop i l) ≡ b || any p (drop (suc i) l)
  unfolding any
  any_turn l i d b h e = ap (any p) (drop-cons l i d h) ∙ ap (λ (x : Bool). x || any p (drop (suc i) l)) e

  pub any_end : (l : List A) → any p (drop (length l) l) ≡ false
  unfolding any
  any_end l = ap (any p) (drop-length l)

-- the n hashes of a table's head from word k on
pub record Lists (k n : ℕ) (hs : List Hash) (t : Table) : Type 0 where
  pub many : n ≡ length hs
  pub each : (i : ℕ) → i < length hs → hash_at (k + 4 * i) t ≡ get_or hs i (hash 0 0 0 0)

module _ (ws : List ℕ) (n : length ws ≡ 4096) where
  pub hedged_listed : (m : ℕ) → m ≡ length (window_of ws).races.hedged → Lists 47 m (window_of ws).races.hedged (decode ws)
  hedged_listed m e = record { many = e; each = λ i h. hedged_at ws n i h }

  pub planned_listed : (m : ℕ) → m ≡ length (window_of ws).races.planned → Lists 65 m (window_of ws).races.planned (decode ws)
  planned_listed m e = record { many = e; each = λ i h. planned_at ws n i h }

-- ---- one more hedged front, of which the first is g where there is one

unfoldable pub pushed : ℕ → Hash → Hash → List Hash
pushed zero g h = h ∷ []
pushed (suc n) g h = g ∷ h ∷ []

pub pushed_is : (hs : List Hash) (n : ℕ) (g h : Hash) → n ≡ length hs → (0 < length hs → g ≡ get_or hs 0 (hash 0 0 0 0)) → length hs < 2 → pushed n g h ≡ hs ++ (h ∷ [])
unfolding pushed
pushed_is [] n g h e f b = ap (λ (m : ℕ). pushed m g h) e
pushed_is (x ∷ []) n g h e f b = (λ i. pushed (e i) (f (omega arith) i) h)
pushed_is (x ∷ y ∷ hs) n g h e f b = absurd (omega arith)

-- its words
pub pushed_none : (n : ℕ) (g h : Hash) → n ≡ 0 → 1 ∷ h.a ∷ h.b ∷ h.c ∷ h.d ∷ 0 ∷ 0 ∷ 0 ∷ 0 ∷ [] ≡ hedged_words (pushed n g h)
unfolding pushed hedged_words hashes_words pad
pushed_none zero g h e = refl
pushed_none (suc n) g h e = absurd (omega arith)

pub pushed_some : (n : ℕ) (g h : Hash) → (n ≡ 0 → ⊥) → 2 ∷ g.a ∷ g.b ∷ g.c ∷ g.d ∷ h.a ∷ h.b ∷ h.c ∷ h.d ∷ [] ≡ hedged_words (pushed n g h)
unfolding pushed hedged_words hashes_words pad
pushed_some zero g h e = absurd (e refl)
pushed_some (suc n) g h e = refl

pub length_pushed : (hs : List Hash) (h : Hash) → length hs < 2 → length (hs ++ (h ∷ [])) ≤ 2
length_pushed hs h b = rw length-append (omega arith)

-- ---- the hashes of a plan, from 32 words of which those after n hashes are 0

pub record Plan (n : ℕ) (l : List ℕ) : Type 0 where
  pub words : length l ≡ 32
  pub few : n ≤ 8
  pub zeros : all is_0 (drop (4 * n) l) ≡ true

module _ (n : ℕ) (l : List ℕ) (p : Plan n l) where
  pub plan_words : planned_words (take n (hashes_in l)) ≡ l
  unfolding planned_words
  plan_words = padded_back 32 n l p.words (omega (arith, p.few)) p.zeros

  pub plan_count : length (take n (hashes_in l)) ≡ n
  plan_count = count_said 32 n l p.words (omega (arith, p.few))

  pub planned_in : (w : Window) → Shaped w → (x : Option PrefixProbe) → with_words 65 l (with_words 61 (probe_words x n) (table w)) ≡ table (with_probe x (take n (hashes_in l)) w.races.racers w)
  planned_in w s x =
      (λ i. with_words 65 (sym plan_words i) (with_words 61 (probe_words x (sym plan_count i)) (table w)))
      ∙ plan_in w s x (take n (hashes_in l)) (omega (arith, plan_count, p.few))

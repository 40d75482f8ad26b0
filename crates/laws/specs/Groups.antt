-- One part of a window's table replaced is the table of the window with that part replaced. Assumes nothing.
use Rattle.std.specs.Prelude.{◌≡◌, ℕ, ◌+◌, ◌≤◌, ◌<◌, take, drop, replicate, Option}
use Rattle.std.proofs.Math.Path.{refl, sym, ap}
use Rattle.std.proofs.Common.{◌∙◌, arith, zero-add, drop_at}
use mathlib.Core.List.{List, [], ◌∷◌, ◌++◌, append_assoc}
use Rattle.std.proofs.Math.ListN.{length}
use Rattle.std.proofs.Math.Seq.{take-append-add, drop-append-add}
use Rattle.column.proofs.Pads.{removed_pad, inserted_pad, kept_pad}
use Rattle.model.specs.Lists.{pad}
use Rattle.column.specs.Edits.{remove_at, insert_at, keep_by}
use Rattle.model.specs.Layout.{blank, table, flag_word, source_word, settings_words, stall_words, stuck_words, cold_words, hedged_words, observation_words, probe_words, planned_words, counts_words, small_words, head_words}
use Rattle.model.specs.Window.{Window, HighWater, queue, with_clock, with_mean, with_frontier, with_high, with_queue, with_cooling, with_fanout, with_pace, with_cold, with_hedged, with_preferred, with_probe, with_attempted, with_stall, with_stuck, with_observation}
use Rattle.model.specs.declared.Hash.{Hash}
use Rattle.model.specs.declared.Entry.{Entry}
use Rattle.model.specs.declared.Pace.{Pace}
use Rattle.model.specs.declared.Fanout.{Fanout}
use Rattle.model.specs.declared.StallEpisode.{StallEpisode}
use Rattle.model.specs.declared.StuckFrontier.{StuckFrontier}
use Rattle.model.specs.declared.ColdFront.{ColdFront}
use Rattle.model.specs.declared.PrefixProbe.{PrefixProbe}
use Rattle.model.specs.declared.Observation.{Observation}
use Rattle.laws.specs.Tables.{with_entries, with_racers, with_head, with_words, replaced, removed, put_in, kept_rows}
use Rattle.laws.specs.Tables as tables
use Rattle.laws.specs.Whole.{Shaped, length_stall, length_stuck, length_cold, length_hedged, length_observation, length_probe, length_planned}

-- ---- places of a list replaced

-- a segment as long in the place of the first
here : (s t l : List ℕ) → length s ≡ length t → replaced 0 s (t ++ l) ≡ s ++ l
unfolding replaced
here s t l e = ap (λ (r : List ℕ). s ++ r) (ap (λ (n : ℕ). drop n (t ++ l)) (zero-add (length s)) ∙ drop_at t l (length s) (sym e))

-- over one segment
skip : (s l r a : List ℕ) (m k n : ℕ) → length a ≡ m → m + k ≡ n → replaced k s l ≡ r → replaced n s (a ++ l) ≡ a ++ r
unfolding replaced
skip s l r a m k n h e q =
    let at : n ≡ length a + k = omega arith in
    let after : n + length s ≡ length a + (k + length s) = omega arith in
    (λ i. (ap (λ (j : ℕ). take j (a ++ l)) at ∙ take-append-add a l k) i
    ++ (s ++ (ap (λ (j : ℕ). drop j (a ++ l)) after ∙ drop-append-add a l (k + length s)) i))
    ∙ append_assoc a (take k l) (s ++ drop (k + length s) l)
    ∙ ap (λ (x : List ℕ). a ++ x) q

-- segments one after the other, and then the rest
abbrev row : List (List ℕ) → List ℕ → List ℕ
row [] l = l
row (a ∷ gs) l = a ++ row gs l

abbrev lengths : List (List ℕ) → ℕ
lengths [] = 0
lengths (a ∷ gs) = length a + lengths gs

-- a segment as long in the place of the one that follows some segments: one law for every state of the head
after : (gs : List (List ℕ)) (n : ℕ) (s t l : List ℕ) → lengths gs ≡ n → length s ≡ length t → replaced n s (row gs (t ++ l)) ≡ row gs (s ++ l)
after [] n s t l e q = ap (λ (k : ℕ). replaced k s (t ++ l)) (sym e) ∙ here s t l q
after (a ∷ gs) n s t l e q = skip s (row gs (t ++ l)) (row gs (s ++ l)) a (length a) (lengths gs) n refl e (after gs (lengths gs) s t l refl q)

-- ---- the head

-- the words up to 27
abbrev first : Window → List ℕ
first w = counts_words w ++ (settings_words w.settings ++ small_words w)

module _ (w : Window) where
  pub clock_in : (c : ℕ) → with_words 2 (c ∷ []) (table w) ≡ table (with_clock c w)
  unfolding with_words with_head replaced table head_words counts_words small_words
  clock_in c = refl

  pub high_in : (h : HighWater) → with_words 4 (h.blocks ∷ h.bytes ∷ []) (table w) ≡ table (with_high h w)
  unfolding with_words with_head replaced table head_words counts_words small_words
  high_in h = refl

  pub mean_in : (m : ℕ) → with_words 6 (m ∷ []) (table w) ≡ table (with_mean m w)
  unfolding with_words with_head replaced table head_words counts_words small_words
  mean_in m = refl

  pub frontier_in : (f : ℕ) → with_words 7 (f ∷ []) (table w) ≡ table (with_frontier f w)
  unfolding with_words with_head replaced table head_words counts_words small_words
  frontier_in f = refl

  -- count and total, with the entries
  pub queue_in : (n : ℕ) (es : List Entry) → with_words 3 (n ∷ []) (with_words 1 (length es ∷ []) (with_entries (pad 256 blank es) (table w)))
      ≡ table (with_queue (queue n es w.queue.starts w.queue.bodies) w)
  unfolding with_words with_head replaced table head_words counts_words small_words with_entries
  queue_in n es = refl

  pub fanout_in : (f : Fanout) → with_words 20 (f.eligible ∷ flag_word f.engaged ∷ []) (table w) ≡ table (with_fanout f w)
  unfolding with_words with_head replaced table head_words counts_words small_words settings_words
  fanout_in f = refl

  pub pace_in : (p : Pace) → with_words 22 (p.mean ∷ p.advance ∷ p.wait ∷ []) (table w) ≡ table (with_pace p w)
  unfolding with_words with_head replaced table head_words counts_words small_words settings_words
  pace_in p = refl

  pub preferred_in : (s : Option ℕ) → with_words 25 (source_word s ∷ []) (table w) ≡ table (with_preferred s w)
  unfolding with_words with_head replaced table head_words counts_words small_words settings_words
  preferred_in s = refl

  pub attempted_in : (s : Option ℕ) → with_words 26 (source_word s ∷ []) (table w) ≡ table (with_attempted s w)
  unfolding with_words with_head replaced table head_words counts_words small_words settings_words
  attempted_in s = refl

  first_long : length (first w) ≡ 27
  unfolding counts_words settings_words small_words
  first_long = refl

  -- the segments before each state
  abbrev to_stuck : List (List ℕ)
  to_stuck = first w ∷ stall_words w.watch.stall ∷ []

  abbrev to_cold : List (List ℕ)
  to_cold = first w ∷ stall_words w.watch.stall ∷ stuck_words w.watch.stuck ∷ []

  abbrev to_hedged : List (List ℕ)
  to_hedged = first w ∷ stall_words w.watch.stall ∷ stuck_words w.watch.stuck ∷ cold_words w.races.cold ∷ []

  -- 46: the words up to the hedged fronts
  to_hedged_long : lengths to_hedged ≡ 46
  to_hedged_long = omega (arith, first_long, length_stall w.watch.stall, length_stuck w.watch.stuck, length_cold w.races.cold)

  pub stall_in : (x : Option StallEpisode) → with_words 27 (stall_words x) (table w) ≡ table (with_stall x w)
  unfolding with_words with_head table head_words counts_words small_words settings_words
  stall_in x =
      ap (λ (h : List ℕ). with_head h (table w)) (after (first w ∷ []) 27 (stall_words x) (stall_words w.watch.stall) _ (omega (arith, first_long)) (length_stall x ∙ sym (length_stall w.watch.stall)))

  pub stuck_in : (x : Option StuckFrontier) → with_words 33 (stuck_words x) (table w) ≡ table (with_stuck x w)
  unfolding with_words with_head table head_words counts_words small_words settings_words
  stuck_in x =
      ap (λ (h : List ℕ). with_head h (table w)) (after to_stuck 33 (stuck_words x) (stuck_words w.watch.stuck) _ (omega (arith, first_long, length_stall w.watch.stall)) (length_stuck x ∙ sym (length_stuck w.watch.stuck)))

  pub cold_in : (x : ColdFront) → with_words 39 (cold_words x) (table w) ≡ table (with_cold x w)
  unfolding with_words with_head table head_words counts_words small_words settings_words
  cold_in x =
      ap (λ (h : List ℕ). with_head h (table w)) (after to_cold 39 (cold_words x) (cold_words w.races.cold) _ (omega (arith, first_long, length_stall w.watch.stall, length_stuck w.watch.stuck)) (length_cold x ∙ sym (length_cold w.races.cold)))

  module _ (sh : Shaped w) where
    abbrev to_observation : List (List ℕ)
    to_observation = first w ∷ stall_words w.watch.stall ∷ stuck_words w.watch.stuck ∷ cold_words w.races.cold ∷ hedged_words w.races.hedged ∷ []

    abbrev to_probe : List (List ℕ)
    to_probe = first w ∷ stall_words w.watch.stall ∷ stuck_words w.watch.stuck ∷ cold_words w.races.cold ∷ hedged_words w.races.hedged ∷ observation_words w.watch.observation ∷ []

    abbrev to_planned : List ℕ → List (List ℕ)
    to_planned p = first w ∷ stall_words w.watch.stall ∷ stuck_words w.watch.stuck ∷ cold_words w.races.cold ∷ hedged_words w.races.hedged ∷ observation_words w.watch.observation ∷ p ∷ []

    hedged_long : length (hedged_words w.races.hedged) ≡ 9
    hedged_long = length_hedged w.races.hedged sh.hedged

    observation_long : length (observation_words w.watch.observation) ≡ 6
    observation_long = length_observation w.watch.observation

    pub hedged_in : (hs : List Hash) → length hs ≤ 2 → with_words 46 (hedged_words hs) (table w) ≡ table (with_hedged hs w)
    unfolding with_words with_head table head_words counts_words small_words settings_words
    hedged_in hs b =
        ap (λ (h : List ℕ). with_head h (table w)) (after to_hedged 46 (hedged_words hs) (hedged_words w.races.hedged) _ to_hedged_long (length_hedged hs b ∙ sym hedged_long))

    pub observation_in : (x : Observation) → with_words 55 (observation_words x) (table w) ≡ table (with_observation x w)
    unfolding with_words with_head table head_words counts_words small_words settings_words
    observation_in x =
        ap (λ (h : List ℕ). with_head h (table w)) (after to_observation 55 (observation_words x) (observation_words w.watch.observation) _ (omega (arith, to_hedged_long, hedged_long)) (length_observation x ∙ sym observation_long))

    -- the probe's own words in the place of those that are there
    probe_put : (x : Option PrefixProbe) (n : ℕ) → replaced 61 (probe_words x n) (head_words w) ≡ row to_probe (probe_words x n ++ (planned_words w.races.planned ++ replicate 415 0))
    unfolding head_words counts_words small_words settings_words
    probe_put x n =
        let m = length w.races.planned in
        after to_probe 61 (probe_words x n) (probe_words w.races.probe m) _ (omega (arith, to_hedged_long, hedged_long, observation_long)) (length_probe x n ∙ sym (length_probe w.races.probe m))

    -- the probe's own words, its hashes as they were
    pub probe_in : (x : Option PrefixProbe) → with_words 61 (probe_words x (length w.races.planned)) (table w) ≡ table (with_probe x w.races.planned w.races.racers w)
    unfolding with_words with_head table head_words counts_words small_words settings_words
    probe_in x = ap (λ (h : List ℕ). with_head h (table w)) (probe_put x (length w.races.planned))

    -- the probe with its hashes, the racers as they were
    pub plan_in : (x : Option PrefixProbe) (hs : List Hash) → length hs ≤ 8
        → with_words 65 (planned_words hs) (with_words 61 (probe_words x (length hs)) (table w)) ≡ table (with_probe x hs w.races.racers w)
    unfolding with_words with_head table head_words counts_words small_words settings_words
    plan_in x hs b =
        let p = probe_words x (length hs) in
        let two = after (to_planned p) 65 (planned_words hs) (planned_words w.races.planned) (replicate 415 0) (omega (arith, to_hedged_long, hedged_long, observation_long, length_probe x (length hs)))
        (length_planned hs b ∙ sym (length_planned w.races.planned sh.planned)) in
        ap (λ (h : List ℕ). with_head h (table w)) (ap (replaced 65 (planned_words hs)) (probe_put x (length hs)) ∙ two)

-- ---- the tables

module _ (w : Window) where
  pub cooling_in : (l : List ℕ) → tables.with_cooling l (table w) ≡ table (with_cooling l w)
  unfolding with_words with_head replaced table head_words counts_words small_words tables.with_cooling
  cooling_in l = refl

  pub racers_in : (l : List ℕ) → with_racers l (table w) ≡ table (with_probe w.races.probe w.races.planned l w)
  unfolding with_words with_head replaced table head_words counts_words small_words with_racers
  racers_in l = refl

-- ---- the entries

module _ (w : Window) (sh : Shaped w) where
  pub removed_in : (i : ℕ) → i < length w.queue.pending → removed i (table w) ≡ with_entries (pad 256 blank (remove_at i w.queue.pending)) (table w)
  unfolding table removed
  removed_in i h = ap (λ (es : List Entry). with_entries es (table w)) (removed_pad 256 i blank w.queue.pending h sh.few)

  pub put_in_in : (i : ℕ) (e : Entry) → i ≤ length w.queue.pending → length w.queue.pending < 256 → put_in i e (table w) ≡ with_entries (pad 256 blank (insert_at i e w.queue.pending)) (table w)
  unfolding table put_in
  put_in_in i e h lt = ap (λ (es : List Entry). with_entries es (table w)) (inserted_pad 256 i e blank w.queue.pending h lt)

  pub kept_in : (ms : List ℕ) → length ms ≡ 256 → kept_rows ms (table w) ≡ with_entries (pad 256 blank (keep_by (take (length w.queue.pending) ms) w.queue.pending)) (table w)
  unfolding table kept_rows
  kept_in ms n = ap (λ (es : List Entry). with_entries es (table w)) (kept_pad 256 ms blank w.queue.pending sh.few (omega (arith, sh.few)))

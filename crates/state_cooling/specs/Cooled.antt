-- The cooling times of the window that the words hold, replaced. Assumes nothing.
use Rattle.std.specs.Prelude.{◌≡◌, cond, ℕ, suc, get_or, take, drop}
use Rattle.std.proofs.Math.Path.{ap}
use Rattle.std.proofs.Common.{◌∙◌, arith, length-set}
use mathlib.Core.List.{List, map}
use Rattle.std.proofs.Math.ListN.{length}
use Rattle.std.proofs.lemmas.List.{length-map}
use Rattle.column.proofs.Parts.{put, put_long}
use Rattle.model.specs.Cooling.{cools, cooling_noted, key_of, mark_peer_unresponsive, peer_in_staller_cooldown}
use Rattle.model.specs.Layout.{decode, read, window_of, word, settings_of}
use Rattle.model.specs.Window.{with_cooling}
use Rattle.laws.specs.Tables.{decode_cooling, sized_decode}
use Rattle.laws.specs.Tables as tables
use Rattle.laws.specs.Groups.{cooling_in}
use Rattle.laws.specs.Whole.{Whole, Holds, lifted, words_shaped}

length_noted : (cooldown key now : ℕ) (l : List ℕ) → length (cooling_noted cooldown key now l) ≡ length l
unfolding cooling_noted
length_noted cooldown key now l = length-set (map (λ s. cond (cools cooldown now s) s 0) l) key (suc now) ∙ length-map l (λ s. cond (cools cooldown now s) s 0)

module _ (ws : List ℕ) (h : Whole ws) where
  -- the part that was lent is back as y
  pub cooled : (y : List ℕ) (cooldown key source now : ℕ) → cooldown ≡ word 19 (decode ws) → key ≡ get_or (decode ws).keys source 0 → length y ≡ length (take 256 (drop 3072 ws))
      → y ≡ cooling_noted cooldown key now (take 256 (drop 3072 ws)) → Holds (mark_peer_unresponsive source now (window_of ws)) (put 3072 256 ws y)
  unfolding mark_peer_unresponsive key_of window_of read settings_of decode
  cooled y cooldown key source now c k n e =
      let s = words_shaped ws h.long in
      let w = window_of ws in
      let long : length y ≡ 256 = n ∙ (sized_decode ws h.long).cooling in
      let l = cooling_noted (word 19 (decode ws)) (get_or (decode ws).keys source 0) now w.cooling in
      let is : y ≡ l = e ∙ (λ i. cooling_noted (c i) (k i) now (take 256 (drop 3072 ws))) in
      lifted ws (put 3072 256 ws y) (tables.with_cooling l) (with_cooling l w) h (put_long 3072 256 ws y (omega (arith, h.long)) long)
      (decode_cooling ws y h.long long ∙ ap (λ (x : List ℕ). tables.with_cooling x (decode ws)) is) (cooling_in w l)
      (record { few = s.few; starts = s.starts; bodies = s.bodies; keys = s.keys; cooling = length_noted _ _ now w.cooling ∙ s.cooling; racers = s.racers; hedged = s.hedged; planned = s.planned })

pub cooling_read : (ws : List ℕ) (cooldown key source now : ℕ) → cooldown ≡ word 19 (decode ws) → key ≡ get_or (decode ws).keys source 0
    → cools cooldown now (get_or (take 256 (drop 3072 ws)) key 0) ≡ peer_in_staller_cooldown source now (window_of ws)
unfolding peer_in_staller_cooldown key_of window_of read settings_of decode
cooling_read ws cooldown key source now c k = λ i. cools (c i) now (get_or (take 256 (drop 3072 ws)) (k i) 0)

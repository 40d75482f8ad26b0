-- Entries of expired owners among the entries of a table, and what a sound window says of them. Assumes nothing.
use Rattle.std.specs.Prelude.{◌≡◌, refl, Bool, true, List, [], ◌∷◌, ℕ, zero, suc, ◌+◌, ◌≤◌, ◌<◌, length, get_or, take, drop}
use Rattle.std.proofs.Common.{sym, ap, ◌∙◌, inl, inr, le_of_suc-le-suc, not-suc-le-zero, arith, leb-true}
use Rattle.model.specs.Numbers.{present, max_duration, max_seat}
use Rattle.model.specs.Lists.{count, select}
use Rattle.model.specs.Records.{lowest}
use Rattle.model.specs.Seats.{active_downloading_peers}
use Rattle.model.specs.Time.{expired, active, effective_owner_timeout, owner_download_expired}
use Rattle.model.specs.Observation.{lowest_expired}
use Rattle.model.specs.Layout.{settings_ok, blank, entry_at, decode, window_of, read}
use Rattle.model.specs.declared.Entry.{Entry}
use Rattle.model.specs.declared.Settings.{Settings}
use Rattle.laws.specs.Numbers.{both}
use Rattle.laws.specs.Every.{hold}
use Rattle.laws.specs.Entries.{Each}
use Rattle.laws.specs.Sound.{InRange, Sound}
use Rattle.laws.specs.Whole.{Whole, words_shaped}
use Rattle.laws.specs.Rows.{live_at, word_at}
use Rattle.state_queue.specs.Steps.{live_is}
use Rattle.time.specs.Limit.{expiry_limit}

-- the entry's owner is expired, by the starts of the seats
abbrev pub late : ℕ → ℕ → List ℕ → Entry → Bool
late now timeout starts e = expired now timeout (get_or starts e.owner 0)

-- the same, of whatever moment and timeout the limit is of
abbrev pub LateBy : ℕ → List ℕ → Entry → Bool → Type 0
LateBy limit starts e r = (now timeout : ℕ) → limit ≡ expiry_limit now timeout → r ≡ late now timeout starts e

-- the owners of the first n records are seats
abbrev pub Seated : ℕ → List ℕ → Type 0
Seated n ws = (i : ℕ) → i < n → get_or ws (i + 1024) 0 < 256

pub spacing_le : (b : Settings) → settings_ok b ≡ true → b.block_spacing ≤ max_duration
unfolding settings_ok
spacing_le b s = leb-true b.block_spacing max_duration (hold _ s 7)

count_le : (p : ℕ → Bool) (l : List ℕ) → count p l ≤ length l
unfolding count
count_le p [] = omega arith
count_le p (x ∷ l) = elim (both (p x)) [ inl q ↦ rw q (omega (arith, count_le p l)) | inr q ↦ rw q (omega (arith, count_le p l)) ]

-- at most 256 seats are active
pub active_le : (ws : List ℕ) → length ws ≡ 4096 → active (window_of ws) ≤ suc max_seat
unfolding active active_downloading_peers
active_le ws n = omega (arith, count_le present (window_of ws).queue.starts, (words_shaped ws n).starts)

each_at : (c : ℕ) (l : List Entry) (i : ℕ) → i < length l → Each (InRange c) l → (get_or l i blank).owner ≤ max_seat
each_at c [] i h a = absurd (not-suc-le-zero h)
each_at c (e ∷ l) zero h a = a.0.owner
each_at c (e ∷ l) (suc i) h a = each_at c l i (le_of_suc-le-suc h) a.1

pub seated : (c : ℕ) (ws : List ℕ) (n : ℕ) → Whole ws → Sound c (window_of ws) → n ≡ length (window_of ws).queue.pending → Seated n ws
unfolding decode
seated c ws n h g e i k =
    let l = (window_of ws).queue.pending in
    let same : (entry_at (drop i ws)).owner ≡ (get_or l i blank).owner =
    ap (λ (x : Entry). x.owner) (sym (live_at n i ws k (omega (arith, g.queue.few))) ∙ ap (λ (m : List Entry). get_or m i blank) (live_is ws h n e)) in
    omega (arith, same, word_at i ws 4 (omega arith), each_at c l i (omega arith) g.queue.each)

-- ---- the lowest late entry among the words' records

starts_are : (ws : List ℕ) → (decode ws).starts ≡ (window_of ws).queue.starts
unfolding window_of read
starts_are ws = refl

pub expired_is : (c : ℕ) (ws : List ℕ) (n timeout : ℕ) → Whole ws → n ≡ length (window_of ws).queue.pending → timeout ≡ effective_owner_timeout (active (window_of ws)) (window_of ws)
    → lowest (select (late c timeout (decode ws).starts) (take n (decode ws).entries)) ≡ lowest_expired c (window_of ws)
unfolding lowest_expired owner_download_expired
expired_is c ws n timeout h e t = λ i. lowest (select (late c (t i) (starts_are ws i)) (live_is ws h n e i))

-- THE SAME OF THE PUBLIC CALLS: of an accepted planning call on lent words, the plan that it writes and the words that it leaves. Assumes nothing.
use Rattle.std.specs.Prelude.{◌≡◌, refl, false, List, ℕ, ◌≤◌, length}
use Rattle.std.proofs.Common.{ap, subst, ◌∙◌, eq-eqb}
use Rattle.model.specs.Numbers.{max_height, max_seat, read_clock}
use Rattle.model.specs.Lists.{any}
use Rattle.model.specs.Window.{Window, with_clock}
use Rattle.model.specs.Races.{is_empty}
use Rattle.model.specs.Layout.{encode, window_of}
use Rattle.model.specs.Calls.{Ask}
use Rattle.model.specs.Refusals.{Change, changes, plans, plans_retry, requests, checks, refusal_at, window_refusal, refusal}
use Rattle.model.specs.Perform.{Outcome, says, plan_values, perform, plan_after, words_after, answer_after, changed, proposes}
use Rattle.model.specs.Planning.{Lent, Proposal, is_pending, ask_hashes, ask_heights}
use Rattle.model.specs.declared.Release.{Release}
use Rattle.laws.specs.Sound.{Sound}
use Rattle.laws.specs.Parts.{sound_clock}
use Rattle.laws.specs.Words.{Encodes, sound_words}
use Rattle.laws.specs.Kept.{seat_le}
use Rattle.laws.proofs.Kept.{changed_sound}
use Rattle.refusals.specs.Outcomes.{admitted}
use Rattle.plan_laws.specs.Plan.{Form, first, allowing_retry, plan, marking, never_pending, left_sound, marking_fits, marking_accepted, marking_frontier}

-- c, source, what is lent and said; how many words are lent for the plan's hashes, how many places for its heights
abbrev pub planning : Form → ℕ → ℕ → Lent → ℕ → ℕ → Change
planning first c source l a b = plans c source l a b
planning allowing_retry c source l a b = plans_retry c source l a b

-- what an accepted one comes to
comes_to : (form : Form) (c source : ℕ) (l : Lent) (a b : ℕ) (ws : List ℕ) (rs : List Release) → refusal (changes (planning form c source l a b)) ws (length rs) ≡ 0
    → let o = perform (changes (planning form c source l a b)) ws rs in
    let now = read_clock (window_of ws).clock c in
    let P = plan form source l now (window_of ws) in
    (o.plan ≡ P.asks) × (o.words ≡ encode (with_clock now P.window)) × (o.answer ≡ says (length P.gone) (plan_values P.asks P.next))
unfolding perform plan_after words_after answer_after changed proposes
comes_to first c source l a b ws rs e = (rw e, rw e, rw e)
comes_to allowing_retry c source l a b ws rs e = (rw e, rw e, rw e)

-- what it may rely on
admits : (form : Form) (c source : ℕ) (l : Lent) (a b : ℕ) (ws : List ℕ) (room : ℕ) → refusal (changes (planning form c source l a b)) ws room ≡ 0
    → Sound (read_clock (window_of ws).clock c) (window_of ws) × (source ≤ max_seat)
admits first c source l a b ws room e =
    let k = admitted (checks (plans c source l a b)) ws room (window_refusal (checks (plans c source l a b)) ws room) refl e in
    (k.sound_at, seat_le source k.passes.peers)
admits allowing_retry c source l a b ws room e =
    let k = admitted (checks (plans_retry c source l a b)) ws room (window_refusal (checks (plans_retry c source l a b)) ws room) refl e in
    (k.sound_at, seat_le source k.passes.peers)

-- a change that the window of some words accepts is accepted on these words
accepts : (x : Change) (v : Window) → Encodes v → (room : ℕ) → refusal_at (checks x) v room ≡ 0 → refusal (changes x) (encode v) room ≡ 0
unfolding window_refusal
accepts x v k room e = rw (eq-eqb (length (encode v)) 4096 k.long, k.counts, k.back) e

performs_on : (x : Change) (v : Window) → Encodes v → (rs : List Release) → refusal_at (checks x) v (length rs) ≡ 0 → (perform (changes x) (encode v) rs).words ≡ encode (changed x v).window
unfolding perform words_after
performs_on x v k rs e = rw (accepts x v k (length rs) e, k.back)

module _ (form : Form) (c source : ℕ) (l : Lent) (a b : ℕ) (ws : List ℕ) (rs : List Release) (accepted : refusal (changes (planning form c source l a b)) ws (length rs) ≡ 0) where
  -- the outcome: words, report, plan
  abbrev done : Outcome
  done = perform (changes (planning form c source l a b)) ws rs

  abbrev now : ℕ
  now = read_clock (window_of ws).clock c

  abbrev P : Proposal
  P = plan form source l now (window_of ws)

  -- its entries are those of the definitions' plan, at the moment that its clock stands for
  pub writes_the_plan : done.plan ≡ P.asks
  writes_the_plan = (comes_to form c source l a b ws rs accepted).0

  -- its answer says how many were swept, how many entries there are, and the next height; no request, neither
  pub says_the_next : done.answer ≡ says (length P.gone) (plan_values P.asks P.next)
  says_the_next = (comes_to form c source l a b ws rs accepted).2

  sound : Sound now (window_of ws)
  sound = (admits form c source l a b ws (length rs) accepted).0

  abbrev left : Window
  left = with_clock now P.window

  left_is_sound : Sound now left
  left_is_sound = sound_clock (left_sound form source l now (window_of ws) sound) now

  -- its words are a window, that one
  words_are : Encodes left
  words_are = sound_words left left_is_sound

  left_back : window_of done.words ≡ left
  left_back = ap window_of (comes_to form c source l a b ws rs accepted).1 ∙ words_are.back

  pub none_pending_as_it_returns : any (is_pending (window_of done.words)) done.plan ≡ false
  unfolding is_pending
  none_pending_as_it_returns =
      (λ i. any (is_pending (left_back i)) (writes_the_plan i)) ∙ never_pending form source l now (window_of ws)

  -- ---- the request of that plan, at once: at the words' own clock, for the same seat, the next height that the answer says

  abbrev pub mark : ℕ → ℕ → Change
  mark bytes n = requests now source (ask_hashes done.plan) (ask_heights done.plan) P.next bytes n

  mark_is : (bytes n : ℕ) → mark bytes n ≡ marking form source l now (window_of ws) bytes n
  mark_is bytes n = λ i. requests now source (ask_hashes (writes_the_plan i)) (ask_heights (writes_the_plan i)) P.next bytes n

  module _ (bytes n : ℕ) where
    taken : (room : ℕ) → refusal_at (checks (marking form source l now (window_of ws) bytes n)) left room ≡ 0
    taken room = marking_accepted form source l now (window_of ws) sound bytes n (admits form c source l a b ws (length rs) accepted).1 room

    -- it is refused by nothing, whatever headrooms are said and report is lent
    pub mark_accepted : (room : ℕ) → refusal (changes (mark bytes n)) done.words room ≡ 0
    mark_accepted room =
        (λ i. refusal (changes (mark_is bytes n i)) ((comes_to form c source l a b ws rs accepted).1 i) room)
        ∙ accepts (marking form source l now (window_of ws) bytes n) left words_are room (taken room)

    -- and leaves the frontier at the plan's next height, where there is a request; heights have 32 bits
    pub mark_moves_on : l.tip ≤ max_height → is_empty done.plan ≡ false → (lent : List Release) → (window_of (perform (changes (mark bytes n)) done.words lent).words).frontier ≡ P.next
    mark_moves_on t e lent =
        let x = marking form source l now (window_of ws) bytes n in
        let v = (changed x left).window in
        let some : is_empty P.asks ≡ false = subst (λ (ks : List Ask). is_empty ks ≡ false) writes_the_plan e in
        let kept = changed_sound x left (length lent) (marking_fits form source l now (window_of ws) sound bytes n t) (taken (length lent)) left_is_sound in
        ap (λ (u : Window). u.frontier)
        ((λ i. window_of (perform (changes (mark_is bytes n i)) ((comes_to form c source l a b ws rs accepted).1 i) lent).words)
        ∙ ap window_of (performs_on x left words_are lent (taken (length lent))) ∙ (sound_words v kept).back)
        ∙ marking_frontier form source l now (window_of ws) bytes n some

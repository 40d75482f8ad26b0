-- The invariant, kept by every call, so by every list of calls. Assumes nothing.
use Rattle.std.specs.Prelude.{◌≡◌, refl, List, [], ◌∷◌, ◌++◌, ℕ, zero, suc, ◌≤◌, length, take, drop, replicate}
use Rattle.std.proofs.Common.{sym, ap, ◌∙◌, subst, append-nil, arith, length-append, length-drop, take_at, drop_at, eq-eqb}
use Rattle.model.specs.Window.{Window}
use Rattle.model.specs.Calls.{opened}
use Rattle.model.specs.Layout.{encode, window_of}
use Rattle.model.specs.Refusals.{Change, Call, opens, changes, queries, Checks, checks, query_checks, refusal_at, window_refusal, opening_refusal, refusal}
use Rattle.model.specs.Perform.{moment_of, changed, says, Outcome, words_by, gone_by, answer_by, plan_by, words_after, gone_after, answer_after, plan_after, perform}
use Rattle.model.specs.declared.Release.{Release}
use Rattle.model.specs.declared.Settings.{Settings}
use Rattle.laws.specs.Bag.{weigh}
use Rattle.laws.specs.Sound.{Sound}
use Rattle.laws.specs.Fits.{Fits, FitsChange}
use Rattle.laws.specs.Kept.{accepted_is, sound_then, opens_sound}
use Rattle.laws.proofs.Kept.{changed_sound}
use Rattle.laws.specs.Words.{sound_words}
use Rattle.history.specs.Run.{Act, Done, Run, run_step, run, on_words, AllFit}
use Rattle.history.specs.Book.{Line, Mark, pending_lines, marks, opens_entries, writes, own_by, Book, own_refusal, book_step, book, new_book}
use Rattle.history.specs.Reports.{Told, anew, counts, tells_by, tells, AsLent}
use Rattle.history.proofs.Lines.{Agree, told, agree_outs, agree_adds}
use Rattle.history.proofs.Moves.{change_moves, gone_room}

-- ---- the log: each counted place since the last accepted opening, as a mark would name it

abbrev pub logs : ℕ → Told → List Mark → List Mark
logs i anew log = []
logs i (counts gs) log = log ++ told i 0 gs

unfoldable pub log_of : List Done → List Mark
log_of [] = []
log_of (d ∷ h) = logs (length h) (tells d) (log_of h)

abbrev pub AllAsLent : List Done → Type 0
AllAsLent [] = Unit {0}
AllAsLent (d ∷ h) = AsLent d × AllAsLent h

-- ---- the invariant

pub record Inv (w : Window) (ls : List Line) (log : List Mark) : Type 0 where
  pub sound : Sound w.clock w
  pub agree : Agree w.queue.pending ls log

pub record Sync (b : Book) (s : Run) : Type 0 where
  pub words : s.words ≡ encode b.own
  pub next : b.next ≡ length s.done
  pub inv : Inv b.own b.lines (log_of s.done)
  pub as_lent : AllAsLent s.done

-- ---- a call whose outcome is o, on the words of the book's own window w

pub record Goes (r i : ℕ) (a : Act) (w : Window) (ls : List Line) (log : List Mark) (o : Outcome) : Type 0 where
  pub words : o.words ≡ encode (own_by r a.call w)
  pub inv : Inv (own_by r a.call w) (writes r i a.call w ls) (logs i (tells_by a.call o.answer o.report) log)
  pub as_lent : AsLent (record { act = a; outcome = o })

-- nothing is told
quiet : {w : Window} {ls : List Line} {log : List Mark} (i : ℕ) → Inv w ls log → Inv w ls (log ++ told i 0 [])
unfolding told
quiet {log = log} i v = rw (append-nil log) v

agree_empty : Agree [] [] []
unfolding weigh pending_lines marks
agree_empty = record { same = λ f. refl; names = λ g. refl }

-- the queue of an opened window
opened_inv : (c : ℕ) (b : Settings) (keys : List ℕ) → Sound c (opened c b keys) → Inv (opened c b keys) [] []
unfolding opened
opened_inv c b keys g = record { sound = g; agree = agree_empty }

-- the report of a change: what went, and then as it was lent
report_after : (gs lent : List Release) → length gs ≤ length lent
    → (take (length gs) (gs ++ drop (length gs) lent) ≡ gs) × (length (gs ++ drop (length gs) lent) ≡ length lent) × (drop (length gs) (gs ++ drop (length gs) lent) ≡ drop (length gs) lent)
report_after gs lent h = (
  take_at gs (drop (length gs) lent) (length gs) refl,
  length-append gs (drop (length gs) lent) ∙ omega (arith, length-drop (length gs) lent),
  drop_at gs (drop (length gs) lent) (length gs) refl,
)

-- the accepted change x of the window w
module _ (x : Change) (lent : List Release) (w : Window) where
  changed_inv : (i : ℕ) (ls : List Line) (log : List Mark) → FitsChange x → refusal_at (checks x) w (length lent) ≡ 0 → Inv w ls log
      → Inv (changed x w).window (writes 0 i (changes x) w ls) (log ++ told i 0 (changed x w).gone)
  unfolding changed
  changed_inv i ls log f q v =
      let now = moment_of (checks x).moment w.clock in
      let a = accepted_is (checks x) w (length lent) q in
      let m = change_moves x now w (length lent) f a (sound_then x w (length lent) a v.sound) in
      record {
        sound = changed_sound x w (length lent) f q v.sound;
        agree = agree_outs i 0 m.rising m.picks (agree_adds (opens_entries x now w) m.adds v.agree);
      }

  changed_room : refusal_at (checks x) w (length lent) ≡ 0 → Sound w.clock w → length (changed x w).gone ≤ length lent
  unfolding changed
  changed_room q g =
      let a = accepted_is (checks x) w (length lent) q in
      gone_room x (moment_of (checks x).moment w.clock) w (length lent) a (sound_then x w (length lent) a g)

  -- by what it does to w
  abbrev deed_outcome : Window → Outcome
  deed_outcome v = record {
    answer = says (length (changed x v).gone) (changed x v).values;
    words = encode (changed x v).window;
    report = (changed x v).gone ++ drop (length (changed x v).gone) lent;
    plan = (changed x v).plan;
  }

  change_goes : (i : ℕ) (ls : List Line) (log : List Mark) → FitsChange x → refusal_at (checks x) w (length lent) ≡ 0 → Inv w ls log
      → Goes 0 i (record { call = changes x; lent = lent }) w ls log (deed_outcome (window_of (encode w)))
  change_goes i ls log f q v =
      let z = sound_words w v.sound in
      let k = changed_room q v.sound in
      let r = report_after (changed x w).gone lent k in
      subst (λ (u : Window). Goes 0 i (record { call = changes x; lent = lent }) w ls log (deed_outcome u)) (sym z.back)
      (record { words = refl; inv = rw r.0 (changed_inv i ls log f q v); as_lent = record { fits = k; long = r.1; rest = r.2 } })

-- ---- the words of a sound window are refused what the window is

window_refusal_is : (k : Checks) (w : Window) (room : ℕ) → Sound w.clock w → window_refusal k (encode w) room ≡ refusal_at k w room
unfolding window_refusal
window_refusal_is k w room g =
    let z = sound_words w g in
    rw (eq-eqb (length (encode w)) 4096 z.long, z.counts, z.back)

refusal_is : (c : Call) (w : Window) (room : ℕ) → Sound w.clock w → refusal c (encode w) room ≡ own_refusal c w room
unfolding opening_refusal
refusal_is (opens c b keys) w room g = rw (eq-eqb (length (encode w)) 4096 (sound_words w g).long)
refusal_is (changes x) w room g = window_refusal_is (checks x) w room g
refusal_is (queries q) w room g = window_refusal_is (query_checks q) w room g

-- ---- every call, by its refusal

abbrev pub outcome_by : ℕ → Act → List ℕ → Outcome
outcome_by r a ws = record {
  answer = answer_by r a.call ws;
  words = words_by r a.call ws;
  report = gone_by r a.call ws ++ drop (length (gone_by r a.call ws)) a.lent;
  plan = plan_by r a.call ws;
}

pub performs : (a : Act) (ws : List ℕ) → perform a.call ws a.lent ≡ outcome_by (refusal a.call ws (length a.lent)) a ws
unfolding perform words_after gone_after answer_after plan_after
performs a ws = refl

goes_by : (r i : ℕ) (c : Call) (lent : List Release) (w : Window) (ls : List Line) (log : List Mark) → Fits c → own_refusal c w (length lent) ≡ r → Inv w ls log
    → Goes r i (record { call = c; lent = lent }) w ls log (outcome_by r (record { call = c; lent = lent }) (encode w))
goes_by (suc n) i c lent w ls log f q v =
    record { words = refl; inv = quiet i v; as_lent = record { fits = omega arith; long = refl; rest = refl } }
goes_by zero i (opens c b keys) lent w ls log f q v =
    record { words = refl; inv = opened_inv c b keys (opens_sound c b keys (replicate 4096 0) q); as_lent = record { fits = omega arith; long = refl; rest = refl } }
goes_by zero i (queries y) lent w ls log f q v =
    record { words = refl; inv = quiet i v; as_lent = record { fits = omega arith; long = refl; rest = refl } }
goes_by zero i (changes x) lent w ls log f q v = change_goes x lent w i ls log f q v

-- ---- every list of calls

sync_step : (a : Act) (b : Book) (s : Run) → Fits a.call → Sync b s → Sync (book_step a b) (run_step a s)
unfolding book_step run_step log_of tells
sync_step a b s f y =
    let r = own_refusal a.call b.own (length a.lent) in
    let o : perform a.call s.words a.lent ≡ outcome_by r a (encode b.own) =
    ap (λ (ws : List ℕ). perform a.call ws a.lent) y.words ∙ performs a (encode b.own)
    ∙ ap (λ (n : ℕ). outcome_by n a (encode b.own)) (refusal_is a.call b.own (length a.lent) y.inv.sound) in
    let g : Goes r b.next a b.own b.lines (log_of s.done) (perform a.call s.words a.lent) =
    subst (λ (x : Outcome). Goes r b.next a b.own b.lines (log_of s.done) x) (sym o)
    (goes_by r b.next a.call a.lent b.own b.lines (log_of s.done) f refl y.inv) in
    record {
      words = g.words;
      next = ap suc y.next;
      inv = rw (← y.next) g.inv;
      as_lent = (g.as_lent, y.as_lent);
    }

pub runs : (acts : List Act) (b : Book) (s : Run) → AllFit acts → Sync b s → Sync (book acts b) (run acts s)
unfolding book run
runs [] b s f y = y
runs (a ∷ acts) b s f y = runs acts (book_step a b) (run_step a s) f.1 (sync_step a b s f.0 y)

-- the first call, an accepted opening, on words of any content
pub starts : (c : ℕ) (b : Settings) (keys ws : List ℕ) (lent : List Release) → refusal (opens c b keys) ws (length lent) ≡ 0
    → Sync (new_book c b keys) (run_step (record { call = opens c b keys; lent = lent }) (on_words ws))
unfolding run_step log_of tells
starts c b keys ws lent q =
    let a : Act = record { call = opens c b keys; lent = lent } in
    let o : perform a.call ws lent ≡ outcome_by 0 a ws = performs a ws ∙ ap (λ (r : ℕ). outcome_by r a ws) q in
    subst (λ (x : Outcome). Sync (new_book c b keys) (record { words = x.words; done = record { act = a; outcome = x } ∷ [] })) (sym o)
    (record { words = refl; next = refl; inv = opened_inv c b keys (opens_sound c b keys ws q); as_lent = (record { fits = omega arith; long = refl; rest = refl }, tt) })

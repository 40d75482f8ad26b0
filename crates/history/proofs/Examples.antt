-- A closed run, by computation: opening, requests of two peers, a delivery, a sweep, a prefix race won, a refused call, a second opening; what the
-- lent words come to, and the book. A short one with a plan. `after` and `written` open on their own `unfolding` lines all that a run uses, so that a check names just them.
use Rattle.std.specs.Prelude.{◌≡◌, refl, false, List, [], ◌∷◌, map, ℕ, length, get_or, replicate, Some}
use Rattle.std.proofs.Common.{ap, ◌∙◌, subst, inl, arith}
use Rattle.std.specs.Int.Count.{ones}
use Rattle.model.specs.Calls.{opened, asks_in, put, puts, raised, started, noted, mark_requested, credit_duplicate_delivery, record_delivery_progress, body_noted, credit_delivery_from, next_mean, mark_received_from}
use Rattle.model.specs.Capacity.{peer_inflight, effective_peer_inflight, capacity_left, has_request_capacity, batch_limit, byte_capacity, compute_request_capacity}
use Rattle.model.specs.Cooling.{cools, cooling_noted, key_of, mark_peer_unresponsive, peer_in_staller_cooldown}
use Rattle.model.specs.Hash.{wide, key, same, less, same_hashes, hashes_in}
use Rattle.model.specs.Layout.{window_of, settings_ok}
use Rattle.model.specs.LettingGo.{without, remove_pending, gone, kept, total_after, frontier_after, extract, skipped, sweep_reason, is_entry, resets, expire_pending, lost_reason, seats_kept, retain_peer_assignments}
use Rattle.model.specs.Lists.{all, any, select, count, every}
use Rattle.model.specs.Numbers.{lesser, greater, clock_ok, read_clock, next_height, present, age}
use Rattle.model.specs.Pace.{sample_ms, nearer, front_mean_by, decay_floor, decayed, front_recorded, was_front, pace_opened}
use Rattle.model.specs.Perform.{Answer, refused, requested, changed, proposes}
use Rattle.model.specs.Planning.{Lent, heights_from, contiguous_request_entries, first_named, names, is_pending, is_staged, is_refused, is_open, noticed, non_empty_request, swept_asks, expired_request_entries, maybe_rewind_request_frontier, reach, clean_stretch, is_clean, clean_contiguous_peer_request, open_in_reach, candidates, past, next_after, extend_request_by_reverse_scan, scan_of, request_from, request_after, next_peer_request_allowing_retry, next_peer_request}
use Rattle.model.specs.Races.{plan_limit, insert_by_height, by_height, walk, expected_after, plan_from, prefix_probe_plan, entered, probe_started, confirm_prefix_probe, place_of, all_four, winner, race_won, race_progress, record_prefix_probe_delivery, resolve_cold_front_delivery}
use Rattle.model.specs.Reasons.{lowers, lowered}
use Rattle.model.specs.Records.{new_entry, insert, remove, found, lowest, sum, pending_count_for}
use Rattle.model.specs.Refusals.{Call, opens, changes, requests, receives, expires, confirms_probe, plans, plan_refusal, refusal, keys_ok, alternates_ok, listed_once, list_ok, request_refusal, body_refusal, report_ok, refusal_at, opening_refusal}
use Rattle.model.specs.Seats.{oldest, reset_owner_queue_start, active_downloading_peers, keep_seats}
use Rattle.model.specs.Time.{owner_timeout, expired, effective_owner_timeout, active, owner_download_expired, peer_has_expired_pending}
use Rattle.model.specs.Window.{Window}
use Rattle.model.specs.declared.Hash.{Hash}
use Rattle.model.specs.declared.Release.{Release}
use Rattle.model.specs.declared.Settings.{Settings}
use Rattle.history.specs.Run.{Act, Done, Run, run, on_words}
use Rattle.history.specs.Reports.{left_by, Answered}
use Rattle.history.specs.Claim.{Claim}
use Rattle.history.proofs.Claim.{the_book_adds_up}
use Rattle.history.specs.Book.{Book, opened_lines, pending_lines, gone_lines, marks, mark, mark_all, add_lines, entries_of, book_step, book, new_book}

written : List Act → Book → Book
unfolding ones book book_step mark mark_all add_lines entries_of opened asks_in put puts raised started noted mark_requested credit_duplicate_delivery record_delivery_progress body_noted credit_delivery_from next_mean mark_received_from peer_inflight effective_peer_inflight capacity_left has_request_capacity cools cooling_noted key_of mark_peer_unresponsive wide key same less same_hashes hashes_in settings_ok without remove_pending gone kept total_after frontier_after extract skipped sweep_reason is_entry resets expire_pending lost_reason seats_kept retain_peer_assignments all any select count every lesser greater clock_ok read_clock next_height present age sample_ms nearer front_mean_by decay_floor decayed front_recorded was_front pace_opened requested changed plan_limit insert_by_height by_height walk expected_after plan_from prefix_probe_plan entered probe_started confirm_prefix_probe place_of all_four winner race_won race_progress record_prefix_probe_delivery resolve_cold_front_delivery lowers lowered new_entry insert remove found lowest sum pending_count_for keys_ok alternates_ok listed_once list_ok request_refusal body_refusal report_ok refusal_at opening_refusal oldest reset_owner_queue_start active_downloading_peers keep_seats owner_timeout expired effective_owner_timeout active owner_download_expired peer_has_expired_pending peer_in_staller_cooldown batch_limit byte_capacity compute_request_capacity proposes plan_refusal heights_from contiguous_request_entries first_named names is_pending is_staged is_refused is_open noticed non_empty_request swept_asks expired_request_entries maybe_rewind_request_frontier reach clean_stretch is_clean clean_contiguous_peer_request open_in_reach candidates past next_after extend_request_by_reverse_scan scan_of request_from request_after next_peer_request_allowing_retry next_peer_request
written acts b = book acts b

settings : Settings
settings = record {
  max_pending_blocks = 256;
  max_pending_bytes = 1099511627776;
  max_received_blocks = 64;
  max_peer_inflight = 128;
  fanout_peer_inflight = 16;
  min_peers_for_fanout = 8;
  getdata_batch_limit = 16;
  block_spacing = 600;
  received_timeout = 100;
  stall_timeout_initial = 50;
  stall_timeout_max = 100;
  staller_cooldown = 1000;
}

-- no place is filled yet
blank_release : Release
blank_release = record { entry = record { hash = record { a = 0; b = 0; c = 0; d = 0 }; owner = 0; time = 0; height = 0; estimate = 0 }; reason = 0 }

lent : List Release
unfolding blank_release
lent = replicate 256 blank_release

act : Call → Act
unfolding lent
act c = record { call = c; lent = lent }

h : ℕ → Hash
h n = record { a = 0; b = 0; c = 0; d = n }

opening : Act
unfolding act settings
opening = act (opens 5 settings (replicate 256 0))

-- seat 4 asks for 1 and 2, seat 3 for 3; 1 comes, of 1,000,000 bytes; at 915 the time of seat 4 is out, that of seat 3 is not, and 2 is swept;
-- seat 3 asks for 4 to 8, of which 6, 7 and 8 are the lowest, and seat 7 races it for 3, 6, 7, 8 and 4: it has brought 3, 6, 7 and 8, so 4 and 5
-- go, after 8 in the report; seat 9 asks for 1 again; a clock that goes back is refused
calls : List Act
unfolding act h
calls =
    act (changes (requests 10 4 (0 ∷ 0 ∷ 0 ∷ 1 ∷ 0 ∷ 0 ∷ 0 ∷ 2 ∷ []) (50 ∷ 51 ∷ []) 52 0 0))
    ∷ act (changes (requests 20 3 (0 ∷ 0 ∷ 0 ∷ 3 ∷ []) (52 ∷ []) 53 0 0))
    ∷ act (changes (receives 30 (h 1) 1000000 (Some 4)))
    ∷ act (changes (expires 915))
    ∷ act (changes (requests 920 3 (0 ∷ 0 ∷ 0 ∷ 4 ∷ 0 ∷ 0 ∷ 0 ∷ 5 ∷ 0 ∷ 0 ∷ 0 ∷ 6 ∷ 0 ∷ 0 ∷ 0 ∷ 7 ∷ 0 ∷ 0 ∷ 0 ∷ 8 ∷ []) (56 ∷ 57 ∷ 53 ∷ 54 ∷ 55 ∷ []) 58 0 0))
    ∷ act (changes (confirms_probe 925 3 (0 ∷ 0 ∷ 0 ∷ 3 ∷ 0 ∷ 0 ∷ 0 ∷ 6 ∷ 0 ∷ 0 ∷ 0 ∷ 7 ∷ 0 ∷ 0 ∷ 0 ∷ 8 ∷ 0 ∷ 0 ∷ 0 ∷ 4 ∷ []) (7 ∷ [])))
    ∷ act (changes (receives 930 (h 3) 354376 (Some 7)))
    ∷ act (changes (receives 931 (h 6) 354376 (Some 7)))
    ∷ act (changes (receives 932 (h 7) 354376 (Some 7)))
    ∷ act (changes (receives 933 (h 8) 354376 (Some 7)))
    ∷ act (changes (requests 940 9 (0 ∷ 0 ∷ 0 ∷ 1 ∷ []) (50 ∷ []) 58 0 0))
    ∷ act (changes (requests 900 9 (0 ∷ 0 ∷ 0 ∷ 2 ∷ []) (51 ∷ []) 58 0 0))
    ∷ []

the_book : Book
unfolding written calls settings
the_book = written calls (new_book 5 settings (replicate 256 0))

-- ---- the book: of each mark the call, the place, the reason and the hash

marks_are : map (λ m. m.call ∷ m.place ∷ m.reason ∷ m.entry.hash.d ∷ []) (marks the_book.lines)
    ≡ (10 ∷ 0 ∷ 1 ∷ 8 ∷ []) ∷ (9 ∷ 0 ∷ 1 ∷ 7 ∷ []) ∷ (8 ∷ 0 ∷ 1 ∷ 6 ∷ []) ∷ (10 ∷ 2 ∷ 9 ∷ 5 ∷ []) ∷ (10 ∷ 1 ∷ 9 ∷ 4 ∷ []) ∷ (7 ∷ 0 ∷ 1 ∷ 3 ∷ [])
    ∷ (4 ∷ 0 ∷ 6 ∷ 2 ∷ []) ∷ (3 ∷ 0 ∷ 1 ∷ 1 ∷ []) ∷ []
unfolding the_book marks
marks_are = refl

-- one line waits: 1, opened again
pending_are : pending_lines the_book.lines ≡ new_entry (h 1) 9 940 50 354376 ∷ []
unfolding the_book pending_lines new_entry h
pending_are = refl

-- nine were opened, three at the first mean and six after the first body; eight went
opened_sum : sum (opened_lines the_book.lines) ≡ 2912688
unfolding the_book opened_lines
opened_sum = refl

gone_sum : sum (gone_lines the_book.lines) ≡ 2558312
unfolding the_book gone_lines
gone_sum = refl

-- ---- the lent words, which held anything before: by the theorem, what the book's own window says

lent_words : List ℕ
lent_words = replicate 4096 7

the_run : Run
unfolding opening calls
the_run = run (opening ∷ calls) (on_words lent_words)

accepted : refusal (opens 5 settings (replicate 256 0)) lent_words 256 ≡ 0
unfolding settings lent_words opening_refusal settings_ok keys_ok every all
accepted = refl

holds : Claim lent_words the_run.words (window_of the_run.words) the_book the_run.done
unfolding the_run the_book written opening calls act lent
holds = the_book_adds_up lent_words 5 settings (replicate 256 0) (replicate 256 blank_release) calls accepted (omega arith)

-- the total that the lent words hold: 2,912,688 less 2,558,312
lent_total : (window_of the_run.words).queue.total ≡ 354376
unfolding the_book
lent_total = ap (λ (w : Window). w.queue.total) holds.own_window ∙ refl

-- seat 9 alone waits, from 940 on
lent_start : get_or (window_of the_run.words).queue.starts 9 0 ≡ 941
unfolding the_book
lent_start = ap (λ (w : Window). get_or w.queue.starts 9 0) holds.own_window ∙ refl

-- ---- a second opening empties the book

second : Book
unfolding written calls settings opening act
second = written (opening ∷ []) the_book

second_empty : (second.lines ≡ []) × (second.own.queue.total ≡ 0)
unfolding second the_book
second_empty = (refl, refl)

-- ---- a plan: it opens no line, and what it sweeps is marked

-- heights 0 to 3 of the chain, nothing staged or refused
said : Lent
said = record {
  chain = 0 ∷ 0 ∷ 0 ∷ 9 ∷ 0 ∷ 0 ∷ 0 ∷ 1 ∷ 0 ∷ 0 ∷ 0 ∷ 2 ∷ 0 ∷ 0 ∷ 0 ∷ 3 ∷ [];
  tip = 3;
  staged = [];
  refused = [];
  start = 1;
  best = 3;
  floor = 0;
  exhausted = false;
  bytes = 1099511627776;
  count = 64;
}

-- seat 4 asks for 1 and 2, and its time is out at 2,000: seat 3's plan sweeps both, and names them again
planned_calls : List Act
unfolding act said
planned_calls =
    act (changes (requests 10 4 (0 ∷ 0 ∷ 0 ∷ 1 ∷ 0 ∷ 0 ∷ 0 ∷ 2 ∷ []) (1 ∷ 2 ∷ []) 3 0 0))
    ∷ act (changes (plans 2000 3 said 1024 256))
    ∷ []

planned : Book
unfolding written planned_calls settings
planned = written planned_calls (new_book 5 settings (replicate 256 0))

planned_marks : map (λ m. m.call ∷ m.place ∷ m.reason ∷ m.entry.hash.d ∷ []) (marks planned.lines) ≡ (2 ∷ 1 ∷ 6 ∷ 2 ∷ []) ∷ (2 ∷ 0 ∷ 6 ∷ 1 ∷ []) ∷ []
unfolding planned marks
planned_marks = refl

-- none is opened until the request is marked
planned_pending : pending_lines planned.lines ≡ []
unfolding planned pending_lines
planned_pending = refl

-- ---- what the claim rules out: that a call was done, and its answer said that it was refused

said_refused : {first ws : List ℕ} {w : Window} {b : Book} {h : List Done} (d : Done) (k : ℕ) → Claim first ws w b (d ∷ h)
    → refusal d.act.call (left_by first h) (length d.act.lent) ≡ 0 → d.outcome.answer ≡ refused k → ⊥
said_refused {first} {h = h} d k c q e =
    let r = refusal d.act.call (left_by first h) (length d.act.lent) in
    subst (λ (n : ℕ). Answered n (refused k)) q (subst (λ (a : Answer). Answered r a) e (c.refusals d (left_by first h) (inl (refl, refl))))

-- `fetches::mark_owned_fetch` meets its contract. Assumes nothing.
use mathlib.Core.Path.{refl, sym, subst, ◌∙◌}
use Rattle.model.specs.Calls.{Fetching, held, staged, asked, no_capacity}
use Rattle.model.specs.Layout.{window_of}
use Rattle.model.specs.declared.Fetch.TheVariants as fetch
use Rattle.laws.specs.RequestsKept.{AskingBy, asking_is}
use Rattle.laws.specs.Whole.{holds_whole, sound_rises}
use Rattle.fetches.specs.Fetches.{is_held, is_staged_there, is_asked, is_full, is_over, fetch_done, less_so, le_so}
use Rattle.fetches.proofs.mark_owned_fetch.Goals as goal

pub contains_pending-requires : goal.contains_pending-requires
contains_pending-requires c =
    let s = c in
    (s.requires.0, sound_rises s.args.clock (window_of s.args.words.now) s.requires.1.0)

pub returns-then-contains_pending : goal.returns-then-contains_pending
returns-then-contains_pending c =
    let s = c in
    let a = s.args in
    let w = window_of a.words.now in
    fetch_done a.owner a.h a.is_staged a.byte_headroom a.count_headroom w a.height a.clock a.words.now held fetch.Held
    (is_held a.owner a.h a.is_staged a.byte_headroom a.count_headroom w (sym c.contains_pending.ensures ∙ c.if-contains_pending.true)) refl (holds_whole a.words.now s.requires.0)

pub returns-then-is_staged : goal.returns-then-is_staged
returns-then-is_staged c =
    let s = c in
    let a = s.args in
    let w = window_of a.words.now in
    fetch_done a.owner a.h a.is_staged a.byte_headroom a.count_headroom w a.height a.clock a.words.now staged fetch.Staged
    (is_staged_there a.owner a.h a.is_staged a.byte_headroom a.count_headroom w (sym c.contains_pending.ensures ∙ c.if-contains_pending.false) c.if-is_staged.true) refl (holds_whole a.words.now s.requires.0)

pub pending_count_for-owned-requires : goal.pending_count_for-owned-requires
pending_count_for-owned-requires c = c.requires.0

pub has_request_capacity-requires : goal.has_request_capacity-requires
has_request_capacity-requires c = c.requires.0

pub ask-requires : goal.ask-requires
ask-requires c =
    let s = c in
    let a = s.args in
    let w = window_of a.words.now in
    let e = is_asked a.owner a.h a.is_staged a.byte_headroom a.count_headroom w (sym c.contains_pending.ensures ∙ c.if-contains_pending.false) c.if-is_staged.false (sym c.has_request_capacity.ensures ∙ c.if-has_request_capacity.true) (less_so c.pending_count_for-owned.ensures c.effective_peer_inflight-limit.ensures c.if-owned-limit.true) in
    (s.requires.0, (s.requires.1.0, (subst (λ (f : Fetching). AskingBy f a.h w) e (asking_is a.owner a.h a.is_staged a.byte_headroom a.count_headroom s.requires.1.0), s.requires.1.1)))

pub returns-then-owned-limit : goal.returns-then-owned-limit
returns-then-owned-limit c =
    let s = c in
    let a = s.args in
    let w = window_of a.words.now in
    let e = is_asked a.owner a.h a.is_staged a.byte_headroom a.count_headroom w (sym c.contains_pending.ensures ∙ c.if-contains_pending.false) c.if-is_staged.false (sym c.has_request_capacity.ensures ∙ c.if-has_request_capacity.true) (less_so c.pending_count_for-owned.ensures c.effective_peer_inflight-limit.ensures c.if-owned-limit.true) in
    fetch_done a.owner a.h a.is_staged a.byte_headroom a.count_headroom w a.height a.clock c.ask.new.words asked fetch.Asked e refl c.ask.ensures

pub returns-else-owned-limit : goal.returns-else-owned-limit
returns-else-owned-limit c =
    let s = c in
    let a = s.args in
    let w = window_of a.words.now in
    let e = is_over a.owner a.h a.is_staged a.byte_headroom a.count_headroom w (sym c.contains_pending.ensures ∙ c.if-contains_pending.false) c.if-is_staged.false (sym c.has_request_capacity.ensures ∙ c.if-has_request_capacity.true) (le_so c.effective_peer_inflight-limit.ensures c.pending_count_for-owned.ensures c.if-owned-limit.false) in
    fetch_done a.owner a.h a.is_staged a.byte_headroom a.count_headroom w a.height a.clock a.words.now no_capacity fetch.NoCapacity e refl (holds_whole a.words.now s.requires.0)

pub returns-else-has_request_capacity : goal.returns-else-has_request_capacity
returns-else-has_request_capacity c =
    let s = c in
    let a = s.args in
    let w = window_of a.words.now in
    let e = is_full a.owner a.h a.is_staged a.byte_headroom a.count_headroom w (sym c.contains_pending.ensures ∙ c.if-contains_pending.false) c.if-is_staged.false (sym c.has_request_capacity.ensures ∙ c.if-has_request_capacity.false) in
    fetch_done a.owner a.h a.is_staged a.byte_headroom a.count_headroom w a.height a.clock a.words.now no_capacity fetch.NoCapacity e refl (holds_whole a.words.now s.requires.0)

-- `queries::compute_request_capacity` meets its contract. Assumes nothing.
use mathlib.Core.Path.{sym, ◌∙◌}
use Rattle.model.specs.Layout.{window_of}
use Rattle.capacity.specs.OnNumbers.{capacity_by, compute_request_capacity_by}
use Rattle.queries.proofs.compute_request_capacity.Goals as goal

pub returns : goal.returns
returns c =
    let a = c.args in
    c.compute_capacity.ensures
    ∙ (λ i. capacity_by (c.get_settings-b.ensures i) (c.get_fanout-f.ensures i) (c.pending_count_for-owned.ensures i) (c.pending_count-n.ensures.0 i) (c.get_total-total.ensures i) (c.get_mean-mean.ensures i) a.byte_headroom a.count_headroom)
    ∙ sym (compute_request_capacity_by a.source a.byte_headroom a.count_headroom (window_of a.words.now))

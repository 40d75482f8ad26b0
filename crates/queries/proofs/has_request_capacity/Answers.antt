-- `queries::has_request_capacity` meets its contract. Assumes nothing.
use mathlib.Core.Path.{◌∙◌}
use Rattle.model.specs.Capacity.{capacity_left, has_request_capacity}
use Rattle.queries.proofs.has_request_capacity.Goals as goal

pub returns : goal.returns
unfolding has_request_capacity
returns c =
    let a = c.args in
    c.capacity_left.ensures ∙ (λ i. capacity_left (c.get_settings-b.ensures i) (c.pending_count-n.ensures.0 i) (c.get_total-total.ensures i) (c.get_mean-mean.ensures i) a.byte_headroom a.count_headroom)

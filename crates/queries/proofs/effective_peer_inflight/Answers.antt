-- `queries::effective_peer_inflight` meets its contract. Assumes nothing.
use mathlib.Core.Path.{◌∙◌}
use Rattle.model.specs.Capacity.{peer_inflight, effective_peer_inflight}
use Rattle.queries.proofs.effective_peer_inflight.Goals as goal

pub returns : goal.returns
unfolding effective_peer_inflight
returns c = c.peer_inflight.ensures ∙ (λ i. peer_inflight (c.get_settings-b.ensures i) (c.get_fanout-f.ensures i))

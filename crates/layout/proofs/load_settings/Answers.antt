-- `layout::load_settings` meets its contract. Assumes nothing.
use mathlib.Core.Path.{sym}
use Rattle.model.specs.Layout.{settings_of}
use Rattle.laws.specs.Tables.{word_decode}
use Rattle.layout.proofs.load_settings.Goals as goal

pub returns : goal.returns
unfolding settings_of
returns c =
    let ws = c.args.words.now in
    λ i. record {
      max_pending_blocks = sym (word_decode 8 ws) i;
      max_pending_bytes = sym (word_decode 9 ws) i;
      max_received_blocks = sym (word_decode 10 ws) i;
      max_peer_inflight = sym (word_decode 11 ws) i;
      fanout_peer_inflight = sym (word_decode 12 ws) i;
      min_peers_for_fanout = sym (word_decode 13 ws) i;
      getdata_batch_limit = sym (word_decode 14 ws) i;
      block_spacing = sym (word_decode 15 ws) i;
      received_timeout = sym (word_decode 16 ws) i;
      stall_timeout_initial = sym (word_decode 17 ws) i;
      stall_timeout_max = sym (word_decode 18 ws) i;
      staller_cooldown = sym (word_decode 19 ws) i;
    }

-- The arguments of a call from a place on. Definitions only.
use Rattle.std.specs.Prelude.{ℕ, ◌+◌, List, min, take, slice_index}
use Rattle.model.specs.declared.Settings.{Settings}
use Rattle.recorded.specs.Stream.{on, nth, row_at}
use Rattle.recorded.specs.declared.Opening.{Opening}

abbrev pub settings_at : List ℕ → ℕ → Settings
settings_at ns place = record {
  max_pending_blocks = nth ns place 0;
  max_pending_bytes = nth ns place 1;
  max_received_blocks = nth ns place 2;
  max_peer_inflight = nth ns place 3;
  fanout_peer_inflight = nth ns place 4;
  min_peers_for_fanout = nth ns place 5;
  getdata_batch_limit = nth ns place 6;
  block_spacing = nth ns place 7;
  received_timeout = nth ns place 8;
  stall_timeout_initial = nth ns place 9;
  stall_timeout_max = nth ns place 10;
  staller_cooldown = nth ns place 11;
}

-- twelve settings, how many keys, the keys, the clock
abbrev pub opening_at : List ℕ → ℕ → Opening
opening_at ns place = record { settings = settings_at ns place; keys = row_at (λ n. n) 256 ns (on place 13); clock = nth ns place 269 }

-- after k plain arguments a list of words of hashes with its length before it, at most 1,024
abbrev pub words_at : ℕ → List ℕ → ℕ → List ℕ
words_at k ns place = take (min (nth ns place k) 1024) (row_at (λ n. n) 1024 ns (on place (k + 1)))

-- and then a second list: where its length stands
abbrev pub second_list : ℕ → List ℕ → ℕ → ℕ
second_list k ns place = on (on place (k + 1)) (min (nth ns place k) 1024)

module _ {A : Type 0} (of : ℕ → A) where
  abbrev pub behind_words : ℕ → List ℕ → ℕ → List A
  behind_words k ns place = take (min (slice_index ns (second_list k ns place)) 256) (row_at of 256 ns (on (second_list k ns place) 1))

-- one list: a flag for each seat
abbrev pub flags_at : List ℕ → ℕ → List ℕ
flags_at ns place = row_at (λ n. n) 256 ns (on place 1)

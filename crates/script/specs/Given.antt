-- What a call of the demo is given by its numbers, and what is written of it.
use Rattle.std.specs.Prelude.{Bool, true, false, cond, List, ℕ, zero, suc, ◌+◌, ◌*◌, ◌-◌, ◌%◌, ltb, set, replicate, min, Option, None, Some, Result}
use Rattle.model.specs.declared.Settings.{Settings}
use Rattle.model.specs.declared.Refusal.{Refusal}
use Rattle.ledger.specs.Book.{value}
use Rattle.lines.specs.declared.Call.{Call}
use Rattle.lines.specs.declared.Call.TheVariants.{MarkRequested, NextPeerRequest}
use Rattle.lines.specs.declared.Made.{Made}
use Rattle.lines.specs.declared.After.{After}
use Rattle.script.specs.declared.Step.{Step}
use Rattle.script.specs.declared.Plan.{Plan}
use Rattle.script.specs.declared.Span.{Span}

-- the Rust's `default_sync_budget`, with a block every ten minutes
abbrev pub settings : Settings
settings = record {
  max_pending_blocks = 256;
  max_pending_bytes = 536870912;
  max_received_blocks = 256;
  max_peer_inflight = 256;
  fanout_peer_inflight = 16;
  min_peers_for_fanout = 8;
  getdata_batch_limit = 256;
  block_spacing = 600000000000;
  received_timeout = 60000000000;
  stall_timeout_initial = 2000000000;
  stall_timeout_max = 64000000000;
  staller_cooldown = 64000000000;
}

-- the first so many seats with their keys
unfoldable pub keys : ℕ → List ℕ
keys zero = replicate 256 0
keys (suc i) = set (keys i) i i

-- heights have 32 bits
abbrev pub height_of : ℕ → ℕ
height_of n = n % 4294967296

abbrev pub height_after : ℕ → ℕ → ℕ
height_after first n = height_of (first + n)

-- in so many words the first so many blocks from one on: hashes of four words, of which the last is the height
unfoldable pub hashes : ℕ → ℕ → ℕ → List ℕ
hashes words zero first = replicate words 0
hashes words (suc i) first = set (hashes words i first) (4 * i + 3) (first + i)

-- how many words of the chain, which has 64 blocks, go up to the tip
unfoldable pub words_to : ℕ → ℕ
words_to tip = 4 * min (tip + 1) 64

-- ---- the blocks that a call names

abbrev pub shown_if : Bool → ℕ → Option ℕ
shown_if true n = Some n
shown_if false n = None

-- the first where there is one, the last where there are several
abbrev pub span_of : ℕ → ℕ → ℕ → Span
span_of count first last = record { first = shown_if (ltb 0 count) first; last = shown_if (ltb 1 count) last }

-- of more than eight only eight
abbrev pub last_of : ℕ → ℕ → ℕ
last_of first count = first + (min count 8 - 1)

abbrev pub of_plan : Option Plan → Span
of_plan None = span_of 0 0 0
of_plan (Some p) = span_of p.count p.first p.last

-- one marks the plan, the other makes it
abbrev pub names_plan : Call → Bool
names_plan MarkRequested = true
names_plan NextPeerRequest = true
names_plan _ = false

-- of the plan, or of the script
unfoldable pub named : Step → Option Plan → Span
named s p = cond (names_plan s.call) (of_plan p) (span_of s.count s.first (last_of s.first s.count))

-- a call that names no peer has 0 there
unfoldable pub made : Step → Option Plan → Made
made s p = record {
  time = s.time;
  call = s.call;
  peer = shown_if (ltb 0 s.peer) s.peer;
  first = (named s p).first;
  last = (named s p).last;
}

-- what the window says is pending: blocks, bytes, and the peer's blocks
abbrev pub after_of : Result ℕ Refusal → Result ℕ Refusal → Result ℕ Refusal → After
after_of in_blocks in_bytes of_peer = record { pending = value in_blocks; bytes = value in_bytes; share = value of_peer }

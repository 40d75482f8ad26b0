-- What is lent for a plan, what planning may rely on, and what it leaves. Definitions only.
use Rattle.std.specs.Prelude.{◌≡◌, Bool, true, false, List, ℕ, suc, ◌*◌, ◌≤◌, length}
use Rattle.model.specs.Numbers.{max_seat}
use Rattle.model.specs.Layout.{window_of}
use Rattle.model.specs.Window.{Window}
use Rattle.model.specs.Planning.{Lent, Proposal, next_peer_request, next_peer_request_allowing_retry, ask_hashes, ask_heights, written}
use Rattle.model.specs.Perform.{plan_values}
use Rattle.model.specs.Says.{request_values}
use Rattle.model.specs.declared.NextRequest.{NextRequest}
use Rattle.laws.specs.Sound.{Sound}
use Rattle.laws.specs.Whole.{Whole, Holds}
use Rattle.report_words.specs.Report.{releases_of}
use Rattle.planning.specs.declared.Given.{Given}

-- what is lent and said for a plan, in the order of the parameters
abbrev pub lent : List ℕ → ℕ → ℕ → ℕ → ℕ → List ℕ → List ℕ → Bool → ℕ → ℕ → Lent
lent chain tip start best floor staged refused exhausted bytes count = record {
  chain = chain;
  tip = tip;
  staged = staged;
  refused = refused;
  start = start;
  best = best;
  floor = floor;
  exhausted = exhausted;
  bytes = bytes;
  count = count;
}

-- as the code is given it
abbrev pub lent_by : Given → Lent
lent_by g = lent g.chain.now g.tip g.start g.best g.floor g.staged.now g.refused.now g.exhausted g.byte_headroom g.count_headroom

-- the proposal of the call that allows a retry, and of the one that does not
abbrev pub planned_by : Bool → ℕ → Lent → ℕ → Window → Proposal
planned_by true source l clock w = next_peer_request_allowing_retry source l clock w
planned_by false source l clock w = next_peer_request source l clock w

-- a call that was not refused: of the clock and the source, the words, the words for what goes, the two lists of the plan, what is lent
abbrev pub Ready : ℕ → ℕ → List ℕ → List ℕ → List ℕ → List ℕ → Lent → Type 0
Ready clock source ws gone hashes heights l =
    Whole ws
    × Sound clock (window_of ws)
    × (length gone ≡ 2304)
    × (1024 ≤ length hashes)
    × (256 ≤ length heights)
    × (length l.chain ≡ 4 * suc l.tip)
    × (source ≤ max_seat)

-- the proposal p in the words that are left, in the flat words of what went, and in the two lists, as they were lent and as they are left
abbrev pub Proposes : Proposal → NextRequest → List ℕ → List ℕ → List ℕ → List ℕ → List ℕ → List ℕ → Type 0
Proposes p r ws' gone hashes hashes' heights heights' =
    (r.places ≤ 256)
    × Holds p.window ws'
    × (releases_of r.places gone ≡ p.gone)
    × (hashes' ≡ written (ask_hashes p.asks) hashes)
    × (heights' ≡ written (ask_heights p.asks) heights)
    × (request_values r.request ≡ plan_values p.asks p.next)

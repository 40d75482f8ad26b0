-- What the code asks, and what it gives. Assumes nothing.
use Rattle.std.specs.Prelude.{◌≡◌, refl, List, [], ◌∷◌, ℕ, zero, suc, ◌+◌, ◌*◌, ◌-◌, ◌/◌, ◌≤◌, length, None, Option}
use Rattle.model.specs.Numbers.{lesser, greater, max_height}
use Rattle.model.specs.Window.{Window, Step}
use Rattle.model.specs.Layout.{window_of}
use Rattle.model.specs.Calls.{Ask}
use Rattle.model.specs.Planning.{Lent, Scan, Draft, Proposal, contiguous_request_entries, request_from, scan_of, ask_hashes, ask_heights, written}
use Rattle.model.specs.Perform.{plan_values}
use Rattle.model.specs.Says.{request_values}
use Rattle.model.specs.declared.Entry.{Entry}
use Rattle.model.specs.declared.Request.{Request}
use Rattle.listed.specs.Index.{Indexed}
use Rattle.plan_scan.specs.declared.RequestScan.{RequestScan}
use Rattle.plan_scan.specs.declared.Scanning.{Scanning}
use Rattle.plan_look.specs.Scan.{scanned, scan_over}
use Rattle.plan_look.specs.Plan.{Drawn}

-- ---- `scan_of`

abbrev pub scan_says : RequestScan → Scan
scan_says r = record { height = r.height; tip = r.tip; limit = r.limit; next = r.next }

abbrev pub scan_at : ℕ → ℕ → ℕ → ℕ → ℕ → ℕ → ℕ → Window → Scan
scan_at tip start best floor batch count bytes w = record {
  height = greater (greater start w.frontier) floor;
  tip = lesser tip best;
  limit = lesser (batch - count) (bytes / w.mean);
  next = w.frontier;
}

pub scan_of_is : (l : Lent) (w : Window) (batch : ℕ) (d : Draft) → scan_of l w batch d ≡ scan_at l.tip l.start l.best l.floor batch (length d.asks) d.bytes w
unfolding scan_of
scan_of_is l w batch d = refl

-- ---- the scan

-- the chain reaches to `last`, and the plan's lists have room for `full`
pub record Scannable (chain hs ts index : List ℕ) (last count full : ℕ) : Type 0 where
  pub reaches : 4 * suc last ≤ length chain
  pub top : last ≤ max_height
  pub plan : Indexed count hs index
  pub more : count ≤ full
  pub few : full ≤ 256
  pub hashes : 1024 ≤ length hs
  pub heights : 256 ≤ length ts

-- of every plan that the lists held
abbrev pub Scans : List Entry → List ℕ → List ℕ → List ℕ → List ℕ → List ℕ → ℕ → ℕ → ℕ → ℕ → ℕ → List ℕ → List ℕ → Scanning → Type 0
Scans es chain staged refused hs ts from last count full next hs' ts' r =
    (asks : List Ask) (hs₀ ts₀ : List ℕ) → count ≡ length asks → hs ≡ written (ask_hashes asks) hs₀ → ts ≡ written (ask_heights asks) ts₀
    → Drawn (scan_over es staged refused (contiguous_request_entries from last chain) (scanned asks None next (full - count))) hs₀ ts₀ full r.count r.first r.next hs' ts'

-- ---- the request

-- what a scan asks of the chain and of the plan's lists, at the window that the words hold
pub record Plannable (ws chain hs ts index : List ℕ) (s : RequestScan) (count : ℕ) : Type 0 where
  pub reaches : 4 * suc s.tip ≤ length chain
  pub top : s.tip ≤ max_height
  pub frontier : s.next ≡ (window_of ws).frontier
  pub above : s.next ≤ s.height
  pub plan : Indexed count hs index
  pub room : count + s.limit ≤ 256
  pub hashes : 1024 ≤ length hs
  pub heights : 256 ≤ length ts

-- l lends these lists, t leaves this window, d is the plan so far, and the two lists hold it
pub record Given (chain staged refused : List ℕ) (w : Window) (hs ts : List ℕ) (n : ℕ) (lowest : Option ℕ) (l : Lent) (t : Step) (d : Draft) (hs₀ ts₀ : List ℕ) : Type 0 where
  pub chain_is : l.chain ≡ chain
  pub staged_is : l.staged ≡ staged
  pub refused_is : l.refused ≡ refused
  pub window : t.window ≡ w
  pub count : n ≡ length d.asks
  pub low : d.low ≡ lowest
  pub hashes : hs ≡ written (ask_hashes d.asks) hs₀
  pub heights : ts ≡ written (ask_heights d.asks) ts₀

-- what a request says of n entries: nothing where there are none
unfoldable pub plan_numbers : ℕ → ℕ → List ℕ
plan_numbers zero next = []
plan_numbers (suc n) next = suc n ∷ next ∷ []

-- the two lists hold the proposal's entries, and the request says how many they are, and the next height
pub record Planned (p : Proposal) (hs₀ ts₀ hs ts : List ℕ) (r : Option Request) : Type 0 where
  pub values : request_values r ≡ plan_values p.asks p.next
  pub hashes : hs ≡ written (ask_hashes p.asks) hs₀
  pub heights : ts ≡ written (ask_heights p.asks) ts₀

abbrev pub Proposes : List ℕ → List ℕ → List ℕ → Window → List ℕ → List ℕ → RequestScan → ℕ → Option ℕ → List ℕ → List ℕ → Option Request → Type 0
Proposes chain staged refused w hs ts s count low hs' ts' r =
    (l : Lent) (t : Step) (d : Draft) (hs₀ ts₀ : List ℕ) → Given chain staged refused w hs ts count low l t d hs₀ ts₀ → Planned (request_from l t (scan_says s) d) hs₀ ts₀ hs' ts' r

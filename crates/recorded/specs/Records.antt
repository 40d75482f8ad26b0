-- Where the parts of a record stand, and what its runs do to the words. Definitions only.
use Rattle.std.specs.Bool.{then_some}
use Rattle.std.specs.Prelude.{Option, ℕ, zero, suc, ◌-◌, ◌*◌, ◌%◌, ◌^◌, cond, ◌&&◌, List, nat_le, nat_lt, slice_index}
use Rattle.recorded.specs.Each.{each}
use Rattle.recorded.specs.Stream.{on, nth, is_set}
use Rattle.recorded.specs.declared.Record.{Record}

abbrev pub nine_times : ℕ → ℕ
nine_times n = (9 * n) % 2 ^ 64

abbrev pub answer_place : List ℕ → ℕ → ℕ
answer_place ns place = on (on place 5) (nth ns place 1)

abbrev pub gone_place : List ℕ → ℕ → ℕ
gone_place ns place = on (answer_place ns place) (nth ns place 2)

abbrev pub runs_place : List ℕ → ℕ → ℕ
runs_place ns place = on (gone_place ns place) (nine_times (nth ns place 3))

abbrev pub next_place : List ℕ → ℕ → ℕ
next_place ns place = on (runs_place ns place) (nth ns place 4)

abbrev pub parts_at : List ℕ → ℕ → Record
parts_at ns place = record {
  number = slice_index ns place;
  args = on place 5;
  answer = record { at = answer_place ns place; n = nth ns place 2 };
  places = nth ns place 3;
  gone = record { at = gone_place ns place; n = nine_times (nth ns place 3) };
  runs = runs_place ns place;
  next = next_place ns place;
}

-- the number 0 is no call
unfoldable pub record_at : List ℕ → ℕ → Option Record
record_at ns place = then_some (is_set (slice_index ns place)) (parts_at ns place)

-- the i-th word after a run of n words from the first on, which stand two places on
abbrev pub word_after : List ℕ → ℕ → ℕ → ℕ → ℕ → ℕ → ℕ
word_after ns place first n i word = cond (nat_le first i && nat_lt (i - first) n) (nth ns (on place 2) (i - first)) word

unfoldable pub run_put : List ℕ → ℕ → List ℕ → List ℕ
run_put ns place = each (word_after ns place (slice_index ns place) (nth ns place 1))

abbrev pub next_run : List ℕ → ℕ → ℕ
next_run ns place = on (on place 2) (nth ns place 1)

-- at most so many runs, from a place to before the end
unfoldable pub runs_put : ℕ → List ℕ → ℕ → ℕ → List ℕ → List ℕ
runs_put zero ns place end ws = ws
runs_put (suc most) ns place end ws = cond (nat_le end place) ws (runs_put most ns (next_run ns place) end (run_put ns place ws))

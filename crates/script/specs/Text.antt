-- The demo's script as text: where a line ends, the number in its columns, and the call that it is.
use Rattle.std.specs.Prelude.{cond, List, [], ◌∷◌, ℕ, zero, suc, ◌+◌, ◌*◌, ◌-◌, ◌%◌, eqb, ltb, get_or}
use Rattle.model.specs.declared.Hash.{Hash}
use Rattle.std.specs.Option.{unwrap_or}
use Rattle.lines.specs.Words.{numbered}
use Rattle.lines.specs.declared.Call.{Call}
use Rattle.lines.specs.declared.Call.TheVariants.{Other}
use Rattle.script.specs.declared.Step.{Step}

-- how many bytes the first line of a text has, its line end with them
unfoldable pub line_length : List ℕ → ℕ
line_length [] = 0
line_length (byte ∷ rest) = cond (eqb byte 10) 1 (suc (line_length rest))

-- a digit behind a number, of which the last eight digits stay; another byte leaves it as it is
abbrev pub with_digit : ℕ → ℕ → ℕ
with_digit n byte = cond (ltb byte 48) n (cond (ltb 57 byte) n (n % 100000000 * 10 + (byte - 48)))

-- the number in so many columns of a line from a place on; past its end stands 0, which is no digit
unfoldable pub number_in : List ℕ → ℕ → ℕ → ℕ
number_in line from zero = 0
number_in line from (suc i) = with_digit (number_in line from i) (get_or line (from + i) 0)

-- the block of a height: there is one chain, and its hashes count up
abbrev pub hash_of : ℕ → Hash
hash_of height = record { a = 0; b = 0; c = 0; d = height }

-- a number that is no call's is kept as it is
abbrev pub called : ℕ → Call
called n = unwrap_or (numbered n) (Other n)

-- the columns of a call's line: after the colon 3 for which call, 6 for tenths of a second, 4 for the peer, 3 and 2 for the first block and how many, 7 for one number more
unfoldable pub step_of : List ℕ → Step
step_of line = record {
  call = called (number_in line 1 3);
  time = number_in line 4 6;
  clock = number_in line 4 6 * 100000000;
  peer = number_in line 10 4;
  first = number_in line 14 3;
  hash = hash_of (number_in line 14 3);
  count = number_in line 17 2;
  other = number_in line 19 7;
}

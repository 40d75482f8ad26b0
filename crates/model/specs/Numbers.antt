-- Numbers: limits, lesser and greater, and times that may be missing. Definitions only.
use Rattle.std.specs.Prelude.{ℕ, suc, ◌+◌, ◌-◌, ◌/◌, Bool, cond, not, ◌&&◌, eqb, leb}

unfoldable pub lesser : ℕ → ℕ → ℕ
lesser a b = cond (leb a b) a b

unfoldable pub greater : ℕ → ℕ → ℕ
greater a b = cond (leb a b) b a

-- `div_ceil`, for a divisor above 0
unfoldable pub div_ceil : ℕ → ℕ → ℕ
div_ceil a b = (a + (b - 1)) / b

-- SPECIFICATION 1.3: a clock is at most 2^62
abbrev pub max_clock : ℕ
max_clock = 4611686018427387904

-- SPECIFICATION 4.1, refusal 4: a clock is at most 2^62 and not before the last accepted one
unfoldable pub clock_ok : ℕ → ℕ → Bool
clock_ok last c = leb c max_clock && leb last c

-- the moment that an accepted clock stands for: the clock itself, whatever the last accepted one is
unfoldable pub read_clock : ℕ → ℕ → ℕ
read_clock last c = c

-- SPECIFICATION 1.1: a height has 32 bits
abbrev pub max_height : ℕ
max_height = 4294967295

-- `height.saturating_add(1)`
unfoldable pub next_height : ℕ → ℕ
next_height h = lesser (suc h) max_height

-- SPECIFICATION 9.2: estimates and mean lie in 80 to 4,294,967,295
abbrev pub min_estimate : ℕ
min_estimate = 80

abbrev pub max_estimate : ℕ
max_estimate = 4294967295

-- SPECIFICATION 4.1, refusal 9: a body's bytes. Another name than `max_estimate`, since the two need not stay equal
abbrev pub max_body : ℕ
max_body = 4294967295

-- SPECIFICATION 4.1, refusal 5
abbrev pub max_duration : ℕ
max_duration = 1000000000000000

abbrev pub max_byte_limit : ℕ
max_byte_limit = 1099511627776

abbrev pub max_count : ℕ
max_count = 65535

-- the records that a window holds at most
abbrev pub max_pending : ℕ
max_pending = 256

-- SPECIFICATION 1.2: seats and keys are 0 to 255
abbrev pub max_seat : ℕ
max_seat = 255

-- the greatest front mean in ms that clocks up to 2^62 can give: 2^62 / 10^6
abbrev pub max_front_mean : ℕ
max_front_mean = 4611686018427

-- a racer's progress and what a probe accepted are bytes
abbrev pub max_progress : ℕ
max_progress = 255

-- A time that may be missing is 0 where it is, and t + 1 for the time t.
unfoldable pub present : ℕ → Bool
present s = not (eqb s 0)

-- `now.duration_since(t)` of a stored t + 1
unfoldable pub age : ℕ → ℕ → ℕ
age now s = suc now - s

-- A list of calls on lent words, each with the report lent to it. Definitions only.
use Rattle.std.specs.Prelude.{List, [], ◌∷◌, ℕ}
use Rattle.model.specs.Refusals.{Call}
use Rattle.model.specs.Perform.{Outcome, perform}
use Rattle.model.specs.declared.Release.{Release}
use Rattle.laws.specs.Fits.{Fits}

-- a call with its arguments, and the report that is lent to it
pub record Act : Type 0 where
  pub call : Call
  pub lent : List Release

-- a call that was made: what it was given, and what came of it
pub record Done : Type 0 where
  pub act : Act
  pub outcome : Outcome

-- the lent words as the last call left them, and the calls that were made, the latest first
pub record Run : Type 0 where
  pub words : List ℕ
  pub done : List Done

-- each call gets the words as the one before left them
unfoldable pub run_step : Act → Run → Run
run_step a s = let o = perform a.call s.words a.lent in record { words = o.words; done = record { act = a; outcome = o } ∷ s.done }

unfoldable pub run : List Act → Run → Run
run [] s = s
run (a ∷ rest) s = run rest (run_step a s)

-- words of any content, before the first call
abbrev pub on_words : List ℕ → Run
on_words ws = record { words = ws; done = [] }

-- the arguments of all are such as the code's types can hold
abbrev pub AllFit : List Act → Type 0
AllFit [] = Unit {0}
AllFit (a ∷ rest) = Fits a.call × AllFit rest

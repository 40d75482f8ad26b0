-- A report of 256 places, none of them filled.
use Rattle.std.specs.Prelude.{List, replicate}
use Rattle.model.specs.declared.Release.{Release}

abbrev pub blank : Release
blank = record { entry = record { hash = record { a = 0; b = 0; c = 0; d = 0 }; owner = 0; time = 0; height = 0; estimate = 0 }; reason = 0 }

unfoldable pub none_filled : List Release
none_filled = replicate 256 blank

-- The model's `valid`, condition by condition, both ways. Assumes nothing.
use Rattle.std.specs.Prelude.{◌≡◌, true, drop, eqb, leb}
use Rattle.model.specs.Numbers.{max_seat}
use Rattle.model.specs.Lists.{all}
use Rattle.model.specs.Records.{sum}
use Rattle.model.specs.Layout.{Table, word, live, is_0, time_ok, counts_ok, settings_ok, settings_of, small_ok, stall_ok, stuck_ok, cold_ok, hedged_ok, observation_ok, probe_ok, zeros, head_ok, is_blank, entry_ok, rising, starts_ok, tables_ok, records_ok, valid}
use Rattle.facts.specs.Flags.{Says, more, none}
use Rattle.laws.specs.Every.{hold}

pub record Sound (t : Table) : Type 0 where
  pub counts : counts_ok t ≡ true
  pub settings : settings_ok (settings_of t) ≡ true
  pub small : small_ok t ≡ true
  pub stall : stall_ok t ≡ true
  pub stuck : stuck_ok t ≡ true
  pub cold : cold_ok t ≡ true
  pub hedged : hedged_ok t ≡ true
  pub observation : observation_ok t ≡ true
  pub probe : probe_ok t ≡ true
  pub rest : zeros 97 415 t ≡ true
  pub spare : all is_0 t.spare ≡ true
  pub clear : all is_blank (drop (word 1 t) t.entries) ≡ true
  pub each : all (entry_ok (word 2 t)) (live t) ≡ true
  pub rises : rising (live t) ≡ true
  pub sums : eqb (word 3 t) (sum (live t)) ≡ true
  pub starts : starts_ok (word 2 t) (live t) 0 t.starts ≡ true
  pub bodies : all (λ s. time_ok s t) t.bodies ≡ true
  pub keys : all (λ k. leb k max_seat) t.keys ≡ true
  pub cooling : all (λ s. time_ok s t) t.cooling ≡ true
  pub racers : all (λ r. leb r 256) t.racers ≡ true

sound : (t : Table) → valid t ≡ true → Sound t
unfolding valid head_ok records_ok tables_ok
sound t e =
    let h = hold _ (hold _ e 0) in
    let r = hold _ (hold _ e 2) in
    let s = hold _ (hold _ e 3) in
    record {
      counts = h 0;
      settings = h 1;
      small = h 2;
      stall = h 3;
      stuck = h 4;
      cold = h 5;
      hedged = h 6;
      observation = h 7;
      probe = h 8;
      rest = h 9;
      spare = hold _ e 1;
      clear = r 0;
      each = r 1;
      rises = r 2;
      sums = r 3;
      starts = s 0;
      bodies = s 1;
      keys = s 2;
      cooling = s 3;
      racers = s 4;
    }

back : (t : Table) → Sound t → valid t ≡ true
unfolding valid head_ok records_ok tables_ok
back t s =
    more _
    (more _ s.counts (more _ s.settings (more _ s.small (more _ s.stall (more _ s.stuck (more _ s.cold (more _ s.hedged (more _ s.observation (more _ s.probe (more _ s.rest none))))))))))
    (more _ s.spare
    (more _ (more _ s.clear (more _ s.each (more _ s.rises (more _ s.sums none))))
    (more _ (more _ s.starts (more _ s.bodies (more _ s.keys (more _ s.cooling (more _ s.racers none))))) none)))

pub valid_says : (t : Table) → Says (valid t) (Sound t)
valid_says t = record { gives = sound t; from = back t }

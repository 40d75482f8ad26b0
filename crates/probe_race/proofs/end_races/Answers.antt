-- `probe_race::end_races` meets its contract. Assumes nothing.
use Rattle.model.specs.Window.{with_cold, with_observation}
use Rattle.model.specs.declared.ColdFront.TheVariants.{Idle}
use Rattle.model.specs.declared.Observation.TheVariants.{Unarmed}
use Rattle.rules.specs.Rows.{then}
use Rattle.probe_race.proofs.end_races.Goals as goal

pub returns : goal.returns
returns c = then (λ v. with_observation Unarmed v) (then (λ v. with_cold Idle v) c.clear_probe.ensures c.set_cold.ensures) c.set_observation.ensures

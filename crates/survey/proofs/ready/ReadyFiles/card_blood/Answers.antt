-- `survey::ready::ReadyFiles::card_blood` meets its contract: the course of the row's own scenario.
use Rattle.steps.specs.Steps.{steps_a_day}
use Rattle.survey.proofs.RowAnswers.{row_decoded, card-answered}
use Rattle.survey.proofs.ready.ReadyFiles.card_blood.Goals as goal

pub invariant_of-own : goal.invariant_of-own
invariant_of-own c = record { decoded = rw c.row_scenario-scenario.ensures (row_decoded _ c.args.running.now.running _ _ c.args.self.now.ready) }

pub returns : goal.returns
returns c = card-answered steps_a_day _ _ _ c.course.result c.row_scenario-scenario.ensures c.months-age.ensures c.course.ensures

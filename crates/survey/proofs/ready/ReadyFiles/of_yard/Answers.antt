-- `survey::ready::ReadyFiles::of_yard` gives a child's files: they are ready.
use Rattle.survey.proofs.RowAnswers.{ready_decoded}
use Rattle.survey.proofs.ready.ReadyFiles.of_yard.Goals as goal

pub invariant_of-result : goal.invariant_of-result
invariant_of-result c = record { decoded = ready_decoded c.args.self.now.ready }

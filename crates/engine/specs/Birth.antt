-- The birth call: its refusals, and what it answers.
-- Assumes nothing.
use Rattle.std.specs.Prelude.{ℕ, List, [], ◌∷◌}
use Rattle.numbers.specs.Choice.{first_of}
use Rattle.child.specs.Answers.{BirthAnswer}
use Rattle.child.specs.Birth.{newborn, newborn_refusal, birth_answer}
use Rattle.files.specs.Files.{Files, files_refusal, scenario_in, table_in}

-- why birth is refused: the files, then 22
abbrev pub birth_refusals : Files → List ℕ
birth_refusals f = files_refusal f ∷ newborn_refusal (scenario_in f) (table_in f) ∷ []

unfoldable pub birth_refusal : Files → ℕ
birth_refusal f = first_of (birth_refusals f)

-- what birth answers
unfoldable pub birth_of : Files → BirthAnswer
birth_of f = birth_answer (birth_refusal f) (newborn (scenario_in f) (table_in f))

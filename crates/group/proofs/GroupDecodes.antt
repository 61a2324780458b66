-- A group's count is that of its files.
-- Assumes nothing.
use Rattle.files.proofs.Decodes as files
use Rattle.group.specs.Laws.{DecodesLaw}

pub decodes_law : DecodesLaw
decodes_law f text = files.decodes_law f

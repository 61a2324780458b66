-- `engine::room::Room::accept_counted` hands out a child of accepted files: they give what a child needs.
use mathlib.Core.Path.{refl}
use Rattle.engine.proofs.FilesDecoded.{read_decoded, files_are_those}
use Rattle.engine.proofs.room.Room.accept_counted.Goals as goal

pub invariant_of-result : goal.invariant_of-result
invariant_of-result c = record { decoded = rw c.insert-scenario.ensures.value (read_decoded (files_are_those c.in_ok-read.ensures refl)) }

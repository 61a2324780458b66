-- The fields of a row after ID as they are read.
-- Assumes nothing.
use Rattle.figures.specs.Reading.{Reading}

pub record Readings : Type 0 where
  pub fam : Reading
  pub block : Reading
  pub age : Reading
  pub soil : Reading
  pub dust : Reading
  pub water : Reading
  pub air : Reading
  pub other : Reading
  pub pbb : Reading
  pub abssoil : Reading
  pub absdust : Reading

-- For the contracts between the functions: what the writers of a text do to lent bytes. No open call's contract needs it.
-- Assumes nothing.
use Rattle.std.specs.Prelude.{◌≡◌, ℕ, ◌+◌, ◌≤◌, List, length}
use Rattle.std.proofs.lemmas.List.Edits.{sets}

-- text of at most `most` bytes stored at a place, and every other byte kept: `end` is the place past the text
pub record Put (before : List ℕ) (place : ℕ) (text : List ℕ) (most : ℕ) (after : List ℕ) (end : ℕ) : Type 0 where
  pub is : after ≡ sets before place text
  pub past : end ≡ place + length text
  pub long : length after ≡ length before
  pub small : end ≤ place + most

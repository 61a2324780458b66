-- A list as parts of one width, one after the other.
-- Assumes nothing.
use Rattle.std.specs.Prelude.{ℕ, ◌*◌, List, ◌++◌, take, drop}

-- part i of width w
abbrev pub part_at : ℕ → List ℕ → ℕ → List ℕ
part_at w l i = take w (drop (w * i) l)

-- the list with another part i; all else stays
unfoldable pub placed : ℕ → ℕ → List ℕ → List ℕ → List ℕ
placed w i part l = take (w * i) l ++ (part ++ drop w (drop (w * i) l))

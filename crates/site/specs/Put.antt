-- Figures put over a site file's own: at every age of a group, or singly.
-- Assumes nothing.
use Rattle.std.specs.Prelude.{ℕ, zero, suc, ◌+◌, ◌*◌, List, set}
use Rattle.site.specs.Fields.{ages, singles_at}

-- the figure v at each of the n places from `from`
unfoldable pub put_from : ℕ → ℕ → ℕ → List ℕ → List ℕ
put_from from zero v fields = fields
put_from from (suc n) v fields = set (put_from from n v fields) (from + n) v

-- v at every age of group g
abbrev pub every_age : ℕ → ℕ → List ℕ → List ℕ
every_age g v fields = put_from (ages * g) ages v fields

-- v at field k of those that stand singly
abbrev pub singly : ℕ → ℕ → List ℕ → List ℕ
singly k v fields = set fields (singles_at + k) v

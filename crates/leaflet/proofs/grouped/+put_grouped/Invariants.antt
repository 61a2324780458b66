-- The measure of `put_grouped`: the number that is left.
use Rattle.leaflet.proofs.grouped.+put_grouped.Given as goal

abbrev pub decreases-put_grouped : goal.decreases-put_grouped
decreases-put_grouped l = l.n

-- no site so far moves an index, and the arrays that are touched so far are marked
use Rattle.std.proofs.Common.{◌≡◌, List, map, take, length}
use Rattle.domino_check.specs.Sites.{Site, NoneMoves}
use Rattle.domino_check.specs.Touches.{touch_of}
use Rattle.domino_check.proofs.SiteLemmas.{touched_by}
use Rattle.domino_check.proofs.sites.check_sites.Given as goal

abbrev pub invariant-loop-site : goal.invariant-loop-site
invariant-loop-site l = (all : List Site) → map touch_of all ≡ l.sites → (l.touched ≡ touched_by (length l.indexes) (take l.site-index all)) × NoneMoves l.indexes (take l.site-index all)

-- The names of kinds of points.
use Rattle.std.specs.Prelude.{ℕ, cond, List, Some, None, codes, Option}
use Rattle.std.specs.Str.{bytes_eq}
use Rattle.weighting.specs.declared.points.Kind.{Kind}
use Rattle.weighting.specs.declared.points.Kind.TheVariants.{Hub, Zone, Tie}

abbrev pub kind_name : Kind → List ℕ
kind_name Hub = codes "hub"
kind_name Zone = codes "zone"
kind_name Tie = codes "tie"

-- the kind that has the name
abbrev pub kind_of : List ℕ → Option Kind
kind_of name = cond (bytes_eq name (codes "hub")) (Some Hub) (cond (bytes_eq name (codes "zone")) (Some Zone) (cond (bytes_eq name (codes "tie")) (Some Tie) None))

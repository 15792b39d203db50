-- The members of every hub bus as sets.
use Rattle.std.specs.Prelude.{ℕ, ◌<◌, List, [], slice_index_or}
use Rattle.bus_set.specs.Sets.{SetOf}
use Rattle.hour.specs.Hour.{Hour}
use Rattle.hour.specs.Live.{belongs}

-- row k holds the buses of the hub bus k, live or dead
abbrev pub MembersOf : Hour → List (List ℕ) → Type 0
MembersOf h rows = (k : ℕ) → k < 156 → SetOf (belongs h k) (slice_index_or rows k [])

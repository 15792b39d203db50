-- Whole numbers that a table may have.
use Rattle.std.specs.Prelude.{cond, ℤ, Some, None, Option}
use Rattle.posting.specs.Tables.{counts}

-- the number, where a table may have it
abbrev pub countable : ℤ → Option ℤ
countable z = cond (counts z) (Some z) None

use Rattle.std.proofs.Common.{rules}
use Rattle.saved_rows.specs.declared.row.Row.TheVariants as row
use Rattle.saved.proofs.line.Line.read.Goals as goal

pub returns-in_err-lambda-in-L : goal.returns-in_err-lambda-in-L
returns-in_err-lambda-in-L c = let r = c.in_err-lambda-in-L.ensures 76 row.Lambda in search rules

pub returns-in_ok-lambda-in-L : goal.returns-in_ok-lambda-in-L
returns-in_ok-lambda-in-L c = let r = c.in_ok-lambda-in-L.ensures 76 row.Lambda in search rules

pub returns-in_err-constraint-in-C : goal.returns-in_err-constraint-in-C
returns-in_err-constraint-in-C c = let r = c.in_err-constraint-in-C.ensures 67 row.Constraint in search rules

pub returns-in_ok-constraint-in-C : goal.returns-in_ok-constraint-in-C
returns-in_ok-constraint-in-C c = let r = c.in_ok-constraint-in-C.ensures 67 row.Constraint in search rules

pub returns-in_err-constraint-in-O : goal.returns-in_err-constraint-in-O
returns-in_err-constraint-in-O c = let r = c.in_err-constraint-in-O.ensures 79 row.Outage in search rules

pub returns-in_ok-constraint-in-O : goal.returns-in_ok-constraint-in-O
returns-in_ok-constraint-in-O c = let r = c.in_ok-constraint-in-O.ensures 79 row.Outage in search rules

pub returns-in_err-count-in-Z : goal.returns-in_err-count-in-Z
returns-in_err-count-in-Z c = let r = c.in_err-count-in-Z.ensures 90 row.End in search rules

pub returns-in_ok-count-in-Z : goal.returns-in_ok-count-in-Z
returns-in_ok-count-in-Z c = let r = c.in_ok-count-in-Z.ensures 90 row.End in search rules

-- How a script writes a call.
use Rattle.std.specs.Prelude.{ℕ, cond, List, [], ◌∷◌, ◌++◌, ℤ, codes, FitsSigned}
use Rattle.std.specs.Int.{w64}
use Rattle.std.specs.Fmt.{signed_decimal}
use Rattle.std.specs.List.{AllByRecursion}
use Rattle.hour.specs.MarketNames.{market_name}
use Rattle.hour.specs.declared.calls.Call.{Call}
use Rattle.hour.specs.declared.calls.Call.TheVariants.{Place, Status, Load, Lambda, Post, Strike, Outage, EnterRun, DropRun}

abbrev pub words_of : Call → List (List ℕ)
words_of (Place bus hub zone) = codes "place" ∷ signed_decimal bus ∷ signed_decimal hub ∷ signed_decimal zone ∷ []
words_of (Status bus market live) = codes "status" ∷ market_name market ∷ signed_decimal bus ∷ cond live (codes "live") (codes "dead") ∷ []
words_of (Load bus market load) = codes "load" ∷ market_name market ∷ signed_decimal bus ∷ signed_decimal load ∷ []
words_of (Lambda lambda) = codes "lambda" ∷ signed_decimal lambda ∷ []
words_of (Post constraint price) = codes "post" ∷ signed_decimal constraint ∷ signed_decimal price ∷ []
words_of (Strike constraint) = codes "strike" ∷ signed_decimal constraint ∷ []
words_of (Outage constraint bus out) = codes "outage" ∷ signed_decimal constraint ∷ signed_decimal bus ∷ cond out (codes "on") (codes "off") ∷ []
words_of (EnterRun run seconds reserve reliability) = codes "run" ∷ signed_decimal run ∷ signed_decimal seconds ∷ signed_decimal reserve ∷ signed_decimal reliability ∷ []
words_of (DropRun run) = codes "drop" ∷ signed_decimal run ∷ []

-- words with a space between any two
abbrev pub spaced : List (List ℕ) → List ℕ
spaced [] = []
spaced (w ∷ []) = w
spaced (w ∷ v ∷ vs) = w ++ (32 ∷ spaced (v ∷ vs))

abbrev pub written : Call → List ℕ
written c = spaced (words_of c)

abbrev pub numbers : Call → List ℤ
numbers (Place bus hub zone) = bus ∷ hub ∷ zone ∷ []
numbers (Status bus market live) = bus ∷ []
numbers (Load bus market load) = bus ∷ load ∷ []
numbers (Lambda lambda) = lambda ∷ []
numbers (Post constraint price) = constraint ∷ price ∷ []
numbers (Strike constraint) = constraint ∷ []
numbers (Outage constraint bus out) = constraint ∷ bus ∷ []
numbers (EnterRun run seconds reserve reliability) = run ∷ seconds ∷ reserve ∷ reliability ∷ []
numbers (DropRun run) = run ∷ []

-- each number of the call is one of 64 bits, as it is in every call that code holds
abbrev pub Fits64 : Call → Type 0
Fits64 c = AllByRecursion (FitsSigned w64) (numbers c)

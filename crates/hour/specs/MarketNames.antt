-- The names of markets.
use Rattle.std.specs.Prelude.{ℕ, cond, List, Some, None, codes, Option}
use Rattle.std.specs.Str.{bytes_eq}
use Rattle.hour.specs.declared.records.Market.{Market}
use Rattle.hour.specs.declared.records.Market.TheVariants.{DayAhead, RealTime}

abbrev pub market_name : Market → List ℕ
market_name DayAhead = codes "day-ahead"
market_name RealTime = codes "real-time"

-- the market that has the name
abbrev pub market_of : List ℕ → Option Market
market_of name = cond (bytes_eq name (codes "day-ahead")) (Some DayAhead) (cond (bytes_eq name (codes "real-time")) (Some RealTime) None)

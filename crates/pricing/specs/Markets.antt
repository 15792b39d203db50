-- The price of a weighting in a market, over a grid of posted numbers.
use Rattle.std.specs.Prelude.{ℤ, Result}
use Rattle.refusals.specs.declared.Refusal.{Refusal}
use Rattle.hour.specs.declared.book.Book.{Book}
use Rattle.hour.specs.declared.records.Market.{Market}
use Rattle.hour.specs.declared.records.Market.TheVariants.{DayAhead, RealTime}
use Rattle.posting.specs.Grids.{Grid}
use Rattle.weighting.specs.Meanings.{Meaning}
use Rattle.day_ahead.specs.Prices.{day_ahead_price}
use Rattle.real_time.specs.Prices.{real_time_price}

-- day-ahead the numbers are shift factors, in real time they are the prices of runs
abbrev pub market_price : Market → Meaning → Grid → Book → Result ℤ Refusal
market_price DayAhead m posted book = day_ahead_price m posted book
market_price RealTime m posted book = real_time_price m posted book

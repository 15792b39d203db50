-- The case whose weights count in real time.
use Rattle.hour.specs.Hour.{entries}
use Rattle.hour.specs.Live.{base_live}
use Rattle.hour.specs.declared.records.Market.TheVariants.{RealTime}
use Rattle.hour.specs.declared.book.Book.{Book}
use Rattle.weighting.specs.Views.{View, view_of}

-- the base case of the real-time market, with that market's loads
abbrev pub base_view : Book → View
base_view book = view_of book RealTime (base_live (entries book) RealTime)

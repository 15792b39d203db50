-- The contributions without their roundings, as one fraction, and how near a price is to the exact one.
use Rattle.std.specs.Prelude.{◌≡◌, ℕ, zero, suc, ◌*◌, ◌<◌, cond, ℤ, pos, ◌+ℤ◌, ◌-ℤ◌, ◌*ℤ◌, Some, None, Ok, Option, Result, ◌==◌}
use Rattle.hour.specs.Hour.{entries}
use Rattle.hour.specs.declared.book.Book.{Book}
use Rattle.posting.specs.Grids.{Grid, Within}
use Rattle.weighting.specs.Views.{View}
use Rattle.weighting.specs.Meanings.{Meaning}
use Rattle.refusals.specs.declared.Refusal.{Refusal}
use Rattle.day_ahead.specs.Prices.{fine_units, case_under, shadow_price, weighted_factors}

pub record Fraction : Type 0 where
  pub top : ℤ
  pub bottom : ℕ

-- a + x / d
abbrev pub plus : Fraction → ℤ → ℕ → Fraction
plus a x d = record { top = (a.top *ℤ pos d) +ℤ (x *ℤ pos a.bottom); bottom = a.bottom * d }

abbrev pub with_term : Meaning → Grid → Fraction → View → ℕ → Option ℤ → Fraction
with_term m factors a v k None = a
with_term m factors a v k (Some price) = cond (m.total v == 0) a (plus a (weighted_factors m factors v k *ℤ price) (m.total v))

-- what the first n constraints contribute, exactly; the bottom is the product of their totals above 0
unfoldable pub exactly : Meaning → Grid → Book → ℕ → Fraction
exactly m factors book zero = record { top = pos 0; bottom = 1 }
exactly m factors book (suc n) = with_term m factors (exactly m factors book n) (case_under book n) n (shadow_price book n)

-- the price in fine units less the exact price, times the bottom of its fraction
abbrev pub deviation : ℤ → ℤ → Fraction → ℤ
deviation lambda price contributions = (pos fine_units *ℤ (price *ℤ pos contributions.bottom)) -ℤ ((lambda *ℤ pos contributions.bottom) -ℤ contributions.top)

-- twice that is within 1,000,032 bottoms of 0: a price is within 500,016 fine units of the exact one
pub record NearPrice (lambda price : ℤ) (contributions : Fraction) : Type 0 where
  pub bottom_above_zero : 0 < contributions.bottom
  pub close : Within (1000032 * contributions.bottom) (pos 2 *ℤ deviation lambda price contributions)

abbrev pub NearExact : Meaning → Grid → Book → Result ℤ Refusal → Type 0
NearExact m factors book r = (lambda price : ℤ) → (entries book).lambda ≡ Some lambda → r ≡ Ok price → NearPrice lambda price (exactly m factors book 32)

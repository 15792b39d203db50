-- A call that is written is read back.
use Rattle.std.proofs.Common.{◌≡◌, ℕ, Bool, true, false, cond, List, Some, Ok, codes, sym, refl, ap, ◌∙◌, subst}
use Rattle.std.specs.Str.{bytes_eq}
use Rattle.std.proofs.lemmas.Bool.{cond-true, cond-false}
use Rattle.std.proofs.lemmas.Slice.Eq.{bytes_eq-Decides}
use Rattle.std.specs.List.{AllByRecursion as All}
use Rattle.hour.specs.MarketNames.{market_name, market_of}
use Rattle.hour.specs.declared.calls.Call.{Call}
use Rattle.hour.specs.declared.calls.Call.TheVariants.{Place, Status, Load, Lambda, Post, Strike, Outage, EnterRun, DropRun}
use Rattle.hour.specs.declared.records.Market.{Market}
use Rattle.hour.specs.declared.records.Market.TheVariants.{DayAhead, RealTime}
use Rattle.script.specs.declared.commands.Command.TheVariants as command-of
use Rattle.script.specs.Commands.{command}
use Rattle.script.specs.Readings.{choice_of}
use Rattle.script.specs.Words.{words}
use Rattle.script.specs.Written.{words_of, written, Fits64}
use Rattle.script.proofs.Spaces.{Word, spelt, words_spaced}
use Rattle.script.proofs.Integers.{number_signed, word_signed}

market_back : (m : Market) → market_of (market_name m) ≡ Some m
market_back DayAhead = refl
market_back RealTime = refl

flag_back : (t f : List ℕ) → bytes_eq f t ≡ false → (b : Bool) → choice_of t f (cond b t f) ≡ Some b
flag_back t f d true = cond-true _ _ _ ((bytes_eq-Decides t t).1 refl)
flag_back t f d false = cond-false _ _ _ d ∙ cond-true _ _ _ ((bytes_eq-Decides f f).1 refl)

commanded : (c : Call) → Fits64 c → command (words_of c) ≡ Ok (Some (command-of.Call c))
commanded (Place bus hub zone) (f, (g, (h, _))) = simp number_signed
commanded (Status bus market live) (f, _) = simp (market_back, number_signed, flag_back (codes "live") (codes "dead") refl)
commanded (Load bus market load) (f, (g, _)) = simp (market_back, number_signed)
commanded (Lambda lambda) (f, _) = simp number_signed
commanded (Post constraint price) (f, (g, _)) = simp number_signed
commanded (Strike constraint) (f, _) = simp number_signed
commanded (Outage constraint bus out) (f, (g, _)) = simp (number_signed, flag_back (codes "on") (codes "off") refl)
commanded (EnterRun run seconds reserve reliability) (f, (g, (h, (k, _)))) = simp number_signed
commanded (DropRun run) (f, _) = simp number_signed

market_word : (m : Market) → Word (market_name m)
market_word DayAhead = spelt _ refl
market_word RealTime = spelt _ refl

flag_word : (t f : List ℕ) → Word t → Word f → (b : Bool) → Word (cond b t f)
flag_word t f h k true = h
flag_word t f h k false = k

all_words : (c : Call) → Fits64 c → All Word (words_of c)
all_words (Place bus hub zone) (f, (g, (h, _))) = (spelt _ refl, (word_signed bus f, (word_signed hub g, (word_signed zone h, tt))))
all_words (Status bus market live) (f, _) = (spelt _ refl, (market_word market, (word_signed bus f, (flag_word _ _ (spelt _ refl) (spelt _ refl) live, tt))))
all_words (Load bus market load) (f, (g, _)) = (spelt _ refl, (market_word market, (word_signed bus f, (word_signed load g, tt))))
all_words (Lambda lambda) (f, _) = (spelt _ refl, (word_signed lambda f, tt))
all_words (Post constraint price) (f, (g, _)) = (spelt _ refl, (word_signed constraint f, (word_signed price g, tt)))
all_words (Strike constraint) (f, _) = (spelt _ refl, (word_signed constraint f, tt))
all_words (Outage constraint bus out) (f, (g, _)) = (spelt _ refl, (word_signed constraint f, (word_signed bus g, (flag_word _ _ (spelt _ refl) (spelt _ refl) out, tt))))
all_words (EnterRun run seconds reserve reliability) (f, (g, (h, (k, _)))) =
    (spelt _ refl, (word_signed run f, (word_signed seconds g, (word_signed reserve h, (word_signed reliability k, tt)))))
all_words (DropRun run) (f, _) = (spelt _ refl, (word_signed run f, tt))

pub reads_back : (c : Call) → Fits64 c → command (words (written c)) ≡ Ok (Some (command-of.Call c))
reads_back c f = ap command (words_spaced (words_of c) (all_words c f)) ∙ commanded c f

-- the same, by the case that a call is
pub back : (c v : Call) → c ≡ v → Fits64 v → command (words (written c)) ≡ Ok (Some (command-of.Call c))
back c v e f = reads_back c (subst Fits64 (sym e) f)

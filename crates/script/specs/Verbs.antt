-- The name of each verb, and how a line with it is written.
use Rattle.std.specs.Prelude.{ℕ, cond, List, [], ◌∷◌, Some, None, codes, Option}
use Rattle.std.specs.Str.{bytes_eq}
use Rattle.script.specs.declared.verbs.Verb.{Verb}
use Rattle.script.specs.declared.verbs.Verb.TheVariants.{Place, Status, Load, Lambda, Post, Strike, Outage, Run, Drop, Weights, Show, Help}

abbrev pub all_verbs : List Verb
all_verbs = Place ∷ Status ∷ Load ∷ Lambda ∷ Post ∷ Strike ∷ Outage ∷ Run ∷ Drop ∷ Weights ∷ Show ∷ Help ∷ []

abbrev pub verb_of : List ℕ → Option Verb
verb_of w =
    cond (bytes_eq w (codes "place")) (Some Place) (
    cond (bytes_eq w (codes "status")) (Some Status) (
    cond (bytes_eq w (codes "load")) (Some Load) (
    cond (bytes_eq w (codes "lambda")) (Some Lambda) (
    cond (bytes_eq w (codes "post")) (Some Post) (
    cond (bytes_eq w (codes "strike")) (Some Strike) (
    cond (bytes_eq w (codes "outage")) (Some Outage) (
    cond (bytes_eq w (codes "run")) (Some Run) (
    cond (bytes_eq w (codes "drop")) (Some Drop) (
    cond (bytes_eq w (codes "weights")) (Some Weights) (
    cond (bytes_eq w (codes "show")) (Some Show) (
    cond (bytes_eq w (codes "help")) (Some Help) None)))))))))))

abbrev pub usage : Verb → List ℕ
usage Place = codes "place BUS HUB_BUS ZONE"
usage Status = codes "status day-ahead|real-time BUS live|dead"
usage Load = codes "load day-ahead|real-time BUS TENTHS"
usage Lambda = codes "lambda FINE_UNITS"
usage Post = codes "post CONSTRAINT SHADOW_PRICE"
usage Strike = codes "strike CONSTRAINT"
usage Outage = codes "outage CONSTRAINT BUS on|off"
usage Run = codes "run RUN SECONDS RESERVE_ADDER RELIABILITY_ADDER"
usage Drop = codes "drop RUN"
usage Weights = codes "weights hub|zone|tie NUMBER [CONSTRAINT]"
usage Show = codes "show"
usage Help = codes "help"

-- The command that the words of a line make.
use Rattle.std.specs.Prelude.{ℕ, Bool, false, cond, List, [], ◌∷◌, Some, None, Ok, Err, codes, Option, Result, option_map, ◌==◌}
use Rattle.std.specs.Option.{ok_or}
use Rattle.hour.specs.MarketNames.{market_of}
use Rattle.hour.specs.declared.calls.Call.TheVariants as call
use Rattle.weighting.specs.KindNames.{kind_of}
use Rattle.script.specs.declared.commands.Command.{Command}
use Rattle.script.specs.declared.commands.Command.TheVariants.{Call, Weights, Show, Help}
use Rattle.script.specs.declared.commands.NotACall.{NotACall}
use Rattle.script.specs.declared.commands.NotACall.TheVariants.{Unknown, Usage}
use Rattle.script.specs.declared.verbs.Verb.{Verb}
use Rattle.script.specs.declared.verbs.Verb.TheVariants as verb
use Rattle.script.specs.Numbers.{number_of}
use Rattle.script.specs.Readings.{first, last, others, choice_of, end}
use Rattle.script.specs.Verbs.{verb_of}

abbrev pub chain : {X : Type 0} → Option X → (X → Option Command) → Option Command
chain None k = None
chain (Some x) k = k x

-- the first word, as `read` takes it, and then the words after it
abbrev pub word : {X : Type 0} → (List ℕ → Option X) → (X → List (List ℕ) → Option Command) → List (List ℕ) → Option Command
word read k ws = chain (first read ws) (λ x. k x (others ws))

-- the last word, as `read` takes it, or none
abbrev pub lastly : {X : Type 0} → (List ℕ → Option X) → (Option X → Command) → List (List ℕ) → Option Command
lastly read k ws = chain (last read ws) (λ x. Some (k x))

-- the command of a verb and the words after it, where they fit
abbrev pub arguments : Verb → List (List ℕ) → Option Command
arguments verb.Place = word number_of (λ bus. word number_of (λ hub. word number_of (λ zone. end (Call (call.Place bus hub zone)))))
arguments verb.Status = word market_of (λ market. word number_of (λ bus. word (choice_of (codes "live") (codes "dead")) (λ live. end (Call (call.Status bus market live)))))
arguments verb.Load = word market_of (λ market. word number_of (λ bus. word number_of (λ load. end (Call (call.Load bus market load)))))
arguments verb.Lambda = word number_of (λ lambda. end (Call (call.Lambda lambda)))
arguments verb.Post = word number_of (λ constraint. word number_of (λ price. end (Call (call.Post constraint price))))
arguments verb.Strike = word number_of (λ constraint. end (Call (call.Strike constraint)))
arguments verb.Outage = word number_of (λ constraint. word number_of (λ bus. word (choice_of (codes "on") (codes "off")) (λ out. end (Call (call.Outage constraint bus out)))))
arguments verb.Run = word number_of (λ run. word number_of (λ seconds. word number_of (λ reserve. word number_of (λ reliability. end (Call (call.EnterRun run seconds reserve reliability))))))
arguments verb.Drop = word number_of (λ run. end (Call (call.DropRun run)))
arguments verb.Weights = word kind_of (λ kind. word number_of (λ number. lastly number_of (λ constraint. Weights (record { kind = kind; number = number }) constraint)))
arguments verb.Show = end Show
arguments verb.Help = end Help

-- and the verb's usage where they do not
abbrev pub fitted : Verb → Option Command → Result (Option Command) NotACall
fitted v c = ok_or (option_map Some c) (Usage v)

abbrev pub by_verb : Option Verb → List (List ℕ) → Result (Option Command) NotACall
by_verb None ws = Err Unknown
by_verb (Some v) ws = fitted v (arguments v ws)

-- a word that begins with `#`
abbrev pub remark : List ℕ → Bool
remark [] = false
remark (b ∷ bs) = b == 35

abbrev pub command : List (List ℕ) → Result (Option Command) NotACall
command [] = Ok None
command (w ∷ ws) = cond (remark w) (Ok None) (by_verb (verb_of w) ws)

-- The number, the layer and the place of a fault.
use Rattle.std.specs.Prelude.{ℕ, Some, None, Ok, Err, Option, Result}
use Rattle.refusals.specs.Numbers.{number}
use Rattle.refusals.specs.declared.Refusal.{Refusal}
use Rattle.refusals.specs.declared.Refusal.TheVariants.{BufferShort}
use Rattle.faults.specs.declared.Why.{Why}
use Rattle.faults.specs.declared.Why.TheVariants.{Short, Form, Order, Value, Ending}
use Rattle.faults.specs.declared.Source.{Source}
use Rattle.faults.specs.declared.Source.TheVariants as source
use Rattle.faults.specs.declared.Layer.{Layer}
use Rattle.faults.specs.declared.Layer.TheVariants as layer
use Rattle.faults.specs.declared.Spot.{Spot}
use Rattle.faults.specs.declared.Fault.{Fault}
use Rattle.faults.specs.declared.Malformed.{Malformed}

abbrev pub fault_number : Why → ℕ
fault_number Short = number BufferShort
fault_number Form = 15
fault_number Order = 16
fault_number (Value e) = 17
fault_number Ending = 18

-- the refusal inside, where there is one
abbrev pub refusal_of : Why → Option Refusal
refusal_of Short = None
refusal_of Form = None
refusal_of Order = None
refusal_of (Value e) = Some e
refusal_of Ending = None

-- the number of the refusal inside, and 0 where there is none
abbrev pub inner_number : Why → ℕ
inner_number Short = 0
inner_number Form = 0
inner_number Order = 0
inner_number (Value e) = number e
inner_number Ending = 0

-- a value of an hour's text is refused by the book
abbrev pub value_layer : Source → Layer
value_layer source.Hour = layer.Book
value_layer source.Posting = layer.Posting

abbrev pub layer_of : Why → Source → Layer
layer_of Short s = layer.Text
layer_of Form s = layer.Text
layer_of Order s = layer.Text
layer_of (Value e) s = value_layer s
layer_of Ending s = layer.Text

-- the letters T, B and F
abbrev pub letter_of : Layer → ℕ
letter_of layer.Text = 84
letter_of layer.Book = 66
letter_of layer.Posting = 70

abbrev pub malformed : Malformed
malformed = record {}

-- a fault at a field
abbrev pub spot : Why → ℕ → Spot
spot why field = record { why = why; field = field }

-- a fault at a field of a line
abbrev pub fault : Why → ℕ → ℕ → Fault
fault why line field = record { why = why; line = line; field = field }

abbrev pub in_line : {T : Type 0} → ℕ → Result T Spot → Result T Fault
in_line line (Ok x) = Ok x
in_line line (Err e) = Err (fault e.why line e.field)

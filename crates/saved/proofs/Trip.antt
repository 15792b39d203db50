-- The laws of saved texts.
use Rattle.saved.specs.Laws.{Laws}
use Rattle.saved.proofs.RoundTrip as trip
use Rattle.saved.proofs.FirstFault as first

pub laws : Laws
laws = record { reads_back = trip.reads_back; only_saved = trip.only_saved; first_fault = first.first_fault }

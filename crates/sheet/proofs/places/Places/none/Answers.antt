use Rattle.sheet.proofs.PlaceBits.{none_of}
use Rattle.sheet.proofs.places.Places.none.Goals as goal

pub returns : goal.returns
returns c = none_of

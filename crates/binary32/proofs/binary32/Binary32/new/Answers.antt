-- `Binary32::new` carries what is proved of the definitions (Theorems).
use Rattle.binary32.specs.Theorems.{stands}
use Rattle.binary32.proofs.binary32.Binary32.new.Goals as goal

pub returns : goal.returns
returns c = record { theory = stands }

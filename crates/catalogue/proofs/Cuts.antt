-- Ranges cut to the readings hold readings only, and narrowing goes on from them.
use Rattle.std.proofs.Common.{arith}
use Rattle.std.proofs.lemmas.Int.{ints, clamps}
use Rattle.catalogue.specs.declared.types.Range.{Range}
use Rattle.catalogue.specs.declared.types.Triple.{Triple}
use Rattle.catalogue.specs.Ranges.{Proper, meet}
use Rattle.catalogue.specs.Operations.{Arith, Reading, readings}

-- a range of readings that is not empty
abbrev pub Sound : Arith → Range → Type 0
Sound a r = Reading a r.low × Reading a r.high × Proper r

abbrev pub Sound3 : Arith → Triple → Type 0
Sound3 a t = Sound a t.x × Sound a t.y × Sound a t.z

module _ (a : Arith) where
  pub cut_sound_of : (r : Range) → Proper (meet (readings a) r) → Sound a (meet (readings a) r)
  cut_sound_of r h = ((omega (arith, ints, clamps), omega (arith, ints, clamps)), (omega (arith, ints, clamps), omega (arith, ints, clamps)), h)

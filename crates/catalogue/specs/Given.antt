-- The three given ranges, as the definitions take them.
use Rattle.catalogue.specs.declared.narrowing.Given.{Given}
use Rattle.catalogue.specs.declared.types.Triple.{Triple}

abbrev pub triple_of : Given → Triple
triple_of g = record { x = g.x; y = g.y; z = g.z }

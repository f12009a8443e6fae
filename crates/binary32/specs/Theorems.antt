-- All of Theory, proved, and the laws of the arithmetic and of the catalogue.
use Rattle.std.proofs.Common.{arith, lit<}
use Rattle.std.specs.Prelude.{ℤ, ◌≤ℤ◌, refl}
use Rattle.std.proofs.lemmas.Int.{ints, clamps}
use Rattle.catalogue.specs.declared.types.Kind.{Kind}
use Rattle.catalogue.specs.declared.types.Kind.TheVariants.{Sum, Difference, Peak}
use Rattle.catalogue.specs.declared.types.Mode.{Mode}
use Rattle.catalogue.specs.declared.types.Mode.TheVariants.{Nearest, TowardZero}
use Rattle.catalogue.specs.Operations.{ArithLaws, InOrder, falls_in_y}
use Rattle.catalogue.specs.Meanings.{Laws}
use Rattle.catalogue.proofs.Ranked.{ranked_laws}
use Rattle.catalogue.proofs.Allowed.{allowed_by, by_allowed}
use Rattle.catalogue.proofs.Rising.{greatest_x, greatest_y, least_x, least_y}
use Rattle.catalogue.proofs.Sets.{least_le, greatest_ge, least_reached, greatest_reached}
use Rattle.binary32.specs.Units.{units}
use Rattle.binary32.specs.Patterns.{read, write}
use Rattle.binary32.specs.Computed.{rounded}
use Rattle.binary32.specs.Binary32.{result_of, binary32, binary}
use Rattle.binary32.specs.Theory.{Stands, Values, Written, Roundings}
use Rattle.binary32.specs.Fields.{fields, read_reading, reread, rewritten}
use Rattle.binary32.specs.Growing.{rounded_mono, value_mono}
use Rattle.binary32.specs.StandardLemmas.{rounds, rounds_one, value_lt, reading_abs}
use Rattle.binary32.specs.Between.{down_below, below_up}
use Rattle.binary32.specs.Signs.{exact}

-- ---- laws
in_x : (k : Kind) (m : Mode) (x w y : ℤ) → x ≤ℤ w → result_of k m x y ≤ℤ result_of k m w y
in_x Sum m x w y h = rounded_mono m _ _ (let a = value_mono x w h in omega (arith, ints))
in_x Difference m x w y h = rounded_mono m _ _ (let a = value_mono x w h in omega (arith, ints))
in_x Peak m x w y h = omega (arith, ints, clamps)

in_y : (k : Kind) (m : Mode) (x y w : ℤ) → y ≤ℤ w → InOrder (falls_in_y k) (result_of k m x y) (result_of k m x w)
in_y Sum m x y w h = rounded_mono m _ _ (let a = value_mono y w h in omega (arith, ints))
in_y Difference m x y w h = rounded_mono m _ _ (let a = value_mono y w h in omega (arith, ints))
in_y Peak m x y w h = omega (arith, ints, clamps)

pub binary32_laws : ArithLaws binary32
binary32_laws = record {
  fits = (record { sfits = lit< tt }, record { sfits = lit< tt });
  ends = omega (arith, ints);
  in_x = in_x;
  in_y = in_y;
}

pub binary_laws : Laws binary
binary_laws = ranked_laws binary32 read write binary32_laws record { reads = read_reading; writes = reread }

-- ---- theorems
values : Values
unfolding units
values = record { fields = fields; rise = value_lt; zero = refl; greatest = refl; least = refl; past = refl }

written : Written
written = record { reread = reread; rewritten = rewritten; minus_zero = refl; zero = refl; reading = read_reading }

roundings : Roundings
roundings = record {
  rounds = rounds;
  sole = λ m e r p. rounds_one m e r (rounded m e) p (rounds m e);
  grow = rounded_mono;
  down_nearest = down_below Nearest;
  nearest_up = below_up Nearest;
  down_zero = down_below TowardZero;
  zero_up = below_up TowardZero;
  exact = λ m r h. exact m r (reading_abs r h);
}

pub stands : Stands
stands = record {
  values = values;
  written = written;
  roundings = roundings;
  ends = λ s f p. record {
    some_least = least_reached s p.0 p.1 f;
    none_below = least_le s f;
    some_greatest = greatest_reached s p.0 p.1 f;
    none_above = greatest_ge s f;
  };
  results = record {
    least_x = least_x binary32 binary32_laws;
    greatest_x = greatest_x binary32 binary32_laws;
    least_y = least_y binary32 binary32_laws;
    greatest_y = greatest_y binary32 binary32_laws;
    allowed_only = λ k s x y z e. let b = allowed_by binary32 k s x y z e in
        record { x_reads = b.x_reads; y_reads = b.y_reads; z_reads = b.z_reads; mode = b.mode; among = b.among; is = b.is };
    allowed_all = λ k s x y z b. by_allowed binary32 k s x y z
        (record { x_reads = b.x_reads; y_reads = b.y_reads; z_reads = b.z_reads; mode = b.mode; among = b.among; is = b.is });
  };
}

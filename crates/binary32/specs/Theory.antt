-- Theory: what is proved of readings, patterns, roundings and mode sets.
use Rattle.std.specs.Prelude.{◌≡◌, ℕ, ◌-◌, ◌*◌, ◌^◌, ◌<◌, true, ◌≢◌, ℤ, pos, neg_ℤ, ◌≤ℤ◌, ◌<ℤ◌, Some, ◌==◌}
use Rattle.catalogue.specs.declared.types.Kind.{Kind}
use Rattle.catalogue.specs.declared.types.Mode.{Mode}
use Rattle.catalogue.specs.declared.types.Mode.TheVariants.{Nearest, Up, Down, TowardZero}
use Rattle.catalogue.specs.declared.types.Modes.{Modes}
use Rattle.catalogue.specs.Modes.{has_mode, least_of, greatest_of}
use Rattle.catalogue.specs.Operations.{InOrder, falls_in_y, greatest_result, least_result}
use Rattle.binary32.specs.Binary32.{binary, binary32, result_of}
use Rattle.binary32.specs.Units.{in_units, units, value, largest, beyond, with_sign, Reading}
use Rattle.binary32.specs.Patterns.{sign_bit, exponent_field, fraction, rank_of, read, write}
use Rattle.binary32.specs.Rounding.{Rounds}
use Rattle.binary32.specs.Computed.{rounded}

-- a pattern's rank is worth what its fields say, and values rise with the ranks, from end to end
pub record Values : Type 0 where
  pub fields : (p : ℕ) → value (rank_of p) ≡ with_sign (sign_bit p == 1) (in_units (exponent_field p) (fraction p))
  pub rise : (x y : ℤ) → x <ℤ y → value x <ℤ value y
  pub zero : value (pos 0) ≡ pos 0
  pub greatest : value (pos largest) ≡ pos ((2 ^ 24 - 1) * 2 ^ 253)
  pub least : value (neg_ℤ (pos largest)) ≡ neg_ℤ (pos ((2 ^ 24 - 1) * 2 ^ 253))
  pub past : units beyond ≡ 2 ^ 277

-- reading and writing go back and forth; both zeros have rank 0, which is written 00000000
pub record Written : Type 0 where
  pub reread : (r : ℤ) → Reading r → read (write r) ≡ Some r
  pub rewritten : (p : ℕ) (r : ℤ) → p < 2 ^ 32 → p ≢ 0x80000000 → read p ≡ Some r → write r ≡ p
  pub minus_zero : read 0x80000000 ≡ Some (pos 0)
  pub zero : write (pos 0) ≡ 0
  pub reading : (p : ℕ) (r : ℤ) → read p ≡ Some r → Reading r

-- exactly one rank is the rounding of e, none falls as e grows, and a reading's own value is kept
pub record Roundings : Type 0 where
  pub rounds : (m : Mode) (e : ℤ) → Rounds m e (rounded m e)
  pub sole : (m : Mode) (e r : ℤ) → Rounds m e r → r ≡ rounded m e
  pub grow : (m : Mode) (e f : ℤ) → e ≤ℤ f → rounded m e ≤ℤ rounded m f
  pub down_nearest : (e : ℤ) → rounded Down e ≤ℤ rounded Nearest e
  pub nearest_up : (e : ℤ) → rounded Nearest e ≤ℤ rounded Up e
  pub down_zero : (e : ℤ) → rounded Down e ≤ℤ rounded TowardZero e
  pub zero_up : (e : ℤ) → rounded TowardZero e ≤ℤ rounded Up e
  pub exact : (m : Mode) (r : ℤ) → Reading r → rounded m (value r) ≡ r

-- a set of at least one mode
abbrev pub SomeMode : Modes → Type 0
SomeMode s = (0 < s.bits) × (s.bits < 16)

-- the least result is that of some mode of the set, and none of the set is below it; likewise the greatest
pub record Ends (s : Modes) (f : Mode → ℤ) : Type 0 where
  pub some_least : (m : Mode) × (has_mode s m ≡ true) × (least_of s f ≡ f m)
  pub none_below : (m : Mode) → has_mode s m ≡ true → least_of s f ≤ℤ f m
  pub some_greatest : (m : Mode) × (has_mode s m ≡ true) × (greatest_of s f ≡ f m)
  pub none_above : (m : Mode) → has_mode s m ≡ true → f m ≤ℤ greatest_of s f

-- an allowed triple: three readings, z being the result for x and y under some mode of the set
pub record Allows (k : Kind) (s : Modes) (x y z : ℤ) : Type 0 where
  pub x_reads : Reading x
  pub y_reads : Reading y
  pub z_reads : Reading z
  pub mode : Mode
  pub among : has_mode s mode ≡ true
  pub is : z ≡ result_of k mode x y

-- the least and the greatest result of a mode set never fall as x grows, and move one way as y grows; and what is allowed
pub record Results : Type 0 where
  pub least_x : (k : Kind) (s : Modes) (x w y : ℤ) → x ≤ℤ w → least_result binary32 k s x y ≤ℤ least_result binary32 k s w y
  pub greatest_x : (k : Kind) (s : Modes) (x w y : ℤ) → x ≤ℤ w → greatest_result binary32 k s x y ≤ℤ greatest_result binary32 k s w y
  pub least_y : (k : Kind) (s : Modes) (x y w : ℤ) → y ≤ℤ w → InOrder (falls_in_y k) (least_result binary32 k s x y) (least_result binary32 k s x w)
  pub greatest_y : (k : Kind) (s : Modes) (x y w : ℤ) → y ≤ℤ w → InOrder (falls_in_y k) (greatest_result binary32 k s x y) (greatest_result binary32 k s x w)
  pub allowed_only : (k : Kind) (s : Modes) (x y z : ℤ) → binary.allowed k s x y z ≡ true → Allows k s x y z
  pub allowed_all : (k : Kind) (s : Modes) (x y z : ℤ) → Allows k s x y z → binary.allowed k s x y z ≡ true

-- all of it: what `Binary32::new` ensures
pub record Stands : Type 0 where
  pub values : Values
  pub written : Written
  pub roundings : Roundings
  pub ends : (s : Modes) (f : Mode → ℤ) → SomeMode s → Ends s f
  pub results : Results

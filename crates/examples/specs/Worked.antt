-- Worked examples of the definitions, each of which computes.
use Rattle.std.specs.Prelude.{◌≡◌, ℕ, ◌+◌, Bool, true, false, List, [], ◌∷◌, ℤ, pos, ◌+ℤ◌, neg_ℤ, is_some, Some, None, Ok, Err}
use Rattle.catalogue.specs.declared.types.Kind.{Kind}
use Rattle.catalogue.specs.declared.types.Kind.TheVariants.{Sum, Difference, Peak}
use Rattle.catalogue.specs.declared.types.Modes.{Modes}
use Rattle.catalogue.specs.declared.types.Range.{Range}
use Rattle.catalogue.specs.declared.types.Span.{Span}
use Rattle.catalogue.specs.declared.types.Triple.{Triple}
use Rattle.catalogue.specs.Operations.{span_of}
use Rattle.catalogue.specs.Meanings.{Meaning, rank_or_2}
use Rattle.catalogue.specs.declared.types.Mode.TheVariants.{Nearest, Up, Down, TowardZero}
use Rattle.binary32.specs.Binary32.{binary, binary32}
use Rattle.binary32.specs.Computed.{rounded}
use Rattle.binary32.specs.Units.{beyond, value}
use Rattle.counters.specs.Counters.{counter}
use Rattle.sheet.specs.declared.lines.Line.{Line}
use Rattle.sheet.specs.declared.table.State.TheVariants.{Settled, Open, Void}
use Rattle.sheet.specs.declared.table.Table.{Table}
use Rattle.sheet.specs.Calls.{limits_asked, line_asked}
use Rattle.sheet.specs.Places.{has}
use Rattle.sheet.specs.Rules.{new_table, table_after_limit, table_after_enter, table_after_strike, settling, range_at}

abbrev pub from_to : ℕ → ℕ → Range
from_to l h = record { low = pos l; high = pos h }

abbrev pub three : Range → Range → Range → Triple
three x y z = record { x = x; y = y; z = z }

abbrev pub nearest_alone : Modes
nearest_alone = record { bits = 1 }

abbrev pub line : Kind → ℕ → ℕ → ℕ → Line
line k x y z = record { operation = record { kind = k; modes = nearest_alone }; x = x; y = y; z = z }

-- a new sheet after limits of registers 0, 1, .. in turn, and a line at place 0, settled
abbrev pub limits_from : Meaning → ℕ → List Range → Table → Table
limits_from m r [] t = t
limits_from m r (b ∷ bs) t = limits_from m (r + 1) bs (table_after_limit m r b t)

abbrev pub sheet_of : Meaning → List Range → Line → Table
sheet_of m bs l = (settling m 100 (table_after_enter m 0 l (limits_from m 0 bs (new_table m)))).table

-- counters 0..100 and 50..60 whose sum is 120..200, with this line at place 0, and at place 3 a peak of three other registers
abbrev pub two_lines : Table
two_lines =
    table_after_enter counter 3 (line Peak 5 6 7)
    (table_after_enter counter 0 (line Sum 0 1 2) (limits_from counter 0 (from_to 0 100 ∷ from_to 50 60 ∷ from_to 120 200 ∷ []) (new_table counter)))

-- the same after so many steps, as far as they go
abbrev pub two_lines_after : ℕ → Table
two_lines_after k = (settling counter k two_lines).table

-- the places 0 and 3, each due or not
abbrev pub due_0_and_3 : Table → Bool × Bool
due_0_and_3 t = (has t.due 0, has t.due 3)

-- a register that is to be the sum of itself, 1, and itself: void
abbrev pub one_and_one : Table
one_and_one = sheet_of counter (from_to 1 1 ∷ []) (line Sum 0 0 0)

-- patterns of binary32, by the ranks that they have
abbrev pub negative : ℕ → ℤ
negative n = neg_ℤ (pos n)

abbrev pub between : ℤ → ℤ → Range
between l h = record { low = l; high = h }

abbrev pub up_and_down : Modes
up_and_down = record { bits = 6 }

abbrev pub all_modes : Modes
all_modes = record { bits = 15 }

-- the least and the greatest result where they are one rank
abbrev pub one_result : ℤ → Span
one_result v = record { least = v; greatest = v }

-- 16 = 41800000 is given for y and z, and -1 to 1 = BF800000..3F800000 for x
abbrev pub around_sixteen : Triple
around_sixteen = three (between (negative 0x3F800000) (pos 0x3F800000)) (from_to 0x41800000 0x41800000) (from_to 0x41800000 0x41800000)

pub record Worked : Type 0 where
  -- patterns and ranks: the least positive reading, minus zero, the greatest reading, an infinity
  pub least_positive : binary.reads 0x00000001 ≡ Some (pos 1)
  pub minus_zero : binary.reads 0x80000000 ≡ Some (pos 0)
  pub greatest : binary.reads 0x7F7FFFFF ≡ Some (pos 2139095039)
  pub infinity : rank_or_2 (binary.reads 0x7F800000) ≡ Err 2
  -- 1 + 2^-24 is 1 to nearest, a tie that goes to the even rank, 1 down and toward zero, and up the next reading
  pub tie_to_even : rounded Nearest (value (pos 0x3F800000) +ℤ value (pos 0x33800000)) ≡ pos 0x3F800000
  pub tie_up : rounded Up (value (pos 0x3F800000) +ℤ value (pos 0x33800000)) ≡ pos 0x3F800001
  pub tie_down : rounded Down (value (pos 0x3F800000) +ℤ value (pos 0x33800000)) ≡ pos 0x3F800000
  pub tie_toward_zero : rounded TowardZero (value (pos 0x3F800000) +ℤ value (pos 0x33800000)) ≡ pos 0x3F800000
  -- -1 - 2^-24 is -1 to nearest, up and toward zero, and down the reading before -1
  pub negative_tie_to_even : rounded Nearest (value (negative 0x3F800000) +ℤ value (negative 0x33800000)) ≡ negative 0x3F800000
  pub negative_tie_up : rounded Up (value (negative 0x3F800000) +ℤ value (negative 0x33800000)) ≡ negative 0x3F800000
  pub negative_tie_down : rounded Down (value (negative 0x3F800000) +ℤ value (negative 0x33800000)) ≡ negative 0x3F800001
  pub negative_tie_toward_zero : rounded TowardZero (value (negative 0x3F800000) +ℤ value (negative 0x33800000)) ≡ negative 0x3F800000
  -- two subnormal readings add up exactly under all modes: 3 and 4194304 units, and the greatest of them twice, whose sum is a normal reading
  pub subnormal_sum : span_of binary32 Sum all_modes (pos 0x00000003) (pos 0x00400000) ≡ one_result (pos 0x00400003)
  pub subnormal_twice : span_of binary32 Sum all_modes (pos 0x007FFFFF) (pos 0x007FFFFF) ≡ one_result (pos 0x00FFFFFE)
  -- the greatest reading added to itself lies beyond to nearest and up, and is the greatest reading down and toward zero
  pub beyond_nearest : rounded Nearest (value (pos 0x7F7FFFFF) +ℤ value (pos 0x7F7FFFFF)) ≡ pos beyond
  pub beyond_up : rounded Up (value (pos 0x7F7FFFFF) +ℤ value (pos 0x7F7FFFFF)) ≡ pos beyond
  pub beyond_down : rounded Down (value (pos 0x7F7FFFFF) +ℤ value (pos 0x7F7FFFFF)) ≡ pos 0x7F7FFFFF
  pub beyond_toward_zero : rounded TowardZero (value (pos 0x7F7FFFFF) +ℤ value (pos 0x7F7FFFFF)) ≡ pos 0x7F7FFFFF
  -- x + 16 = 16 allows x from B5000000 to 35800000 to nearest, and from B57FFFFF to 35FFFFFF up or down
  pub sum_to_nearest : binary.narrowed Sum nearest_alone around_sixteen ≡ Some (three (between (negative 0x35000000) (pos 0x35800000)) (from_to 0x41800000 0x41800000) (from_to 0x41800000 0x41800000))
  pub sum_up_and_down : binary.narrowed Sum up_and_down around_sixteen ≡ Some (three (between (negative 0x357FFFFF) (pos 0x35FFFFFF)) (from_to 0x41800000 0x41800000) (from_to 0x41800000 0x41800000))
  -- 16 - y = 16 allows y from B5FFFFFF to 357FFFFF up or down
  pub difference_up_and_down : binary.narrowed Difference up_and_down (three (from_to 0x41800000 0x41800000) (between (negative 0x3F800000) (pos 0x3F800000)) (from_to 0x41800000 0x41800000)) ≡ Some (three (from_to 0x41800000 0x41800000) (between (negative 0x35FFFFFF) (pos 0x357FFFFF)) (from_to 0x41800000 0x41800000))
  -- 1..2 less 0.5..1 is 0..1.5, of a given 0..10
  pub difference : binary.narrowed Difference nearest_alone (three (from_to 0x3F800000 0x40000000) (from_to 0x3F000000 0x3F800000) (from_to 0 0x41200000)) ≡ Some (three (from_to 0x3F800000 0x40000000) (from_to 0x3F000000 0x3F800000) (from_to 0 0x3FC00000))
  -- 16 + y = 16: there is such a y in a range that holds 0, and none in 1..2
  pub partner_there : is_some (binary.partner Sum nearest_alone (pos 0x41800000) (pos 0x41800000) (between (negative 0x3F800000) (pos 0x3F800000))) ≡ true
  pub partner_none : binary.partner Sum nearest_alone (pos 0x41800000) (pos 0x41800000) (from_to 0x3F800000 0x40000000) ≡ None
  -- counters 0..100 and 50..60 whose sum is 120..200: the first is at least 60, and the sum at most 160
  pub counter_sum : counter.narrowed Sum nearest_alone (three (from_to 0 100) (from_to 50 60) (from_to 120 200)) ≡ Some (three (from_to 60 100) (from_to 50 60) (from_to 120 160))
  -- a counter sum stops at the greatest reading
  pub counter_stop : counter.narrowed Sum nearest_alone (three (from_to 16777000 16777215) (from_to 300 400) (from_to 0 16777215)) ≡ Some (three (from_to 16777000 16777215) (from_to 300 400) (from_to 16777215 16777215))
  -- counters 10..20 and 0..100 whose sum is 30..50: the second is from 30 - 20 to 50 - 10
  pub counter_sum_y : counter.narrowed Sum nearest_alone (three (from_to 10 20) (from_to 0 100) (from_to 30 50)) ≡ Some (three (from_to 10 20) (from_to 10 40) (from_to 30 50))
  -- 0..30 less 5..15 is 3..8: the first is from 3 + 5 to 8 + 15
  pub counter_difference_x : counter.narrowed Difference nearest_alone (three (from_to 0 30) (from_to 5 15) (from_to 3 8)) ≡ Some (three (from_to 8 23) (from_to 5 15) (from_to 3 8))
  -- 20..30 less 0..50 is 3..8: the second is from 20 - 8 to 30 - 3
  pub counter_difference_y : counter.narrowed Difference nearest_alone (three (from_to 20 30) (from_to 0 50) (from_to 3 8)) ≡ Some (three (from_to 20 30) (from_to 12 27) (from_to 3 8))
  -- 10..20 less 15..40 is 3..50: the first is at least 3 + 15, the second at most 20 - 3, and the difference at most 20 - 15
  pub counter_difference : counter.narrowed Difference nearest_alone (three (from_to 10 20) (from_to 15 40) (from_to 3 50)) ≡ Some (three (from_to 18 20) (from_to 15 17) (from_to 3 5))
  -- the larger of 2..4 and 0..20 is 6..12: the second is 6..12, as the first is below 6
  pub counter_peak_y : counter.narrowed Peak nearest_alone (three (from_to 2 4) (from_to 0 20) (from_to 6 12)) ≡ Some (three (from_to 2 4) (from_to 6 12) (from_to 6 12))
  -- a counter difference is the first less the second, and stops at 0
  pub counter_less : counter.narrowed Difference nearest_alone (three (from_to 20 30) (from_to 5 8) (from_to 0 16777215)) ≡ Some (three (from_to 20 30) (from_to 5 8) (from_to 12 25))
  pub counter_stop_at_0 : counter.narrowed Difference nearest_alone (three (from_to 5 9) (from_to 7 20) (from_to 0 16777215)) ≡ Some (three (from_to 5 9) (from_to 7 20) (from_to 0 2))
  -- the greatest counter pattern, the first that is no reading, and how ranks above and below the readings are written
  pub counter_greatest : counter.reads 0x00FFFFFF ≡ Some (pos 16777215)
  pub counter_no_reading : rank_or_2 (counter.reads 0x01000000) ≡ Err 2
  pub counter_written_above : counter.writes (pos 16777216) ≡ 0x00FFFFFF
  pub counter_written_below : counter.writes (negative 1) ≡ 0x00000000
  -- a peak hold whose y and z are one register, 2..7, with x 5..9: both become 5..7
  pub held_peak_x : range_at (sheet_of counter (from_to 5 9 ∷ from_to 2 7 ∷ []) (line Peak 0 1 1)) 0 ≡ from_to 5 7
  pub held_peak_yz : range_at (sheet_of counter (from_to 5 9 ∷ from_to 2 7 ∷ []) (line Peak 0 1 1)) 1 ≡ from_to 5 7
  -- a register 10..20 added to itself, with a sum of 30..100: the sum becomes 30..40, and the register stays
  pub doubled_x : range_at (sheet_of counter (from_to 10 20 ∷ from_to 30 100 ∷ []) (line Sum 0 0 1)) 0 ≡ from_to 10 20
  pub doubled_z : range_at (sheet_of counter (from_to 10 20 ∷ from_to 30 100 ∷ []) (line Sum 0 0 1)) 1 ≡ from_to 30 40
  pub at_rest : (sheet_of counter (from_to 10 20 ∷ from_to 30 100 ∷ []) (line Sum 0 0 1)).state ≡ Settled
  -- two lines, entered: both are due; the first step takes place 0, changes registers 0 and 2, and so that line is due again; the second changes nothing, and the third takes place 3
  pub both_due : due_0_and_3 two_lines ≡ (true, true)
  pub due_again : due_0_and_3 (two_lines_after 1) ≡ (true, true)
  pub due_no_more : due_0_and_3 (two_lines_after 2) ≡ (false, true)
  pub open_still : (two_lines_after 2).state ≡ Open
  pub three_steps : (settling counter 100 two_lines).steps ≡ 3
  pub settled_then : (two_lines_after 3).state ≡ Settled
  -- new limits inside the old ones, which cut register 1 to 55..60: the line that names it is due, and the other is not
  pub tightened : due_0_and_3 (table_after_limit counter 1 (from_to 55 60) (two_lines_after 3)) ≡ (true, false)
  -- limits that are not inside the old ones: all lines are due, and register 0 shows its limits again
  pub loosened : due_0_and_3 (table_after_limit counter 1 (from_to 0 60) (two_lines_after 3)) ≡ (true, true)
  pub loosened_range : range_at (table_after_limit counter 1 (from_to 0 60) (two_lines_after 3)) 0 ≡ from_to 0 100
  -- a strike of place 0: the other line is due, and register 0 shows its limits again
  pub struck : due_0_and_3 (table_after_strike counter 0 (two_lines_after 3)) ≡ (false, true)
  pub struck_range : range_at (table_after_strike counter 0 (two_lines_after 3)) 0 ≡ from_to 0 100
  -- 1 + 1 is not 1: void, with its limits still told
  pub void_sheet : one_and_one.state ≡ Void
  pub void_limits : limits_asked 0 one_and_one ≡ Ok (from_to 1 1)
  -- read back: the limits of a register that there is not, the line at a place, no line, and a place that there is not
  pub no_register_told : limits_asked 32 two_lines ≡ Err 1
  pub line_told : line_asked 3 two_lines ≡ Ok (Some (line Peak 5 6 7))
  pub no_line_told : line_asked 1 two_lines ≡ Ok None
  pub no_place_told : line_asked 64 two_lines ≡ Err 7

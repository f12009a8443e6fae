-- Each worked example holds by computation, once the definitions named here are opened.
use Rattle.std.proofs.Common.{refl}
use lib.Ieee.{size}
use Rattle.catalogue.specs.First.{first, halved}
use Rattle.catalogue.specs.Modes.{least_of, greatest_of}
use Rattle.catalogue.specs.Search.{passes, edge}
use Rattle.binary32.specs.Computed.{floor_of, rest_of, rounded}
use Rattle.binary32.specs.Units.{units}
use Rattle.sheet.specs.Boards.{places_naming, places_with_line}
use Rattle.sheet.specs.Places.{lowest, none, places_where, tests, union, with_place, without}
use Rattle.examples.proofs.worked_examples.Goals as goal

pub returns : goal.returns
unfolding first halved least_of greatest_of passes edge size floor_of rest_of rounded units places_naming places_with_line lowest none places_where tests union with_place without
returns c = record {
  list = record {
    least_positive = refl;
    minus_zero = refl;
    greatest = refl;
    infinity = refl;
    tie_to_even = refl;
    tie_up = refl;
    tie_down = refl;
    tie_toward_zero = refl;
    negative_tie_to_even = refl;
    negative_tie_up = refl;
    negative_tie_down = refl;
    negative_tie_toward_zero = refl;
    subnormal_sum = refl;
    subnormal_twice = refl;
    beyond_nearest = refl;
    beyond_up = refl;
    beyond_down = refl;
    beyond_toward_zero = refl;
    sum_to_nearest = refl;
    sum_up_and_down = refl;
    difference_up_and_down = refl;
    difference = refl;
    partner_there = refl;
    partner_none = refl;
    counter_sum = refl;
    counter_stop = refl;
    counter_sum_y = refl;
    counter_difference_x = refl;
    counter_difference_y = refl;
    counter_difference = refl;
    counter_peak_y = refl;
    counter_less = refl;
    counter_stop_at_0 = refl;
    counter_greatest = refl;
    counter_no_reading = refl;
    counter_written_above = refl;
    counter_written_below = refl;
    held_peak_x = refl;
    held_peak_yz = refl;
    doubled_x = refl;
    doubled_z = refl;
    at_rest = refl;
    both_due = refl;
    due_again = refl;
    due_no_more = refl;
    open_still = refl;
    three_steps = refl;
    settled_then = refl;
    tightened = refl;
    loosened = refl;
    loosened_range = refl;
    struck = refl;
    struck_range = refl;
    void_sheet = refl;
    void_limits = refl;
    no_register_told = refl;
    line_told = refl;
    no_line_told = refl;
    no_place_told = refl;
  };
  count = refl;
}

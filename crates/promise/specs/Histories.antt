-- Which calls of a history are declined; the histories themselves, and their limits and lines, are those of the sheet.
use Rattle.std.specs.Prelude.{ℕ, Bool, true, false, not, ◌||◌, Ok, Err, Result}
use Rattle.catalogue.specs.Meanings.{Meaning}
use Rattle.sheet.specs.declared.table.Table.{Table}
pub use Rattle.sheet.specs.Histories.{Call, limit, enter, strike, settle, look, partner, passes_check, called, after, limits_of, line_of}
use Rattle.sheet.specs.Calls.{drawn_asked, limit_asked, partner_asked, settle_asked, strike_asked}
use Rattle.promise.specs.Shown.{show_asked}

abbrev pub is_refusal : {A : Type 0} → Result A ℕ → Bool
is_refusal (Ok x) = false
is_refusal (Err e) = true

-- whether a call is declined; an enter is declined too where its line does not pass the check
abbrev pub declines : Meaning → Call → Table → Bool
declines m (limit r low high) t = is_refusal (limit_asked m r low high)
declines m (enter n l) t = not (passes_check l) || is_refusal (drawn_asked n (Ok l) t)
declines m (strike n) t = is_refusal (strike_asked n t)
declines m (settle b) t = is_refusal (settle_asked m b t)
declines m (look r) t = is_refusal (show_asked m r t)
declines m (partner n x z) t = is_refusal (partner_asked m n x z t)

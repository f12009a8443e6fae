-- A script and its answers: what each command is answered and leaves on the sheet, and what a whole script is answered.
use Rattle.std.specs.Prelude.{◌≡◌, ℕ, Bool, cond, List, [], ◌∷◌, ◌++◌, length, drop, Some, None, Ok, Err, Option, Result, ◌==◌, nat_lt}
use Rattle.catalogue.specs.declared.types.Refusal.{Refusal}
use Rattle.catalogue.specs.Meanings.{Meaning}
use Rattle.catalogue.specs.Refusals.{refusal_number}
use Rattle.binary32.specs.Binary32.{binary}
use Rattle.counters.specs.Counters.{counter}
use Rattle.sheet.specs.declared.lines.Line.{Line}
use Rattle.sheet.specs.declared.table.Table.{Table}
use Rattle.sheet.specs.Calls.{done, drawn_asked, drawn_table, limit_asked, limit_table, strike_asked, strike_table, settle_asked, settle_table, partner_asked}
use Rattle.promise.specs.Histories.{Call, limit, enter, strike, settle, look, partner, after}
use Rattle.promise.specs.Promise.{ShowsAfter}
use Rattle.promise.specs.Shown.{show_asked}
use Rattle.sheet.specs.Lines.{checked_line}
use Rattle.sheet.specs.Rules.{new_table}
use Rattle.words.specs.Lines.{lines}
use Rattle.words.specs.Words.{front, back}
use Rattle.commands.specs.declared.Command.{Command}
use Rattle.commands.specs.declared.Command.TheVariants.{Limit, Enter, Strike, Settle, Look, Partner}
use Rattle.commands.specs.Commands.{command_of}
use Rattle.answers.specs.declared.Answer.{Answer}
use Rattle.answers.specs.Texts.{Reply, ok, refused, stepped, shown as shows, paired, line_of, reply_of}

-- ---- one command

-- ok, or the refusal
abbrev pub ok_or : Result (Unit {0}) ℕ → Reply
ok_or (Ok x) = ok
ok_or (Err e) = refused e

abbrev pub stepped_or : Result (ℕ × ℕ) ℕ → Reply
stepped_or (Ok p) = stepped p.0 p.1
stepped_or (Err e) = refused e

abbrev pub shown_or : Result (ℕ × ℕ × Bool) ℕ → Reply
shown_or (Ok p) = shows p.0 p.1 p.2
shown_or (Err e) = refused e

abbrev pub paired_or : Result (Option ℕ) ℕ → Reply
paired_or (Ok y) = paired y
paired_or (Err e) = refused e

-- what was answered, or the refusal
abbrev pub reply_or : Result Answer Refusal → Reply
reply_or (Ok a) = reply_of a
reply_or (Err e) = refused (refusal_number e)

-- what a line of a script is answered; one that stands for no command is unreadable
abbrev pub replied : Meaning → Option Command → Table → Reply
replied m None t = refused 10
replied m (Some (Limit r low high)) t = ok_or (done (limit_asked m r low high))
replied m (Some (Enter n d)) t = ok_or (drawn_asked n (checked_line d) t)
replied m (Some (Strike n)) t = ok_or (strike_asked n t)
replied m (Some (Settle b)) t = stepped_or (settle_asked m b t)
replied m (Some (Look r)) t = shown_or (show_asked m r t)
replied m (Some (Partner n x z)) t = paired_or (partner_asked m n x z t)

-- the table that it leaves
abbrev pub table_after : Meaning → Option Command → Table → Table
table_after m None t = t
table_after m (Some (Limit r low high)) t = limit_table m r (limit_asked m r low high) t
table_after m (Some (Enter n d)) t = drawn_table m n (checked_line d) t
table_after m (Some (Strike n)) t = strike_table m n t
table_after m (Some (Settle b)) t = settle_table m b t
table_after m (Some (Look r)) t = t
table_after m (Some (Partner n x z)) t = t

-- the call of the sheet that it makes, if it makes one: an unreadable line and a line that fails the check make none
abbrev pub entering : ℕ → Result Line ℕ → List Call
entering n (Err e) = []
entering n (Ok l) = enter n l ∷ []

abbrev pub calls_of : Option Command → List Call
calls_of None = []
calls_of (Some (Limit r low high)) = limit r low high ∷ []
calls_of (Some (Enter n d)) = entering n (checked_line d)
calls_of (Some (Strike n)) = strike n ∷ []
calls_of (Some (Settle b)) = settle b ∷ []
calls_of (Some (Look r)) = look r ∷ []
calls_of (Some (Partner n x z)) = partner n x z ∷ []

-- a table is what a history leads to, and shows what the promise says of that history
pub record Leads (m : Meaning) (h : List Call) (t : Table) : Type 0 where
  pub is : t ≡ after m h
  pub shows : ShowsAfter m h t

-- some list of calls led to the table t, and with these calls it leads on to u
abbrev pub LeadsOn : Meaning → List Call → Table → Table → Type 0
LeadsOn m calls t u = (h : List Call) × ((t ≡ after m h) × Leads m (calls ++ h) u)

-- ---- a whole script

-- the answers to lines, one line each, on a sheet with the table t
abbrev pub answers : Meaning → List (List ℕ) → Table → List ℕ
answers m [] t = []
answers m (l ∷ ls) t = line_of (replied m (command_of l) t) ++ answers m ls (table_after m (command_of l) t)

-- the table that lines leave, and their calls, the newest first, before those of h
abbrev pub table_after_all : Meaning → List (List ℕ) → Table → Table
table_after_all m [] t = t
table_after_all m (l ∷ ls) t = table_after_all m ls (table_after m (command_of l) t)

abbrev pub calls_of_all : List (List ℕ) → List Call → List Call
calls_of_all [] h = h
calls_of_all (l ∷ ls) h = calls_of_all ls (calls_of (command_of l) ++ h)

-- at every line of a script, the sheet is what the calls before it lead to, and what follows is answered on it
pub record Told (m : Meaning) : Type 0 where
  pub leads : (ls : List (List ℕ)) → Leads m (calls_of_all ls []) (table_after_all m ls (new_table m))
  pub goes_on : (ls ks : List (List ℕ)) → answers m (ls ++ ks) (new_table m) ≡ answers m ls (new_table m) ++ answers m ks (table_after_all m ls (new_table m))

-- the catalogues that a script can name
pub data Board : Type 0 where
  Binary32 : Board
  Counter : Board

-- the first line names the catalogue: B for binary32, C for counters
abbrev pub board_of : List ℕ → Option Board
board_of [] = None
board_of (b ∷ []) = cond (b == 66) (Some Binary32) (cond (b == 67) (Some Counter) None)
board_of (b ∷ c ∷ bs) = None

-- the answers to a script over a catalogue; a script that names none is unreadable as a whole
abbrev pub by_board : Option Board → List (List ℕ) → List ℕ
by_board None ls = line_of (refused 10)
by_board (Some Binary32) ls = answers binary ls (new_table binary)
by_board (Some Counter) ls = answers counter ls (new_table counter)

-- what is written for an input; one that is too long is answered as a whole
abbrev pub written_for : List ℕ → List ℕ
written_for input = cond (nat_lt 65536 (length input)) (line_of (refused 10)) (by_board (board_of (front 10 input)) (lines (drop 1 (back 10 input))))

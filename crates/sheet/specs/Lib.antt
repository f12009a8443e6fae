-- The sheet. Read from the top. Numbers says which registers and places there are; Lines what the check answers; Places what a set of
-- places is; Boards, down to its fields, what the lines of a sheet are by place; Rules what each event and step makes of a table, and
-- Words the same in words, by limits, ranges, lines and due places; Calls what each public call answers and leaves; Histories what
-- lists of calls lead to; Outcomes how an outcome is shown, and a sheet's debug text. Bits, and the rest of Boards, tell how the code keeps sets of places and
-- lines: contracts do not see it, and nobody has to read it in order to believe them.
pub mod Numbers
pub mod Lines
pub mod Places
pub mod Bits
pub mod Boards
pub mod Rules
pub mod Words
pub mod Calls
pub mod Histories
pub mod Outcomes

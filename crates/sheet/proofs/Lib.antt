-- Lemmas shared by the proofs of functions: sets of places (PlaceSets) and the bits that keep them (PlaceBits), lines made again by the check (Checking), lines by place and their index (Boards), ranges
-- (Meets), what every table keeps (Kept), what the rules compute in words (Wordings), limits and lines by the list of calls (Recounts), the loop of a settle (Settles), one call
-- more in a history (Reaching), and what partner (Partnering) and read-back (ReadingBack) answer by the list of calls.
pub mod PlaceSets
pub mod PlaceBits
pub mod Checking
pub mod Boards
pub mod Meets
pub mod Kept
pub mod Wordings
pub mod Recounts
pub mod Settles
pub mod Reaching
pub mod Partnering
pub mod ReadingBack

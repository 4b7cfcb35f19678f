-- Section 7 of document 01, a line of the input: hexadecimal digits, and its frame.
-- Section 7 of document 01: the lines of a text.
-- Section 7 of document 01: pairs of samples.
-- Section 7 of document 01, the input: its lines, and the lot that their frames describe.
pub mod Hex
pub mod Frame
pub mod TextLines
pub mod Places
pub mod Frames
pub mod Call
pub mod Fits
pub mod inner

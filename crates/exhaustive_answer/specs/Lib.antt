-- Section 6 of document 01: what inner functions answer for a lot on given coordinates.
-- What is left by a call that is turned away.
-- Section 6 of document 01: the coordinates of a lot's samples, as they are lent.
pub mod inner

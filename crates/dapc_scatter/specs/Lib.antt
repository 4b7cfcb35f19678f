-- Section 5 of document 01: means.
-- Section 5 of document 01: the ridge.
-- Section 5 of document 01: the scatter within and between groups.
-- Section 5 of document 01: means and scatter together.
pub mod Means
pub mod Ridge
pub mod Scatter
pub mod inner

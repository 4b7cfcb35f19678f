-- Statistics of a lot with the labels of a way, their exact case, and the warnings that a lot gives: what both tests share.
-- Sections 2 and 3 of document 01: what is observed of labels.
-- Sections 2 and 8 of document 01: what both tests tell of a lot beside their statistics.
pub mod Statistics
pub mod Exact
pub mod Warnings
pub mod Summaries
pub mod inner

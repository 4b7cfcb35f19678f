-- Section 3 of document 01: the F of the one-way ANOVA.
-- Section 3 of document 01: distances to centroids.
pub mod Anova
pub mod Dispersion
pub mod inner

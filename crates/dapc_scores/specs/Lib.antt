-- Section 5 of document 01: scores on the discriminant axes, centroids, and the nearest centroid of each sample.
-- Section 5 of document 01: the nearest centroid.
pub mod Scores
pub mod Assigned

-- Lists of places, a member with each later one, the exact case of whole terms, and terms by the squares alone.
pub mod PlaceLists
pub mod LaterMembers
pub mod WholeSums
pub mod SameSquares

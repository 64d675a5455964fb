pub mod Positions
mod WideNumbers
mod CornerPlaces
mod Keys
mod Counts
mod LeastTets
mod Directions
mod TriangleRuns
pub mod FlatTets
mod FirstTets
pub mod SortedTriangles
mod Judgements
mod Sums
pub mod PairedTriangles
mod SoundTets

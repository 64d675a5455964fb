pub mod Displacements
pub mod Spans
pub mod NodeSpans
pub mod NearNodes

pub mod Spans
pub mod Nodes
pub mod NodeLines
pub mod Texts
pub mod Laws
pub mod Stars

pub mod LeastOfLists
pub mod MeshBounds

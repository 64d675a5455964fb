pub mod Fields
pub mod Numbers
pub mod NodesBack
pub mod TetsBack
pub mod SoundVerdict
pub mod MeshBack

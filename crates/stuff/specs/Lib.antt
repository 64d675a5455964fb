pub mod Inputs
pub mod Ports
pub mod Writing
pub mod Outputs
pub mod Ends
pub mod Refusals
pub mod Signs
pub mod Traces

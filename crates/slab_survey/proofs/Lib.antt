pub mod Numbers
pub mod Sublists
pub mod Puts
pub mod Passes
pub mod Rooms
pub mod Told
pub mod Reaches

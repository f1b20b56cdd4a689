pub mod Leaves
pub mod Nodes
pub mod Later
pub mod Planted
pub mod Works
pub mod Fronts

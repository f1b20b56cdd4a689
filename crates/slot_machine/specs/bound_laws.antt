-- Of any network: its edges and its bound, and which networks are finite.
pub mod NetworkEdges
pub mod NetworkBound
pub mod Finite
-- What is proved of every compiled problem.
pub mod Laws

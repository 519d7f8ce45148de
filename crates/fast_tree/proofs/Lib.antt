pub mod BodyNodes

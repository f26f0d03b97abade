pub mod Shapes
pub mod Plans

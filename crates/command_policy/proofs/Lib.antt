pub mod Lengths
mod Lines
pub mod Answered
pub mod Origins

pub mod Commands
pub mod Program
pub mod Notes
pub mod Numbers

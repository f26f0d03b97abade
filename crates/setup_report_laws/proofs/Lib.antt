pub mod Capabilities
pub mod Measured
pub mod OneLine
pub mod Parts
pub mod Renamed
pub mod Told

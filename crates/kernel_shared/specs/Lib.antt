-- What contracts cite: lawful histories, fronts, what is read after one, what contracts see of a client, and what a drive leaves.
pub mod Laws
pub mod Taking
pub mod Fronts
pub mod Readers
pub mod Answers
pub mod ClientStates
pub mod Faults
pub mod Driving

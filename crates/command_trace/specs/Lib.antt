-- A trace: Words has the words of a call, Trace all of it, Traces what the program writes of an input; Laws has what its law says. Its
-- lines: Lines has what is told of a state, Siblings the order of siblings, Changes how two states differ, Told all of it, Calls what a
-- call changes, Foreseen what it changes by its words alone, Ways how its words are looked up, Names the first lines, Views what the code keeps of a state.
pub mod Words
pub mod Ways
pub mod Trace
pub mod Traces
pub mod Laws
pub mod Lines
pub mod Siblings
pub mod Changes
pub mod Told
pub mod Names
pub mod Views
pub mod Calls
pub mod Foreseen
pub mod Private

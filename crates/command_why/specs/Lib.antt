-- What is said of the calls of a set-up: Tables has the tables by which they are spelt, Why the text, Explained what the program writes
-- of an input, Meanings what the names in it mean. Of a refused call: Names has the names by which values are spelt, Keys the words of a
-- call with their keys, Words the words that checks are about, Asked a call as it is spelt, Text the parts of a line, Facts, Lookups and
-- Retypes the lines of some reasons, Reasons those of each; Laws says how many lines there are.
pub mod Tables
pub mod Why
pub mod Explained
pub mod Meanings
pub mod Limits
pub mod Names
pub mod Keys
pub mod Words
pub mod Asked
pub mod Text
pub mod Facts
pub mod Lookups
pub mod Retypes
pub mod Reasons
pub mod Laws

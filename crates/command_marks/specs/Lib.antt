-- The marks of a set-up's calls: Marks has what they are, Text what is written of them, Table what is written of several files,
-- Against those by the questions of an exercise, Differences where a set-up is another one, Answers what is written of these, and Laws what marks tell of the report,
-- Recorded a set-up of which each call expects its reply, and Migrations a set-up of format 2 for one of format 1.
pub mod Marks
pub mod Text
pub mod Table
pub mod Against
pub mod Differences
pub mod Answers
pub mod Laws
pub mod Recorded
pub mod Migrations

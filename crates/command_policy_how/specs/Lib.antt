-- The calls by which a breach of a policy happens: Breach has which breach a line tells of, Question which questions it stands for,
-- Asked what comes of these, and Told what is written.
pub mod Breach
pub mod Question
pub mod Asked
pub mod Told
pub mod Private

-- Whether one thread's part is kept from another's: Question has what is asked and what the program writes, Waits who waits on an
-- endpoint, Never the answer of parts, Kept what it promises, Still what parts are still, Answer what other answers stand on, Chains
-- which chains of slots are listed, and Open the text of an answer.
pub mod Question
pub mod Waits
pub mod Never
pub mod Kept
pub mod Still
pub mod Answer
pub mod Chains
pub mod Open

-- What the threads of a set-up can never get: Threads has which of them are trusted, Takes which parts may take slots from
-- which, NotTaken what it means that they may not, Messages which parts only pass messages, Telling how threads, endpoints and parts
-- are told, Text the text of parts, Ever of which parts it is, Alone what it means that a part only passes messages, Told what the
-- program writes of an input, and Private what the contracts of private functions cite.
pub mod Threads
pub mod Takes
pub mod NotTaken
pub mod Messages
pub mod Telling
pub mod Text
pub mod Ever
pub mod Alone
pub mod Told
pub mod Private

-- What the laws of policies say: Held of messages by ways, Grants of parts that Grant joins, GrantsMet of two parts and the endpoints that are met, Larger of parts that
-- lie in others, Takes of slots that calls empty, Keeps of a policy that is kept, Broken of a line that tells of a breach, and Unbroken of a text that tells of none.
pub mod Held
pub mod Larger
pub mod Takes
pub mod Keeps
pub mod Broken
pub mod Grants
pub mod GrantsMet
pub mod Unbroken
pub mod Audits

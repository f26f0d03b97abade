-- The rights of an endpoint capability, each the bit that stands for it.
use Rattle.std.specs.Prelude.{ℕ, ◌+◌}
use Rattle.cap_core.specs.declared.rights.Rights.{Rights}

-- the right Write, to send
abbrev pub write_bit : ℕ
write_bit = 1

-- the right Read, to receive
abbrev pub read_bit : ℕ
read_bit = 2

-- to pass capabilities on with a message
abbrev pub grant_bit : ℕ
grant_bit = 4

-- to pass on the capability of a reply
abbrev pub grant_reply_bit : ℕ
grant_reply_bit = 8

abbrev pub all_rights : Rights
all_rights = record { 0 = write_bit + read_bit + grant_bit + grant_reply_bit }

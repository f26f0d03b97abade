-- A set-up of which each call expects the reply that it gets.
use Rattle.std.specs.Prelude.{◌≡◌, codes, ℕ, ◌+◌, List, [], ◌∷◌, ◌++◌, Option, None, Some, Ok, length, nat_le, if◌then◌else◌}
use Rattle.toml.specs.Data.{Data, string, array, table, Items, Members, get_item}
use Rattle.toml.specs.View.{items_of}
use Rattle.cap_core.specs.declared.profile.ProfileName.{ProfileName}
use Rattle.kernel_abstract.specs.declared.call.Reply.{Reply}
use Rattle.kernel_abstract.specs.declared.call.Reply.TheVariants.{Delivered}
use Rattle.setup_values.specs.Limits.{max_expect_bytes}
use Rattle.setup_format.specs.Setups.{document_of}
use Rattle.setup_format.specs.Views.{ReadView}
use Rattle.setup_migrate.specs.Migration.{with_member, with_changed}
use Rattle.setup_report.specs.Text.{reply_text}
use Rattle.command_check.specs.Program.{replies_to}
use Rattle.command_core.specs.declared.fault.Verdict.{Verdict}
use Rattle.command_core.specs.declared.fault.Verdict.TheVariants.{AllMet}

-- a delivery as if its message had no words, and any other reply
abbrev pub without_words : Reply → Reply
without_words (Delivered endpoint from to badge message) =
    Delivered endpoint from to badge (record { label = message.label; words = message.words; count = 0 })
without_words reply = reply

-- what a call is to expect of this reply: its text, but for the words of its message if that is longer than an expectation may be
abbrev pub expectation_of : Reply → List ℕ
expectation_of reply = if nat_le (length (reply_text reply)) max_expect_bytes then reply_text reply else reply_text (without_words reply)

-- the members of a call that expects this reply, in place of what it expected
abbrev pub with_expectation : Reply → Members → Members
with_expectation reply call = with_member (codes "expect") (string (expectation_of reply)) call

abbrev pub expecting : Reply → Data → Data
expecting reply (table call) = table (with_expectation reply call)
expecting reply d = d

-- the call of a reply, if there is one, which expects it
abbrev pub answered : Option Data → Reply → List Data
answered None reply = []
answered (Some call) reply = expecting reply call ∷ []

-- the calls from a place on, each of which expects its own reply
abbrev pub all_expecting : Items → ℕ → List Reply → List Data
all_expecting calls place [] = []
all_expecting calls place (reply ∷ replies) = answered (get_item place calls) reply ++ all_expecting calls (place + 1) replies

abbrev pub calls_expecting : List Reply → Data → Data
calls_expecting replies (array calls) = array (items_of (all_expecting calls 0 replies))
calls_expecting replies d = d

-- the table of a set-up, in which nothing but what its calls expect is another
abbrev pub recorded : ProfileName → ReadView → Members
recorded p read = with_changed (codes "call") (calls_expecting (replies_to p read.setup)) read.table

-- a TOML text that is read as that table
abbrev pub IsRecord : ProfileName → ReadView → List ℕ → Verdict → Type 0
IsRecord p read text verdict = (document_of text ≡ Ok (recorded p read)) × (verdict ≡ AllMet)

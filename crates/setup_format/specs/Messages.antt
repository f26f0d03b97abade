-- The messages of a set-up's calls.
use Rattle.std.specs.Prelude.{◌≡◌, ◌<◌, ◌≤◌, ◌-◌, ◌^◌, drop, replicate}
use Rattle.cap_core.specs.declared.profile.ProfileName.{ProfileName}
use Rattle.cap_core.specs.Limits.{max_message_words}
use Rattle.cap_core.specs.declared.message.Message.{Message}
use Rattle.cap_core.specs.Numbers.{label_bits}
use Rattle.kernel_abstract.specs.declared.call.Op.{Op}
use Rattle.kernel_abstract.specs.declared.call.Op.TheVariants.{Send, NbSend}
use Rattle.setup_format.specs.Views.{CallView}

-- a label of the profile, no more words than a message has, and zeros past them
pub record IsMessage (p : ProfileName) (m : Message) : Type 0 where
  pub label_within : m.label < 2 ^ label_bits p
  pub count_most : m.count ≤ max_message_words
  pub zeros : drop m.count m.words ≡ replicate (max_message_words - m.count) 0

abbrev pub SendsMessage : ProfileName → Op → Type 0
SendsMessage p (Send cap message) = IsMessage p message
SendsMessage p (NbSend cap message) = IsMessage p message
SendsMessage p op = Unit {0}

-- if a call sends a message, it is one of the profile
abbrev pub HasMessage : ProfileName → CallView → Type 0
HasMessage p call = SendsMessage p call.call.op

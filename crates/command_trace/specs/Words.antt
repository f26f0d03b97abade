-- The words of a call: each key of its operation with its value, what a set-up leaves out filled in.
use Rattle.std.specs.Prelude.{codes, ℕ, List, [], ◌++◌, flat_map, Option, None, Some}
use Rattle.std.specs.Fmt.{decimal}
use Rattle.cap_core.specs.declared.message.Message.{Message}
use Rattle.kernel_abstract.specs.declared.call.Op.{Op}
use Rattle.setup_report.specs.Text.{message_text}
use Rattle.command_why.specs.Keys.{KeyWords, key_words, sent_message}

-- each key with its word, both after a space
abbrev pub keys_text : KeyWords → List ℕ
keys_text words = flat_map (λ (k : List ℕ × ℕ). codes " " ++ (k.0 ++ (codes " " ++ decimal k.1))) words

-- the message that is sent, where one is
abbrev pub sent_text : Option Message → List ℕ
sent_text None = []
sent_text (Some message) = codes " " ++ message_text message

abbrev pub op_words : Op → List ℕ
op_words op = keys_text (key_words op) ++ sent_text (sent_message op)

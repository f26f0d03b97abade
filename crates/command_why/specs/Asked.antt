-- A call as a set-up spells it: each of its keys with its value and, if the value is spelt by a name, that name.
use Rattle.std.specs.Prelude.{codes, ℕ, List, Option, option_map}
use Rattle.toml.specs.Data.{Members}
use Rattle.toml.specs.View.{table_view}
use Rattle.kernel_abstract.specs.declared.call.Call.{Call}
use Rattle.kernel_abstract.specs.declared.reason.Held.{Held}
use Rattle.kernel_abstract.specs.declared.reason.Word.{Word}
use Rattle.setup_report.specs.Naming.{Texts, naming_view}
use Rattle.command_why.specs.declared.reasons.asked.Asked.{Asked}
use Rattle.command_why.specs.Names.{name_at}
use Rattle.command_why.specs.Keys.{key_words, word_of}
use Rattle.command_why.specs.Words.{word_key, depth_key}
use Rattle.command_why.specs.Text.{key_value_text, led_text}

-- a call, and the table that spells it
pub record AskedView : Type 0 where
  pub call : Call
  pub table : Option Members

-- a call that was asked about, with its table
abbrev pub asked_view : Asked → AskedView
asked_view a = record { call = a.call.now; table = option_map (λ t. table_view t.now) a.table }

-- how the lines about the call write objects and slots
abbrev pub asked_texts : Asked → Texts
asked_texts a = naming_view a.naming.now

-- a key of the call with its word
unfoldable pub key_said : AskedView → List ℕ → List ℕ
key_said a key = key_value_text key (word_of (key_words a.call.op) key) (name_at a.table key)

-- the word that a check is about, the depth that belongs to an index, and the word that sets a capability's data
unfoldable pub word_said : AskedView → Word → List ℕ
word_said a word = key_said a (word_key word)

unfoldable pub depth_said : AskedView → Word → List ℕ
depth_said a word = key_said a (depth_key word)

unfoldable pub data_said : AskedView → List ℕ
data_said a = key_said a (codes "word")

-- the name by which the calling thread is spelt
unfoldable pub asked_thread_name : AskedView → Option (List ℕ)
asked_thread_name a = name_at a.table (codes "thread")

-- a word, and the slot that it leads to or names, with what is in it
unfoldable pub led_said : Texts → AskedView → Word → Held → List ℕ
led_said texts a word held = led_text texts (word_said a word) word held

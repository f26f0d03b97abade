-- What a name means that stands next to a value.
use Rattle.std.specs.Prelude.{◌≡◌, codes, ℕ, List, ◌∷◌, All, Option, Some}
use Rattle.toml.specs.Data.{Members}
use Rattle.kernel_abstract.specs.declared.call.Call.{Call}
use Rattle.setup_values.specs.Names.{Names, word_named}
use Rattle.command_why.specs.Names.{name_at}
use Rattle.command_why.specs.Keys.{KeyWords, key_words}

-- if a call's table spells the value of a key by a name, the name stands for this word
abbrev pub MeansWord : Names → Option Members → List ℕ × ℕ → Type 0
MeansWord names table k = (name : List ℕ) → name_at table k.0 ≡ Some name → word_named names name ≡ Some k.1

-- the thread and the keys of a call, each with its word
abbrev pub said_words : Call → KeyWords
said_words call = (codes "thread", call.thread) ∷ key_words call.op

-- each name next to a word of a call has the value of that word
abbrev pub MeanTheirWords : Names → Option Members → Call → Type 0
MeanTheirWords names table call = All (MeansWord names table) (said_words call)

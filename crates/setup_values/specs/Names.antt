-- Names that stand for words.
use Rattle.std.specs.Prelude.{◌≡◌, ℕ, List, map, find, Option, option_map, string_bytes}
use Rattle.std.specs.Str.{bytes_eq}
use Rattle.std.specs.HashMap.{HashMap, get_by}
use denote.Ref.{Bor}
use Rattle.setup_values.specs.declared.names.Name.{Name}

-- each name's text, and its word
abbrev pub Names : Type 0
Names = List (List ℕ × ℕ)

-- what names are, as the code keeps them: the bytes of each one's text, and its word
abbrev pub names_view : List Name → Names
names_view = map (λ n. (string_bytes n.text, n.word))

-- the word of the first name with a text
abbrev pub word_named : Names → List ℕ → Option ℕ
word_named names text = option_map (λ n. n.1) (find (λ n. bytes_eq n.0 text) names)

-- a table has for each text the word of the first name with that text
abbrev pub AreWordsOf : {S : Type 0} → List Name → HashMap (Bor (List ℕ)) ℕ S → Type 0
AreWordsOf names words = (text : List ℕ) → get_by (λ k. bytes_eq text k.now) words ≡ word_named (names_view names) text

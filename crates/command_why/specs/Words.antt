-- The words that checks are about.
use Rattle.std.specs.Prelude.{codes, ℕ, List, Bool, true, false}
use Rattle.kernel_abstract.specs.declared.reason.Word.{Word}
use Rattle.kernel_abstract.specs.declared.reason.Word.TheVariants.{Invoked, Root, SourceRoot, Index, SourceIndex}
use Rattle.command_why.specs.Keys.{KeyWords, word_of}

abbrev pub word_key : Word → List ℕ
word_key Invoked = codes "cap"
word_key Root = codes "root"
word_key SourceRoot = codes "src_root"
word_key Index = codes "index"
word_key SourceIndex = codes "src_index"

abbrev pub value_of : KeyWords → Word → ℕ
value_of words word = word_of words (word_key word)

-- the depth that belongs to an index
abbrev pub depth_key : Word → List ℕ
depth_key Invoked = codes "depth"
depth_key Root = codes "depth"
depth_key SourceRoot = codes "depth"
depth_key Index = codes "depth"
depth_key SourceIndex = codes "src_depth"

abbrev pub depth_of : KeyWords → Word → ℕ
depth_of words word = word_of words (depth_key word)

-- a word that is looked up whole, from the thread's root on
abbrev pub is_whole : Word → Bool
is_whole Index = false
is_whole SourceIndex = false
is_whole word = true

-- the word that leads to where an index is looked up from, of those that may lead to no CNode
abbrev pub root_of : Word → Word
root_of SourceIndex = SourceRoot
root_of word = Root

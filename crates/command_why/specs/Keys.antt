-- The words of a call, each with its key.
use Rattle.std.specs.Prelude.{codes, ℕ, List, [], ◌∷◌, ◌++◌, unwrap_or, Option, Some, None}
use Rattle.cap_core.specs.declared.message.Message.{Message}
use Rattle.kernel_abstract.specs.declared.call.Op.{Op}
use Rattle.kernel_abstract.specs.declared.call.Op.TheVariants.{Retype, CapCopy, CapMint, CapMove, CapMutate, CapDelete, CapRevoke, CancelBadged, Send, NbSend, Recv, NbRecv, SetSpace, Suspend, Resume}
use Rattle.setup_values.specs.Names.{word_named}
use Rattle.command_why.specs.declared.reasons.keys.KeyWord.{KeyWord}

-- how many words an operation has at most
abbrev pub most_words : ℕ
most_words = 8

-- some keys, each with its word
abbrev pub KeyWords : Type 0
KeyWords = List (List ℕ × ℕ)

-- a key of a call with the word that it has
abbrev pub key_word : KeyWord → List ℕ × ℕ
key_word k = (k.key.now, k.word)

abbrev pub cap_word : ℕ → KeyWords
cap_word cap = (codes "cap", cap) ∷ []

-- the slot that a call fills, or is about
abbrev pub slot_key_words : ℕ → ℕ → ℕ → KeyWords
slot_key_words cap index depth = (codes "cap", cap) ∷ (codes "index", index) ∷ (codes "depth", depth) ∷ []

-- and the slot that it takes from
abbrev pub transfer_words : ℕ → ℕ → ℕ → ℕ → ℕ → ℕ → KeyWords
transfer_words cap index depth src_root src_index src_depth =
    slot_key_words cap index depth ++ (codes "src_root", src_root) ∷ (codes "src_index", src_index) ∷ (codes "src_depth", src_depth) ∷ []

-- the words of an operation without the message that it sends, what a set-up leaves out filled in
abbrev pub key_words : Op → KeyWords
key_words (Retype cap kind size_bits root index depth offset count) =
    (codes "cap", cap) ∷ (codes "kind", kind) ∷ (codes "size_bits", size_bits)
    ∷ (codes "root", root) ∷ (codes "index", index) ∷ (codes "depth", depth)
    ∷ (codes "offset", offset) ∷ (codes "count", count) ∷ []
key_words (CapCopy cap index depth src_root src_index src_depth rights) =
    transfer_words cap index depth src_root src_index src_depth ++ (codes "rights", rights.0) ∷ []
key_words (CapMint cap index depth src_root src_index src_depth rights word) =
    transfer_words cap index depth src_root src_index src_depth ++ (codes "rights", rights.0) ∷ (codes "word", word) ∷ []
key_words (CapMove cap index depth src_root src_index src_depth) =
    transfer_words cap index depth src_root src_index src_depth
key_words (CapMutate cap index depth src_root src_index src_depth word) =
    transfer_words cap index depth src_root src_index src_depth ++ (codes "word", word) ∷ []
key_words (CapDelete cap index depth) = slot_key_words cap index depth
key_words (CapRevoke cap index depth) = slot_key_words cap index depth
key_words (CancelBadged cap index depth) = slot_key_words cap index depth
key_words (Send cap message) = cap_word cap
key_words (NbSend cap message) = cap_word cap
key_words (Recv cap) = cap_word cap
key_words (NbRecv cap) = cap_word cap
key_words (SetSpace cap root word) = (codes "cap", cap) ∷ (codes "root", root) ∷ (codes "word", word) ∷ []
key_words (Suspend cap) = cap_word cap
key_words (Resume cap) = cap_word cap

-- the message that an operation sends
abbrev pub sent_message : Op → Option Message
sent_message (Send cap message) = Some message
sent_message (NbSend cap message) = Some message
sent_message op = None

-- the word of a key; 0 if the operation has no such key
abbrev pub word_of : KeyWords → List ℕ → ℕ
word_of words key = unwrap_or (word_named words key) 0

-- The operations that a call may name: how each is spelt, and which keys its call has.
use Rattle.std.specs.Prelude.{codes, ℕ, List, [], ◌∷◌, ◌++◌, find, Option}
use Rattle.std.specs.Str.{bytes_eq}
use Rattle.setup_values.specs.declared.operations.OpName.{OpName}
use Rattle.setup_values.specs.declared.operations.OpName.TheVariants.{Retype, CapCopy, CapMint, CapMove, CapMutate, CapDelete, CapRevoke, CancelBadged, Send, NbSend, Recv, NbRecv, SetSpace, Suspend, Resume}

-- the text that names an operation
abbrev pub op_text : OpName → List ℕ
op_text Retype = codes "retype"
op_text CapCopy = codes "copy"
op_text CapMint = codes "mint"
op_text CapMove = codes "move"
op_text CapMutate = codes "mutate"
op_text CapDelete = codes "delete"
op_text CapRevoke = codes "revoke"
op_text CancelBadged = codes "cancel_badged"
op_text Send = codes "send"
op_text NbSend = codes "nbsend"
op_text Recv = codes "recv"
op_text NbRecv = codes "nbrecv"
op_text SetSpace = codes "set_space"
op_text Suspend = codes "suspend"
op_text Resume = codes "resume"

abbrev pub all_ops : List OpName
all_ops =
    Send ∷ NbSend ∷ Recv ∷ NbRecv ∷ Retype ∷ CapCopy ∷ CapMint ∷ CapMove ∷ CapMutate ∷ CapDelete ∷ CapRevoke ∷ CancelBadged ∷ SetSpace ∷ Suspend ∷ Resume ∷ []

-- the operation that a text names
unfoldable pub op_named : List ℕ → Option OpName
op_named text = find (λ op. bytes_eq (op_text op) text) all_ops

-- the keys of every call
abbrev pub common_keys : List (List ℕ)
common_keys = codes "thread" ∷ codes "op" ∷ codes "client" ∷ codes "expect" ∷ []

-- the keys by which a copy or a move names its slots
abbrev pub slot_keys : List (List ℕ)
slot_keys =
    codes "cap" ∷ codes "index" ∷ codes "depth" ∷ codes "src_root" ∷ codes "src_index" ∷ codes "src_depth" ∷ []

-- the keys of an operation's words
abbrev pub word_keys : OpName → List (List ℕ)
word_keys Retype =
    codes "cap" ∷ codes "kind" ∷ codes "size_bits" ∷ codes "root" ∷ codes "index" ∷ codes "depth" ∷ codes "offset" ∷ codes "count" ∷ []
word_keys CapCopy = slot_keys ++ codes "rights" ∷ []
word_keys CapMint = slot_keys ++ codes "rights" ∷ codes "word" ∷ []
word_keys CapMove = slot_keys
word_keys CapMutate = slot_keys ++ codes "word" ∷ []
word_keys CapDelete = codes "cap" ∷ codes "index" ∷ codes "depth" ∷ []
word_keys CapRevoke = codes "cap" ∷ codes "index" ∷ codes "depth" ∷ []
word_keys CancelBadged = codes "cap" ∷ codes "index" ∷ codes "depth" ∷ []
word_keys Send = codes "cap" ∷ codes "label" ∷ codes "words" ∷ []
word_keys NbSend = codes "cap" ∷ codes "label" ∷ codes "words" ∷ []
word_keys Recv = codes "cap" ∷ []
word_keys NbRecv = codes "cap" ∷ []
word_keys SetSpace = codes "cap" ∷ codes "root" ∷ codes "word" ∷ []
word_keys Suspend = codes "cap" ∷ []
word_keys Resume = codes "cap" ∷ []

-- the keys of a call with an operation
abbrev pub call_keys : OpName → List (List ℕ)
call_keys op = common_keys ++ word_keys op

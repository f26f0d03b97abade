-- The operation of a call, from the keys that hold its words.
use Rattle.std.specs.Prelude.{codes, ℕ, List, [], Result, Ok}
use Rattle.toml.specs.Data.{Members}
use Rattle.cap_core.specs.declared.profile.ProfileName.{ProfileName}
use Rattle.cap_core.specs.declared.message.Message.{Message}
use Rattle.cap_core.specs.declared.rights.Rights.{Rights}
use Rattle.cap_core.specs.Numbers.{word_bits}
use Rattle.cap_core.specs.Rights.{all_rights}
use Rattle.kernel_abstract.specs.declared.call.Op.{Op}
use Rattle.kernel_abstract.specs.declared.call.Op.TheVariants as ops
use Rattle.kernel_abstract.specs.declared.invocation.SlotArguments.{SlotArguments}
use Rattle.setup_format.specs.declared.fault.Place.{Place}
use Rattle.setup_values.specs.declared.operations.OpName.{OpName}
use Rattle.setup_values.specs.declared.operations.OpName.TheVariants.{Retype, CapCopy, CapMint, CapMove, CapMutate, CapDelete, CapRevoke, CancelBadged, Send, NbSend, Recv, NbRecv, SetSpace, Suspend, Resume}
use Rattle.setup_values.specs.Names.{Names}
use Rattle.cap_core.specs.Checks.{◌>>=◌}
use Rattle.setup_values.specs.Kinds.{word, rights, label, words, filled}
use Rattle.setup_format.specs.Faults.{Fault}
use Rattle.setup_format.specs.Tables.{required, optional}

module _ (p : ProfileName) (names : Names) (place : Place) (table : Members) where
  -- a word that has to be given, and a word with a default
  abbrev pub word_at : List ℕ → Result ℕ Fault
  word_at key = required place table key (word p names)

  abbrev pub word_or : List ℕ → ℕ → Result ℕ Fault
  word_or key default = optional place table key default (word p names)

  unfoldable pub retype_at : Result Op Fault
  retype_at = do
    cap ← word_at (codes "cap")
    kind ← word_at (codes "kind")
    size_bits ← word_or (codes "size_bits") 0
    root ← word_at (codes "root")
    index ← word_or (codes "index") 0
    depth ← word_or (codes "depth") 0
    offset ← word_at (codes "offset")
    count ← word_at (codes "count")
    Ok (ops.Retype cap kind size_bits root index depth offset count)

  -- the CNode that is invoked, and the words by which a copy or a move names its slots: if no depth is given, all the bits of a word are; if no CNode of the source is given, it is the one that is invoked
  unfoldable pub slots_at : Result (ℕ × SlotArguments) Fault
  slots_at = do
    cap ← word_at (codes "cap")
    index ← word_at (codes "index")
    depth ← word_or (codes "depth") (word_bits p)
    src_root ← word_or (codes "src_root") cap
    src_index ← word_at (codes "src_index")
    src_depth ← word_or (codes "src_depth") (word_bits p)
    Ok (cap, record { index = index; depth = depth; src_root = src_root; src_index = src_index; src_depth = src_depth })

  abbrev pub rights_at : Result Rights Fault
  rights_at = optional place table (codes "rights") all_rights rights

  unfoldable pub copy_at : Result Op Fault
  copy_at = do
    w ← slots_at
    rights ← rights_at
    Ok (ops.CapCopy w.0 w.1.index w.1.depth w.1.src_root w.1.src_index w.1.src_depth rights)

  unfoldable pub mint_at : Result Op Fault
  mint_at = do
    w ← slots_at
    rights ← rights_at
    value ← word_at (codes "word")
    Ok (ops.CapMint w.0 w.1.index w.1.depth w.1.src_root w.1.src_index w.1.src_depth rights value)

  unfoldable pub move_at : Result Op Fault
  move_at = do
    w ← slots_at
    Ok (ops.CapMove w.0 w.1.index w.1.depth w.1.src_root w.1.src_index w.1.src_depth)

  unfoldable pub mutate_at : Result Op Fault
  mutate_at = do
    w ← slots_at
    value ← word_at (codes "word")
    Ok (ops.CapMutate w.0 w.1.index w.1.depth w.1.src_root w.1.src_index w.1.src_depth value)

  -- a slot of a CNode: if no depth is given, all the bits of a word are
  unfoldable pub slot_at : Result (ℕ × ℕ × ℕ) Fault
  slot_at = do
    cap ← word_at (codes "cap")
    index ← word_at (codes "index")
    depth ← word_or (codes "depth") (word_bits p)
    Ok (cap, index, depth)

  -- an endpoint, and the message that is sent to it
  unfoldable pub message_at : Result (ℕ × Message) Fault
  message_at = do
    cap ← word_at (codes "cap")
    label ← optional place table (codes "label") 0 (label p)
    words ← optional place table (codes "words") (filled []) (words p names)
    Ok (cap, record { label = label; words = words.words; count = words.count })

  -- if no guard word is given, it is 0
  unfoldable pub set_space_at : Result Op Fault
  set_space_at = do
    cap ← word_at (codes "cap")
    root ← word_at (codes "root")
    value ← word_or (codes "word") 0
    Ok (ops.SetSpace cap root value)

  abbrev pub operation_at : OpName → Result Op Fault
  operation_at Retype = retype_at
  operation_at CapCopy = copy_at
  operation_at CapMint = mint_at
  operation_at CapMove = move_at
  operation_at CapMutate = mutate_at
  operation_at CapDelete = slot_at >>= λ w. Ok (ops.CapDelete w.0 w.1 w.2)
  operation_at CapRevoke = slot_at >>= λ w. Ok (ops.CapRevoke w.0 w.1 w.2)
  operation_at CancelBadged = slot_at >>= λ w. Ok (ops.CancelBadged w.0 w.1 w.2)
  operation_at Send = message_at >>= λ w. Ok (ops.Send w.0 w.1)
  operation_at NbSend = message_at >>= λ w. Ok (ops.NbSend w.0 w.1)
  operation_at Recv = word_at (codes "cap") >>= λ cap. Ok (ops.Recv cap)
  operation_at NbRecv = word_at (codes "cap") >>= λ cap. Ok (ops.NbRecv cap)
  operation_at SetSpace = set_space_at
  operation_at Suspend = word_at (codes "cap") >>= λ cap. Ok (ops.Suspend cap)
  operation_at Resume = word_at (codes "cap") >>= λ cap. Ok (ops.Resume cap)

-- the name of an operation
abbrev pub op_name : Op → OpName
op_name (ops.Retype cap kind size_bits root index depth offset count) = Retype
op_name (ops.CapCopy cap index depth src_root src_index src_depth rights) = CapCopy
op_name (ops.CapMint cap index depth src_root src_index src_depth rights word) = CapMint
op_name (ops.CapMove cap index depth src_root src_index src_depth) = CapMove
op_name (ops.CapMutate cap index depth src_root src_index src_depth word) = CapMutate
op_name (ops.CapDelete cap index depth) = CapDelete
op_name (ops.CapRevoke cap index depth) = CapRevoke
op_name (ops.CancelBadged cap index depth) = CancelBadged
op_name (ops.Send cap message) = Send
op_name (ops.NbSend cap message) = NbSend
op_name (ops.Recv cap) = Recv
op_name (ops.NbRecv cap) = NbRecv
op_name (ops.SetSpace cap root word) = SetSpace
op_name (ops.Suspend cap) = Suspend
op_name (ops.Resume cap) = Resume

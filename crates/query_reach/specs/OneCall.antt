-- What one call of a thread names, and that the lists of the thread have it.
use Rattle.std.specs.Prelude.{◌≡◌, ℕ, ◌⊎◌, true, List, [], ◌∷◌, Ok}
use Rattle.std.specs.List.{Contains}
use Rattle.cap_core.specs.declared.profile.ProfileName.{ProfileName}
use Rattle.kernel_forest.specs.Forest.{Forest}
use Rattle.kernel_forest.specs.Entries.{Entry, cap_at, is_full}
use Rattle.cspace_core.specs.Target.{target_slot}
use Rattle.kernel_abstract.specs.declared.call.Op.{Op}
use Rattle.kernel_abstract.specs.declared.call.Op.TheVariants.{Retype, CapCopy, CapMint, CapMove, CapMutate, CapDelete, CapRevoke, CancelBadged, Send, NbSend, Recv, NbRecv, SetSpace, Suspend, Resume}
use Rattle.query_reach.specs.declared.held.Held.{Held}
use Rattle.query_reach.specs.declared.reached.Reached.{Reached}
use Rattle.query_reach.specs.Reaching.{leads}
use Rattle.query_reach.specs.Lists.{AreReached}
use Rattle.query_reach.specs.Holding.{AreHeldSlots}

-- the words of an operation that are looked up in the capability space of its thread
abbrev pub words_of : Op → List ℕ
words_of (Retype cap kind size_bits root index depth offset count) = cap ∷ root ∷ []
words_of (CapCopy cap index depth src_root src_index src_depth rights) = cap ∷ src_root ∷ []
words_of (CapMint cap index depth src_root src_index src_depth rights word) = cap ∷ src_root ∷ []
words_of (CapMove cap index depth src_root src_index src_depth) = cap ∷ src_root ∷ []
words_of (CapMutate cap index depth src_root src_index src_depth word) = cap ∷ src_root ∷ []
words_of (CapDelete cap index depth) = cap ∷ []
words_of (CapRevoke cap index depth) = cap ∷ []
words_of (CancelBadged cap index depth) = cap ∷ []
words_of (Send cap message) = cap ∷ []
words_of (NbSend cap message) = cap ∷ []
words_of (Recv cap) = cap ∷ []
words_of (NbRecv cap) = cap ∷ []
words_of (SetSpace cap root word) = cap ∷ root ∷ []
words_of (Suspend cap) = cap ∷ []
words_of (Resume cap) = cap ∷ []

-- an index and a depth, and the word of the capability from which they are looked up
pub record IndexFrom : Type 0 where
  pub root : ℕ
  pub index : ℕ
  pub depth : ℕ

abbrev pub from_word : ℕ → ℕ → ℕ → IndexFrom
from_word root index depth = record { root = root; index = index; depth = depth }

-- the slots of an operation that are named by an index and a depth
abbrev pub indexes_of : Op → List IndexFrom
indexes_of (Retype cap kind size_bits root index depth offset count) = from_word root index depth ∷ []
indexes_of (CapCopy cap index depth src_root src_index src_depth rights) = from_word cap index depth ∷ from_word src_root src_index src_depth ∷ []
indexes_of (CapMint cap index depth src_root src_index src_depth rights word) = from_word cap index depth ∷ from_word src_root src_index src_depth ∷ []
indexes_of (CapMove cap index depth src_root src_index src_depth) = from_word cap index depth ∷ from_word src_root src_index src_depth ∷ []
indexes_of (CapMutate cap index depth src_root src_index src_depth word) = from_word cap index depth ∷ from_word src_root src_index src_depth ∷ []
indexes_of (CapDelete cap index depth) = from_word cap index depth ∷ []
indexes_of (CapRevoke cap index depth) = from_word cap index depth ∷ []
indexes_of (CancelBadged cap index depth) = from_word cap index depth ∷ []
indexes_of (Send cap message) = []
indexes_of (NbSend cap message) = []
indexes_of (Recv cap) = []
indexes_of (NbRecv cap) = []
indexes_of (SetSpace cap root word) = []
indexes_of (Suspend cap) = []
indexes_of (Resume cap) = []

-- a thread's operation names a slot, by a word or by an index and a depth
pub data NamesSlot (p : ProfileName) (f : Forest Entry) (thread : ℕ) (op : Op) (slot : ℕ) : Type 0 where
  by_word : (word : ℕ) → Contains (words_of op) word → leads p f thread word ≡ Ok slot → NamesSlot p f thread op slot
  by_index : (i : IndexFrom) (holder : ℕ) → Contains (indexes_of op) i → leads p f thread i.root ≡ Ok holder →
      target_slot p (cap_at f) (cap_at f holder) i.index i.depth ≡ Ok slot → NamesSlot p f thread op slot

-- a slot is in a list of reached slots, or in one of held slots
abbrev pub IsTold : List Reached → List Held → ℕ → Type 0
IsTold reached held slot =
    ((r : Reached) × (Contains reached r × (r.slot ≡ slot))) ⊎ ((h : Held) × (Contains held h × (h.slot ≡ slot)))

-- each full slot that one operation of a thread names is in one of its lists
abbrev pub AreAllThatAreNamed : ProfileName → Forest Entry → ℕ → List Reached → List Held → Type 0
AreAllThatAreNamed p f thread reached held = AreReached p f thread reached → AreHeldSlots p f thread held →
    (op : Op) (slot : ℕ) → is_full slot f ≡ true → NamesSlot p f thread op slot → IsTold reached held slot

-- What a reason says of the state: each slot that it names holds the capability that the reason says.
use Rattle.std.specs.Prelude.{◌≡◌, ⊤, List, [], ◌∷◌, Result, Ok, Err}
use Rattle.cap_core.specs.declared.capability.Cap.TheVariants.{Null}
use Rattle.kernel_forest.specs.Forest.{Forest}
use Rattle.kernel_forest.specs.Entries.{Entry, cap_at}
use Rattle.kernel_abstract.specs.declared.reason.Held.{Held}
use Rattle.kernel_abstract.specs.declared.reason.Miss.{Miss}
use Rattle.kernel_abstract.specs.declared.reason.Miss.TheVariants.{NoRoot, OtherGuard, TooFewBits, BitsLeft}
use Rattle.kernel_abstract.specs.declared.reason.Reason.{Reason}
use Rattle.kernel_abstract.specs.declared.reason.Reason.TheVariants.{NotFound, NoDepth, NoCapability, OtherKind, NoRight, IsFull, IsEmpty, HasBadge, LongGuard, HasChildren, NotAllRights, NoSpace, NoNode, NoOffset, FewSlots, SomeFull, NoRoom}

abbrev pub told_by_miss : Miss → List Held
told_by_miss NoRoot = []
told_by_miss (OtherGuard node left read) = node ∷ []
told_by_miss (TooFewBits node left) = node ∷ []
told_by_miss (BitsLeft found left) = found ∷ []

-- the slots that a reason names, each with what it says is in it: nothing, if it says that the slot is empty
abbrev pub told_by : Reason → List Held
told_by (NotFound word from miss) = from ∷ told_by_miss miss
told_by (NoDepth word from most) = from ∷ []
told_by (NoCapability slot wanted) = record { slot = slot; cap = Null } ∷ []
told_by (OtherKind found wanted) = found ∷ []
told_by (NoRight found needed) = found ∷ []
told_by (IsFull held) = held ∷ []
told_by (IsEmpty slot) = record { slot = slot; cap = Null } ∷ []
told_by (HasBadge held) = held ∷ []
told_by (LongGuard word node size most) = node ∷ []
told_by (HasChildren source child) = source ∷ []
told_by (NotAllRights held) = held ∷ []
told_by (NoSpace held) = held ∷ []
told_by (NoNode word found) = found ∷ []
told_by (NoOffset word node) = node ∷ []
told_by (FewSlots word node) = node ∷ []
told_by (SomeFull word node number full) = node ∷ full ∷ []
told_by (NoRoom untyped has_children start bits room) = untyped ∷ []
told_by reason = []

abbrev pub IsThere : Forest Entry → Held → Type 0
IsThere f held = held.cap ≡ cap_at f held.slot

abbrev pub AreThere : Forest Entry → List Held → Type 0
AreThere f [] = ⊤
AreThere f (held ∷ helds) = IsThere f held × AreThere f helds

-- what a reason says is so
abbrev pub TellsTruly : {X : Type 0} → Forest Entry → Result X Reason → Type 0
TellsTruly f (Ok x) = ⊤
TellsTruly f (Err reason) = AreThere f (told_by reason)

abbrev pub MissesTruly : {X : Type 0} → Forest Entry → Result X Miss → Type 0
MissesTruly f (Ok x) = ⊤
MissesTruly f (Err miss) = AreThere f (told_by_miss miss)

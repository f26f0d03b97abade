-- The lines of reasons that are about the objects of a retype.
use Rattle.std.specs.Prelude.{codes, ℕ, List, ◌++◌, Bool, true, false}
use Rattle.std.specs.Fmt.{decimal}
use Rattle.cap_core.specs.declared.capability.Cap.{Cap}
use Rattle.cap_core.specs.declared.capability.Cap.TheVariants.{Untyped}
use Rattle.kernel_abstract.specs.declared.reason.Held.{Held}
use Rattle.kernel_abstract.specs.declared.reason.Word.TheVariants.{Invoked}
use Rattle.kernel_abstract.specs.declared.reason.Reason.{Reason}
use Rattle.kernel_abstract.specs.declared.reason.Reason.TheVariants.{NoKind, NoSize, TooLarge, TooSmall, NoNode, NoOffset, NoCount, FewSlots, SomeFull, NoRoom}
use Rattle.setup_report.specs.Naming.{Texts}
use Rattle.command_why.specs.Text.{reason_line, content_text, object_text, radix_of, power_text, last_text}
use Rattle.command_why.specs.Asked.{AskedView, key_said}
use Rattle.command_why.specs.Facts.{fact_lines}

-- the bits of an untyped region's size in bytes
abbrev pub region_bits : Cap → ℕ
region_bits (Untyped base bits free) = bits
region_bits cap = 0

-- how much of an untyped region counts as used
unfoldable pub used_text : Held → Bool → ℕ → List ℕ
used_text untyped true start =
    codes "it has children, so the first " ++ (decimal start ++ (codes " of its " ++ (power_text (region_bits untyped.cap) ++ codes " bytes count as used")))
used_text untyped false start =
    codes "it has no children, so all of its " ++ (power_text (region_bits untyped.cap) ++ codes " bytes count as unused")

-- what is said of the numbers of a retype
unfoldable pub number_text : AskedView → Reason → List ℕ
number_text a NoKind = key_said a (codes "kind") ++ codes " is none of 0 (untyped), 1 (thread control block), 2 (endpoint) and 4 (CNode)"
number_text a (NoSize below) = key_said a (codes "size_bits") ++ (codes " is not below " ++ decimal below)
number_text a (TooLarge kind bits most) =
    object_text kind ++ (codes " with " ++ (key_said a (codes "size_bits") ++ (codes " has 2^" ++ (decimal bits ++ (codes " bytes; an object has at most 2^" ++ decimal most)))))
number_text a (TooSmall kind least) = key_said a (codes "size_bits") ++ (codes " is below " ++ (decimal least ++ (codes ", the least of " ++ object_text kind)))
number_text a (NoCount most) = key_said a (codes "count") ++ (codes " is not from 1 to " ++ decimal most)
number_text a reason = codes ""

-- for how many objects of a size a region has room
unfoldable pub room_text : ℕ → ℕ → List ℕ
room_text bits room = codes "of objects of " ++ (power_text bits ++ (codes " bytes it has room for " ++ decimal room))

-- what is said of the slots to fill, and of the room for the objects
unfoldable pub retyped_text : Texts → AskedView → Reason → List ℕ
retyped_text texts a (NoNode word found) = codes "a retype fills slots of a CNode"
retyped_text texts a (NoOffset word node) =
    codes "it has slots 0 to " ++ (last_text (radix_of node.cap) ++ (codes ", and " ++ (key_said a (codes "offset") ++ codes " is past them")))
retyped_text texts a (FewSlots word node) =
    codes "it has slots 0 to " ++ (last_text (radix_of node.cap) ++ (codes ", and " ++ (key_said a (codes "count") ++ (codes " from " ++ (key_said a (codes "offset") ++ codes " on is past them")))))
retyped_text texts a (SomeFull word node number full) =
    codes "its slot " ++ (decimal number ++ (codes " stands at " ++ (texts.slot full.slot ++ (codes " and is full: " ++ content_text texts full.cap))))
retyped_text texts a (NoRoom untyped has_children start bits room) =
    room_text bits room ++ (codes ", and " ++ (key_said a (codes "count") ++ codes " is more"))
retyped_text texts a reason = codes ""

-- ---- each reason

abbrev pub retype_lines : Texts → AskedView → Reason → List ℕ
retype_lines texts a (NoNode word found) = fact_lines texts a word found (retyped_text texts a (NoNode word found))
retype_lines texts a (NoOffset word node) = fact_lines texts a word node (retyped_text texts a (NoOffset word node))
retype_lines texts a (FewSlots word node) = fact_lines texts a word node (retyped_text texts a (FewSlots word node))
retype_lines texts a (SomeFull word node number full) = fact_lines texts a word node (retyped_text texts a (SomeFull word node number full))
retype_lines texts a (NoRoom untyped has_children start bits room) =
    fact_lines texts a Invoked untyped (used_text untyped has_children start)
    ++ reason_line (retyped_text texts a (NoRoom untyped has_children start bits room))
retype_lines texts a NoKind = reason_line (number_text a NoKind)
retype_lines texts a (NoSize below) = reason_line (number_text a (NoSize below))
retype_lines texts a (TooLarge kind bits most) = reason_line (number_text a (TooLarge kind bits most))
retype_lines texts a (TooSmall kind least) = reason_line (number_text a (TooSmall kind least))
retype_lines texts a (NoCount most) = reason_line (number_text a (NoCount most))
retype_lines texts a reason = codes ""

-- The sibling in front of each full slot, found in one walk. The path to a slot is the slots above it, from the top down.
use Rattle.std.specs.Prelude.{ℕ, ◌+◌, ◌==◌, List, [], ◌∷◌, ◌++◌, take, slice_get, Option, Some, None, option_map}
use Rattle.std.specs.List.{position}
use Rattle.setup_report.specs.State.{Derived, slot_of}
use Rattle.setup_report.specs.Naming.{Texts}
use Rattle.command_trace.specs.Lines.{Lines, address_line}
use Rattle.command_trace.specs.Siblings.{Sibling, sibling_text}

-- how many of the first slots of a path lead down to a slot; none where no slot is given
abbrev pub up_to : Option ℕ → ℕ
up_to None = 0
up_to (Some place) = place + 1

abbrev pub cut : Option ℕ → List ℕ → ℕ
cut None path = 0
cut (Some slot) path = up_to (position (λ s. s == slot) path)

-- where `path` leads to the full slot that was told before it, it goes on behind the slot that this one stands right
-- below, by the sibling in front
abbrev pub sibling_behind : Derived → List ℕ → Sibling
sibling_behind d path = (slot_of d, slice_get path (cut d.1 path))

abbrev pub path_to : Derived → List ℕ → List ℕ
path_to d path = take (cut d.1 path) path ++ slot_of d ∷ []

abbrev pub siblings_walked : List ℕ → List Derived → List Sibling
siblings_walked path [] = []
siblings_walked path (d ∷ list) = sibling_behind d path ∷ siblings_walked (path_to d path) list

-- the line of a slot, where there is a sibling in front of it
abbrev pub sibling_line : Texts → Sibling → Lines
sibling_line texts x = address_line x.0 (option_map (sibling_text texts x.0) x.1)

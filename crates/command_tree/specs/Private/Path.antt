-- The path to a full slot, which is the slots above it from the top down, found from the slot that it stands right below.
use Rattle.std.specs.Prelude.{ℕ, ◌+◌, ◌==◌, List, [], ◌∷◌, ◌++◌, take, Option, Some, None}
use Rattle.std.specs.List.{position}
use Rattle.kernel_forest.specs.Entries.{Entry}
use Rattle.setup_report.specs.State.{Derived}

-- the first ones, up to a place
abbrev pub path_up_to : Option ℕ → List ℕ → List ℕ
path_up_to None path = []
path_up_to (Some place) path = take (place + 1) path

-- the first ones, up to a slot; none if no slot is given
abbrev pub kept : Option ℕ → List ℕ → List ℕ
kept None path = []
kept (Some slot) path = path_up_to (position (λ s. s == slot) path) path

-- the path to what stands right below a full slot, where `path` is that to what was written before it
abbrev pub path_below : Derived → List ℕ → List ℕ
path_below d path = kept d.1 path ++ d.0.slot ∷ []

-- each full slot with its path
abbrev pub slots_with_paths : List ℕ → List Derived → List (Entry × List ℕ)
slots_with_paths path [] = []
slots_with_paths path (d ∷ list) = (d.0, kept d.1 path) ∷ slots_with_paths (path_below d path) list

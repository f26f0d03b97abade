-- The derivations behind that of a slot which stand below it.
use Rattle.std.specs.Prelude.{◌≡◌, ℕ, ◌+◌, Bool, false, cond, ◌==◌, List, [], ◌∷◌, ◌++◌, take, drop, Option, Some, None, slice_get}
use Rattle.std.specs.List.{list_any}
use Rattle.kernel_forest.specs.Entries.{Entry}

-- an entry, with the slot of the one that it stands right below
abbrev pub EntryBelow : Type 0
EntryBelow = Entry × Option ℕ

-- from one place on, and in front of another one
abbrev pub part : {A : Type 0} → ℕ → ℕ → List A → List A
part start end xs = drop start (take end xs)

-- it stands right below the slot of one of those
abbrev pub is_below_one_of : List EntryBelow → EntryBelow → Bool
is_below_one_of above (e, None) = false
is_below_one_of above (e, Some s) = list_any (λ (x : EntryBelow). x.0.slot == s) above

-- as many of a list, from its front on, as stand right below one of those above them or in front of them
abbrev pub run : List EntryBelow → List EntryBelow → List EntryBelow
run above [] = []
run above (d ∷ rest) = cond (is_below_one_of above d) (d ∷ run (above ++ (d ∷ [])) rest) []

abbrev pub run_behind : ℕ → List EntryBelow → List EntryBelow
run_behind start list = run (part start (start + 1) list) (drop (start + 1) list)

-- no number comes twice
abbrev pub AreOnce : List ℕ → Type 0
AreOnce xs = (i j n : ℕ) → slice_get xs i ≡ Some n → slice_get xs j ≡ Some n → i ≡ j

-- A walk over the rows, with those above at hand, tells who is derived from whom.
use Rattle.std.proofs.Common.{◌≡◌, ℕ, List, [], ◌∷◌, ◌++◌, map, reverse, Option, Some, None, refl, ◌∙◌, ap}
use Rattle.std.specs.Prelude.{option_map}
use Rattle.std.proofs.lemmas.List.{map-append, append_assoc, append-nil, reverse-append}
use Rattle.cap_core.specs.declared.profile.ProfileName.{ProfileName}
use Rattle.kernel_forest.specs.Entries.{Entry, entry, derivations_of}
use Rattle.kernel_forest.proofs.Trees.Parented.{still_above, innermost, walked, walked-derivations, entry_pair}
use Rattle.slot_core.specs.declared.rows.Row.{Row}
use Rattle.slot_core.specs.declared.derivations.Derivation.{Derivation}
use Rattle.slot_core.specs.Places.{address_of}
use Rattle.slot_core.specs.Calls.{derivation_view}
use Rattle.slot_core.specs.Rows.{is_deeper, entry_of, forest_of, slot_of_row}

-- what is found so far, and what a walk over the rest finds
abbrev pub found_on : ProfileName → List Derivation → List Row → List Row → List (Entry × Option ℕ)
found_on p found above rest = map (derivation_view p) found ++ map (entry_pair (entry_of p)) (walked is_deeper (reverse above) rest)

-- all that a walk finds, from the first row on
pub found_all : (p : ProfileName) (rows : List Row) → found_on p [] [] rows ≡ derivations_of (forest_of p rows)
found_all p rows = walked-derivations (entry_of p) is_deeper rows

pub all_found : (p : ProfileName) (found : List Derivation) (above : List Row) → found_on p found above [] ≡ map (derivation_view p) found
all_found p found above = append-nil (map (derivation_view p) found)

addresses : (p : ProfileName) (o : Option Row) → option_map (address_of p) (option_map slot_of_row o) ≡ option_map (λ (r : Row). (entry_of p r).slot) o
addresses p None = refl
addresses p (Some r) = refl

-- one row more
pub goes_on : (p : ProfileName) (found : List Derivation) (above here : List Row) (row : Row) (rest : List Row) (parent : Option _)
    → reverse here ≡ still_above is_deeper row (reverse above) → parent ≡ option_map slot_of_row (innermost (reverse here))
    → found_on p (found ++ record { slot = row.slot; cap = row.cap; original = row.original; parent = parent } ∷ []) (here ++ row ∷ []) rest ≡ found_on p found above (row ∷ rest)
goes_on p found above here row rest parent stays top =
    let d : Derivation = record { slot = row.slot; cap = row.cap; original = row.original; parent = parent } in
    let stack = still_above is_deeper row (reverse above) in
    let onto : reverse (here ++ row ∷ []) ≡ row ∷ stack = reverse-append here (row ∷ []) ∙ ap (λ m. row ∷ m) stays in
    let more = map (entry_pair (entry_of p)) (walked is_deeper (row ∷ stack) rest) in
    let over : option_map (address_of p) parent ≡ option_map (λ (r : Row). (entry_of p r).slot) (innermost stack) =
    ap (option_map (address_of p)) top ∙ addresses p (innermost (reverse here)) ∙ ap (λ m. option_map (λ (r : Row). (entry_of p r).slot) (innermost m)) stays in
    ap (λ m. map (derivation_view p) (found ++ d ∷ []) ++ map (entry_pair (entry_of p)) (walked is_deeper m rest)) onto
    ∙ ap (λ m. m ++ more) (map-append (derivation_view p) found (d ∷ []))
    ∙ append_assoc (map (derivation_view p) found) (derivation_view p d ∷ []) more
    ∙ ap (λ m. map (derivation_view p) found ++ ((entry (address_of p row.slot) row.cap row.original, m) ∷ more)) over

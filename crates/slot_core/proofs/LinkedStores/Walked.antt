-- A walk along the list of a linked store, with those above at hand, tells who is derived from whom.
use Rattle.std.proofs.Common.{◌≡◌, ℕ, zero, suc, ◌+◌, ◌-◌, ◌*◌, List, [], ◌∷◌, ◌++◌, map, reverse, length, Option, Some, None, refl, sym, ◌∙◌, ap}
use Rattle.std.specs.Prelude.{option_map, slice_get}
use Rattle.std.proofs.lemmas.List.{map-append, append_assoc, append-nil, reverse-append}
use Rattle.cap_core.specs.declared.profile.ProfileName.{ProfileName}
use Rattle.cap_core.specs.Numbers.{slot_size}
use Rattle.kernel_forest.specs.Entries.{Entry, entry, derivations_of}
use Rattle.kernel_forest.specs.Marked.{Marked, is_parent, entry_of, forest_of}
use Rattle.kernel_forest.proofs.Trees.Parented.{still_above, innermost, innermost-map, last_first, walked, walked-derivations, entry_pair, still_above-alike}
use Rattle.slot_core.specs.declared.slot.Slot.{Slot}
use Rattle.slot_core.specs.declared.linked.table.Link.{Link}
use Rattle.slot_core.specs.declared.derivations.Derivation.{Derivation}
use Rattle.slot_core.specs.Places.{address_of}
use Rattle.slot_core.specs.Calls.{derivation_view}
use Rattle.slot_core.specs.Links.{link_at, next_of, row_of, unplaced, walk, rows_of, place_in}
use Rattle.slot_core.specs.Walks.{stack_of}

addresses : (p : ProfileName) (links : List Link) (o : Option Slot)
    → option_map (λ (r : Marked). r.place * slot_size p) (option_map (λ (s : Slot). row_of links s.place) o) ≡ option_map (address_of p) o
addresses p links None = refl
addresses p links (Some s) = refl

-- all that a walk finds, from the first slot on
pub found_all : (p : ProfileName) (links : List Link) (first : Option ℕ)
    → map (entry_pair (entry_of p)) (walked (is_parent p) [] (rows_of links first)) ≡ derivations_of (forest_of p (rows_of links first))
found_all p links first = walked-derivations (entry_of p) (is_parent p) (rows_of links first)

-- what is found so far, and what a walk from here on finds
abbrev pub found_on : ProfileName → List Link → List Derivation → List Slot → ℕ → Option Slot → List (Entry × Option ℕ)
found_on p links found above left here =
    map (derivation_view p) found
    ++ map (entry_pair (entry_of p)) (walked (is_parent p) (stack_of links above) (map (row_of links) (walk (next_of links) left (place_in here))))

-- one slot more
pub goes_on : (p : ProfileName) (links : List Link) (found : List Derivation) (above rest : List Slot) (slot : Slot) (left : ℕ) (parent : Option Slot)
    → stack_of links rest ≡ still_above (is_parent p) (unplaced (link_at links slot.place)) (stack_of links above)
    → parent ≡ slice_get rest (length rest - 1)
    → found_on p links (found ++ record { slot = slot; cap = (link_at links slot.place).cap; original = (link_at links slot.place).revocable; parent = parent } ∷ []) (rest ++ slot ∷ []) left (link_at links slot.place).next
    ≡ found_on p links found above (suc left) (Some slot)
goes_on p links found above rest slot left parent stays last =
    let t = is_parent p in
    let b = row_of links slot.place in
    let here = still_above t b (stack_of links above) in
    let same : stack_of links rest ≡ here = stays ∙ still_above-alike t (unplaced (link_at links slot.place)) b (λ s. refl) (stack_of links above) in
    let onto : stack_of links (rest ++ slot ∷ []) ≡ b ∷ here =
    ap (map (λ (s : Slot). row_of links s.place)) (reverse-append rest (slot ∷ [])) ∙ ap (λ m. b ∷ m) same in
    let top : option_map (address_of p) parent ≡ option_map (λ (r : Marked). r.place * slot_size p) (innermost here) =
    ap (option_map (address_of p)) (last ∙ last_first rest)
    ∙ sym (addresses p links (innermost (reverse rest)))
    ∙ ap (option_map (λ (r : Marked). r.place * slot_size p)) (sym (innermost-map (λ (s : Slot). row_of links s.place) (reverse rest)) ∙ ap innermost same) in
    let more = map (entry_pair (entry_of p)) (walked t (b ∷ here) (map (row_of links) (walk (next_of links) left (next_of links slot.place)))) in
    let d : Derivation = record { slot = slot; cap = (link_at links slot.place).cap; original = (link_at links slot.place).revocable; parent = parent } in
    ap (λ m. map (derivation_view p) (found ++ d ∷ []) ++ map (entry_pair (entry_of p)) (walked t m (map (row_of links) (walk (next_of links) left (next_of links slot.place))))) onto
    ∙ ap (λ m. m ++ more) (map-append (derivation_view p) found (d ∷ []))
    ∙ append_assoc (map (derivation_view p) found) (derivation_view p d ∷ []) more
    ∙ ap (λ m. map (derivation_view p) found ++ ((entry (address_of p slot) d.cap d.original, m) ∷ more)) top

-- nothing is found past the end of the list
pub ended : (p : ProfileName) (links : List Link) (found : List Derivation) (above : List Slot) (left : ℕ)
    → found_on p links found above left None ≡ map (derivation_view p) found
ended p links found above zero = append-nil (map (derivation_view p) found)
ended p links found above (suc left) = append-nil (map (derivation_view p) found)

pub all_found : (p : ProfileName) (links : List Link) (found : List Derivation) (above : List Slot) (here : Option Slot)
    → found_on p links found above 0 here ≡ map (derivation_view p) found
all_found p links found above here = append-nil (map (derivation_view p) found)

-- How a layout is read, as it is asked for.
use Rattle.std.specs.Prelude.{◌≡◌, ◌+◌, ◌^◌, ◌==◌, ◌&&◌, ◌||◌, ℕ, Bool, true, not, nat_lt, List, [], ◌∷◌, length, Option, Some, None, is_some}
use Rattle.std.specs.List.{flat_map, list_all, list_any}
use Rattle.cap_core.specs.declared.capability.Kind.{Kind}
use Rattle.cap_core.specs.declared.capability.Kind.TheVariants.{Untyped, Endpoint, CNode, Tcb}
use Rattle.setup_layout.specs.declared.fault.Remarks.{Remarks}
use Rattle.setup_layout.specs.declared.layout.Layout.{Layout}
use Rattle.setup_layout.specs.declared.layout.Object.{Object}
use Rattle.setup_layout.specs.declared.layout.Reading.{Reading}
use Rattle.setup_layout.specs.declared.layout.Row.{Row}
use Rattle.setup_layout.specs.Rows.{row_pair}
use Rattle.command_import.specs.Laid.{are_same_object}

-- a region and another object, which stands in it
abbrev pub covers : Object → Object → Bool
covers region other =
    not (are_same_object region other) && (not (nat_lt other.place region.place) && nat_lt other.place (region.place + 2 ^ region.bits))

-- an object is no untyped region, or has at most so many bits, or covers another one
abbrev pub is_cut : Kind → ℕ → List Object → Object → Bool
is_cut Untyped most objects object = not (nat_lt most object.bits) || (nat_lt object.bits 32 && list_any (covers object) objects)
is_cut _ most objects object = true

-- where a number of bits is asked for, no larger untyped region covers nothing
abbrev pub are_cut : Option ℕ → List Object → Bool
are_cut None objects = true
are_cut (Some most) objects = list_all (λ (o : Object). is_cut o.kind most objects o) objects

-- nothing is said, and no more is counted
abbrev pub are_none : Remarks → Bool
are_none remarks = length remarks.told.items == 0 && remarks.more == 0

abbrev pub listed : Option (ℕ × ℕ) → List (ℕ × ℕ)
listed None = []
listed (Some pair) = pair ∷ []

-- the pair of slots of a row of the `cdt`, if the row is kept
abbrev pub kept_pair : Row → List (ℕ × ℕ)
kept_pair row = listed (row_pair row)

-- those of all rows, in their order
abbrev pub kept_pairs : List Row → List (ℕ × ℕ)
kept_pairs rows = flat_map kept_pair rows

-- a row is kept
abbrev pub is_kept : Row → Bool
is_kept row = is_some (row_pair row)

-- a layout is read as it is asked for: each object counts or not, and regions are cut; one slot is derived from another one just as the
-- rows of its `cdt` say of which both slots are there, and a kernel can have the one below the other; if nothing was left out or assumed
-- that may carry authority, as it is strictly, each row is one of these
pub record IsReadAs (reading : Reading) (layout : Layout) : Type 0 where
  pub flows : layout.flows ≡ reading.flows
  pub cut : are_cut reading.shrink layout.objects.items ≡ true
  pub derived : layout.derived.items ≡ kept_pairs layout.rows.items
  pub rows : (not (are_none layout.gaps) || list_all is_kept layout.rows.items) ≡ true
  pub gaps : (not reading.strict || are_none layout.gaps) ≡ true

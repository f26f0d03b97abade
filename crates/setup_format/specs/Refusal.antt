-- The line by which a set-up is refused.
use Rattle.std.specs.Prelude.{codes, ℕ, ◌+◌, List, ◌++◌, length, Bool, ◌&&◌, ◌||◌, ◌==◌, if◌then◌else◌}
use Rattle.std.specs.List.{list_all}
use Rattle.std.specs.Fmt.{decimal}
use Rattle.kernel_abstract.specs.declared.plan.PlanDefect.{PlanDefect}
use Rattle.kernel_abstract.specs.declared.plan.PlanDefect.TheVariants.{Outside, Unaligned, UntypedOutside, Overlap, Slots}
use Rattle.setup_format.specs.Limits.{max_shown_key_bytes}
use Rattle.setup_format.specs.declared.fault.Place.{Place}
use Rattle.setup_format.specs.declared.fault.Place.TheVariants as places
use Rattle.setup_format.specs.declared.fault.SetupFault.{SetupFault}
use Rattle.setup_format.specs.declared.fault.SetupFault.TheVariants as faults
use Rattle.setup_values.specs.Kinds.{between}
use Rattle.setup_format.specs.Faults.{Fault, text, at, layout, fault_code, key_bytes}

-- an ASCII letter, a digit, `_` or `-`
abbrev pub is_plain_byte : ℕ → Bool
is_plain_byte c = between 48 57 c || (between 65 90 c || (between 97 122 c || (c == 95 || c == 45)))

-- a key of 1 to 40 such bytes, and `?` for any other
abbrev pub key_text : List ℕ → List ℕ
key_text key = if between 1 max_shown_key_bytes (length key) && list_all is_plain_byte key then key else codes "?"

abbrev pub place_text : Place → List ℕ
place_text places.Top = codes "top"
place_text (places.Untyped n) = codes "untyped " ++ decimal n
place_text (places.Call n) = codes "call " ++ decimal n

-- a plan counts its untyped regions from 0, and a line from 1
abbrev pub defect_text : PlanDefect → List ℕ
defect_text Outside = codes "layout outside"
defect_text (Unaligned i) = codes "untyped " ++ (decimal (i + 1) ++ codes " unaligned")
defect_text (UntypedOutside i) = codes "untyped " ++ (decimal (i + 1) ++ codes " outside")
defect_text (Overlap i) = codes "untyped " ++ (decimal (i + 1) ++ codes " overlap")
defect_text Slots = codes "layout slots"

abbrev pub fault_place : Fault → List ℕ
fault_place text = codes "text"
fault_place (at wrong place key) = place_text place ++ (codes " key " ++ key_text key)
fault_place (layout defect) = defect_text defect

abbrev pub refusal : Fault → List ℕ
refusal fault = codes "set-up refused " ++ (decimal (fault_code fault) ++ (codes " at " ++ fault_place fault))

abbrev pub refusal_line : Fault → List ℕ
refusal_line fault = refusal fault ++ codes "\n"

-- what is written of a fault; refused memory has no line
abbrev pub setup_fault_text : SetupFault → List ℕ
setup_fault_text faults.Text = refusal text
setup_fault_text (faults.At wrong place key) = refusal (at wrong place (key_bytes key))
setup_fault_text (faults.Layout defect) = refusal (layout defect)
setup_fault_text faults.Memory = codes "out of memory"

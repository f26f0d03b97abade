-- Lines and names as the code keeps them.
use Rattle.std.specs.Prelude.{ℕ, List, string_bytes, Option, Some, None}
use Rattle.std.specs.Ordering.{nat_cmp}
use Rattle.std.specs.declared.cmp.Ordering.{Ordering}
use Rattle.std.specs.declared.cmp.Ordering.TheVariants.{Less, Greater}
use Rattle.cap_core.specs.declared.profile.ProfileName.{ProfileName}
use Rattle.slot_core.specs.declared.derivations.Derivation.{Derivation}
use Rattle.slot_core.specs.Places.{address_of}
use Rattle.slot_core.specs.Calls.{derivation_view}
use Rattle.setup_values.specs.declared.names.Name.{Name}
use Rattle.setup_report.specs.Naming.{Texts}
use Rattle.command_trace.specs.Lines.{traced_slot_text}

abbrev pub name_view : Name → List ℕ × ℕ
name_view name = (string_bytes name.text, name.word)

-- which of two lines has the lesser address, where each may be missing
abbrev pub line_order : Option (ℕ × List ℕ) → Option (ℕ × List ℕ) → Ordering
line_order None new = Greater
line_order (Some old) None = Less
line_order (Some old) (Some new) = nat_cmp old.0 new.0

-- the line of a full slot
abbrev pub derivation_line : Texts → ProfileName → Derivation → ℕ × List ℕ
derivation_line texts p d = (address_of p d.slot, traced_slot_text texts (derivation_view p d))

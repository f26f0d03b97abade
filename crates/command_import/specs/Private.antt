-- What only private contracts cite, in proofs of the public ones: nobody has to believe it.
use Rattle.std.specs.Prelude.{◌≡◌, ℕ, Bool, true, ◌&&◌, List, []}
use Rattle.std.specs.List.{list_all}
use Rattle.cap_core.specs.declared.profile.ProfileName.{ProfileName}
use Rattle.kernel_abstract.specs.Plan.{Plan}
use Rattle.kernel_abstract.specs.Shown.{Shown}
use Rattle.command_core.specs.declared.fault.Verdict.{Verdict}
use Rattle.command_core.specs.declared.fault.Verdict.TheVariants.{AllMet, NotMet, Refused, Absent}
use Rattle.setup_format.specs.Views.{ReadView}
use Rattle.setup_layout.specs.declared.layout.Layout.{Layout}
use Rattle.setup_layout.specs.declared.layout.Object.{Object}
use Rattle.setup_layout.specs.declared.layout.Slot.{Slot}
use Rattle.setup_marks.specs.Marks.{is_for_flows}
use Rattle.command_import.specs.Told.{has_word}
use Rattle.command_import.specs.Laid.{Rows, are_objects_apart, are_slots_known, is_derived, is_slot_filled, is_object_live, stands}

-- a state with these full slots passes each test
abbrev pub passes : ProfileName → Plan → List Object → List Slot → List (ℕ × ℕ) → Shown → Rows → Bool
passes p plan objects slots derived v rows =
    are_objects_apart objects
    && (list_all (is_object_live rows) objects
    && (list_all (stands v) objects
    && (list_all (is_slot_filled p objects v.derivations) slots
    && (are_slots_known p plan objects slots rows && list_all (is_derived p objects slots rows) derived))))

-- what is written of a layout without faults: a text that is so, or nothing
abbrev pub IsWritten : (List ℕ → Type 0) → List ℕ → Verdict → Type 0
IsWritten is text AllMet = is text
IsWritten is text NotMet = ⊥
IsWritten is text Refused = ⊥
IsWritten is text Absent = text ≡ []

-- a set-up is for the machine of a layout and marked as the layout is, and each name of the layout is a word
pub record IsFor (layout : Layout) (read : ReadView) : Type 0 where
  pub profile : read.setup.profile ≡ layout.profile
  pub marked : is_for_flows read.names ≡ layout.flows
  pub names : list_all has_word layout.objects.items ≡ true

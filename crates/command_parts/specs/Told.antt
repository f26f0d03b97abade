-- What is written of the parts of a set-up's layout, and the verdict.
use Rattle.std.specs.Prelude.{◌≡◌, ℕ, Bool, List, [], MatchBool}
use Rattle.cap_core.specs.declared.profile.ProfileName.{ProfileName}
use Rattle.kernel_abstract.specs.Shown.{Shown}
use Rattle.kernel_abstract.specs.State.{State, shown}
use Rattle.setup_values.specs.Names.{Names}
use Rattle.setup_format.specs.Views.{SetupView}
use Rattle.setup_report.specs.declared.meanings.meant.ObjectKind.TheVariants.{Thread}
use Rattle.setup_report.specs.Behind.{refused_behind}
use Rattle.setup_report.specs.Naming.{Texts, texts_of}
use Rattle.command_parts.specs.Threads.{Trusted, are_trusted, objects_named}
use Rattle.command_parts.specs.Ever.{IsPartsText}
use Rattle.command_core.specs.declared.fault.Verdict.{Verdict}
use Rattle.command_core.specs.declared.fault.Verdict.TheVariants.{AllMet, Absent}

-- the text of parts of what is shown, if so many calls were refused, and the verdict; nothing, if a word for a trusted thread
-- stands for none
abbrev pub IsEverOf : Trusted → Texts → ProfileName → Names → SetupView → ℕ → ℕ → Shown → List ℕ → Verdict → Type 0
IsEverOf trust texts p names setup made refused v text verdict =
    MatchBool (are_trusted p names setup.plan v trust)
    (IsPartsText p texts setup made refused (objects_named Thread p names setup.plan v trust.without) (objects_named Thread p names setup.plan v trust.messages) v text
    × (verdict ≡ AllMet))
    ((text ≡ []) × (verdict ≡ Absent))

-- the text and the verdict of `ever`, of the state after the first calls, by addresses or by names
abbrev pub IsEver : Trusted → Bool → ProfileName → Names → SetupView → ℕ → State → List ℕ → Verdict → Type 0
IsEver trust by_name p names setup made A text verdict =
    IsEverOf trust (texts_of by_name p names setup.plan (shown A)) p names setup made (refused_behind p setup made) (shown A) text verdict

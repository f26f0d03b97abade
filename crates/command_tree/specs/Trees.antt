-- What the program writes of the derivation forest of a state, and its verdict.
use Rattle.std.specs.Prelude.{◌≡◌, ℕ, Bool, List}
use Rattle.cap_core.specs.declared.profile.ProfileName.{ProfileName}
use Rattle.kernel_abstract.specs.State.{State, shown}
use Rattle.setup_values.specs.Names.{Names}
use Rattle.setup_format.specs.Views.{SetupView}
use Rattle.setup_report.specs.Naming.{texts_of}
use Rattle.command_tree.specs.declared.form.Form.{Form}
use Rattle.command_tree.specs.Tree.{text_in}
use Rattle.command_core.specs.declared.fault.Verdict.{Verdict}
use Rattle.command_core.specs.declared.fault.Verdict.TheVariants.{AllMet}

-- the forest of the state in a form, by addresses or by names
abbrev pub IsTree : Form → Bool → ProfileName → Names → SetupView → ℕ → State → List ℕ → Verdict → Type 0
IsTree form by_name p names setup made A text verdict =
    (text ≡ text_in form (texts_of by_name p names setup.plan (shown A)) setup made (shown A).derivations) × (verdict ≡ AllMet)

-- The first fault of a set-up, and what a function returned next to what a set-up is read as.
use Rattle.std.specs.Prelude.{◌≡◌, ℕ, List, Result, Ok, Err, string_bytes}
use Rattle.kernel_abstract.specs.declared.plan.PlanDefect.{PlanDefect}
use Rattle.setup_values.specs.declared.values.Wrong.{Wrong}
use Rattle.setup_values.specs.Kinds.{wrong_code}
use Rattle.setup_format.specs.declared.fault.Place.{Place}
use Rattle.setup_format.specs.declared.fault.Key.{Key}
use Rattle.setup_format.specs.declared.fault.Key.TheVariants.{Known, Found}
use Rattle.setup_format.specs.declared.fault.SetupFault.{SetupFault}
use Rattle.setup_format.specs.declared.fault.SetupFault.TheVariants as faults

-- no TOML document; what is wrong at which key of which table; or no plan that can be laid out
pub data Fault : Type 0 where
  text : Fault
  at : Wrong → Place → List ℕ → Fault
  layout : PlanDefect → Fault

abbrev pub key_bytes : Key → List ℕ
key_bytes (Known k) = k.now
key_bytes (Found k) = string_bytes k

-- The fault is the first one, or memory was refused.
abbrev pub Fails : {Y : Type 0} → SetupFault → Result Y Fault → Type 0
Fails faults.Memory read = Unit {0}
Fails faults.Text read = read ≡ Err text
Fails (faults.At wrong place key) read = read ≡ Err (at wrong place (key_bytes key))
Fails (faults.Layout defect) read = read ≡ Err (layout defect)

-- What a function returned, seen by view, is what is read, unless memory was refused.
abbrev pub Gives : {X Y : Type 0} → (X → Y) → Result X SetupFault → Result Y Fault → Type 0
Gives view (Ok x) read = read ≡ Ok (view x)
Gives view (Err e) read = Fails e read

-- ---- numbers of the faults

abbrev pub fault_code : Fault → ℕ
fault_code text = 200
fault_code (at wrong place key) = wrong_code wrong
fault_code (layout defect) = 205

abbrev pub setup_fault_code : SetupFault → ℕ
setup_fault_code faults.Text = fault_code text
setup_fault_code (faults.At wrong place key) = fault_code (at wrong place (key_bytes key))
setup_fault_code (faults.Layout defect) = fault_code (layout defect)
setup_fault_code faults.Memory = 206

-- What the law of reading says.
use Rattle.std.specs.Prelude.{◌≡◌, ℕ, List, Result, Ok, Err}
use Rattle.setup_format.specs.Faults.{Fault}
use Rattle.setup_format.specs.Views.{SetupView, ReadView}
use Rattle.setup_format.specs.Setups.{setup_of_bytes, read_of_bytes}

abbrev pub setup_in : Result ReadView Fault → Result SetupView Fault
setup_in (Ok read) = Ok read.setup
setup_in (Err fault) = Err fault

-- the set-up that was read with its table and its names is the one that the bytes are read as
abbrev pub ReadsItsSetup : List ℕ → Type 0
ReadsItsSetup bytes = setup_in (read_of_bytes bytes) ≡ setup_of_bytes bytes

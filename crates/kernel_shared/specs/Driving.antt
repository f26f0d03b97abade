-- What the threads of a drive leave.
use Rattle.std.specs.Prelude.{◌≡◌, ◌↔◌, ◌<◌, ◌≤◌, ◌+◌, ℕ, List, ◌++◌, length, take, slice_get, Option, None, Some}
use Rattle.kernel_abstract.specs.declared.call.Call.{Call}
use Rattle.kernel_shared.specs.Laws.{count_of}
use Rattle.kernel_shared.specs.declared.end.End.{End}
use Rattle.kernel_shared.specs.declared.end.End.TheVariants as E
use Rattle.kernel_shared.specs.declared.driving.Stop.{Stop}
use Rattle.kernel_shared.specs.declared.driving.Stop.TheVariants.{Gate, Fault}
use Rattle.kernel_shared.specs.Fronts.{StartsWith}
use Rattle.kernel_shared.specs.ClientStates.{ClientState, Lost, client_calls_made, newly_lost, holds_not}
use Rattle.kernel_shared.specs.Faults.{Told}

-- what holds at each place of three lists
abbrev pub EachThree : {A B C : Type 0} → List A → List B → List C → (A → B → C → Type 0) → Type 0
EachThree {A} {B} {C} xs ys zs P =
    (i : ℕ) (x : A) (y : B) (z : C) → slice_get xs i ≡ Some x → slice_get ys i ≡ Some y → slice_get zs i ≡ Some z → P x y z

-- what is known of the client if it ended
abbrev pub Ended : (ℕ → ℕ → Type 0) → ℕ → ClientState → End → Type 0
Ended ends limit t E.Done = Unit {0}
Ended ends limit t E.Gate = ends t.id t.done
Ended ends limit t E.Full = (length t.front ≡ limit) × (t.stray ≡ None)
Ended ends limit t E.NameTaken = (t.done < count_of t.id t.front) × (t.stray ≡ None)
Ended ends limit t E.Stray = (l : Lost) × (t.stray ≡ Some l) × holds_not t.id t.done l.front
Ended ends limit t E.Memory = t.stray ≡ None
Ended ends limit t E.NoEntry = t.stray ≡ None

-- A client made calls from the list, in order, until one was not answered: so many were answered, and after them one was
-- lost if the client lost one.
pub record IsClientRun (old : ClientState) (calls : List Call) (new : ClientState) (made : ℕ) : Type 0 where
  pub id : new.id ≡ old.id
  pub done : new.done ≡ old.done + made
  pub within : made ≤ length calls
  pub later : StartsWith new.front old.front
  pub grown : client_calls_made new ≡ client_calls_made old ++ take (made + length (newly_lost old.stray new.stray)) calls

-- it came to the end of its list exactly if nothing stopped it
pub record IsThreadResult (ends : ℕ → ℕ → Type 0) (limit : ℕ) (old : ClientState) (calls : List Call) (new : ClientState) (made : ℕ) (end : End) : Type 0 where
  pub run : IsClientRun old calls new made
  pub ended : (end ≡ E.Done) ↔ (made ≡ length calls)
  pub told : Ended ends limit new end

module _ {N T : Type 0} where
  abbrev pub Stopped : (ℕ → ℕ → Type 0) → ℕ → ClientState → Option (Stop N T) → Type 0
  Stopped ends limit t None = Unit {0}
  Stopped ends limit t (Some Gate) = ends t.id t.done
  Stopped ends limit t (Some (Fault fault)) = Told limit t fault

  -- a client that was driven: its run, and what stopped it, if something did
  pub record IsDriven (ends : ℕ → ℕ → Type 0) (limit : ℕ) (old : ClientState) (calls : List Call) (new : ClientState) (made : ℕ) (stopped : Option (Stop N T)) : Type 0 where
    pub run : IsClientRun old calls new made
    pub ended : (stopped ≡ None) ↔ (made ≡ length calls)
    pub told : Stopped ends limit new stopped

  -- a run whose end got its front
  pub record IsFinish (ends : ℕ → ℕ → Type 0) (limit : ℕ) (client : ClientState) (made : ℕ) (end : End) (new : ClientState) (new_made : ℕ) (stopped : Option (Stop N T)) : Type 0 where
    pub client_is : new ≡ client
    pub made_is : new_made ≡ made
    pub ended : (end ≡ E.Done) ↔ (stopped ≡ None)
    pub told : Ended ends limit client end → Stopped ends limit new stopped

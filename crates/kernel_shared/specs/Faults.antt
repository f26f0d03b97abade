-- What a fault says about the client.
use Rattle.std.specs.Prelude.{◌≡◌, ℕ, ◌<◌, length, Some, None}
use Rattle.kernel_abstract.specs.declared.call.Call.{Call}
use Rattle.kernel_shared.specs.Laws.{count_of}
use Rattle.kernel_shared.specs.declared.fault.SharedFault.{SharedFault}
use Rattle.kernel_shared.specs.declared.fault.SharedFault.TheVariants.{Full, Stray, NameTaken, Memory, NoEntry}
use Rattle.kernel_shared.specs.ClientStates.{ClientState, lost, holds_not}

module _ {N T : Type 0} where
  -- Full: a front with as many entries as may be was seen. NameTaken: the front that it carries has more of the client's
  -- entries than it made. Stray: the client keeps the call with the front that it carries, which does not hold the call.
  abbrev pub Told : ℕ → ClientState → SharedFault N T → Type 0
  Told limit t Full = (length t.front ≡ limit) × (t.stray ≡ None)
  Told limit t (NameTaken front) = (front ≡ t.front) × (t.done < count_of t.id front) × (t.stray ≡ None)
  Told limit t (Stray front) = (call : Call) × (t.stray ≡ Some (lost call front)) × holds_not t.id t.done front
  Told limit t Memory = t.stray ≡ None
  Told limit t NoEntry = t.stray ≡ None

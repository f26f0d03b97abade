-- What is known of a history that was settled with the clients that made it.
use Rattle.std.specs.Prelude.{◌≡◌, ◌≢◌, List, All, Option, Some, None, length, sum_by}
use Rattle.kernel_shared.specs.declared.entry.Entry.{Entry}
use Rattle.kernel_shared.specs.declared.driving.Driven.{Driven}
use Rattle.kernel_shared.specs.declared.driving.Stop.{Stop}
use Rattle.kernel_shared.specs.declared.driving.Stop.TheVariants.{Gate, Fault}
use Rattle.kernel_shared.specs.declared.fault.SharedFault.TheVariants.{Full, Memory}
use Rattle.kernel_shared.specs.ClientStates.{ClientState, EachBegins, made}
use Rattle.command_core.specs.declared.fault.RunFault.{RunFault}
use Rattle.command_core.specs.declared.fault.RunFault.TheVariants.{Reading, Writing}

-- it has as many entries as the clients made, it begins with what each of them saw, and no client lost sight of a call
pub record AreSettled (history : List Entry) (clients : List ClientState) : Type 0 where
  pub entries : length history ≡ sum_by made clients
  pub fronts : EachBegins history clients
  pub whole : All (λ (t : ClientState). t.stray ≡ None) clients

-- nothing stopped the client before the end of its calls, or the history was full, or the gate ended it
abbrev pub IsFinished : {N T : Type 0} → Option (Stop N T) → Type 0
IsFinished None = Unit {0}
IsFinished (Some (Fault Full)) = Unit {0}
IsFinished (Some Gate) = Unit {0}
IsFinished _ = ⊥

-- the client was not stopped by a want of memory
abbrev pub HadMemory : {N T : Type 0} → Option (Stop N T) → Type 0
HadMemory (Some (Fault Memory)) = ⊥
HadMemory _ = Unit {0}

-- a client that can be handed back after its drive: it finished, and lost sight of no call
abbrev pub IsReturnable : {N T : Type 0} → Driven N T → Type 0
IsReturnable d = IsFinished d.stopped × (d.client.stray ≡ None)

-- a fault that is of no device
abbrev pub IsOwnFault : RunFault → Type 0
IsOwnFault fault = (fault ≢ Reading) × (fault ≢ Writing)

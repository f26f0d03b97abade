use Rattle.std.proofs.Common.{◌≡◌, ◌++◌, map, take}
use Rattle.command_never.proofs.parts_kept.never.endpoints_met.Given as goal

abbrev pub invariant-loop-allowed : goal.invariant-loop-allowed
invariant-loop-allowed l = l.endpoints.items ≡ map (λ u. u.endpoint) (take l.allowed-index l.layout.uses.now)

abbrev pub invariant-loop-wait : goal.invariant-loop-wait
invariant-loop-wait l = l.endpoints.items ≡ l.initial.endpoints.items ++ map (λ w. w.endpoint) (take l.wait-index l.layout.waits.now)

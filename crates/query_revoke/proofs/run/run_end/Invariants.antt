use Rattle.std.proofs.Common.{◌≡◌, ◌+◌, ◌-◌, ◌<◌, ◌≤◌, ◌++◌, drop, length, map}
use Rattle.slot_core.specs.Places.{address_of}
use Rattle.slot_core.specs.Calls.{derivation_view}
use Rattle.query_revoke.specs.Runs.{part, run, run_behind, AreOnce}
use Rattle.query_revoke.proofs.run.run_end.Given as goal

abbrev pub invariant-loop-end : goal.invariant-loop-end
invariant-loop-end g l = record {
  low : l.start < l.end;
  high : l.end ≤ length l.list;
  run : AreOnce (map (λ d. address_of g.P.Profile.profile d.slot) l.list) →
      run_behind l.start (map (derivation_view g.P.Profile.profile) l.list)
      ≡ part (l.start + 1) l.end (map (derivation_view g.P.Profile.profile) l.list) ++ run (part l.start l.end (map (derivation_view g.P.Profile.profile) l.list)) (drop l.end (map (derivation_view g.P.Profile.profile) l.list));
}

abbrev pub decreases-loop-end : goal.decreases-loop-end
decreases-loop-end g l = length l.list - l.end

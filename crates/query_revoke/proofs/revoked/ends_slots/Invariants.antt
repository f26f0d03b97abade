use Rattle.std.proofs.Common.{◌≡◌, ◌≤◌, map, false}
use Rattle.std.specs.List.{list_any}
use Rattle.query_revoke.specs.Runs.{part}
use Rattle.query_revoke.specs.Private.{ends_slots}
use Rattle.query_revoke.proofs.revoked.ends_slots.Given as goal

abbrev pub invariant-loop-place : goal.invariant-loop-place
invariant-loop-place l = record {
  low : l.start ≤ l.place;
  none : list_any (ends_slots l.objects l.start l.end) (map (λ d. d.cap) (part l.start l.place l.list)) ≡ false;
}

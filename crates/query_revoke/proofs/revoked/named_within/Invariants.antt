use Rattle.std.proofs.Common.{◌≡◌, ◌≤◌, filter, map}
use Rattle.query_revoke.specs.Runs.{part}
use Rattle.query_revoke.specs.Private.{is_within_alone}
use Rattle.query_revoke.proofs.revoked.named_within.Given as goal

abbrev pub invariant-loop-place : goal.invariant-loop-place
invariant-loop-place l = record {
  low : l.start ≤ l.place;
  caps : l.caps.items ≡ filter (is_within_alone l.objects l.start l.end) (map (λ d. d.cap) (part l.start l.place l.list));
}

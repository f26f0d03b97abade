use Rattle.std.proofs.Common.{◌≡◌, ◌==◌, ℕ, drop}
use Rattle.std.specs.List.{position, position_from}
use Rattle.query_parts.proofs.arranged.place_of.Given as goal

abbrev pub invariant-loop-place : goal.invariant-loop-place
invariant-loop-place l = position_from (λ (label : ℕ). label == l.part) l.place (drop l.place l.labels) ≡ position (λ (label : ℕ). label == l.part) l.labels

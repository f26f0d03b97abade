use Rattle.std.proofs.Common.{◌≡◌, ◌+◌, drop, string_bytes}
use Rattle.std.specs.List.{position_or_len}
use Rattle.std.specs.Str.{bytes_eq}
use Rattle.setup_policy_meaning.proofs.resolve.place_named.Given as goal

abbrev pub invariant-loop-i : goal.invariant-loop-i
invariant-loop-i l =
    l.i + position_or_len (λ other. bytes_eq (string_bytes other) l.name) (drop l.i l.names)
    ≡ position_or_len (λ other. bytes_eq (string_bytes other) l.name) l.names

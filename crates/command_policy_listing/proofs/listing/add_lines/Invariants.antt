use Rattle.std.proofs.Common.{◌≡◌, ◌++◌, map, string_bytes}
use Rattle.std.specs.Map.Iter.{deref}
use Rattle.command_policy_text.specs.Texts.{all_lines_text}
use Rattle.command_policy_listing.proofs.listing.add_lines.Given as goal

abbrev pub invariant-loop-line : goal.invariant-loop-line
invariant-loop-line l = string_bytes l.out ≡ string_bytes l.initial.out ++ all_lines_text (map string_bytes (map deref l.yielded))

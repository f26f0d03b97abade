use Rattle.std.proofs.Common.{◌≡◌, ◌++◌, map, string_bytes}
use Rattle.std.specs.Map.Iter.{deref_pair}
use Rattle.command_policy_text.specs.Places.{places_told}
use Rattle.command_policy_text.specs.Texts.{breach_text}
use Rattle.command_policy_text.proofs.Firsts.{with_bytes}
use Rattle.command_policy_text.proofs.text.add_kind_with_places.Given as goal

abbrev pub invariant-loop-line : goal.invariant-loop-line
invariant-loop-line g l =
    map string_bytes l.lines.items
    ≡ map string_bytes l.initial.lines.items
    ++ map (breach_text (places_told g.P.Profile.profile l.held.policy.now l.held.layout.now l.origin)) (with_bytes (map deref_pair l.yielded))

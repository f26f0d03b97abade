use Rattle.std.proofs.Common.{◌≡◌, map, take, string_bytes, Vec, Global}
use Rattle.std.specs.List.{flat_map}
use Rattle.command_policy_text.specs.declared.told.Told.{Told}
use Rattle.command_policy_text.specs.Places.{places_told}
use Rattle.command_policy_text.specs.Texts.{lines_with_places}
use Rattle.command_policy_text.proofs.text.breaches.Given as goal

abbrev pub invariant-loop-kind : goal.invariant-loop-kind
invariant-loop-kind g l =
    map string_bytes l.lines.items
    ≡ flat_map (lines_with_places (places_told g.P.Profile.profile l.held.policy.now l.held.layout.now l.origin) l.held.policy.now l.held.layout.now l.held.labels.now l.held.homes.now)
    (map (λ (v : Vec Told Global). v.items) (take l.kind-index l.kind-items))

-- The proof of `add_kind_with_places`: the goals that a search leaves open.
use Rattle.std.proofs.Common.{◌≡◌, ◌++◌, ℕ, List, map, string_bytes, String, Global, ap, ◌∙◌, rules}
use Rattle.std.proofs.lemmas.Map.Iter.{iter_end}
use Rattle.std.specs.Map.Iter.{deref_pair}
use Rattle.command_policy_text.specs.declared.told.Told.{Told}
use Rattle.command_policy_text.specs.Places.{places_told}
use Rattle.command_policy_text.specs.Texts.{breach_text}
use Rattle.command_policy_text.proofs.Firsts.{with_bytes}
use Rattle.command_policy_text.proofs.text.add_kind_with_places.Goals as goal

pub returns : goal.returns
returns g c =
    let places = places_told g.P.Profile.profile c.args.held.policy.now c.args.held.layout.now c.args.origin in
    let all : map deref_pair c.loop-line.yielded ≡ c.in_ok-firsts.firsts.entries = search (rules, iter_end) in
    c.loop-line.invariant
    ∙ ap (λ (es : List (String Global × Told)). map string_bytes c.args.lines.now.items ++ map (breach_text places) (with_bytes es)) all
    ∙ ap (λ (es : List (List ℕ × Told)). map string_bytes c.args.lines.now.items ++ map (breach_text places) es) c.in_ok-firsts.ensures

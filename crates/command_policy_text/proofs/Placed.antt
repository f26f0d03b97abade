-- The lines of all places of what is told.
use Rattle.std.proofs.Common.{◌≡◌, ◌≤◌, ℕ, List, ◌++◌, length, take, Option, Some, sym, ap, ◌∙◌}
use Rattle.std.specs.List.{flat_map}
use Rattle.std.proofs.lemmas.List.{take_all}
use Rattle.cap_core.specs.declared.profile.ProfileName.{ProfileName}
use Rattle.setup_policy.specs.declared.policy.Policy.{Policy}
use Rattle.command_policy_breaches.specs.declared.held.Layout.{Layout}
use Rattle.command_policy_places.specs.Places.{filled_by, place_line, texts_told, waits_since}
use Rattle.command_policy_places.specs.declared.places.Sited.{Sited}
use Rattle.command_policy_text.specs.declared.places.Origin.{Origin}
use Rattle.command_policy_text.specs.declared.told.Told.{Told}
use Rattle.command_policy_text.specs.Places.{places_of, places_told}

abbrev pub line_of : ProfileName → Origin → Sited → List ℕ
line_of p o = place_line (texts_told o.names) (filled_by p o.calls.setup.now o.calls.made) (waits_since o.calls.setup.now.calls o.calls.replies.now)

pub all_placed : (p : ProfileName) (c : Policy) (l : Layout) (origin : Option Origin) (o : Origin) (told : Told) (items : List Sited) (i : ℕ) (before after : List ℕ) →
    origin ≡ Some o → items ≡ places_of c l o.sites.now.blocks.items o.sites.now.slots.items told → length items ≤ i →
    after ≡ before ++ flat_map (line_of p o) (take i items) → after ≡ before ++ places_told p c l origin told
all_placed p c l origin o told items i before after is places all so =
    so ∙ ap (λ (t : List Sited). before ++ flat_map (line_of p o) t) (take_all i items all ∙ places)
    ∙ ap (λ (x : Option Origin). before ++ places_told p c l x told) (sym is)

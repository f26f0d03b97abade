-- Where what is told of a breach comes from, below its line.
use Rattle.std.specs.Prelude.{◌≡◌, ◌≤◌, ⊤, ℕ, List, [], length, Option, Some, None}
use Rattle.std.specs.List.{flat_map}
use Rattle.cap_core.specs.declared.profile.ProfileName.{ProfileName}
use Rattle.kernel_abstract.specs.Plan.{IsPlan}
use Rattle.setup_report.specs.Naming.{Texts}
use Rattle.command_parts.specs.declared.takes.PartSlot.{PartSlot}
use Rattle.setup_policy.specs.declared.policy.Policy.{Policy}
use Rattle.command_policy_breaches.specs.declared.held.Block.{Block}
use Rattle.command_policy_breaches.specs.declared.held.Layout.{Layout}
use Rattle.command_policy_places.specs.Places.{AreFills, filled_by, place_line, places_of_hold, places_of_join, places_of_passage, places_of_region, places_of_take, places_of_use, places_of_wait, texts_told, waits_since}
use Rattle.command_policy_places.specs.declared.places.Sited.{Sited}
use Rattle.command_policy_text.specs.declared.places.Origin.{Origin}
use Rattle.command_policy_text.specs.declared.told.Told.{Told}
use Rattle.command_policy_text.specs.declared.told.Told.TheVariants.{Grant, Thread, Region, Use, Badge, Right, Way, Waits, Taken}

-- the places of what is told; nothing else has any
abbrev pub places_of : Policy → Layout → List Block → List PartSlot → Told → List Sited
places_of c l blocks slots (Grant join) = places_of_join l slots join
places_of c l blocks slots (Thread hold) = places_of_hold slots hold
places_of c l blocks slots (Region region) = places_of_region slots region
places_of c l blocks slots (Use used) = places_of_use slots used
places_of c l blocks slots (Badge used) = places_of_use slots used
places_of c l blocks slots (Right used) = places_of_use slots used
places_of c l blocks slots (Way passage) = places_of_passage c l blocks slots passage
places_of c l blocks slots (Waits wait) = places_of_wait wait
places_of c l blocks slots (Taken take) = places_of_take slots take
places_of c l blocks slots told = []

-- a line for each; `filled` is which call filled a slot, `waits` by which call a thread waits
abbrev pub place_lines : Texts → (ℕ → Option ℕ) → (ℕ → Option ℕ) → Policy → Layout → List Block → List PartSlot → Told → List ℕ
place_lines texts filled waits c l blocks slots told = flat_map (place_line texts filled waits) (places_of c l blocks slots told)

-- by what is looked at; nothing stands there if nothing is
abbrev pub places_told : ProfileName → Policy → Layout → Option Origin → Told → List ℕ
places_told p c l None told = []
places_told p c l (Some o) told =
    place_lines (texts_told o.names) (filled_by p o.calls.setup.now o.calls.made) (waits_since o.calls.setup.now.calls o.calls.replies.now)
    c l o.sites.now.blocks.items o.sites.now.slots.items told

-- the calls can be made again
abbrev pub IsOrigin : ProfileName → Option Origin → Type 0
IsOrigin p None = ⊤
IsOrigin p (Some o) =
    IsPlan p o.calls.setup.now.plan × (o.calls.made ≤ length o.calls.setup.now.calls) × AreFills p o.calls.setup.now o.calls.made o.calls.fills.now

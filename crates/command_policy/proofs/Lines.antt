-- The lines of what is judged.
use Rattle.std.proofs.Common.{◌≡◌, ℕ, List, Option, ap, ◌∙◌}
use Rattle.cap_core.specs.declared.profile.ProfileName.{ProfileName}
use Rattle.kernel_abstract.specs.declared.call.Reply.{Reply}
use Rattle.setup_format.specs.Views.{SetupView}
use Rattle.command_policy_breaches.specs.declared.joining.Join.{Join}
use Rattle.command_policy_breaches.specs.declared.held.Home.{Home}
use Rattle.setup_policy.specs.declared.policy.Labels.{Labels}
use Rattle.command_policy_breaches.specs.declared.held.Layout.{Layout}
use Rattle.setup_policy.specs.declared.policy.Policy.{Policy}
use Rattle.command_policy_breaches.specs.declared.ways.Passage.{Passage}
use Rattle.command_policy_text.specs.declared.places.Origin.{Origin}
use Rattle.command_policy_text.specs.Places.{places_told}
use Rattle.command_policy_text.specs.Texts.{text_and_verdict}
use Rattle.command_policy.specs.declared.judging.Judged.{Judged}
use Rattle.command_policy.specs.Policies.{told_with}

-- what is told of the pieces of what is judged is told of it
pub told_as : (p : ProfileName) (o : Option Origin) (j : Judged) (setup : SetupView) (c : Policy) (l : Layout) (n : Labels) (hs : List Home) (js : List Join) (ws : List Passage) (rs : List Reply) →
    c ≡ j.policy → l ≡ j.layout → n ≡ j.labels → hs ≡ j.homes.items → js ≡ j.joins.items → ws ≡ j.passages.items → rs ≡ j.replies.items →
    text_and_verdict (places_told p c l o) c l n hs js ws setup rs ≡ told_with (places_told p j.policy j.layout o) j setup
told_as p o j setup c l n hs js ws rs policy layout labels homes joins passages replies = cc

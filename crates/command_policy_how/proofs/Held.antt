-- What lines are told of is what is judged.
use Rattle.std.proofs.Common.{◌≡◌, ℕ, List, Option, Some, None, inr, sym, subst}
use Rattle.cap_core.specs.declared.profile.ProfileName.{ProfileName}
use Rattle.kernel_abstract.specs.Shown.{Shown}
use Rattle.setup_format.specs.Views.{SetupView}
use Rattle.command_policy_how.specs.declared.asking.BreachOutcome.{BreachOutcome}
use Rattle.command_policy_breaches.specs.declared.held.Home.{Home}
use Rattle.setup_policy.specs.declared.policy.Labels.{Labels}
use Rattle.command_policy_breaches.specs.declared.held.Layout.{Layout}
use Rattle.setup_policy.specs.declared.policy.Policy.{Policy}
use Rattle.command_policy_breaches.specs.declared.ways.Passage.{Passage}
use Rattle.command_policy_breaches.specs.Layouts.{IsLayoutOf}
use Rattle.command_policy_text.specs.declared.told.Held.{Held}
use Rattle.command_policy_text.specs.declared.told.Told.{Told}
use Rattle.command_policy.specs.declared.judging.Judged.{Judged}
use Rattle.command_policy.specs.Policies.{IsHeldOf}
use Rattle.command_policy_how.specs.Asked.{IsAskedOf}
use Rattle.command_policy_how.specs.Breach.{IsToldBy, asked_breaches, breach_at}
use Rattle.command_policy_how.specs.Told.{IsFoundIn}

pub layout_held : (p : ProfileName) (j : Judged) (h : Held) (s v : Shown) → IsHeldOf j h → s ≡ v → IsLayoutOf p j.policy v j.layout → IsLayoutOf p h.policy.now s h.layout.now
layout_held p j h s v held same layout =
    subst (λ (c : Policy). IsLayoutOf p c s h.layout.now) (sym held.policy)
    (subst (λ (l : Layout). IsLayoutOf p j.policy s l) (sym held.layout)
    (subst (λ (w : Shown). IsLayoutOf p j.policy w j.layout) (sym same) layout))

pub asked_held : (p : ProfileName) (j : Judged) (h : Held) (told : Told) (most : ℕ) (s v : Shown) (setup : SetupView) (made : ℕ) (o : BreachOutcome) → IsHeldOf j h → s ≡ v →
    IsAskedOf p h.policy.now h.layout.now h.homes.now told most s setup made o → IsAskedOf p j.policy j.layout j.homes.items told most v setup made o
asked_held p j h told most s v setup made o held same asked =
    subst (λ (c : Policy). IsAskedOf p c j.layout j.homes.items told most v setup made o) held.policy
    (subst (λ (l : Layout). IsAskedOf p h.policy.now l j.homes.items told most v setup made o) held.layout
    (subst (λ (hs : List Home). IsAskedOf p h.policy.now h.layout.now hs told most v setup made o) held.homes
    (subst (λ (w : Shown). IsAskedOf p h.policy.now h.layout.now h.homes.now told most w setup made o) same asked)))

abbrev IsAskedLine : Policy → Layout → Labels → List Home → List Passage → List ℕ → Option Told → Type 0
IsAskedLine c l n hs ws line found = IsToldBy c l n hs (asked_breaches c l hs ws) line found

pub told_held : (j : Judged) (h : Held) (ws : List Passage) (breaches : List Told) (line : List ℕ) (found : Option Told) → IsHeldOf j h → ws ≡ j.passages.items →
    breaches ≡ asked_breaches h.policy.now h.layout.now h.homes.now ws → IsToldBy h.policy.now h.layout.now h.labels.now h.homes.now breaches line found →
    IsToldBy j.policy j.layout j.labels j.homes.items (asked_breaches j.policy j.layout j.homes.items j.passages.items) line found
told_held j h ws breaches line found held same are has =
    subst (λ (c : Policy). IsAskedLine c j.layout j.labels j.homes.items j.passages.items line found) held.policy
    (subst (λ (l : Layout). IsAskedLine h.policy.now l j.labels j.homes.items j.passages.items line found) held.layout
    (subst (λ (n : Labels). IsAskedLine h.policy.now h.layout.now n j.homes.items j.passages.items line found) held.labels
    (subst (λ (hs : List Home). IsAskedLine h.policy.now h.layout.now h.labels.now hs j.passages.items line found) held.homes
    (subst (λ (xs : List Passage). IsAskedLine h.policy.now h.layout.now h.labels.now h.homes.now xs line found) same
    (subst (λ (bs : List Told). IsToldBy h.policy.now h.layout.now h.labels.now h.homes.now bs line found) are has)))))

pub found_held : (n : ℕ) (j : Judged) (h : Held) (ws : List Passage) (breaches : List Told) (lines : List (List ℕ)) (line : List ℕ) (found : Option Told) → IsHeldOf j h →
    ws ≡ j.passages.items → breaches ≡ asked_breaches h.policy.now h.layout.now h.homes.now ws → breach_at lines n ≡ Some line →
    IsToldBy h.policy.now h.layout.now h.labels.now h.homes.now breaches line found → IsFoundIn n lines j found
found_held n j h ws breaches lines line None held same are at told = inr (record {
  line = line;
  at = at;
  none = told_held j h ws breaches line None held same are told;
})
found_held n j h ws breaches lines line (Some told) held same are at has = record {
  line = line;
  at = at;
  is_breach = told_held j h ws breaches line (Some told) held same are has;
}

-- What status 0 promises.
use Rattle.std.proofs.Common.{◌≡◌, ℕ, ◌+◌, Bool, true, false, cond, ◌==◌, List, [], ◌∷◌, length, refl, sym, ap, ◌∙◌, arith}
use Rattle.std.proofs.lemmas.Bool.{eqb-true}
use Rattle.cap_core.specs.declared.profile.ProfileName.{ProfileName}
use Rattle.kernel_abstract.specs.declared.call.Reply.{Reply}
use Rattle.kernel_abstract.specs.State.{State, shown}
use Rattle.kernel_abstract.specs.Step.{state_after}
use Rattle.setup_format.specs.Views.{SetupView}
use Rattle.command_core.specs.declared.fault.Verdict.{Verdict}
use Rattle.command_core.specs.declared.fault.Verdict.TheVariants.{AllMet, NotMet}
use Rattle.command_policy_breaches.specs.declared.joining.Join.{Join}
use Rattle.command_policy_breaches.specs.declared.held.Home.{Home}
use Rattle.setup_policy.specs.declared.policy.Labels.{Labels}
use Rattle.command_policy_breaches.specs.declared.held.Layout.{Layout}
use Rattle.setup_policy.specs.declared.policy.Policy.{Policy}
use Rattle.command_policy_breaches.specs.declared.ways.Passage.{Passage}
use Rattle.command_policy_breaches.specs.Joins.{blocks, homes_joined, joins}
use Rattle.command_policy_breaches.specs.Ways.{passages}
use Rattle.command_policy_text.specs.declared.told.Told.{Told}
use Rattle.command_policy_text.specs.Texts.{breaches, breach_count, calls_breached, text_and_verdict, verdict_by_count}
use Rattle.command_policy_laws.specs.Unbroken.{any_endpoint, group_of, IsPromised, may_hold, may_group_pass, WhatIsNotToldIsNotTaken}
use Rattle.command_policy_laws.proofs.Grants.{handed_out}
use Rattle.command_policy_laws.proofs.Keeps.{kept_held}
use Rattle.command_policy_laws.proofs.Regions.{regions_theirs}
use Rattle.command_policy_laws.proofs.Takes.{takes_held}
use Rattle.command_policy_laws.proofs.Theirs.{names_theirs, objects_theirs}
use Rattle.command_policy_laws.proofs.Unbroken.{kept_where_untold}
use Rattle.command_policy_laws.proofs.Untold.{unbroken}

met_where : (b : Bool) → AllMet ≡ cond b AllMet NotMet → b ≡ true
met_where true h = refl
met_where false h = cc

no_length : {X : Type 0} (xs : List X) → length xs ≡ 0 → xs ≡ []
no_length [] h = refl
no_length (x ∷ xs) h = cc

no_more : (m n : ℕ) → m + n ≡ 0 → n ≡ 0
no_more m n h = omega (arith, h)

module _ (c : Policy) (l : Layout) (n : Labels) (homes : List Home) (js : List Join) (ws : List Passage) (setup : SetupView) (replies : List Reply) where
  pub none_told : (places : Told → List ℕ) (text : List ℕ) → (text, AllMet) ≡ text_and_verdict places c l n homes js ws setup replies → breaches c l n homes js ws ≡ []
  unfolding text_and_verdict
  none_told places text is =
      no_length (breaches c l n homes js ws)
      (no_more (length (calls_breached c setup replies)) (length (breaches c l n homes js ws))
      (eqb-true (breach_count c l n homes js ws setup replies) 0 (met_where (breach_count c l n homes js ws setup replies == 0) (ap (λ (made : List ℕ × Verdict). made.1) is))))

pub not_taken : (p : ProfileName) (c : Policy) (l : Layout) (n : Labels) (A : State) → WhatIsNotToldIsNotTaken p c l n A
not_taken p c l n A reached is two none =
    let untold = unbroken c l n (homes_joined c l (blocks c l)) (joins c l) (passages c l (blocks c l)) none in
    takes_held p c l A reached is untold.joined untold.grants two untold.takes

pub promised : (p : ProfileName) (c : Policy) (l : Layout) (n : Labels) (setup : SetupView) (replies : List Reply) (places : Told → List ℕ) (text : List ℕ) →
    IsPromised p c l n setup replies places text
promised p c l n setup replies places text A reached is told =
    let none = none_told c l n (homes_joined c l (blocks c l)) (joins c l) (passages c l (blocks c l)) setup replies places text told in
    let kept = kept_where_untold p c l n A is none in
    let untold = unbroken c l n (homes_joined c l (blocks c l)) (joins c l) (passages c l (blocks c l)) none in (
      kept.0,
      λ calls of.
          let closed = (is.right.ever A reached refl calls of).closed in (
            kept_held p l.memory.items l.uses.items (shown A) (group_of l) any_endpoint (may_hold c l) (may_group_pass c) is.right.ever kept.1 A reached refl calls of,
            regions_theirs p c l A is untold calls reached of,
            objects_theirs p l (state_after p A calls).derivations closed,
            names_theirs p l (state_after p A calls).derivations closed,
            handed_out p c l A reached is untold.joined untold.grants calls of,
            λ two. takes_held p c l A reached is untold.joined untold.grants two untold.takes calls of,
          ),
    )

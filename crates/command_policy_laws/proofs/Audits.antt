-- What `policy` promises with status 0.
use Rattle.std.proofs.Common.{◌≡◌, ℕ, List, Option, inl, inr, refl, ap, ◌∙◌}
use Rattle.cap_core.specs.declared.profile.ProfileName.{ProfileName}
use Rattle.setup_format.specs.Views.{ReadView}
use Rattle.setup_report.specs.Behind.{first_calls, state_behind}
use Rattle.command_core.specs.declared.fault.Verdict.{Verdict}
use Rattle.command_core.specs.declared.fault.Verdict.TheVariants.{AllMet, Refused, Absent}
use Rattle.command_policy_breaches.specs.Joins.{blocks, homes_joined, joins}
use Rattle.command_policy_breaches.specs.Ways.{passages}
use Rattle.command_policy_text.specs.Texts.{text_and_verdict}
use Rattle.command_policy.specs.Policies.{places_behind, told_in}
use Rattle.command_policy_laws.specs.Audits.{WhatAuditPolicyPromises}
use Rattle.command_policy_laws.proofs.Status.{promised}

no_refusal : {X : Type 0} → AllMet ≡ Refused → X
no_refusal h = cc

no_absence : {X : Type 0} → AllMet ≡ Absent → X
no_absence h = cc

pub audit_promised : (policy : List ℕ) (after : Option ℕ) (p : ProfileName) (read : ReadView) (text : List ℕ) → WhatAuditPolicyPromises policy after p read text
audit_promised policy after p read text plan (inl refused) = no_refusal refused.refused
audit_promised policy after p read text plan (inr (inl past)) = no_absence past.absent
audit_promised policy after p read text plan (inr (inr held)) =
    let j = held.judged in
    let is = held.is_judged in
    let places = told_in j.policy.version (places_behind p read.setup held.made j) in
    let told : (text, AllMet) ≡ text_and_verdict places j.policy j.layout j.labels (homes_joined j.policy j.layout (blocks j.policy j.layout)) (joins j.policy j.layout)
    (passages j.policy j.layout (blocks j.policy j.layout)) read.setup j.replies.items =
    held.told
    ∙ (ap (λ hs. text_and_verdict places j.policy j.layout j.labels hs j.joins.items j.passages.items read.setup j.replies.items) is.homes_are
    ∙ (ap (λ js. text_and_verdict places j.policy j.layout j.labels (homes_joined j.policy j.layout (blocks j.policy j.layout)) js j.passages.items read.setup j.replies.items) is.joins_are
    ∙ ap (λ ws. text_and_verdict places j.policy j.layout j.labels (homes_joined j.policy j.layout (blocks j.policy j.layout)) (joins j.policy j.layout) ws read.setup j.replies.items) is.passages_are)) in
    let made = promised p j.policy j.layout j.labels read.setup j.replies.items places text (state_behind p read.setup held.made)
    (record { plan = read.setup.plan; lawful = plan; calls = first_calls read.setup held.made; is = refl }) is.layout told in
    record {
      file = held.file;
      says = held.says;
      made = held.made;
      is_made = held.is_made;
      judged = j;
      meant = held.meant;
      is_judged = is;
      named = made.0;
      kept = made.1;
    }

-- What parts alone answer says whether the one thread's part is kept from the other's.
use Rattle.std.proofs.Common.{◌≡◌, ◌∙◌, ◌⊎◌, inl, inr, Bool, true, false, sym, ap}
use Rattle.std.proofs.lemmas.Bool.{false≢true}
use Rattle.cap_core.specs.declared.profile.ProfileName.{ProfileName}
use Rattle.kernel_abstract.specs.Shown.{Shown}
use Rattle.query_parts.specs.Listed.{part_at}
use Rattle.command_never.specs.declared.parts_kept.never.Never.{Never}
use Rattle.command_never.specs.declared.parts_kept.never.Never.TheVariants.{Excluded, Possible}
use Rattle.command_never.specs.Waits.{waits}
use Rattle.command_never.specs.Never.{never}
use Rattle.command_never.specs.Answer.{is_excluded, IsNeverByParts}
use Rattle.command_never.proofs.Answered.{only_two, excluded_so}
use Rattle.command_how_witness.specs.Witness.{Asking}
use Rattle.command_how_witness.specs.Excluded.{IsKept, IsNeverSaid}

module _ (p : ProfileName) (q : Asking) (v : Shown) (answer : Never) (of : IsNeverByParts p q.without v q.by q.from q.to answer) where
  pub is_kept : is_excluded answer ≡ true → IsKept p q v
  is_kept h = record { memory = of.memory; uses = of.uses; right = of.right; kept = of.kept (excluded_so answer h) }

  pub is_said_excluded : is_excluded answer ≡ true → IsNeverSaid p q v Excluded
  is_said_excluded h = record { memory = of.memory; uses = of.uses; right = of.right; answered = sym (excluded_so answer h) ∙ of.answered }

  possible_is : is_excluded answer ≡ false → Possible ≡ never p of.memory of.uses (waits p v) q.by q.from q.to
  possible_is h =
      elim (only_two p of.memory of.uses (waits p v) q.by (part_at of.memory q.from) (part_at of.memory q.to)) [
        | inl out ↦ absurd (false≢true (sym h ∙ ap is_excluded (of.answered ∙ out)))
        | inr lets ↦ sym lets
      ]

  pub is_said_possible : is_excluded answer ≡ false → IsNeverSaid p q v Possible
  is_said_possible h = record { memory = of.memory; uses = of.uses; right = of.right; answered = possible_is h }

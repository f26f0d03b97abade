-- Between two still parts a message is excluded, or calls of its threads show it.
use Rattle.std.proofs.Common.{◌≡◌, ◌⊎◌, inl, inr, ℕ, refl, sym, ap, subst, true, ◌==◌, List, None}
use Rattle.std.specs.List.{list_any}
use Rattle.std.proofs.lemmas.Bool.{eqb-true}
use Rattle.cap_core.specs.declared.profile.ProfileName.{ProfileName}
use Rattle.kernel_delete.specs.Members.{In}
use Rattle.kernel_delete.proofs.Members.{either_true, any_of}
use Rattle.kernel_abstract.specs.State.{State, shown}
use Rattle.kernel_abstract.specs.Reached.{IsReached}
use Rattle.query_parts.specs.declared.listed.PartUse.{PartUse}
use Rattle.query_parts.specs.Listed.{part_at}
use Rattle.command_parts.specs.Ever.{AreRightParts}
use Rattle.command_never.specs.declared.parts_kept.never.Never.TheVariants.{Excluded, Possible}
use Rattle.command_never.specs.declared.parts_kept.waits.Wait.{Wait}
use Rattle.command_never.specs.Never.{is_open, endpoints_met, never}
use Rattle.command_never.specs.Waits.{waits}
use Rattle.command_never.proofs.Kept.{kept_ever}
use Rattle.command_never.proofs.Answered.{only_two}
use Rattle.command_never.specs.Still.{LieInTwoStill}
use Rattle.command_how_witness.specs.declared.asked.Happening.TheVariants as happening
use Rattle.command_how_witness.specs.Witness.{Asking, is_badge}
use Rattle.command_how_witness.specs.Excluded.{IsKept, IsOutside, IsExcluded}
use Rattle.command_how_witness.specs.StillDecided.{IsShownAlone, IsDecided, IsToldDecided}
use Rattle.command_how_witness.proofs.Decided.{shut_between, open_between}
use Rattle.command_how_witness.proofs.StillParts.{may_show, open_held_by}
use Rattle.command_how_witness.proofs.StillShown.{shown_alone}

module _ (p : ProfileName) (q : Asking) (uses : List PartUse) (A : State) (reached : IsReached p A)
    (right : AreRightParts p (shown A) q.without q.memory uses) (two : LieInTwoStill p q.without q.memory uses (shown A) q.from q.to) where
  abbrev ws : List Wait
  ws = waits p (shown A)

  -- what is open between the two is shown
  open_shown : q.what ≡ happening.Message → q.badge ≡ None → (e : ℕ) → In e (endpoints_met uses ws) → is_open p q.memory uses ws q.by two.i two.j e ≡ true → IsShownAlone p q A
  open_shown what any e here opens =
      let hold = open_held_by p q uses A reached right two e here opens in
      shown_alone p q A (may_show p q uses A reached right two) reached what e hold.badge hold.other hold.named (ap (λ b. is_badge b hold.badge.0) any) hold.sends hold.receives

  pub possible_shown : q.what ≡ happening.Message → q.badge ≡ None → never p q.memory uses ws q.by q.from q.to ≡ Possible → IsShownAlone p q A
  possible_shown what any possible =
      elim (either_true (two.i == two.j) (list_any (is_open p q.memory uses ws q.by two.i two.j) (endpoints_met uses ws))
      (open_between p q.memory uses ws q.by q.from q.to two.i two.j two.from_in two.to_in possible)) [
        | inl same ↦ absurd (two.two (eqb-true two.i two.j same))
        | inr some ↦
            let e = any_of (is_open p q.memory uses ws q.by two.i two.j) (endpoints_met uses ws) some in
            open_shown what any e.0 e.1.0 e.1.1
      ]

  excluded_kept : q.what ≡ happening.Message → never p q.memory uses ws q.by q.from q.to ≡ Excluded → IsExcluded p q uses (shown A)
  excluded_kept what excluded =
      let s = shut_between p q.memory uses ws q.by q.from q.to excluded in
      let kept : IsKept p q (shown A) = record {
        memory = q.memory;
        uses = uses;
        right = right;
        kept = record { i = s.i; j = s.j; from_in = s.from_in; to_in = s.to_in; kept = kept_ever p q.memory uses q.by s.i s.j (shown A) right.ever s.shut };
      } in
      record { right = right; outside = subst (IsOutside p q uses (shown A)) (sym what) kept }

  pub either : q.what ≡ happening.Message → q.badge ≡ None → IsExcluded p q uses (shown A) ⊎ IsShownAlone p q A
  either what any =
      elim (only_two p q.memory uses ws q.by (part_at q.memory q.from) (part_at q.memory q.to)) [
        | inl out ↦ inl (excluded_kept what out)
        | inr lets ↦ inr (possible_shown what any lets)
      ]

pub is_decided : (p : ProfileName) (q : Asking) (uses : List PartUse) (A : State) → IsDecided p q uses A
is_decided p q uses A reached right two what any = either p q uses A reached right two what any

pub is_told_decided : (p : ProfileName) (q : Asking) (uses : List PartUse) (A : State) → IsToldDecided p q uses A
is_told_decided p q uses A reached right founded lets what any = possible_shown p q uses A reached right (founded uses A reached refl) what any lets

-- Where one part hands nothing to another, no slot of it ever holds a capability by which it could.
use Rattle.std.proofs.Common.{◌≡◌, ℕ, inl, inr, true, false, ◌==◌, ◌&&◌, List, refl, sym, ◌∙◌, arith, eq-eqb}
use Rattle.std.specs.List.{list_any}
use Rattle.std.proofs.lemmas.Bool.{false≢true}
use Rattle.std.proofs.lemmas.Nat.{pow_pos}
use Rattle.cap_core.specs.declared.profile.ProfileName.{ProfileName}
use Rattle.cap_core.specs.declared.capability.Badge.{Badge}
use Rattle.cap_core.specs.declared.capability.Cap.{Cap}
use Rattle.cap_core.specs.declared.capability.Cap.TheVariants.{Null, Untyped, Endpoint, CNode, Tcb}
use Rattle.cap_core.specs.declared.rights.Rights.{Rights}
use Rattle.cap_core.specs.Numbers.{endpoint_bits}
use Rattle.cap_core.specs.Rights.{write_bit, read_bit, grant_bit}
use Rattle.kernel_forest.specs.Entries.{cap_at}
use Rattle.kernel_delete.proofs.Members.{both_true, true_left, true_right}
use Rattle.kernel_abstract.specs.Decode.{has_right}
use Rattle.kernel_abstract.specs.Shown.{Shown}
use Rattle.kernel_abstract.specs.Step.{state_after}
use Rattle.query_parts.specs.declared.listed.PartMemory.{PartMemory}
use Rattle.query_parts.specs.declared.listed.PartUse.{PartUse}
use Rattle.query_parts.specs.Parts.{Use, Covers, IsWithin}
use Rattle.query_parts.specs.Listed.{parts_listed}
use Rattle.query_parts.specs.Ever.{AreConfinedEver}
use Rattle.setup_report.specs.State.{is_in}
use Rattle.command_never.specs.Waits.{waits}
use Rattle.command_never.specs.Never.{may_receive_on, endpoints_met}
use Rattle.command_policy_laws.specs.GrantsMet.{is_giving, may_give_by, gives_to, are_given, IsKeptIn, AreGrantsKeptEver, is_answering, may_answer_by, may_call_by, answers_to, are_answered, IsKeptFromCallers, AreAnswersKeptEver}
use Rattle.command_never.proofs.Tests.{none_at}
use Rattle.command_never.proofs.Had.{bytes_at, used}
use Rattle.command_policy_laws.proofs.Held.{weaker}
use Rattle.command_policy_laws.proofs.Rights.{grant_kept, read_kept, write_kept}

module _ (p : ProfileName) (memory : List PartMemory) (uses : List PartUse) (v : Shown) (i j : ℕ) (none : are_given p memory uses v i j ≡ false) where
  given_by : (e : ℕ) → may_give_by p memory uses i e ≡ true → is_in e (endpoints_met uses (waits p v)) ≡ true → may_receive_on p memory uses (waits p v) j e ≡ false
  given_by e gives met =
      (elim (may_receive_on p memory uses (waits p v) j e) as (λ b. (may_give_by p memory uses i e && b) ≡ false → b ≡ false) [
        | true ↦ λ shut. absurd (false≢true (sym shut ∙ (rw gives refl)))
        | false ↦ λ shut. refl
      ]) (none_at (gives_to p memory uses v i j) e (endpoints_met uses (waits p v)) none met)

  giving_use : (e : ℕ) (badge : Badge) (rights : Rights) (u : Use) → Covers u e badge rights → has_right write_bit rights ≡ true → has_right grant_bit rights ≡ true →
      list_any (λ (x : PartUse). x.part == i && (x.endpoint == e && (has_right write_bit x.rights && has_right grant_bit x.rights))) uses ≡ true →
      list_any (is_giving i e) uses ≡ true
  giving_use e badge rights u c sends gives any =
      weaker (λ (x : PartUse). x.part == i && (x.endpoint == e && (has_right write_bit x.rights && has_right grant_bit x.rights))) (is_giving i e)
      (λ (x : PartUse) is.
      let one = both_true (x.part == i) _ is in
      let two = both_true (x.endpoint == e) _ one.1 in
      let three = both_true (has_right write_bit x.rights) _ two.1 in
      rw (one.0, two.0, three.0, three.1) refl)
      uses any

  kept_in : (cap : Cap) → IsWithin p (parts_listed memory uses) i cap → IsKeptIn p memory uses v j cap
  kept_in Null within = tt
  kept_in (Untyped base bits free) within = tt
  kept_in (Endpoint base badge rights) (inl owned) = λ sends gives met.
      given_by base (true_left _ _ (bytes_at p memory uses i base base (owned base (omega arith) (omega (arith, pow_pos (endpoint_bits p)))) (omega arith) (omega (arith, pow_pos (endpoint_bits p))))) met
  kept_in (Endpoint base badge rights) (inr covered) = λ sends gives met.
      let c : Covers covered.0 base badge rights = covered.1.1 in
      given_by base
      (true_right _ _ (giving_use base badge rights covered.0 c sends gives
      (used uses i (λ (u : Use). u.endpoint == base && (has_right write_bit u.rights && has_right grant_bit u.rights)) covered.0 covered.1.0
      (rw (eq-eqb covered.0.endpoint base c.endpoint_is, write_kept rights covered.0.rights c.rights_fit sends, grant_kept rights covered.0.rights c.rights_fit gives) refl))))
      met
  kept_in (CNode base radix guard) within = tt
  kept_in (Tcb base) within = tt

  pub grants_kept_ever : AreConfinedEver p memory uses v → AreGrantsKeptEver p memory uses v i j
  grants_kept_ever confined A reached is calls of slot own =
      kept_in (cap_at (state_after p A calls).derivations slot) ((confined A reached is calls of).closed i slot own)

-- ---- answers

module _ (p : ProfileName) (memory : List PartMemory) (uses : List PartUse) (v : Shown) (i j : ℕ) (none : are_answered p memory uses v i j ≡ false) where
  answered_by : (e : ℕ) → may_answer_by p memory uses i e ≡ true → is_in e (endpoints_met uses (waits p v)) ≡ true → may_call_by p memory uses j e ≡ false
  answered_by e gives met =
      (elim (may_call_by p memory uses j e) as (λ b. (may_answer_by p memory uses i e && b) ≡ false → b ≡ false) [
        | true ↦ λ shut. absurd (false≢true (sym shut ∙ (rw gives refl)))
        | false ↦ λ shut. refl
      ]) (none_at (answers_to p memory uses i j) e (endpoints_met uses (waits p v)) none met)

  answering_use : (e : ℕ) (badge : Badge) (rights : Rights) (u : Use) → Covers u e badge rights → has_right read_bit rights ≡ true → has_right grant_bit rights ≡ true →
      list_any (λ (x : PartUse). x.part == i && (x.endpoint == e && (has_right read_bit x.rights && has_right grant_bit x.rights))) uses ≡ true →
      list_any (is_answering i e) uses ≡ true
  answering_use e badge rights u c sends gives any =
      weaker (λ (x : PartUse). x.part == i && (x.endpoint == e && (has_right read_bit x.rights && has_right grant_bit x.rights))) (is_answering i e)
      (λ (x : PartUse) is.
      let one = both_true (x.part == i) _ is in
      let two = both_true (x.endpoint == e) _ one.1 in
      let three = both_true (has_right read_bit x.rights) _ two.1 in
      rw (one.0, two.0, three.0, three.1) refl)
      uses any

  kept_from_callers : (cap : Cap) → IsWithin p (parts_listed memory uses) i cap → IsKeptFromCallers p memory uses v j cap
  kept_from_callers Null within = tt
  kept_from_callers (Untyped base bits free) within = tt
  kept_from_callers (Endpoint base badge rights) (inl owned) = λ sends gives met.
      answered_by base (true_left _ _ (bytes_at p memory uses i base base (owned base (omega arith) (omega (arith, pow_pos (endpoint_bits p)))) (omega arith) (omega (arith, pow_pos (endpoint_bits p))))) met
  kept_from_callers (Endpoint base badge rights) (inr covered) = λ sends gives met.
      let c : Covers covered.0 base badge rights = covered.1.1 in
      answered_by base
      (true_right _ _ (answering_use base badge rights covered.0 c sends gives
      (used uses i (λ (u : Use). u.endpoint == base && (has_right read_bit u.rights && has_right grant_bit u.rights)) covered.0 covered.1.0
      (rw (eq-eqb covered.0.endpoint base c.endpoint_is, read_kept rights covered.0.rights c.rights_fit sends, grant_kept rights covered.0.rights c.rights_fit gives) refl))))
      met
  kept_from_callers (CNode base radix guard) within = tt
  kept_from_callers (Tcb base) within = tt

  pub answers_kept_ever : AreConfinedEver p memory uses v → AreAnswersKeptEver p memory uses v i j
  answers_kept_ever confined A reached is calls of slot own =
      kept_from_callers (cap_at (state_after p A calls).derivations slot) ((confined A reached is calls of).closed i slot own)

-- The names that were looked up are those that are promised.
use Rattle.std.proofs.Common.{◌≡◌, ℕ, ◌+◌, ◌*◌, codes, length, Some, sym, ap, ◌∙◌, arith}
use Rattle.cap_core.specs.declared.profile.ProfileName.{ProfileName}
use Rattle.kernel_abstract.specs.Plan.{Plan}
use Rattle.setup_values.specs.Names.{Names}
use Rattle.command_new.specs.New.{AreNames}
use Rattle.command_new.specs.Private.{NameSlots, NameThreads}

module _ (p : ProfileName) (plan : Plan) (names : Names) (ts es us : ℕ) (t : ts ≡ plan.threads) (e : es ≡ plan.endpoints) (u : us ≡ length plan.untypeds) where
  endpoint_slots : (j : ℕ) → Some (2 + ts + j) ≡ Some (2 + plan.threads + j)
  endpoint_slots j = ap (λ (n : ℕ). Some (2 + n + j)) t

  untyped_slots : (k : ℕ) → Some (2 + ts + es + k) ≡ Some (2 + plan.threads + plan.endpoints + k)
  untyped_slots k = ap (λ (n : ℕ). Some (2 + n + es + k)) t ∙ ap (λ (n : ℕ). Some (2 + plan.threads + n + k)) e

  -- of numbers that are those of the plan
  pub names_found : NameThreads p plan names → NameSlots names (codes "tcb_") 2 ts → NameSlots names (codes "ep_") (2 + ts) es →
      NameSlots names (codes "untyped_") (2 + ts + es) us → length names ≡ 2 * ts + es + us → AreNames p plan names
  names_found threads tcbs endpoints untypeds others = record {
    threads = threads;
    tcbs = λ i within. tcbs i (omega arith);
    endpoints = λ j within. endpoints j (omega arith) ∙ endpoint_slots j;
    untypeds = λ k within. untypeds k (omega arith) ∙ untyped_slots k;
    no_others = omega arith;
  }

  pub tcbs_named : AreNames p plan names → NameSlots names (codes "tcb_") 2 ts
  tcbs_named are i within = are.tcbs i (omega arith)

  pub endpoints_named : AreNames p plan names → NameSlots names (codes "ep_") (2 + ts) es
  endpoints_named are j within = are.endpoints j (omega arith) ∙ sym (endpoint_slots j)

  pub untypeds_named : AreNames p plan names → NameSlots names (codes "untyped_") (2 + ts + es) us
  untypeds_named are k within = are.untypeds k (omega arith) ∙ sym (untyped_slots k)

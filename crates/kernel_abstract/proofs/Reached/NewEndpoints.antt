-- An endpoint that is not made yet, or that the last call made, has no sends and no receives, in each state that runs reach.
use Rattle.std.proofs.Common.{◌≡◌, ◌≢◌, ℕ, ◌<◌, ◌≤◌, Bool, true, false, not, cond, ◌==◌, ◌&&◌, List, [], ◌∷◌, filter, refl, ap, ◌∙◌, arith}
use Rattle.std.proofs.lemmas.Bool.{ne_eqb}
use Rattle.std.specs.List.{AllByRecursion}
use Rattle.cap_core.specs.declared.profile.ProfileName.{ProfileName}
use Rattle.ipc_core.specs.Records.{ReceiveRecord, Instance, SendRecord, same_instance}
use Rattle.kernel_abstract.specs.State.{State}
use Rattle.kernel_abstract.specs.Deliveries.{IsUnused}
use Rattle.kernel_abstract.specs.Reached.{IsReached}
use Rattle.kernel_abstract.proofs.Messages.DeliveredSend.{SendsUpTo}
use Rattle.kernel_abstract.proofs.Messages.WaitingReceive.{ReceivesUpTo}
use Rattle.kernel_abstract.proofs.Reached.Simulation.{reached_inv}

and_false : (b : Bool) → (b && false) ≡ false
and_false true = refl
and_false false = refl

-- an instance that was made before a record is another than one that was made with the record's call or later
another : (m e : Instance) (number count : ℕ) → m.birth < number → number ≤ count → count ≤ e.birth → same_instance m e ≡ false
another m e number count lt le made =
    let other : m.birth ≢ e.birth = λ d. omega (arith, d) in
    ap (λ (b : Bool). (m.base == e.base) && b) (ne_eqb m.birth e.birth other) ∙ and_false (m.base == e.base)

module _ (A : State) (e : Instance) (made : A.count ≤ e.birth) where
  no_sends : (xs : List SendRecord) → AllByRecursion (λ (s : SendRecord). s.endpoint.birth < s.number) xs → SendsUpTo A.count xs →
      filter (λ (s : SendRecord). same_instance s.endpoint e && not (A.is_cancelled s.number)) xs ≡ []
  no_sends [] younger up = refl
  no_sends (s ∷ xs) younger up =
      let rest : List SendRecord = filter (λ (s : SendRecord). same_instance s.endpoint e && not (A.is_cancelled s.number)) xs in
      ap (λ (b : Bool). cond (b && not (A.is_cancelled s.number)) (s ∷ rest) rest) (another s.endpoint e s.number A.count younger.0 up.0 made) ∙ no_sends xs younger.1 up.1

  no_receives : (xs : List ReceiveRecord) → AllByRecursion (λ (a : ReceiveRecord). a.endpoint.birth < a.number) xs → ReceivesUpTo A.count xs →
      filter (λ (a : ReceiveRecord). same_instance a.endpoint e && not (A.is_cancelled a.number)) xs ≡ []
  no_receives [] younger up = refl
  no_receives (a ∷ xs) younger up =
      let rest : List ReceiveRecord = filter (λ (a : ReceiveRecord). same_instance a.endpoint e && not (A.is_cancelled a.number)) xs in
      ap (λ (b : Bool). cond (b && not (A.is_cancelled a.number)) (a ∷ rest) rest) (another a.endpoint e a.number A.count younger.0 up.0 made) ∙ no_receives xs younger.1 up.1

pub new_is_empty : (p : ProfileName) (A : State) (e : Instance) → IsReached p A → A.count ≤ e.birth → IsUnused A e
new_is_empty p A e reached made =
    let inv = reached_inv p A reached in
    record { sends = no_sends A e made A.sends inv.sends_younger inv.sends_numbered; receives = no_receives A e made A.receives inv.younger inv.numbered }

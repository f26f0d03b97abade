-- Where nothing is open from one part to another, the one is kept from the other.
use Rattle.std.proofs.Common.{◌≡◌, ◌≢◌, ℕ, ◌+◌, ◌^◌, ◌<◌, ◌≤◌, ◌⊎◌, inl, inr, Bool, true, false, not, ◌==◌, ◌&&◌, ◌||◌, List, [], map, ◌++◌, Option, Some, refl, sym, ap, subst, ◌∙◌, arith, eq-eqb}
use Rattle.std.specs.List.{list_any, AllByRecursion as Each}
use Rattle.std.proofs.lemmas.Bool.{false≢true, eqb-true}
use Rattle.std.proofs.lemmas.List.Folds.{list_any-append}
use Rattle.std.proofs.lemmas.Nat.{pow_pos}
use Rattle.cap_core.specs.declared.profile.ProfileName.{ProfileName}
use Rattle.cap_core.specs.declared.capability.Badge.{Badge}
use Rattle.cap_core.specs.declared.capability.Cap.{Cap}
use Rattle.cap_core.specs.declared.capability.Cap.TheVariants.{Null, Untyped, Endpoint, CNode, Tcb}
use Rattle.cap_core.specs.Numbers.{endpoint_bits}
use Rattle.cap_core.specs.Rights.{write_bit, read_bit}
use Rattle.kernel_forest.specs.Entries.{cap_at}
use Rattle.kernel_forest.proofs.Trees.Forests.{each-weaker}
use Rattle.kernel_delete.proofs.Members.{both_true, true_left, true_right}
use Rattle.ipc_core.specs.Records.{Instance, SendRecord, ReceiveRecord}
use Rattle.kernel_abstract.specs.declared.call.Call.{Call}
use Rattle.kernel_abstract.specs.declared.call.Reply.{Reply}
use Rattle.kernel_abstract.specs.declared.call.Reply.TheVariants.{Done, Delivered, Waiting, Dropped, Empty, Refused}
use Rattle.kernel_abstract.specs.Shown.{Shown}
use Rattle.kernel_abstract.specs.State.{State, shown}
use Rattle.kernel_abstract.specs.Step.{state_after, replies_of}
use Rattle.kernel_abstract.specs.Reached.{IsReached}
use Rattle.query_parts.specs.declared.listed.PartMemory.{PartMemory}
use Rattle.query_parts.specs.declared.listed.PartUse.{PartUse}
use Rattle.query_parts.specs.Parts.{Parts, IsOwned, IsWithin}
use Rattle.query_parts.specs.Listed.{part_at, parts_listed}
use Rattle.query_parts.specs.Laws.{AreClosed, IsAllowed}
use Rattle.query_parts.specs.Delivered.{WaitsOrIsSentWithin, WaitsOrIsReceivedWithin, TellsOnlyWithin}
use Rattle.query_parts.specs.Ever.{AreConfinedEver}
use Rattle.query_parts.proofs.Delivered.{deliver_within}
use Rattle.query_parts.proofs.Same.{names_its_own}
use Rattle.setup_report.specs.State.{is_in}
use Rattle.setup_report.proofs.Addresses.Rising.{any_rising}
use Rattle.command_never.specs.declared.parts_kept.waits.Wait.{Wait}
use Rattle.command_parts.specs.Text.{is_part, is_use}
use Rattle.command_never.specs.Waits.{waits}
use Rattle.command_never.specs.Never.{has_bytes, is_use_of, is_waiting_sender, is_waiting_receiver, may_send_to, may_receive_on, is_open, endpoints_met, are_open}
use Rattle.command_never.specs.Kept.{HasNoByteIn, IsKeptFrom, TellsKept, AreKept, AreKeptEver}
use Rattle.command_never.proofs.Tests.{neither, none_at, is_in_mapped}
use Rattle.command_never.proofs.Had.{bytes_at, covered_use, may_use, write_kept, read_kept}
use Rattle.command_never.proofs.Waiting.{sender_waits, receiver_waits}

-- ---- the endpoints that are met

module _ (uses : List PartUse) (ws : List Wait) (e : ℕ) where
  met : (is_in e (map (λ (u : PartUse). u.endpoint) uses) || is_in e (map (λ (w : Wait). w.endpoint) ws)) ≡ true → is_in e (endpoints_met uses ws) ≡ true
  met h =
      any_rising (λ a. e == a) (map (λ (u : PartUse). u.endpoint) uses ++ map (λ (w : Wait). w.endpoint) ws)
      ∙ list_any-append (λ a. e == a) (map (λ (u : PartUse). u.endpoint) uses) (map (λ (w : Wait). w.endpoint) ws) ∙ h

  pub used_met : (f : PartUse → Bool) → ((u : PartUse) → f u ≡ true → u.endpoint ≡ e) → list_any f uses ≡ true → is_in e (endpoints_met uses ws) ≡ true
  used_met f at h = met (true_left _ _ (is_in_mapped (λ (u : PartUse). u.endpoint) e f at uses h))

  pub waited_met : (f : Wait → Bool) → ((w : Wait) → f w ≡ true → w.endpoint ≡ e) → list_any f ws ≡ true → is_in e (endpoints_met uses ws) ≡ true
  waited_met f at h = met (true_right _ _ (is_in_mapped (λ (w : Wait). w.endpoint) e f at ws h))

pub use_at : (right i e : ℕ) (u : PartUse) → is_use right i e u ≡ true → u.endpoint ≡ e
use_at right i e u h = eqb-true u.endpoint e (both_true (u.endpoint == e) _ (both_true (u.part == i) _ h).1).0

use_of_at : (i e : ℕ) (u : PartUse) → is_use_of i e u ≡ true → u.endpoint ≡ e
use_of_at i e u h = eqb-true u.endpoint e (both_true (u.part == i) _ h).1

pub sender_at : (memory : List PartMemory) (i e : ℕ) (w : Wait) → is_waiting_sender memory i e w ≡ true → w.endpoint ≡ e
sender_at memory i e w h = eqb-true w.endpoint e (both_true (w.endpoint == e) _ (both_true w.sends _ h).1).0

pub receiver_at : (memory : List PartMemory) (i e : ℕ) (w : Wait) → is_waiting_receiver memory i e w ≡ true → w.endpoint ≡ e
receiver_at memory i e w h = eqb-true w.endpoint e (both_true (w.endpoint == e) _ (both_true (not w.sends) _ h).1).0

pub part_is : (o : Option ℕ) (i : ℕ) → o ≡ Some i → is_part i o ≡ true
part_is o i is = rw is (eq-eqb i i refl)

-- ---- what an endpoint is that is not open

-- it is named, or neither is there
unless_named : (named takes passes : Bool) → (not named && (takes || passes)) ≡ false → (named ≡ true) ⊎ ((takes ≡ false) × (passes ≡ false))
unless_named true takes passes h = inl refl
unless_named false takes passes h = inr (neither takes passes h)

both_are : (b c : Bool) → b ≡ true → c ≡ true → b && c ≡ true
both_are b c h k = rw (h, k) refl

module _ (p : ProfileName) (memory : List PartMemory) (uses : List PartUse) (A : State) (reached : IsReached p A) (by : List ℕ) (i j : ℕ)
    (differ : i ≢ j) (none : list_any (is_open p memory uses (waits p (shown A)) by i j) (endpoints_met uses (waits p (shown A))) ≡ false) where
  abbrev parts : Parts
  parts = parts_listed memory uses

  abbrev ws : List Wait
  ws = waits p (shown A)

  shut : (e : ℕ) → is_in e (endpoints_met uses ws) ≡ true →
      (is_in e by ≡ true) ⊎ (((list_any (is_use_of i e) uses && has_bytes p memory j e) ≡ false) × ((may_send_to p memory uses ws i e && may_receive_on p memory uses ws j e) ≡ false))
  shut e there = unless_named _ _ _ (none_at (is_open p memory uses ws by i j) e (endpoints_met uses ws) none there)

  -- ---- what stands in the slots

  two_parts : (o : Option ℕ) → o ≡ Some i → o ≡ Some j → ⊥
  two_parts o a b = differ (let e : Some i ≡ Some j = sym a ∙ b in cc)

  owned_apart : (cap : Cap) → IsOwned p parts i cap → HasNoByteIn p parts j cap
  owned_apart cap owned address is there = two_parts (part_at memory address) (owned address is.0 is.1) there

  no_bytes : (e : ℕ) (badge : Badge) → list_any (is_use_of i e) uses ≡ true → (list_any (is_use_of i e) uses && has_bytes p memory j e) ≡ false →
      (address : ℕ) → e ≤ address → address < e + 2 ^ endpoint_bits p → part_at memory address ≢ Some j
  no_bytes e badge used shut address low high there =
      false≢true (sym shut ∙ both_are _ _ used (bytes_at p memory uses j e address there low high))

  kept_within : (cap : Cap) → IsWithin p parts i cap → IsKeptFrom p parts by j cap
  kept_within Null within = tt
  kept_within (Untyped base bits free) owned = owned_apart (Untyped base bits free) owned
  kept_within (Endpoint base badge rights) (inl owned) = inr (owned_apart (Endpoint base badge rights) owned)
  kept_within (Endpoint base badge rights) (inr covered) =
      let used = covered_use p memory uses i base badge rights covered in
      elim (shut base (used_met uses ws base (is_use_of i base) (use_of_at i base) used)) [
        | inl named ↦ inl named
        | inr both ↦ inr (λ address is. no_bytes base badge used both.0 address is.0 is.1)
      ]
  kept_within (CNode base radix guard) owned = owned_apart (CNode base radix guard) owned
  kept_within (Tcb base) owned = owned_apart (Tcb base) owned

  -- ---- what is delivered

  -- the part has a byte of the endpoint, or the endpoint is met
  record Sends (e : ℕ) : Type 0 where
    may : may_send_to p memory uses ws i e ≡ true
    place : (part_at memory e ≡ Some i) ⊎ (is_in e (endpoints_met uses ws) ≡ true)

  record Receives (e : ℕ) : Type 0 where
    may : may_receive_on p memory uses ws j e ≡ true
    place : (part_at memory e ≡ Some j) ⊎ (is_in e (endpoints_met uses ws) ≡ true)

  first_byte : (k e : ℕ) → part_at memory e ≡ Some k → has_bytes p memory k e ≡ true
  first_byte k e at = bytes_at p memory uses k e e at (omega arith) (omega (arith, pow_pos (endpoint_bits p)))

  sends_used : (e : ℕ) → (part_at memory e ≡ Some i) ⊎ (list_any (is_use write_bit i e) uses ≡ true) → Sends e
  sends_used e (inl at) = record { may = true_left _ _ (first_byte i e at); place = inl at }
  sends_used e (inr held) = record {
    may = true_right _ _ (true_left _ _ held);
    place = inr (used_met uses ws e (is_use write_bit i e) (use_at write_bit i e) held);
  }

  receives_used : (e : ℕ) → (part_at memory e ≡ Some j) ⊎ (list_any (is_use read_bit j e) uses ≡ true) → Receives e
  receives_used e (inl at) = record { may = true_left _ _ (first_byte j e at); place = inl at }
  receives_used e (inr held) = record {
    may = true_right _ _ (true_left _ _ held);
    place = inr (used_met uses ws e (is_use read_bit j e) (use_at read_bit j e) held);
  }

  sent : (s : SendRecord) → WaitsOrIsSentWithin p parts A s → part_at memory s.thread.base ≡ Some i → Sends s.endpoint.base
  sent s (inl there) at =
      let e = s.endpoint.base in
      let waiting = sender_waits p A reached (is_waiting_sender memory i e) s there (rw (eq-eqb e e refl, part_is (part_at memory s.thread.base) i at) refl) in
      record {
        may = true_right _ _ (true_right _ _ waiting);
        place = inr (waited_met uses ws e (is_waiting_sender memory i e) (sender_at memory i e) waiting);
      }
  sent s (inr within) at =
      sends_used s.endpoint.base (may_use p memory uses i write_bit s.endpoint.base s.badge write_kept (within i at))

  received : (a : ReceiveRecord) → WaitsOrIsReceivedWithin p parts A a → part_at memory a.thread.base ≡ Some j → Receives a.endpoint.base
  received a (inl there) at =
      let e = a.endpoint.base in
      let waiting = receiver_waits p A reached (is_waiting_receiver memory j e) a there (rw (eq-eqb e e refl, part_is (part_at memory a.thread.base) j at) refl) in
      record {
        may = true_right _ _ (true_right _ _ waiting);
        place = inr (waited_met uses ws e (is_waiting_receiver memory j e) (receiver_at memory j e) waiting);
      }
  received a (inr within) at =
      let may = within j at in
      receives_used a.endpoint.base (may_use p memory uses j read_bit a.endpoint.base may.0 read_kept may.1)

  named_there : (e : ℕ) → Sends e → Receives e → is_in e (endpoints_met uses ws) ≡ true → is_in e by ≡ true
  named_there e s r there = elim (shut e there) [
    | inl named ↦ named
    | inr both ↦ absurd (false≢true (sym both.1 ∙ both_are _ _ s.may r.may))
  ]

  named_both : (e : ℕ) → Sends e → Receives e → is_in e by ≡ true
  named_both e s r = by_place s.place r.place
    where
      by_place : (part_at memory e ≡ Some i) ⊎ (is_in e (endpoints_met uses ws) ≡ true) → (part_at memory e ≡ Some j) ⊎ (is_in e (endpoints_met uses ws) ≡ true) → is_in e by ≡ true
      by_place (inr there) at = named_there e s r there
      by_place (inl here) (inr there) = named_there e s r there
      by_place (inl here) (inl there) = absurd (two_parts (part_at memory e) here there)

  tells_kept : (reply : Reply) → TellsOnlyWithin p parts A reply → TellsKept parts by i j reply
  tells_kept Done told = tt
  tells_kept Waiting told = tt
  tells_kept Dropped told = tt
  tells_kept Empty told = tt
  tells_kept (Refused refusal) told = tt
  tells_kept (Delivered endpoint from to badge message) told =
      subst (TellsKept parts by i j) (sym told.told)
      (λ own other. named_both told.send.endpoint.base (sent told.send told.sent own)
      (subst Receives (ap (λ (x : Instance). x.base) told.same_endpoint) (received told.receive told.received other)))

-- ---- the law

module _ (p : ProfileName) (memory : List PartMemory) (uses : List PartUse) (by : List ℕ) (i j : ℕ) where
  pub now_closed : (v : Shown) → AreConfinedEver p memory uses v → (A : State) → IsReached p A → v ≡ shown A → AreClosed p (parts_listed memory uses) A
  unfolding state_after
  now_closed v confined A reached is = (confined A reached is [] tt).closed

  kept_from : (A : State) → IsReached p A → are_open p memory uses (waits p (shown A)) by i j ≡ false → AreClosed p (parts_listed memory uses) A →
      (calls : List Call) → Each (IsAllowed (parts_listed memory uses)) calls → AreClosed p (parts_listed memory uses) (state_after p A calls) →
      AreKept p (parts_listed memory uses) by i j A calls
  kept_from A reached shut closed calls of after =
      let both = neither (i == j) _ shut in
      let differ : i ≢ j = λ same. false≢true (sym both.0 ∙ eq-eqb i j same) in
      record {
        slots = λ slot own. kept_within p memory uses A reached by i j differ both.1 (cap_at (state_after p A calls).derivations slot) (after i slot own);
        names = λ thread slot own named.
            kept_within p memory uses A reached by i j differ both.1 (cap_at (state_after p A calls).derivations slot)
            (after i slot (names_its_own p (parts_listed memory uses) i (state_after p A calls).derivations thread (after i) own slot named));
        deliveries = each-weaker (TellsOnlyWithin p (parts_listed memory uses) A) (TellsKept (parts_listed memory uses) by i j)
            (tells_kept p memory uses A reached by i j differ both.1) (replies_of p A calls)
            (deliver_within p (parts_listed memory uses) A calls reached closed of);
      }

  pub kept_ever : (v : Shown) → AreConfinedEver p memory uses v → are_open p memory uses (waits p v) by i j ≡ false → AreKeptEver p memory uses v by i j
  kept_ever v confined shut A reached is calls of =
      kept_from A reached (subst (λ (w : Shown). are_open p memory uses (waits p w) by i j ≡ false) is shut) (now_closed v confined A reached is)
      calls of (confined A reached is calls of).closed

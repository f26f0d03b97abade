-- What is delivered between two parts a way lets pass, where ways let pass all that the one may send and the other receive.
use Rattle.std.proofs.Common.{◌≡◌, ◌≢◌, ℕ, ◌⊎◌, inl, inr, Bool, true, false, not, ◌==◌, ◌&&◌, ◌||◌, List, [], ◌∷◌, Option, Some, refl, sym, ap, subst, ◌∙◌, arith, eq-eqb}
use Rattle.std.specs.Prelude.{⊤}
use Rattle.std.specs.List.{list_any, list_all, Contains, AllByRecursion as Each}
use Rattle.std.proofs.lemmas.Bool.{false≢true, eqb-true}
use Rattle.std.proofs.lemmas.Nat.{pow_pos}
use Rattle.std.proofs.lemmas.List.Elements.{All-contains}
use Rattle.std.proofs.lemmas.List.Sums.{AllPass-from_list_all}
use Rattle.cap_core.specs.declared.profile.ProfileName.{ProfileName}
use Rattle.cap_core.specs.declared.capability.Badge.{Badge}
use Rattle.cap_core.specs.declared.message.Message.{Message}
use Rattle.cap_core.specs.Numbers.{endpoint_bits}
use Rattle.cap_core.specs.Rights.{write_bit, read_bit}
use Rattle.kernel_delete.proofs.Members.{both_true, either_true, true_left, true_right}
use Rattle.ipc_core.specs.Records.{Instance, SendRecord, ReceiveRecord}
use Rattle.ipc_core.specs.declared.waiter.Waiter.TheVariants.{Sender}
use Rattle.kernel_abstract.specs.declared.call.Reply.{Reply}
use Rattle.kernel_abstract.specs.declared.call.Reply.TheVariants.{Done, Delivered, Waiting, Dropped, Empty, Refused}
use Rattle.kernel_abstract.specs.Shown.{Shown, waiting_at}
use Rattle.kernel_abstract.specs.State.{State, shown}
use Rattle.kernel_abstract.specs.Step.{replies_of}
use Rattle.kernel_abstract.specs.Reached.{IsReached}
use Rattle.query_parts.specs.declared.listed.PartMemory.{PartMemory}
use Rattle.query_parts.specs.declared.listed.PartUse.{PartUse}
use Rattle.query_parts.specs.Parts.{Parts, Use, Covers}
use Rattle.query_parts.specs.Listed.{part_at, parts_listed}
use Rattle.query_parts.specs.Laws.{MayUse}
use Rattle.query_parts.specs.Delivered.{WaitsOrIsSentWithin, WaitsOrIsReceivedWithin, TellsOnlyWithin, TellsOnlyOfThose, WaitsOrMaySend}
use Rattle.query_parts.specs.Ever.{AreConfinedEver}
use Rattle.query_parts.proofs.Delivered.{deliver_within, tell_within}
use Rattle.kernel_abstract.specs.Decode.{has_right}
use Rattle.setup_report.specs.State.{is_in}
use Rattle.command_parts.specs.declared.ways.Way.{Way}
use Rattle.command_parts.specs.Text.{is_part, is_use}
use Rattle.command_never.specs.declared.parts_kept.waits.Wait.{Wait}
use Rattle.command_never.specs.Waits.{waits}
use Rattle.command_never.specs.Never.{has_bytes, is_waiting_sender, is_waiting_receiver, may_receive_on, endpoints_met}
use Rattle.command_policy_laws.specs.Held.{is_way, lets, use_let, waiter_let, are_sends_let, is_passage_let, are_passages_let, TellsLet, AreWaysHeldEver}
use Rattle.command_never.proofs.Had.{bytes_at, used, may_use, write_kept, read_kept}
use Rattle.command_never.proofs.Waiting.{sender_waits, receiver_waits}
use Rattle.command_never.proofs.Kept.{used_met, waited_met, use_at, sender_at, receiver_at, part_is, now_closed}

-- ---- lists

-- an element that passes one test passes the other that all pass
found : {X C : Type 0} (f g : X → Bool) → ((x : X) → f x ≡ true → g x ≡ true → C) → (xs : List X) → list_any f xs ≡ true → list_all g xs ≡ true → C
found f g gives [] any all = absurd (false≢true any)
found f g gives (x ∷ xs) any all =
    let both = both_true (g x) (list_all g xs) all in
    elim (either_true (f x) (list_any f xs) any) [
      | inl here ↦ gives x here both.0
      | inr rest ↦ found f g gives xs rest both.1
    ]

pub weaker : {X : Type 0} (f g : X → Bool) → ((x : X) → f x ≡ true → g x ≡ true) → (xs : List X) → list_any f xs ≡ true → list_any g xs ≡ true
weaker f g goes [] any = any
weaker f g goes (x ∷ xs) any = elim (either_true (f x) (list_any f xs) any) [
  | inl here ↦ true_left (g x) (list_any g xs) (goes x here)
  | inr rest ↦ true_right (g x) (list_any g xs) (weaker f g goes xs rest)
]

in_all : (e : ℕ) (f : ℕ → Bool) (xs : List ℕ) → is_in e xs ≡ true → list_all f xs ≡ true → f e ≡ true
in_all e f xs there all = found (λ x. e == x) f (λ x same passes. ap f (eqb-true e x same) ∙ passes) xs there all

contained : {X : Type 0} (f : X → Bool) (xs : List X) (x : X) → list_all f xs ≡ true → Contains xs x → f x ≡ true
contained f xs x all there = All-contains (λ y. f y ≡ true) xs x (AllPass-from_list_all f xs all) there

given_not : (b c : Bool) → b ≡ true → (not b || c) ≡ true → c ≡ true
given_not true c is h = h
given_not false c is h = absurd (false≢true is)

-- ---- a way for any badge lets each pass

any_badge : (ways : List Way) (i e badge j : ℕ) → lets ways i e 0 j ≡ true → lets ways i e badge j ≡ true
any_badge ways i e badge j h = weaker (is_way i e 0 j) (is_way i e badge j) goes ways h
  where
    goes : (w : Way) → is_way i e 0 j w ≡ true → is_way i e badge j w ≡ true
    goes w is =
        let one = both_true (w.from == i) _ is in
        let two = both_true (w.endpoint == e) _ one.1 in
        let three = both_true (w.to == j) _ two.1 in
        let zero : w.badge == 0 ≡ true = elim (either_true (w.badge == 0) (w.badge == 0) three.1) [ inl a ↦ a | inr a ↦ a ] in
        rw (one.0, two.0, three.0, zero) refl

module _ (p : ProfileName) (memory : List PartMemory) (uses : List PartUse) (ways : List Way) (A : State) (reached : IsReached p A) (i j : ℕ)
    (differ : i ≢ j) (all : are_passages_let p memory uses (shown A) ways i j ≡ true) where
  abbrev parts : Parts
  parts = parts_listed memory uses

  abbrev ws : List Wait
  ws = waits p (shown A)

  abbrev IsMet : ℕ → Type 0
  IsMet e = is_in e (endpoints_met uses ws) ≡ true

  first_byte : (k e : ℕ) → part_at memory e ≡ Some k → has_bytes p memory k e ≡ true
  first_byte k e at = bytes_at p memory uses k e e at (omega arith) (omega (arith, pow_pos (endpoint_bits p)))

  -- ---- what is sent

  -- by a use, or by memory
  may_be_let : (e : ℕ) (badge : Badge) → MayUse p parts write_bit i e badge → are_sends_let p memory uses (shown A) ways i j e ≡ true →
      lets ways i e badge.0 j ≡ true
  may_be_let e badge (rights, (inl owned, has)) h =
      any_badge ways i e badge.0 j (given_not (has_bytes p memory i e) _ (first_byte i e (owned e (omega arith) (omega (arith, pow_pos (endpoint_bits p))))) (both_true _ _ h).0)
  may_be_let e badge (rights, (inr covered, has)) h =
      let c : Covers covered.0 e badge rights = covered.1.1 in
      let all_uses = (both_true _ _ (both_true _ _ h).1).0 in
      elim c.badge_fits [
        | inl same ↦ found (λ (x : PartUse). x.part == i && (x.endpoint == e && (has_right write_bit x.rights && x.badge.0 == badge.0))) (use_let ways i e j)
            (λ (x : PartUse) is passes.
            let one = both_true (x.part == i) _ is in
            let two = both_true (x.endpoint == e) _ one.1 in
            let three = both_true (has_right write_bit x.rights) _ two.1 in
            let sends : is_use write_bit i e x ≡ true = rw (one.0, two.0, three.0) refl in
            subst (λ n. lets ways i e n j ≡ true) (eqb-true x.badge.0 badge.0 three.1) (given_not (is_use write_bit i e x) _ sends passes))
            uses
            (used uses i (λ (u : Use). u.endpoint == e && (has_right write_bit u.rights && u.badge.0 == badge.0)) covered.0 covered.1.0
            (rw (eq-eqb covered.0.endpoint e c.endpoint_is, write_kept rights covered.0.rights c.rights_fit has, eq-eqb covered.0.badge.0 badge.0 same) refl))
            all_uses
        | inr zero ↦ any_badge ways i e badge.0 j (found (λ (x : PartUse). x.part == i && (x.endpoint == e && (has_right write_bit x.rights && x.badge.0 == 0))) (use_let ways i e j)
            (λ (x : PartUse) is passes.
            let one = both_true (x.part == i) _ is in
            let two = both_true (x.endpoint == e) _ one.1 in
            let three = both_true (has_right write_bit x.rights) _ two.1 in
            let sends : is_use write_bit i e x ≡ true = rw (one.0, two.0, three.0) refl in
            subst (λ n. lets ways i e n j ≡ true) (eqb-true x.badge.0 0 three.1) (given_not (is_use write_bit i e x) _ sends passes))
            uses
            (used uses i (λ (u : Use). u.endpoint == e && (has_right write_bit u.rights && u.badge.0 == 0)) covered.0 covered.1.0
            (rw (eq-eqb covered.0.endpoint e c.endpoint_is, write_kept rights covered.0.rights c.rights_fit has, eq-eqb covered.0.badge.0 0 zero) refl))
            all_uses)
      ]

  -- by a thread that waits
  waits_let : (e from : ℕ) (badge : Badge) (message : Message) → part_at memory from ≡ Some i → Contains (waiting_at (shown A) e) (Sender from badge message) →
      are_sends_let p memory uses (shown A) ways i j e ≡ true → lets ways i e badge.0 j ≡ true
  waits_let e from badge message at there h =
      let passes = contained (waiter_let ways memory i e j) (waiting_at (shown A) e) (Sender from badge message) (both_true _ _ (both_true _ _ h).1).1 there in
      given_not (is_part i (part_at memory from)) _ (part_is (part_at memory from) i at) passes

  sent_let : (e from : ℕ) (badge : Badge) (message : Message) → part_at memory from ≡ Some i → WaitsOrMaySend p parts (shown A) e from badge message →
      are_sends_let p memory uses (shown A) ways i j e ≡ true → lets ways i e badge.0 j ≡ true
  sent_let e from badge message at (inl there) h = waits_let e from badge message at there h
  sent_let e from badge message at (inr may) h = may_be_let e badge (may i at) h

  -- ---- where the endpoint is met

  abbrev Place : ℕ → ℕ → Type 0
  Place k e = (part_at memory e ≡ Some k) ⊎ IsMet e

  sent_at : (s : SendRecord) → WaitsOrIsSentWithin p parts A s → part_at memory s.thread.base ≡ Some i → Place i s.endpoint.base
  sent_at s (inl there) at =
      let e = s.endpoint.base in
      inr (waited_met uses ws e (is_waiting_sender memory i e) (sender_at memory i e)
      (sender_waits p A reached (is_waiting_sender memory i e) s there (rw (eq-eqb e e refl, part_is (part_at memory s.thread.base) i at) refl)))
  sent_at s (inr may) at =
      let e = s.endpoint.base in
      elim (may_use p memory uses i write_bit e s.badge write_kept (may i at)) [
        | inl here ↦ inl here
        | inr held ↦ inr (used_met uses ws e (is_use write_bit i e) (use_at write_bit i e) held)
      ]

  record Receives (e : ℕ) : Type 0 where
    may : may_receive_on p memory uses ws j e ≡ true
    place : Place j e

  received : (a : ReceiveRecord) → WaitsOrIsReceivedWithin p parts A a → part_at memory a.thread.base ≡ Some j → Receives a.endpoint.base
  received a (inl there) at =
      let e = a.endpoint.base in
      let waiting = receiver_waits p A reached (is_waiting_receiver memory j e) a there (rw (eq-eqb e e refl, part_is (part_at memory a.thread.base) j at) refl) in
      record {
        may = true_right _ _ (true_right _ _ waiting);
        place = inr (waited_met uses ws e (is_waiting_receiver memory j e) (receiver_at memory j e) waiting);
      }
  received a (inr may) at =
      let e = a.endpoint.base in
      let own = may j at in
      elim (may_use p memory uses j read_bit e own.0 read_kept own.1) [
        | inl here ↦ record { may = true_left _ _ (first_byte j e here); place = inl here }
        | inr held ↦ record {
          may = true_right _ _ (true_left _ _ held);
          place = inr (used_met uses ws e (is_use read_bit j e) (use_at read_bit j e) held);
        }
      ]

  two_parts : (o : Option ℕ) → o ≡ Some i → o ≡ Some j → ⊥
  two_parts o a b = differ (let e : Some i ≡ Some j = sym a ∙ b in cc)

  sends_there : (e : ℕ) → Place i e → Receives e → are_sends_let p memory uses (shown A) ways i j e ≡ true
  sends_there e place r = given_not (may_receive_on p memory uses ws j e) _ r.may (in_all e (is_passage_let p memory uses (shown A) ways i j) (endpoints_met uses ws) (both place r.place) all)
    where
      both : Place i e → Place j e → IsMet e
      both (inr there) at = there
      both (inl here) (inr there) = there
      both (inl here) (inl there) = absurd (two_parts (part_at memory e) here there)

  -- ---- a reply

  record Both (reply : Reply) : Type 0 where
    within : TellsOnlyWithin p parts A reply
    those : TellsOnlyOfThose p parts (shown A) reply

  abbrev IsThere : Reply → Type 0
  IsThere (Delivered e from to badge message) = part_at memory from ≡ Some i → part_at memory to ≡ Some j → are_sends_let p memory uses (shown A) ways i j e ≡ true
  IsThere reply = ⊤

  passes_there : (e from to : ℕ) (badge : Badge) (message : Message) → TellsOnlyWithin p parts A (Delivered e from to badge message) →
      part_at memory from ≡ Some i → part_at memory to ≡ Some j → are_sends_let p memory uses (shown A) ways i j e ≡ true
  passes_there e from to badge message told =
      subst IsThere (sym told.told)
      (λ own other. sends_there told.send.endpoint.base (sent_at told.send told.sent own)
      (subst Receives (ap (λ (x : Instance). x.base) told.same_endpoint) (received told.receive told.received other)))

  tells_let : (reply : Reply) → Both reply → TellsLet parts ways i j reply
  tells_let Done told = tt
  tells_let Waiting told = tt
  tells_let Dropped told = tt
  tells_let Empty told = tt
  tells_let (Refused refusal) told = tt
  tells_let (Delivered e from to badge message) told =
      λ own other. sent_let e from badge message own told.those.0 (passes_there e from to badge message told.within own other)

  each_both : (rs : List Reply) → Each (TellsOnlyWithin p parts A) rs → Each (TellsOnlyOfThose p parts (shown A)) rs → Each (TellsLet parts ways i j) rs
  each_both [] a b = tt
  each_both (r ∷ rs) a b = (tells_let r (record { within = a.0; those = b.0 }), each_both rs a.1 b.1)

-- ---- the law

module _ (p : ProfileName) (memory : List PartMemory) (uses : List PartUse) (ways : List Way) (i j : ℕ) where
  pub ways_held_ever : (v : Shown) → AreConfinedEver p memory uses v → (i == j) ≡ false → are_passages_let p memory uses v ways i j ≡ true →
      AreWaysHeldEver p memory uses v ways i j
  ways_held_ever v confined apart all A reached is calls of =
      let closed = now_closed p memory uses [] i j v confined A reached is in
      each_both p memory uses ways A reached i j (λ same. false≢true (sym apart ∙ eq-eqb i j same))
      (subst (λ (w : Shown). are_passages_let p memory uses w ways i j ≡ true) is all)
      (replies_of p A calls)
      (deliver_within p (parts_listed memory uses) A calls reached closed of)
      (tell_within p (parts_listed memory uses) A calls reached closed of)

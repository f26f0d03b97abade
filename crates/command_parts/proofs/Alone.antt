-- A part that is told to only pass messages does, by the law of such parts.
use Rattle.std.proofs.Common.{◌≡◌, ℕ, ◌+◌, ◌*◌, ◌-◌, ◌/◌, ◌^◌, ◌<◌, ◌≤◌, Bool, true, false, not, cond, ◌==◌, ◌&&◌, nat_le, nat_lt, List, [], ◌∷◌, ◌++◌, map, Option, Some, None, is_some, refl, sym, ap, subst, ◌∙◌, inl, inr, ◌⊎◌, arith}
use Rattle.std.specs.List.{list_any, flat_map, AllByRecursion as Each}
use Rattle.std.proofs.lemmas.Bool.{false≢true, eqb-true}
use Rattle.std.proofs.lemmas.Bool.Decides.{nat_tests}
use Rattle.std.proofs.lemmas.Nat.{div-mul-add}
use Rattle.cap_core.specs.declared.profile.ProfileName.{ProfileName}
use Rattle.cap_core.specs.declared.profile.ProfileName.TheVariants.{Wide, Narrow}
use Rattle.cap_core.specs.declared.capability.Badge.{Badge}
use Rattle.cap_core.specs.declared.capability.Cap.{Cap}
use Rattle.cap_core.specs.declared.capability.Cap.TheVariants.{Null, Untyped, Endpoint, CNode, Tcb}
use Rattle.cap_core.specs.declared.rights.Rights.{Rights}
use Rattle.cap_core.specs.Numbers.{slot_bits}
use Rattle.cap_core.specs.Rights.{write_bit}
use Rattle.cspace_core.specs.Inside.{IsSlotOf}
use Rattle.cspace_core.specs.Resolution.{slot_of}
use Rattle.ipc_core.specs.Records.{SendRecord}
use Rattle.kernel_forest.specs.Forest.{Forest, preorder}
use Rattle.kernel_forest.specs.Entries.{Entry, cap_in, cap_at, derivations_of}
use Rattle.kernel_delete.specs.Members.{In}
use Rattle.kernel_delete.proofs.Members.{any_in, eqb_self, in_left, in_right}
use Rattle.kernel_abstract.specs.declared.call.Call.{Call}
use Rattle.kernel_abstract.specs.Decode.{has_right}
use Rattle.kernel_abstract.specs.Shown.{Shown}
use Rattle.kernel_abstract.specs.State.{State, shown}
use Rattle.kernel_abstract.specs.Step.{state_after}
use Rattle.kernel_abstract.specs.Reached.{IsReached}
use Rattle.query_parts.specs.declared.listed.PartMemory.{PartMemory}
use Rattle.query_parts.specs.declared.listed.PartUse.{PartUse}
use Rattle.query_parts.specs.Listed.{part_at, parts_listed}
use Rattle.query_parts.specs.Laws.{AreClosed, IsAllowed}
use Rattle.query_parts.specs.Ever.{AreConfinedEver}
use Rattle.query_parts.specs.Passing.{IsForMessages, PassesAlone, AtMostLoses, IsSentByHeld}
use Rattle.query_parts.proofs.Bounded.{entries_told}
use Rattle.query_parts.proofs.Closed.{shown_derivations}
use Rattle.query_parts.proofs.Passing.{gets_nothing, sends_by_held}
use Rattle.setup_report.specs.State.{is_slot_of}
use Rattle.command_parts.specs.declared.takes.PartSlot.{PartSlot}
use Rattle.command_parts.specs.Takes.{part_slot, part_slots, is_part}
use Rattle.command_parts.specs.Messages.{is_for_messages, holds_more, gives_more, leads_to_more, passes_alone, use_by_cap, use_by_slot, uses_held}
use Rattle.command_parts.specs.Alone.{KeepsWhatItHas, SendsByTold, sends_with, IsSentByTold}
use Rattle.command_parts.proofs.Held.{risen}

-- ---- what a slot holds is that of an entry, or none

abbrev Held : ℕ → List Entry → Type 0
Held n l = (e : Entry) × (In e l × ((e.slot ≡ n) × (e.cap ≡ cap_in n l)))

found_at : (n : ℕ) (l : List Entry) → (cap_in n l ≡ Null) ⊎ Held n l
found_at n [] = inl refl
found_at n (e ∷ l) = by (e.slot == n) refl (found_at n l)
  where
    by : (b : Bool) → (e.slot == n) ≡ b → (cap_in n l ≡ Null) ⊎ Held n l →
        (cond b e.cap (cap_in n l) ≡ Null) ⊎ ((x : Entry) × (In x (e ∷ l) × ((x.slot ≡ n) × (x.cap ≡ cond b e.cap (cap_in n l)))))
    by true is rest = inr (e, (inl refl, (eqb-true e.slot n is, refl)))
    by false is (inl none) = inl none
    by false is (inr found) = inr (found.0, (inr found.1.0, found.1.1))

in_mapped : {A B : Type 0} (g : A → B) (l : List A) (a : A) → In a l → In (g a) (map g l)
in_mapped g [] a m = absurd m
in_mapped g (x ∷ l) a (inl same) = inl (ap g same)
in_mapped g (x ∷ l) a (inr m) = inr (in_mapped g l a m)

mapped_from : {A B : Type 0} (g : A → B) (l : List A) (b : B) → In b (map g l) → (a : A) × (In a l × (b ≡ g a))
mapped_from g [] b m = absurd m
mapped_from g (x ∷ l) b (inl same) = (x, (inl refl, same))
mapped_from g (x ∷ l) b (inr m) = let found = mapped_from g l b m in (found.0, (inr found.1.0, found.1.1))

in_flat : {A B : Type 0} (g : A → List B) (l : List A) (a : A) (b : B) → In a l → In b (g a) → In b (flat_map g l)
in_flat g [] a b m n = absurd m
in_flat {A} {B} g (x ∷ l) a b (inl same) n = in_left b (g x) (flat_map g l) (subst (λ (y : A). In b (g y)) same n)
in_flat g (x ∷ l) a b (inr m) n = in_right b (g x) (flat_map g l) (in_flat g l a b m n)

abbrev as_held : ℕ → ℕ → Badge → Rights → PartUse
as_held i base badge rights = record { part = i; endpoint = base; badge = badge; rights = rights }

-- ---- slots of CNodes

positive : (p : ProfileName) → 0 < 2 ^ slot_bits p
positive Wide = omega arith
positive Narrow = omega arith

slot_there : (p : ProfileName) (base radix i slot : ℕ) → i < 2 ^ radix → slot ≡ slot_of p base i → is_slot_of p base radix slot ≡ true
slot_there p base radix i slot low is =
    ap (is_slot_of p base radix) is ∙ by (2 ^ slot_bits p) (positive p)
  where
    by : (size : ℕ) → 0 < size → (nat_le base (base + i * size) && nat_lt ((base + i * size - base) / size) (2 ^ radix)) ≡ true
    by size some =
        let up : base ≤ base + i * size = omega arith in
        let far : base + i * size - base ≡ i * size + 0 = omega arith in
        let place : (base + i * size - base) / size ≡ i = ap (λ n. n / size) far ∙ div-mul-add i size 0 some in
        let below : (base + i * size - base) / size < 2 ^ radix = subst (λ n. n < 2 ^ radix) (sym place) low in
        grind (arith, nat_tests)

messages_true : (c : Cap) → is_for_messages c ≡ true → IsForMessages c
messages_true Null h = tt
messages_true (Untyped base bits free) h = absurd (false≢true h)
messages_true (Endpoint base badge rights) h = tt
messages_true (CNode base radix guard) h = absurd (false≢true h)
messages_true (Tcb base) h = absurd (false≢true h)

gives : (p : ProfileName) (c : Cap) (slots : List PartSlot) (s : PartSlot) → IsSlotOf p c s.slot → In s slots → is_for_messages s.cap ≡ false → gives_more p slots c ≡ true
gives p Null slots s of m h = absurd of
gives p (Untyped base bits free) slots s of m h = absurd of
gives p (Endpoint base badge rights) slots s of m h = absurd of
gives p (Tcb base) slots s of m h = absurd of
gives p (CNode base radix guard) slots s of m h =
    any_in (holds_more p (CNode base radix guard)) slots s m
    (ap (λ b. is_some (cond b (Some base) None) && not (is_for_messages s.cap)) (slot_there p base radix of.0 s.slot of.1.0 of.1.1) ∙ ap not h)

module _ (p : ProfileName) (memory : List PartMemory) (f : Forest Entry) (i : ℕ) where
  abbrev Listed : Entry → Type 0
  Listed e = (s : PartSlot) × (In s (part_slots memory f) × ((s.slot ≡ e.slot) × ((s.cap ≡ e.cap) × (s.part ≡ part_at memory e.slot))))

  slot_listed : (e : Entry) → In e (preorder f) → Listed e
  slot_listed e m =
      let d = mapped_from (λ (x : Entry × Option ℕ). x.0) (derivations_of f) e (subst (λ (l : List Entry). In e l) (sym (entries_told f)) m) in (
        part_slot memory d.0,
        (
          in_mapped (part_slot memory) (derivations_of f) d.0 d.1.0,
          (ap (λ (x : Entry). x.slot) (sym d.1.1), (ap (λ (x : Entry). x.cap) (sym d.1.1), ap (λ (x : Entry). part_at memory x.slot) (sym d.1.1))),
        ),
      )

  is_mine : (s : PartSlot) (n : ℕ) → s.part ≡ part_at memory n → part_at memory n ≡ Some i → is_part i s.part ≡ true
  is_mine s n is at = ap (is_part i) (is ∙ at) ∙ eqb_self i

  pub alone : passes_alone p (part_slots memory f) i ≡ true → (holder slot : ℕ) → part_at memory holder ≡ Some i → IsSlotOf p (cap_at f holder) slot → IsForMessages (cap_at f slot)
  alone h holder slot at of = by (found_at slot (preorder f))
    where
      leads : (e : Entry) → Listed e → e.slot ≡ slot → is_for_messages e.cap ≡ false → (cap_at f holder ≡ Null) ⊎ Held holder (preorder f) → ⊥
      leads e s is other (inl none) = subst (λ (c : Cap). IsSlotOf p c slot) none of
      leads e s is other (inr found) =
          let k = slot_listed found.0 found.1.0 in
          let mine : is_part i k.0.part ≡ true = is_mine k.0 holder (k.1.1.1.1 ∙ ap (part_at memory) found.1.1.0) at in
          let of_slot : IsSlotOf p k.0.cap s.0.slot =
          subst (λ (c : Cap). IsSlotOf p c s.0.slot) (sym (k.1.1.1.0 ∙ found.1.1.1)) (subst (λ n. IsSlotOf p (cap_at f holder) n) (sym (s.1.1.0 ∙ is)) of) in
          let more : gives_more p (part_slots memory f) k.0.cap ≡ true = gives p k.0.cap (part_slots memory f) s.0 of_slot s.1.0 (ap is_for_messages s.1.1.1.0 ∙ other) in
          let leads_so : leads_to_more p (part_slots memory f) i k.0 ≡ true = ap (λ b. b && gives_more p (part_slots memory f) k.0.cap) mine ∙ more in
          false≢true (ap not (sym (any_in (leads_to_more p (part_slots memory f) i) (part_slots memory f) k.0 k.1.0 leads_so)) ∙ h)

      told : (e : Entry) → In e (preorder f) → e.slot ≡ slot → (b : Bool) → is_for_messages e.cap ≡ b → IsForMessages e.cap
      told e m is true so = messages_true e.cap so
      told e m is false so = absurd (leads e (slot_listed e m) is so (found_at holder (preorder f)))

      by : (cap_at f slot ≡ Null) ⊎ Held slot (preorder f) → IsForMessages (cap_at f slot)
      by (inl none) = subst (λ (c : Cap). IsForMessages c) (sym none) tt
      by (inr e) = subst (λ (c : Cap). IsForMessages c) e.1.1.1 (told e.0 e.1.0 e.1.1.0 (is_for_messages e.0.cap) refl)

  -- what a slot of the part holds is told
  pub told_use : (slot base : ℕ) (badge : Badge) (rights : Rights) → part_at memory slot ≡ Some i → cap_at f slot ≡ Endpoint base badge rights →
      has_right write_bit rights ≡ true → list_any (sends_with base badge) (uses_held (part_slots memory f) i) ≡ true
  told_use slot base badge rights at held right = by (found_at slot (preorder f))
    where
      passes : sends_with base badge (as_held i base badge rights) ≡ true
      passes = ap (λ b. b && (badge.0 == badge.0 && has_right write_bit rights)) (eqb_self base) ∙ ap (λ b. b && has_right write_bit rights) (eqb_self badge.0) ∙ right

      given : (s : PartSlot) → s.cap ≡ Endpoint base badge rights → is_part i s.part ≡ true → In (as_held i base badge rights) (use_by_slot i s)
      given s is mine =
          subst (λ b. In (as_held i base badge rights) (cond b (use_by_cap i s.cap) [])) (sym mine) (subst (λ (c : Cap). In (as_held i base badge rights) (use_by_cap i c)) (sym is) (inl refl))

      by : (cap_at f slot ≡ Null) ⊎ Held slot (preorder f) → list_any (sends_with base badge) (uses_held (part_slots memory f) i) ≡ true
      by (inl none) = absurd (let e : Null ≡ Endpoint base badge rights = sym none ∙ held in cc)
      by (inr e) =
          let s = slot_listed e.0 e.1.0 in
          risen (sends_with base badge) [] (flat_map (use_by_slot i) (part_slots memory f)) (as_held i base badge rights)
          (in_flat (use_by_slot i) (part_slots memory f) s.0 (as_held i base badge rights) s.1.0
          (given s.0 (s.1.1.1.0 ∙ e.1.1.1 ∙ held) (is_mine s.0 slot (s.1.1.1.1 ∙ ap (part_at memory) e.1.1.0) at)))
          passes

module _ (p : ProfileName) (memory : List PartMemory) (uses : List PartUse) (v : Shown) (i : ℕ)
    (ever : AreConfinedEver p memory uses v) (told : passes_alone p (part_slots memory v.derivations) i ≡ true)
    (A : State) (reached : IsReached p A) (is : v ≡ shown A) (calls : List Call) (allowed : Each (IsAllowed (parts_listed memory uses)) calls) where
  same : v.derivations ≡ A.derivations
  same = ap (λ (w : Shown). w.derivations) is ∙ shown_derivations A

  closed : AreClosed p (parts_listed memory uses) A
  unfolding state_after
  closed = (ever A reached is [] tt).closed

  passes : PassesAlone p (parts_listed memory uses) i A.derivations
  passes = alone p memory A.derivations i (ap (λ (f : Forest Entry). passes_alone p (part_slots memory f) i) (sym same) ∙ told)

  each_sent : (more : List SendRecord) → Each (IsSentByHeld (parts_listed memory uses) i A) more → Each (IsSentByTold memory i (uses_held (part_slots memory v.derivations) i)) more
  each_sent [] h = tt
  each_sent (s ∷ more) h = (sent h.0, each_sent more h.1)
    where
      sent : IsSentByHeld (parts_listed memory uses) i A s → IsSentByTold memory i (uses_held (part_slots memory v.derivations) i) s
      sent h at =
          let by = h at in
          ap (λ (f : Forest Entry). list_any (sends_with s.endpoint.base s.badge) (uses_held (part_slots memory f) i)) same
          ∙ told_use p memory A.derivations i by.0 s.endpoint.base s.badge by.1.0 by.1.1.0 by.1.1.1.0 by.1.1.1.1

  kept_so : AtMostLoses (parts_listed memory uses) i A.derivations (state_after p A calls).derivations
  kept_so = gets_nothing p (parts_listed memory uses) i A calls reached closed passes allowed

  sent_so : (more : List SendRecord) × (((state_after p A calls).sends ≡ A.sends ++ more) × Each (IsSentByTold memory i (uses_held (part_slots memory v.derivations) i)) more)
  sent_so = let by = sends_by_held p (parts_listed memory uses) i A calls reached closed passes allowed in (by.0, (by.1.0, each_sent by.0 by.1.1))

pub keeps_what_it_has : (p : ProfileName) (memory : List PartMemory) (uses : List PartUse) (v : Shown) (i : ℕ) → KeepsWhatItHas p memory uses v i
keeps_what_it_has p memory uses v i ever told A reached is calls allowed = kept_so p memory uses v i ever told A reached is calls allowed

pub sends_by_told : (p : ProfileName) (memory : List PartMemory) (uses : List PartUse) (v : Shown) (i : ℕ) → SendsByTold p memory uses v i
sends_by_told p memory uses v i ever told A reached is calls allowed = sent_so p memory uses v i ever told A reached is calls allowed

-- What a hint tells is what the kernel finds.
use Rattle.std.proofs.Common.{◌≡◌, ℕ, zero, suc, ◌+◌, ◌^◌, ◌/◌, ◌%◌, ◌<◌, ◌==◌, Bool, true, false, cond, nat_lt, Option, None, Some, unwrap_or, Result, Ok, Err, refl, ap, sym, subst, ◌∙◌, inl, inr, arith}
use Rattle.std.proofs.lemmas.Bool.Decides.{nat_tests, eqb_tells}
use Rattle.cap_core.specs.declared.profile.ProfileName.{ProfileName}
use Rattle.cap_core.specs.declared.capability.Cap.{Cap}
use Rattle.cap_core.specs.Numbers.{word_bits, slot_size}
use Rattle.kernel_forest.specs.Forest.{Forest}
use Rattle.kernel_forest.specs.Entries.{Entry, cap_at}
use Rattle.cspace_core.specs.Target.{target_slot}
use Rattle.kernel_checks.specs.declared.hints.Hint.{Hint}
use Rattle.kernel_checks.specs.declared.hints.Hint.TheVariants.{Depth, Number}
use Rattle.kernel_abstract.specs.declared.reason.Reason.{Reason}
use Rattle.kernel_abstract.specs.declared.reason.Word.TheVariants.{Invoked, Index}
use Rattle.kernel_abstract.specs.Lookups.{slot_by_word, slot_by_index, slot_named}
use Rattle.kernel_checks.specs.Hints.{found_slot, slot_at_depth, depth_or, depth_from, depth_hint, where_same, number_hint, word_hint}
use Rattle.kernel_checks.specs.Laws.{IsDepthHint, IsNumberHint}
use Rattle.kernel_abstract.proofs.Checks.Walked.{index_passed, word_passed}

abbrev value : Option ℕ → ℕ
value None = 0
value (Some n) = n

found : (r : Result ℕ Reason) (s : ℕ) → found_slot r ≡ Some s → r ≡ Ok s
found (Ok t) s h = ap (λ (o : Option ℕ). let m : Result ℕ Reason = Ok (value o) in m) h
found (Err reason) s h = absurd (let no : ◌≡◌ {A = Option ℕ} None (Some s) = h in cc)

abbrev first : Option Hint → ℕ
first None = 0
first (Some (Depth depth slot)) = depth
first (Some (Number number slot)) = number

abbrev second : Option Hint → ℕ
second None = 0
second (Some (Depth depth slot)) = slot
second (Some (Number number slot)) = slot

abbrev is_depth : Option Hint → Bool
is_depth None = false
is_depth (Some (Depth depth slot)) = true
is_depth (Some (Number number slot)) = false

module _ (p : ProfileName) (cap_in : ℕ → Cap) (root index : ℕ) where
  abbrev Finds : ℕ → ℕ → Type 0
  Finds depth slot = (index < 2 ^ depth) × (target_slot p cap_in (cap_in root) index depth ≡ Ok slot)

  at_depth : (depth s : ℕ) → slot_at_depth p cap_in root index depth ≡ Some s → Finds depth s
  at_depth depth s h =
      elim (nat_lt index (2 ^ depth)) as (λ b. nat_lt index (2 ^ depth) ≡ b → cond b (found_slot (slot_by_index p cap_in Index root index depth)) None ≡ Some s → Finds depth s) [
        | true ↦ λ e h. (
          (let lt : index < 2 ^ depth = grind (arith, nat_tests) in lt),
          index_passed p cap_in Index root index depth s (found (slot_by_index p cap_in Index root index depth) s h),
        )
        | false ↦ λ e h. absurd (let no : ◌≡◌ {A = Option ℕ} None (Some s) = h in cc)
      ] refl h

  from_depth : (count d depth slot : ℕ) → depth_from p cap_in root index d count ≡ Some (Depth depth slot) → Finds depth slot
  unfolding depth_from
  from_depth zero d depth slot h = absurd (let no : ◌≡◌ {A = Option Hint} None (Some (Depth depth slot)) = h in cc)
  from_depth (suc count) d depth slot h = by (λ h. from_depth count (d + 1) depth slot h) (slot_at_depth p cap_in root index d) refl h
    where
      by : (depth_from p cap_in root index (d + 1) count ≡ Some (Depth depth slot) → Finds depth slot) → (o : Option ℕ) → slot_at_depth p cap_in root index d ≡ o → depth_or d o (depth_from p cap_in root index (d + 1) count) ≡ Some (Depth depth slot) → Finds depth slot
      by later None e h = later h
      by later (Some s) e h =
          let same : d ≡ depth = ap first h in
          let its : s ≡ slot = ap second h in
          subst (λ n. Finds n slot) same (subst (λ n. Finds d n) its (at_depth d s e))

  pub depth_is : IsDepthHint p cap_in root index
  depth_is depth slot h = from_depth (word_bits p) 1 depth slot h

module _ (p : ProfileName) (f : Forest Entry) (thread word : ℕ) where
  by_number : (n : ℕ) (m : Result ℕ Reason) (number slot : ℕ) → where_same word n m ≡ Some (Number number slot) → (slot ≡ word) × ((n ≡ number) × (m ≡ Ok word))
  by_number n (Err reason) number slot h = absurd (let no : ◌≡◌ {A = Option Hint} None (Some (Number number slot)) = h in cc)
  by_number n (Ok s) number slot h = elim (eqb_tells s word) as (λ _. (slot ≡ word) × ((n ≡ number) × (◌≡◌ {A = Result ℕ Reason} (Ok s) (Ok word)))) [
    | inl same ↦ (
        let k : ◌≡◌ {A = Option Hint} (Some (Number n word)) (Some (Number number slot)) = sym (ap (λ b. cond b (Some (Number n word)) None) same.0) ∙ h in
        (sym (ap second k), (ap first k, ap (λ (t : ℕ). let r : Result ℕ Reason = Ok t in r) same.1)))
    | inr other ↦ absurd (let no : ◌≡◌ {A = Option Hint} None (Some (Number number slot)) = sym (ap (λ b. cond b (Some (Number n word)) None) other.0) ∙ h in cc)
  ]

  pub number_is : IsNumberHint p f thread word
  number_is number slot h =
      let n = word / slot_size p in
      let m = slot_by_word p f Invoked thread n in
      elim (word % slot_size p == 0) as (λ b. cond b (where_same word n m) None ≡ Some (Number number slot) → (slot ≡ word) × (slot_named p f (cap_at f thread) number ≡ Ok slot)) [
        | true ↦ λ h. (
            let r = by_number n m number slot h in
            (r.0, ap (slot_named p f (cap_at f thread)) (sym r.1.0) ∙ word_passed p f Invoked thread n word r.1.1 ∙ ap (λ (t : ℕ). Ok t) (sym r.0)))
        | false ↦ λ h. absurd (let no : ◌≡◌ {A = Option Hint} None (Some (Number number slot)) = h in cc)
      ] h

-- The way that is told of a lookup ends at the slot where the lookup ends.
use Rattle.std.proofs.Common.{◌≡◌, ◌⊎◌, ℕ, zero, suc, Bool, true, false, cond, not, nat_lt, ◌==◌, ◌&&◌, List, [], ◌∷◌, ◌++◌, length, take, drop, Option, Some, None, Result, Ok, Err, refl, ap, sym, ◌∙◌, inl, inr}
use Rattle.cap_core.specs.declared.profile.ProfileName.{ProfileName}
use Rattle.cap_core.specs.declared.capability.Guard.{Guard}
use Rattle.cap_core.specs.declared.capability.Cap.{Cap}
use Rattle.cap_core.specs.declared.capability.Cap.TheVariants.{Null, Untyped, Endpoint, CNode, Tcb}
use Rattle.cspace_core.specs.Bits.{after_front}
use Rattle.cspace_core.specs.Resolution.{Choice, Found, is_cnode, guard_bits}
use Rattle.kernel_abstract.specs.declared.reason.Held.{Held}
use Rattle.kernel_abstract.specs.declared.reason.Miss.{Miss}
use Rattle.kernel_abstract.specs.Reasons.{held_at}
use Rattle.kernel_abstract.specs.Lookups.{chosen_by_radix, chosen_after_guard, chosen, walked_on, walked_within, walked}
use Rattle.kernel_checks.specs.Paths.{path_on, path_within, path}
use Rattle.kernel_checks.specs.Laws.{ending, EndsThere}

module _ (p : ProfileName) (cap_in : ℕ → Cap) where
  -- a lookup that fails at a slot ends at it
  abbrev EndsHere : Held → ℕ → Result Choice Miss → Type 0
  EndsHere begin slot (Ok c) = Unit {0}
  EndsHere begin slot (Err miss) = ending cap_in begin (Err miss) ≡ held_at cap_in slot

  here_cond : (begin : Held) (slot : ℕ) (t : Bool) (a b : Result Choice Miss) → EndsHere begin slot a → EndsHere begin slot b → EndsHere begin slot (cond t a b)
  here_cond begin slot true a b h k = h
  here_cond begin slot false a b h k = k

  by_radix : (begin node : Held) (slot base radix : ℕ) (bits : List ℕ) → node ≡ held_at cap_in slot → EndsHere begin slot (chosen_by_radix p node base radix bits)
  by_radix begin node slot base radix bits h = here_cond begin slot (nat_lt (length bits) radix) _ _ h tt

  after_guard : (begin node : Held) (slot base radix : ℕ) (guard : Guard) (bits : List ℕ) (rest : Option (List ℕ)) → node ≡ held_at cap_in slot → EndsHere begin slot (chosen_after_guard p node base radix guard bits rest)
  after_guard begin node slot base radix guard bits None h = h
  after_guard begin node slot base radix guard bits (Some rest) h = by_radix begin node slot base radix rest h

  abbrev Begins : Held → Cap → ℕ → Type 0
  Begins begin cap slot = (is_cnode cap ≡ true) ⊎ (begin ≡ held_at cap_in slot)

  at_no_cnode : (begin : Held) (c : Cap) (slot : ℕ) → is_cnode c ≡ false → Begins begin c slot → begin ≡ held_at cap_in slot
  at_no_cnode begin c slot none (inl node) = absurd (let e : false ≡ true = sym none ∙ node in cc)
  at_no_cnode begin c slot none (inr e) = e

  chosen_here : (begin : Held) (slot : ℕ) (cap : Cap) (bits : List ℕ) → cap ≡ cap_in slot → Begins begin cap slot → EndsHere begin slot (chosen p slot cap bits)
  chosen_here begin slot Null bits h b = at_no_cnode begin Null slot refl b
  chosen_here begin slot (Untyped base n free) bits h b = at_no_cnode begin (Untyped base n free) slot refl b
  chosen_here begin slot (Endpoint base badge rights) bits h b = at_no_cnode begin (Endpoint base badge rights) slot refl b
  chosen_here begin slot (CNode base radix guard) bits h b =
      after_guard begin (record { slot = slot; cap = CNode base radix guard }) slot base radix guard bits (after_front (guard_bits guard) bits) (ap (λ (c : Cap). let x : Held = record { slot = slot; cap = c } in x) h)
  chosen_here begin slot (Tcb base) bits h b = at_no_cnode begin (Tcb base) slot refl b

  abbrev Ends : Held → List Held → Result Found Miss → Type 0
  Ends begin way r = (before : List Held) × (way ≡ before ++ ending cap_in begin r ∷ [])

  both : (s t : Bool) → (s && t) ≡ true → s ≡ true
  both true t h = refl
  both false t h = cc

  goes_on : (most : ℕ) (begin : Held) (slot : ℕ) →
      ((slot : ℕ) (bits : List ℕ) → Begins begin (cap_in slot) slot → Ends begin (path_within p cap_in most slot bits) (walked_within p cap_in most slot bits)) →
      (m : Result Choice Miss) → EndsHere begin slot m →
      Ends begin (held_at cap_in slot ∷ path_on cap_in (path_within p cap_in most) m) (walked_on cap_in (walked_within p cap_in most) m)
  goes_on most begin slot there (Err miss) here = ([], ap (λ (h : Held). h ∷ []) (sym here))
  goes_on most begin slot there (Ok c) here =
      elim (is_cnode (cap_in c.slot) && not (length c.left == 0)) as (λ b.
      (is_cnode (cap_in c.slot) && not (length c.left == 0)) ≡ b → Ends begin (held_at cap_in slot ∷ cond b (path_within p cap_in most c.slot c.left) (held_at cap_in c.slot ∷ [])) (cond b (walked_within p cap_in most c.slot c.left) (Ok (record { slot = c.slot; left = length c.left })))) [
        | true ↦ λ e. (let r = there c.slot c.left (inl (both (is_cnode (cap_in c.slot)) (not (length c.left == 0)) e)) in (held_at cap_in slot ∷ r.0, ap (λ (l : List Held). held_at cap_in slot ∷ l) r.1))
        | false ↦ λ e. (held_at cap_in slot ∷ [], refl)
      ] refl

  within_ends : (most : ℕ) (begin : Held) (slot : ℕ) (bits : List ℕ) → Begins begin (cap_in slot) slot → Ends begin (path_within p cap_in most slot bits) (walked_within p cap_in most slot bits)
  unfolding path_within walked_within
  within_ends zero begin slot bits b = ([], refl)
  within_ends (suc most) begin slot bits b =
      goes_on most begin slot (λ slot bits b. within_ends most begin slot bits b) (chosen p slot (cap_in slot) bits) (chosen_here begin slot (cap_in slot) bits refl b)

  pub way_ends : (slot : ℕ) (bits : List ℕ) → EndsThere p cap_in slot bits
  unfolding path walked
  way_ends slot bits = within_ends (suc (length bits)) (held_at cap_in slot) slot bits (inr refl)

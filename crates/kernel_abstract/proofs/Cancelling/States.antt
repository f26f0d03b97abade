-- What threads do once objects have ended: searches through the endpoints that are left.
use Rattle.std.proofs.Common.{◌≡◌, ℕ, Bool, true, false, cond, ◌==◌, List, find, Option, None, Some, refl, sym, ap, ◌∙◌}
use Rattle.std.specs.List.{list_any}
use Rattle.std.proofs.lemmas.Bool.{false≢true}
use Rattle.kernel_abstract.specs.declared.call.ThreadState.TheVariants.{Ready, Inactive, Sending, Receiving}
use Rattle.kernel_abstract.specs.State.{first_of}
use Rattle.kernel_abstract.specs.Private.Endings.{state_among}
use Rattle.kernel_abstract.proofs.Messages.WaitsOnce.{find_fails}
use Rattle.kernel_abstract.proofs.Lists.Numbered.{find_nothing}
use Rattle.kernel_abstract.proofs.Lists.Searches.{find_found}
use Rattle.kernel_abstract.proofs.Lists.Rising.{passes_not}

-- the key that was found, where it is among these
abbrev pub among : List ℕ → Option ℕ → Option ℕ
among keys None = None
among keys (Some e) = cond (list_any (λ k. e == k) keys) (Some e) None

-- fewer keys are searched, and the same of them pass
module _ (p p' : ℕ → Bool) (keys keys' : List ℕ)
    (fewer : (k : ℕ) → list_any (λ x. k == x) keys' ≡ true → list_any (λ x. k == x) keys ≡ true)
    (same : (k : ℕ) → list_any (λ x. k == x) keys' ≡ true → p' k ≡ p k)
    (one : (b c : ℕ) → p b ≡ true → p c ≡ true → b ≡ c) where
  none_among : find p keys ≡ None → find p' keys' ≡ None
  none_among none = find_nothing p' keys' (λ k there. same k there ∙ find_fails p keys k none (fewer k there))

  still_found : (e : ℕ) → find p keys ≡ Some e → list_any (λ k. e == k) keys' ≡ true → (o : Option ℕ) → find p' keys' ≡ o → o ≡ Some e
  still_found e found there None none = absurd (false≢true (sym (find_fails p' keys' e none there) ∙ same e there ∙ (find_found p keys e found).1))
  still_found e found there (Some q) other =
      let w = find_found p' keys' q other in
      ap Some (one q e (sym (same q w.0) ∙ w.1) (find_found p keys e found).1)

  found_no_more : (e : ℕ) → find p keys ≡ Some e → list_any (λ k. e == k) keys' ≡ false → find p' keys' ≡ None
  found_no_more e found gone = find_nothing p' keys' (λ k there. passes_not (p' k) (λ passes.
      let is : k ≡ e = one k e (sym (same k there) ∙ passes) (find_found p keys e found).1 in
      false≢true (sym gone ∙ ap (λ (n : ℕ). list_any (λ x. n == x) keys') (sym is) ∙ there)))

  pub find_among : find p' keys' ≡ among keys' (find p keys)
  find_among = by (find p keys) refl
    where
      by_key : (e : ℕ) (b : Bool) → find p keys ≡ Some e → list_any (λ k. e == k) keys' ≡ b → find p' keys' ≡ cond b (Some e) None
      by_key e true found there = still_found e found there (find p' keys') refl
      by_key e false found gone = found_no_more e found gone

      by : (o : Option ℕ) → find p keys ≡ o → find p' keys' ≡ among keys' o
      by None none = none_among none
      by (Some e) found = by_key e (list_any (λ k. e == k) keys') found refl

-- what a thread does, by what was found: one that waits is not inactive, and waits in one way
pub state_found : (keys : List ℕ) (s r : Option ℕ) (inactive : Bool) → ((e : ℕ) → s ≡ Some e → (inactive ≡ false) × (r ≡ None)) → ((e : ℕ) → r ≡ Some e → inactive ≡ false) →
    first_of (among keys s) (among keys r) (cond inactive Inactive Ready) ≡ state_among keys (first_of s r (cond inactive Inactive Ready))
state_found keys None None true sends receives = refl
state_found keys None None false sends receives = refl
state_found keys None (Some e) inactive sends receives = by (list_any (λ k. e == k) keys)
  where
    by : (b : Bool) → first_of None (cond b (Some e) None) (cond inactive Inactive Ready) ≡ cond b (Receiving e) Ready
    by true = refl
    by false = ap (λ (b : Bool). cond b Inactive Ready) (receives e refl)
state_found keys (Some e) r inactive sends receives = by (list_any (λ k. e == k) keys)
  where
    by : (b : Bool) → first_of (cond b (Some e) None) (among keys r) (cond inactive Inactive Ready) ≡ cond b (Sending e) Ready
    by true = refl
    by false = let w = sends e refl in (λ i. first_of None (among keys (w.1 i)) (cond (w.0 i) Inactive Ready))

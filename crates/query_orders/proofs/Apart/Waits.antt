-- The calls that wait stand in the order of their threads: those of one group stand as they do without the others.
use Rattle.std.proofs.Common.{◌≡◌, ◌⊎◌, ℕ, suc, ◌+◌, ◌<◌, ◌≤◌, Bool, true, false, cond, not, List, [], ◌∷◌, filter, length, insert, position, nat_lt, unwrap_or, Some, None, refl, ap, sym, subst, ◌∙◌, inl, inr, one-add, arith}
use Rattle.std.proofs.lemmas.Bool.Decides.{leb_tells}
use Rattle.std.specs.List.{position_or_len, AllByRecursion as Each}
use Rattle.query_orders.specs.declared.answer.WaitingCall.{WaitingCall}
use Rattle.query_orders.specs.World.{waits_with}
use Rattle.query_orders.proofs.Apart.Lists.{taken, skipped, each_weaker, each_filter}

less_tells : (a b : ℕ) → ((nat_lt a b ≡ true) × (a < b)) ⊎ ((nat_lt a b ≡ false) × (b ≤ a))
less_tells a b = elim (leb_tells (suc a) b) as (λ _. ((nat_lt a b ≡ true) × (a < b)) ⊎ ((nat_lt a b ≡ false) × (b ≤ a))) [
  | inl less ↦ (let lt = less.1 in inl (less.0, omega (arith, lt)))
  | inr most ↦ (let le = most.1 in inr (most.0, omega (arith, le)))
]

-- ---- one call more, by recursion

abbrev pub put : List WaitingCall → WaitingCall → List WaitingCall
put [] new = new ∷ []
put (x ∷ xs) new = cond (nat_lt new.thread x.thread) (new ∷ x ∷ xs) (x ∷ put xs new)

module _ (new : WaitingCall) where
  abbrev is_behind : WaitingCall → Bool
  is_behind call = nat_lt new.thread call.thread

  within : (xs : List WaitingCall) → position_or_len is_behind xs ≤ length xs
  within [] = omega arith
  within (x ∷ xs) =
      let le = within xs in
      elim (is_behind x) as (λ b. cond (not b) (1 + position_or_len is_behind xs) 0 ≤ suc (length xs)) [ true ↦ omega arith | false ↦ omega (arith, le) ]

  place_is : (xs : List WaitingCall) → unwrap_or (position is_behind xs) (length xs) ≡ position_or_len is_behind xs
  place_is xs =
      let n = position_or_len is_behind xs in
      let le = within xs in
      elim (less_tells n (length xs)) as (λ _. unwrap_or (cond (nat_lt n (length xs)) (Some n) None) (length xs) ≡ n) [
        | inl less ↦ ap (λ b. unwrap_or (cond b (Some n) None) (length xs)) less.0
        | inr most ↦ ap (λ b. unwrap_or (cond b (Some n) None) (length xs)) most.0 ∙ (let past = most.1 in omega (arith, le, past))
      ]

  put_at : (xs : List WaitingCall) → insert xs (position_or_len is_behind xs) new ≡ put xs new
  put_at [] = refl
  put_at (x ∷ xs) =
      elim (is_behind x) as (λ b. insert (x ∷ xs) (cond (not b) (1 + position_or_len is_behind xs) 0) new ≡ cond b (new ∷ x ∷ xs) (x ∷ put xs new)) [
        | true ↦ refl
        | false ↦ ap (λ n. insert (x ∷ xs) n new) (one-add (position_or_len is_behind xs)) ∙ ap (λ (l : List WaitingCall). x ∷ l) (put_at xs)
      ]

  pub waits_with_is : (xs : List WaitingCall) → waits_with xs new ≡ put xs new
  waits_with_is xs = ap (λ n. insert xs n new) (place_is xs) ∙ put_at xs

  pub each_put : (P : WaitingCall → Type 0) (xs : List WaitingCall) → P new → Each P xs → Each P (put xs new)
  each_put P [] n h = (n, tt)
  each_put P (x ∷ xs) n h = elim (is_behind x) as (λ b. Each P (cond b (new ∷ x ∷ xs) (x ∷ put xs new))) [ true ↦ (n, h) | false ↦ (h.0, each_put P xs n h.1) ]

-- ---- in the order of their threads

abbrev pub AreOrdered : List WaitingCall → Type 0
AreOrdered [] = Unit {0}
AreOrdered (x ∷ xs) = Each (λ (y : WaitingCall). x.thread ≤ y.thread) xs × AreOrdered xs

pub ordered_filter : (t : WaitingCall → Bool) (xs : List WaitingCall) → AreOrdered xs → AreOrdered (filter t xs)
ordered_filter t [] h = tt
ordered_filter t (x ∷ xs) h =
    let rest = ordered_filter t xs h.1 in
    elim (t x) as (λ b. AreOrdered (cond b (x ∷ filter t xs) (filter t xs))) [ true ↦ (each_filter (λ (y : WaitingCall). x.thread ≤ y.thread) t xs h.0, rest) | false ↦ rest ]

module _ (new : WaitingCall) where
  behind_all : (x : WaitingCall) (xs : List WaitingCall) → new.thread < x.thread → Each (λ (y : WaitingCall). x.thread ≤ y.thread) xs → Each (λ (y : WaitingCall). new.thread < y.thread) xs
  behind_all x xs lt h = each_weaker (λ (y : WaitingCall). x.thread ≤ y.thread) (λ (y : WaitingCall). new.thread < y.thread) (λ y le. omega (arith, lt, le)) xs h

  pub ordered_put : (xs : List WaitingCall) → AreOrdered xs → AreOrdered (put xs new)
  ordered_put [] h = (tt, tt)
  ordered_put (x ∷ xs) h = elim (less_tells new.thread x.thread) as (λ _. AreOrdered (put (x ∷ xs) new)) [
    | inl less ↦ subst (λ b. AreOrdered (cond b (new ∷ x ∷ xs) (x ∷ put xs new))) (sym less.0) (
      (
        (let lt = less.1 in omega (arith, lt)),
        each_weaker (λ (y : WaitingCall). new.thread < y.thread) (λ (y : WaitingCall). new.thread ≤ y.thread) (λ y lt. omega (arith, lt)) xs (behind_all x xs less.1 h.0),
      ),
      h,
    )
    | inr most ↦ subst (λ b. AreOrdered (cond b (new ∷ x ∷ xs) (x ∷ put xs new))) (sym most.0) (each_put new (λ (y : WaitingCall). x.thread ≤ y.thread) xs most.1 h.0, ordered_put xs h.1)
  ]

  put_first : (xs : List WaitingCall) → Each (λ (y : WaitingCall). new.thread < y.thread) xs → put xs new ≡ new ∷ xs
  put_first [] h = refl
  put_first (x ∷ xs) h = elim (less_tells new.thread x.thread) as (λ _. put (x ∷ xs) new ≡ new ∷ x ∷ xs) [
    | inl less ↦ ap (λ b. cond b (new ∷ x ∷ xs) (x ∷ put xs new)) less.0
    | inr most ↦ absurd (let lt = h.0 in let le = most.1 in omega (arith, lt, le))
  ]

  module _ (t : WaitingCall → Bool) where
    -- a call that passes a test goes to its place among those that do
    pub put_among : (xs : List WaitingCall) → t new ≡ true → AreOrdered xs → filter t (put xs new) ≡ put (filter t xs) new
    put_among [] p h = taken t new [] p
    put_among (x ∷ xs) p h = elim (less_tells new.thread x.thread) as (λ _. filter t (put (x ∷ xs) new) ≡ put (filter t (x ∷ xs)) new) [
      | inl less ↦ (
          ap (λ b. filter t (cond b (new ∷ x ∷ xs) (x ∷ put xs new))) less.0
          ∙ taken t new (x ∷ xs) p
          ∙ sym (put_first (filter t (x ∷ xs)) (each_filter (λ (y : WaitingCall). new.thread < y.thread) t (x ∷ xs) (less.1, behind_all x xs less.1 h.0))))
      | inr most ↦ ap (λ b. filter t (cond b (new ∷ x ∷ xs) (x ∷ put xs new))) most.0 ∙ later (put_among xs p h.1) most.0 (t x) refl
    ]
      where
        later : filter t (put xs new) ≡ put (filter t xs) new → nat_lt new.thread x.thread ≡ false → (b : Bool) → t x ≡ b → filter t (x ∷ put xs new) ≡ put (filter t (x ∷ xs)) new
        later rest most true e =
            taken t x (put xs new) e ∙ ap (λ (l : List WaitingCall). x ∷ l) rest
            ∙ ap (λ b. cond b (new ∷ x ∷ filter t xs) (x ∷ put (filter t xs) new)) (sym most)
            ∙ ap (λ (l : List WaitingCall). put l new) (sym (taken t x xs e))
        later rest most false e = skipped t x (put xs new) e ∙ rest ∙ ap (λ (l : List WaitingCall). put l new) (sym (skipped t x xs e))

    -- and one that does not is not seen
    pub put_unseen : (xs : List WaitingCall) → t new ≡ false → filter t (put xs new) ≡ filter t xs
    put_unseen [] p = skipped t new [] p
    put_unseen (x ∷ xs) p = elim (nat_lt new.thread x.thread) as (λ b. filter t (cond b (new ∷ x ∷ xs) (x ∷ put xs new)) ≡ filter t (x ∷ xs)) [
      | true ↦ skipped t new (x ∷ xs) p
      | false ↦ ap (λ (l : List WaitingCall). cond (t x) (x ∷ l) l) (put_unseen xs p)
    ]

-- Taking out, one after another, those of a queue that a test names.
use Rattle.std.proofs.Common.{◌≡◌, ◌≢◌, ℕ, ◌≤◌, ◌==◌, ◌||◌, Bool, true, false, cond, not, List, [], ◌∷◌, ◌++◌, map, length, Option, None, inl, inr, refl, sym, ap, ◌∙◌, arith, eq-eqb}
use Rattle.std.specs.List.{AllByRecursion as Each, list_any}
use Rattle.std.proofs.lemmas.Bool.{ne_eqb}
use Rattle.std.proofs.lemmas.Bool.Decides.{eqb_tells}
use Rattle.ipc_core.specs.declared.waiter.Waiter.{Waiter}
use Rattle.ipc_core.specs.declared.waiter.Role.{Role}
use Rattle.ipc_core.specs.Waits.{Waits, changed, thread_of}
use Rattle.ipc_core.specs.Cancelled.{is_thread, those, others, after_cancel, after_cancel_thread}
use Rattle.ipc_core.specs.Representation.Chains.{Lacks, removed}

module _ (f : ℕ → Waiter) (thread_is : (i : ℕ) → thread_of (f i) ≡ i) (names : Waiter → Bool) (t : ℕ) where
  is_one : (x i : ℕ) → is_thread i (f x) ≡ (x == i)
  is_one x i = ap (λ k. k == i) (thread_is x)

  -- those that are not named are the same without a named one
  others_same : names (f t) ≡ true → (xs : List ℕ) → others names (others (is_thread t) (map f xs)) ≡ others names (map f xs)
  others_same named [] = refl
  others_same named (x ∷ xs) = elim (eqb_tells x t) [
    | inl w ↦
        ap (λ b. others names (cond (not b) (f x ∷ others (is_thread t) (map f xs)) (others (is_thread t) (map f xs)))) (is_one x t ∙ w.0)
        ∙ others_same named xs
        ∙ sym (ap (λ b. cond (not b) (f x ∷ others names (map f xs)) (others names (map f xs))) (ap (λ k. names (f k)) w.1 ∙ named))
    | inr w ↦
        ap (λ b. others names (cond (not b) (f x ∷ others (is_thread t) (map f xs)) (others (is_thread t) (map f xs)))) (is_one x t ∙ w.0)
        ∙ ap (λ rest. cond (not (names (f x))) (f x ∷ rest) rest) (others_same named xs)
  ]

  -- whether another thread is named is the same without t
  named_same : (i : ℕ) → i ≢ t → (xs : List ℕ) → list_any (is_thread i) (those names (others (is_thread t) (map f xs))) ≡ list_any (is_thread i) (those names (map f xs))
  named_same i ne [] = refl
  named_same i ne (x ∷ xs) = elim (eqb_tells x t) [
    | inl w ↦
        ap (λ b. list_any (is_thread i) (those names (cond (not b) (f x ∷ others (is_thread t) (map f xs)) (others (is_thread t) (map f xs))))) (is_one x t ∙ w.0)
        ∙ named_same i ne xs
        ∙ sym (skip (names (f x)) (is_one x i ∙ ne_eqb x i (λ same. ne (sym same ∙ w.1))))
    | inr w ↦
        ap (λ b. list_any (is_thread i) (those names (cond (not b) (f x ∷ others (is_thread t) (map f xs)) (others (is_thread t) (map f xs))))) (is_one x t ∙ w.0)
        ∙ keep (names (f x)) (named_same i ne xs)
  ]
    where
      skip : (b : Bool) → is_thread i (f x) ≡ false → list_any (is_thread i) (cond b (f x ∷ those names (map f xs)) (those names (map f xs))) ≡ list_any (is_thread i) (those names (map f xs))
      skip true away = ap (λ c. c || list_any (is_thread i) (those names (map f xs))) away
      skip false away = refl

      keep : (b : Bool) → list_any (is_thread i) (those names (others (is_thread t) (map f xs))) ≡ list_any (is_thread i) (those names (map f xs)) →
          list_any (is_thread i) (cond b (f x ∷ those names (others (is_thread t) (map f xs))) (those names (others (is_thread t) (map f xs)))) ≡ list_any (is_thread i) (cond b (f x ∷ those names (map f xs)) (those names (map f xs)))
      keep true ih = ap (λ c. is_thread i (f x) || c) ih
      keep false ih = ih

  -- t is named
  t_named : names (f t) ≡ true → (pre post : List ℕ) → list_any (is_thread t) (those names (map f (pre ++ t ∷ post))) ≡ true
  t_named named [] post =
      ap (λ b. list_any (is_thread t) (cond b (f t ∷ those names (map f post)) (those names (map f post)))) named
      ∙ ap (λ b. b || list_any (is_thread t) (those names (map f post))) (is_one t t ∙ eq-eqb t t refl)
  t_named named (x ∷ pre) post = step (names (f x)) (t_named named pre post)
    where
      step : (b : Bool) → list_any (is_thread t) (those names (map f (pre ++ t ∷ post))) ≡ true →
          list_any (is_thread t) (cond b (f x ∷ those names (map f (pre ++ t ∷ post))) (those names (map f (pre ++ t ∷ post)))) ≡ true
      step true ih = either (is_thread t (f x)) ih
        where
          either : (a : Bool) → list_any (is_thread t) (those names (map f (pre ++ t ∷ post))) ≡ true → (a || list_any (is_thread t) (those names (map f (pre ++ t ∷ post)))) ≡ true
          either true h = refl
          either false h = h
      step false ih = ih

  -- t waits on no other endpoint
  pub away_same : (xs : List ℕ) → Lacks t xs → others (is_thread t) (map f xs) ≡ map f xs
  away_same [] lacks = refl
  away_same (x ∷ xs) lacks =
      ap (λ b. cond (not b) (f x ∷ others (is_thread t) (map f xs)) (others (is_thread t) (map f xs))) (is_one x t ∙ ne_eqb x t lacks.0)
      ∙ ap (λ rest. f x ∷ rest) (away_same xs lacks.1)

  -- a cancellation, once one that it names has been taken out, does what it would have done
  pub cancelled_first : (w : Waits) (orders : ℕ → List ℕ) (e : ℕ) (pre post : List ℕ) → w.queue ≡ (λ q. map f (orders q)) → orders e ≡ pre ++ t ∷ post →
      ((q : ℕ) → q ≢ e → Lacks t (orders q)) → names (f t) ≡ true →
      after_cancel e names (after_cancel_thread t w) ≡ after_cancel e names w
  cancelled_first w orders e pre post shows split away named = λ k. record { queue = λ q. queues q k; role = λ i. roles i k }
    where
      queue_is : (q : ℕ) → w.queue q ≡ map f (orders q)
      queue_is q = ap (λ (g : ℕ → List Waiter). g q) shows

      here : others names (others (is_thread t) (w.queue e)) ≡ others names (w.queue e)
      here = ap (λ list. others names (others (is_thread t) list)) (queue_is e) ∙ others_same named (orders e) ∙ ap (others names) (sym (queue_is e))

      queues : (q : ℕ) → changed (λ j. others (is_thread t) (w.queue j)) e (others names (others (is_thread t) (w.queue e))) q ≡ changed w.queue e (others names (w.queue e)) q
      queues q = elim (eqb_tells q e) [
        | inl v ↦ ap (λ b. cond b (others names (others (is_thread t) (w.queue e))) (others (is_thread t) (w.queue q))) v.0 ∙ here ∙ sym (ap (λ b. cond b (others names (w.queue e)) (w.queue q)) v.0)
        | inr v ↦
            ap (λ b. cond b (others names (others (is_thread t) (w.queue e))) (others (is_thread t) (w.queue q))) v.0
            ∙ ap (others (is_thread t)) (queue_is q) ∙ away_same (orders q) (away q v.1) ∙ sym (queue_is q)
            ∙ sym (ap (λ b. cond b (others names (w.queue e)) (w.queue q)) v.0)
      ]

      none : (b : Bool) (o : Option Role) → o ≡ None → cond b None o ≡ o
      none true o is = sym is
      none false o is = refl

      roles : (i : ℕ) → cond (list_any (is_thread i) (those names (others (is_thread t) (w.queue e)))) None (changed w.role t None i) ≡ cond (list_any (is_thread i) (those names (w.queue e))) None (w.role i)
      roles i = elim (eqb_tells i t) [
        | inl v ↦
            ap (λ b. cond (list_any (is_thread i) (those names (others (is_thread t) (w.queue e)))) None (cond b None (w.role i))) v.0
            ∙ none (list_any (is_thread i) (those names (others (is_thread t) (w.queue e)))) None refl
            ∙ sym (ap (λ j. cond (list_any (is_thread j) (those names (w.queue e))) None (w.role i)) v.1
            ∙ ap (λ b. cond b None (w.role i)) (ap (λ list. list_any (is_thread t) (those names list)) (queue_is e ∙ ap (map f) split) ∙ t_named named pre post))
        | inr v ↦
            ap (λ b. cond (list_any (is_thread i) (those names (others (is_thread t) (w.queue e)))) None (cond b None (w.role i))) v.0
            ∙ ap (λ b. cond b None (w.role i))
            (ap (λ list. list_any (is_thread i) (those names (others (is_thread t) list))) (queue_is e) ∙ named_same i v.1 (orders e)
            ∙ ap (λ list. list_any (is_thread i) (those names list)) (sym (queue_is e)))
      ]

-- where none is named, nothing is cancelled
pub none_others : (f : ℕ → Waiter) (names : Waiter → Bool) (xs : List ℕ) → Each (λ i. names (f i) ≡ false) xs → others names (map f xs) ≡ map f xs
none_others f names [] h = refl
none_others f names (x ∷ xs) h =
    ap (λ b. cond (not b) (f x ∷ others names (map f xs)) (others names (map f xs))) h.0 ∙ ap (λ rest. f x ∷ rest) (none_others f names xs h.1)

pub none_those : (f : ℕ → Waiter) (names : Waiter → Bool) (xs : List ℕ) → Each (λ i. names (f i) ≡ false) xs → those names (map f xs) ≡ []
none_those f names [] h = refl
none_those f names (x ∷ xs) h = ap (λ b. cond b (f x ∷ those names (map f xs)) (those names (map f xs))) h.0 ∙ none_those f names xs h.1

pub nothing_cancelled : (w : Waits) (e : ℕ) (names : Waiter → Bool) → others names (w.queue e) ≡ w.queue e → those names (w.queue e) ≡ [] → after_cancel e names w ≡ w
nothing_cancelled w e names all none = λ k. record { queue = λ q. queues q k; role = λ i. roles i k }
  where
    queues : (q : ℕ) → changed w.queue e (others names (w.queue e)) q ≡ w.queue q
    queues q = elim (eqb_tells q e) [
      | inl v ↦ ap (λ b. cond b (others names (w.queue e)) (w.queue q)) v.0 ∙ all ∙ ap w.queue (sym v.1)
      | inr v ↦ ap (λ b. cond b (others names (w.queue e)) (w.queue q)) v.0
    ]

    roles : (i : ℕ) → cond (list_any (is_thread i) (those names (w.queue e))) None (w.role i) ≡ w.role i
    roles i = ap (λ list. cond (list_any (is_thread i) list) None (w.role i)) none

-- without one of its members a list is shorter
pub removed_short : (t : ℕ) (xs : List ℕ) → length (removed t xs) ≤ length xs
removed_short t [] = omega arith
removed_short t (x ∷ xs) = step (x == t) (removed_short t xs)
  where
    step : (b : Bool) → length (removed t xs) ≤ length xs → length (cond (not b) (x ∷ removed t xs) (removed t xs)) ≤ length (x ∷ xs)
    step true ih = omega (arith, ih)
    step false ih = omega (arith, ih)

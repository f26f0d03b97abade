-- Who waits is told by the thread and what it is shown to send.
use Rattle.std.proofs.Common.{◌≡◌, ◌≢◌, ℕ, true, false, cond, ◌==◌, List, [], ◌∷◌, ◌++◌, map, Some, None, refl, ap, ◌∙◌, arith}
use Rattle.std.proofs.lemmas.Bool.Decides.{nat_tests}
use Rattle.std.specs.Option.{option_or}
use Rattle.std.specs.List.{AllByRecursion as Each}
use Rattle.cap_core.specs.Distinct.{Lacks, IsApart}
use Rattle.ipc_core.specs.declared.waiter.Waiter.{Waiter}
use Rattle.ipc_core.specs.declared.waiter.Waiter.TheVariants.{Sender, Receiver}
use Rattle.ipc_core.specs.declared.waiter.Offer.{Offer}
use Rattle.ipc_core.specs.Waits.{thread_of}
use Rattle.ipc_core.specs.Offers.{offer_in, offer_by}
use Rattle.kernel_abstract.specs.Shown.{Shown, state_at, waiting_at}
use Rattle.kernel_abstract.specs.Waiting.{state_in, offer_where, AreStatesAndLists}
use Rattle.query_orders.specs.Words.{listed, waiter_words}
use Rattle.query_orders.specs.Private.Waiting.{waiter_by, waiter_shown, threads_waiting_at}

itself : (n : ℕ) → (n == n) ≡ true
itself n = grind (arith, nat_tests)

other : (m n : ℕ) → m ≢ n → (n == m) ≡ false
other m n h = grind (arith, nat_tests, h)

-- a sender's offer is the one that its list has of it
abbrev Finds : List Waiter → Waiter → Type 0
Finds l x = (o : Offer) → offer_by x ≡ Some o → offer_in (thread_of x) l ≡ Some o

finds_more : (x : Waiter) (l ys : List Waiter) → Lacks (thread_of x) (map thread_of ys) → Each (Finds l) ys → Each (Finds (x ∷ l)) ys
finds_more x l [] lacks h = tt
finds_more x l (y ∷ ys) lacks h =
    ((λ o is. ap (λ b. option_or (cond b (offer_by x) None) (offer_in (thread_of y) l)) (other (thread_of y) (thread_of x) lacks.0) ∙ h.0 o is), finds_more x l ys lacks.1 h.1)

finds : (l : List Waiter) → IsApart (map thread_of l) → Each (Finds l) l
finds [] h = tt
finds (x ∷ l) h =
    ((λ o is. ap (λ b. option_or (cond b (offer_by x) None) (offer_in (thread_of x) l)) (itself (thread_of x)) ∙ ap (λ y. option_or y (offer_in (thread_of x) l)) is), finds_more x l l h.0 (finds l h.1))

module _ (v : Shown) (e : ℕ) where
  told : (x : Waiter) → state_at v (thread_of x) ≡ Some (state_in e x) → Finds (waiting_at v e) x → waiter_shown v (thread_of x) ≡ x
  told (Receiver t) is found = ap (λ s. waiter_by t (offer_where s t v)) is
  told (Sender t badge message) is found =
      ap (λ s. waiter_by t (offer_where s t v)) is ∙ ap (waiter_by t) (found (record { thread = t; badge = badge; message = message }) refl)

  listed_so : (l : List Waiter) → Each (λ x. state_at v (thread_of x) ≡ Some (state_in e x)) l → Each (Finds (waiting_at v e)) l →
      listed (λ t. waiter_words (waiter_shown v t)) (map thread_of l) ≡ listed waiter_words l
  listed_so [] h k = refl
  listed_so (x ∷ l) h k =
      ap (λ y. 1 ∷ (waiter_words y ++ listed (λ t. waiter_words (waiter_shown v t)) (map thread_of l))) (told x h.0 k.0)
      ∙ ap (λ r. 1 ∷ (waiter_words x ++ r)) (listed_so l h.1 k.1)

  pub waiters_listed : AreStatesAndLists v → listed (λ t. waiter_words (waiter_shown v t)) (threads_waiting_at v e) ≡ listed waiter_words (waiting_at v e)
  waiters_listed agree = listed_so (waiting_at v e) (agree.listed e) (finds (waiting_at v e) (agree.once e))

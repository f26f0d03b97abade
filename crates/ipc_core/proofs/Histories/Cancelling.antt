-- A cancellation takes out of a waiting list what the histories say, and changes no pair.
use Rattle.std.proofs.Common.{◌≡◌, ℕ, Bool, true, false, cond, not, List, [], ◌∷◌, ◌++◌, map, filter, length, take, drop, zero, suc, refl, sym, ap, ◌∙◌, eq-eqb}
use Rattle.std.proofs.lemmas.List.{append-nil}
use Rattle.std.specs.List.{zip}
use Rattle.cap_core.specs.declared.capability.Badge.{Badge}
use Rattle.ipc_core.specs.declared.waiter.Waiter.{Waiter}
use Rattle.ipc_core.specs.Records.{SendRecord, ReceiveRecord, sender, receiver, paired, waiting_list}
use Rattle.ipc_core.specs.Waits.{Waits, changed}
use Rattle.ipc_core.specs.Cancelled.{is_thread, is_sender_with, others, after_cancel_thread, after_cancel_badge, after_cancel_endpoint, standing_less, sends_less, receives_less, waiting_less, is_sent_by, is_received_by, is_sent_with}

-- a test seen through a map
pub filter-map : {X Y : Type 0} (f : X → Y) (p : Y → Bool) (q : X → Bool) → ((x : X) → p (f x) ≡ q x) → (xs : List X) → filter p (map f xs) ≡ map f (filter q xs)
filter-map f p q same [] = refl
filter-map f p q same (x ∷ xs) =
    ap (λ b. cond b (f x ∷ filter p (map f xs)) (filter p (map f xs))) (same x) ∙ step (q x) (filter-map f p q same xs)
  where
    step : (b : Bool) → filter p (map f xs) ≡ map f (filter q xs) → cond b (f x ∷ filter p (map f xs)) (filter p (map f xs)) ≡ map f (cond b (x ∷ filter q xs) (filter q xs))
    step true ih = ap (λ rest. f x ∷ rest) ih
    step false ih = ih

abbrev empty : (X : Type 0) → List X
empty X = []

drop_none : {X : Type 0} (n : ℕ) → drop n (empty X) ≡ empty X
drop_none zero = refl
drop_none (suc n) = refl

take_none : {X : Type 0} (n : ℕ) → take n (empty X) ≡ empty X
take_none zero = refl
take_none (suc n) = refl

less_none : {X : Type 0} (names : X → Bool) (n : ℕ) → standing_less names n [] ≡ []
less_none names n = ap (λ xs. xs ++ filter (λ r. not (names r)) (drop n [])) (take_none n) ∙ ap (filter (λ r. not (names r))) (drop_none n)

-- where one side is empty, the other waits whole
only_receives : (receives : List ReceiveRecord) → waiting_list [] receives ≡ map receiver receives
only_receives receives = ap (λ sends. map sender sends ++ map receiver receives) (drop_none (length receives))

only_sends : (sends : List SendRecord) → waiting_list sends [] ≡ map sender sends
only_sends sends = ap (λ receives. map sender sends ++ map receiver receives) (drop_none (length sends)) ∙ append-nil (map sender sends)

module _ (names : Waiter → Bool) (of_sends : SendRecord → Bool) (of_receives : ReceiveRecord → Bool) (same_sends : (s : SendRecord) → names (sender s) ≡ of_sends s) (same_receives : (a : ReceiveRecord) → names (receiver a) ≡ of_receives a) where
  pub waiting_less_is : (sends : List SendRecord) (receives : List ReceiveRecord) → waiting_less of_sends of_receives sends receives ≡ others names (waiting_list sends receives)
  waiting_less_is [] receives =
      ap (λ left. waiting_list left (receives_less of_receives [] receives)) (less_none of_sends (length receives))
      ∙ only_receives (receives_less of_receives [] receives)
      ∙ sym (filter-map receiver (λ v. not (names v)) (λ a. not (of_receives a)) (λ a. ap not (same_receives a)) receives)
      ∙ ap (others names) (sym (only_receives receives))
  waiting_less_is (s ∷ sends) [] =
      ap (λ left. waiting_list (sends_less of_sends (s ∷ sends) []) left) (less_none of_receives (length (s ∷ sends)))
      ∙ only_sends (sends_less of_sends (s ∷ sends) [])
      ∙ sym (filter-map sender (λ v. not (names v)) (λ s. not (of_sends s)) (λ s. ap not (same_sends s)) (s ∷ sends))
      ∙ ap (others names) (sym (only_sends (s ∷ sends)))
  waiting_less_is (s ∷ sends) (a ∷ receives) = waiting_less_is sends receives

  pub waits_less : (sends : List SendRecord) (receives : List ReceiveRecord) (before after : List Waiter) → after ≡ others names before → before ≡ waiting_list sends receives → after ≡ waiting_less of_sends of_receives sends receives
  waits_less sends receives before after is queue = is ∙ ap (others names) queue ∙ sym (waiting_less_is sends receives)

-- what stands in a pair is not cancelled
zip_none : {X Y : Type 0} (xs : List X) → zip xs (empty Y) ≡ []
zip_none [] = refl
zip_none (x ∷ xs) = refl

pub pairs_stay : (of_sends : SendRecord → Bool) (of_receives : ReceiveRecord → Bool) (sends : List SendRecord) (receives : List ReceiveRecord) → paired (sends_less of_sends sends receives) (receives_less of_receives sends receives) ≡ paired sends receives
pairs_stay of_sends of_receives [] receives = ap (λ left. zip left (receives_less of_receives [] receives)) (less_none of_sends (length receives))
pairs_stay of_sends of_receives (s ∷ sends) [] =
    ap (λ left. zip (sends_less of_sends (s ∷ sends) []) left) (less_none of_receives (length (s ∷ sends))) ∙ zip_none (sends_less of_sends (s ∷ sends) [])
pairs_stay of_sends of_receives (s ∷ sends) (a ∷ receives) = ap (λ rest. (s, a) ∷ rest) (pairs_stay of_sends of_receives sends receives)

nobody_left : (list : List Waiter) → others (λ _. true) list ≡ []
nobody_left [] = refl
nobody_left (v ∷ list) = nobody_left list

at_itself : (e : ℕ) (list : List Waiter) (rest : ℕ → List Waiter) → changed rest e list e ≡ list
at_itself e list rest = ap (λ b. cond b list (rest e)) (eq-eqb e e refl)

-- a cancellation does what the histories say, whatever keeps the threads that wait
pub thread_by_histories : (thread : ℕ) (w after : Waits) → after ≡ after_cancel_thread thread w →
    (e : ℕ) (sends : List SendRecord) (receives : List ReceiveRecord) → w.queue e ≡ waiting_list sends receives →
    after.queue e ≡ waiting_less (is_sent_by thread) (is_received_by thread) sends receives
thread_by_histories thread w after is e sends receives queue =
    waits_less (is_thread thread) (is_sent_by thread) (is_received_by thread) (λ s. refl) (λ a. refl) sends receives (w.queue e) (after.queue e)
    (ap (λ (v : Waits). v.queue e) is) queue

pub badge_by_histories : (e : ℕ) (badge : Badge) (w after : Waits) → after ≡ after_cancel_badge e badge w →
    (sends : List SendRecord) (receives : List ReceiveRecord) → w.queue e ≡ waiting_list sends receives →
    after.queue e ≡ waiting_less (is_sent_with badge) (λ _. false) sends receives
badge_by_histories e badge w after is sends receives queue =
    waits_less (is_sender_with badge) (is_sent_with badge) (λ _. false) (λ s. refl) (λ a. refl) sends receives (w.queue e) (after.queue e)
    (ap (λ (v : Waits). v.queue e) is ∙ at_itself e (others (is_sender_with badge) (w.queue e)) w.queue) queue

pub endpoint_by_histories : (e : ℕ) (w after : Waits) → after ≡ after_cancel_endpoint e w →
    (sends : List SendRecord) (receives : List ReceiveRecord) → w.queue e ≡ waiting_list sends receives →
    after.queue e ≡ waiting_less (λ _. true) (λ _. true) sends receives
endpoint_by_histories e w after is sends receives queue =
    waits_less (λ _. true) (λ _. true) (λ _. true) (λ s. refl) (λ a. refl) sends receives (w.queue e) (after.queue e)
    (ap (λ (v : Waits). v.queue e) is ∙ at_itself e [] w.queue ∙ sym (nobody_left (w.queue e))) queue

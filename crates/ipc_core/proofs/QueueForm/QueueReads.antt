-- What is read along a queue in tables.
use Rattle.std.proofs.Common.{◌≡◌, ℕ, ◌+◌, ◌≤◌, zero, suc, List, [], ◌∷◌, map, Option, Some, None, option_map, slice_get, refl, sym, ap, subst, ◌∙◌, arith}
use Rattle.std.specs.List.{AllByRecursion as Each}
use Rattle.cap_core.specs.declared.profile.ProfileName.{ProfileName}
use Rattle.cap_core.specs.declared.message.Message.{Message}
use Rattle.cap_core.specs.declared.capability.Badge.{Badge}
use Rattle.cap_core.specs.Numbers.{tcb_size}
use Rattle.ipc_core.specs.declared.waiter.Waiter.{Waiter}
use Rattle.ipc_core.specs.declared.waiter.Role.{Role}
use Rattle.ipc_core.specs.declared.waiter.Role.TheVariants.{Sending, Receiving}
use Rattle.ipc_core.specs.declared.tables.Tables.{Tables}
use Rattle.ipc_core.specs.Waits.{thread_of, endpoint_of, first_receiver, first_sender, IsNextBehind}
use Rattle.ipc_core.specs.Representation.Chains.{IsChain}
use Rattle.ipc_core.specs.Representation.Linked.{Links, HasRow, links_of, waiter_in, waiter_of, orders_in, waits_in, IsLinked, receiver_by, receiver_in, offer_by, offer_in}
use Rattle.ipc_core.proofs.QueueForm.Chains.{chain-head, head_of}
use Rattle.ipc_core.proofs.QueueForm.Queues.{some_of, thread_of_waiter}

each_get : (P : ℕ → Type 0) (list : List ℕ) (i t : ℕ) → Each P list → slice_get list i ≡ Some t → P t
each_get P [] i t all is = cc
each_get P (x ∷ list) zero t all is = let d : x ≡ t = cc in subst P d all.0
each_get P (x ∷ list) (suc i) t all is = each_get P list i t all.1 is

pub head_get : (list : List ℕ) → head_of list ≡ slice_get list 0
head_get [] = refl
head_get (x ∷ list) = refl

chain_next : (f g : ℕ → Option ℕ) (before here : Option ℕ) (list : List ℕ) (last : Option ℕ) → IsChain f g before here list last →
    (i t : ℕ) → slice_get list i ≡ Some t → f t ≡ slice_get list (suc i)
chain_next f g before here [] last c i t is = cc
chain_next f g before here (x ∷ list) last c zero t is =
    let d : x ≡ t = cc in
    ap f (sym d) ∙ chain-head f g (Some x) (f x) list last c.2 ∙ head_get list
chain_next f g before here (x ∷ list) last c (suc i) t is = chain_next f g (Some x) (f x) list last c.2 i t is

none_past : {X : Type 0} (list : List X) (i j : ℕ) → i ≤ j → slice_get list i ≡ None → slice_get list j ≡ None
none_past [] i j le is = refl
none_past (x ∷ list) zero j le is = cc
none_past (x ∷ list) (suc i) zero le is = absurd (omega arith)
none_past (x ∷ list) (suc i) (suc j) le is = none_past list i j (omega arith) is

pub get_map : {X Y : Type 0} (f : X → Y) (list : List X) (i : ℕ) → slice_get (map f list) i ≡ option_map f (slice_get list i)
get_map f [] i = refl
get_map f (x ∷ list) zero = refl
get_map f (x ∷ list) (suc i) = get_map f list i

module _ (p : ProfileName) (tables : Tables) (linked : IsLinked p tables) (e : ℕ) where
  abbrev l : Links
  l = links_of p tables

  abbrev order : List ℕ
  order = orders_in p tables e

  pub first_is : (l.endpoint e).first ≡ slice_get order 0
  first_is = chain-head (λ t. (l.thread t).next) (λ t. (l.thread t).previous) None (l.endpoint e).first order (l.endpoint e).last (linked.chain e) ∙ head_get order

  member : (i t : ℕ) → slice_get order i ≡ Some t → option_map endpoint_of (l.thread t).role ≡ Some e
  member i t is = each_get (λ t. option_map endpoint_of (l.thread t).role ≡ Some e) order i t (linked.members e) is

  pub member_row : (i t : ℕ) → slice_get order i ≡ Some t → HasRow (tcb_size p) tables.threads.items t
  member_row i t is =
      let some = some_of endpoint_of (l.thread t).role e (member i t is) in
      let place = linked.placed t some.0 some.1 in
      record { aligned = place.0; within = place.1 }

  pub next_is : (i t : ℕ) → slice_get order i ≡ Some t → (l.thread t).next ≡ slice_get order (suc i)
  next_is i t is = chain_next (λ t. (l.thread t).next) (λ t. (l.thread t).previous) None (l.endpoint e).first order (l.endpoint e).last (linked.chain e) i t is

  pub nobody_at : (i j : ℕ) → i ≤ j → slice_get order i ≡ None → slice_get order j ≡ None
  nobody_at i j le is = none_past order i j le is

  abbrev waiter : ℕ → Waiter
  waiter t = waiter_of (l.thread t) t

  pub no_receiver : slice_get order 0 ≡ None → first_receiver (map waiter order) ≡ None
  no_receiver is = none order is
    where
      none : (list : List ℕ) → slice_get list 0 ≡ None → first_receiver (map waiter list) ≡ None
      none [] is = refl
      none (x ∷ list) is = cc

  pub receiver_is : (t : ℕ) → slice_get order 0 ≡ Some t → receiver_in t (l.thread t) ≡ first_receiver (map waiter order)
  receiver_is t is = some order is (member 0 t is)
    where
      by_role : (x : ℕ) (badge : Badge) (message : Message) (rest : List Waiter) (o : Option Role) → option_map endpoint_of o ≡ Some e → receiver_by x o ≡ first_receiver (waiter_in x badge message o ∷ rest)
      by_role x badge message rest None at = cc
      by_role x badge message rest (Some (Sending e')) at = refl
      by_role x badge message rest (Some (Receiving e')) at = refl

      some : (list : List ℕ) → slice_get list 0 ≡ Some t → option_map endpoint_of (l.thread t).role ≡ Some e → receiver_in t (l.thread t) ≡ first_receiver (map waiter list)
      some [] is at = cc
      some (x ∷ list) is at =
          let d : x ≡ t = cc in
          by_role t (l.thread t).badge (l.thread t).message (map waiter list) (l.thread t).role at ∙ ap (λ y. first_receiver (waiter y ∷ map waiter list)) (sym d)

  pub no_sender : slice_get order 0 ≡ None → first_sender (map waiter order) ≡ None
  no_sender is = none order is
    where
      none : (list : List ℕ) → slice_get list 0 ≡ None → first_sender (map waiter list) ≡ None
      none [] is = refl
      none (x ∷ list) is = cc

  pub sender_is : (t : ℕ) → slice_get order 0 ≡ Some t → offer_in t (l.thread t) ≡ first_sender (map waiter order)
  sender_is t is = some order is (member 0 t is)
    where
      by_role : (x : ℕ) (badge : Badge) (message : Message) (rest : List Waiter) (o : Option Role) → option_map endpoint_of o ≡ Some e → offer_by x badge message o ≡ first_sender (waiter_in x badge message o ∷ rest)
      by_role x badge message rest None at = cc
      by_role x badge message rest (Some (Sending e')) at = refl
      by_role x badge message rest (Some (Receiving e')) at = refl

      some : (list : List ℕ) → slice_get list 0 ≡ Some t → option_map endpoint_of (l.thread t).role ≡ Some e → offer_in t (l.thread t) ≡ first_sender (map waiter list)
      some [] is at = cc
      some (x ∷ list) is at =
          let d : x ≡ t = cc in
          by_role t (l.thread t).badge (l.thread t).message (map waiter list) (l.thread t).role at ∙ ap (λ y. first_sender (waiter y ∷ map waiter list)) (sym d)

  -- the thread at a place, whether read off the queue or off who waits
  there : (list : List ℕ) (i : ℕ) → option_map thread_of (slice_get (map waiter list) i) ≡ slice_get list i
  there [] i = refl
  there (t ∷ list) zero = ap Some (thread_of_waiter (l.thread t) t)
  there (t ∷ list) (suc i) = there list i

  pub queue_behind : (t : ℕ) → IsNextBehind (waits_in p tables) t (l.thread t).next
  queue_behind t = λ q i is.
      let more : suc i ≡ i + 1 = omega arith in
      chain_next (λ t. (l.thread t).next) (λ t. (l.thread t).previous) None (l.endpoint q).first (orders_in p tables q) (l.endpoint q).last (linked.chain q) i t
      (sym (there (orders_in p tables q) i) ∙ is)
      ∙ sym (there (orders_in p tables q) (suc i)) ∙ ap (λ k. option_map thread_of (slice_get (map waiter (orders_in p tables q)) k)) more

  pub free_behind : (t : ℕ) → (l.thread t).role ≡ None → IsNextBehind (waits_in p tables) t None
  free_behind t free = λ q i is.
      let at : option_map endpoint_of (l.thread t).role ≡ Some q =
      each_get (λ t. option_map endpoint_of (l.thread t).role ≡ Some q) (orders_in p tables q) i t (linked.members q) (sym (there (orders_in p tables q) i) ∙ is) in
      absurd (let none : option_map endpoint_of None ≡ Some q = sym (ap (option_map endpoint_of) free) ∙ at in cc)

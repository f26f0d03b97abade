-- The loops that cancel on an endpoint, in tables.
use Rattle.std.proofs.Common.{◌≡◌, ◌≢◌, ℕ, ◌+◌, ◌<◌, ◌≤◌, Bool, true, false, List, [], ◌∷◌, ◌++◌, length, Option, Some, None, option_map, refl, sym, ap, subst, ◌∙◌, arith, length-append, append_assoc}
use Rattle.std.proofs.lemmas.List.{append-nil}
use Rattle.std.specs.List.{AllByRecursion as Each}
use Rattle.cap_core.specs.declared.profile.ProfileName.{ProfileName}
use Rattle.cap_core.specs.Numbers.{tcb_size}
use Rattle.ipc_core.specs.declared.waiter.Waiter.{Waiter}
use Rattle.ipc_core.specs.declared.tables.Tables.{Tables}
use Rattle.ipc_core.specs.Waits.{endpoint_of}
use Rattle.ipc_core.specs.Cancelled.{others, after_cancel, after_cancel_thread, after_cancel_endpoint}
use Rattle.ipc_core.specs.Representation.Chains.{IsChain, Lacks, IsApart, walk, removed}
use Rattle.ipc_core.specs.Representation.Linked.{Links, HasRow, links_of, waiter_of, orders_in, waits_in, IsLinked}
use Rattle.ipc_core.proofs.QueueForm.Chains.{chain-head, chain-rest, head_of, walk_is, each-right_part, lacks_front, apart-right_part}
use Rattle.ipc_core.proofs.QueueForm.Queues.{some_of, thread_of_waiter, lacks_from, queue_short, removed_is}
use Rattle.ipc_core.proofs.QueueForm.Emptied.{cancelled_first, nothing_cancelled, none_others, none_those}
use Rattle.ipc_core.proofs.RowForm.Kept.{all_leave}

-- the rest of a queue that is being walked
pub record StandsAt (p : ProfileName) (tables : Tables) (e : ℕ) (here : Option ℕ) (passed : ℕ → Type 0) : Type 0 where
  pub done : List ℕ
  pub todo : List ℕ
  pub split : orders_in p tables e ≡ done ++ todo
  pub at : here ≡ head_of todo
  pub all_passed : Each passed done

module _ (p : ProfileName) (tables : Tables) (linked : IsLinked p tables) (e t : ℕ) (names : Waiter → Bool) where
  abbrev l : Links
  l = links_of p tables

  abbrev waiter : ℕ → Waiter
  waiter i = waiter_of (l.thread i) i

  -- one of the queue that is named is taken out
  pub names_first : (done rest : List ℕ) → orders_in p tables e ≡ done ++ t ∷ rest → names (waiter t) ≡ true →
      after_cancel e names (after_cancel_thread t (waits_in p tables)) ≡ after_cancel e names (waits_in p tables)
  names_first done rest split named =
      cancelled_first waiter (λ i. thread_of_waiter (l.thread i) i) names t (waits_in p tables) (orders_in p tables) e done rest refl split away named
    where
      at_e : option_map endpoint_of (l.thread t).role ≡ Some e
      at_e = (each-right_part (λ i. option_map endpoint_of (l.thread i).role ≡ Some e) done (t ∷ rest) (subst (Each (λ i. option_map endpoint_of (l.thread i).role ≡ Some e)) split (linked.members e))).0

      away : (q : ℕ) → q ≢ e → Lacks t (orders_in p tables q)
      away q ne = lacks_from l t q (orders_in p tables q) (λ at_q. ne (let same : Some q ≡ Some e = sym at_q ∙ at_e in let d : q ≡ e = cc in d)) (linked.members q)

  pub names_none : Each (λ i. names (waiter i) ≡ false) (orders_in p tables e) → after_cancel e names (waits_in p tables) ≡ waits_in p tables
  names_none none =
      nothing_cancelled (waits_in p tables) e names (none_others waiter names (orders_in p tables e) none) (none_those waiter names (orders_in p tables e) none)

  -- what comes after it
  pub next_rest : (done rest : List ℕ) → orders_in p tables e ≡ done ++ t ∷ rest → (l.thread t).next ≡ head_of rest
  next_rest done rest split =
      chain-head (λ i. (l.thread i).next) (λ i. (l.thread i).previous) (Some t) (l.thread t).next rest (l.endpoint e).last
      (chain-rest (λ i. (l.thread i).next) (λ i. (l.thread i).previous) None (l.endpoint e).first done t rest (l.endpoint e).last
      (subst (λ m. IsChain (λ i. (l.thread i).next) (λ i. (l.thread i).previous) None (l.endpoint e).first m (l.endpoint e).last) split (linked.chain e)))

  pub removed_rest : (done rest : List ℕ) → orders_in p tables e ≡ done ++ t ∷ rest → removed t (orders_in p tables e) ≡ done ++ rest
  removed_rest done rest split =
      let apart : IsApart (done ++ t ∷ rest) = subst IsApart split (linked.apart e) in
      ap (removed t) split ∙ removed_is done t rest (lacks_front done t rest apart) (apart-right_part done (t ∷ rest) apart).0

  -- the walk from there is the rest of the queue
  pub walk_rest : (done todo : List ℕ) → orders_in p tables e ≡ done ++ todo → walk (λ i. (l.thread i).next) (length tables.threads.items) (head_of todo) ≡ todo
  walk_rest done todo split =
      suffix done None (l.endpoint e).first
      (subst (λ m. IsChain (λ i. (l.thread i).next) (λ i. (l.thread i).previous) None (l.endpoint e).first m (l.endpoint e).last) split (linked.chain e))
    where
      short : length todo ≤ length tables.threads.items
      short =
          let all : length (orders_in p tables e) ≤ length tables.threads.items = queue_short (tcb_size p) (length tables.threads.items) l (orders_in p tables) linked e in
          let parts : length (orders_in p tables e) ≡ length done + length todo = ap length split ∙ length-append done todo in
          omega arith

      suffix : (front : List ℕ) (before here : Option ℕ) → IsChain (λ i. (l.thread i).next) (λ i. (l.thread i).previous) before here (front ++ todo) (l.endpoint e).last →
          walk (λ i. (l.thread i).next) (length tables.threads.items) (head_of todo) ≡ todo
      suffix [] before here c =
          let at : here ≡ head_of todo = chain-head (λ i. (l.thread i).next) (λ i. (l.thread i).previous) before here todo (l.endpoint e).last c in
          walk_is (λ i. (l.thread i).next) (λ i. (l.thread i).previous) before (head_of todo) todo (l.endpoint e).last (length tables.threads.items)
          (subst (λ h. IsChain (λ i. (l.thread i).next) (λ i. (l.thread i).previous) before h todo (l.endpoint e).last) at c) short
      suffix (x ∷ front) before here c = suffix front (Some x) (l.thread x).next c.2

-- the first of a queue
pub starts_with : (list : List ℕ) (t : ℕ) → head_of list ≡ Some t → (rest : List ℕ) × (list ≡ t ∷ rest)
starts_with [] t is = cc
starts_with (x ∷ rest) t is = (rest, (let d : x ≡ t = cc in ap (λ y. y ∷ rest) d))

pub ends_at : (list : List ℕ) → head_of list ≡ None → list ≡ []
ends_at [] is = refl
ends_at (x ∷ rest) is = cc

pub first_of_queue : (p : ProfileName) (tables : Tables) (linked : IsLinked p tables) (e : ℕ) → ((links_of p tables).endpoint e).first ≡ head_of (orders_in p tables e)
first_of_queue p tables linked e =
    let l : Links = links_of p tables in
    chain-head (λ t. (l.thread t).next) (λ t. (l.thread t).previous) None (l.endpoint e).first (orders_in p tables e) (l.endpoint e).last (linked.chain e)

-- all that wait on an endpoint, one after another
pub first_leaves : (p : ProfileName) (a b : Tables) (linked : IsLinked p a) (e t : ℕ) → ((links_of p a).endpoint e).first ≡ Some t → waits_in p b ≡ after_cancel_thread t (waits_in p a) →
    after_cancel_endpoint e (waits_in p b) ≡ after_cancel_endpoint e (waits_in p a)
first_leaves p a b linked e t first out =
    let queue = starts_with (orders_in p a e) t (sym (first_of_queue p a linked e) ∙ first) in
    ap (after_cancel_endpoint e) out
    ∙ sym (all_leave e (after_cancel_thread t (waits_in p a)))
    ∙ names_first p a linked e t (λ _. true) [] queue.0 queue.1 refl
    ∙ all_leave e (waits_in p a)

pub nobody_leaves : (p : ProfileName) (a : Tables) (linked : IsLinked p a) (e : ℕ) → ((links_of p a).endpoint e).first ≡ None → after_cancel_endpoint e (waits_in p a) ≡ waits_in p a
nobody_leaves p a linked e first =
    let empty : orders_in p a e ≡ [] = ends_at (orders_in p a e) (sym (first_of_queue p a linked e) ∙ first) in
    sym (all_leave e (waits_in p a))
    ∙ names_none p a linked e 0 (λ _. true) (subst (Each (λ i. true ≡ false)) (sym empty) tt)

pub one_more : (t : ℕ) (list : List ℕ) → length (t ∷ list) ≡ length list + 1
one_more t list = omega arith

pub shorter_queue : (p : ProfileName) (a b : Tables) (linked : IsLinked p a) (e t : ℕ) → ((links_of p a).endpoint e).first ≡ Some t → orders_in p b ≡ (λ q. removed t (orders_in p a q)) →
    length (orders_in p b e) < length (orders_in p a e)
shorter_queue p a b linked e t first out =
    let queue = starts_with (orders_in p a e) t (sym (first_of_queue p a linked e) ∙ first) in
    let rest : orders_in p b e ≡ queue.0 = ap (λ (g : ℕ → List ℕ). g e) out ∙ removed_rest p a linked e t (λ _. true) [] queue.0 queue.1 in
    let one : length (orders_in p a e) ≡ length queue.0 + 1 = ap length queue.1 ∙ one_more t queue.0 in
    let same : length (orders_in p b e) ≡ length queue.0 = ap length rest in
    omega arith

-- those of a badge, along the queue
abbrev pub NotNamed : ProfileName → Tables → (Waiter → Bool) → ℕ → Type 0
NotNamed p tables names i = names (waiter_of ((links_of p tables).thread i) i) ≡ false

abbrev pub StandsBefore : ProfileName → Tables → ℕ → Option ℕ → (Waiter → Bool) → Type 0
StandsBefore p tables e here names = StandsAt p tables e here (NotNamed p tables names)

each_snoc : (P : ℕ → Type 0) (list : List ℕ) (t : ℕ) → Each P list → P t → Each P (list ++ t ∷ [])
each_snoc P [] t all one = (one, tt)
each_snoc P (i ∷ list) t all one = (all.0, each_snoc P list t all.1 one)

each_others : (P Q : ℕ → Type 0) (t : ℕ) → ((i : ℕ) → i ≢ t → P i → Q i) → (list : List ℕ) → Lacks t list → Each P list → Each Q list
each_others P Q t h [] lacks all = tt
each_others P Q t h (i ∷ list) lacks all = (h i lacks.0 all.0, each_others P Q t h list lacks.1 all.1)

module _ (p : ProfileName) (a : Tables) (linked : IsLinked p a) (e t : ℕ) (here : Option ℕ) (names : Waiter → Bool) (stands : StandsBefore p a e here names) (is : here ≡ Some t) where
  abbrev done : List ℕ
  done = stands.done

  abbrev rest : List ℕ
  rest = (starts_with stands.todo t (sym stands.at ∙ is)).0

  abbrev todo_is : stands.todo ≡ t ∷ rest
  todo_is = (starts_with stands.todo t (sym stands.at ∙ is)).1

  split_here : orders_in p a e ≡ done ++ t ∷ rest
  split_here = stands.split ∙ ap (λ list. done ++ list) todo_is

  pub stands_past : (here' : Option ℕ) → here' ≡ ((links_of p a).thread t).next → names (waiter_of ((links_of p a).thread t) t) ≡ false → StandsBefore p a e here' names
  stands_past here' next unnamed =
      record {
        done = done ++ t ∷ [];
        todo = rest;
        split = split_here ∙ sym (append_assoc done (t ∷ []) rest);
        at = next ∙ next_rest p a linked e t names done rest split_here;
        all_passed = each_snoc (NotNamed p a names) done t stands.all_passed unnamed;
      }

  pub stands_out : (b : Tables) (here' : Option ℕ) → here' ≡ ((links_of p a).thread t).next → orders_in p b ≡ (λ q. removed t (orders_in p a q)) →
      ((i : ℕ) → i ≢ t → waiter_of ((links_of p b).thread i) i ≡ waiter_of ((links_of p a).thread i) i) → StandsBefore p b e here' names
  stands_out b here' next out others =
      record {
        done = done;
        todo = rest;
        split = ap (λ (g : ℕ → List ℕ). g e) out ∙ removed_rest p a linked e t names done rest split_here;
        at = next ∙ next_rest p a linked e t names done rest split_here;
        all_passed = each_others (NotNamed p a names) (NotNamed p b names) t (λ i ne unnamed. ap names (others i ne) ∙ unnamed) done
            (lacks_front done t rest (subst IsApart split_here (linked.apart e))) stands.all_passed;
      }

  shorter_walk : (b : Tables) (linked_b : IsLinked p b) (here' : Option ℕ) → here' ≡ ((links_of p a).thread t).next →
      ((front : List ℕ) × (orders_in p b e ≡ front ++ rest)) →
      length (walk (λ i. ((links_of p b).thread i).next) (length b.threads.items) here') < length (walk (λ i. ((links_of p a).thread i).next) (length a.threads.items) here)
  shorter_walk b linked_b here' next after =
      let before : walk (λ i. ((links_of p a).thread i).next) (length a.threads.items) here ≡ t ∷ rest =
      ap (walk (λ i. ((links_of p a).thread i).next) (length a.threads.items)) stands.at ∙ walk_rest p a linked e t names done stands.todo stands.split ∙ todo_is in
      let behind : walk (λ i. ((links_of p b).thread i).next) (length b.threads.items) here' ≡ rest =
      ap (walk (λ i. ((links_of p b).thread i).next) (length b.threads.items)) (next ∙ next_rest p a linked e t names done rest split_here) ∙ walk_rest p b linked_b e t names after.0 rest after.1 in
      let longer : length (walk (λ i. ((links_of p a).thread i).next) (length a.threads.items) here) ≡ length rest + 1 = ap length before ∙ one_more t rest in
      let same : length (walk (λ i. ((links_of p b).thread i).next) (length b.threads.items) here') ≡ length rest = ap length behind in
      omega arith

  pub shorter_past : (here' : Option ℕ) → here' ≡ ((links_of p a).thread t).next →
      length (walk (λ i. ((links_of p a).thread i).next) (length a.threads.items) here') < length (walk (λ i. ((links_of p a).thread i).next) (length a.threads.items) here)
  shorter_past here' next = shorter_walk a linked here' next (done ++ t ∷ [], split_here ∙ sym (append_assoc done (t ∷ []) rest))

  pub shorter_out : (b : Tables) (linked_b : IsLinked p b) (here' : Option ℕ) → here' ≡ ((links_of p a).thread t).next → orders_in p b ≡ (λ q. removed t (orders_in p a q)) →
      length (walk (λ i. ((links_of p b).thread i).next) (length b.threads.items) here') < length (walk (λ i. ((links_of p a).thread i).next) (length a.threads.items) here)
  shorter_out b linked_b here' next out =
      shorter_walk b linked_b here' next (done, ap (λ (g : ℕ → List ℕ). g e) out ∙ removed_rest p a linked e t names done rest split_here)

  pub named_leaves : (b : Tables) → waits_in p b ≡ after_cancel_thread t (waits_in p a) → names (waiter_of ((links_of p a).thread t) t) ≡ true →
      after_cancel e names (waits_in p b) ≡ after_cancel e names (waits_in p a)
  named_leaves b out named = ap (after_cancel e names) out ∙ names_first p a linked e t names done rest split_here named

  pub here_row : HasRow (tcb_size p) a.threads.items t
  here_row =
      let at = (each-right_part (λ i. option_map endpoint_of ((links_of p a).thread i).role ≡ Some e) done (t ∷ rest)
      (subst (Each (λ i. option_map endpoint_of ((links_of p a).thread i).role ≡ Some e)) split_here (linked.members e))).0 in
      let some = some_of endpoint_of ((links_of p a).thread t).role e at in
      let place = linked.placed t some.0 some.1 in
      record { aligned = place.0; within = place.1 }

pub at_end : (p : ProfileName) (a : Tables) (linked : IsLinked p a) (e : ℕ) (here : Option ℕ) (names : Waiter → Bool) (stands : StandsBefore p a e here names) → here ≡ None →
    after_cancel e names (waits_in p a) ≡ waits_in p a
at_end p a linked e here names stands is =
    let empty : stands.todo ≡ [] = ends_at stands.todo (sym stands.at ∙ is) in
    let all : orders_in p a e ≡ stands.done = stands.split ∙ ap (λ list. stands.done ++ list) empty ∙ append-nil stands.done in
    names_none p a linked e 0 names (subst (Each (NotNamed p a names)) (sym all) stands.all_passed)

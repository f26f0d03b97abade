-- Who waits, by what a kernel shows: its waiting lists and what its threads do agree.
use Rattle.std.proofs.Common.{◌≡◌, ◌≢◌, ℕ, ◌+◌, Bool, true, false, cond, List, [], ◌∷◌, map, Option, None, Some, IsSome, IsSomeAnd, option_map, slice_get, refl, sym, ap, subst, ◌∙◌}
use Rattle.std.proofs.lemmas.List.Elements.{recursion_from_All}
use Rattle.std.proofs.lemmas.Bool.{false≢true}
use Rattle.std.specs.List.{list_any, AllByRecursion as Each}
use Rattle.std.specs.FinMap.{get}
use Rattle.cap_core.specs.declared.profile.ProfileName.{ProfileName}
use Rattle.cap_core.specs.Distinct.{IsApart}
use Rattle.cap_core.specs.Numbers.{tcb_size}
use Rattle.kernel_forest.specs.Forest.{Forest}
use Rattle.kernel_forest.specs.Entries.{Entry}
use Rattle.ipc_core.specs.declared.waiter.Waiter.{Waiter}
use Rattle.ipc_core.specs.declared.waiter.Waiter.TheVariants.{Sender, Receiver}
use Rattle.ipc_core.specs.declared.waiter.Role.{Role}
use Rattle.ipc_core.specs.declared.waiter.Role.TheVariants as R
use Rattle.ipc_core.specs.Waits.{Waits, thread_of, role_at, endpoint_of, IsNextBehind}
use Rattle.ipc_core.specs.Cancelled.{is_thread}
use Rattle.ipc_core.specs.Offers.{offer_in, offer_as, offer_of}
use Rattle.ipc_core.specs.Agreement.{DoTheSame, AreRolesAndQueues}
use Rattle.kernel_abstract.specs.declared.call.ThreadState.TheVariants.{Ready, Inactive, Sending, Receiving}
use Rattle.kernel_abstract.specs.Shown.{Shown, state_at, waiting_at}
use Rattle.kernel_abstract.specs.Waiting.{state_in, thread_waiting, offer_where, offer_at, AreStatesAndLists, IsNextWaiting}
use Rattle.kernel_abstract.proofs.Lists.Places.{place_of, at_place}
use Rattle.kernel_core.specs.declared.rows.ThreadRow.{ThreadRow}
use Rattle.kernel_core.specs.Rows.{rows_map, kernel_shown, IsActive, IsKernel, state_with}
use Rattle.kernel_core.proofs.Messages.KernelParts.{waiting_is}
use Rattle.kernel_core.proofs.Messages.ShownMessages.{state_seen}

-- what is shown of a thread that has an active row and waits on an endpoint
shown_so : (e : ℕ) (x : Waiter) (o : Option ThreadRow) (r : Option Role) → IsSomeAnd o (λ (row : ThreadRow). row.inactive ≡ false) → r ≡ Some (role_at e x) →
    option_map (λ (row : ThreadRow). state_with r row.inactive) o ≡ Some (state_in e x)
shown_so e x None r active is = absurd active
shown_so e x (Some row) r active is = ap (λ (q : Option Role). Some (state_with q row.inactive)) is ∙ by x
  where
    by : (y : Waiter) → Some (state_with (Some (role_at e y)) row.inactive) ≡ Some (state_in e y)
    by (Sender thread badge message) = refl
    by (Receiver thread) = refl

-- the role of a thread that is shown to send, or to receive
sends_so : (e : ℕ) (o : Option ThreadRow) (r : Option Role) → option_map (λ (row : ThreadRow). state_with r row.inactive) o ≡ Some (Sending e) → r ≡ Some (R.Sending e)
sends_so e None r is = cc
sends_so e (Some row) None is = by row.inactive is
  where
    by : (b : Bool) → Some (cond b Inactive Ready) ≡ Some (Sending e) → None ≡ Some (R.Sending e)
    by true is = cc
    by false is = cc
sends_so e (Some row) (Some (R.Sending q)) is = let d : q ≡ e = cc in ap (λ n. Some (R.Sending n)) d
sends_so e (Some row) (Some (R.Receiving q)) is = cc

receives_so : (e : ℕ) (o : Option ThreadRow) (r : Option Role) → option_map (λ (row : ThreadRow). state_with r row.inactive) o ≡ Some (Receiving e) → r ≡ Some (R.Receiving e)
receives_so e None r is = cc
receives_so e (Some row) None is = by row.inactive is
  where
    by : (b : Bool) → Some (cond b Inactive Ready) ≡ Some (Receiving e) → None ≡ Some (R.Receiving e)
    by true is = cc
    by false is = cc
receives_so e (Some row) (Some (R.Sending q)) is = cc
receives_so e (Some row) (Some (R.Receiving q)) is = let d : q ≡ e = cc in ap (λ n. Some (R.Receiving n)) d

module _ (p : ProfileName) (memory store waiters : ℕ) (f : Forest Entry) (rows : List (Option ThreadRow)) (w : Waits) (kernel : IsKernel p memory store waiters f rows w) (agree : AreRolesAndQueues w)
    (v : Shown) (view : kernel_shown p f rows w ≡ v) where
  seen : (t : ℕ) → option_map (λ (row : ThreadRow). state_with (w.role t) row.inactive) (get (rows_map (tcb_size p) rows) t) ≡ state_at v t
  seen t = state_seen p f rows w v t (get (rows_map (tcb_size p) rows) t) view refl

  list_is : (e : ℕ) → waiting_at v e ≡ w.queue e
  list_is e = ap (λ (u : Shown). waiting_at u e) (sym view) ∙ waiting_is p memory store waiters f rows w kernel e

  active : (e : ℕ) → Each (λ (x : Waiter). IsActive (tcb_size p) rows (thread_of x)) (w.queue e)
  active e = recursion_from_All (λ (x : Waiter). IsActive (tcb_size p) rows (thread_of x)) (w.queue e) (kernel.waiting_active e)

  told : (e : ℕ) (l : List Waiter) → Each (λ (x : Waiter). IsActive (tcb_size p) rows (thread_of x)) l → Each (λ (x : Waiter). w.role (thread_of x) ≡ Some (role_at e x)) l →
      Each (λ (x : Waiter). state_at v (thread_of x) ≡ Some (state_in e x)) l
  told e [] rowed roles = tt
  told e (x ∷ l) rowed roles = (sym (seen (thread_of x)) ∙ shown_so e x _ _ rowed.0 roles.0, told e l rowed.1 roles.1)

  pub states_agree : AreStatesAndLists v
  states_agree = record {
    listed = λ e. subst (Each (λ (x : Waiter). state_at v (thread_of x) ≡ Some (state_in e x))) (sym (list_is e)) (told e (w.queue e) (active e) (agree.queued e));
    sends = λ t e is. ap (list_any (is_thread t)) (list_is e) ∙ agree.waits t (R.Sending e) (sends_so e _ _ (seen t ∙ is));
    receives = λ t e is. ap (list_any (is_thread t)) (list_is e) ∙ agree.waits t (R.Receiving e) (receives_so e _ _ (seen t ∙ is));
    once = λ e. subst (λ (l : List Waiter). IsApart (map thread_of l)) (sym (list_is e)) (agree.once e);
    alike = λ e. subst DoTheSame (sym (list_is e)) (agree.alike.queue e);
  }

  at_is : (e place : ℕ) → thread_waiting v e place ≡ option_map thread_of (slice_get (w.queue e) place)
  at_is e place = ap (λ (l : List Waiter). option_map thread_of (slice_get l place)) (list_is e)

  -- who comes next in the queues is who waits next
  pub next_shown : (t : ℕ) (next : Option ℕ) → IsNextBehind w t next → (w.role t ≡ None → next ≡ None) → IsNextWaiting v t next
  next_shown t next behind free = record {
    behind = λ e place at. behind e place (sym (at_is e place) ∙ at) ∙ sym (at_is e (place + 1));
    nowhere = λ none. free (by none (w.role t) refl);
  }
    where
      by : ((e place : ℕ) → thread_waiting v e place ≢ Some t) → (r : Option Role) → w.role t ≡ r → r ≡ None
      by none None is = refl
      by none (Some r) is =
          let found = place_of t (w.queue (endpoint_of r)) (agree.waits t r is) in
          absurd (none (endpoint_of r) found.0 (at_is (endpoint_of r) found.0 ∙ found.1))

  -- a thread that has no row waits nowhere
  pub none_next : (t : ℕ) → get (rows_map (tcb_size p) rows) t ≡ None → IsNextWaiting v t None
  none_next t rowless = next_shown t None away (λ free. refl)
    where
      away : IsNextBehind w t None
      away = λ e place at.
          absurd (subst (λ (o : Option ThreadRow). IsSomeAnd o (λ (row : ThreadRow). row.inactive ≡ false)) rowless (at_place (IsActive (tcb_size p) rows) (w.queue e) place t (active e) at))

  -- what a thread sends by its role and the queues is what it is shown to send
  pub offer_shown : (t : ℕ) → IsSome (get (rows_map (tcb_size p) rows) t) → offer_of w t ≡ offer_at v t
  offer_shown t there = by (get (rows_map (tcb_size p) rows) t) (w.role t) there ∙ ap (λ s. offer_where s t v) (seen t)
    where
      idle : (b : Bool) → None ≡ offer_where (Some (cond b Inactive Ready)) t v
      idle true = refl
      idle false = refl

      by : (o : Option ThreadRow) (r : Option Role) → IsSome o → offer_as r t w ≡ offer_where (option_map (λ (row : ThreadRow). state_with r row.inactive) o) t v
      by None r there = absurd (false≢true there)
      by (Some row) None there = idle row.inactive
      by (Some row) (Some (R.Sending e)) there = ap (offer_in t) (sym (list_is e))
      by (Some row) (Some (R.Receiving e)) there = refl

  -- a thread that has no row sends nothing
  pub none_offered : (t : ℕ) → get (rows_map (tcb_size p) rows) t ≡ None → None ≡ offer_at v t
  none_offered t rowless =
      ap (λ (o : Option ThreadRow). offer_where (option_map (λ (row : ThreadRow). state_with (w.role t) row.inactive) o) t v) (sym rowless)
      ∙ ap (λ s. offer_where s t v) (seen t)

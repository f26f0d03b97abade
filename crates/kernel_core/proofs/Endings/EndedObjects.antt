-- What is left of the threads where an endpoint ends, and where a thread does.
use Rattle.std.proofs.Common.{◌≡◌, ℕ, ◌/◌, ◌%◌, ◌<◌, ◌*◌, ◌^◌, Bool, true, false, cond, ◌==◌, List, [], ◌∷◌, length, Option, None, Some, option_map, refl, sym, ap, subst, ◌∙◌, inl, inr, eq-eqb}
use Rattle.std.proofs.lemmas.Bool.{ne_eqb, false≢true, eqb-true}
use Rattle.std.proofs.lemmas.Bool.Decides.{eqb_tells}
use Rattle.std.proofs.Math.ListN.{set}
use Rattle.std.proofs.Math.Nat.{div-lt_iff_lt-mul}
use Rattle.std.specs.List.{list_any, AllByRecursion as Each}
use Rattle.std.specs.FinMap.{get}
use Rattle.cap_core.specs.declared.profile.ProfileName.{ProfileName}
use Rattle.cap_core.specs.declared.capability.Cap.{Cap}
use Rattle.cap_core.specs.declared.capability.Cap.TheVariants.{Endpoint, Tcb}
use Rattle.cap_core.specs.declared.capability.Badge.{Badge}
use Rattle.cap_core.specs.declared.rights.Rights.{Rights}
use Rattle.cap_core.specs.Objects.{same_object}
use Rattle.cap_core.specs.Rights.{all_rights}
use Rattle.cap_core.specs.Numbers.{tcb_size}
use Rattle.ipc_core.specs.declared.waiter.Waiter.{Waiter}
use Rattle.ipc_core.specs.declared.waiter.Waiter.TheVariants.{Sender, Receiver}
use Rattle.ipc_core.specs.declared.waiter.Role.{Role}
use Rattle.ipc_core.specs.Waits.{Waits, IsEndpointAddress, IsThreadAddress, thread_of, role_at, endpoint_of}
use Rattle.ipc_core.specs.Cancelled.{is_thread, others, after_cancel_thread, after_cancel_endpoint}
use Rattle.ipc_core.specs.Agreement.{AreRolesAndQueues}
use Rattle.kernel_delete.proofs.Members.{same_truth, either_true}
use Rattle.kernel_core.specs.declared.rows.ThreadRow.{ThreadRow}
use Rattle.kernel_core.specs.Rows.{rows_map}
use Rattle.kernel_core.specs.Private.Ended.{AreLeft, HaveEnded, is_endpoint_at, is_thread_at, ends_endpoint, ends_thread, role_left}
use Rattle.cap_core.proofs.Sizes.{tcb_size-pos}
use Rattle.kernel_core.proofs.Threads.KeyedRows.{row_set}

pub eqb_swap : (a b : ℕ) → (a == b) ≡ (b == a)
eqb_swap a b = elim (eqb_tells a b) [
  | inl w ↦ w.0 ∙ sym (eq-eqb b a (sym w.1))
  | inr w ↦ w.0 ∙ sym (ne_eqb b a (λ s. w.1 (sym s)))
]

role_there : (e : ℕ) (x : Waiter) → endpoint_of (role_at e x) ≡ e
role_there e (Sender thread badge message) = refl
role_there e (Receiver thread) = refl

-- who waits on an endpoint has a role there
role_among : (e t : ℕ) (role : ℕ → Option Role) (l : List Waiter) → Each (λ x. role (thread_of x) ≡ Some (role_at e x)) l → list_any (is_thread t) l ≡ true →
    option_map endpoint_of (role t) ≡ Some e
role_among e t role [] each h = absurd (false≢true h)
role_among e t role (x ∷ l) each h = elim (either_true (is_thread t x) (list_any (is_thread t) l) h) [
  | inl here ↦ ap (λ n. option_map endpoint_of (role n)) (sym (eqb-true (thread_of x) t here)) ∙ ap (option_map endpoint_of) each.0 ∙ ap Some (role_there e x)
  | inr there ↦ role_among e t role l each.1 there
]

pub waits_there : (w : Waits) → AreRolesAndQueues w → (e t : ℕ) → list_any (is_thread t) (w.queue e) ≡ true → option_map endpoint_of (w.role t) ≡ Some e
waits_there w agree e t h = role_among e t w.role (w.queue e) (agree.queued e) h

others_none : (l : List Waiter) → others (λ x. false) l ≡ l
others_none [] = refl
others_none (x ∷ l) = ap (λ k. x ∷ k) (others_none l)

-- nobody waits any more on an endpoint that ended
module _ (e : ℕ) (w : Waits) (agree : AreRolesAndQueues w) where
  waits_here : (t : ℕ) (r : Role) → w.role t ≡ Some r → list_any (is_thread t) (w.queue e) ≡ (e == endpoint_of r)
  waits_here t r is = same_truth (list_any (is_thread t) (w.queue e)) (e == endpoint_of r)
      (λ h. let at : Some (endpoint_of r) ≡ Some e = sym (ap (option_map endpoint_of) is) ∙ waits_there w agree e t h in
      let same : endpoint_of r ≡ e = cc in
      eq-eqb e (endpoint_of r) (sym same))
      (λ h. subst (λ n. list_any (is_thread t) (w.queue n) ≡ true) (sym (eqb-true e (endpoint_of r) h)) (agree.waits t r is))

  none_either : (b : Bool) (o : Option Role) → o ≡ None → cond b None o ≡ None
  none_either true o h = refl
  none_either false o h = h

  role_less : (t : ℕ) (o : Option Role) → w.role t ≡ o → cond (list_any (is_thread t) (w.queue e)) None o ≡ role_left (is_endpoint_at e) o
  role_less t None is = none_either (list_any (is_thread t) (w.queue e)) None refl
  role_less t (Some r) is = ap (λ b. cond b None (Some r)) (waits_here t r is)

  pub endpoint_left : (p : ProfileName) (memory memory' : ℕ) (rows rows' : List (Option ThreadRow)) (w' : Waits) → memory' ≡ memory → rows' ≡ rows → w' ≡ after_cancel_endpoint e w →
      AreLeft p (is_endpoint_at e) memory memory' rows rows' w w'
  endpoint_left p memory memory' rows rows' w' same kept is =
      subst (λ u. AreLeft p (is_endpoint_at e) memory memory' rows rows' w u) (sym is) (record {
        memory_is = same;
        rows_left = λ t. ap (λ l. get (rows_map (tcb_size p) l) t) kept;
        queues_left = λ q. (λ i. cond (eqb_swap q e i) [] (sym (others_none (w.queue q)) i));
        roles_left = λ t. role_less t (w.role t) refl;
      })

-- a thread that ended waits no more, and its row goes
pub thread_left : (p : ProfileName) (memory memory' place t : ℕ) (rows : List (Option ThreadRow)) (w w' : Waits) → memory' ≡ memory → w' ≡ after_cancel_thread t w →
    place ≡ t / tcb_size p → t % tcb_size p ≡ 0 → t / tcb_size p < length rows → AreLeft p (is_thread_at t) memory memory' rows (set rows place None) w w'
thread_left p memory memory' place t rows w w' same is at aligned within =
    subst (λ u. AreLeft p (is_thread_at t) memory memory' rows (set rows place None) w u) (sym is) (record {
      memory_is = same;
      rows_left = λ q. ap (λ n. get (rows_map (tcb_size p) (set rows n None)) q) at ∙ row_set (tcb_size p) t rows None (tcb_size-pos p) aligned within q
          ∙ ap (λ b. cond b None (get (rows_map (tcb_size p) rows) q)) (eqb_swap q t);
      queues_left = λ q. (λ i. others (λ x. eqb_swap (thread_of x) t i) (w.queue q));
      roles_left = λ q. (λ i. cond (eqb_swap q t i) None (sym (role_kept (w.role q)) i));
    })
  where
    role_kept : (o : Option Role) → role_left (is_thread_at t) o ≡ o
    role_kept None = refl
    role_kept (Some r) = refl

-- a place among the rows that fill a memory
pub row_within : (p : ProfileName) (t memory : ℕ) (rows : List (Option ThreadRow)) → length rows * tcb_size p ≡ 2 ^ memory → t < 2 ^ memory → t / tcb_size p < length rows
row_within p t memory rows fill lt = (div-lt_iff_lt-mul {k = tcb_size p} {x = t} {y = length rows} (tcb_size-pos p)).1 (subst (λ n. t < n) (sym fill) lt)

-- the object that a capability names has ended, by the kind of the capability
module _ (p : ProfileName) (memory memory' : ℕ) (rows rows' : List (Option ThreadRow)) (w w' : Waits) where
  pub endpoint_ended : (cap : Cap) (base : ℕ) (badge : Badge) (rights : Rights) → cap ≡ Endpoint base badge rights →
      (IsEndpointAddress p memory base → AreLeft p (is_endpoint_at base) memory memory' rows rows' w w') → HaveEnded p (same_object cap) memory memory' rows rows' w w'
  endpoint_ended cap base badge rights is after =
      subst (λ (c : Cap). HaveEnded p (same_object c) memory memory' rows rows' w w') (sym is)
      (λ stands. let left = after (stands (Endpoint base (record { 0 = 0 }) all_rights) (eq-eqb base base refl)) in
      record { memory_is = left.memory_is; rows_left = left.rows_left; queues_left = left.queues_left; roles_left = left.roles_left })

  pub thread_ended : (cap : Cap) (base : ℕ) → cap ≡ Tcb base →
      (IsThreadAddress p memory base → AreLeft p (is_thread_at base) memory memory' rows rows' w w') → HaveEnded p (same_object cap) memory memory' rows rows' w w'
  thread_ended cap base is after =
      subst (λ (c : Cap). HaveEnded p (same_object c) memory memory' rows rows' w w') (sym is) (λ stands. after (stands (Tcb base) (eq-eqb base base refl)))

role_stays : (ended : Cap → Bool) → ((e : ℕ) → ends_endpoint ended e ≡ false) → (o : Option Role) → role_left ended o ≡ o
role_stays ended h None = refl
role_stays ended h (Some r) = ap (λ b. cond b None (Some r)) (h (endpoint_of r))

-- the object was neither an endpoint nor a thread
pub other_ended : (p : ProfileName) (memory : ℕ) (rows : List (Option ThreadRow)) (w : Waits) (ended : Cap → Bool) →
    ((e : ℕ) → ends_endpoint ended e ≡ false) → ((t : ℕ) → ends_thread ended t ≡ false) → HaveEnded p ended memory memory rows rows w w
other_ended p memory rows w ended endpoints threads stands = record {
  memory_is = refl;
  rows_left = λ t. sym (ap (λ b. cond b None (get (rows_map (tcb_size p) rows) t)) (threads t));
  queues_left = λ e. sym ((λ i. cond (endpoints e i) [] (others (λ x. threads (thread_of x) i) (w.queue e))) ∙ others_none (w.queue e));
  roles_left = λ t. sym ((λ i. cond (threads t i) None (role_left ended (w.role t))) ∙ role_stays ended endpoints (w.role t));
}

-- These serve the proofs of private functions, no public contract cites them: no object that ends leaves the threads as they
-- are, and what ends one after another has ended at once.
use Rattle.std.proofs.Common.{◌≡◌, ℕ, Bool, true, false, not, cond, ◌||◌, List, [], ◌∷◌, Option, None, Some, refl, sym, ap, subst, ◌∙◌}
use Rattle.cap_core.specs.declared.profile.ProfileName.{ProfileName}
use Rattle.cap_core.specs.declared.capability.Cap.{Cap}
use Rattle.ipc_core.specs.declared.waiter.Waiter.{Waiter}
use Rattle.ipc_core.specs.declared.waiter.Role.{Role}
use Rattle.ipc_core.specs.Waits.{Waits, thread_of, endpoint_of}
use Rattle.ipc_core.specs.Cancelled.{others}
use Rattle.kernel_delete.specs.Calls.{either}
use Rattle.kernel_core.specs.declared.rows.ThreadRow.{ThreadRow}
use Rattle.kernel_core.specs.Private.Ended.{HaveEnded, StandsIn, ends_endpoint, ends_thread, role_left}

others_none : (l : List Waiter) → others (λ x. false) l ≡ l
others_none [] = refl
others_none (x ∷ l) = ap (λ k. x ∷ k) (others_none l)

role_stays : (o : Option Role) → role_left (λ c. false) o ≡ o
role_stays None = refl
role_stays (Some r) = refl

pub nothing_ended : (p : ProfileName) (memory : ℕ) (rows : List (Option ThreadRow)) (w : Waits) → HaveEnded p (λ c. false) memory memory rows rows w w
nothing_ended p memory rows w stands = record {
  memory_is = refl;
  rows_left = λ t. refl;
  queues_left = λ e. sym (others_none (w.queue e));
  roles_left = λ t. sym (role_stays (w.role t));
}

true_either : (b c : Bool) → c ≡ true → b || c ≡ true
true_either true c h = refl
true_either false c h = h

-- no more by one or by the other
none_twice : {X : Type 0} (b c : Bool) (o : Option X) → cond c None (cond b None o) ≡ cond (b || c) None o
none_twice true true o = refl
none_twice true false o = refl
none_twice false c o = refl

others_step : (Q : Waiter → Bool) (x : Waiter) (b c : Bool) (F G : List Waiter) → Q x ≡ c → others Q F ≡ G → others Q (cond (not b) (x ∷ F) F) ≡ cond (not (b || c)) (x ∷ G) G
others_step Q x true c F G is h = h
others_step Q x false true F G is h = ap (λ d. cond (not d) (x ∷ others Q F) (others Q F)) is ∙ h
others_step Q x false false F G is h = ap (λ d. cond (not d) (x ∷ others Q F) (others Q F)) is ∙ ap (λ l. x ∷ l) h

others_twice : (P Q : Waiter → Bool) (l : List Waiter) → others Q (others P l) ≡ others (λ x. P x || Q x) l
others_twice P Q [] = refl
others_twice P Q (x ∷ l) = others_step Q x (P x) (Q x) (others P l) (others (λ x. P x || Q x) l) refl (others_twice P Q l)

queue_twice : (P Q : Waiter → Bool) (b c : Bool) (l : List Waiter) → cond c [] (others Q (cond b [] (others P l))) ≡ cond (b || c) [] (others (λ x. P x || Q x) l)
queue_twice P Q true true l = refl
queue_twice P Q true false l = refl
queue_twice P Q false c l = ap (cond c []) (others_twice P Q l)

left_step : (Q : Cap → Bool) (r : Role) (b : Bool) → role_left Q (cond b None (Some r)) ≡ cond (b || ends_endpoint Q (endpoint_of r)) None (Some r)
left_step Q r true = refl
left_step Q r false = refl

left_twice : (P Q : Cap → Bool) (o : Option Role) → role_left Q (role_left P o) ≡ role_left (either P Q) o
left_twice P Q None = refl
left_twice P Q (Some r) = left_step Q r (ends_endpoint P (endpoint_of r))

role_twice : (P Q : Cap → Bool) (b c : Bool) (o : Option Role) → cond c None (role_left Q (cond b None (role_left P o))) ≡ cond (b || c) None (role_left (either P Q) o)
role_twice P Q true true o = refl
role_twice P Q true false o = refl
role_twice P Q false c o = ap (cond c None) (left_twice P Q o)

pub ended_twice : (p : ProfileName) (P Q : Cap → Bool) (memory memory' memory'' : ℕ) (rows rows' rows'' : List (Option ThreadRow)) (w w' w'' : Waits) →
    HaveEnded p P memory memory' rows rows' w w' → HaveEnded p Q memory' memory'' rows' rows'' w' w'' → HaveEnded p (either P Q) memory memory'' rows rows'' w w''
ended_twice p P Q memory memory' memory'' rows rows' rows'' w w' w'' first then stands =
    let a = first (λ c h. stands c (ap (λ b. b || Q c) h)) in
    let b = then (λ c h. subst (λ (n : ℕ). StandsIn p n c) (sym a.memory_is) (stands c (true_either (P c) (Q c) h))) in
    record {
      memory_is = b.memory_is ∙ a.memory_is;
      rows_left = λ t. b.rows_left t ∙ ap (cond (ends_thread Q t) None) (a.rows_left t) ∙ none_twice (ends_thread P t) (ends_thread Q t) _;
      queues_left = λ e. b.queues_left e ∙ ap (λ l. cond (ends_endpoint Q e) [] (others (λ x. ends_thread Q (thread_of x)) l)) (a.queues_left e)
          ∙ queue_twice (λ x. ends_thread P (thread_of x)) (λ x. ends_thread Q (thread_of x)) (ends_endpoint P e) (ends_endpoint Q e) (w.queue e);
      roles_left = λ t. b.roles_left t ∙ ap (λ o. cond (ends_thread Q t) None (role_left Q o)) (a.roles_left t) ∙ role_twice P Q (ends_thread P t) (ends_thread Q t) (w.role t);
    }

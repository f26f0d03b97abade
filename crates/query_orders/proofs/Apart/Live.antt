-- In what is shown of a state that calls lead to, only live endpoints have waiting lists, and just the live threads are shown; what
-- follows for a thread that is stopped, and for the cancelling of sends.
use Rattle.std.proofs.Common.{◌≡◌, ◌==◌, ℕ, Bool, true, false, cond, List, [], Option, None, Some, is_some, option_map, unwrap_or, refl, ap, sym, subst, ◌∙◌}
use Rattle.std.specs.List.{list_any}
use Rattle.std.specs.FinMap.{get}
use Rattle.std.proofs.lemmas.Bool.{false≢true}
use Rattle.cap_core.specs.declared.profile.ProfileName.{ProfileName}
use Rattle.ipc_core.specs.declared.waiter.Waiter.{Waiter}
use Rattle.ipc_core.specs.Cancelled.{is_thread, those, others}
use Rattle.kernel_abstract.specs.declared.call.Call.{Call}
use Rattle.kernel_abstract.specs.declared.call.ThreadState.{ThreadState}
use Rattle.kernel_abstract.specs.declared.call.ThreadState.TheVariants.{Ready}
use Rattle.kernel_abstract.specs.Shown.{Shown, ThreadView, threads_of, endpoints_of, waiting_at}
use Rattle.kernel_abstract.specs.State.{State, shown, thread_view}
use Rattle.kernel_abstract.specs.Step.{step}
use Rattle.kernel_abstract.specs.Reached.{IsReached}
use Rattle.kernel_abstract.specs.Private.Effects.{effect_of}
use Rattle.kernel_abstract.specs.Private.Endings.{after_stop, after_release, view_released, readied}
use Rattle.kernel_abstract.proofs.Lists.Tables.{get_table}
use Rattle.kernel_abstract.proofs.Reached.Simulation.{simulates, reached_is, reached_inv}
use Rattle.query_orders.proofs.Exploration.Steps.{reached_step}
use Rattle.query_orders.proofs.Apart.Shown.{none_waiting}

-- what is shown is shown of a state that calls lead to
pub record IsOfReached (p : ProfileName) (x : Shown) : Type 0 where
  pub state : State
  pub reached : IsReached p state
  pub shows : x ≡ shown state

pub reached_with : (p : ProfileName) (x : Shown) → IsOfReached p x → (call : Call) → IsOfReached p (effect_of p x call).after
reached_with p x r call = record {
  state = (step p r.state call).state;
  reached = reached_step p r.state call r.reached;
  shows = ap (λ (v : Shown). (effect_of p v call).after) r.shows ∙ (simulates p r.reached.plan.memory_bits r.state (reached_is p r.state r.reached) call).1;
}

-- on an endpoint that is not live nobody waits
abbrev pub OnlyLiveWait : Shown → Type 0
OnlyLiveWait x = (e : ℕ) → list_any (λ k. e == k) (endpoints_of x.derivations) ≡ false → waiting_at x e ≡ []

shown_live : (A : State) → (p : ProfileName) → IsReached p A → OnlyLiveWait (shown A)
unfolding shown
shown_live A p r e dead = none_waiting A (reached_inv p A r) e dead

only_live_wait : (p : ProfileName) (x : Shown) → IsOfReached p x → OnlyLiveWait x
only_live_wait p x r = subst OnlyLiveWait (sym r.shows) (shown_live r.state p r.reached)

-- a thread that is stopped waits on no endpoint any more, and the others wait as before
pub stopped_list : (x : Shown) → OnlyLiveWait x → (t : ℕ) (state : ThreadState) (e : ℕ) → waiting_at (after_stop x t state) e ≡ others (is_thread t) (waiting_at x e)
stopped_list x only t state e =
    ap (λ (o : Option (List Waiter)). unwrap_or o []) (get_table (endpoints_of x.derivations) (λ q. others (is_thread t) (waiting_at x q)) e)
    ∙ by (list_any (λ k. e == k) (endpoints_of x.derivations)) refl
  where
    by : (b : Bool) → list_any (λ k. e == k) (endpoints_of x.derivations) ≡ b → unwrap_or (cond b (Some (others (is_thread t) (waiting_at x e))) None) [] ≡ others (is_thread t) (waiting_at x e)
    by true live = refl
    by false dead = sym (ap (others (is_thread t)) (only e dead))

-- a thread is live where it is shown
abbrev pub LiveAreShown : Shown → Type 0
LiveAreShown x = (t : ℕ) → list_any (λ k. t == k) (threads_of x.derivations) ≡ is_some (get x.threads t)

shown_threads : (A : State) → LiveAreShown (shown A)
unfolding shown
shown_threads A t = sym (ap (λ (o : Option ThreadView). is_some o) (get_table (threads_of A.derivations) (thread_view A) t) ∙ there (list_any (λ k. t == k) (threads_of A.derivations)))
  where
    there : (b : Bool) → is_some (cond b (Some (thread_view A t)) None) ≡ b
    there true = refl
    there false = refl

live_are_shown : (p : ProfileName) (x : Shown) → IsOfReached p x → LiveAreShown x
live_are_shown p x r = subst LiveAreShown (sym r.shows) (shown_threads r.state)

abbrev pub readied_row : Bool → ThreadView → ThreadView
readied_row named row = record { state = cond named Ready row.state; inbox = row.inbox }

-- those whose sends are cancelled are ready, and the other threads are as before
pub released_row : (x : Shown) → LiveAreShown x → (e : ℕ) (names : Waiter → Bool) (t : ℕ) →
    get (after_release x e names).threads t ≡ option_map (readied_row (list_any (is_thread t) (those names (waiting_at x e)))) (get x.threads t)
released_row x live e names t =
    get_table (threads_of x.derivations) (view_released x e names) t
    ∙ by (list_any (λ k. t == k) (threads_of x.derivations)) (get x.threads t) (live t)
  where
    by : (b : Bool) (o : Option ThreadView) → b ≡ is_some o → cond b (Some (readied (list_any (is_thread t) (those names (waiting_at x e))) o)) None ≡ option_map (readied_row (list_any (is_thread t) (those names (waiting_at x e)))) o
    by true (Some row) is = refl
    by false None is = refl
    by true None is = absurd (false≢true (sym is))
    by false (Some row) is = absurd (false≢true is)

-- nobody waits where nothing is live, and just the live threads are shown
pub record IsTidy (x : Shown) : Type 0 where
  pub waits : OnlyLiveWait x
  pub rows : LiveAreShown x

pub tidy : (p : ProfileName) (x : Shown) → IsOfReached p x → IsTidy x
tidy p x r = record { waits = only_live_wait p x r; rows = live_are_shown p x r }

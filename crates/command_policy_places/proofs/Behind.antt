-- The state behind one call more, and the slots that are looked at behind each.
use Rattle.std.proofs.Common.{◌≡◌, ℕ, zero, suc, ◌<◌, ◌==◌, Bool, true, false, List, [], ◌∷◌, ◌++◌, Some, refl, sym, ap, subst, ◌∙◌, length, map, take, slice_get, get_or, find, cond}
use Rattle.std.proofs.lemmas.Bool.{eqb-true}
use Rattle.std.proofs.lemmas.Option.{slice_get-get_or}
use Rattle.cap_core.specs.declared.profile.ProfileName.{ProfileName}
use Rattle.kernel_abstract.specs.declared.call.Call.{Call}
use Rattle.kernel_abstract.specs.declared.call.Reply.{Reply}
use Rattle.kernel_abstract.specs.Boot.{boot}
use Rattle.kernel_abstract.specs.Plan.{IsPlan}
use Rattle.kernel_abstract.specs.Reached.{IsReached, StepsTo}
use Rattle.kernel_abstract.specs.Shown.{Shown}
use Rattle.kernel_abstract.specs.State.{shown}
use Rattle.kernel_abstract.specs.Step.{step, state_after}
use Rattle.kernel_abstract.proofs.Reached.Runs.{state_after-nil, state_after-snoc}
use Rattle.setup_format.specs.Views.{SetupView, CallView}
use Rattle.setup_report.specs.Behind.{first_calls, state_behind}
use Rattle.command_policy_places.specs.declared.calls.Fill.{Fill}
use Rattle.command_policy_places.specs.Places.{fill_of, filled_by, first_looked_at, is_wait_of, looked_at, waited_by}

-- ---- the state behind one call more

next_taken : {A : Type 0} (xs : List A) (n : ℕ) (x : A) → slice_get xs n ≡ Some x → take (suc n) xs ≡ take n xs ++ x ∷ []
next_taken [] n x is = cc
next_taken (y ∷ xs) zero x is = let e : y ≡ x = cc in ap (λ z. z ∷ []) e
next_taken (y ∷ xs) (suc n) x is = ap (λ l. y ∷ l) (next_taken xs n x is)

behind_next : (p : ProfileName) (setup : SetupView) (n : ℕ) (call : Call) → slice_get (map (λ (c : CallView). c.call) setup.calls) n ≡ Some call →
    state_behind p setup (suc n) ≡ (step p (state_behind p setup n) call).state
behind_next p setup n call is =
    ap (state_after p (boot p setup.plan)) (next_taken (map (λ (c : CallView). c.call) setup.calls) n call is)
    ∙ state_after-snoc p (boot p setup.plan) (first_calls setup n) call

pub at_boot : (p : ProfileName) (setup : SetupView) → state_behind p setup 0 ≡ boot p setup.plan
at_boot p setup = state_after-nil p (boot p setup.plan)

pub reached_behind : (p : ProfileName) (setup : SetupView) (n : ℕ) → IsPlan p setup.plan → IsReached p (state_behind p setup n)
reached_behind p setup n lawful = record { plan = setup.plan; lawful = lawful; calls = first_calls setup n; is = refl }

-- a step by the call at a place of the set-up
pub stepped : (p : ProfileName) (setup : SetupView) (n m : ℕ) (calls : List Call) (d : Call) (reply : Reply) (new : Shown) → m ≡ suc n →
    calls ≡ map (λ (c : CallView). c.call) setup.calls → n < length calls → StepsTo p (state_behind p setup n) (get_or calls n d) reply new →
    new ≡ shown (state_behind p setup m)
stepped p setup n m calls d reply new is same low steps =
    let there : slice_get (map (λ (c : CallView). c.call) setup.calls) n ≡ Some (get_or calls n d) = ap (λ l. slice_get l n) (sym same) ∙ slice_get-get_or calls n d low in
    steps.shows ∙ ap shown (sym (ap (state_behind p setup) is ∙ behind_next p setup n (get_or calls n d) there))

-- ---- slots that are looked at

-- before any call
pub first_fills : (p : ProfileName) (setup : SetupView) (slots : List ℕ) (kernel : Shown) → kernel ≡ shown (state_behind p setup 0) →
    map (first_looked_at kernel.derivations) slots ≡ map (fill_of p setup 0) slots
unfolding shown
first_fills p setup slots kernel same = ap (λ (v : Shown). map (first_looked_at v.derivations) slots) same ∙ by slots
  where
    by : (slots : List ℕ) → map (first_looked_at (state_behind p setup 0).derivations) slots ≡ map (fill_of p setup 0) slots
    by [] = refl
    by (slot ∷ slots) = ap (λ l. fill_of p setup 0 slot ∷ l) (by slots)

-- behind one call more
pub next_fills : (p : ProfileName) (setup : SetupView) (n m : ℕ) (slots : List ℕ) (kernel : Shown) → m ≡ suc n → kernel ≡ shown (state_behind p setup m) →
    map (looked_at m kernel.derivations) (map (fill_of p setup n) slots) ≡ map (fill_of p setup m) slots
unfolding shown
next_fills p setup n m slots kernel is same =
    ap (λ (v : Shown). map (looked_at m v.derivations) (map (fill_of p setup n) slots)) same
    ∙ subst (λ (k : ℕ). map (looked_at k (state_behind p setup k).derivations) (map (fill_of p setup n) slots) ≡ map (fill_of p setup k) slots) (sym is) (by slots)
  where
    by : (slots : List ℕ) → map (looked_at (suc n) (state_behind p setup (suc n)).derivations) (map (fill_of p setup n) slots) ≡ map (fill_of p setup (suc n)) slots
    by [] = refl
    by (slot ∷ slots) = ap (λ l. fill_of p setup (suc n) slot ∷ l) (by slots)

-- what is found of a slot says which call filled it
pub found_fill : (p : ProfileName) (setup : SetupView) (made slot : ℕ) (slots : List ℕ) (fill : Fill) →
    find (λ (f : Fill). f.slot == slot) (map (fill_of p setup made) slots) ≡ Some fill → fill.call ≡ filled_by p setup made slot
found_fill p setup made slot [] fill is = cc
found_fill p setup made slot (s ∷ slots) fill is = by (s == slot) refl (found_fill p setup made slot slots fill) is
  where
    by : (b : Bool) → (s == slot) ≡ b →
        (find (λ (f : Fill). f.slot == slot) (map (fill_of p setup made) slots) ≡ Some fill → fill.call ≡ filled_by p setup made slot) →
        cond b (Some (fill_of p setup made s)) (find (λ (f : Fill). f.slot == slot) (map (fill_of p setup made) slots)) ≡ Some fill →
        fill.call ≡ filled_by p setup made slot
    by true same rest got = let e : fill_of p setup made s ≡ fill = cc in sym (ap (λ (f : Fill). f.call) e) ∙ ap (filled_by p setup made) (eqb-true s slot same)
    by false other rest got = rest got

-- ---- calls that were answered by waiting

-- with one call more
pub waited_next : (calls : List Call) (replies : List Reply) (thread n m : ℕ) → m ≡ suc n →
    waited_by calls replies thread m ≡ cond (is_wait_of thread (slice_get calls n) (slice_get replies n)) (Some m) (waited_by calls replies thread n)
waited_next calls replies thread n m is =
    subst (λ (k : ℕ). waited_by calls replies thread k ≡ cond (is_wait_of thread (slice_get calls n) (slice_get replies n)) (Some k) (waited_by calls replies thread n)) (sym is) refl

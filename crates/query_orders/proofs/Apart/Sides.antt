-- What is shown of one side: its threads, and the waiting lists of its endpoints.
use Rattle.std.proofs.Common.{◌≡◌, ◌≢◌, ◌==◌, ℕ, Bool, true, false, cond, List, [], Option, Some, option_map, option_and_then, unwrap_or, refl, ap, sym, subst, ◌∙◌, inl, inr}
use Rattle.std.specs.List.{AllByRecursion as Each}
use Rattle.std.specs.FinMap.{get, insert}
use Rattle.std.proofs.lemmas.Bool.{ne_eqb}
use Rattle.std.proofs.lemmas.Bool.Decides.{eqb_tells}
use Rattle.ipc_core.specs.declared.waiter.Waiter.{Waiter}
use Rattle.ipc_core.specs.Waits.{thread_of}
use Rattle.kernel_abstract.specs.Shown.{Shown, ThreadView, state_at, waiting_at, inbox_at}
use Rattle.kernel_abstract.proofs.Lists.Tables.{get_after}

abbrev pub with_row : Shown → ℕ → ThreadView → Shown
with_row x t row = record x { threads = insert x.threads t row }

abbrev pub with_list : Shown → ℕ → List Waiter → Shown
with_list x e list = record x { endpoints = insert x.endpoints e list }

pub list_after : (x : Shown) (e : ℕ) (list : List Waiter) (q : ℕ) → waiting_at (with_list x e list) q ≡ cond (q == e) list (waiting_at x q)
list_after x e list q = ap (λ (o : Option (List Waiter)). unwrap_or o []) (get_after x.endpoints e list q) ∙ by (q == e)
  where
    by : (b : Bool) → unwrap_or (cond b (Some list) (get x.endpoints q)) [] ≡ cond b list (waiting_at x q)
    by true = refl
    by false = refl

module _ (on_thread on_endpoint : ℕ → Bool) where
  -- two states show the same of a side
  pub record SameOn (side : Bool) (x y : Shown) : Type 0 where
    pub threads : (t : ℕ) → on_thread t ≡ side → get x.threads t ≡ get y.threads t
    pub lists : (e : ℕ) → on_endpoint e ≡ side → waiting_at x e ≡ waiting_at y e

  pub same_itself : (side : Bool) (x : Shown) → SameOn side x x
  same_itself side x = record { threads = λ t on. refl; lists = λ e on. refl }

  pub same_state : (side : Bool) (x y : Shown) → SameOn side x y → (t : ℕ) → on_thread t ≡ side → state_at x t ≡ state_at y t
  same_state side x y s t on = ap (λ (o : Option ThreadView). option_map (λ (row : ThreadView). row.state) o) (s.threads t on)

  pub same_inbox : (side : Bool) (x y : Shown) → SameOn side x y → (t : ℕ) → on_thread t ≡ side → inbox_at x t ≡ inbox_at y t
  same_inbox side x y s t on = ap (λ (o : Option ThreadView). option_and_then (λ (row : ThreadView). row.inbox) o) (s.threads t on)

  -- a change in both
  pub rows_set : (side : Bool) (x y : Shown) → SameOn side x y → (t : ℕ) (row row' : ThreadView) → row ≡ row' → SameOn side (with_row x t row) (with_row y t row')
  rows_set side x y s t row row' e = record {
    threads = λ q on.
        get_after x.threads t row q ∙ ap (λ (r : ThreadView). cond (q == t) (Some r) (get x.threads q)) e ∙ ap (λ (o : Option ThreadView). cond (q == t) (Some row') o) (s.threads q on)
        ∙ sym (get_after y.threads t row' q);
    lists = s.lists;
  }

  pub lists_set : (side : Bool) (x y : Shown) → SameOn side x y → (e : ℕ) (list : List Waiter) → SameOn side (with_list x e list) (with_list y e list)
  lists_set side x y s e list = record {
    threads = s.threads;
    lists = λ q on. list_after x e list q ∙ ap (λ (l : List Waiter). cond (q == e) list l) (s.lists q on) ∙ sym (list_after y e list q);
  }

  -- a change on the other side, in one of them
  pub row_apart : (side : Bool) (x y : Shown) → SameOn side x y → (t : ℕ) (row : ThreadView) → on_thread t ≢ side → SameOn side (with_row x t row) y
  row_apart side x y s t row other = record {
    threads = λ q on. get_after x.threads t row q ∙ ap (λ b. cond b (Some row) (get x.threads q)) (ne_eqb q t (λ e. other (sym (ap on_thread e) ∙ on))) ∙ s.threads q on;
    lists = s.lists;
  }

  pub list_apart : (side : Bool) (x y : Shown) → SameOn side x y → (e : ℕ) (list : List Waiter) → on_endpoint e ≢ side → SameOn side (with_list x e list) y
  list_apart side x y s e list other = record {
    threads = s.threads;
    lists = λ q on. list_after x e list q ∙ ap (λ b. cond b list (waiting_at x q)) (ne_eqb q e (λ is. other (sym (ap on_endpoint is) ∙ on))) ∙ s.lists q on;
  }

  -- ---- who waits on an endpoint stands on its side

  abbrev pub StandsAt : Bool → Waiter → Type 0
  StandsAt side w = on_thread (thread_of w) ≡ side

  abbrev pub Stands : Shown → Type 0
  Stands x = (e : ℕ) → Each (StandsAt (on_endpoint e)) (waiting_at x e)

  pub stands_set : (x : Shown) → Stands x → (e : ℕ) (list : List Waiter) → Each (StandsAt (on_endpoint e)) list → Stands (with_list x e list)
  stands_set x h e list new q = subst (Each (StandsAt (on_endpoint q))) (sym (list_after x e list q)) (elim (eqb_tells q e) as (λ _. Each (StandsAt (on_endpoint q)) (cond (q == e) list (waiting_at x q))) [
    | inl same ↦ subst (λ b. Each (StandsAt (on_endpoint q)) (cond b list (waiting_at x q))) (sym same.0) (subst (λ n. Each (StandsAt (on_endpoint n)) list) (sym same.1) new)
    | inr other ↦ subst (λ b. Each (StandsAt (on_endpoint q)) (cond b list (waiting_at x q))) (sym other.0) (h q)
  ])

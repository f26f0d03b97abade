-- One call more, where an order is made anew.
use Rattle.std.proofs.Common.{◌≡◌, ℕ, ◌∷◌, ◌++◌, [], ◌+◌, ◌<◌, List, length, take, get_or, Option, Some, None, slice_get, ap, sym, ◌∙◌}
use Rattle.std.proofs.lemmas.List.{take_more}
use Rattle.cap_core.specs.declared.profile.ProfileName.{ProfileName}
use Rattle.kernel_abstract.specs.declared.call.Call.{Call}
use Rattle.kernel_abstract.specs.declared.call.Reply.{Reply}
use Rattle.kernel_abstract.specs.Shown.{Shown}
use Rattle.kernel_abstract.specs.State.{shown}
use Rattle.kernel_abstract.specs.Reached.{StepsTo}
use Rattle.query_orders.specs.World.{World, next_client_call, one_more, with_call, after_call, world_after}
use Rattle.query_orders.proofs.Exploration.Steps.{world_after-append}

module _ (p : ProfileName) (own : List (List Call)) (w : World) where
  pub call_made : (client : ℕ) (call : Call) (reply : Reply) (v : Shown) (made made' : List ℕ) (next : Option Call) → made ≡ w.made → next ≡ next_client_call own made client → next ≡ Some call →
      StepsTo p w.kernel call reply v → made' ≡ one_more client (slice_get made client) made → (v ≡ shown (after_call p own w client).kernel) × (made' ≡ (after_call p own w client).made)
  call_made client call reply v made made' next is_made is_next some steps more =
      let is : next_client_call own w.made client ≡ Some call = ap (λ (l : List ℕ). next_client_call own l client) (sym is_made) ∙ sym is_next ∙ some in (
        steps.shows ∙ sym (ap (λ (o : Option Call). shown (with_call p w client o).kernel) is),
        more ∙ ap (λ (l : List ℕ). one_more client (slice_get l client) l) is_made ∙ sym (ap (λ (o : Option Call). (with_call p w client o).made) is),
      )

  pub none_left : (client : ℕ) (v : Shown) (made : List ℕ) (next : Option Call) → v ≡ shown w.kernel → made ≡ w.made → next ≡ next_client_call own made client → next ≡ None →
      (v ≡ shown (after_call p own w client).kernel) × (made ≡ (after_call p own w client).made)
  none_left client v made next at is_made is_next none =
      let is : next_client_call own w.made client ≡ None = ap (λ (l : List ℕ). next_client_call own l client) (sym is_made) ∙ sym is_next ∙ none in (
        at ∙ sym (ap (λ (o : Option Call). shown (with_call p w client o).kernel) is),
        is_made ∙ sym (ap (λ (o : Option Call). (with_call p w client o).made) is),
      )

  pub after_more : (order : List ℕ) (i client : ℕ) → i < length order → client ≡ get_or order i 0 → world_after p own w (take (i + 1) order) ≡ after_call p own (world_after p own w (take i order)) client
  after_more order i client lt is =
      ap (world_after p own w) (take_more order i 0 lt ∙ ap (λ y. take i order ++ y ∷ []) (sym is)) ∙ world_after-append p own w (take i order) (client ∷ [])

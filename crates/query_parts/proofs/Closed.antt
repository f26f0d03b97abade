-- The test, by the list of derivations that a kernel gives, and what it shows.
use Rattle.std.proofs.Common.{◌≡◌, ℕ, Bool, true, ◌&&◌, List, map, Option, Some, None, refl, sym, ap, subst, ◌∙◌}
use Rattle.std.specs.Prelude.{option_map}
use Rattle.std.specs.List.{list_all}
use Rattle.std.proofs.lemmas.List.Folds.{list_all-map, list_all-append}
use Rattle.cap_core.specs.declared.profile.ProfileName.{ProfileName}
use Rattle.kernel_forest.specs.Forest.{Forest, none, tree, preorder, parented}
use Rattle.kernel_forest.specs.Entries.{Entry, slot_of, derivations_of}
use Rattle.slot_core.specs.declared.derivations.Derivation.{Derivation}
use Rattle.slot_core.specs.Calls.{derivation_view}
use Rattle.kernel_abstract.specs.Shown.{Shown}
use Rattle.kernel_abstract.specs.State.{State, shown}
use Rattle.kernel_abstract.specs.Reached.{IsReached}
use Rattle.query_parts.specs.declared.listed.PartMemory.{PartMemory}
use Rattle.query_parts.specs.declared.listed.PartUse.{PartUse}
use Rattle.query_parts.specs.Listed.{parts_listed, are_closed_in}
use Rattle.query_parts.specs.Laws.{AreClosed}
use Rattle.query_parts.proofs.Tested.{closed_entries}
use Rattle.query_parts.proofs.Runs.{stay_closed, send_within, receive_within}
use Rattle.query_parts.specs.Ever.{AreConfinedEver}

module _ (test : Entry → Bool) where
  -- a test of the entries, by the list with their parents
  all_parented : (above : Option Entry) (f : Forest Entry) →
      list_all (λ (x : Entry × Option ℕ). test x.0) (map {B = Entry × Option ℕ} (λ (e : Entry × Option Entry). (e.0, option_map slot_of e.1)) (parented above f))
      ≡ list_all test (preorder f)
  all_parented above f =
      list_all-map (λ (x : Entry × Option ℕ). test x.0) (λ (e : Entry × Option Entry). (e.0, option_map slot_of e.1)) (parented above f)
      ∙ go above f
    where
      go : (above : Option Entry) (f : Forest Entry) → list_all (λ (e : Entry × Option Entry). test e.0) (parented above f) ≡ list_all test (preorder f)
      go above none = refl
      go above (tree a under others) =
          ap (λ b. test a && b)
          (list_all-append (λ (e : Entry × Option Entry). test e.0) (parented (Some a) under) (parented above others)
          ∙ ap (λ b. b && list_all (λ (e : Entry × Option Entry). test e.0) (parented above others)) (go (Some a) under)
          ∙ ap (λ b. list_all test (preorder under) && b) (go above others)
          ∙ sym (list_all-append test (preorder under) (preorder others)))

  -- and by the derivations that a kernel gives
  pub all_told : (p : ProfileName) (f : Forest Entry) (ds : List Derivation) → map (derivation_view p) ds ≡ derivations_of f →
      list_all (λ (d : Derivation). test (derivation_view p d).0) ds ≡ list_all test (preorder f)
  all_told p f ds told =
      sym (list_all-map (λ (x : Entry × Option ℕ). test x.0) (derivation_view p) ds)
      ∙ ap (list_all (λ (x : Entry × Option ℕ). test x.0)) told
      ∙ all_parented None f

pub shown_derivations : (A : State) → (shown A).derivations ≡ A.derivations
unfolding shown
shown_derivations A = refl

module _ (p : ProfileName) (memory : List PartMemory) (uses : List PartUse) where
  -- parts that are closed in each state that is shown are confined ever
  pub confined_from : (v : Shown) → ((A : State) → IsReached p A → v ≡ shown A → AreClosed p (parts_listed memory uses) A) →
      AreConfinedEver p memory uses v
  confined_from v closed A reached is calls of =
      record {
        closed = stay_closed p (parts_listed memory uses) A calls reached (closed A reached is) of;
        sends = send_within p (parts_listed memory uses) A calls reached (closed A reached is) of;
        receives = receive_within p (parts_listed memory uses) A calls reached (closed A reached is) of;
      }

  pub confined_ever : (v : Shown) → are_closed_in p memory uses v.derivations ≡ true → AreConfinedEver p memory uses v
  confined_ever v tested = confined_from v by
    where
      by : (A : State) → IsReached p A → v ≡ shown A → AreClosed p (parts_listed memory uses) A
      by A reached is i slot here =
          let same : v.derivations ≡ A.derivations = ap (λ (w : Shown). w.derivations) is ∙ shown_derivations A in
          let test : are_closed_in p memory uses A.derivations ≡ true = subst (λ f. are_closed_in p memory uses f ≡ true) same tested in
          closed_entries p memory uses (preorder A.derivations) test slot i here

-- That tables are linked, and that all that wait on one endpoint do the same, has one proof at most, so that a value can
-- carry it.
use Rattle.std.specs.Prelude.{◌≡◌, ◌≢◌, ℕ, List, [], ◌∷◌, Option, Some}
use Rattle.std.specs.List.{AllByRecursion-prop}
use Rattle.std.specs.Coded.{×_prop, Unit-prop, le_prop, Coded-set, coded_ℕ, coded_bool, coded_option}
use Rattle.cap_core.specs.declared.profile.ProfileName.{ProfileName}
use Rattle.ipc_core.specs.declared.waiter.Waiter.{Waiter}
use Rattle.ipc_core.specs.declared.tables.Tables.{Tables}
use Rattle.ipc_core.specs.Waits.{Waits}
use Rattle.ipc_core.specs.Agreement.{is_sender, DoTheSame, AreAlike}
use Rattle.ipc_core.specs.Representation.Chains.{IsChain, Lacks, IsApart}
use Rattle.ipc_core.specs.Representation.Linked.{IsLinked}

fun-prop : {A : Type 0} (B : A → Type 0) → ((a : A) → IsProp (B a)) → IsProp ((a : A) → B a)
fun-prop B props f g = λ i a. props a (f a) (g a) i

option-prop : (a b : Option ℕ) → IsProp (a ≡ b)
option-prop a b = Coded-set (coded_option coded_ℕ) a b

chain-prop : (next previous : ℕ → Option ℕ) (before here : Option ℕ) (l : List ℕ) (last : Option ℕ) → IsProp (IsChain next previous before here l last)
chain-prop next previous before here [] last = λ x y i. (option-prop _ _ x.0 y.0 i, option-prop _ _ x.1 y.1 i)
chain-prop next previous before here (k ∷ l) last =
    λ x y i. (option-prop _ _ x.0 y.0 i, option-prop _ _ x.1 y.1 i, chain-prop next previous (Some k) (next k) l last x.2 y.2 i)

lacks-prop : (k : ℕ) (l : List ℕ) → IsProp (Lacks k l)
lacks-prop k l = AllByRecursion-prop (λ j. j ≢ k) (λ j. fun-prop (λ _. ⊥) (λ _ a b. absurd a)) l

apart-prop : (l : List ℕ) → IsProp (IsApart l)
apart-prop [] = Unit-prop
apart-prop (k ∷ l) = ×_prop (lacks-prop k l) (apart-prop l)

pub linked-prop : (p : ProfileName) (tables : Tables) → IsProp (IsLinked p tables)
linked-prop p tables x y =
    λ i. record {
      chain = λ e. chain-prop _ _ _ _ _ _ (x.chain e) (y.chain e) i;
      apart = λ e. apart-prop _ (x.apart e) (y.apart e) i;
      members = λ e. AllByRecursion-prop _ (λ t. option-prop _ _) _ (x.members e) (y.members e) i;
      found = λ t r is. Coded-set coded_bool _ _ (x.found t r is) (y.found t r is) i;
      placed = λ t r is. ×_prop (Coded-set coded_ℕ _ _) le_prop (x.placed t r is) (y.placed t r is) i;
    }

same-prop : (l : List Waiter) → IsProp (DoTheSame l)
same-prop [] = Unit-prop
same-prop (x ∷ l) = AllByRecursion-prop (λ y. is_sender y ≡ is_sender x) (λ y. Coded-set coded_bool (is_sender y) (is_sender x)) l

pub alike-prop : (w : Waits) → IsProp (AreAlike w)
alike-prop w x y = λ i. record { queue = λ e. same-prop (w.queue e) (x.queue e) (y.queue e) i }

-- What stands in a list of texts in order: each of them, and no other.
use Rattle.std.proofs.Common.{◌≡◌, ◌⊎◌, ℕ, List, [], ◌∷◌, inl, inr, refl, sym, subst}
use Rattle.std.specs.declared.cmp.Ordering.{Ordering}
use Rattle.std.specs.declared.cmp.Ordering.TheVariants.{Less, Equal, Greater}
use Rattle.std.specs.Ordering.{match_ordering}
use Rattle.std.specs.BTreeSet.{insert_key}
use Rattle.std.proofs.lemmas.Map.Lookups.{exact_bytes}
use Rattle.kernel_delete.specs.Members.{In}
use Rattle.command_policy_text.specs.Order.{text_cmp, put_all, in_order}

-- ---- one text more

from_one : (keys : List (List ℕ)) (k t : List ℕ) → In t (insert_key text_cmp keys k) → (t ≡ k) ⊎ In t keys
from_one [] k t (inl same) = inl same
from_one [] k t (inr there) = absurd there
from_one (x ∷ keys) k t there =
    (elim (text_cmp k x) as (λ (o : Ordering). In t (match_ordering o (k ∷ x ∷ keys) (x ∷ keys) (x ∷ insert_key text_cmp keys k)) → (t ≡ k) ⊎ In t (x ∷ keys)) [
      | Less ↦ λ is. is
      | Equal ↦ λ is. inr is
      | Greater ↦ λ is. further (from_one keys k t) is
    ]) there
  where
    further : (In t (insert_key text_cmp keys k) → (t ≡ k) ⊎ In t keys) → In t (x ∷ insert_key text_cmp keys k) → (t ≡ k) ⊎ In t (x ∷ keys)
    further behind (inl same) = inr (inl same)
    further behind (inr more) = elim (behind more) [ inl same ↦ inl same | inr rest ↦ inr (inr rest) ]

one_kept : (keys : List (List ℕ)) (k t : List ℕ) → In t keys → In t (insert_key text_cmp keys k)
one_kept [] k t there = absurd there
one_kept (x ∷ keys) k t there =
    elim (text_cmp k x) as (λ (o : Ordering). In t (match_ordering o (k ∷ x ∷ keys) (x ∷ keys) (x ∷ insert_key text_cmp keys k))) [
      | Less ↦ inr there
      | Equal ↦ there
      | Greater ↦ further (one_kept keys k t) there
    ]
  where
    further : (In t keys → In t (insert_key text_cmp keys k)) → In t (x ∷ keys) → In t (x ∷ insert_key text_cmp keys k)
    further behind (inl same) = inl same
    further behind (inr more) = inr (behind more)

one_there : (keys : List (List ℕ)) (k : List ℕ) → In k (insert_key text_cmp keys k)
one_there [] k = inl refl
one_there (x ∷ keys) k =
    (elim (text_cmp k x) as (λ (o : Ordering). text_cmp k x ≡ o → In k (match_ordering o (k ∷ x ∷ keys) (x ∷ keys) (x ∷ insert_key text_cmp keys k))) [
      | Less ↦ λ is. inl refl
      | Equal ↦ λ is. inl (exact_bytes k x is)
      | Greater ↦ λ is. inr (one_there keys k)
    ]) refl

-- ---- all of them

from_all : (kept texts : List (List ℕ)) (t : List ℕ) → In t (put_all kept texts) → In t kept ⊎ In t texts
from_all kept [] t there = inl there
from_all kept (x ∷ texts) t there = elim (from_all (insert_key text_cmp kept x) texts t there) [
  | inl first ↦ elim (from_one kept x t first) [ inl same ↦ inr (inl same) | inr before ↦ inl before ]
  | inr rest ↦ inr (inr rest)
]

all_kept : (kept texts : List (List ℕ)) (t : List ℕ) → In t kept → In t (put_all kept texts)
all_kept kept [] t there = there
all_kept kept (x ∷ texts) t there = all_kept (insert_key text_cmp kept x) texts t (one_kept kept x t there)

all_there : (kept texts : List (List ℕ)) (t : List ℕ) → In t texts → In t (put_all kept texts)
all_there kept [] t there = absurd there
all_there kept (x ∷ texts) t (inl same) = all_kept (insert_key text_cmp kept x) texts t (subst (λ s. In s (insert_key text_cmp kept x)) (sym same) (one_there kept x))
all_there kept (x ∷ texts) t (inr more) = all_there (insert_key text_cmp kept x) texts t more

pub from_order : (texts : List (List ℕ)) (t : List ℕ) → In t (in_order texts) → In t texts
from_order texts t there = elim (from_all [] texts t there) [ inl none ↦ absurd none | inr is ↦ is ]

pub in_their_order : (texts : List (List ℕ)) (t : List ℕ) → In t texts → In t (in_order texts)
in_their_order texts t there = all_there [] texts t there

-- What the table has of a slot is what the list says of it.
use Rattle.std.proofs.Common.{◌≡◌, ◌≢◌, ℕ, ◌*◌, true, false, ◌==◌, eq-eqb, List, [], ◌∷◌, ◌++◌, map, Option, Some, None, refl, sym, ◌∙◌, ap, arith}
use Rattle.std.proofs.lemmas.Bool.Decides.{nat_tests}
use Rattle.cap_core.specs.declared.profile.ProfileName.{ProfileName}
use Rattle.cap_core.specs.declared.capability.Cap.TheVariants.{Null}
use Rattle.slot_core.specs.declared.linked.table.Link.{Link}
use Rattle.kernel_forest.specs.Marked.{Marked, marked, row_in, first_place, previous_in, next_in}
use Rattle.slot_core.specs.Links.{next_of, previous_of, row_of, head_or, last_or, Lacks, IsFree, order_of, rows_of, IsLinkedStore}
use Rattle.kernel_forest.specs.Entries.{is_full}
use Rattle.kernel_forest.specs.Marked.{forest_of}
use Rattle.cap_core.specs.Numbers.{slot_size}
use Rattle.slot_core.proofs.LinkedStores.LinkedSteps.{Splits, splits, empty_lacks}

other_number : (i n : ℕ) → i ≢ n → (i == n) ≡ false
other_number i n h = grind (arith, nat_tests)

self_number : (n : ℕ) → (n == n) ≡ true
self_number n = eq-eqb n n refl

row_there : (links : List Link) (n : ℕ) (pre post : List ℕ) → Lacks n pre → row_in n (map (row_of links) (pre ++ n ∷ post)) ≡ row_of links n
row_there links n [] post h = rw (self_number n)
row_there links n (i ∷ pre) post h = rw (other_number i n h.0) (row_there links n pre post h.1)

row_nowhere : (links : List Link) (n : ℕ) (l : List ℕ) → Lacks n l → row_in n (map (row_of links) l) ≡ marked n Null false false
row_nowhere links n [] h = refl
row_nowhere links n (i ∷ l) h = rw (other_number i n h.0) (row_nowhere links n l h.1)

previous_there : (links : List Link) (n : ℕ) (before : Option ℕ) (pre post : List ℕ) → Lacks n pre → previous_in n before (map (row_of links) (pre ++ n ∷ post)) ≡ last_or before pre
previous_there links n before [] post h = rw (self_number n)
previous_there links n before (i ∷ pre) post h = rw (other_number i n h.0) (previous_there links n (Some i) pre post h.1)

previous_nowhere : (links : List Link) (n : ℕ) (before : Option ℕ) (l : List ℕ) → Lacks n l → previous_in n before (map (row_of links) l) ≡ None
previous_nowhere links n before [] h = refl
previous_nowhere links n before (i ∷ l) h = rw (other_number i n h.0) (previous_nowhere links n (Some i) l h.1)

first_there : (links : List Link) (l : List ℕ) → first_place (map (row_of links) l) ≡ head_or l None
first_there links [] = refl
first_there links (i ∷ l) = refl

next_there : (links : List Link) (n : ℕ) (pre post : List ℕ) → Lacks n pre → next_in n (map (row_of links) (pre ++ n ∷ post)) ≡ head_or post None
next_there links n [] post h = rw (self_number n) (first_there links post)
next_there links n (i ∷ pre) post h = rw (other_number i n h.0) (next_there links n pre post h.1)

next_nowhere : (links : List Link) (n : ℕ) (l : List ℕ) → Lacks n l → next_in n (map (row_of links) l) ≡ None
next_nowhere links n [] h = refl
next_nowhere links n (i ∷ l) h = rw (other_number i n h.0) (next_nowhere links n l h.1)

-- all that the list says of a slot
pub record IsRead (links : List Link) (n : ℕ) (l : List Marked) : Type 0 where
  pub row : row_of links n ≡ row_in n l
  pub previous : previous_of links n ≡ previous_in n None l
  pub next : next_of links n ≡ next_in n l

pub link_read : (p : ProfileName) (links : List Link) (first last : Option ℕ) (n : ℕ) → IsLinkedStore p links first last → IsRead links n (rows_of links first)
link_read p links first last n inv =
    (elim (is_full (n * slot_size p) (forest_of p (rows_of links first))) as (λ c. is_full (n * slot_size p) (forest_of p (rows_of links first)) ≡ c → IsRead links n (rows_of links first)) [
      | true ↦ λ e. let s : Splits p links first last n = splits p links first last n inv e in
          record {
            row = sym (ap (λ (m : List ℕ). row_in n (map (row_of links) m)) s.order ∙ row_there links n s.pre s.post s.between.not_front);
            previous = s.between.previous ∙ sym (ap (λ (m : List ℕ). previous_in n None (map (row_of links) m)) s.order ∙ previous_there links n None s.pre s.post s.between.not_front);
            next = s.between.next ∙ sym (ap (λ (m : List ℕ). next_in n (map (row_of links) m)) s.order ∙ next_there links n s.pre s.post s.between.not_front);
          }
      | false ↦ λ e.
          let k : Lacks n (order_of links first) = empty_lacks p links first n e in
          let f : IsFree links n = inv.linked.free n k in
          record {
            row = f.row ∙ sym (row_nowhere links n (order_of links first) k);
            previous = f.previous ∙ sym (previous_nowhere links n None (order_of links first) k);
            next = f.next ∙ sym (next_nowhere links n (order_of links first) k);
          }
    ]) refl

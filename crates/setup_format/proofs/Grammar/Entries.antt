-- A table of names: since its entries ascend, the first one at fault is the one with the least name.
use Rattle.std.proofs.Common.{◌≡◌, ℕ, ◌+◌, Bool, cond, if◌then◌else◌, is_err, List, [], ◌∷◌, ◌++◌, map, Option, None, Some, Result, Ok, Err, String, Global, Less, Greater, nat_cmp, string_bytes, refl, sym, ap, subst, ◌∙◌, true, false, arith}
use Rattle.std.specs.List.{AllByRecursion, filter}
use Rattle.std.specs.List.Sorted.{IsStrictlySortedBy}
use Rattle.std.specs.Map.{keys_of as map_keys}
use Rattle.std.specs.String.{string_cmp}
use Rattle.std.specs.Ordering.{ordering_reverse, is_lt}
use Rattle.std.specs.Cmp.Lexicographic.{slice_cmp}
use Rattle.std.proofs.lemmas.Cmp.{nat_list_cmp_total}
use Rattle.toml.specs.Data.{Data}
use Rattle.toml.specs.View.{view, members_view}
use Rattle.toml.specs.declared.value.Value.{Value}
use Rattle.cap_core.specs.declared.profile.ProfileName.{ProfileName}
use Rattle.setup_values.specs.declared.values.Wrong.{Wrong}
use Rattle.setup_values.specs.Keys.{entries_of, lesser, least}
use Rattle.setup_values.specs.Kinds.{each, entry, entry_at_fault, told, names_in}
use Rattle.setup_values.proofs.Loops.{with_front, starts, goes_on, ends, is_done}
use Rattle.setup_format.specs.declared.fault.Place.{Place}
use Rattle.setup_format.specs.declared.fault.SetupFault.{SetupFault}
use Rattle.setup_format.specs.declared.fault.SetupFault.TheVariants as faults
use Rattle.setup_format.specs.Faults.{Fails, at, key_bytes}
use Rattle.setup_format.specs.Tables.{at_key}

abbrev pub Entry : Type 0
Entry = String Global × Value

abbrev pub seen : Entry → List ℕ × Data
seen e = (string_bytes e.0, view e.1)

entries_seen : (es : List Entry) → entries_of (members_view es) ≡ map seen es
entries_seen [] = refl
entries_seen (e ∷ es) = ap (λ rest. seen e ∷ rest) (entries_seen es)

-- ---- the least name

abbrev first_of : List ℕ × Data → Option (List ℕ × Data) → Option (List ℕ × Data)
first_of = lesser (λ e. e.0)

abbrev least_of : List (List ℕ × Data) → Option (List ℕ × Data)
least_of = least (λ e. e.0)

-- an entry that is below another stays the lesser one
stays_first : (e x : List ℕ × Data) → slice_cmp nat_cmp e.0 x.0 ≡ Less → first_of e (Some x) ≡ Some e
stays_first e x lt =
    let back : slice_cmp nat_cmp x.0 e.0 ≡ Greater = nat_list_cmp_total.antisymm x.0 e.0 ∙ ap ordering_reverse lt in
    rw back

stays_before : (e x : List ℕ × Data) (rest : Option (List ℕ × Data)) → slice_cmp nat_cmp e.0 x.0 ≡ Less → first_of e rest ≡ Some e → first_of e (first_of x rest) ≡ Some e
stays_before e x None lt h = stays_first e x lt
stays_before e x (Some y) lt h = chosen (is_lt (slice_cmp nat_cmp y.0 x.0))
  where
    chosen : (b : Bool) → first_of e (if b then Some y else Some x) ≡ Some e
    chosen true = h
    chosen false = stays_first e x lt

kept : (q : List ℕ × Data → Bool) (b : Bool) (e x : List ℕ × Data) (rest : List (List ℕ × Data)) → slice_cmp nat_cmp e.0 x.0 ≡ Less → first_of e (least_of rest) ≡ Some e
    → first_of e (least_of (cond b (x ∷ rest) rest)) ≡ Some e
kept q true e x rest lt h = stays_before e x (least_of rest) lt h
kept q false e x rest lt h = h

stays : (q : List ℕ × Data → Bool) (e : Entry) (es : List Entry) → AllByRecursion (λ k. string_cmp e.0 k ≡ Less) (map_keys es) → first_of (seen e) (least_of (filter q (map seen es))) ≡ Some (seen e)
stays q e [] h = refl
stays q e (x ∷ es) h = kept q (q (seen x)) (seen e) (seen x) (filter q (map seen es)) h.0 (stays q e es h.1)

lesser_passes : (q : List ℕ × Data → Bool) (a x : List ℕ × Data) (o : Option (List ℕ × Data)) → q a ≡ true → ((y : List ℕ × Data) → o ≡ Some y → q y ≡ true) → first_of a o ≡ Some x → q x ≡ true
lesser_passes q a x None this others e = let same : a ≡ x = cc in subst (λ z. q z ≡ true) same this
lesser_passes q a x (Some y) this others e = chosen (is_lt (slice_cmp nat_cmp y.0 a.0)) e
  where
    chosen : (b : Bool) → (if b then Some y else Some a) ≡ Some x → q x ≡ true
    chosen true h = others x h
    chosen false h = let same : a ≡ x = cc in subst (λ z. q z ≡ true) same this

either_passes : (q : List ℕ × Data → Bool) (a x : List ℕ × Data) (rest : List (List ℕ × Data)) (b : Bool) → q a ≡ b → ((y : List ℕ × Data) → least_of rest ≡ Some y → q y ≡ true)
    → least_of (cond b (a ∷ rest) rest) ≡ Some x → q x ≡ true
either_passes q a x rest true is others e = lesser_passes q a x (least_of rest) is others e
either_passes q a x rest false is others e = others x e

least_passes : (q : List ℕ × Data → Bool) (xs : List (List ℕ × Data)) (x : List ℕ × Data) → least_of (filter q xs) ≡ Some x → q x ≡ true
least_passes q [] x e = absurd cc
least_passes q (a ∷ xs) x e = either_passes q a x (filter q xs) (q a) refl (λ y h. least_passes q xs y h) e

-- ---- the entries in turn

-- what is read of each does not depend on its place
no_place : {A B E : Type 0} (read : A → Result B E) (n m : ℕ) (xs : List A) → each (λ _. read) n xs ≡ each (λ _. read) m xs
unfolding each
no_place read n m [] = refl
no_place read n m (x ∷ xs) = rw (no_place read (n + 1) (m + 1) xs)

module _ (p : ProfileName) where
  abbrev read_all : ℕ → List (List ℕ × Data) → Result (List (List ℕ × ℕ)) Wrong
  read_all n es = each (λ _. entry p) n es

  abbrev is_at_fault : List ℕ × Data → Bool
  is_at_fault e = is_err (entry p e)

  -- an entry at fault after one that is none
  alone : (n : ℕ) (e x : List ℕ × Data) (es : List (List ℕ × Data)) (y : List ℕ × ℕ) (r : Result (List ℕ × ℕ) Wrong) → entry p e ≡ Ok y → entry p x ≡ r → is_err r ≡ true
      → read_all 0 (x ∷ []) ≡ read_all (n + 1) es → read_all 0 (x ∷ []) ≡ read_all n (e ∷ es)
  unfolding each
  alone n e x es y (Ok z) is other bad rest = absurd cc
  alone n e x es y (Err w) is other bad rest =
      let one : read_all 0 (x ∷ []) ≡ Err w = rw other refl in
      let others : read_all (n + 1) es ≡ Err w = sym rest ∙ one in
      one ∙ rw (is, others) refl

  after : (n : ℕ) (e : List ℕ × Data) (es : List (List ℕ × Data)) (y : List ℕ × ℕ) (o : Option (List ℕ × Data)) → entry p e ≡ Ok y → entry_at_fault p es ≡ o
      → read_all 0 (told o es) ≡ read_all (n + 1) es → read_all 0 (told o (e ∷ es)) ≡ read_all n (e ∷ es)
  after n e es y None is found rest = no_place (entry p) 0 n (e ∷ es)
  after n e es y (Some x) is found rest = alone n e x es y (entry p x) is refl (least_passes is_at_fault es x found) rest

  turn : (n : ℕ) (e : List ℕ × Data) (es : List (List ℕ × Data)) (r : Result (List ℕ × ℕ) Wrong) → entry p e ≡ r → first_of e (entry_at_fault p es) ≡ Some e
      → read_all 0 (told (entry_at_fault p es) es) ≡ read_all (n + 1) es → read_all 0 (told (entry_at_fault p (e ∷ es)) (e ∷ es)) ≡ read_all n (e ∷ es)
  unfolding each
  turn n e es (Ok y) is first rest =
      let same : entry_at_fault p (e ∷ es) ≡ entry_at_fault p es = rw is refl in
      ap (λ o. read_all 0 (told o (e ∷ es))) same ∙ after n e es y (entry_at_fault p es) is refl rest
  turn n e es (Err w) is first rest =
      let this : entry_at_fault p (e ∷ es) ≡ Some e = rw is first in
      ap (λ o. read_all 0 (told o (e ∷ es))) this ∙ rw is refl

  in_turn : (n : ℕ) (es : List Entry) → IsStrictlySortedBy string_cmp (map_keys es) → read_all 0 (told (entry_at_fault p (map seen es)) (map seen es)) ≡ read_all n (map seen es)
  unfolding each IsStrictlySortedBy
  in_turn n [] h = refl
  in_turn n (e ∷ es) h = turn n (seen e) (map seen es) (entry p (seen e)) refl (stays is_at_fault e es h.0) (in_turn (n + 1) es h.1)

-- ---- a loop over the entries

abbrev pub so_far : ProfileName → List (List ℕ × ℕ) → List Entry → Result (List (List ℕ × ℕ)) Wrong
so_far p front left = with_front front (each (λ _. entry p) 0 (map seen left))

pub names_in_turn : (p : ProfileName) (es : List Entry) → IsStrictlySortedBy string_cmp (map_keys es) → names_in p (entries_of (members_view es)) ≡ so_far p [] es
names_in_turn p es sorted = ap (names_in p) (entries_seen es) ∙ (in_turn p 0 es sorted ∙ sym (starts (each (λ _. entry p) 0 (map seen es))))

pub one_more : (p : ProfileName) (front : List (List ℕ × ℕ)) (e : Entry) (left : List Entry) (y : List ℕ × ℕ) (total : Result (List (List ℕ × ℕ)) Wrong) → entry p (seen e) ≡ Ok y
    → so_far p front (e ∷ left) ≡ total → so_far p (front ++ y ∷ []) left ≡ total
one_more p front e left y total h before =
    ap (with_front (front ++ y ∷ [])) (no_place (entry p) 0 1 (map seen left)) ∙ goes_on seen (λ _. entry p) front 0 0 (e ∷ left) e y total (omega arith) h before

pub at_fault : (p : ProfileName) (front : List (List ℕ × ℕ)) (e : Entry) (left : List Entry) (w : Wrong) (total : Result (List (List ℕ × ℕ)) Wrong) → entry p (seen e) ≡ Err w
    → so_far p front (e ∷ left) ≡ total → total ≡ Err w
at_fault p front e left w total h before = ends seen (λ _. entry p) front 0 0 (e ∷ left) e w total (omega arith) h before

pub all_read : (p : ProfileName) (front : List (List ℕ × ℕ)) (total : Result (List (List ℕ × ℕ)) Wrong) → so_far p front [] ≡ total → total ≡ Ok front
all_read p front total before = is_done seen (λ _. entry p) front 0 0 [] total refl before

-- a fault that is told at a key, where the same is wrong with the whole
pub fails_at : {A B : Type 0} (e : SetupFault) (place : Place) (key : List ℕ) (r : Result A Wrong) (total : Result B Wrong) → ((w : Wrong) → r ≡ Err w → total ≡ Err w)
    → Fails e (at_key place key r) → Fails e (at_key place key total)
fails_at faults.Memory place key r total same h = tt
fails_at faults.Text place key (Ok x) total same h = absurd cc
fails_at (faults.At w p k) place key (Ok x) total same h = absurd cc
fails_at (faults.Layout d) place key (Ok x) total same h = absurd cc
fails_at faults.Text place key (Err w) total same h = absurd cc
fails_at (faults.At w' p k) place key (Err w) total same h =
    let told_is : at w place key ≡ at w' p (key_bytes k) = cc in
    ap (at_key place key) (same w refl) ∙ ap Err told_is
fails_at (faults.Layout d) place key (Err w) total same h = absurd cc

-- The store's calls on its table, as its contracts see them: through the slice of a vector, and by the value that it shows.
use Rattle.std.proofs.Common.{◌≡◌, ℕ, ◌*◌, ◌^◌, ◌<◌, Bool, true, false, List, [], ◌∷◌, ◌++◌, map, length, Option, None, ◌⊎◌, refl, sym, ◌∙◌, ap, subst, IfSome}
use Rattle.std.specs.List.{AllByRecursion as Each}
use Rattle.cap_core.specs.declared.profile.ProfileName.{ProfileName}
use Rattle.cap_core.specs.declared.capability.Cap.{Cap}
use Rattle.cap_core.specs.declared.capability.Cap.TheVariants.{Null}
use Rattle.cap_core.specs.Numbers.{slot_size}
use Rattle.cap_core.specs.Objects.{is_untyped, badge_of, contains, IsLawful}
use Rattle.slot_core.specs.declared.linked.table.Link.{Link}
use Rattle.kernel_forest.specs.Entries.{is_full, cap_at, first_child}
use Rattle.kernel_forest.specs.Derivation.{derived, rooted, retyped, moved, freed, emptied, with_free, is_new_original, names_same, is_named}
use Rattle.kernel_forest.specs.Disjoint.{IsDisjoint}
use Rattle.kernel_forest.specs.Marked.{Marked, marked, with_cap, forest_of}
use Rattle.kernel_forest.specs.MarkedEdits.{appended, object_behind, derived_behind, moved_to, freed_at, taken_out}
use Rattle.kernel_forest.proofs.Marked.ListEdits.{changed_at-at}
use Rattle.slot_core.specs.TableEdits.{PutsBehind, Appends, TakesOut, Replaces, Frees}
use Rattle.slot_core.specs.Links.{next_of, previous_of, row_of, Lacks, IsLinked, rows_of, memory_of, IsLinkedStore}
use Rattle.slot_core.proofs.LinkedStores.Chains.{linked-same}
use Rattle.slot_core.proofs.LinkedStores.Linkings.{map-same, map-parts}
use Rattle.kernel_forest.proofs.Marked.MarkedLines.{absent_at}
use Rattle.kernel_forest.proofs.Marked.MarkedSteps.{cap_nowhere}
use Rattle.kernel_forest.proofs.Marked.MarkedEdits.{freed_list}
use Rattle.slot_core.proofs.LinkedStores.LinkedSteps.{Becomes, Splits, splits, cap_split, next_within, previous_within, finished, rooted_store, retyped_store, derived_store, moved_store, emptied_store, through}

-- a slot that the value shows as full
pub found : (p : ProfileName) (links : List Link) (first last : Option ℕ) (n : ℕ) (value : List Marked × ℕ) → (rows_of links first, memory_of p links) ≡ value → IsLinkedStore p links first last
    → is_full (n * slot_size p) (forest_of p value.0) ≡ true → Splits p links first last n
found p links first last n value v inv full =
    splits p links first last n inv (ap (λ (x : List Marked × ℕ). is_full (n * slot_size p) (forest_of p x.0)) v ∙ full)

-- what holds an untyped capability is full
pub full_untyped : (p : ProfileName) (n : ℕ) (l : List Marked) → is_untyped (cap_at (forest_of p l) (n * slot_size p)) ≡ true → is_full (n * slot_size p) (forest_of p l) ≡ true
full_untyped p n l u =
    (elim (is_full (n * slot_size p) (forest_of p l)) as (λ c. is_full (n * slot_size p) (forest_of p l) ≡ c → c ≡ true) [
      | true ↦ λ e. refl
      | false ↦ λ e. absurd (let z : cap_at (forest_of p l) (n * slot_size p) ≡ Null = cap_nowhere p n l (absent_at p n l e) in let f : is_untyped (cap_at (forest_of p l) (n * slot_size p)) ≡ false = ap is_untyped z in let no' : true ≡ false = sym u ∙ f in cc)
    ]) refl

pub in_next : (p : ProfileName) (old mid : List Link) (first last : Option ℕ) (n : ℕ) → mid ≡ old → Splits p old first last n → IfSome (next_of mid n) (λ i. i < length mid)
in_next p old mid first last n e s = let P : List Link → Type 0 = λ m. IfSome (next_of m n) (λ i. i < length m) in subst P (sym e) (next_within p old first last n s)

pub in_previous : (p : ProfileName) (old mid : List Link) (first last : Option ℕ) (n : ℕ) → mid ≡ old → Splits p old first last n → IfSome (previous_of mid n) (λ i. i < length mid)
in_previous p old mid first last n e s = let P : List Link → Type 0 = λ m. IfSome (previous_of m n) (λ i. i < length m) in subst P (sym e) (previous_within p old first last n s)

pub in_table : (p : ProfileName) (old mid : List Link) (first last : Option ℕ) (n : ℕ) → mid ≡ old → Splits p old first last n → n < length mid
in_table p old mid first last n e s = let P : List Link → Type 0 = λ m. n < length m in subst P (sym e) s.within

pub rooted_call : (p : ProfileName) (old mid new k : List Link) (first first' last last' : Option ℕ) (n : ℕ) (cap : Cap) (value : List Marked × ℕ) → mid ≡ old → k ≡ new → (rows_of old first, memory_of p old) ≡ value → IsLinkedStore p old first last
    → n * slot_size p < 2 ^ value.1 → is_full (n * slot_size p) (forest_of p value.0) ≡ false → IsLawful p value.1 cap → is_named cap (forest_of p value.0) ≡ false
    → IsDisjoint p (rooted (n * slot_size p) cap (forest_of p value.0)) → Appends mid new first first' last last' n (marked n cap true true)
    → Becomes p k first' last' value.1 (appended n cap value.0) (rooted (n * slot_size p) cap (forest_of p value.0))
rooted_call p old mid new k first first' last last' n cap value e ek v inv within empty lawful named dis w =
    through p old mid new k first last first' last' value (appended n cap) (rooted (n * slot_size p) cap) e ek v inv
    (λ v' i. rooted_store p mid new first first' last last' n cap i
    (let P : List Marked × ℕ → Type 0 = λ x. n * slot_size p < 2 ^ x.1 in subst P (sym v') within)
    (let P : List Marked × ℕ → Type 0 = λ x. is_full (n * slot_size p) (forest_of p x.0) ≡ false in subst P (sym v') empty)
    (let P : List Marked × ℕ → Type 0 = λ x. IsLawful p x.1 cap in subst P (sym v') lawful)
    (let P : List Marked × ℕ → Type 0 = λ x. is_named cap (forest_of p x.0) ≡ false in subst P (sym v') named)
    (let P : List Marked × ℕ → Type 0 = λ x. IsDisjoint p (rooted (n * slot_size p) cap (forest_of p x.0)) in subst P (sym v') dis) w)

pub retyped_call : (p : ProfileName) (old mid new k : List Link) (first first' last last' : Option ℕ) (u n : ℕ) (cap : Cap) (value : List Marked × ℕ) → mid ≡ old → k ≡ new → (rows_of old first, memory_of p old) ≡ value → IsLinkedStore p old first last
    → is_untyped (cap_at (forest_of p value.0) (u * slot_size p)) ≡ true → contains p (cap_at (forest_of p value.0) (u * slot_size p)) cap ≡ true
    → n * slot_size p < 2 ^ value.1 → is_full (n * slot_size p) (forest_of p value.0) ≡ false → IsLawful p value.1 cap → is_named cap (forest_of p value.0) ≡ false
    → IsDisjoint p (retyped (u * slot_size p) (n * slot_size p) cap (forest_of p value.0)) → PutsBehind mid new first first' last last' u n (marked n cap true true)
    → Becomes p k first' last' value.1 (object_behind u n cap value.0) (retyped (u * slot_size p) (n * slot_size p) cap (forest_of p value.0))
retyped_call p old mid new k first first' last last' u n cap value e ek v inv untyped inside within empty lawful named dis w =
    through p old mid new k first last first' last' value (object_behind u n cap) (retyped (u * slot_size p) (n * slot_size p) cap) e ek v inv
    (λ v' i. retyped_store p mid new first first' last last' u n cap i (found p mid first last u value v' i (full_untyped p u value.0 untyped))
    (let P : List Marked × ℕ → Type 0 = λ x. is_untyped (cap_at (forest_of p x.0) (u * slot_size p)) ≡ true in subst P (sym v') untyped)
    (let P : List Marked × ℕ → Type 0 = λ x. contains p (cap_at (forest_of p x.0) (u * slot_size p)) cap ≡ true in subst P (sym v') inside)
    (let P : List Marked × ℕ → Type 0 = λ x. n * slot_size p < 2 ^ x.1 in subst P (sym v') within)
    (let P : List Marked × ℕ → Type 0 = λ x. is_full (n * slot_size p) (forest_of p x.0) ≡ false in subst P (sym v') empty)
    (let P : List Marked × ℕ → Type 0 = λ x. IsLawful p x.1 cap in subst P (sym v') lawful)
    (let P : List Marked × ℕ → Type 0 = λ x. is_named cap (forest_of p x.0) ≡ false in subst P (sym v') named)
    (let P : List Marked × ℕ → Type 0 = λ x. IsDisjoint p (retyped (u * slot_size p) (n * slot_size p) cap (forest_of p x.0)) in subst P (sym v') dis) w)

pub derived_call : (p : ProfileName) (old mid new k : List Link) (first first' last last' : Option ℕ) (s n : ℕ) (cap : Cap) (o : Bool) (value : List Marked × ℕ) → mid ≡ old → k ≡ new → (rows_of old first, memory_of p old) ≡ value → IsLinkedStore p old first last
    → is_full (s * slot_size p) (forest_of p value.0) ≡ true → o ≡ is_new_original (row_of old s).cap cap
    → n * slot_size p < 2 ^ value.1 → is_full (n * slot_size p) (forest_of p value.0) ≡ false → IsLawful p value.1 cap
    → names_same (cap_at (forest_of p value.0) (s * slot_size p)) cap ≡ true
    → (badge_of cap ≡ badge_of (cap_at (forest_of p value.0) (s * slot_size p))) ⊎ (badge_of (cap_at (forest_of p value.0) (s * slot_size p)) ≡ 0)
    → (is_untyped cap ≡ true → first_child (s * slot_size p) (forest_of p value.0) ≡ None)
    → IsDisjoint p (derived (s * slot_size p) (n * slot_size p) cap (forest_of p value.0)) → PutsBehind mid new first first' last last' s n (marked n cap o o)
    → Becomes p k first' last' value.1 (derived_behind s n cap value.0) (derived (s * slot_size p) (n * slot_size p) cap (forest_of p value.0))
derived_call p old mid new k first first' last last' s n cap o value e ek v inv full is within empty lawful same badge childless dis w =
    through p old mid new k first last first' last' value (derived_behind s n cap) (derived (s * slot_size p) (n * slot_size p) cap) e ek v inv
    (λ v' i. derived_store p mid new first first' last last' s n cap o i (found p mid first last s value v' i full) (is ∙ ap (λ m. is_new_original (row_of m s).cap cap) (sym e))
    (let P : List Marked × ℕ → Type 0 = λ x. n * slot_size p < 2 ^ x.1 in subst P (sym v') within)
    (let P : List Marked × ℕ → Type 0 = λ x. is_full (n * slot_size p) (forest_of p x.0) ≡ false in subst P (sym v') empty)
    (let P : List Marked × ℕ → Type 0 = λ x. IsLawful p x.1 cap in subst P (sym v') lawful)
    (let P : List Marked × ℕ → Type 0 = λ x. names_same (cap_at (forest_of p x.0) (s * slot_size p)) cap ≡ true in subst P (sym v') same)
    (let P : List Marked × ℕ → Type 0 = λ x. (badge_of cap ≡ badge_of (cap_at (forest_of p x.0) (s * slot_size p))) ⊎ (badge_of (cap_at (forest_of p x.0) (s * slot_size p)) ≡ 0) in subst P (sym v') badge)
    (let P : List Marked × ℕ → Type 0 = λ x. is_untyped cap ≡ true → first_child (s * slot_size p) (forest_of p x.0) ≡ None in subst P (sym v') childless)
    (let P : List Marked × ℕ → Type 0 = λ x. IsDisjoint p (derived (s * slot_size p) (n * slot_size p) cap (forest_of p x.0)) in subst P (sym v') dis) w)

pub moved_call : (p : ProfileName) (old mid new k : List Link) (first first' last last' : Option ℕ) (s n : ℕ) (cap : Cap) (value : List Marked × ℕ) → mid ≡ old → k ≡ new → (rows_of old first, memory_of p old) ≡ value → IsLinkedStore p old first last
    → is_full (s * slot_size p) (forest_of p value.0) ≡ true → n * slot_size p < 2 ^ value.1 → is_full (n * slot_size p) (forest_of p value.0) ≡ false → IsLawful p value.1 cap
    → names_same (cap_at (forest_of p value.0) (s * slot_size p)) cap ≡ true → badge_of cap ≡ badge_of (cap_at (forest_of p value.0) (s * slot_size p))
    → IsDisjoint p (moved (s * slot_size p) (n * slot_size p) cap (forest_of p value.0)) → Replaces mid new first first' last last' s n cap
    → Becomes p k first' last' value.1 (moved_to s n cap value.0) (moved (s * slot_size p) (n * slot_size p) cap (forest_of p value.0))
moved_call p old mid new k first first' last last' s n cap value e ek v inv full within empty lawful same badge dis w =
    through p old mid new k first last first' last' value (moved_to s n cap) (moved (s * slot_size p) (n * slot_size p) cap) e ek v inv
    (λ v' i. moved_store p mid new first first' last last' s n cap i (found p mid first last s value v' i full)
    (let P : List Marked × ℕ → Type 0 = λ x. n * slot_size p < 2 ^ x.1 in subst P (sym v') within)
    (let P : List Marked × ℕ → Type 0 = λ x. is_full (n * slot_size p) (forest_of p x.0) ≡ false in subst P (sym v') empty)
    (let P : List Marked × ℕ → Type 0 = λ x. IsLawful p x.1 cap in subst P (sym v') lawful)
    (let P : List Marked × ℕ → Type 0 = λ x. names_same (cap_at (forest_of p x.0) (s * slot_size p)) cap ≡ true in subst P (sym v') same)
    (let P : List Marked × ℕ → Type 0 = λ x. badge_of cap ≡ badge_of (cap_at (forest_of p x.0) (s * slot_size p)) in subst P (sym v') badge)
    (let P : List Marked × ℕ → Type 0 = λ x. IsDisjoint p (moved (s * slot_size p) (n * slot_size p) cap (forest_of p x.0)) in subst P (sym v') dis) w)

pub emptied_call : (p : ProfileName) (old mid new k : List Link) (first first' last last' : Option ℕ) (s : ℕ) (value : List Marked × ℕ) → mid ≡ old → k ≡ new → (rows_of old first, memory_of p old) ≡ value → IsLinkedStore p old first last
    → is_full (s * slot_size p) (forest_of p value.0) ≡ true → TakesOut mid new first first' last last' s
    → Becomes p k first' last' value.1 (taken_out s value.0) (emptied (s * slot_size p) (forest_of p value.0))
emptied_call p old mid new k first first' last last' s value e ek v inv full w =
    through p old mid new k first last first' last' value (taken_out s) (emptied (s * slot_size p)) e ek v inv
    (λ v' i. emptied_store p mid new first first' last last' s i (found p mid first last s value v' i full) w)

each-all : (P : ℕ → Type 0) → ((i : ℕ) → P i) → (l : List ℕ) → Each P l
each-all P f [] = tt
each-all P f (i ∷ l) = (f i, each-all P f l)

each-other : (links links' : List Link) (s free : ℕ) → Frees links links' s free → (l : List ℕ) → Lacks s l → Each (λ i. row_of links' i ≡ row_of links i) l
each-other links links' s free w [] h = tt
each-other links links' s free w (i ∷ l) h = (w.rows i h.0, each-other links links' s free w l h.1)

lacks_own : (pre : List ℕ) (s : ℕ) (post : List ℕ) → Lacks s (pre ++ s ∷ post) → ⊥
lacks_own [] s post h = h.0 refl
lacks_own (a ∷ pre) s post h = lacks_own pre s post h.1

freed_store : (p : ProfileName) (links links' : List Link) (first last : Option ℕ) (s free : ℕ) → IsLinkedStore p links first last → Splits p links first last s
    → IsLawful p (memory_of p links) (with_free free (cap_at (forest_of p (rows_of links first)) (s * slot_size p))) → Frees links links' s free
    → Becomes p links' first last (memory_of p links) (freed_at s free (rows_of links first)) (freed (s * slot_size p) free (forest_of p (rows_of links first)))
freed_store p links links' first last s free inv sp lawful w =
    let R : ℕ → Marked = row_of links in
    let ok = sp.linked in
    let x : Marked = with_cap (with_free free (R s).cap) (R s) in
    let linked : IsLinked links' first last (sp.pre ++ s ∷ sp.post) = record {
      starts = ok.starts;
      ends = ok.ends;
      linked = linked-same (next_of links) (previous_of links) (next_of links') (previous_of links') None (sp.pre ++ s ∷ sp.post) None ok.linked
          (each-all (λ i. next_of links' i ≡ next_of links i) w.next (sp.pre ++ s ∷ sp.post)) (each-all (λ i. previous_of links' i ≡ previous_of links i) w.previous (sp.pre ++ s ∷ sp.post));
      apart = ok.apart;
      within = (let P : ℕ → Type 0 = λ n. Each (λ i. i < n) (sp.pre ++ s ∷ sp.post) in subst P (sym w.size) ok.within);
      free = λ i h. record {
        next = w.next i ∙ (ok.free i h).next;
        previous = w.previous i ∙ (ok.free i h).previous;
        row = w.rows i (λ d. lacks_own sp.pre s sp.post (let L : ℕ → Type 0 = λ j. Lacks j (sp.pre ++ s ∷ sp.post) in subst L d h)) ∙ (ok.free i h).row;
      };
    } in
    let rows : map (row_of links') (sp.pre ++ s ∷ sp.post) ≡ map R sp.pre ++ x ∷ map R sp.post =
    map-parts (row_of links') sp.pre (s ∷ sp.post)
    ∙ ap (λ (m : List Marked). m ++ row_of links' s ∷ map (row_of links') sp.post) (map-same R (row_of links') sp.pre (each-other links links' s free w sp.pre sp.between.not_front))
    ∙ ap (λ (r : Marked). map R sp.pre ++ r ∷ map (row_of links') sp.post) w.row
    ∙ ap (λ (m : List Marked). map R sp.pre ++ x ∷ m) (map-same R (row_of links') sp.post (each-other links links' s free w sp.post sp.between.not_back)) in
    let F : Cap → Type 0 = λ a. IsLawful p (memory_of p links) (with_free free a) in
    let k = freed_list p (memory_of p links) (map R sp.pre) (R s) (map R sp.post) free sp.kept sp.stands (subst F (cap_split p links first last s sp) lawful) in
    finished p links links' first last (sp.pre ++ s ∷ sp.post) (map R sp.pre ++ x ∷ map R sp.post) (freed_at s free (rows_of links first)) (freed (s * slot_size p) free (forest_of p (rows_of links first)))
    inv.size w.size linked rows (ap (freed_at s free) sp.rows ∙ changed_at-at p (λ (r : Marked). with_cap (with_free free r.cap) r) (map R sp.pre) (R s) (map R sp.post) sp.stands.front) k.0 (k.1 ∙ ap (λ (l : List Marked). freed (s * slot_size p) free (forest_of p l)) (sym sp.rows))

pub freed_call : (p : ProfileName) (old mid new k : List Link) (first last : Option ℕ) (s free : ℕ) (value : List Marked × ℕ) → mid ≡ old → k ≡ new → (rows_of old first, memory_of p old) ≡ value → IsLinkedStore p old first last
    → is_untyped (cap_at (forest_of p value.0) (s * slot_size p)) ≡ true → IsLawful p value.1 (with_free free (cap_at (forest_of p value.0) (s * slot_size p))) → Frees mid new s free
    → Becomes p k first last value.1 (freed_at s free value.0) (freed (s * slot_size p) free (forest_of p value.0))
freed_call p old mid new k first last s free value e ek v inv untyped lawful w =
    through p old mid new k first last first last value (freed_at s free) (freed (s * slot_size p) free) e ek v inv
    (λ v' i. freed_store p mid new first last s free i (found p mid first last s value v' i (full_untyped p s value.0 untyped))
    (let P : List Marked × ℕ → Type 0 = λ x. IsLawful p x.1 (with_free free (cap_at (forest_of p x.0) (s * slot_size p))) in subst P (sym v') lawful) w)

-- The lines of a revoke that clears only what stands below its slot.
use Rattle.std.proofs.Common.{◌≡◌, inl, inr, ℕ, suc, Bool, true, false, cond, not, ◌==◌, ◌||◌, List, [], ◌∷◌, ◌++◌, codes, filter, length, map, count_by, All, Option, Some, None, refl, sym, ap, ◌∙◌, subst, eq-eqb, arith}
use Rattle.std.specs.List.{AllByRecursion as Each, IsDistinct, cons_option, filter_map, flat_map, list_any}
use Rattle.std.specs.Fmt.{decimal}
use Rattle.std.specs.Ordering.{nat_cmp, match_ordering}
use Rattle.std.specs.declared.cmp.Ordering.TheVariants.{Less, Equal, Greater}
use Rattle.std.specs.BTreeSet.{insert_key}
use Rattle.std.specs.FinMap.{nat_cmp-IsAntisymmetric}
use Rattle.std.proofs.lemmas.Bool.{eqb-true}
use Rattle.std.proofs.lemmas.Bool.Decides.{nat_tests}
use Rattle.std.proofs.lemmas.List.Sums.{length-filter}
use Rattle.std.proofs.lemmas.List.Elements.{All-contains}
use Rattle.cap_core.specs.declared.profile.ProfileName.{ProfileName}
use Rattle.cap_core.specs.declared.capability.Cap.{Cap}
use Rattle.cap_core.specs.declared.capability.Cap.TheVariants.{Null, Untyped, Endpoint, CNode, Tcb}
use Rattle.cap_core.specs.Objects.{is_null}
use Rattle.kernel_forest.specs.Forest.{Forest, preorder}
use Rattle.kernel_forest.specs.Entries.{Entry, is_at, slots, caps, cap_at, derivations_of}
use Rattle.kernel_forest.specs.Derivation.{names_same}
use Rattle.kernel_delete.specs.Members.{In, AreApart}
use Rattle.kernel_delete.specs.Revoke.{revoke}
use Rattle.kernel_delete.proofs.Clearable.{contains_in, in_contains}
use Rattle.kernel_delete.proofs.Kept.{in_without, without_in}
use Rattle.kernel_delete.proofs.Members.{any_in, any_of, in_filter, filter_in, tells, same_truth, each_of, eqb_self}
use Rattle.kernel_delete.proofs.Orders.{apart_of, one_only}
use Rattle.kernel_abstract.specs.Shown.{Shown}
use Rattle.kernel_abstract.specs.State.{State, shown}
use Rattle.query_revoke.specs.declared.revoked.Revoked.{Revoked}
use Rattle.query_revoke.specs.Below.{is_below, IsNamedBelow, IsRevokedAlone}
use Rattle.setup_report.specs.Naming.{Texts}
use Rattle.setup_report.specs.State.{Derived, is_in, rising, slot_of, found, by_address}
use Rattle.setup_report.specs.Report.{terminated}
use Rattle.setup_report.proofs.Addresses.Rising.{any_rising, all_rising, rising_same}
use Rattle.setup_report.proofs.Addresses.Slots.{slots_are}
use Rattle.command_audit.specs.declared.ends.Asked.{Asked}
use Rattle.setup_report.specs.Text.{held_slot_text}
use Rattle.command_audit.specs.Ends.{is_object_named, ended_capabilities, asked_object, all_asked, regions_at, ended_thread_line, ended_endpoint_line, ended_node_line, region_line, ends_lines}
use Rattle.command_audit.specs.Revokes.{shown_after_revoke, is_cleared, cleared_count, revoke_lines, lines_of_revoke}
use Rattle.query_revoke.proofs.Found.{entries_told}
use Rattle.query_revoke.proofs.Left.{mapped_in, in_mapped, left_over, cleared_where, alike}
use Rattle.command_audit.proofs.Ended.{named_entries}

-- ---- the forest after the revoke

pub derivations_revoked : (p : ProfileName) (A : State) (slot : ℕ) → (shown_after_revoke p A slot).derivations ≡ revoke p slot A.derivations
unfolding shown
derivations_revoked p A slot = refl

-- ---- counts in rising order

count_insert : (q : ℕ → Bool) (k : ℕ) (xs : List ℕ) → is_in k xs ≡ false → length (filter q (insert_key nat_cmp xs k)) ≡ length (filter q (k ∷ xs))
count_insert q k [] e = refl
count_insert q k (x ∷ xs) e =
    elim (nat_cmp k x) as (λ o. nat_cmp k x ≡ o → length (filter q (match_ordering o (k ∷ x ∷ xs) (x ∷ xs) (x ∷ insert_key nat_cmp xs k))) ≡ length (filter q (k ∷ x ∷ xs))) [
      | Less ↦ λ o. refl
      | Equal ↦ λ o. absurd (let z : true ≡ false = sym (ap (λ (b : Bool). b || is_in k xs) (eq-eqb k x (nat_cmp-IsAntisymmetric k x o))) ∙ e in cc)
      | Greater ↦ λ o. swapped (q k) (q x) (count_insert q k xs (second (k == x) (is_in k xs) e))
    ] refl
  where
    second : (a b : Bool) → (a || b) ≡ false → b ≡ false
    second true b h = cc
    second false b h = h

    swapped : (a b : Bool) → length (filter q (insert_key nat_cmp xs k)) ≡ length (cond a (k ∷ filter q xs) (filter q xs)) →
        length (cond b (x ∷ filter q (insert_key nat_cmp xs k)) (filter q (insert_key nat_cmp xs k))) ≡ length (cond a (k ∷ cond b (x ∷ filter q xs) (filter q xs)) (cond b (x ∷ filter q xs) (filter q xs)))
    swapped true true h = ap suc h
    swapped true false h = h
    swapped false true h = ap suc h
    swapped false false h = h

abbrev Once : List ℕ → Type 0
Once [] = Unit {0}
Once (x ∷ xs) = (is_in x xs ≡ false) × Once xs

eq_swap : (a b : ℕ) → (a == b) ≡ (b == a)
eq_swap a b = grind (arith, nat_tests)

in_slots : (n : ℕ) (l : List Entry) → is_in n (map (λ (e : Entry). e.slot) l) ≡ list_any (is_at n) l
in_slots n [] = refl
in_slots n (a ∷ l) = λ i. eq_swap n a.slot i || in_slots n l i

once_of : (l : List Entry) → AreApart l → Once (map (λ (e : Entry). e.slot) l)
once_of [] apart = tt
once_of (a ∷ l) apart = (in_slots a.slot l ∙ (apart a.slot).0 (eqb_self a.slot), once_of l (λ n. (apart n).1))

count_rising : (q : ℕ → Bool) (xs : List ℕ) → Once xs → length (filter q (rising xs)) ≡ length (filter q xs)
count_rising q [] h = refl
count_rising q (x ∷ xs) h =
    count_insert q x (rising xs) (any_rising (λ a. x == a) xs ∙ h.0)
    ∙ more (q x) (count_rising q xs h.1)
  where
    more : (b : Bool) → length (filter q (rising xs)) ≡ length (filter q xs) → length (cond b (x ∷ filter q (rising xs)) (filter q (rising xs))) ≡ length (cond b (x ∷ filter q xs) (filter q xs))
    more true e = ap suc e
    more false e = e

-- ---- full slots by their addresses

found_some : (list : List Derived) (n : ℕ) → is_in n (map slot_of list) ≡ true → (d : Derived) × ((found list n ≡ Some d) × (In d list × (slot_of d ≡ n)))
found_some [] n h = cc
found_some (d ∷ list) n h = go (slot_of d == n) refl (found_some list n)
  where
    first_or : (a b c : Bool) → (a || b) ≡ true → a ≡ c → c ≡ false → b ≡ true
    first_or true b c h e f = let z : true ≡ false = e ∙ f in cc
    first_or false b c h e f = h

    go : (t : Bool) → (slot_of d == n) ≡ t → (is_in n (map slot_of list) ≡ true → (x : Derived) × ((found list n ≡ Some x) × (In x list × (slot_of x ≡ n)))) →
        (x : Derived) × ((cond (slot_of d == n) (Some d) (found list n) ≡ Some x) × (In x (d ∷ list) × (slot_of x ≡ n)))
    go true e more = (d, (ap (λ (b : Bool). cond b (Some d) (found list n)) e, (inl refl, eqb-true (slot_of d) n e)))
    go false e more =
        let w = more (first_or (n == slot_of d) (is_in n (map slot_of list)) (slot_of d == n) h (eq_swap n (slot_of d)) e) in
        (w.0, (ap (λ (b : Bool). cond b (Some d) (found list n)) e ∙ w.1.0, (inr w.1.1.0, w.1.1.1)))

-- each row is one of the full slots
row_in : (list : List Derived) (ns : List ℕ) (d : Derived) → Each (λ n. is_in n (map slot_of list) ≡ true) ns → In d (filter_map (found list) ns) → In d list
row_in list [] d h i = absurd i
row_in list (n ∷ ns) d h i =
    let w = found_some list n h.0 in
    let P : List Derived → Type 0 = λ l. In d l in
    elim (subst P (ap (λ (o : Option Derived). cons_option o (filter_map (found list) ns)) w.1.0) i) [
      | inl e ↦ (let Q : Derived → Type 0 = λ x. In x list in subst Q (sym e) w.1.1.0)
      | inr j ↦ row_in list ns d h.1 j
    ]

in_row : (list : List Derived) (ns : List ℕ) (n : ℕ) → Each (λ n. is_in n (map slot_of list) ≡ true) ns → is_in n ns ≡ true →
    (d : Derived) × (In d (filter_map (found list) ns) × (In d list × (slot_of d ≡ n)))
in_row list [] n h e = cc
in_row list (m ∷ ns) n h e = go (n == m) refl (in_row list ns n h.1)
  where
    w : (d : Derived) × ((found list m ≡ Some d) × (In d list × (slot_of d ≡ m)))
    w = found_some list m h.0

    rows : filter_map (found list) (m ∷ ns) ≡ w.0 ∷ filter_map (found list) ns
    rows = ap (λ (o : Option Derived). cons_option o (filter_map (found list) ns)) w.1.0

    later : (a b c : Bool) → (a || b) ≡ true → a ≡ c → c ≡ false → b ≡ true
    later true b c h e f = let z : true ≡ false = e ∙ f in cc
    later false b c h e f = h

    go : (t : Bool) → (n == m) ≡ t → (is_in n ns ≡ true → (d : Derived) × (In d (filter_map (found list) ns) × (In d list × (slot_of d ≡ n)))) →
        (d : Derived) × (In d (filter_map (found list) (m ∷ ns)) × (In d list × (slot_of d ≡ n)))
    go true same more =
        let P : List Derived → Type 0 = λ l. In w.0 l in
        (w.0, (subst P (sym rows) (inl refl), (w.1.1.0, w.1.1.1 ∙ sym (eqb-true n m same))))
    go false other more =
        let v = more (later (n == m) (is_in n ns) (n == m) e refl other) in
        let P : List Derived → Type 0 = λ l. In v.0 l in
        (v.0, (subst P (sym rows) (inr v.1.0), v.1.1))

all_in_slots : (xs : List ℕ) → Each (λ n. is_in n xs ≡ true) (rising xs)
all_in_slots xs = all_rising (λ n. is_in n xs ≡ true) xs (each_of (λ n. is_in n xs ≡ true) xs (λ n i. any_in (λ a. n == a) xs n i (eqb_self n)))

-- what passes of the rows, by their slots
count_rows : (list : List Derived) (q : ℕ → Bool) (ns : List ℕ) → Each (λ n. is_in n (map slot_of list) ≡ true) ns →
    length (filter (λ (d : Derived). q (slot_of d)) (filter_map (found list) ns)) ≡ length (filter q ns)
count_rows list q [] h = refl
count_rows list q (n ∷ ns) h =
    let w = found_some list n h.0 in
    ap (λ (o : Option Derived). length (filter (λ (d : Derived). q (slot_of d)) (cons_option o (filter_map (found list) ns)))) w.1.0
    ∙ ap (λ (m : ℕ). length (cond (q m) (w.0 ∷ filter (λ (d : Derived). q (slot_of d)) (filter_map (found list) ns)) (filter (λ (d : Derived). q (slot_of d)) (filter_map (found list) ns)))) w.1.1.1
    ∙ more w.0 (q n) (count_rows list q ns h.1)
  where
    more : (x : Derived) (b : Bool) → length (filter (λ (d : Derived). q (slot_of d)) (filter_map (found list) ns)) ≡ length (filter q ns) →
        length (cond b (x ∷ filter (λ (d : Derived). q (slot_of d)) (filter_map (found list) ns)) (filter (λ (d : Derived). q (slot_of d)) (filter_map (found list) ns))) ≡ length (cond b (n ∷ filter q ns) (filter q ns))
    more x true e = ap suc e
    more x false e = e

-- ---- which slots are empty

entries_of : (f : Forest Entry) → map (λ (d : Derived). d.0) (derivations_of f) ≡ preorder f
entries_of f = entries_told None f

pub cleared_alone : (f : Forest Entry) (new : Shown) (s : ℕ) → new.derivations ≡ left_over s f → AreApart (preorder f) → ((a : Entry) → In a (preorder f) → is_null a.cap ≡ false) →
    cleared_count (by_address (derivations_of f)) new ≡ count_by (is_below s f) (slots f)
cleared_alone f new s is apart full =
    let list : List Derived = derivations_of f in
    let q : ℕ → Bool = λ n. is_cleared new n in
    sym (length-filter (λ (d : Derived). is_cleared new (slot_of d)) (by_address list))
    ∙ count_rows list q (rising (map slot_of list)) (all_in_slots (map slot_of list))
    ∙ ap (λ (l : List ℕ). length (filter q (rising l))) (slots_are f)
    ∙ count_rising q (slots f) (once_of (preorder f) apart)
    ∙ ap length (alike q (is_below s f) (slots f) (λ n i.
    let a = in_mapped (λ (e : Entry). e.slot) (preorder f) n i in
    ap (λ (g : Forest Entry). is_null (cap_at g n)) is
    ∙ cleared_where f s n apart full (any_in (is_at n) (preorder f) a.0 a.1.0 (eq-eqb a.0.slot n a.1.1))))
    ∙ length-filter (is_below s f) (slots f)

-- ---- which objects end

names_itself : (cap : Cap) → is_null cap ≡ false → names_same cap cap ≡ true
names_itself Null e = cc
names_itself (Untyped base bits free) e = rw (eqb_self base, eqb_self bits) refl
names_itself (Endpoint base badge rights) e = eqb_self base
names_itself (CNode base radix guard) e = rw (eqb_self base, eqb_self radix) refl
names_itself (Tcb base) e = eqb_self base

not_named : (cap : Cap) (f : Forest Entry) (s : ℕ) → IsNamedBelow s f cap → is_object_named cap (derivations_of (left_over s f)) ≡ false
not_named cap f s h = named_entries cap (left_over s f) ∙ elim (tells (list_any (λ (e : Entry). names_same e.cap cap) (preorder (left_over s f)))) [
  | inr fails ↦ fails
  | inl passes ↦ absurd (let w = any_of (λ (e : Entry). names_same e.cap cap) (preorder (left_over s f)) passes in
      let i = in_without (λ (e : Entry). is_below s f e.slot) f w.0 w.1.0 in
      let z : true ≡ false = sym w.1.1 ∙ h w.0 (in_contains (preorder f) w.0 i.0) i.1 in
      cc)
]

named_below : (cap : Cap) (f : Forest Entry) (s : ℕ) → is_object_named cap (derivations_of (left_over s f)) ≡ false → IsNamedBelow s f cap
named_below cap f s h b c stays = elim (tells (names_same b.cap cap)) [
  | inr fails ↦ fails
  | inl passes ↦ absurd (
      let i : In b (preorder (left_over s f)) = without_in (λ (e : Entry). is_below s f e.slot) f b (contains_in (preorder f) b c) stays in
      let z : true ≡ false = sym (any_in (λ (e : Entry). names_same e.cap cap) (preorder (left_over s f)) b i passes) ∙ sym (named_entries cap (left_over s f)) ∙ h in
      cc)
]

not_true : (b : Bool) → not b ≡ true → b ≡ false
not_true true h = cc
not_true false h = refl

-- the capabilities that are told, and those of the rows
told_in : (p : ProfileName) (f : Forest Entry) (s : ℕ) (r : Revoked) → IsRevokedAlone p f s r → AreApart (preorder f) → ((a : Entry) → In a (preorder f) → is_null a.cap ≡ false) → (cap : Cap) →
    In cap (ended_capabilities (by_address (derivations_of f)) (derivations_of (left_over s f))) → In cap r.ended.items
told_in p f s r alone apart full cap i =
    let list : List Derived = derivations_of f in
    let new : List Derived = derivations_of (left_over s f) in
    let passed = in_filter (λ cap. not (is_object_named cap new)) (map (λ (d : Derived). d.0.cap) (by_address list)) cap i in
    let d = in_mapped (λ (d : Derived). d.0.cap) (by_address list) cap passed.0 in
    let P : List Entry → Type 0 = λ l. In d.0.0 l in
    let a : In d.0.0 (preorder f) = subst P (entries_of f) (mapped_in (λ (d : Derived). d.0) list d.0 (row_in list (rising (map slot_of list)) d.0 (all_in_slots (map slot_of list)) d.1.0)) in
    let unnamed : is_object_named cap new ≡ false = not_true (is_object_named cap new) passed.1 in
    let alone_named : IsNamedBelow s f d.0.0.cap = subst (IsNamedBelow s f) (sym d.1.1) (named_below cap f s unnamed) in
    let below : is_below s f d.0.0.slot ≡ true = elim (tells (is_below s f d.0.0.slot)) [
      | inl passes ↦ passes
      | inr fails ↦ absurd (let z : true ≡ false = sym (names_itself d.0.0.cap (full d.0.0 a)) ∙ alone_named d.0.0 (in_contains (preorder f) d.0.0 a) fails in cc)
    ] in
    subst (λ (c : Cap). In c r.ended.items) d.1.1 (contains_in r.ended.items d.0.0.cap (alone.all d.0.0 (in_contains (preorder f) d.0.0 a) below alone_named))

in_told : (p : ProfileName) (f : Forest Entry) (s : ℕ) (r : Revoked) → IsRevokedAlone p f s r → AreApart (preorder f) → (cap : Cap) →
    In cap r.ended.items → In cap (ended_capabilities (by_address (derivations_of f)) (derivations_of (left_over s f)))
in_told p f s r alone apart cap i =
    let list : List Derived = derivations_of f in
    let new : List Derived = derivations_of (left_over s f) in
    let w = alone.only cap (in_contains r.ended.items cap i) in
    let a : In w.0 (preorder f) = contains_in (preorder f) w.0 w.1.0 in
    let slot : is_in w.0.slot (rising (map slot_of list)) ≡ true =
    any_rising (λ n. w.0.slot == n) (map slot_of list) ∙ ap (is_in w.0.slot) (slots_are f) ∙ in_slots w.0.slot (preorder f) ∙ any_in (is_at w.0.slot) (preorder f) w.0 a (eqb_self w.0.slot) in
    let d = in_row list (rising (map slot_of list)) w.0.slot (all_in_slots (map slot_of list)) slot in
    let P : List Entry → Type 0 = λ l. In d.0.0 l in
    let own : In d.0.0 (preorder f) = subst P (entries_of f) (mapped_in (λ (d : Derived). d.0) list d.0 d.1.1.0) in
    let same : d.0.0 ≡ w.0 = one_only (is_at w.0.slot) (preorder f) (apart w.0.slot) w.0 d.0.0 a own (eqb_self w.0.slot) (eq-eqb d.0.0.slot w.0.slot d.1.1.1) in
    let cap_is : d.0.0.cap ≡ cap = ap (λ (e : Entry). e.cap) same ∙ w.1.1.1.0 in
    let Q : Cap → Type 0 = λ c. In c (map (λ (d : Derived). d.0.cap) (by_address list)) in
    filter_in (λ cap. not (is_object_named cap new)) (map (λ (d : Derived). d.0.cap) (by_address list)) cap
    (subst Q cap_is (mapped_in (λ (d : Derived). d.0.cap) (by_address list) d.0 d.1.0)) (ap not (not_named cap f s w.1.1.1.1))

-- the same capabilities are asked the same
some_is : Option ℕ → ℕ → Bool
some_is None q = false
some_is (Some n) q = q == n

any_asked : (asked : Asked) (q : ℕ) (cs : List Cap) → is_in q (all_asked asked cs) ≡ list_any (λ (c : Cap). some_is (asked_object asked c) q) cs
unfolding some_is
any_asked asked q [] = refl
any_asked asked q (c ∷ cs) = by_answer (asked_object asked c) ∙ ap (λ (b : Bool). some_is (asked_object asked c) q || b) (any_asked asked q cs)
  where
    by_answer : (o : Option ℕ) → is_in q (cons_option o (all_asked asked cs)) ≡ (some_is o q || is_in q (all_asked asked cs))
    by_answer None = refl
    by_answer (Some n) = refl

same_asked : (asked : Asked) (a b : List Cap) → ((c : Cap) → In c a → In c b) → ((c : Cap) → In c b → In c a) → rising (all_asked asked a) ≡ rising (all_asked asked b)
same_asked asked a b there back = rising_same (all_asked asked a) (all_asked asked b) (λ q.
    any_asked asked q a
    ∙ same_truth (list_any (λ (c : Cap). some_is (asked_object asked c) q) a) (list_any (λ (c : Cap). some_is (asked_object asked c) q) b)
    (λ h. let w = any_of (λ (c : Cap). some_is (asked_object asked c) q) a h in any_in (λ (c : Cap). some_is (asked_object asked c) q) b w.0 (there w.0 w.1.0) w.1.1)
    (λ h. let w = any_of (λ (c : Cap). some_is (asked_object asked c) q) b h in any_in (λ (c : Cap). some_is (asked_object asked c) q) a w.0 (back w.0 w.1.0) w.1.1)
    ∙ sym (any_asked asked q b))

same_ends : (texts : Texts) (a b : List Cap) → ((c : Cap) → In c a → In c b) → ((c : Cap) → In c b → In c a) → ends_lines texts a ≡ ends_lines texts b
same_ends texts a b there back =
    let s = λ (asked : Asked). same_asked asked a b there back in
    let regions : (address : ℕ) → regions_at texts a address ≡ regions_at texts b address = λ address. ap (flat_map (region_line texts address)) (s (Asked.BitsAt address)) in
    λ i. flat_map (ended_thread_line texts) (s Asked.Thread i)
    ++ (flat_map (ended_endpoint_line texts) (s Asked.Endpoint i)
    ++ (flat_map (ended_node_line texts) (s Asked.CNode i)
    ++ flat_map (λ address. regions address i) (s Asked.Untyped i)))

-- ---- the lines

pub alone_lines : (p : ProfileName) (texts : Texts) (A : State) (slot : ℕ) (r : Revoked) → IsDistinct (λ (a b : ℕ). a == b) (slots A.derivations) →
    All (λ (cap : Cap). is_null cap ≡ false) (caps A.derivations) → IsRevokedAlone p A.derivations slot r →
    lines_of_revoke texts slot (cap_at A.derivations slot) r.cleared r.ended.items ≡ revoke_lines texts (shown A) (shown_after_revoke p A slot) slot
unfolding shown
alone_lines p texts A slot r distinct filled alone =
    let f : Forest Entry = A.derivations in
    let apart : AreApart (preorder f) = apart_of (preorder f) distinct in
    let full : (a : Entry) → In a (preorder f) → is_null a.cap ≡ false =
    λ a i. All-contains (λ (cap : Cap). is_null cap ≡ false) (caps f) a.cap filled (in_contains (caps f) a.cap (mapped_in (λ (e : Entry). e.cap) (preorder f) a i)) in
    let forest : (shown_after_revoke p A slot).derivations ≡ left_over slot f = derivations_revoked p A slot ∙ alone.forest in
    let count : r.cleared ≡ cleared_count (by_address (derivations_of f)) (shown_after_revoke p A slot) = alone.count ∙ sym (cleared_alone f (shown_after_revoke p A slot) slot forest apart full) in
    let ends : ends_lines texts r.ended.items ≡ ends_lines texts (ended_capabilities (by_address (derivations_of f)) (derivations_of (shown_after_revoke p A slot).derivations)) =
    same_ends texts r.ended.items (ended_capabilities (by_address (derivations_of f)) (derivations_of (left_over slot f))) (λ c i. in_told p f slot r alone apart c i) (λ c i. told_in p f slot r alone apart full c i)
    ∙ ap (λ (g : Forest Entry). ends_lines texts (ended_capabilities (by_address (derivations_of f)) (derivations_of g))) (sym forest) in
    λ i. terminated (codes "revoke " ++ (held_slot_text texts slot (cap_at f slot) ++ (codes " clears " ++ decimal (count i)))) ++ ends i

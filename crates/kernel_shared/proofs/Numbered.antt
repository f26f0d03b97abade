-- Entries of one client in a history whose entries are numbered.
use Rattle.std.proofs.Common.{◌≡◌, ℕ, ◌+◌, ◌<◌, ◌≤◌, ◌==◌, nat_lt, Bool, true, false, List, [], ◌∷◌, ◌++◌, filter, count_by, length, refl, ap, sym, ◌∙◌, subst, append_assoc, arith}
use Rattle.std.proofs.lemmas.List.{append-nil}
use Rattle.std.proofs.lemmas.List.Sums.{length-filter}
use Rattle.std.proofs.lemmas.List.Elements.{filter-append}
use Rattle.std.proofs.lemmas.Bool.Decides.{nat_tests}
use Rattle.std.specs.Cmp.Derive.{both_true}
use Rattle.kernel_shared.specs.declared.entry.Entry.{Entry}
use Rattle.kernel_shared.specs.Laws.{count_of, are_entries_numbered}
use Rattle.kernel_shared.proofs.Grows.{and_parts, count_append}
use Rattle.kernel_shared.specs.ClientStates.{is_earlier_entry, is_numbered_as}

abbrev is_of : ℕ → Entry → Bool
is_of id e = e.client == id

pub numbered_parts : (past xs ys : List Entry) → are_entries_numbered past (xs ++ ys) ≡ true → (are_entries_numbered past xs ≡ true) × (are_entries_numbered (past ++ xs) ys ≡ true)
unfolding are_entries_numbered
numbered_parts past [] ys p = (refl, subst (λ (l : List Entry). are_entries_numbered l ys ≡ true) (sym (append-nil past)) p)
numbered_parts past (x ∷ xs) ys p =
    let t = and_parts (x.number == count_of x.client past) (are_entries_numbered (past ++ x ∷ []) (xs ++ ys)) p in
    let u = numbered_parts (past ++ x ∷ []) xs ys t.1 in
    (both_true t.0 u.0, subst (λ (l : List Entry). are_entries_numbered l ys ≡ true) (append_assoc past (x ∷ []) xs) u.1)

-- the first of numbered entries
first_of : (past : List Entry) (e : Entry) (es : List Entry) → are_entries_numbered past (e ∷ es) ≡ true → (e.number ≡ count_of e.client past) × (are_entries_numbered (past ++ e ∷ []) es ≡ true)
unfolding are_entries_numbered
first_of past e es p =
    let t = and_parts (e.number == count_of e.client past) (are_entries_numbered (past ++ e ∷ []) es) p in
    let q = t.0 in (grind (arith, nat_tests), t.1)

count_more : (id : ℕ) (past : List Entry) (e : Entry) → count_of id past ≤ count_of id (past ++ e ∷ [])
count_more id past e = let c = count_append id past (e ∷ []) in omega arith

below_no : (id n : ℕ) (e : Entry) (es : List Entry) (t : Bool) → (e.client == id) ≡ t → (t ≡ true → n ≤ e.number) → filter (is_earlier_entry id n) es ≡ [] → filter (is_earlier_entry id n) (e ∷ es) ≡ []
below_no id n e es true s le rest = let l = le refl in let f : nat_lt e.number n ≡ false = grind (arith, nat_tests) in rw (s, f) rest
below_no id n e es false s le rest = rw s rest

-- the number of a client's entry
number_is : (id : ℕ) (past : List Entry) (e : Entry) → e.number ≡ count_of e.client past → (e.client == id) ≡ true → e.number ≡ count_of id past
number_is id past e n s = let k : e.client ≡ id = grind (arith, nat_tests) in n ∙ ap (λ j. count_of j past) k

-- no entry past these is below their number
pub none_below : (id n : ℕ) (past h : List Entry) → are_entries_numbered past h ≡ true → n ≤ count_of id past → filter (is_earlier_entry id n) h ≡ []
none_below id n past [] p le = refl
none_below id n past (e ∷ es) p le =
    let f = first_of past e es p in
    let m = count_more id past e in
    below_no id n e es (e.client == id) refl (λ s. let k = number_is id past e f.0 s in omega arith) (none_below id n (past ++ e ∷ []) es f.1 (omega arith))

below_yes : (id n : ℕ) (e : Entry) (es : List Entry) (t : Bool) → (e.client == id) ≡ t → (t ≡ true → e.number < n) → filter (is_earlier_entry id n) es ≡ filter (is_of id) es → filter (is_earlier_entry id n) (e ∷ es) ≡ filter (is_of id) (e ∷ es)
below_yes id n e es true s lt rest = let l = lt refl in let f : nat_lt e.number n ≡ true = grind (arith, nat_tests) in rw (s, f) (ap (λ l. e ∷ l) rest)
below_yes id n e es false s lt rest = rw s rest

count_self : (id : ℕ) (e : Entry) → (e.client == id) ≡ true → count_of id (e ∷ []) ≡ 1
count_self id e s = rw s refl

-- each entry is below the number of all
pub all_below : (id n : ℕ) (past h : List Entry) → are_entries_numbered past h ≡ true → count_of id (past ++ h) ≤ n → filter (is_earlier_entry id n) h ≡ filter (is_of id) h
all_below id n past [] p le = refl
all_below id n past (e ∷ es) p le =
    let f = first_of past e es p in
    let a = count_append id past (e ∷ es) in
    let b = count_append id (e ∷ []) es in
    below_yes id n e es (e.client == id) refl (λ s. let k = number_is id past e f.0 s in let o = count_self id e s in omega arith)
    (all_below id n (past ++ e ∷ []) es f.1 (subst (λ (l : List Entry). count_of id l ≤ n) (sym (append_assoc past (e ∷ []) es)) le))

-- one entry more than was seen changes nothing below the number that was seen
pub below_kept : (id n : ℕ) (seen rest : List Entry) → are_entries_numbered [] (seen ++ rest) ≡ true → n ≤ count_of id seen → filter (is_earlier_entry id n) (seen ++ rest) ≡ filter (is_earlier_entry id n) seen
below_kept id n seen rest p le =
    filter-append (is_earlier_entry id n) seen rest
    ∙ (ap (λ l. filter (is_earlier_entry id n) seen ++ l) (none_below id n seen rest (numbered_parts [] seen rest p).1 le) ∙ append-nil (filter (is_earlier_entry id n) seen))

-- the next entry of the client
pub below_next : (id n : ℕ) (h : List Entry) (e : Entry) → are_entries_numbered [] h ≡ true → count_of id h ≡ n → e.client ≡ id → e.number ≡ n
    → filter (is_earlier_entry id (n + 1)) (h ++ e ∷ []) ≡ filter (is_earlier_entry id n) h ++ e ∷ []
below_next id n h e p c i m =
    let s : (e.client == id) ≡ true = grind (arith, nat_tests) in
    let l : nat_lt e.number (n + 1) ≡ true = grind (arith, nat_tests) in
    let one : filter (is_earlier_entry id (n + 1)) (e ∷ []) ≡ e ∷ [] = rw (s, l) refl in
    filter-append (is_earlier_entry id (n + 1)) h (e ∷ [])
    ∙ (ap (λ l. filter (is_earlier_entry id (n + 1)) h ++ l) one
    ∙ ap (λ l. l ++ e ∷ []) (all_below id (n + 1) [] h p (omega arith) ∙ sym (all_below id n [] h p (omega arith))))

as_no : (id n : ℕ) (e : Entry) (t : Bool) → (e.client == id) ≡ t → (t ≡ true → e.number < n) → is_numbered_as id n e ≡ false
as_no id n e true s lt = let l = lt refl in let f : (e.number == n) ≡ false = grind (arith, nat_tests) in rw (s, f) refl
as_no id n e false s lt = rw s refl

none_as_at : (id n : ℕ) (e : Entry) (es : List Entry) → is_numbered_as id n e ≡ false → filter (is_numbered_as id n) es ≡ [] → filter (is_numbered_as id n) (e ∷ es) ≡ []
none_as_at id n e es f rest = rw f rest

none_as : (id n : ℕ) (past h : List Entry) → are_entries_numbered past h ≡ true → count_of id (past ++ h) ≤ n → filter (is_numbered_as id n) h ≡ []
none_as id n past [] p le = refl
none_as id n past (e ∷ es) p le =
    let f = first_of past e es p in
    let a = count_append id past (e ∷ es) in
    let b = count_append id (e ∷ []) es in
    none_as_at id n e es (as_no id n e (e.client == id) refl (λ s. let k = number_is id past e f.0 s in let o = count_self id e s in omega arith))
    (none_as id n (past ++ e ∷ []) es f.1 (subst (λ (l : List Entry). count_of id l ≤ n) (sym (append_assoc past (e ∷ []) es)) le))

-- a history holds no entry with a number that is not below the client's count
pub none_held : (id n : ℕ) (h : List Entry) → are_entries_numbered [] h ≡ true → count_of id h ≤ n → count_by (is_numbered_as id n) h ≡ 0
none_held id n h p le = sym (length-filter (is_numbered_as id n) h) ∙ ap length (none_as id n [] h p le)

-- the next entry stands there once
pub once : (id n : ℕ) (h : List Entry) (e : Entry) → are_entries_numbered [] h ≡ true → count_of id h ≡ n → e.client ≡ id → e.number ≡ n → count_by (is_numbered_as id n) (h ++ e ∷ []) ≡ 1
once id n h e p c i m =
    let s : (e.client == id) ≡ true = grind (arith, nat_tests) in
    let l : (e.number == n) ≡ true = grind (arith, nat_tests) in
    let one : filter (is_numbered_as id n) (e ∷ []) ≡ e ∷ [] = rw (s, l) refl in
    let none : filter (is_numbered_as id n) h ≡ [] = none_as id n [] h p (omega arith) in
    sym (length-filter (is_numbered_as id n) (h ++ e ∷ []))
    ∙ ap length (filter-append (is_numbered_as id n) h (e ∷ []) ∙ (ap (λ l. l ++ filter (is_numbered_as id n) (e ∷ [])) none ∙ one))

-- The tables of the calls that are chosen are read as those calls.
use Rattle.std.proofs.Common.{◌≡◌, ℕ, zero, suc, ◌+◌, ◌-◌, ◌==◌, ◌&&◌, ◌≤◌, Bool, true, false, not, codes, List, [], ◌∷◌, ◌++◌, length, Option, Some, None, slice_get, Result, Ok, nat_cmp, refl, sym, ap, subst, ◌∙◌, inl, inr, arith}
use Rattle.std.proofs.lemmas.Bool.{cases_Bool}
use Rattle.std.proofs.lemmas.Bool.Decides.{nat_tests}
use Rattle.std.proofs.lemmas.List.Concat.{flat_map-cons}
use Rattle.std.proofs.lemmas.Option.{none-some, same_Some}
use Rattle.std.specs.Cmp.Lexicographic.{slice_cmp}
use Rattle.std.specs.List.{filter, flat_map, AllByRecursion as Each}
use Rattle.std.specs.Ordering.{match_ordering}
use Rattle.toml.specs.Data.{Data, array, table, Items, no_items, item, Members, no_members, member, get_member, get_item, as_table, is_before, is_sorted, items_are_sorted, members_are_sorted}
use Rattle.toml.specs.View.{items_of}
use Rattle.cap_core.specs.declared.profile.ProfileName.{ProfileName}
use Rattle.setup_values.specs.declared.values.Wrong.{Wrong}
use Rattle.setup_values.specs.declared.values.Wrong.TheVariants.{OtherValue}
use Rattle.setup_values.specs.Names.{Names}
use Rattle.setup_values.specs.Keys.{keys_of}
use Rattle.setup_values.specs.Kinds.{between, number, word, expect, op, each, item_list, array_in, table_in, tables}
use Rattle.setup_values.specs.Operations.{call_keys}
use Rattle.setup_format.specs.declared.fault.Place.TheVariants as places
use Rattle.setup_format.specs.Faults.{Fault}
use Rattle.setup_format.specs.Tables.{required, optional, known_only, is_one_of}
use Rattle.setup_format.specs.Operations.{operation_at}
use Rattle.setup_format.specs.Setups.{call_at}
use Rattle.setup_format.specs.Views.{CallView}
use Rattle.setup_migrate.proofs.Parts.{cases_ordering}
use Rattle.setup_format.proofs.Grammar.Parts.{no_answer, parts}
use Rattle.setup_migrate.proofs.Law.Follows.{together}
use Rattle.setup_migrate.proofs.Law.Operations.{AgreesPast}
use Rattle.setup_migrate.proofs.Law.Setups.{all_known, all_known_is}
use Rattle.command_explore.specs.Witnesses.{table_without, call_as, call_where, chosen_call, chosen_calls}
use Rattle.command_explore.specs.Replays.{view_as}
use Rattle.command_explore.proofs.Replay.Picks.{picked, pick, each_read, pick_read}
use Rattle.command_explore.proofs.Replay.Without.{both, get_without, get_without_other, keys_without}
use Rattle.command_explore.proofs.Replay.Operations.{required_moved, optional_moved, operation_follows}

-- the table of a call with its expectation or without it
abbrev pub table_as : Bool → Members → Members
table_as true t = t
table_as false t = table_without (codes "expect") t

agrees : (keeps : Bool) (t : Members) → AgreesPast (codes "expect") t (table_as keeps t)
agrees true t = record { agrees = λ j apart. refl }
agrees false t = record { agrees = λ j apart. get_without_other j (codes "expect") t apart }

known_still : (test : List ℕ → Bool) (keeps : Bool) (t : Members) → filter test (keys_of t) ≡ [] → filter test (keys_of (table_as keeps t)) ≡ []
known_still test true t e = e
known_still test false t e = keys_without test (codes "expect") t e

known_moved : (m l known : ℕ) (keeps : Bool) (t : Members) (keys : List (List ℕ)) → known_only (places.Call m) t keys ≡ Ok known → known_only (places.Call l) (table_as keeps t) keys ≡ Ok known
known_moved m l known keeps t keys e =
    let test = λ (key : List ℕ). not (is_one_of keys key) in
    let none : filter test (keys_of (table_as keeps t)) ≡ [] = known_still test keeps t (all_known (places.Call m) (filter test (keys_of t)) known e) in
    rw none (all_known_is (places.Call m) (filter test (keys_of t)) known e)

-- what is expected stays, or goes
expected_as : Bool → Option (List ℕ) → Option (List ℕ)
expected_as true expected = expected
expected_as false expected = None

expect_moved : (m l : ℕ) (keeps : Bool) (t : Members) (expected : Option (List ℕ)) → members_are_sorted t ≡ true → optional (places.Call m) t (codes "expect") None expect ≡ Ok expected
    → optional (places.Call l) (table_as keeps t) (codes "expect") None expect ≡ Ok (expected_as keeps expected)
unfolding expected_as
expect_moved m l true t expected sorted e = (optional_moved (places.Call m) (places.Call l) t t (codes "expect") None expect refl).follows expected e
expect_moved m l false t expected sorted e = rw (get_without (codes "expect") t sorted) refl

-- a call is read at another place as it was, with its expectation or without it
pub call_read : (p : ProfileName) (names : Names) (clients : ℕ) (keeps : Bool) (t : Members) (m l : ℕ) (view : CallView) → members_are_sorted t ≡ true → call_at p names clients m t ≡ Ok view
    → call_at p names clients l (table_as keeps t) ≡ Ok (view_as keeps view)
unfolding call_at expected_as
call_read p names clients keeps t m l view sorted e =
    let here = places.Call m in
    let there = places.Call l in
    let u = table_as keeps t in
    let a = agrees keeps t in
    let (o, e1, r1) = parts (required here t (codes "op") op) _ view e in
    let (known, e2, r2) = parts (known_only here t (call_keys o)) _ view r1 in
    let (thread, e3, r3) = parts (required here t (codes "thread") (word p names)) _ view r2 in
    let (client, e4, r4) = parts (optional here t (codes "client") 0 (number 0 (clients - 1))) _ view r3 in
    let (expected, e5, r5) = parts (optional here t (codes "expect") None expect) _ view r4 in
    let (operation, e6, r6) = parts (operation_at p names here t o) _ view r5 in
    let whole : record { call = record { thread = thread; op = operation }; client = client; expect = expected } ≡ view = cc in
    together _ _ o _ ((required_moved here there t u (codes "op") op (a.agrees (codes "op") refl)).follows o e1)
    (together _ _ known _ (known_moved m l known keeps t (call_keys o) e2)
    (together _ _ thread _ ((required_moved here there t u (codes "thread") (word p names) (a.agrees (codes "thread") refl)).follows thread e3)
    (together _ _ client _ ((optional_moved here there t u (codes "client") 0 (number 0 (clients - 1)) (a.agrees (codes "client") refl)).follows client e4)
    (together _ _ (expected_as keeps expected) _ (expect_moved m l keeps t expected sorted e5)
    (together _ _ operation _ ((operation_follows p names here there t u a o).follows operation e6)
    (as_view keeps _ whole))))))
  where
    as_view : (keeps : Bool) (v : CallView) → v ≡ view → ◌≡◌ {A = Result CallView Fault} (Ok (record { call = v.call; client = v.client; expect = expected_as keeps v.expect })) (Ok (view_as keeps view))
    as_view true v whole = ap Ok whole
    as_view false v whole = ap (λ (v : CallView). Ok (view_as false v)) whole

-- ---- the tables of the calls

get-item : (n : ℕ) (ds : Items) → get_item n ds ≡ slice_get (item_list ds) n
get-item n no_items = refl
get-item zero (item d ds) = refl
get-item (suc n) (item d ds) = get-item n ds

items-back : (ds : List Data) → item_list (items_of ds) ≡ ds
items-back [] = refl
items-back (d ∷ ds) = ap (λ es. d ∷ es) (items-back ds)

where-picked : (keeps : Bool) (o : Option Data) → call_where keeps o ≡ picked call_as keeps o
where-picked keeps None = refl
where-picked keeps (Some d) = refl

call-picked : (kept : ℕ) (ds : Items) (number : ℕ) → chosen_call kept ds number ≡ pick call_as kept (item_list ds) number
call-picked kept ds zero = refl
call-picked kept ds (suc n) = ap (call_where (suc n == kept)) (get-item n ds) ∙ where-picked (suc n == kept) (slice_get (item_list ds) n)

calls-picked : (kept : ℕ) (ds : Items) (numbers : List ℕ) → flat_map (chosen_call kept ds) numbers ≡ flat_map (pick call_as kept (item_list ds)) numbers
calls-picked kept ds [] = refl
calls-picked kept ds (number ∷ numbers) =
    flat_map-cons (chosen_call kept ds) number numbers
    ∙ (ap (λ l. l ++ flat_map (chosen_call kept ds) numbers) (call-picked kept ds number)
    ∙ (ap (λ l. pick call_as kept (item_list ds) number ++ l) (calls-picked kept ds numbers) ∙ sym (flat_map-cons (pick call_as kept (item_list ds)) number numbers)))

table_read : (keeps : Bool) (d : Data) (m l : ℕ) (t : Members) → Unit {0} → table_in (as_table d) ≡ Ok t → table_in (as_table (call_as keeps d)) ≡ Ok (table_as keeps t)
table_read true d m l t h e = e
table_read false (table ms) m l t h e =
    let here : ms ≡ t = cc in
    ap (λ u. Ok (table_without (codes "expect") u)) here
table_read false d m l t h e = no_answer _ t e

each-unit : {X : Type 0} (xs : List X) → Each (λ _. Unit {0}) xs
each-unit [] = tt
each-unit (x ∷ xs) = (tt, each-unit xs)

array-is : (low high : ℕ) (ds : Items) (es : List Data) → array_in low high (Some ds) ≡ Ok es → (item_list ds ≡ es) × (length (item_list ds) ≤ high)
array-is low high ds es e =
    elim (cases_Bool (between low high (length (item_list ds)))) [
      | inl within ↦
          let whole : ◌≡◌ {A = Result (List Data) Wrong} (Ok (item_list ds)) (Ok es) = rw within at e in
          let here : item_list ds ≡ es = cc in
          (here, grind (arith, nat_tests, within))
      | inr outside ↦ no_answer OtherValue es (rw outside at e)
    ]

array-read : (high : ℕ) (es : List Data) → length es ≤ high → array_in 0 high (Some (items_of es)) ≡ Ok es
array-read high es le =
    let back = items-back es in
    let within : between 0 high (length (item_list (items_of es))) ≡ true = rw back (grind (arith, nat_tests)) in
    rw within (ap Ok back)

-- how many tables there are
pub tables_within : (high : ℕ) (d : Data) (ts : List Members) → tables 0 high d ≡ Ok ts → length ts ≤ high
tables_within high (array ds) ts e =
    let (es, within, read) = parts (array_in 0 high (Some ds)) (each (λ _ d. table_in (as_table d)) 0) ts e in
    let is = array-is 0 high ds es within in
    let le = is.1 in
    let as_many = each_read (λ _ d. table_in (as_table d)) (λ _. Unit {0}) 0 es ts read in
    let long : length (item_list ds) ≡ length es = ap length is.0 in
    omega (arith, le, as_many, long)
tables_within high d ts e = no_answer _ ts e

pub tables_chosen : (high kept : ℕ) (numbers : List ℕ) (d : Data) (ts : List Members) → tables 0 high d ≡ Ok ts → length (flat_map (pick table_as kept ts) numbers) ≤ high
    → tables 0 high (chosen_calls kept numbers d) ≡ Ok (flat_map (pick table_as kept ts) numbers)
tables_chosen high kept numbers (array ds) ts e le =
    let (es, within, read) = parts (array_in 0 high (Some ds)) (each (λ _ d. table_in (as_table d)) 0) ts e in
    let is = array-is 0 high ds es within in
    let chosen = flat_map (chosen_call kept ds) numbers in
    let same : chosen ≡ flat_map (pick call_as kept es) numbers = calls-picked kept ds numbers ∙ ap (λ l. flat_map (pick call_as kept l) numbers) is.0 in
    let each_table : each (λ _ d. table_in (as_table d)) 0 chosen ≡ Ok (flat_map (pick table_as kept ts) numbers) =
    ap (each (λ _ d. table_in (as_table d)) 0) same ∙ pick_read (λ _ d. table_in (as_table d)) (λ _. Unit {0}) call_as table_as table_read kept 0 es ts (each-unit es) read numbers 0 in
    let as_many = each_read (λ _ d. table_in (as_table d)) (λ _. Unit {0}) 0 chosen (flat_map (pick table_as kept ts) numbers) each_table in
    together (array_in 0 high (Some (items_of chosen))) (each (λ _ d. table_in (as_table d)) 0) chosen _ (array-read high chosen (omega (arith, le, as_many))) each_table
tables_chosen high kept numbers d ts e le = no_answer _ ts e

-- ---- keys that ascend

pub member_sorted : (k : List ℕ) (ms : Members) (d : Data) → members_are_sorted ms ≡ true → get_member k ms ≡ Some d → is_sorted d ≡ true
member_sorted k no_members d sorted e = absurd (none-some d e)
member_sorted k (member l x ms) d sorted e =
    let (front, more) = both (is_before l ms && is_sorted x) (members_are_sorted ms) sorted in
    let (next, here) = both (is_before l ms) (is_sorted x) front in
    elim (cases_ordering (slice_cmp nat_cmp k l)) [
      | inl less ↦ member_sorted k ms d more (sym (ap (λ o. match_ordering o (get_member k ms) (Some x) (get_member k ms)) less) ∙ e)
      | inr other ↦ elim other [
        | inl tie ↦ ap is_sorted (sym (same_Some x d (sym (ap (λ o. match_ordering o (get_member k ms) (Some x) (get_member k ms)) tie) ∙ e))) ∙ here
        | inr greater ↦ member_sorted k ms d more (sym (ap (λ o. match_ordering o (get_member k ms) (Some x) (get_member k ms)) greater) ∙ e)
      ]
    ]

each-sorted : (ds : Items) → items_are_sorted ds ≡ true → Each (λ d. is_sorted d ≡ true) (item_list ds)
each-sorted no_items e = tt
each-sorted (item d ds) e = let (here, more) = both (is_sorted d) (items_are_sorted ds) e in (here, each-sorted ds more)

table-sorted : (d : Data) (t : Members) → is_sorted d ≡ true → table_in (as_table d) ≡ Ok t → members_are_sorted t ≡ true
table-sorted (table ms) t sorted e =
    let here : ms ≡ t = cc in
    ap members_are_sorted (sym here) ∙ sorted
table-sorted d t sorted e = no_answer _ t e

each-table_sorted : (n : ℕ) (ds : List Data) (ts : List Members) → Each (λ d. is_sorted d ≡ true) ds → each (λ _ d. table_in (as_table d)) n ds ≡ Ok ts → Each (λ t. members_are_sorted t ≡ true) ts
unfolding each
each-table_sorted n [] ts h e =
    let none : [] ≡ ts = cc in
    subst (Each (λ t. members_are_sorted t ≡ true)) none tt
each-table_sorted n (d ∷ ds) ts h e =
    let (t, first, rest) = parts (table_in (as_table d)) _ ts e in
    let (us, others, all) = parts (each (λ _ x. table_in (as_table x)) (n + 1) ds) _ ts rest in
    let whole : t ∷ us ≡ ts = cc in
    subst (Each (λ t. members_are_sorted t ≡ true)) whole (table-sorted d t h.0 first, each-table_sorted (n + 1) ds us h.1 others)

pub tables_sorted : (high : ℕ) (d : Data) (ts : List Members) → is_sorted d ≡ true → tables 0 high d ≡ Ok ts → Each (λ t. members_are_sorted t ≡ true) ts
tables_sorted high (array ds) ts sorted e =
    let (es, within, read) = parts (array_in 0 high (Some ds)) (each (λ _ d. table_in (as_table d)) 0) ts e in
    each-table_sorted 0 es ts (subst (Each (λ d. is_sorted d ≡ true)) (array-is 0 high ds es within).0 (each-sorted ds sorted)) read
tables_sorted high d ts sorted e = no_answer _ ts e

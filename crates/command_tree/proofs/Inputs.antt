-- A set-up that is read has a plan that a kernel can be booted from, and its names are ones that a set-up may have.
use Rattle.std.proofs.Common.{◌≡◌, ℕ, ◌+◌, ◌≤◌, ◌&&◌, nat_le, ℤ, pos, negsuc, true, false, cond, List, [], ◌∷◌, length, map, take, Option, None, Some, option_map, Result, Ok, Err, ◌⊎◌, inl, inr, refl, sym, ap, subst, ◌∙◌, arith}
use Rattle.std.specs.Prelude.{codes}
use Rattle.std.specs.List.{AllByRecursion as Each}
use Rattle.std.proofs.lemmas.Bool.Decides.{nat_tests}
use Rattle.std.proofs.lemmas.List.Elements.{All-from_recursion}
use Rattle.toml.specs.Data.{Data, Items, Members, as_array, as_integer, as_table, get_member}
use Rattle.cap_core.specs.declared.profile.ProfileName.{ProfileName}
use Rattle.cap_core.specs.declared.profile.ProfileName.TheVariants.{Wide}
use Rattle.cap_core.specs.Checks.{◌>>=◌}
use Rattle.cap_core.specs.Limits.{min_memory_bits, max_memory_bits, min_root_radix, max_root_radix, min_boot_threads, max_boot_threads, max_boot_endpoints, max_boot_untypeds, max_clients, max_history_limit}
use Rattle.cap_core.specs.Numbers.{min_untyped_bits, max_object_bits}
use Rattle.kernel_abstract.specs.declared.plan.PlanDefect.{PlanDefect}
use Rattle.kernel_abstract.specs.Plan.{Plan, AreSizes, IsUntypedSize, IsPlan, first_defect}
use Rattle.setup_format.specs.Setups.{limit_of}
use Rattle.setup_values.specs.declared.values.Wrong.{Wrong}
use Rattle.setup_values.specs.declared.values.Wrong.TheVariants.{OtherValue}
use Rattle.setup_values.specs.Keys.{entries_of}
use Rattle.setup_values.specs.Kinds.{array_in, between, each, entry, entry_at_fault, item_list, is_name, names, names_in, number, number_in, profile, table_in, tables, told, word}
use Rattle.setup_values.specs.Names.{Names}
use Rattle.setup_format.specs.declared.fault.Place.{Place}
use Rattle.setup_format.specs.declared.fault.Place.TheVariants as places
use Rattle.setup_format.specs.declared.setup.Sizes.{Sizes}
use Rattle.setup_format.specs.Faults.{Fault}
use Rattle.setup_format.specs.Limits.{first_format, newest_format, max_calls}
use Rattle.setup_format.specs.Setups.{call_at, document_of, laid_out, laid_out_unless, names_of, planned_with, setup_at, setup_of, setup_up_to, setup_with, sizes_at, top_keys, untyped_at, untyped_keys, read_of, read_of_bytes}
use Rattle.setup_format.specs.Tables.{at_key, given_or, known_only, needed, optional, required}
use Rattle.setup_format.specs.Views.{SetupView, CallView, ReadView}
use Rattle.setup_report.specs.Behind.{calls_made, state_behind}
use Rattle.command_core.specs.declared.fault.Verdict.TheVariants.{AllMet, Refused, Absent}
use Rattle.kernel_abstract.specs.Reached.{IsReached}
use Rattle.command_tree.specs.declared.form.Form.TheVariants.{Lines}
use Rattle.command_check.specs.Commands.{IsSetUpAnswer, IsAnswerAfter, IsAnswerTo, IsStateAnswer}
use Rattle.setup_format.proofs.Grammar.Parts.{parts}
use Rattle.setup_report.proofs.Runs.{derivations_shown}
use Rattle.setup_report.specs.Naming.{by_addresses}
use Rattle.command_tree.specs.Tree.{forest_text}
use Rattle.command_tree.specs.Trees.{IsTree}
use Rattle.command_tree.specs.Laws.{AreSetUpNames, held_in, held_when_read}
use Rattle.command_tree.proofs.ReadBack.{same_states}

-- ---- what was read, piece by piece

at_key_read : {A : Type 0} (place : Place) (key : List ℕ) (r : Result A Wrong) (x : A) → at_key place key r ≡ Ok x → r ≡ Ok x
at_key_read place key (Ok y) x h = let same : y ≡ x = cc in ap (λ z. Ok z) same
at_key_read place key (Err wrong) x h = absurd cc

needed_read : {A : Type 0} (kind : Data → Result A Wrong) (o : Option Data) (x : A) → needed kind o ≡ Ok x → (d : Data) × (kind d ≡ Ok x)
needed_read kind None x h = absurd cc
needed_read kind (Some d) x h = (d, h)

given_read : {A : Type 0} (default : A) (kind : Data → Result A Wrong) (o : Option Data) (x : A) → given_or default kind o ≡ Ok x → (default ≡ x) ⊎ ((d : Data) × (kind d ≡ Ok x))
given_read default kind None x h = inl cc
given_read default kind (Some d) x h = inr (d, h)

required_read : {A : Type 0} (place : Place) (table : Members) (key : List ℕ) (kind : Data → Result A Wrong) (x : A) → required place table key kind ≡ Ok x → (d : Data) × (kind d ≡ Ok x)
required_read place table key kind x h = needed_read kind (get_member key table) x (at_key_read place key (needed kind (get_member key table)) x h)

optional_read : {A : Type 0} (place : Place) (table : Members) (key : List ℕ) (default : A) (kind : Data → Result A Wrong) (x : A) → optional place table key default kind ≡ Ok x → (default ≡ x) ⊎ ((d : Data) × (kind d ≡ Ok x))
optional_read place table key default kind x h = given_read default kind (get_member key table) x (at_key_read place key (given_or default kind (get_member key table)) x h)

each_read : {A B E : Type 0} (P : B → Type 0) (read : ℕ → A → Result B E) → ((n : ℕ) (x : A) (y : B) → read n x ≡ Ok y → P y) → (n : ℕ) (xs : List A) (ys : List B) → each read n xs ≡ Ok ys → Each P ys × (length ys ≡ length xs)
unfolding each
each_read P read holds n [] ys h = let none : [] ≡ ys = cc in subst (λ l. Each P l × (length l ≡ 0)) none (tt, refl)
each_read {A} {B} P read holds n (x ∷ xs) ys h =
    let first = parts (read n x) (λ y. each read (n + 1) xs >>= λ rest. Ok (y ∷ rest)) ys h in
    let others = parts (each read (n + 1) xs) (λ rest. Ok (first.0 ∷ rest)) ys first.2 in
    let behind = each_read P read holds (n + 1) xs others.0 others.1 in
    let all : first.0 ∷ others.0 ≡ ys = cc in
    subst (λ (l : List B). Each P l × (length l ≡ length (x ∷ xs))) all ((holds n x first.0 first.1, behind.0), omega (arith, behind.1))

-- ---- numbers and arrays

number_in_read : (low high : ℕ) (o : Option ℤ) (n : ℕ) → number_in low high o ≡ Ok n → (low ≤ n) × (n ≤ high)
number_in_read low high None n h = absurd cc
number_in_read low high (Some (negsuc m)) n h = absurd cc
number_in_read low high (Some (pos m)) n h =
    elim (between low high m) as (λ b. between low high m ≡ b → cond b (Ok m) (Err OtherValue) ≡ Ok n → (low ≤ n) × (n ≤ high)) [
      | true ↦ λ e k. let same : m ≡ n = cc in subst (λ i. (low ≤ i) × (i ≤ high)) same (within e)
      | false ↦ λ e k. absurd cc
    ] refl h
  where
    within : (nat_le low m && nat_le m high) ≡ true → (low ≤ m) × (m ≤ high)
    within e = (low_end e, high_end e)
      where
        low_end : (nat_le low m && nat_le m high) ≡ true → low ≤ m
        low_end f = grind (arith, nat_tests)

        high_end : (nat_le low m && nat_le m high) ≡ true → m ≤ high
        high_end f = grind (arith, nat_tests)

required_number : (place : Place) (table : Members) (key : List ℕ) (low high n : ℕ) → required place table key (number low high) ≡ Ok n → (low ≤ n) × (n ≤ high)
required_number place table key low high n h =
    let read = required_read place table key (number low high) n h in
    number_in_read low high (as_integer read.0) n read.1

array_read : (low high : ℕ) (o : Option Items) (list : List Data) → array_in low high o ≡ Ok list → length list ≤ high
array_read low high None list h = absurd cc
array_read low high (Some items) list h =
    elim (between low high (length (item_list items))) as (λ b. between low high (length (item_list items)) ≡ b → cond b (Ok (item_list items)) (Err OtherValue) ≡ Ok list → length list ≤ high) [
      | true ↦ λ e k. let same : item_list items ≡ list = cc in subst (λ (l : List Data). length l ≤ high) same (few (length (item_list items)) e)
      | false ↦ λ e k. absurd cc
    ] refl h
  where
    few : (n : ℕ) → (nat_le low n && nat_le n high) ≡ true → n ≤ high
    few n e = grind (arith, nat_tests)

tables_read : (high : ℕ) (d : Data) (list : List Members) → tables 0 high d ≡ Ok list → length list ≤ high
tables_read high d list h =
    let items = parts (array_in 0 high (as_array d)) (each (λ _ e. table_in (as_table e)) 0) list h in
    let many = array_read 0 high (as_array d) items.0 items.1 in
    let read = each_read (λ (t : Members). t ≡ t) (λ _ e. table_in (as_table e)) (λ n x y k. refl) 0 items.0 list items.2 in
    omega (arith, many, read.1)

-- ---- the plan

untyped_read : (p : ProfileName) (n : ℕ) (table : Members) (region : ℕ × ℕ) → untyped_at p n table ≡ Ok region → IsUntypedSize p region
unfolding untyped_at
untyped_read p n table region h =
    let known = parts (known_only (places.Untyped n) table untyped_keys) _ region h in
    let base = parts (required (places.Untyped n) table (codes "base") (word p [])) _ region known.2 in
    let bits = parts (required (places.Untyped n) table (codes "bits") (number (min_untyped_bits p) (max_object_bits p))) (λ b. Ok (base.0, b)) region base.2 in
    let range = required_number (places.Untyped n) table (codes "bits") (min_untyped_bits p) (max_object_bits p) bits.0 bits.1 in
    let same : ◌≡◌ {A = ℕ × ℕ} (base.0, bits.0) region = cc in
    subst (IsUntypedSize p) same (record { least = range.0; most = range.1 })

abbrev AreSizesOf : Sizes → Type 0
AreSizesOf s = AreSizes s.memory_bits s.root_radix s.threads s.endpoints

sizes_read : (place : Place) (table : Members) (sizes : Sizes) → sizes_at place table ≡ Ok sizes → AreSizesOf sizes
unfolding sizes_at
sizes_read place table sizes h =
    let memory = parts (required place table (codes "memory_bits") (number min_memory_bits max_memory_bits)) _ sizes h in
    let radix = parts (required place table (codes "root_radix") (number min_root_radix max_root_radix)) _ sizes memory.2 in
    let threads = parts (required place table (codes "threads") (number min_boot_threads max_boot_threads)) _ sizes radix.2 in
    let endpoints = parts (required place table (codes "endpoints") (number 0 max_boot_endpoints)) _ sizes threads.2 in
    let found : Sizes = record { memory_bits = memory.0; root_radix = radix.0; threads = threads.0; endpoints = endpoints.0 } in
    let same : found ≡ sizes = ok_same found sizes endpoints.2 in
    let a = required_number place table (codes "memory_bits") min_memory_bits max_memory_bits memory.0 memory.1 in
    let b = required_number place table (codes "root_radix") min_root_radix max_root_radix radix.0 radix.1 in
    let c = required_number place table (codes "threads") min_boot_threads max_boot_threads threads.0 threads.1 in
    let d = required_number place table (codes "endpoints") 0 max_boot_endpoints endpoints.0 endpoints.1 in
    subst AreSizesOf same
    (record { memory_least = a.0; memory_most = a.1; radix_least = b.0; radix_most = b.1; threads_least = c.0; threads_most = c.1; endpoints_most = d.1 })
  where
    ok_same : (x y : Sizes) → ◌≡◌ {A = Result Sizes Fault} (Ok x) (Ok y) → x ≡ y
    ok_same x y e = cc

laid_out_read : (o : Option PlanDefect) (plan made : Plan) → laid_out_unless o plan ≡ Ok made → (o ≡ None) × (plan ≡ made)
laid_out_read None plan made h = (refl, cc)
laid_out_read (Some defect) plan made h = absurd cc

abbrev HasPlan : SetupView → Type 0
HasPlan setup = IsPlan setup.profile setup.plan

with_read : (p : ProfileName) (ns : Names) (sizes : Sizes) (clients limit : ℕ) (untyped call : List Members) (setup : SetupView) → AreSizesOf sizes → length untyped ≤ max_boot_untypeds →
    setup_with p ns sizes clients limit untyped call ≡ Ok setup → HasPlan setup
unfolding setup_with
with_read p ns sizes clients limit untyped call setup good few h =
    let untypeds = parts (each (untyped_at p) 1 untyped) _ setup h in
    let plan = parts (laid_out p (planned_with sizes untypeds.0)) _ setup untypeds.2 in
    let calls = parts (each (call_at p ns clients) 1 call) _ setup plan.2 in
    let sound = laid_out_read (first_defect p (planned_with sizes untypeds.0)) (planned_with sizes untypeds.0) plan.0 plan.1 in
    let regions = each_read (IsUntypedSize p) (untyped_at p) (untyped_read p) 1 untyped untypeds.0 untypeds.1 in
    let lawful : IsPlan p plan.0 =
    subst (IsPlan p) sound.1
    (record {
      limits = record { sizes = good; untypeds_most = omega (arith, few, regions.1); untypeds_sized = All-from_recursion (IsUntypedSize p) untypeds.0 regions.0 };
      sound = sound.0;
    }) in
    let made : SetupView = record { profile = p; plan = plan.0; clients = clients; limit = limit_of limit (length calls.0); calls = calls.0 } in
    let same : made ≡ setup = ok_same made setup calls.2 in
    subst HasPlan same lawful
  where
    ok_same : (x y : SetupView) → ◌≡◌ {A = Result SetupView Fault} (Ok x) (Ok y) → x ≡ y
    ok_same x y e = cc

at_read : (p : ProfileName) (table : Members) (setup : SetupView) → setup_at p table ≡ Ok setup → HasPlan setup
unfolding setup_at
at_read p table setup h =
    let sizes = parts (sizes_at places.Top table) _ setup h in
    let clients = parts (optional places.Top table (codes "clients") 1 (number 1 max_clients)) _ setup sizes.2 in
    let limit = parts (optional places.Top table (codes "limit") 0 (number 1 max_history_limit)) _ setup clients.2 in
    let ns = parts (names_of p table) _ setup limit.2 in
    let untyped = parts (optional places.Top table (codes "untyped") [] (tables 0 max_boot_untypeds)) _ setup ns.2 in
    let call = parts (optional places.Top table (codes "call") [] (tables 0 max_calls)) _ setup untyped.2 in
    let few : length untyped.0 ≤ max_boot_untypeds =
    elim (optional_read places.Top table (codes "untyped") [] (tables 0 max_boot_untypeds) untyped.0 untyped.1) [
      | inl none ↦ subst (λ (l : List Members). length l ≤ max_boot_untypeds) none (omega arith)
      | inr read ↦ tables_read max_boot_untypeds read.0 untyped.0 read.1
    ] in
    with_read p ns.0 sizes.0 clients.0 limit.0 untyped.0 call.0 setup (sizes_read places.Top table sizes.0 sizes.1) few call.2

plan_read : (newest : ℕ) (table : Members) (setup : SetupView) → setup_up_to newest table ≡ Ok setup → HasPlan setup
unfolding setup_up_to
plan_read newest table setup h =
    let format = parts (required places.Top table (codes "format") (number first_format newest)) _ setup h in
    let known = parts (known_only places.Top table (top_keys format.0)) _ setup format.2 in
    let p = parts (optional places.Top table (codes "profile") Wide profile) (λ p. setup_at p table) setup known.2 in
    at_read p.0 table setup p.2

-- ---- names

entry_read : (p : ProfileName) (e : List ℕ × Data) (n : List ℕ × ℕ) → entry p e ≡ Ok n → is_name n.0 ≡ true
entry_read p e n h =
    elim (is_name e.0) as (λ b. is_name e.0 ≡ b → cond b (word p [] e.1 >>= λ n. Ok (e.0, n)) (Err OtherValue) ≡ Ok n → is_name n.0 ≡ true) [
      | true ↦ λ is k.
          let value = parts (word p [] e.1) (λ m. Ok (e.0, m)) n k in
          let same : ◌≡◌ {A = List ℕ × ℕ} (e.0, value.0) n = cc in
          ap (λ (x : List ℕ × ℕ). is_name x.0) (sym same) ∙ is
      | false ↦ λ is k. absurd cc
    ] refl h

abbrev AllAreNames : Names → Type 0
AllAreNames ns = Each (λ (n : List ℕ × ℕ). is_name n.0 ≡ true) ns

names_read : (p : ProfileName) (table : Members) (ns : Names) → names_of p table ≡ Ok ns → AllAreNames ns
names_read p table ns h =
    elim (optional_read places.Top table (codes "names") [] (names p) ns h) [
      | inl none ↦ subst AllAreNames none tt
      | inr read ↦
          let members = parts (table_in (as_table read.0)) (λ t. names_in p (entries_of t)) ns read.1 in
          (each_read (λ (n : List ℕ × ℕ). is_name n.0 ≡ true) (λ _. entry p) (λ i e n k. entry_read p e n k) 0 (told (entry_at_fault p (entries_of members.0)) (entries_of members.0)) ns members.2).0
    ]

-- ---- bytes

abbrev read_with : Members → Names → SetupView → ReadView
read_with table names setup = record { table = table; names = names; setup = setup }

pub input_read : (bytes : List ℕ) (read : ReadView) → read_of_bytes bytes ≡ Ok read → AreSetUpNames read.names × IsPlan read.setup.profile read.setup.plan
unfolding read_of_bytes read_of
input_read bytes read h =
    let table = parts (document_of bytes) read_of read h in
    let setup = parts (setup_of table.0) (λ s. names_of s.profile table.0 >>= λ n. Ok (read_with table.0 n s)) read table.2 in
    let named = parts (names_of setup.0.profile table.0) (λ n. Ok (read_with table.0 n setup.0)) read setup.2 in
    let same : read_with table.0 named.0 setup.0 ≡ read = ok_same (read_with table.0 named.0 setup.0) read named.2 in
    subst (λ (x : ReadView). AreSetUpNames x.names × IsPlan x.setup.profile x.setup.plan) same
    (All-from_recursion (λ (n : List ℕ × ℕ). is_name n.0 ≡ true) named.0 (names_read setup.0.profile table.0 named.0 named.1), plan_read newest_format table.0 setup.0 setup.1)
  where
    ok_same : (x y : ReadView) → ◌≡◌ {A = Result ReadView Fault} (Ok x) (Ok y) → x ≡ y
    ok_same x y e = cc

-- ---- inputs of which a forest is written

-- an input is read as a set-up with its names, and the text is that of the forest after so many of its calls
record IsWritten (after : Option ℕ) (bytes text : List ℕ) : Type 0 where
  read : ReadView
  made : ℕ
  is_read : read_of_bytes bytes ≡ Ok read
  makes : calls_made read.setup after ≡ Some made
  is : text ≡ forest_text (by_addresses read.names) read.setup made (state_behind read.setup.profile read.setup made).derivations

written : (after : Option ℕ) (bytes text : List ℕ) → IsAnswerTo (IsStateAnswer (IsTree Lines false) after) bytes text AllMet → IsWritten after bytes text
written after bytes text h = by_result (read_of_bytes bytes) refl h
  where
    by_made : (read : ReadView) → read_of_bytes bytes ≡ Ok read → (o : Option ℕ) → calls_made read.setup after ≡ o →
        IsAnswerAfter (IsTree Lines false read.setup.profile read.names read.setup) read.setup.profile read.setup o text AllMet → IsWritten after bytes text
    by_made read is_read None e k = absurd (let w : AllMet ≡ Absent = k.1 in cc)
    by_made read is_read (Some made) e k =
        record {
          read = read;
          made = made;
          is_read = is_read;
          makes = e;
          is = k.0 ∙ ap (forest_text (by_addresses read.names) read.setup made) (derivations_shown (state_behind read.setup.profile read.setup made));
        }

    by_result : (r : Result ReadView Fault) → read_of_bytes bytes ≡ r → IsSetUpAnswer (IsStateAnswer (IsTree Lines false) after) r text AllMet → IsWritten after bytes text
    by_result (Err fault) e k = absurd (let w : AllMet ≡ Refused = k.1 in cc)
    by_result (Ok read) e k = by_made read e (calls_made read.setup after) refl k

reached_behind : (setup : SetupView) (made : ℕ) → IsPlan setup.profile setup.plan → IsReached setup.profile (state_behind setup.profile setup made)
reached_behind setup made lawful =
    record { plan = setup.plan; lawful = lawful; calls = take made (map (λ (c : CallView). c.call) setup.calls); is = refl }

held_is : (after : Option ℕ) (bytes text : List ℕ) (h : IsWritten after bytes text) → held_when_read after (read_of_bytes bytes) ≡ Some (held_in (state_behind h.read.setup.profile h.read.setup h.made).derivations)
held_is after bytes text h =
    ap (held_when_read after) h.is_read ∙ ap (option_map (λ made. held_in (state_behind h.read.setup.profile h.read.setup made).derivations)) h.makes

pub same_inputs : (after until : Option ℕ) (bytes others text : List ℕ) → IsAnswerTo (IsStateAnswer (IsTree Lines false) after) bytes text AllMet → IsAnswerTo (IsStateAnswer (IsTree Lines false) until) others text AllMet →
    held_when_read after (read_of_bytes bytes) ≡ held_when_read until (read_of_bytes others)
same_inputs after until bytes others text h k =
    let a = written after bytes text h in
    let b = written until others text k in
    let mine = input_read bytes a.read a.is_read in
    let theirs = input_read others b.read b.is_read in
    let forests = same_states a.read.setup.profile b.read.setup.profile (state_behind a.read.setup.profile a.read.setup a.made) (state_behind b.read.setup.profile b.read.setup b.made) a.read.names b.read.names a.read.setup b.read.setup a.made b.made
    (reached_behind a.read.setup a.made mine.1) (reached_behind b.read.setup b.made theirs.1) mine.0 theirs.0 (sym a.is ∙ b.is) in
    held_is after bytes text a ∙ (ap (λ f. Some f) forests ∙ sym (held_is until others text b))

-- The plan of a set-up that was read can be booted from.
use Rattle.std.proofs.Common.{◌≡◌, ◌+◌, ◌≤◌, ℕ, codes, ℤ, pos, negsuc, List, [], ◌∷◌, length, Option, None, Some, Result, Ok, refl, subst, inl, inr, arith}
use Rattle.std.specs.List.{AllByRecursion as Each}
use Rattle.std.proofs.lemmas.Bool.{cases_Bool}
use Rattle.std.proofs.lemmas.Bool.Decides.{nat_tests}
use Rattle.std.proofs.lemmas.List.Elements.{All-from_recursion}
use Rattle.toml.specs.Data.{Data, Members, get_member, as_integer}
use Rattle.cap_core.specs.declared.profile.ProfileName.{ProfileName}
use Rattle.cap_core.specs.declared.profile.ProfileName.TheVariants.{Wide}
use Rattle.cap_core.specs.Limits.{min_memory_bits, max_memory_bits, min_root_radix, max_root_radix, min_boot_threads, max_boot_threads, max_boot_endpoints, max_boot_untypeds, max_clients, max_history_limit}
use Rattle.cap_core.specs.Numbers.{min_untyped_bits, max_object_bits}
use Rattle.kernel_abstract.specs.declared.plan.PlanDefect.{PlanDefect}
use Rattle.kernel_abstract.specs.Plan.{Plan, IsPlan, IsUntypedSize, AreSizes, first_defect}
use Rattle.setup_values.specs.declared.values.Wrong.{Wrong}
use Rattle.setup_values.specs.declared.values.Wrong.TheVariants.{OtherValue}
use Rattle.setup_values.specs.Names.{Names}
use Rattle.setup_values.specs.Kinds.{between, number, number_in, word, profile, tables, each}
use Rattle.setup_format.specs.Limits.{first_format, newest_format, max_calls}
use Rattle.setup_format.specs.declared.fault.Place.{Place}
use Rattle.setup_format.specs.declared.fault.Place.TheVariants as places
use Rattle.setup_format.specs.declared.setup.Sizes.{Sizes}
use Rattle.setup_format.specs.Tables.{required, optional, needed, given_or, known_only}
use Rattle.setup_format.specs.Setups.{untyped_keys, untyped_at, top_keys, sizes_at, planned_with, laid_out, laid_out_unless, limit_of, names_of, call_at, setup_with, setup_at, setup_up_to, setup_of}
use Rattle.setup_format.specs.Views.{SetupView}
use Rattle.setup_format.proofs.Grammar.Parts.{no_answer, parts}
use Rattle.setup_migrate.proofs.Law.Follows.{at_key_gives}
use Rattle.command_explore.proofs.Replay.Picks.{each_read}
use Rattle.command_explore.proofs.Replay.Calls.{tables_within}

-- ---- numbers

number_within : (low high : ℕ) (z : Option ℤ) (n : ℕ) → number_in low high z ≡ Ok n → (low ≤ n) × (n ≤ high)
number_within low high None n e = no_answer _ n e
number_within low high (Some (negsuc m)) n e = no_answer _ n e
number_within low high (Some (pos m)) n e =
    elim (cases_Bool (between low high m)) [
      | inl within ↦
          let given : ◌≡◌ {A = Result ℕ Wrong} (Ok m) (Ok n) = rw within at e in
          let here : m ≡ n = cc in
          subst (λ k. (low ≤ k) × (k ≤ high)) here (grind (arith, nat_tests), grind (arith, nat_tests))
      | inr outside ↦ no_answer OtherValue n (rw outside at e)
    ]

needed_within : (low high : ℕ) (o : Option Data) (n : ℕ) → needed (number low high) o ≡ Ok n → (low ≤ n) × (n ≤ high)
needed_within low high None n e = no_answer _ n e
needed_within low high (Some d) n e = number_within low high (as_integer d) n e

required_within : (place : Place) (t : Members) (key : List ℕ) (low high n : ℕ) → required place t key (number low high) ≡ Ok n → (low ≤ n) × (n ≤ high)
required_within place t key low high n e = needed_within low high (get_member key t) n (at_key_gives place key _ n e)

sizes_within : (t : Members) (s : Sizes) → sizes_at places.Top t ≡ Ok s → AreSizes s.memory_bits s.root_radix s.threads s.endpoints
unfolding sizes_at
sizes_within t s e =
    let (memory, e1, r1) = parts (required places.Top t (codes "memory_bits") (number min_memory_bits max_memory_bits)) _ s e in
    let (radix, e2, r2) = parts (required places.Top t (codes "root_radix") (number min_root_radix max_root_radix)) _ s r1 in
    let (threads, e3, r3) = parts (required places.Top t (codes "threads") (number min_boot_threads max_boot_threads)) _ s r2 in
    let (endpoints, e4, r4) = parts (required places.Top t (codes "endpoints") (number 0 max_boot_endpoints)) _ s r3 in
    let made : Sizes = record { memory_bits = memory; root_radix = radix; threads = threads; endpoints = endpoints } in
    let whole : made ≡ s = cc in
    let m = required_within places.Top t (codes "memory_bits") min_memory_bits max_memory_bits memory e1 in
    let r = required_within places.Top t (codes "root_radix") min_root_radix max_root_radix radix e2 in
    let h = required_within places.Top t (codes "threads") min_boot_threads max_boot_threads threads e3 in
    let q = required_within places.Top t (codes "endpoints") 0 max_boot_endpoints endpoints e4 in
    let within : AreSizes memory radix threads endpoints = record { memory_least = m.0; memory_most = m.1; radix_least = r.0; radix_most = r.1; threads_least = h.0; threads_most = h.1; endpoints_most = q.1 } in
    subst (λ (x : Sizes). AreSizes x.memory_bits x.root_radix x.threads x.endpoints) whole within

-- ---- untyped regions

one_sized : (p : ProfileName) (n : ℕ) (t : Members) (untyped : ℕ × ℕ) → untyped_at p n t ≡ Ok untyped → IsUntypedSize p untyped
unfolding untyped_at
one_sized p n t untyped e =
    let (known, e1, r1) = parts (known_only (places.Untyped n) t untyped_keys) _ untyped e in
    let (base, e2, r2) = parts (required (places.Untyped n) t (codes "base") (word p [])) _ untyped r1 in
    let (bits, e3, r3) = parts (required (places.Untyped n) t (codes "bits") (number (min_untyped_bits p) (max_object_bits p))) _ untyped r2 in
    let whole : ◌≡◌ {A = ℕ × ℕ} (base, bits) untyped = cc in
    let within = required_within (places.Untyped n) t (codes "bits") (min_untyped_bits p) (max_object_bits p) bits e3 in
    subst (IsUntypedSize p) whole (record { least = within.0; most = within.1 })

each_sized : (p : ProfileName) (n : ℕ) (ts : List Members) (untypeds : List (ℕ × ℕ)) → each (untyped_at p) n ts ≡ Ok untypeds → Each (IsUntypedSize p) untypeds
unfolding each
each_sized p n [] untypeds e =
    let none : [] ≡ untypeds = cc in
    subst (Each (IsUntypedSize p)) none tt
each_sized p n (t ∷ ts) untypeds e =
    let (untyped, first, rest) = parts (untyped_at p n t) _ untypeds e in
    let (more, others, all) = parts (each (untyped_at p) (n + 1) ts) _ untypeds rest in
    let whole : untyped ∷ more ≡ untypeds = cc in
    subst (Each (IsUntypedSize p)) whole (one_sized p n t untyped first, each_sized p (n + 1) ts more others)

few_untypeds : (t : Members) (ts : List Members) → optional places.Top t (codes "untyped") [] (tables 0 max_boot_untypeds) ≡ Ok ts → length ts ≤ max_boot_untypeds
few_untypeds t ts e = by (get_member (codes "untyped") t) (at_key_gives places.Top (codes "untyped") _ ts e)
  where
    by : (o : Option Data) → given_or [] (tables 0 max_boot_untypeds) o ≡ Ok ts → length ts ≤ max_boot_untypeds
    by None e =
        let none : [] ≡ ts = cc in
        subst (λ l. length l ≤ max_boot_untypeds) none (omega arith)
    by (Some d) e = tables_within max_boot_untypeds d ts e

-- ---- the plan

no_defect : (defect : Option PlanDefect) (plan made : Plan) → laid_out_unless defect plan ≡ Ok made → (defect ≡ None) × (plan ≡ made)
no_defect None plan made e = (refl, cc)
no_defect (Some defect) plan made e = no_answer _ made e

with_plan : (p : ProfileName) (names : Names) (sizes : Sizes) (clients limit : ℕ) (untyped call : List Members) (s : SetupView) → AreSizes sizes.memory_bits sizes.root_radix sizes.threads sizes.endpoints
    → length untyped ≤ max_boot_untypeds → setup_with p names sizes clients limit untyped call ≡ Ok s → IsPlan s.profile s.plan
unfolding setup_with
with_plan p names sizes clients limit untyped call s within few e =
    let (untypeds, e1, r1) = parts (each (untyped_at p) 1 untyped) _ s e in
    let (plan, e2, r2) = parts (laid_out p (planned_with sizes untypeds)) _ s r1 in
    let (calls, e3, r3) = parts (each (call_at p names clients) 1 call) _ s r2 in
    let made : SetupView = record { profile = p; plan = plan; clients = clients; limit = limit_of limit (length calls); calls = calls } in
    let whole : made ≡ s = cc in
    let sound = no_defect (first_defect p (planned_with sizes untypeds)) (planned_with sizes untypeds) plan e2 in
    let long = each_read (untyped_at p) (λ _. Unit {0}) 1 untyped untypeds e1 in
    let lawful : IsPlan p (planned_with sizes untypeds) =
    record {
      limits = record { sizes = within; untypeds_most = omega (arith, few, long); untypeds_sized = All-from_recursion _ _ (each_sized p 1 untyped untypeds e1) };
      sound = sound.0;
    } in
    subst (λ (v : SetupView). IsPlan v.profile v.plan) whole (subst (IsPlan p) sound.1 lawful)

at_profile : (p : ProfileName) (t : Members) (s : SetupView) → setup_at p t ≡ Ok s → IsPlan s.profile s.plan
unfolding setup_at
at_profile p t s e =
    let (sizes, e1, r1) = parts (sizes_at places.Top t) _ s e in
    let (clients, e2, r2) = parts (optional places.Top t (codes "clients") 1 (number 1 max_clients)) _ s r1 in
    let (limit, e3, r3) = parts (optional places.Top t (codes "limit") 0 (number 1 max_history_limit)) _ s r2 in
    let (ns, e4, r4) = parts (names_of p t) _ s r3 in
    let (untyped, e5, r5) = parts (optional places.Top t (codes "untyped") [] (tables 0 max_boot_untypeds)) _ s r4 in
    let (call, e6, r6) = parts (optional places.Top t (codes "call") [] (tables 0 max_calls)) _ s r5 in
    with_plan p ns sizes clients limit untyped call s (sizes_within t sizes e1) (few_untypeds t untyped e5) r6

pub plan_lawful : (t : Members) (s : SetupView) → setup_of t ≡ Ok s → IsPlan s.profile s.plan
unfolding setup_up_to
plan_lawful t s e =
    let (format, e1, r1) = parts (required places.Top t (codes "format") (number first_format newest_format)) _ s e in
    let (known, e2, r2) = parts (known_only places.Top t (top_keys format)) _ s r1 in
    let (p, e3, r3) = parts (optional places.Top t (codes "profile") Wide profile) _ s r2 in
    at_profile p t s r3

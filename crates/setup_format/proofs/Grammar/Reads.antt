-- A set-up that is accepted has names that are read.
use Rattle.std.proofs.Common.{◌≡◌, ℕ, List, [], codes, length, Result, Ok, Err, refl, ap, subst, sym}
use Rattle.toml.specs.Data.{Members}
use Rattle.cap_core.specs.declared.profile.ProfileName.{ProfileName}
use Rattle.cap_core.specs.declared.profile.ProfileName.TheVariants.{Wide}
use Rattle.cap_core.specs.Checks.{◌>>=◌}
use Rattle.cap_core.specs.Limits.{max_boot_untypeds, max_clients, max_history_limit}
use Rattle.setup_values.specs.Names.{Names}
use Rattle.setup_values.specs.Kinds.{each, number, profile, tables}
use Rattle.setup_format.specs.declared.fault.Place.TheVariants as places
use Rattle.setup_format.specs.declared.setup.Sizes.{Sizes}
use Rattle.setup_format.specs.Faults.{Fault}
use Rattle.setup_format.proofs.Grammar.Parts.{parts}
use Rattle.setup_format.specs.Limits.{first_format, newest_format, max_calls}
use Rattle.setup_format.specs.Tables.{required, optional, known_only}
use Rattle.setup_format.specs.Views.{SetupView}
use Rattle.setup_format.specs.Laws.{setup_in, ReadsItsSetup}
use Rattle.setup_format.specs.Setups.{top_keys, untyped_at, call_at, sizes_at, planned_with, laid_out, limit_of, names_of, setup_with, setup_at, setup_up_to, setup_of, read_of, document_of, setup_of_bytes, read_of_bytes}

profile_with : (p : ProfileName) (names : Names) (sizes : Sizes) (clients limit : ℕ) (untyped call : List Members) (s : SetupView)
    → setup_with p names sizes clients limit untyped call ≡ Ok s → s.profile ≡ p
unfolding setup_with
profile_with p names sizes clients limit untyped call s e =
    let (untypeds, e1, r1) = parts (each (untyped_at p) 1 untyped) _ s e in
    let (plan, e2, r2) = parts (laid_out p (planned_with sizes untypeds)) _ s r1 in
    let (calls, e3, r3) = parts (each (call_at p names clients) 1 call) _ s r2 in
    let whole : record { profile = p; plan = plan; clients = clients; limit = limit_of limit (length calls); calls = calls } ≡ s = cc in
    ap (λ (v : SetupView). v.profile) (sym whole)

names_at : (p : ProfileName) (table : Members) (s : SetupView) → setup_at p table ≡ Ok s → (names : Names) × (names_of p table ≡ Ok names) × (s.profile ≡ p)
unfolding setup_at
names_at p table s e =
    let (sizes, e1, r1) = parts (sizes_at places.Top table) _ s e in
    let (clients, e2, r2) = parts (optional places.Top table (codes "clients") 1 (number 1 max_clients)) _ s r1 in
    let (limit, e3, r3) = parts (optional places.Top table (codes "limit") 0 (number 1 max_history_limit)) _ s r2 in
    let (names, e4, r4) = parts (names_of p table) _ s r3 in
    let (untyped, e5, r5) = parts (optional places.Top table (codes "untyped") [] (tables 0 max_boot_untypeds)) _ s r4 in
    let (call, e6, r6) = parts (optional places.Top table (codes "call") [] (tables 0 max_calls)) _ s r5 in
    (names, e4, profile_with p names sizes clients limit untyped call s r6)

names_in : (table : Members) (s : SetupView) → setup_of table ≡ Ok s → (names : Names) × (names_of s.profile table ≡ Ok names)
unfolding setup_up_to
names_in table s e =
    let (format, e1, r1) = parts (required places.Top table (codes "format") (number first_format newest_format)) _ s e in
    let (known, e2, r2) = parts (known_only places.Top table (top_keys format)) _ s r1 in
    let (p, e3, r3) = parts (optional places.Top table (codes "profile") Wide profile) _ s r2 in
    let (names, read, same) = names_at p table s r3 in
    (names, subst (λ q. names_of q table ≡ Ok names) (sym same) read)

with_names : (table : Members) (r : Result SetupView Fault) → setup_of table ≡ r
    → setup_in (r >>= λ setup. names_of setup.profile table >>= λ names. Ok (record { table = table; names = names; setup = setup })) ≡ r
with_names table (Err fault) e = refl
with_names table (Ok s) e = let (names, read) = names_in table s e in rw read refl

of_table : (table : Members) → setup_in (read_of table) ≡ setup_of table
unfolding read_of
of_table table = with_names table (setup_of table) refl

of_document : (d : Result Members Fault) → setup_in (d >>= read_of) ≡ (d >>= setup_of)
of_document (Ok table) = of_table table
of_document (Err fault) = refl

pub reads_its_setup : (bytes : List ℕ) → ReadsItsSetup bytes
unfolding setup_of_bytes read_of_bytes
reads_its_setup bytes = of_document (document_of bytes)

-- The set-up that a table or a text is read as, or its first fault.
use Rattle.std.specs.Prelude.{codes, ℕ, ◌-◌, max, List, [], ◌∷◌, ◌++◌, length, ◌==◌, if◌then◌else◌, Option, Some, None, Result, Ok, Err}
use Rattle.std.specs.Str.{is_utf8}
use Rattle.toml.specs.Data.{Members}
use Rattle.toml.specs.Parse.{parse_document}
use Rattle.cap_core.specs.declared.profile.ProfileName.{ProfileName}
use Rattle.cap_core.specs.declared.profile.ProfileName.TheVariants.{Wide}
use Rattle.cap_core.specs.Limits.{min_memory_bits, max_memory_bits, min_root_radix, max_root_radix, min_boot_threads, max_boot_threads, max_boot_endpoints, max_boot_untypeds, max_clients, max_history_limit}
use Rattle.cap_core.specs.Numbers.{min_untyped_bits, max_object_bits}
use Rattle.kernel_abstract.specs.declared.plan.PlanDefect.{PlanDefect}
use Rattle.kernel_abstract.specs.Plan.{Plan, planned, first_defect}
use Rattle.setup_format.specs.Limits.{first_format, newest_format, max_calls}
use Rattle.setup_format.specs.declared.fault.Place.{Place}
use Rattle.setup_format.specs.declared.fault.Place.TheVariants as places
use Rattle.setup_format.specs.declared.setup.Sizes.{Sizes}
use Rattle.setup_values.specs.Names.{Names}
use Rattle.cap_core.specs.Checks.{◌>>=◌}
use Rattle.setup_values.specs.Kinds.{number, word, names, expect, op, profile, tables, each}
use Rattle.setup_format.specs.Faults.{Fault, text, layout}
use Rattle.setup_format.specs.Tables.{required, optional, known_only}
use Rattle.setup_values.specs.Operations.{call_keys}
use Rattle.setup_format.specs.Operations.{operation_at}
use Rattle.setup_format.specs.Views.{CallView, SetupView, ReadView}

-- ---- untyped tables

-- the keys of an untyped region
abbrev pub untyped_keys : List (List ℕ)
untyped_keys = codes "base" ∷ codes "bits" ∷ []

unfoldable pub untyped_at : ProfileName → ℕ → Members → Result (ℕ × ℕ) Fault
untyped_at p n table = do
  known ← known_only (places.Untyped n) table untyped_keys
  base ← required (places.Untyped n) table (codes "base") (word p [])
  bits ← required (places.Untyped n) table (codes "bits") (number (min_untyped_bits p) (max_object_bits p))
  Ok (base, bits)

-- ---- call tables

unfoldable pub call_at : ProfileName → Names → ℕ → ℕ → Members → Result CallView Fault
call_at p names clients n table = do
  op ← required (places.Call n) table (codes "op") op
  known ← known_only (places.Call n) table (call_keys op)
  thread ← required (places.Call n) table (codes "thread") (word p names)
  client ← optional (places.Call n) table (codes "client") 0 (number 0 (clients - 1))
  expect ← optional (places.Call n) table (codes "expect") None expect
  operation ← operation_at p names (places.Call n) table op
  Ok (record { call = record { thread = thread; op = operation }; client = client; expect = expect })

-- ---- the top table

-- the keys of the first format; a later one has names before its tables
abbrev pub size_keys : List (List ℕ)
size_keys =
    codes "format" ∷ codes "profile" ∷ codes "memory_bits" ∷ codes "root_radix" ∷ codes "threads" ∷ codes "endpoints" ∷ codes "clients" ∷ codes "limit" ∷ []

abbrev pub table_keys : List (List ℕ)
table_keys = codes "untyped" ∷ codes "call" ∷ []

abbrev pub first_keys : List (List ℕ)
first_keys = size_keys ++ table_keys

-- the keys of the top table, by the format
abbrev pub top_keys : ℕ → List (List ℕ)
top_keys format = if format == first_format then first_keys else size_keys ++ codes "names" ∷ table_keys

unfoldable pub sizes_at : Place → Members → Result Sizes Fault
sizes_at place table = do
  memory_bits ← required place table (codes "memory_bits") (number min_memory_bits max_memory_bits)
  root_radix ← required place table (codes "root_radix") (number min_root_radix max_root_radix)
  threads ← required place table (codes "threads") (number min_boot_threads max_boot_threads)
  endpoints ← required place table (codes "endpoints") (number 0 max_boot_endpoints)
  Ok (record { memory_bits = memory_bits; root_radix = root_radix; threads = threads; endpoints = endpoints })

-- the plan of a boot, and the fault if it has a defect
abbrev pub planned_with : Sizes → List (ℕ × ℕ) → Plan
planned_with sizes untypeds = planned sizes.memory_bits sizes.root_radix sizes.threads sizes.endpoints untypeds

abbrev pub laid_out_unless : Option PlanDefect → Plan → Result Plan Fault
laid_out_unless None plan = Ok plan
laid_out_unless (Some defect) plan = Err (layout defect)

abbrev pub laid_out : ProfileName → Plan → Result Plan Fault
laid_out p plan = laid_out_unless (first_defect p plan) plan

-- the number of calls, at least 1, if no limit is given
abbrev pub limit_of : ℕ → ℕ → ℕ
limit_of given calls = if given == 0 then max 1 calls else given

-- the set-up of these sizes and names, with these tables of untyped regions and of calls; no table can give a limit of 0
unfoldable pub setup_with : ProfileName → Names → Sizes → ℕ → ℕ → List Members → List Members → Result SetupView Fault
setup_with p names sizes clients limit untyped call = do
  untypeds ← each (untyped_at p) 1 untyped
  plan ← laid_out p (planned_with sizes untypeds)
  calls ← each (call_at p names clients) 1 call
  Ok (record { profile = p; plan = plan; clients = clients; limit = limit_of limit (length calls); calls = calls })

-- the names that a table gives to words
abbrev pub names_of : ProfileName → Members → Result Names Fault
names_of p table = optional places.Top table (codes "names") [] (names p)

-- a table whose format, keys and profile are known
unfoldable pub setup_at : ProfileName → Members → Result SetupView Fault
setup_at p table = do
  sizes ← sizes_at places.Top table
  clients ← optional places.Top table (codes "clients") 1 (number 1 max_clients)
  limit ← optional places.Top table (codes "limit") 0 (number 1 max_history_limit)
  names ← names_of p table
  untyped ← optional places.Top table (codes "untyped") [] (tables 0 max_boot_untypeds)
  call ← optional places.Top table (codes "call") [] (tables 0 max_calls)
  setup_with p names sizes clients limit untyped call

-- a table in one of the formats up to the newest that is taken
unfoldable pub setup_up_to : ℕ → Members → Result SetupView Fault
setup_up_to newest table = do
  format ← required places.Top table (codes "format") (number first_format newest)
  known ← known_only places.Top table (top_keys format)
  profile ← optional places.Top table (codes "profile") Wide profile
  setup_at profile table

-- the set-up that a table is, in any format that is read, or its first fault
abbrev pub setup_of : Members → Result SetupView Fault
setup_of table = setup_up_to newest_format table

-- the set-up that a table of format 1 is, or its first fault
abbrev pub first_format_setup_of : Members → Result SetupView Fault
first_format_setup_of table = setup_up_to first_format table

-- a set-up, with its table and the names that the table gives to words
unfoldable pub read_of : Members → Result ReadView Fault
read_of table = do
  setup ← setup_of table
  names ← names_of setup.profile table
  Ok (record { table = table; names = names; setup = setup })

-- ---- bytes

-- the table of a TOML document
abbrev pub document_in : Option Members → Result Members Fault
document_in None = Err text
document_in (Some table) = Ok table

-- the table of a TOML document, or that the text is no such document
unfoldable pub document_of : List ℕ → Result Members Fault
document_of bytes = document_in (if is_utf8 bytes then parse_document bytes else None)

-- the set-up that a text is, or its first fault
unfoldable pub setup_of_bytes : List ℕ → Result SetupView Fault
setup_of_bytes bytes = document_of bytes >>= setup_of

-- the set-up of format 1 that a text is, or its first fault
unfoldable pub first_format_setup_of_bytes : List ℕ → Result SetupView Fault
first_format_setup_of_bytes bytes = document_of bytes >>= first_format_setup_of

-- a set-up as it is read from a text, or its first fault
unfoldable pub read_of_bytes : List ℕ → Result ReadView Fault
read_of_bytes bytes = document_of bytes >>= read_of

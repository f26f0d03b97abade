-- The migrated table is read as the same set-up as the table itself by the first format.
use Rattle.std.proofs.Common.{◌≡◌, ℕ, Bool, true, false, not, ◌||◌, codes, ℤ, pos, negsuc, List, [], ◌∷◌, ◌++◌, length, map, Option, Some, None, option_map, Result, Ok, refl, sym, ap, subst, ◌∙◌, inl, inr, arith}
use Rattle.std.proofs.lemmas.Bool.{cases_Bool, false≢true}
use Rattle.std.proofs.lemmas.Bool.Decides.{nat_tests}
use Rattle.std.proofs.lemmas.Option.{none-some}
use Rattle.std.specs.Cmp.Lexicographic.{slice_cmp}
use Rattle.std.specs.List.{filter}
use Rattle.std.specs.Ordering.{nat_cmp, is_lt}
use Rattle.std.specs.Str.{bytes_eq}
use Rattle.toml.specs.Data.{Data, integer, table, Members, no_members, member, get_member, as_integer, same_key}
use Rattle.cap_core.specs.declared.profile.ProfileName.{ProfileName}
use Rattle.cap_core.specs.declared.profile.ProfileName.TheVariants.{Wide}
use Rattle.cap_core.specs.declared.limits.TheConstants.{MAX_BOOT_UNTYPEDS, MAX_CLIENTS, MAX_HISTORY_LIMIT}
use Rattle.kernel_abstract.specs.Plan.{Plan, IsPlan}
use Rattle.setup_values.specs.declared.values.Wrong.{Wrong}
use Rattle.setup_values.specs.declared.values.Wrong.TheVariants.{OtherValue}
use Rattle.setup_values.specs.Names.{Names}
use Rattle.setup_values.specs.Keys.{keys_of, least, lesser}
use Rattle.setup_values.specs.Kinds.{between, number, number_in, names, profile, tables, each}
use Rattle.setup_format.specs.Limits.{first_format, newest_format, max_calls}
use Rattle.setup_format.specs.declared.fault.Place.{Place}
use Rattle.setup_format.specs.declared.fault.Place.TheVariants as places
use Rattle.setup_format.specs.declared.setup.Sizes.{Sizes}
use Rattle.setup_format.specs.Faults.{Fault}
use Rattle.setup_format.specs.Tables.{required, optional, needed, given_or, at_key, known_only, no_unknown, is_one_of}
use Rattle.setup_format.specs.Setups.{size_keys, table_keys, first_keys, top_keys, sizes_at, planned_with, laid_out, limit_of, untyped_at, call_at, setup_with, setup_at, setup_up_to, setup_of, first_format_setup_of}
use Rattle.setup_format.specs.Views.{SetupView}
use Rattle.setup_migrate.specs.Migration.{with_member, named_calls, migrated}
use Rattle.setup_migrate.proofs.Parts.{get_changed, get_changed_other, get_with, get_with_other, keys_changed, keys_with, past, texts_tied}
use Rattle.setup_migrate.proofs.Law.Follows.{together, at_key_gives}
use Rattle.setup_format.proofs.Grammar.Parts.{no_answer, parts}
use Rattle.setup_migrate.proofs.Law.Names.{names_read, names_of_table}
use Rattle.setup_migrate.proofs.Law.Calls.{NamesThreads, renamed, calls_follow, tables_named}
use Rattle.setup_migrate.proofs.Law.Plans.{name_table, table_named, names_threads}

-- ---- the members of the migrated table

-- the table with the newest format, and then with the names
abbrev formatted : Members → Members
formatted t = with_member (codes "format") (integer (pos newest_format)) t

abbrev with_table : ProfileName → Plan → Members → Members
with_table p plan t = with_member (codes "names") (table (name_table p plan)) (formatted t)

other_member : (p : ProfileName) (plan : Plan) (t : Members) (k : List ℕ) → same_key k (codes "format") ≡ false → same_key k (codes "names") ≡ false → same_key k (codes "call") ≡ false
    → get_member k (migrated p plan t) ≡ get_member k t
other_member p plan t k format names call =
    get_changed_other k (codes "call") (named_calls p plan) (with_table p plan t) call
    ∙ (get_with_other k (codes "names") (table (name_table p plan)) (formatted t) names ∙ get_with_other k (codes "format") (integer (pos newest_format)) t format)

format_member : (p : ProfileName) (plan : Plan) (t : Members) → get_member (codes "format") (migrated p plan t) ≡ Some (integer (pos newest_format))
format_member p plan t =
    get_changed_other (codes "format") (codes "call") (named_calls p plan) (with_table p plan t) refl
    ∙ (get_with_other (codes "format") (codes "names") (table (name_table p plan)) (formatted t) refl ∙ get_with (codes "format") (integer (pos newest_format)) t)

names_member : (p : ProfileName) (plan : Plan) (t : Members) → get_member (codes "names") (migrated p plan t) ≡ Some (table (name_table p plan))
names_member p plan t =
    get_changed_other (codes "names") (codes "call") (named_calls p plan) (with_table p plan t) refl ∙ get_with (codes "names") (table (name_table p plan)) (formatted t)

call_member : (p : ProfileName) (plan : Plan) (t : Members) → get_member (codes "call") (migrated p plan t) ≡ option_map (named_calls p plan) (get_member (codes "call") t)
call_member p plan t =
    get_changed (codes "call") (named_calls p plan) (with_table p plan t)
    ∙ ap (option_map (named_calls p plan)) (get_with_other (codes "call") (codes "names") (table (name_table p plan)) (formatted t) refl
    ∙ get_with_other (codes "call") (codes "format") (integer (pos newest_format)) t refl)

-- ---- the keys

none_least : (ks : List (List ℕ)) → least (λ key. key) ks ≡ None → ks ≡ []
none_least [] e = refl
none_least (k ∷ ks) e = absurd (never (least (λ key. key) ks) e)
  where
    never : (o : Option (List ℕ)) → lesser (λ key. key) k o ≡ None → ⊥
    never None e = none-some k (sym e)
    never (Some l) e =
        elim (cases_Bool (is_lt (slice_cmp nat_cmp l k))) [
          | inl less ↦ none-some l (sym (rw less at e))
          | inr more ↦ none-some k (sym (rw more at e))
        ]

pub cons_none : {A : Type 0} {x : A} {xs : List A} → x ∷ xs ≡ [] → ⊥
cons_none e = cc

pub fewer : (p q : List ℕ → Bool) (ks : List (List ℕ)) → ((k : List ℕ) → p k ≡ false → q k ≡ false) → filter p ks ≡ [] → filter q ks ≡ []
fewer p q [] h e = refl
fewer p q (k ∷ ks) h e =
    elim (cases_Bool (p k)) [
      | inl kept ↦ absurd (cons_none (rw kept at e))
      | inr left ↦ rw (h k left) (fewer p q ks h (rw left at e))
    ]

pub all_known : (place : Place) (ks : List (List ℕ)) (n : ℕ) → no_unknown place (least (λ key. key) ks) ≡ Ok n → ks ≡ []
all_known place ks n e = none_least ks (none (least (λ key. key) ks) e)
  where
    none : (o : Option (List ℕ)) → no_unknown place o ≡ Ok n → o ≡ None
    none None e = refl
    none (Some k) e = no_answer _ n e

pub all_known_is : (place : Place) (ks : List (List ℕ)) (n : ℕ) → no_unknown place (least (λ key. key) ks) ≡ Ok n → ◌≡◌ {A = Result ℕ Fault} (Ok 0) (Ok n)
all_known_is place ks n e = let none = all_known place ks n e in rw none at e

-- a list with a key more has each key that it had
more_in : (k key : List ℕ) (xs ys : List (List ℕ)) → not (is_one_of (xs ++ ys) k) ≡ false → not (is_one_of (xs ++ key ∷ ys) k) ≡ false
more_in k key [] ys e = more (bytes_eq key k) (is_one_of ys k) e
  where
    more : (a b : Bool) → not b ≡ false → not (a || b) ≡ false
    more true b e = refl
    more false b e = e
more_in k key (x ∷ xs) ys e = either (bytes_eq x k) (is_one_of (xs ++ ys) k) (is_one_of (xs ++ key ∷ ys) k) (more_in k key xs ys) e
  where
    either : (a b c : Bool) → (not b ≡ false → not c ≡ false) → not (a || b) ≡ false → not (a || c) ≡ false
    either true b c h e = refl
    either false b c h e = h e

pub more_known : (k : List ℕ) → not (is_one_of first_keys k) ≡ false → not (is_one_of (top_keys newest_format) k) ≡ false
more_known k e = more_in k (codes "names") size_keys table_keys e

-- no key of the table is unknown, and so none of the migrated one is
known_after : (p : ProfileName) (plan : Plan) (t : Members) (n : ℕ) → known_only places.Top t (top_keys first_format) ≡ Ok n
    → known_only places.Top (migrated p plan t) (top_keys newest_format) ≡ Ok n
known_after p plan t n e =
    let test = λ (key : List ℕ). not (is_one_of (top_keys newest_format) key) in
    let before : filter (λ key. not (is_one_of first_keys key)) (keys_of t) ≡ [] = all_known places.Top (filter (λ key. not (is_one_of first_keys key)) (keys_of t)) n e in
    let after : filter test (keys_of t) ≡ [] = fewer (λ key. not (is_one_of first_keys key)) test (keys_of t) more_known before in
    let keys : filter test (keys_of (migrated p plan t)) ≡ [] =
    ap (filter test) (keys_changed (codes "call") (named_calls p plan) (with_table p plan t))
    ∙ (keys_with test (codes "names") (table (name_table p plan)) (formatted t) refl ∙ (keys_with test (codes "format") (integer (pos newest_format)) t refl ∙ after)) in
    rw keys (all_known_is places.Top (filter (λ key. not (is_one_of first_keys key)) (keys_of t)) n e)

-- a key that a test would leave is no key of the table
not_a_key : (test : List ℕ → Bool) (k : List ℕ) (ms : Members) → test k ≡ true → filter test (keys_of ms) ≡ [] → get_member k ms ≡ None
not_a_key test k no_members passes e = refl
not_a_key test k (member l d ms) passes e =
    elim (cases_Bool (test l)) [
      | inl kept ↦ absurd (cons_none (rw kept at e))
      | inr left ↦ past (slice_cmp nat_cmp k l) (get_member k ms) (Some d) (apart l left) ∙ not_a_key test k ms passes (rw left at e)
    ]
  where
    apart : (l : List ℕ) → test l ≡ false → same_key k l ≡ false
    apart l left =
        elim (cases_Bool (same_key k l)) [
          | inl same ↦ absurd (false≢true (sym left ∙ (ap test (sym (texts_tied k l same)) ∙ passes)))
          | inr other ↦ other
        ]

no_names : (t : Members) (n : ℕ) → known_only places.Top t (top_keys first_format) ≡ Ok n → get_member (codes "names") t ≡ None
no_names t n e = not_a_key (λ key. not (is_one_of first_keys key)) (codes "names") t refl (all_known places.Top (filter (λ key. not (is_one_of first_keys key)) (keys_of t)) n e)

-- ---- a table whose format, keys and profile are known

sizes_same : (p : ProfileName) (plan : Plan) (t : Members) → sizes_at places.Top (migrated p plan t) ≡ sizes_at places.Top t
unfolding sizes_at
sizes_same p plan t =
    rw (
      other_member p plan t (codes "memory_bits") refl refl refl,
      other_member p plan t (codes "root_radix") refl refl refl,
      other_member p plan t (codes "threads") refl refl refl,
      other_member p plan t (codes "endpoints") refl refl refl,
    )

optional_same : {A : Type 0} (p : ProfileName) (plan : Plan) (t : Members) (k : List ℕ) (default : A) (kind : Data → Result A Wrong) → get_member k (migrated p plan t) ≡ get_member k t
    → optional places.Top (migrated p plan t) k default kind ≡ optional places.Top t k default kind
optional_same p plan t k default kind e = ap (λ o. at_key places.Top k (given_or default kind o)) e

names_after : (p : ProfileName) (plan : Plan) (t : Members) → IsPlan p plan → optional places.Top (migrated p plan t) (codes "names") [] (names p) ≡ Ok (names_read (name_table p plan))
names_after p plan t h = rw (names_member p plan t, names_of_table p (name_table p plan) (table_named p plan h))

calls_after : (p : ProfileName) (plan : Plan) (t : Members) (calls : List Members) → optional places.Top t (codes "call") [] (tables 0 max_calls) ≡ Ok calls
    → optional places.Top (migrated p plan t) (codes "call") [] (tables 0 max_calls) ≡ Ok (map (renamed p plan) calls)
calls_after p plan t calls e = rw (call_member p plan t) (at (get_member (codes "call") t) e)
  where
    at : (o : Option Data) → at_key places.Top (codes "call") (given_or [] (tables 0 max_calls) o) ≡ Ok calls
        → at_key places.Top (codes "call") (given_or [] (tables 0 max_calls) (option_map (named_calls p plan) o)) ≡ Ok (map (renamed p plan) calls)
    at None e = let none : [] ≡ calls = cc in rw (← none)
    at (Some d) e = rw (tables_named p plan 0 max_calls d calls (at_key_gives places.Top (codes "call") (tables 0 max_calls d) calls e))

with_names : (p : ProfileName) (none ns : Names) (sizes : Sizes) (clients limit : ℕ) (untyped call : List Members) (s : SetupView) → none ≡ [] → setup_with p none sizes clients limit untyped call ≡ Ok s
    → (s.profile ≡ p → NamesThreads p s.plan ns) → (s.profile ≡ p) × (setup_with p ns sizes clients limit untyped (map (renamed p s.plan) call) ≡ Ok s)
unfolding setup_with
with_names p none ns sizes clients limit untyped call s empty read h =
    let e = rw empty at read in
    let (untypeds, e1, r1) = parts (each (untyped_at p) 1 untyped) _ s e in
    let (plan, e2, r2) = parts (laid_out p (planned_with sizes untypeds)) _ s r1 in
    let (calls, e3, r3) = parts (each (call_at p [] clients) 1 call) _ s r2 in
    let whole : record { profile = p; plan = plan; clients = clients; limit = limit_of limit (length calls); calls = calls } ≡ s = cc in
    let same : s.profile ≡ p = ap (λ (v : SetupView). v.profile) (sym whole) in
    (same, together _ _ untypeds s e1 (together _ _ plan s e2 (together _ _ calls s ((calls_follow p s.plan ns clients 1 call (h same)).follows calls e3) r3)))

no_entries : (p : ProfileName) (t : Members) (ns : Names) → get_member (codes "names") t ≡ None → optional places.Top t (codes "names") [] (names p) ≡ Ok ns → ns ≡ []
no_entries p t ns none e =
    let given : ◌≡◌ {A = Result Names Fault} (Ok []) (Ok ns) = rw none at e in
    cc

at_profile : (p : ProfileName) (t : Members) (s : SetupView) → get_member (codes "names") t ≡ None → setup_at p t ≡ Ok s → IsPlan s.profile s.plan
    → (s.profile ≡ p) × (setup_at p (migrated p s.plan t) ≡ Ok s)
unfolding setup_at
at_profile p t s none e h =
    let (sizes, e1, r1) = parts (sizes_at places.Top t) _ s e in
    let (clients, e2, r2) = parts (optional places.Top t (codes "clients") 1 (number 1 MAX_CLIENTS)) _ s r1 in
    let (limit, e3, r3) = parts (optional places.Top t (codes "limit") 0 (number 1 MAX_HISTORY_LIMIT)) _ s r2 in
    let (ns, e4, r4) = parts (optional places.Top t (codes "names") [] (names p)) _ s r3 in
    let empty : ns ≡ [] = no_entries p t ns none e4 in
    let (untyped, e5, r5) = parts (optional places.Top t (codes "untyped") [] (tables 0 MAX_BOOT_UNTYPEDS)) _ s r4 in
    let (call, e6, r6) = parts (optional places.Top t (codes "call") [] (tables 0 max_calls)) _ s r5 in
    let plan = s.plan in
    let is_plan : s.profile ≡ p → IsPlan p plan = λ same. rw (← same) h in
    let (same, done) = with_names p ns (names_read (name_table p plan)) sizes clients limit untyped call s empty r6 (λ same. names_threads p plan (is_plan same)) in (
      same,
      together _ _ sizes s (sizes_same p plan t ∙ e1)
          (together _ _ clients s (optional_same p plan t (codes "clients") 1 _ (other_member p plan t (codes "clients") refl refl refl) ∙ e2)
          (together _ _ limit s (optional_same p plan t (codes "limit") 0 _ (other_member p plan t (codes "limit") refl refl refl) ∙ e3)
          (together _ _ (names_read (name_table p plan)) s (names_after p plan t (is_plan same))
          (together _ _ untyped s (optional_same p plan t (codes "untyped") [] _ (other_member p plan t (codes "untyped") refl refl refl) ∙ e5)
          (together _ _ (map (renamed p plan) call) s (calls_after p plan t call e6) done))))),
    )

-- ---- the law

one_number : (z : Option ℤ) (n : ℕ) → number_in first_format first_format z ≡ Ok n → n ≡ first_format
one_number None n e = no_answer _ n e
one_number (Some (negsuc m)) n e = no_answer _ n e
one_number (Some (pos m)) n e =
    elim (cases_Bool (between first_format first_format m)) [
      | inl within ↦
          let given : ◌≡◌ {A = Result ℕ Wrong} (Ok m) (Ok n) = rw within at e in
          let here : m ≡ n = cc in
          let one : m ≡ first_format = grind (arith, nat_tests, within) in
          sym here ∙ one
      | inr outside ↦ no_answer OtherValue n (rw outside at e)
    ]

first_needed : (o : Option Data) (n : ℕ) → needed (number first_format first_format) o ≡ Ok n → n ≡ first_format
first_needed None n e = no_answer _ n e
first_needed (Some d) n e = one_number (as_integer d) n e

first_only : (t : Members) (n : ℕ) → required places.Top t (codes "format") (number first_format first_format) ≡ Ok n → n ≡ first_format
first_only t n e = first_needed (get_member (codes "format") t) n (at_key_gives places.Top (codes "format") _ n e)

first_known : (t : Members) (n known : ℕ) → n ≡ first_format → known_only places.Top t (top_keys n) ≡ Ok known → known_only places.Top t (top_keys first_format) ≡ Ok known
first_known t n known e h = subst (λ m. known_only places.Top t (top_keys m) ≡ Ok known) e h

newest : (t : Members) (s : SetupView) (p : ProfileName) (known : ℕ) → known_only places.Top t (top_keys first_format) ≡ Ok known → optional places.Top t (codes "profile") Wide profile ≡ Ok p
    → setup_at p (migrated p s.plan t) ≡ Ok s → setup_of (migrated p s.plan t) ≡ Ok s
unfolding setup_up_to
newest t s p known e1 e2 e3 =
    together _ _ newest_format s (ap (λ o. at_key places.Top (codes "format") (needed (number first_format newest_format) o)) (format_member p s.plan t))
    (together _ _ known s (known_after p s.plan t known e1)
    (together _ _ p s (optional_same p s.plan t (codes "profile") Wide _ (other_member p s.plan t (codes "profile") refl refl refl) ∙ e2) e3))

pub same_setup : (t : Members) (s : SetupView) → first_format_setup_of t ≡ Ok s → IsPlan s.profile s.plan → setup_of (migrated s.profile s.plan t) ≡ Ok s
unfolding setup_up_to
same_setup t s e h =
    let (format, e1, r1) = parts (required places.Top t (codes "format") (number first_format first_format)) _ s e in
    let (known, e2, r2) = parts (known_only places.Top t (top_keys format)) _ s r1 in
    let (p, e3, r3) = parts (optional places.Top t (codes "profile") Wide profile) _ s r2 in
    let known_first : known_only places.Top t (top_keys first_format) ≡ Ok known = first_known t format known (first_only t format e1) e2 in
    let (same, done) = at_profile p t s (no_names t known known_first) r3 h in
    subst (λ q. setup_of (migrated q s.plan t) ≡ Ok s) (sym same) (newest t s p known known_first e3 done)

-- A call whose boot thread stands by its name is read as it was.
use Rattle.std.proofs.Common.{◌≡◌, ℕ, ◌+◌, ◌-◌, ◌^◌, ◌++◌, codes, List, [], ◌∷◌, length, map, not, nat_lt, Option, Some, None, option_map, Result, Ok, refl, sym, ap, inl, inr}
use Rattle.std.proofs.lemmas.Bool.{cases_Bool}
use Rattle.std.proofs.lemmas.List.{length-map}
use Rattle.std.proofs.lemmas.Option.{none-some, same_Some}
use Rattle.std.specs.Fmt.{decimal}
use Rattle.std.specs.List.{filter}
use Rattle.toml.specs.Data.{Data, array, table, Items, no_items, item, Members, get_member, as_table}
use Rattle.cap_core.specs.declared.profile.ProfileName.{ProfileName}
use Rattle.cap_core.specs.Numbers.{word_bits}
use Rattle.kernel_abstract.specs.Plan.{Plan}
use Rattle.setup_values.specs.declared.values.Wrong.{Wrong}
use Rattle.setup_values.specs.declared.values.Wrong.TheVariants.{OtherValue}
use Rattle.setup_values.specs.Names.{Names, word_named}
use Rattle.setup_values.specs.Keys.{least}
use Rattle.setup_values.specs.Kinds.{between, word, natural, below, number, expect, op, each, item_list, array_in, table_in, tables}
use Rattle.setup_format.specs.declared.fault.Place.{Place}
use Rattle.setup_format.specs.declared.fault.Place.TheVariants as places
use Rattle.setup_format.specs.Tables.{required, needed, known_only, no_unknown, is_one_of}
use Rattle.setup_values.specs.Operations.{call_keys}
use Rattle.setup_format.specs.Setups.{call_at}
use Rattle.setup_migrate.specs.Migration.{with_changed, each_item, boot_thread_at, thread_or, named_thread, named_call, named_calls}
use Rattle.setup_migrate.proofs.Parts.{get_changed, get_changed_other, keys_changed}
use Rattle.setup_migrate.proofs.Law.Follows.{Follows, same, equal, after, together, at_key_follows, required_follows, optional_follows}
use Rattle.setup_format.proofs.Grammar.Parts.{no_answer, parts}
use Rattle.setup_migrate.proofs.Law.Operations.{AgreesPast, word_follows, operation_follows}

-- each boot thread's name stands for its address
pub record NamesThreads (p : ProfileName) (plan : Plan) (names : Names) : Type 0 where
  pub stands : (i address : ℕ) → boot_thread_at p plan address ≡ Some i → word_named names (codes "thread_" ++ decimal i) ≡ Some address

-- ---- a thread

below_itself : (bound n w : ℕ) → below bound n ≡ Ok w → below bound w ≡ Ok w
below_itself bound n w e =
    elim (cases_Bool (nat_lt n bound)) [
      | inl less ↦
          let same_word : ◌≡◌ {A = Result ℕ Wrong} (Ok n) (Ok w) = rw less at e in
          let here : n ≡ w = cc in
          rw (← here, less)
      | inr more ↦ no_answer OtherValue w (rw more at e)
    ]

-- a word that was read fits
word_fits : (p : ProfileName) (d : Data) (w : ℕ) → word p [] d ≡ Ok w → below (2 ^ word_bits p) w ≡ Ok w
word_fits p d w e =
    let (n, read, fits) = parts (natural [] d) (below (2 ^ word_bits p)) w e in
    below_itself (2 ^ word_bits p) n w fits

named_word : (p : ProfileName) (plan : Plan) (names : Names) (d : Data) (w : ℕ) (o : Option ℕ) → NamesThreads p plan names → boot_thread_at p plan w ≡ o → word p [] d ≡ Ok w
    → word p names (thread_or d o) ≡ Ok w
named_word p plan names d w None h at e = (word_follows p names d).follows w e
named_word p plan names d w (Some i) h at e = rw (h.stands i w at) (word_fits p d w e)

thread_follows : (p : ProfileName) (plan : Plan) (names : Names) (d : Data) → NamesThreads p plan names → Follows (word p [] d) (word p names (named_thread p plan d))
thread_follows p plan names d h =
    record { follows = λ w e. rw e (named_word p plan names d w (boot_thread_at p plan w) h refl e) }

needed_thread : (p : ProfileName) (plan : Plan) (names : Names) (o : Option Data) → NamesThreads p plan names
    → Follows (needed (word p []) o) (needed (word p names) (option_map (named_thread p plan) o))
needed_thread p plan names None h = same _
needed_thread p plan names (Some d) h = thread_follows p plan names d h

-- ---- a call

abbrev pub renamed : ProfileName → Plan → Members → Members
renamed p plan t = with_changed (codes "thread") (named_thread p plan) t

agrees : (p : ProfileName) (plan : Plan) (t : Members) → AgreesPast (codes "thread") t (renamed p plan t)
agrees p plan t = record { agrees = λ j apart. get_changed_other j (codes "thread") (named_thread p plan) t apart }

required_thread : (p : ProfileName) (plan : Plan) (names : Names) (place : Place) (t : Members) → NamesThreads p plan names
    → Follows (required place t (codes "thread") (word p [])) (required place (renamed p plan t) (codes "thread") (word p names))
required_thread p plan names place t h =
    rw (get_changed (codes "thread") (named_thread p plan) t) (at_key_follows place (codes "thread") _ _ (needed_thread p plan names (get_member (codes "thread") t) h))

known_same : (p : ProfileName) (plan : Plan) (place : Place) (t : Members) (known : List (List ℕ)) → known_only place (renamed p plan t) known ≡ known_only place t known
known_same p plan place t known =
    ap (λ ks. no_unknown place (least (λ key. key) (filter (λ key. not (is_one_of known key)) ks))) (keys_changed (codes "thread") (named_thread p plan) t)

pub call_follows : (p : ProfileName) (plan : Plan) (names : Names) (clients n : ℕ) (t : Members) → NamesThreads p plan names → Follows (call_at p [] clients n t) (call_at p names clients n (renamed p plan t))
unfolding call_at
call_follows p plan names clients n t h =
    let a = agrees p plan t in
    let u = renamed p plan t in
    let here = places.Call n in
    after (required_follows here t u (codes "op") op op (a.agrees (codes "op") refl) (λ d. same (op d))) (λ o.
    after (equal (known_only here t (call_keys o)) (known_only here u (call_keys o)) (known_same p plan here t (call_keys o))) (λ known.
    after (required_thread p plan names here t h) (λ thread.
    after (optional_follows here t u (codes "client") 0 (number 0 (clients - 1)) (number 0 (clients - 1)) (a.agrees (codes "client") refl) (λ d. same _)) (λ client.
    after (optional_follows here t u (codes "expect") None expect expect (a.agrees (codes "expect") refl) (λ d. same (expect d))) (λ expected.
    after (operation_follows p names here t u a o) (λ operation. same _))))))

pub calls_follow : (p : ProfileName) (plan : Plan) (names : Names) (clients n : ℕ) (ts : List Members) → NamesThreads p plan names
    → Follows (each (call_at p [] clients) n ts) (each (call_at p names clients) n (map (renamed p plan) ts))
unfolding each
calls_follow p plan names clients n [] h = same _
calls_follow p plan names clients n (t ∷ ts) h =
    after (call_follows p plan names clients n t h) (λ y. after (calls_follow p plan names clients (n + 1) ts h) (λ ys. same (Ok (y ∷ ys))))

-- ---- the tables of the calls

items_named : (f : Data → Data) (ds : Items) → item_list (each_item f ds) ≡ map f (item_list ds)
items_named f no_items = refl
items_named f (item d ds) = ap (λ es. f d ∷ es) (items_named f ds)

table_named : (p : ProfileName) (plan : Plan) (d : Data) (ms : Members) → table_in (as_table d) ≡ Ok ms → table_in (as_table (named_call p plan d)) ≡ Ok (renamed p plan ms)
table_named p plan (table t) ms e =
    let here : t ≡ ms = cc in
    ap (λ u. Ok (renamed p plan u)) here
table_named p plan d ms e = no_answer _ ms e

-- what becomes of a call that is a table, and of a value that is none
pub call_of_table : (p : ProfileName) (plan : Plan) (d : Data) (ms : Members) → Some ms ≡ as_table d → named_call p plan d ≡ table (renamed p plan ms)
call_of_table p plan (table t) ms e = ap (λ u. table (renamed p plan u)) (sym (same_Some ms t e))
call_of_table p plan d ms e = absurd (none-some ms (sym e))

pub call_of_none : (p : ProfileName) (plan : Plan) (d : Data) → None ≡ as_table d → named_call p plan d ≡ d
call_of_none p plan (table t) e = absurd (none-some t e)
call_of_none p plan d e = refl

each_table_named : (p : ProfileName) (plan : Plan) (n : ℕ) (ds : List Data) (ts : List Members) → each (λ _ d. table_in (as_table d)) n ds ≡ Ok ts
    → each (λ _ d. table_in (as_table d)) n (map (named_call p plan) ds) ≡ Ok (map (renamed p plan) ts)
unfolding each
each_table_named p plan n [] ts e =
    let none : [] ≡ ts = cc in
    rw (← none)
each_table_named p plan n (d ∷ ds) ts e =
    let (t, first, rest) = parts (table_in (as_table d)) _ ts e in
    let (us, others, all) = parts (each (λ _ x. table_in (as_table x)) (n + 1) ds) _ ts rest in
    let whole : t ∷ us ≡ ts = cc in
    rw (table_named p plan d t first, each_table_named p plan (n + 1) ds us others) (ap (λ vs. Ok (map (renamed p plan) vs)) whole)

array_named : (p : ProfileName) (plan : Plan) (low high : ℕ) (ds : Items) (es : List Data) → array_in low high (Some ds) ≡ Ok es
    → array_in low high (Some (each_item (named_call p plan) ds)) ≡ Ok (map (named_call p plan) es)
array_named p plan low high ds es e =
    elim (cases_Bool (between low high (length (item_list ds)))) [
      | inl within ↦
          let whole : ◌≡◌ {A = Result (List Data) Wrong} (Ok (item_list ds)) (Ok es) = rw within at e in
          let here : item_list ds ≡ es = cc in
          rw (items_named, length-map, within) (ap (λ xs. Ok (map (named_call p plan) xs)) here)
      | inr outside ↦ no_answer OtherValue es (rw outside at e)
    ]

pub tables_named : (p : ProfileName) (plan : Plan) (low high : ℕ) (d : Data) (ts : List Members) → tables low high d ≡ Ok ts → tables low high (named_calls p plan d) ≡ Ok (map (renamed p plan) ts)
tables_named p plan low high (array ds) ts e =
    let (es, within, read) = parts (array_in low high (Some ds)) (each (λ _ d. table_in (as_table d)) 0) ts e in
    together _ _ (map (named_call p plan) es) _ (array_named p plan low high ds es within) (each_table_named p plan 0 es ts read)
tables_named p plan low high d ts e = no_answer _ ts e

-- What is read of a table: no fault of its text, and messages of the profile.
use Rattle.std.proofs.Common.{◌≡◌, ◌≢◌, ℕ, ◌+◌, ◌-◌, ◌<◌, ◌≤◌, ◌^◌, nat_lt, nat_le, Bool, true, false, if◌then◌else◌, List, [], ◌∷◌, All, length, drop, replicate, codes, Option, None, Some, Result, Ok, Err, IfOk, IfErr, refl, ap, subst, suc, arith, ltb-true, leb-true, le-leb}
use Rattle.std.specs.List.{AllByRecursion}
use Rattle.std.proofs.lemmas.List.Elements.{All-from_recursion}
use Rattle.std.proofs.lemmas.Nat.{pow_pos}
use Rattle.std.proofs.Math.Seq.{drop-append_seam}
use Rattle.toml.specs.Data.{Data, Members, Items, as_array, get_member}
use Rattle.cap_core.specs.declared.profile.ProfileName.{ProfileName}
use Rattle.cap_core.specs.declared.profile.ProfileName.TheVariants.{Wide}
use Rattle.cap_core.specs.declared.limits.TheConstants.{MAX_MESSAGE_WORDS}
use Rattle.cap_core.specs.Numbers.{word_bits, label_bits, min_untyped_bits, max_object_bits}
use Rattle.cap_core.specs.Rights.{all_rights}
use Rattle.kernel_abstract.specs.declared.plan.PlanDefect.{PlanDefect}
use Rattle.kernel_abstract.specs.Plan.{Plan, first_defect}
use Rattle.setup_values.specs.declared.values.Wrong.{Wrong}
use Rattle.setup_values.specs.declared.values.Wrong.TheVariants.{OtherValue}
use Rattle.setup_format.specs.declared.fault.Place.{Place}
use Rattle.setup_format.specs.declared.fault.Place.TheVariants as places
use Rattle.setup_format.specs.declared.fault.SetupFault.{SetupFault}
use Rattle.setup_format.specs.declared.fault.SetupFault.TheVariants as faults
use Rattle.setup_values.specs.declared.operations.OpName.{OpName}
use Rattle.setup_values.specs.declared.operations.OpName.TheVariants as op_names
use Rattle.setup_format.specs.declared.setup.Sizes.{Sizes}
use Rattle.setup_values.specs.declared.values.Words.{Words}
use Rattle.setup_values.specs.Names.{Names}
use Rattle.setup_format.specs.Limits.{newest_format}
use Rattle.setup_format.specs.Views.{SetupView}
use Rattle.setup_format.specs.Faults.{Fault, text, at, layout, Gives}
use Rattle.cap_core.specs.Checks.{◌>>=◌}
use Rattle.setup_values.specs.Kinds.{below, number, word, rights, label, each, array_in, item_list, words, filled, expect, op}
use Rattle.setup_values.specs.Operations.{call_keys}
use Rattle.setup_format.specs.Tables.{at_key, needed, given_or, required, optional, known_only, least_unknown, no_unknown}
use Rattle.setup_format.specs.Messages.{IsMessage, SendsMessage, HasMessage}
use Rattle.setup_format.specs.Operations.{word_at, word_or, retype_at, slots_at, rights_at, copy_at, mint_at, move_at, mutate_at, slot_at, message_at, set_space_at, operation_at}
use Rattle.setup_format.specs.Setups.{top_keys, untyped_keys, untyped_at, call_at, sizes_at, planned_with, laid_out, laid_out_unless, setup_with, setup_at, setup_up_to, setup_of}

-- a fact holds of what is read, and there is no fault of the text
abbrev Reads : {A : Type 0} → (A → Type 0) → Result A Fault → Type 0
Reads P (Ok x) = P x
Reads P (Err text) = ⊥
Reads P (Err (at wrong place key)) = Unit {0}
Reads P (Err (layout defect)) = Unit {0}

abbrev Anything : {A : Type 0} → A → Type 0
Anything x = Unit {0}

then_reads : {A B : Type 0} (P : A → Type 0) (Q : B → Type 0) (r : Result A Fault) (f : A → Result B Fault) → Reads P r → ((x : A) → P x → Reads Q (f x)) → Reads Q (r >>= f)
then_reads P Q (Ok x) f h more = more x h
then_reads P Q (Err text) f h more = absurd h
then_reads P Q (Err (at wrong place key)) f h more = tt
then_reads P Q (Err (layout defect)) f h more = tt

then_ok : {A B E : Type 0} (P : A → Type 0) (Q : B → Type 0) (r : Result A E) (f : A → Result B E) → IfOk r P → ((x : A) → P x → IfOk (f x) Q) → IfOk (r >>= f) Q
then_ok P Q (Ok x) f h more = more x h
then_ok P Q (Err e) f h more = tt

weaker_ok : {A E : Type 0} (P Q : A → Type 0) (r : Result A E) → IfOk r P → ((x : A) → P x → Q x) → IfOk r Q
weaker_ok P Q (Ok x) h more = more x h
weaker_ok P Q (Err e) h more = tt

-- ---- keys

reads_at_key : {A : Type 0} (P : A → Type 0) (place : Place) (key : List ℕ) (r : Result A Wrong) → IfOk r P → Reads P (at_key place key r)
reads_at_key P place key (Ok x) h = h
reads_at_key P place key (Err wrong) h = tt

any_ok : {A E : Type 0} (r : Result A E) → IfOk r (λ x. Anything x)
any_ok (Ok x) = tt
any_ok (Err e) = tt

reads_required : {A : Type 0} (place : Place) (table : Members) (key : List ℕ) (kind : Data → Result A Wrong) → Reads Anything (required place table key kind)
reads_required place table key kind = reads_at_key Anything place key (needed kind (get_member key table)) (any_ok _)

reads_optional : {A : Type 0} (P : A → Type 0) (place : Place) (table : Members) (key : List ℕ) (default : A) (kind : Data → Result A Wrong) → P default → ((d : Data) → IfOk (kind d) P) → Reads P (optional place table key default kind)
reads_optional {A} P place table key default kind here there = reads_at_key P place key (given_or default kind (get_member key table)) (given (get_member key table))
  where
    given : (o : Option Data) → IfOk (given_or default kind o) P
    given None = here
    given (Some d) = there d

reads_any : {A : Type 0} (place : Place) (table : Members) (key : List ℕ) (default : A) (kind : Data → Result A Wrong) → Reads Anything (optional place table key default kind)
reads_any place table key default kind = reads_optional Anything place table key default kind tt (λ d. any_ok (kind d))

reads_known : (place : Place) (table : Members) (known : List (List ℕ)) → Reads Anything (known_only place table known)
reads_known place table known = unless (least_unknown known table)
  where
    unless : (o : Option (List ℕ)) → Reads Anything (no_unknown place o)
    unless None = tt
    unless (Some key) = tt

-- ---- messages

label_within : (p : ProfileName) (d : Data) → IfOk (label p d) (λ n. n < 2 ^ label_bits p)
label_within p d = then_ok Anything (λ n. n < 2 ^ label_bits p) (word p [] d) (below (2 ^ label_bits p)) (any_ok (word p [] d)) (λ n _. within n (nat_lt n (2 ^ label_bits p)) refl)
  where
    within : (n : ℕ) (b : Bool) → nat_lt n (2 ^ label_bits p) ≡ b → IfOk (below (2 ^ label_bits p) n) (λ n. n < 2 ^ label_bits p)
    within n true e = rw e (ltb-true n (2 ^ label_bits p) e)
    within n false e = rw e tt

each_as_long : {A B E : Type 0} (read : ℕ → A → Result B E) (n : ℕ) (xs : List A) → IfOk (each read n xs) (λ ys. length ys ≡ length xs)
unfolding each
each_as_long read n [] = refl
each_as_long read n (x ∷ xs) =
    then_ok Anything (λ ys. length ys ≡ suc (length xs)) (read n x) _ (any_ok (read n x))
    (λ y _. then_ok (λ ys. length ys ≡ length xs) (λ ys. length ys ≡ suc (length xs)) (each read (n + 1) xs) _ (each_as_long read (n + 1) xs) (λ ys e. ap suc e))

array_short : (high : ℕ) (o : Option Items) → IfOk (array_in 0 high o) (λ ds. length ds ≤ high)
array_short high None = tt
array_short high (Some ds) = rw (le-leb 0 (length (item_list ds)) (omega arith)) (within (nat_le (length (item_list ds)) high) refl)
  where
    within : (b : Bool) → nat_le (length (item_list ds)) high ≡ b → IfOk (if b then Ok (item_list ds) else Err OtherValue) (λ ds. length ds ≤ high)
    within true e = leb-true (length (item_list ds)) high e
    within false e = tt

-- the words of a message
record IsFilled (w : Words) : Type 0 where
  count_most : w.count ≤ MAX_MESSAGE_WORDS
  zeros : drop w.count w.words ≡ replicate (MAX_MESSAGE_WORDS - w.count) 0

filled_is : (ws : List ℕ) → length ws ≤ MAX_MESSAGE_WORDS → IsFilled (filled ws)
filled_is ws h = record { count_most = h; zeros = drop-append_seam ws (replicate (MAX_MESSAGE_WORDS - length ws) 0) }

words_filled : (p : ProfileName) (names : Names) (d : Data) → IfOk (words p names d) IsFilled
words_filled p names d =
    then_ok (λ ws. length ws ≤ MAX_MESSAGE_WORDS) IsFilled (array_in 0 MAX_MESSAGE_WORDS (as_array d) >>= each (λ _. word p names) 0) _
    (then_ok (λ ds. length ds ≤ MAX_MESSAGE_WORDS) (λ ws. length ws ≤ MAX_MESSAGE_WORDS) (array_in 0 MAX_MESSAGE_WORDS (as_array d)) _ (array_short MAX_MESSAGE_WORDS (as_array d))
    (λ ds le. weaker_ok (λ ws. length ws ≡ length ds) (λ ws. length ws ≤ MAX_MESSAGE_WORDS) (each (λ _. word p names) 0 ds) (each_as_long (λ _. word p names) 0 ds) (λ ws e. omega (arith, e))))
    filled_is

-- ---- operations

module _ (p : ProfileName) (names : Names) (place : Place) (table : Members) where
  word_given : (key : List ℕ) → Reads Anything (word_at p names place table key)
  word_given key = reads_required place table key (word p names)

  word_or_default : (key : List ℕ) (default : ℕ) → Reads Anything (word_or p names place table key default)
  word_or_default key default = reads_any place table key default (word p names)

  -- what follows on any word
  on : {A B : Type 0} (Q : B → Type 0) (r : Result A Fault) (f : A → Result B Fault) → Reads Anything r → ((x : A) → Reads Q (f x)) → Reads Q (r >>= f)
  on Q r f h more = then_reads Anything Q r f h (λ x _. more x)

  reads_retype : Reads (SendsMessage p) (retype_at p names place table)
  unfolding retype_at
  reads_retype =
      on (SendsMessage p) _ _ (word_given (codes "cap")) (λ cap. on (SendsMessage p) _ _ (word_given (codes "kind")) (λ kind. on (SendsMessage p) _ _ (word_or_default (codes "size_bits") 0) (λ size_bits.
      on (SendsMessage p) _ _ (word_given (codes "root")) (λ root. on (SendsMessage p) _ _ (word_or_default (codes "index") 0) (λ index. on (SendsMessage p) _ _ (word_or_default (codes "depth") 0) (λ depth.
      on (SendsMessage p) _ _ (word_given (codes "offset")) (λ offset. on (SendsMessage p) _ _ (word_given (codes "count")) (λ count. tt))))))))

  reads_slots : Reads Anything (slots_at p names place table)
  unfolding slots_at
  reads_slots =
      on Anything _ _ (word_given (codes "cap")) (λ cap. on Anything _ _ (word_given (codes "index")) (λ index. on Anything _ _ (word_or_default (codes "depth") (word_bits p)) (λ depth.
      on Anything _ _ (word_or_default (codes "src_root") cap) (λ src_root. on Anything _ _ (word_given (codes "src_index")) (λ src_index.
      on Anything _ _ (word_or_default (codes "src_depth") (word_bits p)) (λ src_depth. tt))))))

  reads_rights : Reads Anything (rights_at p names place table)
  reads_rights = reads_any place table (codes "rights") all_rights rights

  reads_copy : Reads (SendsMessage p) (copy_at p names place table)
  unfolding copy_at
  reads_copy = on (SendsMessage p) _ _ reads_slots (λ w. on (SendsMessage p) _ _ reads_rights (λ given. tt))

  reads_mint : Reads (SendsMessage p) (mint_at p names place table)
  unfolding mint_at
  reads_mint =
      on (SendsMessage p) _ _ reads_slots (λ w. on (SendsMessage p) _ _ reads_rights (λ given. on (SendsMessage p) _ _ (word_given (codes "word")) (λ value. tt)))

  reads_move : Reads (SendsMessage p) (move_at p names place table)
  unfolding move_at
  reads_move = on (SendsMessage p) _ _ reads_slots (λ w. tt)

  reads_mutate : Reads (SendsMessage p) (mutate_at p names place table)
  unfolding mutate_at
  reads_mutate = on (SendsMessage p) _ _ reads_slots (λ w. on (SendsMessage p) _ _ (word_given (codes "word")) (λ value. tt))

  reads_slot : Reads Anything (slot_at p names place table)
  unfolding slot_at
  reads_slot =
      on Anything _ _ (word_given (codes "cap")) (λ cap. on Anything _ _ (word_given (codes "index")) (λ index. on Anything _ _ (word_or_default (codes "depth") (word_bits p)) (λ depth. tt)))

  reads_message : Reads (λ w. IsMessage p w.1) (message_at p names place table)
  unfolding message_at
  reads_message =
      on (λ w. IsMessage p w.1) _ _ (word_given (codes "cap"))
      (λ cap. then_reads (λ n. n < 2 ^ label_bits p) (λ w. IsMessage p w.1) (optional place table (codes "label") 0 (label p)) _
      (reads_optional (λ n. n < 2 ^ label_bits p) place table (codes "label") 0 (label p) (pow_pos (label_bits p)) (label_within p))
      (λ l within. then_reads IsFilled (λ w. IsMessage p w.1) (optional place table (codes "words") (filled []) (words p names)) _
      (reads_optional IsFilled place table (codes "words") (filled []) (words p names) (filled_is [] (omega arith)) (words_filled p names))
      (λ w is. record { label_within = within; count_most = is.count_most; zeros = is.zeros })))

  reads_set_space : Reads (SendsMessage p) (set_space_at p names place table)
  unfolding set_space_at
  reads_set_space =
      on (SendsMessage p) _ _ (word_given (codes "cap")) (λ cap. on (SendsMessage p) _ _ (word_given (codes "root")) (λ root. on (SendsMessage p) _ _ (word_or_default (codes "word") 0) (λ value. tt)))

  reads_operation : (op : OpName) → Reads (SendsMessage p) (operation_at p names place table op)
  reads_operation op_names.Retype = reads_retype
  reads_operation op = search (on, then_reads, reads_copy, reads_mint, reads_move, reads_mutate, reads_slot, reads_message, reads_set_space, word_given)

reads_call : (p : ProfileName) (names : Names) (clients n : ℕ) (table : Members) → Reads (HasMessage p) (call_at p names clients n table)
unfolding call_at
reads_call p names clients n table =
    then_reads Anything (HasMessage p) (required (places.Call n) table (codes "op") op) _ (reads_required (places.Call n) table (codes "op") op)
    (λ o _. then_reads Anything (HasMessage p) (known_only (places.Call n) table (call_keys o)) _ (reads_known (places.Call n) table (call_keys o))
    (λ known _. then_reads Anything (HasMessage p) (required (places.Call n) table (codes "thread") (word p names)) _ (reads_required (places.Call n) table (codes "thread") (word p names))
    (λ thread _. then_reads Anything (HasMessage p) (optional (places.Call n) table (codes "client") 0 (number 0 (clients - 1))) _ (reads_any (places.Call n) table (codes "client") 0 (number 0 (clients - 1)))
    (λ client _. then_reads Anything (HasMessage p) (optional (places.Call n) table (codes "expect") None expect) _ (reads_any (places.Call n) table (codes "expect") None expect)
    (λ expected _. then_reads (SendsMessage p) (HasMessage p) (operation_at p names (places.Call n) table o) _ (reads_operation p names (places.Call n) table o) (λ operation has. has))))))

reads_each : {A B : Type 0} (P : B → Type 0) (read : ℕ → A → Result B Fault) → ((n : ℕ) (x : A) → Reads P (read n x)) → (n : ℕ) (xs : List A) → Reads (AllByRecursion P) (each read n xs)
unfolding each
reads_each P read h n [] = tt
reads_each P read h n (x ∷ xs) =
    then_reads P (AllByRecursion P) (read n x) _ (h n x)
    (λ y has. then_reads (AllByRecursion P) (AllByRecursion P) (each read (n + 1) xs) _ (reads_each P read h (n + 1) xs) (λ ys all. (has, all)))

-- ---- set-ups

each_anything : {A : Type 0} (P : A → Type 0) (r : Result (List A) Fault) → Reads (AllByRecursion P) r → Reads Anything r
each_anything P (Ok x) h = tt
each_anything P (Err text) h = h
each_anything P (Err (at wrong place key)) h = tt
each_anything P (Err (layout defect)) h = tt

abbrev IsRegion : ℕ × ℕ → Type 0
IsRegion region = region ≡ region

reads_untyped : (p : ProfileName) (n : ℕ) (table : Members) → Reads IsRegion (untyped_at p n table)
unfolding untyped_at
reads_untyped p n table =
    then_reads Anything IsRegion (known_only (places.Untyped n) table untyped_keys) _ (reads_known (places.Untyped n) table untyped_keys)
    (λ known _. then_reads Anything IsRegion (required (places.Untyped n) table (codes "base") (word p [])) _ (reads_required (places.Untyped n) table (codes "base") (word p []))
    (λ base _. then_reads Anything IsRegion (required (places.Untyped n) table (codes "bits") (number (min_untyped_bits p) (max_object_bits p))) _
    (reads_required (places.Untyped n) table (codes "bits") (number (min_untyped_bits p) (max_object_bits p)))
    (λ bits _. refl {a = (base, bits)})))

reads_sizes : (place : Place) (table : Members) → Reads Anything (sizes_at place table)
unfolding sizes_at
reads_sizes place table =
    then_reads Anything Anything _ _ (reads_required _ table (codes "memory_bits") _)
    (λ memory_bits _. then_reads Anything Anything _ _ (reads_required _ table (codes "root_radix") _)
    (λ root_radix _. then_reads Anything Anything _ _ (reads_required _ table (codes "threads") _)
    (λ threads _. then_reads Anything Anything _ _ (reads_required _ table (codes "endpoints") _) (λ endpoints _. tt))))

reads_plan : (p : ProfileName) (plan : Plan) → Reads Anything (laid_out p plan)
reads_plan p plan = unless (first_defect p plan)
  where
    unless : (o : Option PlanDefect) → Reads Anything (laid_out_unless o plan)
    unless None = tt
    unless (Some defect) = tt

abbrev HaveMessages : SetupView → Type 0
HaveMessages s = AllByRecursion (HasMessage s.profile) s.calls

reads_setup_with : (p : ProfileName) (names : Names) (sizes : Sizes) (clients limit : ℕ) (untyped call : List Members) → Reads HaveMessages (setup_with p names sizes clients limit untyped call)
unfolding setup_with
reads_setup_with p names sizes clients limit untyped call =
    then_reads Anything HaveMessages (each (untyped_at p) 1 untyped) _ (each_anything IsRegion _ (reads_each IsRegion (untyped_at p) (reads_untyped p) 1 untyped))
    (λ untypeds _. then_reads Anything HaveMessages (laid_out p (planned_with sizes untypeds)) _ (reads_plan p (planned_with sizes untypeds))
    (λ plan _. then_reads (AllByRecursion (HasMessage p)) HaveMessages (each (call_at p names clients) 1 call) _ (reads_each (HasMessage p) (call_at p names clients) (reads_call p names clients) 1 call)
    (λ calls all. all)))

reads_setup_at : (p : ProfileName) (table : Members) → Reads HaveMessages (setup_at p table)
unfolding setup_at
reads_setup_at p table =
    then_reads Anything HaveMessages _ _ (reads_sizes places.Top table)
    (λ sizes _. then_reads Anything HaveMessages _ _ (reads_any _ table (codes "clients") 1 _)
    (λ clients _. then_reads Anything HaveMessages _ _ (reads_any _ table (codes "limit") 0 _)
    (λ limit _. then_reads Anything HaveMessages _ _ (reads_any _ table (codes "names") [] _)
    (λ names _. then_reads Anything HaveMessages _ _ (reads_any _ table (codes "untyped") [] _)
    (λ untyped _. then_reads Anything HaveMessages _ _ (reads_any _ table (codes "call") [] _)
    (λ call _. reads_setup_with p names sizes clients limit untyped call))))))

reads_setup : (newest : ℕ) (table : Members) → Reads HaveMessages (setup_up_to newest table)
unfolding setup_up_to
reads_setup newest table =
    then_reads Anything HaveMessages _ _ (reads_required _ table (codes "format") _)
    (λ format _. then_reads Anything HaveMessages (known_only places.Top table (top_keys format)) _ (reads_known places.Top table (top_keys format))
    (λ known _. then_reads Anything HaveMessages _ _ (reads_any _ table (codes "profile") Wide _) (λ p _. reads_setup_at p table)))

pub messages_read : (table : Members) (r : Result SetupView SetupFault) → Gives (λ s. s) r (setup_of table) → IfOk r (λ s. All (HasMessage s.profile) s.calls)
messages_read table (Ok s) h = All-from_recursion (HasMessage s.profile) s.calls (subst (Reads HaveMessages) h (reads_setup newest_format table))
messages_read table (Err e) h = tt

pub never_text : (table : Members) (r : Result SetupView SetupFault) → Gives (λ s. s) r (setup_of table) → IfErr r (λ e. e ≢ faults.Text)
never_text table (Ok s) h = tt
never_text table (Err faults.Text) h = absurd (subst (Reads HaveMessages) h (reads_setup newest_format table))
never_text table (Err (faults.At wrong place key)) h = λ e. cc
never_text table (Err (faults.Layout defect)) h = λ e. cc
never_text table (Err faults.Memory) h = λ e. cc

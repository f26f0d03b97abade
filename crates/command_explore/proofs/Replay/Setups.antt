-- The table of a witness is read as the set-up with the calls that are chosen.
use Rattle.std.proofs.Common.{◌≡◌, ◌⊎◌, ◌==◌, ◌≤◌, ℕ, zero, suc, ◌+◌, Bool, true, false, not, codes, pos, max, List, [], ◌∷◌, ◌++◌, length, Option, Some, None, option_map, Result, Ok, refl, sym, ap, subst, ◌∙◌, inl, inr, length-append, arith}
use Rattle.std.proofs.lemmas.Bool.{cases_Bool}
use Rattle.std.proofs.lemmas.List.Concat.{flat_map-cons}
use Rattle.std.specs.List.{filter, flat_map, AllByRecursion as Each}
use Rattle.toml.specs.Data.{Data, integer, Members, get_member, same_key, members_are_sorted}
use Rattle.cap_core.specs.declared.profile.ProfileName.{ProfileName}
use Rattle.cap_core.specs.declared.profile.ProfileName.TheVariants.{Wide}
use Rattle.cap_core.specs.Limits.{max_boot_untypeds, max_clients, max_history_limit}
use Rattle.setup_values.specs.declared.values.Wrong.{Wrong}
use Rattle.setup_values.specs.Names.{Names}
use Rattle.setup_values.specs.Keys.{keys_of}
use Rattle.setup_values.specs.Kinds.{number, names, profile, tables, each}
use Rattle.setup_format.specs.Limits.{first_format, newest_format, max_calls}
use Rattle.setup_format.specs.declared.fault.Place.TheVariants as places
use Rattle.setup_format.specs.declared.setup.Sizes.{Sizes}
use Rattle.setup_format.specs.Faults.{Fault}
use Rattle.setup_format.specs.Tables.{required, optional, needed, given_or, at_key, known_only, is_one_of}
use Rattle.setup_format.specs.Setups.{top_keys, sizes_at, planned_with, laid_out, limit_of, names_of, untyped_at, call_at, setup_with, setup_at, setup_up_to, setup_of}
use Rattle.setup_format.specs.Views.{CallView, SetupView}
use Rattle.setup_migrate.specs.Migration.{with_member}
use Rattle.setup_migrate.proofs.Parts.{get_changed, get_changed_other, get_with, get_with_other, keys_changed, keys_with}
use Rattle.setup_format.proofs.Grammar.Parts.{parts}
use Rattle.setup_migrate.proofs.Law.Follows.{together, at_key_gives}
use Rattle.setup_migrate.proofs.Law.Setups.{fewer, all_known, all_known_is, more_known}
use Rattle.command_explore.specs.Witnesses.{chosen_calls, with_calls}
use Rattle.command_explore.specs.Replays.{view_as, HasLimitOf}
use Rattle.command_explore.proofs.Replay.Picks.{numbered, picked, pick, each_read, pick_read}
use Rattle.command_explore.proofs.Replay.Calls.{table_as, call_read, tables_within, tables_chosen, tables_sorted, member_sorted}

module _ (kept : ℕ) (numbers : List ℕ) (t : Members) where
  abbrev formatted : Members
  formatted = with_member (codes "format") (integer (pos newest_format)) t

  abbrev u : Members
  u = with_calls kept numbers t

  other_member : (k : List ℕ) → same_key k (codes "format") ≡ false → same_key k (codes "call") ≡ false → get_member k u ≡ get_member k t
  other_member k format call =
      get_changed_other k (codes "call") (chosen_calls kept numbers) formatted call ∙ get_with_other k (codes "format") (integer (pos newest_format)) t format

  format_member : get_member (codes "format") u ≡ Some (integer (pos newest_format))
  format_member =
      get_changed_other (codes "format") (codes "call") (chosen_calls kept numbers) formatted refl ∙ get_with (codes "format") (integer (pos newest_format)) t

  call_member : get_member (codes "call") u ≡ option_map (chosen_calls kept numbers) (get_member (codes "call") t)
  call_member =
      get_changed (codes "call") (chosen_calls kept numbers) formatted
      ∙ ap (option_map (chosen_calls kept numbers)) (get_with_other (codes "call") (codes "format") (integer (pos newest_format)) t refl)

  -- ---- the keys

  newer : (format : ℕ) (k : List ℕ) → not (is_one_of (top_keys format) k) ≡ false → not (is_one_of (top_keys newest_format) k) ≡ false
  newer format k e = elim (cases_Bool (format == first_format)) [
    | inl first ↦ more_known k (rw first at e)
    | inr other ↦ rw other at e
  ]

  known_after : (format n : ℕ) → known_only places.Top t (top_keys format) ≡ Ok n → known_only places.Top u (top_keys newest_format) ≡ Ok n
  known_after format n e =
      let test = λ (key : List ℕ). not (is_one_of (top_keys newest_format) key) in
      let before : filter (λ key. not (is_one_of (top_keys format) key)) (keys_of t) ≡ [] = all_known places.Top (filter (λ key. not (is_one_of (top_keys format) key)) (keys_of t)) n e in
      let after : filter test (keys_of t) ≡ [] = fewer (λ key. not (is_one_of (top_keys format) key)) test (keys_of t) (newer format) before in
      let keys : filter test (keys_of u) ≡ [] =
      ap (filter test) (keys_changed (codes "call") (chosen_calls kept numbers) formatted) ∙ (keys_with test (codes "format") (integer (pos newest_format)) t refl ∙ after) in
      rw keys (all_known_is places.Top (filter (λ key. not (is_one_of (top_keys format) key)) (keys_of t)) n e)

  -- ---- what the other keys are read as

  sizes_same : sizes_at places.Top u ≡ sizes_at places.Top t
  unfolding sizes_at
  sizes_same =
      rw (
        other_member (codes "memory_bits") refl refl,
        other_member (codes "root_radix") refl refl,
        other_member (codes "threads") refl refl,
        other_member (codes "endpoints") refl refl,
      )

  optional_same : {A : Type 0} (k : List ℕ) (default : A) (kind : Data → Result A Wrong) → get_member k u ≡ get_member k t → optional places.Top u k default kind ≡ optional places.Top t k default kind
  optional_same k default kind e = ap (λ o. at_key places.Top k (given_or default kind o)) e

  pub names_same : (p : ProfileName) → names_of p u ≡ names_of p t
  names_same p = optional_same (codes "names") [] (names p) (other_member (codes "names") refl refl)

  -- ---- the calls

  none_picked : {X : Type 0} (f : Bool → X → X) (n : ℕ) → pick f kept [] n ≡ []
  none_picked f zero = refl
  none_picked f (suc n) = refl

  none_chosen : {X : Type 0} (f : Bool → X → X) (l : List ℕ) → flat_map (pick f kept []) l ≡ []
  none_chosen f [] = refl
  none_chosen {X} f (n ∷ l) = flat_map-cons (pick f kept []) n l ∙ (ap (λ (r : List X). r ++ flat_map (pick f kept []) l) (none_picked f n) ∙ none_chosen f l)

  abbrev chosen_tables : List Members → List Members
  chosen_tables call = flat_map (pick table_as kept call) numbers

  abbrev pub chosen_calls_of : List CallView → List CallView
  chosen_calls_of calls = flat_map (pick view_as kept calls) numbers

  AreSorted : List Members → Type 0
  AreSorted call = Each (λ x. members_are_sorted x ≡ true) call

  abbrev call_tables : Members → Result (List Members) Fault
  call_tables x = optional places.Top x (codes "call") [] (tables 0 max_calls)

  tables_after : (call : List Members) → call_tables t ≡ Ok call → length (chosen_tables call) ≤ max_calls → call_tables u ≡ Ok (chosen_tables call)
  tables_after call e le = rw call_member (at (get_member (codes "call") t) e)
    where
      at : (o : Option Data) → at_key places.Top (codes "call") (given_or [] (tables 0 max_calls) o) ≡ Ok call
          → at_key places.Top (codes "call") (given_or [] (tables 0 max_calls) (option_map (chosen_calls kept numbers) o)) ≡ Ok (chosen_tables call)
      at None e =
          let none : [] ≡ call = cc in
          ap Ok (sym (none_chosen table_as numbers) ∙ ap (λ l. flat_map (pick table_as kept l) numbers) none)
      at (Some d) e = rw (tables_chosen max_calls kept numbers d call (at_key_gives places.Top (codes "call") (tables 0 max_calls d) call e) le) refl

  tables_are : (call : List Members) → members_are_sorted t ≡ true → call_tables t ≡ Ok call → (length call ≤ max_calls) × AreSorted call
  unfolding AreSorted
  tables_are call sorted e = at (get_member (codes "call") t) refl e
    where
      at : (o : Option Data) → get_member (codes "call") t ≡ o → at_key places.Top (codes "call") (given_or [] (tables 0 max_calls) o) ≡ Ok call → (length call ≤ max_calls) × Each (λ x. members_are_sorted x ≡ true) call
      at None is e =
          let none : [] ≡ call = cc in
          subst (λ l. (length l ≤ max_calls) × Each (λ x. members_are_sorted x ≡ true) l) none (omega arith, tt)
      at (Some d) is e =
          let read = at_key_gives places.Top (codes "call") (tables 0 max_calls d) call e in
          (tables_within max_calls d call read, tables_sorted max_calls d call (member_sorted (codes "call") t d sorted is) read)

  calls_read : (p : ProfileName) (ns : Names) (clients : ℕ) (call : List Members) (calls : List CallView) → AreSorted call → each (call_at p ns clients) 1 call ≡ Ok calls
      → each (call_at p ns clients) 1 (chosen_tables call) ≡ Ok (chosen_calls_of calls)
  unfolding AreSorted
  calls_read p ns clients call calls sorted e =
      pick_read (call_at p ns clients) (λ x. members_are_sorted x ≡ true) table_as view_as (λ keeps x m l y. call_read p ns clients keeps x m l y) kept 1 call calls sorted e numbers 1

  -- ---- the set-up

  -- a set-up that has the calls that are chosen, and all else of another
  pub record HasChosen (s made : SetupView) : Type 0 where
    pub profile : made.profile ≡ s.profile
    pub plan : made.plan ≡ s.plan
    pub clients : made.clients ≡ s.clients
    pub limit : HasLimitOf s made
    pub calls : made.calls ≡ chosen_calls_of s.calls

  limit_cases : (limit n m : ℕ) → (limit_of limit m ≡ limit_of limit n) ⊎ ((limit_of limit n ≡ max 1 n) × (limit_of limit m ≡ max 1 m))
  limit_cases limit n m = elim (cases_Bool (limit == 0)) [ inl none ↦ inr (rw none refl, rw none refl) | inr given ↦ inl (rw given refl) ]

  with_chosen : (p : ProfileName) (ns : Names) (sizes : Sizes) (clients limit : ℕ) (untyped call : List Members) (s : SetupView) → AreSorted call → setup_with p ns sizes clients limit untyped call ≡ Ok s
      → (made : SetupView) × (setup_with p ns sizes clients limit untyped (chosen_tables call) ≡ Ok made) × HasChosen s made
  unfolding setup_with
  with_chosen p ns sizes clients limit untyped call s sorted e =
      let (untypeds, e1, r1) = parts (each (untyped_at p) 1 untyped) _ s e in
      let (plan, e2, r2) = parts (laid_out p (planned_with sizes untypeds)) _ s r1 in
      let (calls, e3, r3) = parts (each (call_at p ns clients) 1 call) _ s r2 in
      let old : SetupView = record { profile = p; plan = plan; clients = clients; limit = limit_of limit (length calls); calls = calls } in
      let new : SetupView = record { profile = p; plan = plan; clients = clients; limit = limit_of limit (length (chosen_calls_of calls)); calls = chosen_calls_of calls } in
      let whole : old ≡ s = cc in
      let has : HasChosen old new = record { profile = refl; plan = refl; clients = refl; limit = limit_cases limit (length calls) (length (chosen_calls_of calls)); calls = refl } in
      (new, together _ _ untypeds new e1 (together _ _ plan new e2 (together _ _ (chosen_calls_of calls) new (calls_read p ns clients call calls sorted e3) refl)), subst (λ v. HasChosen v new) whole has)

  -- as many calls are read as there are tables
  with_as_many : (p : ProfileName) (ns : Names) (sizes : Sizes) (clients limit : ℕ) (untyped call : List Members) (s : SetupView) → setup_with p ns sizes clients limit untyped call ≡ Ok s → length s.calls ≡ length call
  unfolding setup_with
  with_as_many p ns sizes clients limit untyped call s e =
      let (untypeds, e1, r1) = parts (each (untyped_at p) 1 untyped) _ s e in
      let (plan, e2, r2) = parts (laid_out p (planned_with sizes untypeds)) _ s r1 in
      let (calls, e3, r3) = parts (each (call_at p ns clients) 1 call) _ s r2 in
      let made : SetupView = record { profile = p; plan = plan; clients = clients; limit = limit_of limit (length calls); calls = calls } in
      let whole : made ≡ s = cc in
      ap (λ (v : SetupView). length v.calls) {y = made} (sym whole) ∙ each_read (call_at p ns clients) (λ _. Unit {0}) 1 call calls e3

  -- the tables that are chosen are as many as the calls
  as_many_chosen : (call : List Members) (calls : List CallView) → length calls ≡ length call → length (chosen_tables call) ≡ length (chosen_calls_of calls)
  as_many_chosen call calls e = by numbers
    where
      one : (b : Bool) (n : ℕ) (xs : List Members) (ys : List CallView) → length ys ≡ length xs → length (picked table_as b (numbered xs n)) ≡ length (picked view_as b (numbered ys n))
      one b zero xs ys e = refl
      one b (suc n) [] [] e = refl
      one b (suc n) [] (y ∷ ys) e = absurd (omega (arith, e))
      one b (suc n) (x ∷ xs) [] e = absurd (omega (arith, e))
      one b (suc zero) (x ∷ xs) (y ∷ ys) e = refl
      one b (suc (suc n)) (x ∷ xs) (y ∷ ys) e = one b (suc n) xs ys (omega (arith, e))

      by : (l : List ℕ) → length (flat_map (pick table_as kept call) l) ≡ length (flat_map (pick view_as kept calls) l)
      by [] = refl
      by (n ∷ l) =
          ap length (flat_map-cons (pick table_as kept call) n l)
          ∙ (length-append (pick table_as kept call n) (flat_map (pick table_as kept call) l)
          ∙ (ap (λ k. k + length (flat_map (pick table_as kept call) l)) (one (n == kept) n call calls e)
          ∙ (ap (λ k. length (pick view_as kept calls n) + k) (by l)
          ∙ (sym (length-append (pick view_as kept calls n) (flat_map (pick view_as kept calls) l)) ∙ ap length (sym (flat_map-cons (pick view_as kept calls) n l))))))

  at_profile : (p : ProfileName) (s : SetupView) → members_are_sorted t ≡ true → setup_at p t ≡ Ok s → length (chosen_calls_of s.calls) ≤ length s.calls
      → (made : SetupView) × (setup_at p u ≡ Ok made) × HasChosen s made
  unfolding setup_at
  at_profile p s sorted e bound =
      let (sizes, e1, r1) = parts (sizes_at places.Top t) _ s e in
      let (clients, e2, r2) = parts (optional places.Top t (codes "clients") 1 (number 1 max_clients)) _ s r1 in
      let (limit, e3, r3) = parts (optional places.Top t (codes "limit") 0 (number 1 max_history_limit)) _ s r2 in
      let (ns, e4, r4) = parts (names_of p t) _ s r3 in
      let (untyped, e5, r5) = parts (optional places.Top t (codes "untyped") [] (tables 0 max_boot_untypeds)) _ s r4 in
      let (call, e6, r6) = parts (call_tables t) _ s r5 in
      let are = tables_are call sorted e6 in
      let most = are.0 in
      let as_many = with_as_many p ns sizes clients limit untyped call s r6 in
      let chosen_many = as_many_chosen call s.calls as_many in
      let (made, read, has) = with_chosen p ns sizes clients limit untyped call s are.1 r6 in (
        made,
        together _ _ sizes made (sizes_same ∙ e1)
            (together _ _ clients made (optional_same (codes "clients") 1 _ (other_member (codes "clients") refl refl) ∙ e2)
            (together _ _ limit made (optional_same (codes "limit") 0 _ (other_member (codes "limit") refl refl) ∙ e3)
            (together _ _ ns made (names_same p ∙ e4)
            (together _ _ untyped made (optional_same (codes "untyped") [] _ (other_member (codes "untyped") refl refl) ∙ e5)
            (together _ _ (chosen_tables call) made (tables_after call e6 (omega (arith, most, as_many, chosen_many, bound))) read))))),
        has,
      )

  -- the table with the calls that are chosen is read as the set-up that has them
  pub chosen_setup : (s : SetupView) → members_are_sorted t ≡ true → setup_of t ≡ Ok s → length (chosen_calls_of s.calls) ≤ length s.calls
      → (made : SetupView) × (setup_of u ≡ Ok made) × HasChosen s made
  unfolding setup_up_to
  chosen_setup s sorted e bound =
      let (format, e1, r1) = parts (required places.Top t (codes "format") (number first_format newest_format)) _ s e in
      let (known, e2, r2) = parts (known_only places.Top t (top_keys format)) _ s r1 in
      let (p, e3, r3) = parts (optional places.Top t (codes "profile") Wide profile) _ s r2 in
      let (made, read, has) = at_profile p s sorted r3 bound in (
        made,
        together _ _ newest_format made (ap (λ o. at_key places.Top (codes "format") (needed (number first_format newest_format) o)) format_member)
            (together _ _ known made (known_after format known e2)
            (together _ _ p made (optional_same (codes "profile") Wide _ (other_member (codes "profile") refl refl) ∙ e3) read)),
        has,
      )

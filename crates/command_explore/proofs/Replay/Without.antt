-- Members of a table without a key.
use Rattle.std.proofs.Common.{◌≡◌, ℕ, ◌&&◌, Bool, true, false, List, [], Some, None, Ordering, Less, Equal, Greater, nat_cmp, refl, sym, ap, ◌∙◌, inl, inr}
use Rattle.std.proofs.lemmas.Bool.{cases_Bool, false≢true}
use Rattle.std.proofs.lemmas.Cmp.{nat_list_cmp_total}
use Rattle.std.specs.Cmp.Lexicographic.{slice_cmp}
use Rattle.std.specs.List.{filter}
use Rattle.std.specs.Ordering.{match_ordering, is_lt}
use Rattle.toml.specs.Data.{Members, no_members, member, get_member, same_key, is_before, is_sorted, members_are_sorted}
use Rattle.setup_values.specs.Keys.{keys_of}
use Rattle.setup_migrate.proofs.Parts.{texts_tied, past}
use Rattle.setup_migrate.proofs.Law.Setups.{cons_none}
use Rattle.command_explore.specs.Witnesses.{table_without}

pub both : (a b : Bool) → (a && b) ≡ true → (a ≡ true) × (b ≡ true)
both true b e = (refl, e)
both false b e = cc

pub get_without_other : (j k : List ℕ) (ms : Members) → same_key j k ≡ false → get_member j (table_without k ms) ≡ get_member j ms
get_without_other j k no_members apart = refl
get_without_other j k (member l d ms) apart =
    elim (cases_Bool (same_key k l)) [
      | inl same ↦
          let away : same_key j l ≡ false = rw (← texts_tied k l same) apart in
          simp same (sym (past (slice_cmp nat_cmp j l) (get_member j ms) (Some d) away))
      | inr other ↦ simp other (ap (λ rest. match_ordering (slice_cmp nat_cmp j l) rest (Some d) rest) (get_without_other j k ms apart))
    ]

less : (o : Ordering) → is_lt o ≡ true → o ≡ Less
less Less e = refl
less Equal e = absurd (false≢true e)
less Greater e = absurd (false≢true e)

before_more : (k l : List ℕ) (ms : Members) → slice_cmp nat_cmp k l ≡ Less → is_before l ms ≡ true → is_before k ms ≡ true
before_more k l no_members e h = refl
before_more k l (member j d ms) e h = ap is_lt (nat_list_cmp_total.trans k l j e (less (slice_cmp nat_cmp l j) h))

-- in a table whose keys ascend a key that comes before the first one is not there
before_all : (k : List ℕ) (ms : Members) → members_are_sorted ms ≡ true → is_before k ms ≡ true → get_member k ms ≡ None
before_all k no_members sorted before = refl
before_all k (member l d ms) sorted before =
    let (front, more) = both (is_before l ms && is_sorted d) (members_are_sorted ms) sorted in
    let (next, here) = both (is_before l ms) (is_sorted d) front in
    let lt : slice_cmp nat_cmp k l ≡ Less = less (slice_cmp nat_cmp k l) before in
    ap (λ o. match_ordering o (get_member k ms) (Some d) (get_member k ms)) lt ∙ before_all k ms more (before_more k l ms lt next)

pub get_without : (k : List ℕ) (ms : Members) → members_are_sorted ms ≡ true → get_member k (table_without k ms) ≡ None
get_without k no_members sorted = refl
get_without k (member l d ms) sorted =
    let (front, more) = both (is_before l ms && is_sorted d) (members_are_sorted ms) sorted in
    let (next, here) = both (is_before l ms) (is_sorted d) front in
    elim (cases_Bool (same_key k l)) [
      | inl same ↦ simp same (ap (λ j. get_member j ms) (texts_tied k l same) ∙ before_all l ms more next)
      | inr other ↦ simp other (past (slice_cmp nat_cmp k l) (get_member k (table_without k ms)) (Some d) other ∙ get_without k ms more)
    ]

pub keys_without : (test : List ℕ → Bool) (k : List ℕ) (ms : Members) → filter test (keys_of ms) ≡ [] → filter test (keys_of (table_without k ms)) ≡ []
keys_without test k no_members e = refl
keys_without test k (member l d ms) e =
    elim (cases_Bool (test l)) [
      | inl kept ↦ absurd (cons_none (rw kept at e))
      | inr left ↦ (
          let rest : filter test (keys_of ms) ≡ [] = rw left at e in
          elim (cases_Bool (same_key k l)) [ inl same ↦ simp same rest | inr other ↦ simp (other, left) (keys_without test k ms rest) ])
    ]

-- What the questions before a place have come to, and one more.
use Rattle.std.proofs.Common.{◌≡◌, ◌⊎◌, ◌&&◌, ℕ, ◌<◌, ◌≤◌, ◌+◌, Bool, true, false, List, length, Option, Some, None, inl, inr, refl, sym, ◌∙◌, subst, arith}
use Rattle.std.specs.Prelude.{slice_get}
use Rattle.std.proofs.lemmas.Bool.{cases_eq}
use Rattle.std.proofs.lemmas.Option.{slice_get_within}
use Rattle.cap_core.specs.declared.profile.ProfileName.{ProfileName}
use Rattle.kernel_abstract.specs.Shown.{Shown}
use Rattle.query_parts.specs.declared.listed.PartUse.{PartUse}
use Rattle.setup_format.specs.Views.{SetupView}
use Rattle.command_how_witness.specs.Witness.{Asking}
use Rattle.command_how_witness.specs.Excluded.{IsExcluded, IsOutsideFlow}
use Rattle.command_how.specs.declared.line.NoWitness.{NoWitness}
use Rattle.command_how.specs.declared.line.NoWitness.TheVariants.{Excluded, ExcludedByFlow, NotFound, NotFoundOf}
use Rattle.command_how.specs.How.{IsWithout}
use Rattle.command_how.specs.Line.{says_excluded}
use Rattle.command_policy_breaches.specs.declared.held.Home.{Home}
use Rattle.command_policy_breaches.specs.declared.held.Layout.{Layout}
use Rattle.setup_policy.specs.declared.policy.Member.{Member}
use Rattle.setup_policy.specs.declared.policy.Policy.{Policy}
use Rattle.command_policy_text.specs.declared.told.Told.{Told}
use Rattle.command_policy_how.specs.Question.{IsAbout, everyone, is_asked}
use Rattle.command_policy_how.specs.Asked.{AreExcluded, AreExcludedFrom, HasNoPairFrom, HasPairFrom, HasWitness, HasWitnessFrom, IsAskedFrom, IsAskedOf, IsExcludedOf, IsOfMost}
use Rattle.command_policy_how.specs.Private.{AreOfMost, say_excluded, without}

-- a question of these threads
abbrev pub of_two : Asking → ℕ → ℕ → Asking
of_two q from to = record { what = q.what; from = from; to = to; by = q.by; badge = q.badge; memory = q.memory; without = q.without }

excluded_of : (p : ProfileName) (q : Asking) (most : ℕ) (uses : List PartUse) (v : Shown) (answer : NoWitness) →
    IsWithout p q most uses v answer → says_excluded answer ≡ true → IsExcluded p q uses v ⊎ IsOutsideFlow p q v q.what
excluded_of p q most uses v Excluded is says = inl is.0
excluded_of p q most uses v ExcludedByFlow is says = inr is.1
excluded_of p q most uses v NotFound is says = absurd (let z : false ≡ true = says in cc)
excluded_of p q most uses v (NotFoundOf copies) is says = absurd (let z : false ≡ true = says in cc)

-- what holds of those before a place and of the one there holds of those before the next
pub each_before : {A : Type 0} (P : A → Type 0) (all : List A) (n : ℕ) (now : A) → slice_get all n ≡ Some now → P now →
    ((k : ℕ) → k < n → (m : A) → slice_get all k ≡ Some m → P m) →
    (k : ℕ) → k < n + 1 → (m : A) → slice_get all k ≡ Some m → P m
each_before P all n now is holds before k low m e = elim (cases_eq k n) [
  | inr ne ↦ before k (omega arith) m e
  | inl here ↦ (let e' : slice_get all n ≡ Some m = rw here at e in
      let same : now ≡ m = cc in
      subst P same holds)
]

-- where both are said to be excluded, each is
both_say : (a b : Bool) → (a && b) ≡ true → (a ≡ true) × (b ≡ true)
both_say true true e = (refl, refl)
both_say true false e = absurd (let z : false ≡ true = e in cc)
both_say false b e = absurd (let z : false ≡ true = e in cc)

pub contrary : {A : Type 0} (b : Bool) → b ≡ false → b ≡ true → A
contrary b is_false is_true = absurd (let z : false ≡ true = sym is_false ∙ is_true in cc)

none_low : {A : Type 0} (k : ℕ) → k < 0 → A
none_low k low = absurd (omega (arith, low))

module _ (p : ProfileName) (c : Policy) (l : Layout) (hs : List Home) (told : Told) (most : ℕ) (v : Shown) where
  -- ---- to the threads before a place

  pub record SoFarTo (from : Member) (all : List Member) (n : ℕ) (answer : Option NoWitness) : Type 0 where
    pub pair : (a : NoWitness) → answer ≡ Some a → HasPairFrom l hs told from all
    pub none : answer ≡ None → (k : ℕ) → k < n → (to : Member) → slice_get all k ≡ Some to → is_asked l hs told from to ≡ false
    pub copies : AreOfMost most answer
    pub excluded : say_excluded answer ≡ true → (k : ℕ) → k < n → (to : Member) → slice_get all k ≡ Some to → is_asked l hs told from to ≡ true
        → IsExcludedOf p c l told v from.thread to.thread

  pub none_to : (from : Member) (all : List Member) → SoFarTo from all 0 None
  none_to from all = record {
    pair = λ a is. absurd cc;
    none = λ is k low. none_low k low;
    copies = tt;
    excluded = λ says k low. none_low k low;
  }

  -- a thread more to which it is not asked
  pub to_passed : (from : Member) (all : List Member) (n : ℕ) (now : Member) (answer : Option NoWitness) → slice_get all n ≡ Some now
      → is_asked l hs told from now ≡ false → SoFarTo from all n answer → SoFarTo from all (n + 1) answer
  to_passed from all n now answer at not_asked so_far = record {
    pair = so_far.pair;
    none = λ is. each_before (λ (to : Member). is_asked l hs told from to ≡ false) all n now at not_asked (so_far.none is);
    copies = so_far.copies;
    excluded = λ says. each_before (λ (to : Member). is_asked l hs told from to ≡ true → IsExcludedOf p c l told v from.thread to.thread) all n now at
        (contrary (is_asked l hs told from now) not_asked) (so_far.excluded says);
  }

  of_most : (q : Asking) (uses : List PartUse) (answer : NoWitness) → IsWithout p q most uses v answer → IsOfMost most answer
  of_most q uses Excluded is = tt
  of_most q uses ExcludedByFlow is = tt
  of_most q uses NotFound is = tt
  of_most q uses (NotFoundOf copies) is = is.1

  excluded_two : (base : Asking) (from to : ℕ) (other : NoWitness) → IsAbout c l told base → IsWithout p (of_two base from to) most l.uses.items v other
      → says_excluded other ≡ true → IsExcludedOf p c l told v from to
  excluded_two base from to other about is says = record {
    question = of_two base from to;
    is = record {
      about = record { what = about.what; by = about.by; badge = about.badge; memory = about.memory; without = about.without };
      from_is = refl;
      to_is = refl;
    };
    excluded = excluded_of p (of_two base from to) most l.uses.items v other is says;
  }

  -- a thread more to which it is asked
  pub to_asked : (base : Asking) (from : Member) (all : List Member) (n : ℕ) (now : Member) (answer : Option NoWitness) (other both : NoWitness)
      → slice_get all n ≡ Some now → is_asked l hs told from now ≡ true → IsAbout c l told base
      → says_excluded both ≡ (say_excluded answer && says_excluded other) → ((m : ℕ) → AreOfMost m answer → IsOfMost m other → IsOfMost m both)
      → IsWithout p (of_two base from.thread now.thread) most l.uses.items v other → SoFarTo from all n answer → SoFarTo from all (n + 1) (Some both)
  to_asked base from all n now answer other both at asked about says_both most_both is so_far = record {
    pair = λ a same. record { place = n; to = now; to_at = at; asked = asked };
    none = λ same. absurd cc;
    copies = most_both most so_far.copies (of_most (of_two base from.thread now.thread) l.uses.items other is);
    excluded = λ says.
        let each = both_say (say_excluded answer) (says_excluded other) (sym says_both ∙ says) in
        each_before (λ (to : Member). is_asked l hs told from to ≡ true → IsExcludedOf p c l told v from.thread to.thread) all n now at
        (λ a. excluded_two base from.thread now.thread other about is each.1) (so_far.excluded each.0);
  }

  -- to all of them
  pub all_to : (setup : SetupView) (made : ℕ) (from : Member) (all : List Member) (n : ℕ) (answer : Option NoWitness) → length all ≤ n
      → SoFarTo from all n answer → IsAskedFrom p c l hs told most v setup made from all (without answer)
  all_to setup made from all n None within so_far = λ place to at. so_far.none refl place (inside all n place to within at) to at where
    inside : (ms : List Member) (n place : ℕ) (to : Member) → length ms ≤ n → slice_get ms place ≡ Some to → place < n
    inside ms n place to within at = let low = slice_get_within ms place to at in omega (arith, low, within)
  all_to setup made from all n (Some answer) within so_far = (
    so_far.pair answer refl,
    (so_far.copies, λ says place to at asked. so_far.excluded says place (let low = slice_get_within all place to at in omega (arith, low, within)) to at asked),
  )

  -- ---- from the threads before a place

  pub record HasPairAmong (all : List Member) : Type 0 where
    pub place : ℕ
    pub from : Member
    pub from_at : slice_get all place ≡ Some from
    pub pair : HasPairFrom l hs told from all

  pub record SoFarFrom (all : List Member) (n : ℕ) (answer : Option NoWitness) : Type 0 where
    pub pair : (a : NoWitness) → answer ≡ Some a → HasPairAmong all
    pub none : answer ≡ None → (k : ℕ) → k < n → (from : Member) → slice_get all k ≡ Some from → HasNoPairFrom l hs told from all
    pub copies : AreOfMost most answer
    pub excluded : say_excluded answer ≡ true → (k : ℕ) → k < n → (from : Member) → slice_get all k ≡ Some from → AreExcludedFrom p c l hs told v from all

  pub none_from : (all : List Member) → SoFarFrom all 0 None
  none_from all = record {
    pair = λ a is. absurd cc;
    none = λ is k low. none_low k low;
    copies = tt;
    excluded = λ says k low. none_low k low;
  }

  -- a thread more from which it is not asked
  pub from_passed : (all : List Member) (n : ℕ) (now : Member) (answer : Option NoWitness) → slice_get all n ≡ Some now
      → HasNoPairFrom l hs told now all → SoFarFrom all n answer → SoFarFrom all (n + 1) answer
  from_passed all n now answer at no_pair so_far = record {
    pair = so_far.pair;
    none = λ is. each_before (λ (from : Member). HasNoPairFrom l hs told from all) all n now at no_pair (so_far.none is);
    copies = so_far.copies;
    excluded = λ says. each_before (λ (from : Member). AreExcludedFrom p c l hs told v from all) all n now at
        (λ place to to_at asked. contrary (is_asked l hs told now to) (no_pair place to to_at) asked) (so_far.excluded says);
  }

  -- a thread more from which it is asked
  pub from_asked : (all : List Member) (n : ℕ) (now : Member) (answer : Option NoWitness) (other both : NoWitness)
      → slice_get all n ≡ Some now
      → says_excluded both ≡ (say_excluded answer && says_excluded other) → ((m : ℕ) → AreOfMost m answer → IsOfMost m other → IsOfMost m both)
      → (HasPairFrom l hs told now all × (IsOfMost most other × (says_excluded other ≡ true → AreExcludedFrom p c l hs told v now all)))
      → SoFarFrom all n answer → SoFarFrom all (n + 1) (Some both)
  from_asked all n now answer other both at says_both most_both is so_far = record {
    pair = λ a same. record { place = n; from = now; from_at = at; pair = is.0 };
    none = λ same. absurd cc;
    copies = most_both most so_far.copies is.1.0;
    excluded = λ says.
        let each = both_say (say_excluded answer) (says_excluded other) (sym says_both ∙ says) in
        each_before (λ (from : Member). AreExcludedFrom p c l hs told v from all) all n now at (is.1.1 each.1) (so_far.excluded each.0);
  }

  -- from all of them, who are everyone
  from_everyone : (setup : SetupView) (made : ℕ) (n : ℕ) (answer : Option NoWitness) → length (everyone c) ≤ n
      → SoFarFrom (everyone c) n answer → IsAskedOf p c l hs told most v setup made (without answer)
  from_everyone setup made n None within so_far = λ place from at. so_far.none refl place (inside (everyone c) n place from within at) from at where
    inside : (ms : List Member) (n place : ℕ) (to : Member) → length ms ≤ n → slice_get ms place ≡ Some to → place < n
    inside ms n place to within at = let low = slice_get_within ms place to at in omega (arith, low, within)
  from_everyone setup made n (Some answer) within so_far =
      let pair = so_far.pair answer refl in (
        record { place = pair.place; from = pair.from; from_at = pair.from_at; pair = pair.pair },
        (so_far.copies, λ says place from at. so_far.excluded says place (let low = slice_get_within (everyone c) place from at in omega (arith, low, within)) from at),
      )

  pub all_from : (setup : SetupView) (made : ℕ) (all : List Member) (n : ℕ) (answer : Option NoWitness) → all ≡ everyone c → length all ≤ n
      → SoFarFrom all n answer → IsAskedOf p c l hs told most v setup made (without answer)
  all_from setup made all n answer same =
      subst (λ (ms : List Member). length ms ≤ n → SoFarFrom ms n answer → IsAskedOf p c l hs told most v setup made (without answer)) (sym same)
      (from_everyone setup made n answer)

-- those of whom it is asked are everyone
pub witness_of : (p : ProfileName) (c : Policy) (l : Layout) (hs : List Home) (told : Told) (setup : SetupView) (made : ℕ) (text : List ℕ) (all : List Member)
    (n : ℕ) (now : Member) → all ≡ everyone c → slice_get all n ≡ Some now → HasWitnessFrom p c l hs told now all setup made text → HasWitness p c l hs told setup made text
witness_of p c l hs told setup made text all n now same at shown = record {
  place = n;
  from = now;
  from_at = subst (λ (ms : List Member). slice_get ms n ≡ Some now) same at;
  shown = subst (λ (ms : List Member). HasWitnessFrom p c l hs told now ms setup made text) same shown;
}

-- Where the test says so, a part is still, and two threads lie in two such parts.
use Rattle.std.proofs.Common.{◌≡◌, ◌≢◌, inl, inr, ℕ, ◌+◌, Bool, true, false, not, cond, ◌==◌, ◌&&◌, ◌||◌, List, [], ◌∷◌, Option, Some, None, option_map, filter, refl, sym, ap, subst, ◌∙◌}
use Rattle.std.specs.Prelude.{is_some}
use Rattle.std.specs.List.{list_any, list_all, Contains}
use Rattle.std.proofs.lemmas.Bool.{false≢true, eqb-true}
use Rattle.cap_core.specs.declared.profile.ProfileName.{ProfileName}
use Rattle.cap_core.specs.declared.capability.Cap.{Cap}
use Rattle.cap_core.specs.declared.capability.Cap.TheVariants.{Null, Untyped, Endpoint, CNode, Tcb}
use Rattle.cap_core.specs.declared.capability.Guard.{Guard}
use Rattle.cap_core.specs.Numbers.{word_bits}
use Rattle.kernel_forest.specs.Entries.{cap_at}
use Rattle.kernel_delete.specs.Members.{In}
use Rattle.kernel_delete.proofs.Members.{both_true, any_of}
use Rattle.kernel_delete.proofs.Clearable.{in_contains}
use Rattle.kernel_abstract.specs.declared.call.ThreadState.{ThreadState}
use Rattle.kernel_abstract.specs.declared.call.ThreadState.TheVariants.{Ready, Inactive, Sending, Receiving}
use Rattle.kernel_abstract.specs.Shown.{Shown, ThreadView, threads_of, state_at}
use Rattle.kernel_abstract.specs.State.{State, shown, thread_view}
use Rattle.kernel_abstract.proofs.Lists.Tables.{get_table}
use Rattle.query_parts.specs.declared.listed.PartMemory.{PartMemory}
use Rattle.query_parts.specs.declared.listed.PartUse.{PartUse}
use Rattle.query_parts.specs.Listed.{part_at, parts_listed}
use Rattle.setup_report.specs.State.{is_in, threads}
use Rattle.command_parts.specs.Threads.{callers}
use Rattle.command_parts.specs.Takes.{part_slots}
use Rattle.command_parts.specs.Messages.{passes_alone}
use Rattle.command_parts.proofs.Alone.{alone}
use Rattle.command_never.specs.Still.{IsReadyToPass, IsStill, LieInTwoStillOf, has_whole_words, is_ready, is_ready_to_pass, is_ready_in, is_still, is_caller, are_still_callers}
use Rattle.command_never.proofs.Kept.{part_is}
use Rattle.command_never.proofs.Waiting.{live_told}

-- ---- a thread is ready to pass

record HasWholeWords (p : ProfileName) (c : Cap) : Type 0 where
  base : ℕ
  radix : ℕ
  guard : Guard
  root : c ≡ CNode base radix guard
  whole : guard.size + radix ≡ word_bits p

whole_words : (p : ProfileName) (c : Cap) → has_whole_words p c ≡ true → HasWholeWords p c
whole_words p Null h = absurd (false≢true h)
whole_words p (Untyped base bits free) h = absurd (false≢true h)
whole_words p (Endpoint base badge rights) h = absurd (false≢true h)
whole_words p (CNode base radix guard) h = record {
  base = base;
  radix = radix;
  guard = guard;
  root = refl;
  whole = eqb-true (guard.size + radix) (word_bits p) h;
}
whole_words p (Tcb base) h = absurd (false≢true h)

ready_state : (s : Option ThreadState) → is_ready s ≡ true → s ≡ Some Ready
ready_state None h = absurd (false≢true h)
ready_state (Some Ready) h = refl
ready_state (Some Inactive) h = absurd (false≢true h)
ready_state (Some (Sending endpoint)) h = absurd (false≢true h)
ready_state (Some (Receiving endpoint)) h = absurd (false≢true h)

ready_to_pass : (p : ProfileName) (v : Shown) (t : ℕ) → is_ready_to_pass p v t ≡ true → IsReadyToPass p v t
ready_to_pass p v t h =
    let both = both_true (is_ready (state_at v t)) (has_whole_words p (cap_at v.derivations t)) h in
    let words = whole_words p (cap_at v.derivations t) both.1 in
    record {
      base = words.base;
      radix = words.radix;
      guard = words.guard;
      ready = ready_state (state_at v t) both.0;
      root = words.root;
      whole = words.whole;
    }

-- ---- a part is still

some_live : {X Y : Type 0} (f : X → Y) (b : Bool) (x : X) → is_some (option_map f (cond b (Some x) None)) ≡ true → b ≡ true
some_live f true x h = refl
some_live f false x h = absurd (false≢true h)

state_live : (A : State) (t : ℕ) → is_some (state_at (shown A) t) ≡ true → list_any (λ k. t == k) (threads_of A.derivations) ≡ true
unfolding shown
state_live A t h =
    some_live (λ (x : ThreadView). x.state) (list_any (λ k. t == k) (threads_of A.derivations)) (thread_view A t)
    (sym (ap (λ (o : Option ThreadView). is_some (option_map (λ (x : ThreadView). x.state) o)) (get_table (threads_of A.derivations) (thread_view A) t)) ∙ h)

first_or_more : (f : ℕ → Bool) (t a : ℕ) (l : List ℕ) (b : Bool) → (t == a) ≡ b → f a ≡ true → (is_in t l ≡ true → f t ≡ true) → is_in t (a ∷ l) ≡ true → f t ≡ true
first_or_more f t a l true is here more k = ap f (eqb-true t a is) ∙ here
first_or_more f t a l false is here more k = more (sym (ap (λ b. b || is_in t l) is) ∙ k)

all_at : (f : ℕ → Bool) (l : List ℕ) (t : ℕ) → list_all f l ≡ true → is_in t l ≡ true → f t ≡ true
all_at f [] t h k = absurd (false≢true k)
all_at f (a ∷ l) t h k =
    let both = both_true (f a) (list_all f l) h in
    first_or_more f t a l (t == a) refl both.0 (all_at f l t both.1) k

module _ (p : ProfileName) (memory : List PartMemory) (A : State) where
  ready_of : (i t : ℕ) → is_ready_in p memory (shown A) i t ≡ true → part_at memory t ≡ Some i → is_ready_to_pass p (shown A) t ≡ true
  ready_of i t h at = sym (ap (λ b. not b || is_ready_to_pass p (shown A) t) (part_is (part_at memory t) i at)) ∙ h

  still_part : (uses : List PartUse) (i : ℕ) → is_still p memory (shown A) i ≡ true → IsStill p (parts_listed memory uses) i (shown A)
  still_part uses i h =
      let both = both_true (passes_alone p (part_slots memory (shown A).derivations) i) (list_all (is_ready_in p memory (shown A) i) (threads p (shown A))) h in
      record {
        passes = alone p memory (shown A).derivations i both.0;
        threads = λ t at live.
            ready_to_pass p (shown A) t
            (ready_of i t (all_at (is_ready_in p memory (shown A) i) (threads p (shown A)) t both.1 (live_told p A t (state_live A t live))) at);
      }

-- ---- two threads lie in two such parts

keep_first : (a x : ℕ) (rest : List ℕ) (b : Bool) → b ≡ true → x ≡ a → In x (cond b (a ∷ rest) rest)
keep_first a x rest true h same = inl same
keep_first a x rest false h same = absurd (false≢true h)

keep_rest : (a x : ℕ) (rest : List ℕ) (b : Bool) → In x rest → In x (cond b (a ∷ rest) rest)
keep_rest a x rest true m = inr m
keep_rest a x rest false m = m

in_filtered : (f : ℕ → Bool) (l : List ℕ) (x : ℕ) → In x l → f x ≡ true → In x (filter f l)
in_filtered f [] x m h = m
in_filtered f (a ∷ l) x (inl same) h = keep_first a x (filter f l) (f a) (ap f (sym same) ∙ h) same
in_filtered f (a ∷ l) x (inr m) h = keep_rest a x (filter f l) (f a) (in_filtered f l x m h)

a_caller : (p : ProfileName) (v : Shown) (trusted : List ℕ) (t : ℕ) → is_caller (threads p v) trusted t ≡ true → Contains (callers p v trusted) t
a_caller p v trusted t h =
    let both = both_true (is_in t (threads p v)) (not (is_in t trusted)) h in
    let found = any_of (λ a. t == a) (threads p v) both.0 in
    let here : In t (threads p v) = subst (λ n. In n (threads p v)) (sym (eqb-true t found.0 found.1.1)) found.1.0 in
    in_contains (callers p v trusted) t (in_filtered (λ thread. not (is_in thread trusted)) (threads p v) t here both.1)

pub two_still : (p : ProfileName) (trusted : List ℕ) (memory : List PartMemory) (v : Shown) (from to i j : ℕ) → part_at memory from ≡ Some i → part_at memory to ≡ Some j →
    i ≢ j → are_still_callers p trusted memory v from i to j ≡ true → LieInTwoStillOf p trusted memory v from to
two_still p trusted memory v from to i j from_in to_in two are uses A reached is = record {
  i = i;
  j = j;
  two = two;
  from_in = from_in;
  to_in = to_in;
  from_calls = a_caller p v trusted from calls.0;
  to_calls = a_caller p v trusted to calls.1;
  from_still = of i parts.0;
  to_still = of j parts.1;
}
  where
    both : ((is_still p memory v i && is_still p memory v j) ≡ true) × ((is_caller (threads p v) trusted from && is_caller (threads p v) trusted to) ≡ true)
    both = both_true (is_still p memory v i && is_still p memory v j) (is_caller (threads p v) trusted from && is_caller (threads p v) trusted to) are

    parts : (is_still p memory v i ≡ true) × (is_still p memory v j ≡ true)
    parts = both_true (is_still p memory v i) (is_still p memory v j) both.0

    calls : (is_caller (threads p v) trusted from ≡ true) × (is_caller (threads p v) trusted to ≡ true)
    calls = both_true (is_caller (threads p v) trusted from) (is_caller (threads p v) trusted to) both.1

    of : (k : ℕ) → is_still p memory v k ≡ true → IsStill p (parts_listed memory uses) k v
    of k h = subst (IsStill p (parts_listed memory uses) k) (sym is) (still_part p memory A uses k (subst (λ (w : Shown). is_still p memory w k ≡ true) is h))

-- What is found in the list of slots that a thread reaches.
use Rattle.std.proofs.Common.{◌≡◌, ℕ, inl, inr, true, false, not, ◌==◌, ◌||◌, List, refl, sym, ap, subst, ◌∙◌}
use Rattle.std.specs.List.{list_any}
use Rattle.std.proofs.lemmas.Bool.{false≢true, eqb-true}
use Rattle.cap_core.specs.declared.profile.ProfileName.{ProfileName}
use Rattle.cap_core.specs.declared.capability.Cap.{Cap}
use Rattle.cap_core.specs.declared.capability.Cap.TheVariants.{Null, Untyped, Endpoint, CNode, Tcb}
use Rattle.cap_core.specs.Objects.{is_null}
use Rattle.kernel_forest.specs.Forest.{Forest}
use Rattle.kernel_forest.specs.Entries.{Entry, cap_at}
use Rattle.kernel_delete.proofs.Members.{both_true, either_true, any_of}
use Rattle.kernel_delete.proofs.Clearable.{in_contains}
use Rattle.query_reach.specs.declared.reached.Reached.{Reached}
use Rattle.query_reach.specs.Lists.{AreReached}
use Rattle.query_reach.specs.Reaching.{Reaches}
use Rattle.command_how_witness.specs.Witness.{Asking, Holds, Takes}
use Rattle.command_how_witness.specs.Private.{is_control_block_of, is_held, is_emptied}

thread_is : (cap : Cap) (t : ℕ) → is_control_block_of cap t ≡ true → cap ≡ Tcb t
thread_is (Tcb base) t h = ap Tcb (eqb-true base t h)
thread_is Null t h = absurd (false≢true h)
thread_is (Untyped base bits free) t h = absurd (false≢true h)
thread_is (Endpoint base badge rights) t h = absurd (false≢true h)
thread_is (CNode base radix guard) t h = absurd (false≢true h)

null_is : (cap : Cap) → is_null cap ≡ true → cap ≡ Null
null_is Null h = refl
null_is (Untyped base bits free) h = absurd (false≢true h)
null_is (Endpoint base badge rights) h = absurd (false≢true h)
null_is (CNode base radix guard) h = absurd (false≢true h)
null_is (Tcb base) h = absurd (false≢true h)

not_null : (cap : Cap) → not (is_null cap) ≡ true → cap ≡ Null → ⊥
not_null cap h e = false≢true (sym (ap (λ c. not (is_null c)) e) ∙ h)

module _ (p : ProfileName) (q : Asking) (f : Forest Entry) (list : List Reached) where
  pub holds_by : (word : ℕ) → AreReached p f q.from list → list_any (is_held f word q.to) list ≡ true → Holds p q f word
  holds_by word reached h =
      let r = any_of (is_held f word q.to) list h in
      let both = both_true (r.0.word == word) _ r.1.1 in
      record {
        slot = r.0.slot;
        reaches = subst (λ w. Reaches p f q.from w r.0.slot) (eqb-true r.0.word word both.0) (reached.sound r.0 (in_contains list r.0 r.1.0)).1;
        cap = thread_is (cap_at f r.0.slot) q.to both.1;
      }

  taken : (g : Forest Entry) (slot : ℕ) → is_emptied f g slot ≡ true → (cap_at f slot ≡ Null → ⊥) × (cap_at g slot ≡ Null)
  taken g slot h =
      let both = both_true (not (is_null (cap_at f slot))) _ h in
      (not_null (cap_at f slot) both.0, null_is (cap_at g slot) both.1)

  pub takes_by : (g : Forest Entry) → AreReached p f q.to list → (is_emptied f g q.to || list_any (λ (r : Reached). is_emptied f g r.slot) list) ≡ true → Takes p q f g
  takes_by g reached h = elim (either_true (is_emptied f g q.to) _ h) [
    | inl root ↦ let t = taken g q.to root in record { slot = q.to; named = inl refl; full = t.0; empty = t.1 }
    | inr other ↦
        let r = any_of (λ (r : Reached). is_emptied f g r.slot) list other in
        let t = taken g r.0.slot r.1.1 in
        record { slot = r.0.slot; named = inr (r.0.word, (reached.sound r.0 (in_contains list r.0 r.1.0)).1); full = t.0; empty = t.1 }
  ]

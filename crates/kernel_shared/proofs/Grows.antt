-- A book's law at the opening, and after one more call.
use Rattle.std.proofs.Common.{◌≡◌, ℕ, ◌+◌, ◌<◌, ◌==◌, ◌&&◌, Bool, true, false, List, [], ◌∷◌, ◌++◌, refl, ap, sym, ◌∙◌, subst, append_assoc, eq-eqb, arith, slice_index, cond, length, filter, length-append}
use Rattle.std.proofs.lemmas.List.{map-append, append-nil}
use Rattle.std.proofs.lemmas.Bool.Decides.{nat_tests}
use Rattle.std.proofs.lemmas.List.Sums.{length-filter}
use Rattle.std.proofs.lemmas.List.Elements.{filter-append}
use Rattle.std.specs.Cmp.Derive.{both_true}
use Rattle.std.proofs.Math.Logic.{∥∥₁_map, ∥∥₁_map₂}
use Rattle.cap_core.specs.declared.profile.ProfileName.{ProfileName}
use Rattle.cap_core.specs.declared.limits.TheConstants.{MAX_CLIENTS}
use Rattle.kernel_abstract.specs.declared.call.Call.{Call}
use Rattle.kernel_abstract.specs.declared.call.Reply.{Reply}
use Rattle.kernel_abstract.specs.State.{State, shown}
use Rattle.kernel_abstract.specs.Shown.{Shown}
use Rattle.kernel_abstract.specs.Step.{state_after, replies_of}
use Rattle.kernel_abstract.specs.Reached.{IsReached, StepsTo}
use Rattle.kernel_abstract.proofs.Reached.Runs.{state_after-nil, state_after-snoc, replies_of-nil, replies_of-snoc, reached_after}
use Rattle.kernel_shared.specs.declared.entry.Entry.{Entry}
use Rattle.kernel_shared.specs.Laws.{client_entry, entry_calls, count_of, are_entries_numbered, Lawful, StandsAfter, AreCounts}

pub lawful_open : (p : ProfileName) (o : Shown) → Lawful p o []
unfolding are_entries_numbered
lawful_open p o = record { answered = λ A r s. sym (replies_of-nil p A); numbered = refl }

pub stands_open : (p : ProfileName) (o : Shown) → StandsAfter p o [] o
stands_open p o = record { stands = λ A r s. s ∙ ap shown (sym (state_after-nil p A)) }

pub and_parts : (s t : Bool) → (s && t) ≡ true → (s ≡ true) × (t ≡ true)
and_parts true t p = (refl, p)
and_parts false t p = cc

-- one more numbered entry
pub numbered-snoc : (past h : List Entry) (e : Entry) → are_entries_numbered past h ≡ true → (e.number == count_of e.client (past ++ h)) ≡ true → are_entries_numbered past (h ++ e ∷ []) ≡ true
unfolding are_entries_numbered
numbered-snoc past [] e p q = both_true (subst (λ (l : List Entry). (e.number == count_of e.client l) ≡ true) (append-nil past) q) refl
numbered-snoc past (x ∷ xs) e p q =
    let t = and_parts (x.number == count_of x.client past) (are_entries_numbered (past ++ x ∷ []) xs) p in
    both_true t.0 (numbered-snoc (past ++ x ∷ []) xs e t.1 (subst (λ (l : List Entry). (e.number == count_of e.client l) ≡ true) (sym (append_assoc past (x ∷ []) xs)) q))

pub lawful_open_at : (p : ProfileName) (o : Shown) (h : List Entry) → h ≡ [] → ∥ Lawful p o h ∥₁
lawful_open_at p o h e = subst (λ (l : List Entry). ∥ Lawful p o l ∥₁) (sym e) ∣ lawful_open p o ∣₁

pub stands_open_at : (p : ProfileName) (o k : Shown) (h : List Entry) → k ≡ o → h ≡ [] → ∥ StandsAfter p o h k ∥₁
stands_open_at p o k h s e = subst (λ (l : List Entry). ∥ StandsAfter p o l k ∥₁) (sym e) (subst (λ (x : Shown). ∥ StandsAfter p o [] x ∥₁) (sym s) ∣ stands_open p o ∣₁)

module _ (p : ProfileName) (o : Shown) (h : List Entry) (k k' : Shown) (client number : ℕ) (call : Call) (reply : Reply) where
  pub lawful_grows : Lawful p o h → StandsAfter p o h k → number ≡ count_of client h → ((A : State) → IsReached p A → k ≡ shown A → StepsTo p A call reply k')
      → Lawful p o (h ++ client_entry client number call reply ∷ [])
  lawful_grows l s n is = record {
    answered = λ A r e.
        map-append (λ (x : Entry). x.reply) h (client_entry client number call reply ∷ [])
        ∙ (ap (λ rs. rs ++ reply ∷ []) (l.answered A r e)
        ∙ (ap (λ x. replies_of p A (entry_calls h) ++ x ∷ []) (is (state_after p A (entry_calls h)) (reached_after p A (entry_calls h) r) (s.stands A r e)).reply_is
        ∙ (sym (replies_of-snoc p A (entry_calls h) call)
        ∙ ap (replies_of p A) (sym (map-append (λ (x : Entry). x.call) h (client_entry client number call reply ∷ []))))));
    numbered = numbered-snoc [] h (client_entry client number call reply) l.numbered (eq-eqb number (count_of client h) n);
  }

  pub stands_grows : StandsAfter p o h k → ((A : State) → IsReached p A → k ≡ shown A → StepsTo p A call reply k')
      → StandsAfter p o (h ++ client_entry client number call reply ∷ []) k'
  stands_grows s is = record {
    stands = λ A r e.
        (is (state_after p A (entry_calls h)) (reached_after p A (entry_calls h) r) (s.stands A r e)).shows
        ∙ (ap shown (sym (state_after-snoc p A (entry_calls h) call))
        ∙ ap (λ cs. shown (state_after p A cs)) (sym (map-append (λ (x : Entry). x.call) h (client_entry client number call reply ∷ []))));
  }

  pub lawful_grows_at : (h' : List Entry) → h' ≡ h ++ client_entry client number call reply ∷ [] → ∥ Lawful p o h ∥₁ → ∥ StandsAfter p o h k ∥₁ → number ≡ count_of client h
      → ((A : State) → IsReached p A → k ≡ shown A → StepsTo p A call reply k') → ∥ Lawful p o h' ∥₁
  lawful_grows_at h' e l s n is = subst (λ (x : List Entry). ∥ Lawful p o x ∥₁) (sym e) (∥∥₁_map₂ l s (λ l s. lawful_grows l s n is))

  pub stands_grows_at : (h' : List Entry) → h' ≡ h ++ client_entry client number call reply ∷ [] → ∥ StandsAfter p o h k ∥₁ → ((A : State) → IsReached p A → k ≡ shown A → StepsTo p A call reply k')
      → ∥ StandsAfter p o h' k' ∥₁
  stands_grows_at h' e s is = subst (λ (x : List Entry). ∥ StandsAfter p o x k' ∥₁) (sym e) (∥∥₁_map s (λ s. stands_grows s is))

pub count_append : (client : ℕ) (h k : List Entry) → count_of client (h ++ k) ≡ count_of client h + count_of client k
count_append client h k =
    let is : Entry → Bool = λ (x : Entry). x.client == client in
    let a = length-filter is (h ++ k) in let b = length-filter is h in let d = length-filter is k in
    let e : length (filter is (h ++ k)) ≡ length (filter is h) + length (filter is k) = ap length (filter-append is h k) ∙ length-append (filter is h) (filter is k) in
    omega arith

pub count_snoc : (client : ℕ) (h : List Entry) (e : Entry) → count_of client (h ++ e ∷ []) ≡ count_of client h + count_of client (e ∷ [])
count_snoc client h e = count_append client h (e ∷ [])

count_at : (i client number : ℕ) (call : Call) (reply : Reply) (h : List Entry) (t : Bool) → (i == client) ≡ t → number ≡ count_of client h → cond t (number + 1) (count_of i h) ≡ count_of i h + count_of i (client_entry client number call reply ∷ [])
count_at i client number call reply h true s n = let e : i ≡ client = grind (arith, nat_tests) in let f : (client == i) ≡ true = grind (arith, nat_tests) in let same : count_of i h ≡ count_of client h = ap (λ j. count_of j h) e in rw f (omega arith)
count_at i client number call reply h false s n = let f : (client == i) ≡ false = grind (arith, nat_tests) in rw f (omega arith)

pub counts_grow : (counts counts' : List ℕ) (h h' : List Entry) (client number : ℕ) (call : Call) (reply : Reply) → h' ≡ h ++ client_entry client number call reply ∷ [] → AreCounts counts h → number ≡ count_of client h
    → ((i : ℕ) → i < MAX_CLIENTS → slice_index counts' i ≡ cond (i == client) (number + 1) (slice_index counts i)) → AreCounts counts' h'
counts_grow counts counts' h h' client number call reply is old n new i lt =
    new i lt
    ∙ (ap (λ x. cond (i == client) (number + 1) x) (old i lt)
    ∙ (count_at i client number call reply h (i == client) refl n
    ∙ (sym (count_snoc i h (client_entry client number call reply)) ∙ ap (count_of i) (sym is))))

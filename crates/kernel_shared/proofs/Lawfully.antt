-- A beginning of a lawful history is lawful.
use Rattle.std.proofs.Common.{◌≡◌, ℕ, ◌+◌, List, [], ◌∷◌, ◌++◌, length, take, Some, slice_get, ap, sym, ◌∙◌, subst, arith}
use Rattle.std.proofs.lemmas.List.{map-append, take_more, take-append-drop, length-map}
use Rattle.std.proofs.Math.Seq.{take-append_seam}
use Rattle.std.proofs.Math.Logic.{∥∥₁_map}
use Rattle.std.proofs.lemmas.Option.{slice_get_within, get_or_from_slice_get}
use Rattle.cap_core.specs.declared.profile.ProfileName.{ProfileName}
use Rattle.kernel_abstract.specs.declared.call.Call.{Call}
use Rattle.kernel_abstract.specs.State.{State}
use Rattle.kernel_abstract.specs.Shown.{Shown}
use Rattle.kernel_abstract.specs.Step.{step, state_after, replies_of}
use Rattle.kernel_abstract.proofs.Reached.Runs.{replies_of-nil, replies_of-cons, replies_of-append}
use Rattle.kernel_shared.specs.declared.entry.Entry.{Entry}
use Rattle.kernel_shared.specs.Laws.{Lawful, entry_calls, replies_in}
use Rattle.kernel_shared.proofs.Numbered.{numbered_parts}

replies_length : (p : ProfileName) (A : State) (cs : List Call) → length (replies_of p A cs) ≡ length cs
replies_length p A [] = ap length (replies_of-nil p A)
replies_length p A (c ∷ cs) =
    let r = replies_length p (step p A c).state cs in
    let one = ap length (replies_of-cons p A c cs) in omega arith

cut : {X : Type 0} (xs ys us vs : List X) → length xs ≡ length us → xs ++ ys ≡ us ++ vs → xs ≡ us
cut xs ys us vs l e = sym (take-append_seam xs ys) ∙ (ap (take (length xs)) e ∙ (ap (λ n. take n (us ++ vs)) l ∙ take-append_seam us vs))

pub lawful_part : (p : ProfileName) (o : Shown) (xs ys : List Entry) → Lawful p o (xs ++ ys) → Lawful p o xs
lawful_part p o xs ys l = record {
  answered = λ A r e.
      let calls : entry_calls (xs ++ ys) ≡ entry_calls xs ++ entry_calls ys = map-append (λ (x : Entry). x.call) xs ys in
      let whole : replies_in xs ++ replies_in ys ≡ replies_of p A (entry_calls xs) ++ replies_of p (state_after p A (entry_calls xs)) (entry_calls ys) = sym (map-append (λ (x : Entry). x.reply) xs ys) ∙ (l.answered A r e ∙ (ap (replies_of p A) calls ∙ replies_of-append p A (entry_calls xs) (entry_calls ys))) in
      cut (replies_in xs) (replies_in ys) (replies_of p A (entry_calls xs)) (replies_of p (state_after p A (entry_calls xs)) (entry_calls ys))
      (length-map xs (λ (x : Entry). x.reply) ∙ (sym (length-map xs (λ (x : Entry). x.call)) ∙ sym (replies_length p A (entry_calls xs)))) whole;
  numbered = (numbered_parts [] xs ys l.numbered).0;
}

pub lawful_take : (p : ProfileName) (o : Shown) (n : ℕ) (h : List Entry) → ∥ Lawful p o h ∥₁ → ∥ Lawful p o (take n h) ∥₁
lawful_take p o n h l = ∥∥₁_map l (λ (w : Lawful p o h). lawful_part p o (take n h) _ (subst (λ (x : List Entry). Lawful p o x) (sym (take-append-drop n h)) w))

-- one more entry is taken
pub take_one : (h : List Entry) (n : ℕ) (e : Entry) → slice_get h n ≡ Some e → take (n + 1) h ≡ take n h ++ e ∷ []
take_one h n e at = take_more h n e (slice_get_within h n e at) ∙ ap (λ x. take n h ++ x ∷ []) (get_or_from_slice_get h n e e at)

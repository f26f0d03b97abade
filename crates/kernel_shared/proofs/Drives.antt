-- A drive of one client, up to a call.
use Rattle.std.proofs.Common.{◌≡◌, ◌≢◌, ◌⊎◌, ⊎_elim, ℕ, zero, suc, ◌+◌, ◌<◌, slice_get, List, [], ◌∷◌, ◌++◌, length, take, get_or, Option, None, Some, Result, Ok, Err, IfOk, refl, ap, sym, ◌∙◌, subst, arith, append_assoc}
use Rattle.std.proofs.lemmas.List.{append-nil, take_more}
use Rattle.std.proofs.lemmas.Option.{slice_get_within}
use Rattle.kernel_shared.specs.Driving.{EachThree}
use Rattle.kernel_abstract.specs.declared.call.Call.{Call}
use Rattle.kernel_shared.specs.declared.driving.Stop.{Stop}
use Rattle.kernel_shared.specs.declared.end.End.{End}
use Rattle.kernel_shared.specs.declared.end.End.TheVariants as E
use Rattle.kernel_shared.specs.Fronts.{StartsWith}
use Rattle.kernel_shared.specs.ClientStates.{ClientState, Lost, lost, client_calls_made, lost_calls, newly_lost}
use Rattle.kernel_shared.specs.Driving.{IsClientRun, IsThreadResult, IsDriven, IsFinish, Ended}
use Rattle.kernel_shared.proofs.Keeping.{starts_trans}

-- what was made before a call of the list
pub record IsMade (old : ClientState) (calls : List Call) (i : ℕ) (now : ClientState) : Type 0 where
  pub id : now.id ≡ old.id
  pub done : now.done ≡ old.done + i
  pub stray : now.stray ≡ old.stray
  pub later : StartsWith now.front old.front
  pub grown : client_calls_made now ≡ client_calls_made old ++ take i calls

some_call : (a b : Lost) → Some a ≡ Some b → a.call ≡ b.call
some_call a b e = let d : a ≡ b = cc in ap (λ (l : Lost). l.call) d

module _ (old now new : ClientState) (calls : List Call) (i : ℕ) (call : Call) where
  -- a call that was answered
  pub made_more : IsMade old calls i now → i < length calls → call ≡ get_or calls i call → new.id ≡ now.id → new.done ≡ now.done + 1 → (now.stray ≡ None) × (new.stray ≡ None) → StartsWith new.front now.front → client_calls_made new ≡ client_calls_made now ++ call ∷ []
      → IsMade old calls (i + 1) new
  made_more m lt at id done none later made = record {
    id = id ∙ m.id;
    done = let d = m.done in omega arith;
    stray = none.1 ∙ (sym none.0 ∙ m.stray);
    later = starts_trans new.front now.front old.front later m.later;
    grown = made ∙ (ap (λ cs. cs ++ call ∷ []) m.grown ∙ (append_assoc (client_calls_made old) (take i calls) (call ∷ []) ∙ ap (λ cs. client_calls_made old ++ cs) (ap (λ c. take i calls ++ c ∷ []) at ∙ sym (take_more calls i call lt))));
  }

  grown_lost : IsMade old calls i now → i < length calls → call ≡ get_or calls i call → (f : Option Lost) → new.stray ≡ f → client_calls_made new ≡ client_calls_made now ++ lost_calls f → (f ≡ None) ⊎ (f ≡ Some (lost call new.front)) → client_calls_made new ≡ client_calls_made old ++ take (i + length (lost_calls f)) calls
  grown_lost m lt at None is made or = made ∙ (append-nil (client_calls_made now) ∙ (m.grown ∙ ap (λ k. client_calls_made old ++ take k calls) (omega arith)))
  grown_lost m lt at (Some l) is made or =
      let c : l.call ≡ call = ⊎_elim (λ (e : Some l ≡ None). cc) (λ (e : Some l ≡ Some (lost call new.front)). some_call l (lost call new.front) e) or in
      made ∙ (ap (λ cs. cs ++ l.call ∷ []) m.grown ∙ (append_assoc (client_calls_made old) (take i calls) (l.call ∷ []) ∙ ap (λ cs. client_calls_made old ++ cs) (ap (λ x. take i calls ++ x ∷ []) (c ∙ at) ∙ sym (take_more calls i call lt))))

  grown_at : IsMade old calls i now → i < length calls → call ≡ get_or calls i call → (s : Option Lost) → old.stray ≡ s → (now.stray ≡ None → client_calls_made new ≡ client_calls_made now ++ lost_calls new.stray) → (now.stray ≡ None → (new.stray ≡ None) ⊎ (new.stray ≡ Some (lost call new.front))) → ((l : Lost) → now.stray ≡ Some l → new ≡ now)
      → client_calls_made new ≡ client_calls_made old ++ take (i + length (newly_lost s new.stray)) calls
  grown_at m lt at None is unmade or stuck = grown_lost m lt at new.stray refl (unmade (m.stray ∙ is)) (or (m.stray ∙ is))
  grown_at m lt at (Some l) is unmade or stuck = ap client_calls_made (stuck l (m.stray ∙ is)) ∙ (m.grown ∙ ap (λ k. client_calls_made old ++ take k calls) (omega arith))

  -- a call that was not
  pub ran_to : (ends : ℕ → ℕ → Type 0) (limit : ℕ) (end : End) → IsMade old calls i now → i < length calls → call ≡ get_or calls i call → new.id ≡ now.id → new.done ≡ now.done → StartsWith new.front now.front → end ≢ E.Done → Ended ends limit new end
      → (now.stray ≡ None → client_calls_made new ≡ client_calls_made now ++ lost_calls new.stray) → (now.stray ≡ None → (new.stray ≡ None) ⊎ (new.stray ≡ Some (lost call new.front))) → ((l : Lost) → now.stray ≡ Some l → new ≡ now)
      → IsThreadResult ends limit old calls new i end
  ran_to ends limit end m lt at id done later stops told unmade or stuck = record {
    run = record {
      id = id ∙ m.id;
      done = let d = m.done in omega arith;
      within = omega arith;
      later = starts_trans new.front now.front old.front later m.later;
      grown = grown_at m lt at old.stray refl unmade or stuck;
    };
    ended = ((λ e. absurd (stops e)), (λ e. absurd (omega arith)));
    told = told;
  }

pub ran_by : (ends : ℕ → ℕ → Type 0) (limit : ℕ) (old : ClientState) (calls : List Call) (new new' : ClientState) (made made' : ℕ) (end end' : End) → new' ≡ new → made' ≡ made → end' ≡ end → IsThreadResult ends limit old calls new made end → IsThreadResult ends limit old calls new' made' end'
ran_by ends limit old calls new new' made made' end end' p q r d =
    subst (λ (t : ClientState). IsThreadResult ends limit old calls t made' end') (sym p) (subst (λ (n : ℕ). IsThreadResult ends limit old calls new n end') (sym q) (subst (λ (s : End). IsThreadResult ends limit old calls new made s) (sym r) d))

pub finished_run : {N T : Type 0} (ends : ℕ → ℕ → Type 0) (limit : ℕ) (old : ClientState) (calls : List Call) (mid new : ClientState) (made new_made : ℕ) (end : End) (stopped : Option (Stop N T)) → IsThreadResult ends limit old calls mid made end → IsFinish ends limit mid made end new new_made stopped → IsDriven ends limit old calls new new_made stopped
finished_run ends limit old calls mid new made new_made end stopped r f = record {
  run = subst (λ (t : ClientState). IsClientRun old calls t new_made) (sym f.client_is) (subst (λ (n : ℕ). IsClientRun old calls mid n) (sym f.made_is) r.run);
  ended = ((λ e. f.made_is ∙ r.ended.0 (f.ended.1 e)), (λ e. f.ended.0 (r.ended.1 (sym f.made_is ∙ e))));
  told = f.told r.told;
}

abbrev EachTwo : {A B : Type 0} → List A → List B → (A → B → Type 0) → Type 0
EachTwo {A} {B} xs ys P = (i : ℕ) (x : A) (y : B) → slice_get xs i ≡ Some x → slice_get ys i ≡ Some y → P x y

two_pushed : {A B : Type 0} (P : A → B → Type 0) (xs : List A) (ys : List B) (x : A) (y : B) → length ys ≡ length xs → EachTwo xs ys P → P x y → EachTwo (xs ++ x ∷ []) (ys ++ y ∷ []) P
two_pushed P [] [] x y l h p zero a b ea eb = let q : x ≡ a = cc in let r : y ≡ b = cc in subst (λ u. P u b) q (subst (λ u. P x u) r p)
two_pushed P [] [] x y l h p (suc i) a b ea eb = cc
two_pushed P [] (w ∷ ys) x y l h p i a b ea eb = absurd (omega arith)
two_pushed P (v ∷ xs) [] x y l h p i a b ea eb = absurd (omega arith)
two_pushed P (v ∷ xs) (w ∷ ys) x y l h p zero a b ea eb = h zero a b ea eb
two_pushed P (v ∷ xs) (w ∷ ys) x y l h p (suc i) a b ea eb = two_pushed P xs ys x y (omega arith) (λ j d e. h (suc j) d e) p i a b ea eb

pub two_pushed_at : {A B : Type 0} (P : A → B → Type 0) (xs : List A) (ys ys' : List B) (x : A) (y : B) → ys' ≡ ys ++ y ∷ [] → length ys ≡ length xs → EachTwo xs ys P → P x y → EachTwo (xs ++ x ∷ []) ys' P
two_pushed_at P xs ys ys' x y s l h p i a b ea eb = two_pushed P xs ys x y l h p i a b ea (ap (λ us. slice_get us i) (sym s) ∙ eb)

some_there : {C : Type 0} (zs : List C) (i : ℕ) → i < length zs → (z : C) × (slice_get zs i ≡ Some z)
some_there [] i lt = absurd (omega arith)
some_there (z ∷ zs) zero lt = (z, refl)
some_there (z ∷ zs) (suc i) lt = some_there zs i (omega arith)

-- what is known of three lists, through a list in between
pub through : {A B C D : Type 0} (P : A → B → C → Type 0) (Q : C → D → Type 0) (R : A → B → D → Type 0) (xs : List A) (ys : List B) (zs : List C) (ws : List D) → length zs ≡ length xs → EachThree xs ys zs P → EachTwo zs ws Q
    → ((x : A) (y : B) (z : C) (w : D) → P x y z → Q z w → R x y w) → EachThree xs ys ws R
through P Q R xs ys zs ws l p q r i x y w ex ey ew =
    let lt = slice_get_within xs i x ex in
    let z = some_there zs i (omega arith) in
    r x y z.0 w (p i x y z.0 ex ey z.1) (q i z.0 w z.1 ew)

pub ok_map : {A F : Type 0} (P Q : A → Type 0) (r : Result A F) → IfOk r P → ((v : A) → P v → Q v) → IfOk r Q
ok_map P Q (Ok v) p f = f v p
ok_map P Q (Err e) p f = tt

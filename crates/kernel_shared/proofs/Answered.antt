-- What a call leaves the client with.
use Rattle.std.proofs.Common.{◌≡◌, ℕ, ◌+◌, ◌≤◌, Bool, true, List, [], ◌∷◌, ◌++◌, length, Some, None, slice_get, filter, refl, ap, sym, ◌∙◌, subst, arith}
use Rattle.std.proofs.lemmas.List.{append-nil, map-append}
use Rattle.std.proofs.Props.{props}
use mathlib.Core.Logic.{∥∥₁_elim}
use Rattle.cap_core.specs.declared.profile.ProfileName.{ProfileName}
use Rattle.kernel_abstract.specs.declared.call.Call.{Call}
use Rattle.kernel_abstract.specs.declared.call.Reply.{Reply}
use Rattle.kernel_abstract.specs.Shown.{Shown}
use Rattle.kernel_shared.specs.declared.entry.Entry.{Entry}
use Rattle.kernel_shared.specs.Laws.{Lawful, client_entry, entry_calls, count_of, are_entries_numbered}
use Rattle.kernel_shared.proofs.Grows.{count_append}
use Rattle.kernel_shared.specs.Fronts.{StartsWith}
use Rattle.kernel_shared.specs.ClientStates.{ClientState, client_state, lost_calls, client_calls_made, is_earlier_entry, holds_not, IsAnswered}
use Rattle.kernel_shared.proofs.Keeping.{starts_snoc, starts_trans, longer}
use Rattle.kernel_shared.proofs.Numbered.{numbered_parts, below_kept, below_next, none_held, once}
use Rattle.kernel_shared.proofs.Clients.{count_one}

bool_set : (a b : Bool) → IsProp (a ≡ b)
bool_set a b = hlevel props

pub numbered_of : (p : ProfileName) (o : Shown) (h : List Entry) → ∥ Lawful p o h ∥₁ → are_entries_numbered [] h ≡ true
numbered_of p o h l = ∥∥₁_elim l (bool_set (are_entries_numbered [] h) true) (λ (w : Lawful p o h). w.numbered)

at_end : (xs : List Entry) (x : Entry) → slice_get (xs ++ x ∷ []) (length xs) ≡ Some x
at_end [] x = refl
at_end (y ∷ ys) x = at_end ys x

-- the calls that were answered stand in each later front
pub below_later : (p : ProfileName) (o : Shown) (id n : ℕ) (seen log : List Entry) → StartsWith log seen → ∥ Lawful p o log ∥₁ → n ≤ count_of id seen → filter (is_earlier_entry id n) log ≡ filter (is_earlier_entry id n) seen
below_later p o id n seen log s l le =
    ap (filter (is_earlier_entry id n)) s.is ∙ below_kept id n seen s.rest (subst (λ (h : List Entry). are_entries_numbered [] h ≡ true) s.is (numbered_of p o log l)) le

pub not_held : (p : ProfileName) (o : Shown) (id n : ℕ) (h : List Entry) → ∥ Lawful p o h ∥₁ → count_of id h ≡ n → holds_not id n h
not_held p o id n h l e = none_held id n h (numbered_of p o h l) (omega arith)

-- no call was answered since
pub unmade : (p : ProfileName) (o : Shown) (old new : ClientState) → StartsWith new.front old.front → ∥ Lawful p o new.front ∥₁ → old.done ≤ count_of old.id old.front → new.id ≡ old.id → new.done ≡ old.done → old.stray ≡ None
    → client_calls_made new ≡ client_calls_made old ++ lost_calls new.stray
unmade p o old new s l le i d none =
    let same : filter (is_earlier_entry new.id new.done) new.front ≡ filter (is_earlier_entry old.id old.done) old.front = ap (λ k. filter (is_earlier_entry k new.done) new.front) i ∙ (ap (λ k. filter (is_earlier_entry old.id k) new.front) d ∙ below_later p o old.id old.done old.front new.front s l le) in
    let calls : List Call = entry_calls (filter (is_earlier_entry old.id old.done) old.front) in
    ap (λ h. entry_calls h ++ lost_calls new.stray) same ∙ ap (λ cs. cs ++ lost_calls new.stray) (sym (append-nil calls) ∙ ap (λ x. calls ++ lost_calls x) (sym none))

module _ (p : ProfileName) (o : Shown) (old : ClientState) (mid : List Entry) (call : Call) (reply : Reply) where
  abbrev after : ClientState
  after = client_state old.id (old.done + 1) (mid ++ client_entry old.id old.done call reply ∷ []) None

  pub is_answered : StartsWith mid old.front → ∥ Lawful p o after.front ∥₁ → count_of old.id mid ≡ old.done → old.stray ≡ None → IsAnswered old call reply after
  is_answered s l c none = record {
    later = starts_trans after.front mid old.front (starts_snoc mid _) s;
    place = length mid;
    past = longer mid old.front s;
    stands = at_end mid _;
    once = Rattle.kernel_shared.proofs.Numbered.once old.id old.done mid _ (numbered_parts [] mid _ (numbered_of p o after.front l)).0 c refl refl;
    just = let a = count_append old.id mid (client_entry old.id old.done call reply ∷ []) in let b = count_one old.id old.done call reply in omega arith;
    counted = refl;
    whole = (none, refl);
  }

  pub calls_grow : StartsWith mid old.front → ∥ Lawful p o after.front ∥₁ → count_of old.id mid ≡ old.done → old.done ≤ count_of old.id old.front → old.stray ≡ None → client_calls_made after ≡ client_calls_made old ++ call ∷ []
  calls_grow s l c le none =
      let n = numbered_parts [] mid (client_entry old.id old.done call reply ∷ []) (numbered_of p o after.front l) in
      let kept : filter (is_earlier_entry old.id old.done) mid ≡ filter (is_earlier_entry old.id old.done) old.front = ap (filter (is_earlier_entry old.id old.done)) s.is ∙ below_kept old.id old.done old.front s.rest (subst (λ (h : List Entry). are_entries_numbered [] h ≡ true) s.is n.0) le in
      let calls : List Call = entry_calls (filter (is_earlier_entry old.id old.done) old.front) in
      append-nil (entry_calls (filter (is_earlier_entry old.id (old.done + 1)) after.front))
      ∙ (ap entry_calls (below_next old.id old.done mid (client_entry old.id old.done call reply) n.0 c refl refl)
      ∙ (map-append (λ (x : Entry). x.call) (filter (is_earlier_entry old.id old.done) mid) (client_entry old.id old.done call reply ∷ [])
      ∙ (ap (λ h. entry_calls h ++ call ∷ []) kept
      ∙ ap (λ cs. cs ++ call ∷ []) (sym (append-nil calls) ∙ ap (λ x. calls ++ lost_calls x) (sym none)))))

-- the call was found after it was published
pub finished : (p : ProfileName) (o : Shown) (old mid new : ClientState) (call : Call) (reply : Reply) → StartsWith mid.front old.front → mid.id ≡ old.id → mid.done ≡ old.done → count_of mid.id mid.front ≡ mid.done → old.stray ≡ None → old.done ≤ count_of old.id old.front
    → new ≡ client_state mid.id (mid.done + 1) (mid.front ++ client_entry mid.id mid.done call reply ∷ []) None → ∥ Lawful p o new.front ∥₁ → IsAnswered old call reply new × (client_calls_made new ≡ client_calls_made old ++ call ∷ [])
finished p o old mid new call reply s mi md c none le e l =
    let to : new ≡ client_state old.id (old.done + 1) (mid.front ++ client_entry old.id old.done call reply ∷ []) None = e
    ∙ (ap (λ (k : ℕ). client_state k (mid.done + 1) (mid.front ++ client_entry k mid.done call reply ∷ []) None) mi
    ∙ ap (λ (d : ℕ). client_state old.id (d + 1) (mid.front ++ client_entry old.id d call reply ∷ []) None) md) in
    let c' : count_of old.id mid.front ≡ old.done = ap (λ k. count_of k mid.front) (sym mi) ∙ (c ∙ md) in
    let l' = subst (λ (t : ClientState). ∥ Lawful p o t.front ∥₁) to l in
    subst (λ (t : ClientState). IsAnswered old call reply t × (client_calls_made t ≡ client_calls_made old ++ call ∷ [])) (sym to)
    (is_answered p o old mid.front call reply s l' c' none, calls_grow p o old mid.front call reply s l' c' le none)

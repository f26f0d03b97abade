-- What is excluded no calls show.
use Rattle.std.proofs.Common.{◌≡◌, ℕ, zero, suc, ◌+◌, ◌-◌, ◌⊎◌, inl, inr, Bool, true, false, not, ◌==◌, List, [], ◌∷◌, ◌++◌, length, Option, Some, None, refl, sym, ap, subst, ◌∙◌, arith}
use Rattle.std.specs.Prelude.{slice_get, is_some}
use Rattle.std.specs.List.{list_all, AllByRecursion as Each}
use Rattle.std.proofs.lemmas.Bool.{false≢true, eqb-true}
use Rattle.std.proofs.lemmas.Nat.{pow_pos}
use Rattle.cap_core.specs.declared.profile.ProfileName.{ProfileName}
use Rattle.cap_core.specs.declared.capability.Cap.TheVariants.{Tcb}
use Rattle.cap_core.specs.Numbers.{tcb_bits}
use Rattle.kernel_delete.proofs.Members.{both_true}
use Rattle.kernel_abstract.specs.declared.call.Call.{Call}
use Rattle.kernel_abstract.specs.declared.call.Reply.{Reply}
use Rattle.kernel_abstract.specs.declared.call.Reply.TheVariants.{Done, Delivered, Waiting, Dropped, Empty, Refused}
use Rattle.kernel_abstract.specs.State.{State, shown}
use Rattle.kernel_abstract.specs.Step.{replies_of, state_after}
use Rattle.kernel_abstract.specs.Reached.{IsReached}
use Rattle.kernel_abstract.proofs.Reached.Runs.{reached_after}
use Rattle.query_parts.specs.declared.listed.PartMemory.{PartMemory}
use Rattle.query_parts.specs.declared.listed.PartUse.{PartUse}
use Rattle.query_parts.specs.Parts.{Parts, IsWithin, IsClosed}
use Rattle.query_parts.specs.Listed.{part_at, parts_listed}
use Rattle.query_parts.specs.Laws.{AreClosed, IsAllowed, IsOfSomePart}
use Rattle.query_parts.specs.Ever.{AreConfinedEver}
use Rattle.query_parts.specs.Least.{AreLeastAround}
use Rattle.query_parts.proofs.Same.{names_its_own, lie_in_each_other}
use Rattle.command_parts.specs.Ever.{AreRightParts}
use Rattle.command_parts.specs.Threads.{callers}
use Rattle.query_parts.proofs.Taking.{takes_nothing, stay_none}
use Rattle.query_reach.specs.Reaching.{Reaches}
use Rattle.setup_report.specs.State.{is_in}
use Rattle.command_never.specs.Kept.{TellsKept}
use Rattle.command_how_witness.specs.declared.asked.Happening.{Happening}
use Rattle.command_how_witness.specs.declared.asked.Happening.TheVariants.{Message, Hold, Loss}
use Rattle.command_how_witness.specs.Witness.{Asking, is_caller, is_message, is_message_last, ShowsMessage, ShowsHold, ShowsLoss, ShowsIt}
use Rattle.command_how_witness.specs.Excluded.{IsKept, IsOutside, LiesElsewhere, StandsApart, HasNoWitness}

-- ---- the callers lie in parts

in_some : (o : Option ℕ) → is_some o ≡ true → (i : ℕ) × (o ≡ Some i)
in_some None h = absurd (false≢true h)
in_some (Some i) h = (i, refl)

pub caller_in : (q : Asking) (call : Call) → is_caller q call ≡ true → (i : ℕ) × (part_at q.memory call.thread ≡ Some i)
caller_in q call h = in_some (part_at q.memory call.thread) (both_true (is_some (part_at q.memory call.thread)) _ h).0

of_parts : (q : Asking) (uses : List PartUse) (calls : List Call) → list_all (is_caller q) calls ≡ true → Each (IsAllowed (parts_listed q.memory uses)) calls
of_parts q uses [] h = tt
of_parts q uses (call ∷ calls) h =
    let both = both_true (is_caller q call) (list_all (is_caller q) calls) h in
    (inl (caller_in q call both.0), of_parts q uses calls both.1)

of_others : (q : Asking) (memory : List PartMemory) (uses : List PartUse) →
    ((i thread : ℕ) → part_at q.memory thread ≡ Some i → (j : ℕ) × (part_at memory thread ≡ Some j)) →
    (calls : List Call) → list_all (is_caller q) calls ≡ true → Each (IsAllowed (parts_listed memory uses)) calls
of_others q memory uses lie [] h = tt
of_others q memory uses lie (call ∷ calls) h =
    let both = both_true (is_caller q call) (list_all (is_caller q) calls) h in
    let own = caller_in q call both.0 in
    (inl (lie own.0 call.thread own.1), of_others q memory uses lie calls both.1)

and_one : (Q : Call → Type 0) (calls : List Call) (call : Call) → Each Q calls → Q call → Each Q (calls ++ call ∷ [])
and_one Q [] call h k = (k, tt)
and_one Q (c ∷ calls) call h k = (h.0, and_one Q calls call h.1 k)

two : (part : ℕ) (o : Option ℕ) → o ≡ None → o ≡ Some part → ⊥
two part o h k = let n : None ≡ Some part = sym h ∙ k in cc

-- ---- a message

not_both : (b : Bool) → b ≡ true → not b ≡ true → ⊥
not_both true h k = false≢true k
not_both false h k = false≢true h

module _ (q : Asking) (memory : List PartMemory) (uses : List PartUse) (i j : ℕ) (from_in : part_at memory q.from ≡ Some i) (to_in : part_at memory q.to ≡ Some j) where
  not_told : (reply : Reply) → TellsKept (parts_listed memory uses) q.by i j reply → is_message q reply ≡ true → ⊥
  not_told Done kept h = false≢true h
  not_told Waiting kept h = false≢true h
  not_told Dropped kept h = false≢true h
  not_told Empty kept h = false≢true h
  not_told (Refused refusal) kept h = false≢true h
  not_told (Delivered endpoint sender receiver badge message) kept h =
      let first = both_true (sender == q.from) _ h in
      let second = both_true (receiver == q.to) _ first.1 in
      let third = both_true (not (is_in endpoint q.by)) _ second.1 in
      not_both (is_in endpoint q.by)
      (kept (ap (part_at memory) (eqb-true sender q.from first.0) ∙ from_in) (ap (part_at memory) (eqb-true receiver q.to second.0) ∙ to_in)) third.0

  not_at : (replies : List Reply) (n : ℕ) → Each (TellsKept (parts_listed memory uses) q.by i j) replies → is_message_last q (slice_get replies n) ≡ true → ⊥
  not_at [] n each h = false≢true h
  not_at (reply ∷ replies) zero each h = not_told reply each.0 h
  not_at (reply ∷ replies) (suc n) each h = not_at replies n each.1 h

module _ (p : ProfileName) (q : Asking) (uses : List PartUse) (A : State) (calls : List Call) (reached : IsReached p A)
    (right : AreRightParts p (shown A) q.without q.memory uses) where
  abbrev ever : AreConfinedEver p q.memory uses (shown A)
  ever = right.ever

  abbrev parts : Parts
  parts = parts_listed q.memory uses

  closed_after : (more : List Call) → Each (IsAllowed parts) more → AreClosed p parts (state_after p A more)
  closed_after more of = (ever A reached refl more of).closed

  around : (memory : List PartMemory) (more : List PartUse) → AreRightParts p (shown A) q.without memory more →
      AreLeastAround p (callers p (shown A) q.without) (shown A) memory more
  around memory more is = record { ever = is.ever; around = is.callers; least = is.least }

  -- of all such parts each lies in one of the others, so callers lie in parts of each
  no_message : IsKept p q (shown A) → ShowsMessage p q A calls → ⊥
  no_message kept shows =
      let lie = (lie_in_each_other p (callers p (shown A) q.without) (shown A) q.memory uses kept.memory kept.uses
      (around q.memory uses right) (around kept.memory kept.uses kept.right) A reached refl).0 in
      let replies = replies_of p A calls in
      let k = kept.kept in
      not_at q kept.memory kept.uses k.i k.j k.from_in k.to_in replies (length replies - 1)
      (k.kept A reached refl calls (of_others q kept.memory kept.uses (λ i thread here. ((lie i).0, (lie i).1.memory thread here)) calls shows.callers)).deliveries shows.happens

  -- a slot that a word of a thread leads to lies in the thread's part
  named_in : (B : State) (i thread word slot : ℕ) → IsClosed p parts i B.derivations → part_at q.memory thread ≡ Some i →
      Reaches p B.derivations thread word slot → part_at q.memory slot ≡ Some i
  named_in B i thread word slot closed own reaches =
      names_its_own p parts i B.derivations thread closed own slot (inl (word, reaches.leads))

  -- ---- a hold

  no_hold_of : (shows : ShowsHold p q A calls) → (i : ℕ) → part_at q.memory q.from ≡ Some i → part_at q.memory q.to ≡ Some i
  no_hold_of shows i own =
      let B = state_after p A shows.front in
      let closed = closed_after shows.front (of_parts q uses shows.front shows.callers) i in
      let here = named_in B i q.from shows.word shows.holds.slot closed own shows.holds.reaches in
      let within : IsWithin p parts i (Tcb q.to) = subst (IsWithin p parts i) shows.holds.cap (closed shows.holds.slot here) in
      within q.to (omega arith) (omega (arith, pow_pos (tcb_bits p)))

  from_of : (call : Call) → is_caller q call ≡ true → call.thread ≡ q.from → (i : ℕ) × (part_at q.memory q.from ≡ Some i)
  from_of call is same = let c = caller_in q call is in (c.0, ap (part_at q.memory) (sym same) ∙ c.1)

  no_hold : (part_at q.memory q.from ≡ None) ⊎ LiesElsewhere q.memory q.from q.to → ShowsHold p q A calls → ⊥
  no_hold (inl outside) shows = let own = from_of shows.call shows.caller shows.thread in two own.0 (part_at q.memory q.from) outside own.1
  no_hold (inr elsewhere) shows = elsewhere.other (no_hold_of shows elsewhere.part elsewhere.from_in)

  -- ---- a loss

  closed_start : AreClosed p parts A
  unfolding state_after
  closed_start = (ever A reached refl [] tt).closed

  no_loss_of : StandsApart q.memory uses (shown A) q.from q.to → ShowsLoss p q A calls → ⊥
  unfolding shown
  no_loss_of apart shows =
      let most = shows.front ++ shows.shows ∷ [] in
      let B = state_after p A most in
      let shower : IsOfSomePart parts shows.shows = (apart.j, ap (part_at q.memory) shows.shower ∙ apart.to_in) in
      let of : Each (IsAllowed parts) most = and_one (IsAllowed parts) shows.front shows.shows (of_parts q uses shows.front shows.callers) (inl shower) in
      let closed = closed_after most of in
      let none = stay_none p parts apart.i apart.j A most reached closed_start of apart.two apart.none in
      let slot_in : part_at q.memory shows.takes.slot ≡ Some apart.j =
      elim shows.takes.named [
        | inl root ↦ ap (part_at q.memory) root ∙ apart.to_in
        | inr word ↦ named_in B apart.j q.to word.0 shows.takes.slot (closed apart.j) apart.to_in word.1
      ] in
      let own : part_at q.memory shows.call.thread ≡ Some apart.i = ap (part_at q.memory) shows.thread ∙ apart.from_in in
      shows.takes.full
      (sym (takes_nothing p parts apart.i apart.j B shows.call (reached_after p A most reached) (closed apart.i) own apart.two none shows.takes.slot slot_in)
      ∙ shows.takes.empty)

  no_loss : (part_at q.memory q.from ≡ None) ⊎ StandsApart q.memory uses (shown A) q.from q.to → ShowsLoss p q A calls → ⊥
  no_loss (inl outside) shows = let own = from_of shows.call shows.caller shows.thread in two own.0 (part_at q.memory q.from) outside own.1
  no_loss (inr apart) shows = no_loss_of apart shows

  none_of : (what : Happening) → IsOutside p q uses (shown A) what → ShowsIt p q A calls what → ⊥
  none_of Message outside shows = no_message outside shows
  none_of Hold outside shows = no_hold outside shows
  none_of Loss outside shows = no_loss outside shows

pub no_witness : (p : ProfileName) (q : Asking) (uses : List PartUse) (A : State) (calls : List Call) → HasNoWitness p q uses A calls
no_witness p q uses A calls reached excluded shows = none_of p q uses A calls reached excluded.right q.what excluded.outside shows

-- What a flow excludes no calls show.
use Rattle.std.proofs.Common.{◌≡◌, ℕ, zero, suc, ◌-◌, inl, Bool, true, false, not, ◌==◌, List, [], ◌∷◌, ◌++◌, length, refl, sym, ap, ◌∙◌}
use Rattle.std.specs.Prelude.{slice_get, is_some}
use Rattle.std.specs.List.{list_all, AllByRecursion as Each}
use Rattle.std.proofs.lemmas.Bool.{false≢true, eqb-true}
use Rattle.cap_core.specs.declared.profile.ProfileName.{ProfileName}
use Rattle.kernel_forest.specs.Forest.{Forest}
use Rattle.kernel_forest.specs.Entries.{Entry, cap_at}
use Rattle.kernel_delete.proofs.Members.{both_true}
use Rattle.kernel_abstract.specs.declared.call.Call.{Call}
use Rattle.kernel_abstract.specs.declared.call.Reply.{Reply}
use Rattle.kernel_abstract.specs.declared.call.Reply.TheVariants.{Done, Delivered, Waiting, Dropped, Empty, Refused}
use Rattle.kernel_abstract.specs.State.{State, shown}
use Rattle.kernel_abstract.specs.Step.{replies_of}
use Rattle.kernel_abstract.specs.Reached.{IsReached}
use Rattle.query_parts.specs.Listed.{part_at}
use Rattle.query_flow.specs.Excluded.{is_number_listed, IsOfOthers, TellsNone, PassesNoneEver, NamesNoneEver, ChangesNoneEver}
use Rattle.setup_report.specs.State.{is_in}
use Rattle.command_how_witness.specs.declared.asked.Happening.{Happening}
use Rattle.command_how_witness.specs.declared.asked.Happening.TheVariants.{Message, Hold, Loss}
use Rattle.command_how_witness.specs.Witness.{Asking, is_caller, is_message, is_message_last, ShowsMessage, ShowsHold, ShowsLoss, ShowsIt}
use Rattle.command_how_witness.specs.Excluded.{IsOutsideFlow, HasNoWitnessByFlow}

not_true : (b : Bool) → not b ≡ true → b ≡ false
not_true false h = refl
not_true true h = absurd (false≢true h)

not_both : (b : Bool) → b ≡ true → not b ≡ true → ⊥
not_both true h k = false≢true k
not_both false h k = false≢true h

-- the callers are not trusted
others_of : (q : Asking) (calls : List Call) → list_all (is_caller q) calls ≡ true → Each (IsOfOthers q.without) calls
others_of q [] h = tt
others_of q (call ∷ calls) h =
    let both = both_true (is_caller q call) (list_all (is_caller q) calls) h in
    let free = (both_true (is_some (part_at q.memory call.thread)) (not (is_in call.thread q.without)) both.0).1 in
    (inl (not_true (is_in call.thread q.without) free), others_of q calls both.1)

and_last : (Q : Call → Type 0) (calls : List Call) (call : Call) → Each Q calls → Q call → Each Q (calls ++ call ∷ [])
and_last Q [] call h k = (k, tt)
and_last Q (c ∷ calls) call h k = (h.0, and_last Q calls call h.1 k)

-- ---- a message

not_told : (q : Asking) (reply : Reply) → TellsNone q.by q.from q.to reply → is_message q reply ≡ true → ⊥
not_told q Done kept h = false≢true h
not_told q Waiting kept h = false≢true h
not_told q Dropped kept h = false≢true h
not_told q Empty kept h = false≢true h
not_told q (Refused refusal) kept h = false≢true h
not_told q (Delivered endpoint sender receiver badge message) kept h =
    let first = both_true (sender == q.from) _ h in
    let second = both_true (receiver == q.to) _ first.1 in
    let third = both_true (not (is_in endpoint q.by)) _ second.1 in
    not_both (is_in endpoint q.by) (kept (eqb-true sender q.from first.0) (eqb-true receiver q.to second.0)) third.0

not_at : (q : Asking) (replies : List Reply) (n : ℕ) → Each (TellsNone q.by q.from q.to) replies → is_message_last q (slice_get replies n) ≡ true → ⊥
not_at q [] n each h = false≢true h
not_at q (reply ∷ replies) zero each h = not_told q reply each.0 h
not_at q (reply ∷ replies) (suc n) each h = not_at q replies n each.1 h

module _ (p : ProfileName) (q : Asking) (A : State) (calls : List Call) (reached : IsReached p A) where
  no_message : PassesNoneEver p q.without (shown A) q.by q.from q.to → ShowsMessage p q A calls → ⊥
  no_message none shows =
      let replies = replies_of p A calls in
      not_at q replies (length replies - 1) (none A reached refl calls (others_of q calls shows.callers)) shows.happens

  -- ---- a hold

  no_hold : NamesNoneEver p q.without (shown A) q.from q.to → ShowsHold p q A calls → ⊥
  no_hold none shows =
      none A reached refl shows.front (others_of q shows.front shows.callers) shows.word shows.holds.slot shows.holds.reaches.leads shows.holds.cap

  -- ---- a loss

  no_loss : ChangesNoneEver p q.without (shown A) q.from → is_number_listed q.without q.to ≡ false → ShowsLoss p q A calls → ⊥
  no_loss none free shows =
      let most = shows.front ++ shows.shows ∷ [] in
      let shower : is_number_listed q.without shows.shows.thread ≡ false = ap (is_number_listed q.without) shows.shower ∙ free in
      let others = and_last (IsOfOthers q.without) shows.front shows.shows (others_of q shows.front shows.callers) (inl shower) in
      let same = none A reached refl most others shows.call shows.thread in
      shows.takes.full (ap (λ (f : Forest Entry). cap_at f shows.takes.slot) (sym same) ∙ shows.takes.empty)

  none_of : (what : Happening) → IsOutsideFlow p q (shown A) what → ShowsIt p q A calls what → ⊥
  none_of Message outside shows = no_message outside shows
  none_of Hold outside shows = no_hold outside shows
  none_of Loss outside shows = no_loss outside.0 outside.1 shows

pub none_by_flow : (p : ProfileName) (q : Asking) (A : State) (calls : List Call) → HasNoWitnessByFlow p q A calls
none_by_flow p q A calls reached outside shows = none_of p q A calls reached q.what outside shows

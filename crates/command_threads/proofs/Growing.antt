-- A history that grows: the steps of its loops.
use Rattle.std.proofs.Common.{◌≡◌, ℕ, ◌+◌, ◌<◌, true, List, [], ◌∷◌, ◌++◌, eq-eqb, get_or, length, map, option_map, slice_get, take, Some, refl, ap, ap₂, sym, ◌∙◌}
use Rattle.std.proofs.lemmas.List.{append-nil, map-append, take_more}
use Rattle.std.proofs.lemmas.Option.{get_or_from_slice_get, slice_get-map}
use Rattle.kernel_abstract.specs.declared.call.Call.{Call}
use Rattle.kernel_abstract.specs.declared.call.Reply.{Reply}
use Rattle.kernel_shared.specs.declared.entry.Entry.{Entry}
use Rattle.kernel_shared.specs.Laws.{count_of, client_entry, are_entries_numbered, replies_in}
use Rattle.kernel_shared.proofs.Grows.{numbered-snoc}
use Rattle.setup_format.specs.Views.{CallView}
use Rattle.command_threads.specs.Private.Begun.{AreBehind, AreEntriesOf}
use Rattle.command_threads.specs.SharedRuns.{call_asked, call_made}
use Rattle.command_threads.proofs.Histories.{some_there}

some_is : {A : Type 0} (x y : A) → Some x ≡ Some y → x ≡ y
some_is x y e = cc

-- one entry more, with the next number of its client
pub numbered_more : (old kept new : List Entry) (e : Entry) → are_entries_numbered [] old ≡ true → kept ≡ old → new ≡ kept ++ e ∷ [] → e.number ≡ count_of e.client old → are_entries_numbered [] new ≡ true
numbered_more old kept new e so same pushed next =
    ap (are_entries_numbered []) (pushed ∙ ap (λ (l : List Entry). l ++ e ∷ []) same)
    ∙ numbered-snoc [] old e so (eq-eqb e.number (count_of e.client old) next)

-- one call more of a set-up, with its reply
pub first_more : (calls : List CallView) (items : List Call) (replies : List Reply) (old new : List Entry) (i who number : ℕ) (d : Call) (r : Reply)
    → items ≡ map (λ (c : CallView). c.call) calls → i < length calls → i < length replies → option_map (λ (c : CallView). c.client) (slice_get calls i) ≡ Some who
    → AreEntriesOf (take i calls) (take i replies) old → new ≡ old ++ client_entry who number (get_or items i d) (get_or replies i r) ∷ []
    → AreEntriesOf (take (i + 1) calls) (take (i + 1) replies) new
first_more calls items replies old new i who number d r is lt short from so pushed =
    let v = some_there calls i lt in
    let at : get_or calls i v.0 ≡ v.0 = get_or_from_slice_get calls i v.0 v.0 v.1 in
    let named : (v.0).client ≡ who = some_is _ _ (sym (ap (option_map (λ (c : CallView). c.client)) v.1) ∙ from) in
    let listed : slice_get items i ≡ Some (v.0).call = ap (λ l. slice_get l i) is ∙ (slice_get-map (λ (c : CallView). c.call) calls i ∙ ap (option_map (λ (c : CallView). c.call)) v.1) in
    let call : get_or items i d ≡ (v.0).call = get_or_from_slice_get items i (v.0).call d listed in
    let e = client_entry who number (get_or items i d) (get_or replies i r) in
    let pair : call_made e ≡ call_asked v.0 = ap₂ (λ (a : ℕ) (b : Call). (a, b)) (sym named) call in record {
      calls_are =
          ap (map call_made) pushed
          ∙ (map-append call_made old (e ∷ [])
          ∙ (ap₂ (λ (a : List (ℕ × Call)) (b : ℕ × Call). a ++ b ∷ []) so.calls_are pair
          ∙ (sym (map-append call_asked (take i calls) (v.0 ∷ []))
          ∙ ap (map call_asked) (ap (λ (x : CallView). take i calls ++ x ∷ []) (sym at) ∙ sym (take_more calls i v.0 lt)))));
      replies_are =
          ap replies_in pushed
          ∙ (map-append (λ (x : Entry). x.reply) old (e ∷ [])
          ∙ (ap (λ (l : List Reply). l ++ get_or replies i r ∷ []) so.replies_are ∙ sym (take_more replies i r short)));
    }

-- nothing yet behind a history
pub none_behind : (old : List Entry) → AreBehind old [] old
none_behind old = record { behind = []; is = sym (append-nil old); same = record { same = refl; replies = refl } }

-- Differences that are turned round lead back.
use Rattle.std.proofs.Common.{◌≡◌, ℕ, ◌==◌, ◌&&◌, ◌||◌, Bool, true, false, cond, not, List, [], ◌∷◌, ◌++◌, map, Option, None, Some, refl, sym, ap, ◌∙◌, nat_eq, arith}
use Rattle.std.specs.List.{filter}
use Rattle.std.proofs.lemmas.Bool.Decides.{nat_tests}
use Rattle.std.proofs.lemmas.List.Folds.{list_any-append}
use lib.Pointwise.{pointwise}
use Rattle.cap_core.specs.declared.profile.ProfileName.{ProfileName}
use Rattle.kernel_abstract.specs.declared.call.Call.{Call}
use Rattle.kernel_abstract.specs.Boot.{boot}
use Rattle.kernel_abstract.specs.Plan.{Plan}
use Rattle.kernel_abstract.specs.Shown.{Shown}
use Rattle.kernel_abstract.specs.State.{State, shown}
use Rattle.kernel_abstract.specs.Step.{step, state_after}
use Rattle.setup_report.specs.State.{is_in, rising}
use Rattle.setup_report.specs.Naming.{Texts}
use Rattle.setup_report.proofs.Addresses.Rising.{rising_same}
use Rattle.command_trace.specs.Lines.{Lines}
use Rattle.command_trace.specs.Changes.{StateLines, line_addresses, text_at, lines_of_state, no_lines}
use Rattle.command_trace_laws.specs.Laws.{Difference, StateDifferences, difference_at, is_same_line, is_difference, differences, applied, Rise, state_differences, state_applied, call_differences, boot_differences, run_differences, replayed, flipped, state_flipped, backwards}
use Rattle.command_trace.specs.Calls.{lines_in}
use Rattle.command_trace_laws.proofs.Applied.{all_applied}
use Rattle.command_trace_laws.proofs.Replays.{AllRise, lines_rise, none_rise, rising_applied}

-- ---- whether lines are the same, the other way round

eq_swap : (a b : ℕ) → (a == b) ≡ (b == a)
eq_swap a b = grind (arith, nat_tests)

same_swap : (t u : List ℕ) → pointwise nat_eq t u ≡ pointwise nat_eq u t
same_swap [] [] = refl
same_swap [] (y ∷ u) = refl
same_swap (x ∷ t) [] = refl
same_swap (x ∷ t) (y ∷ u) = λ i. eq_swap x y i && same_swap t u i

is_same_swap : (old new : Option (List ℕ)) → is_same_line old new ≡ is_same_line new old
is_same_swap None None = refl
is_same_swap None (Some new) = refl
is_same_swap (Some old) None = refl
is_same_swap (Some old) (Some new) = same_swap old new

-- ---- the differences the other way round

or_swap : (a b : Bool) → (a || b) ≡ (b || a)
or_swap true true = refl
or_swap true false = refl
or_swap false true = refl
or_swap false false = refl

addresses_swap : (xs ys : List ℕ) → rising (xs ++ ys) ≡ rising (ys ++ xs)
addresses_swap xs ys =
    rising_same (xs ++ ys) (ys ++ xs)
    (λ q. list_any-append (λ a. q == a) xs ys ∙ or_swap (is_in q xs) (is_in q ys) ∙ sym (list_any-append (λ a. q == a) ys xs))

-- one address more, whether its line is the same or not
flipped_one : (d : Difference) (ds es : List Difference) (b : Bool) → map flipped ds ≡ es → map flipped (cond (not b) (d ∷ ds) ds) ≡ cond (not b) (flipped d ∷ es) es
flipped_one d ds es true h = h
flipped_one d ds es false h = ap (λ l. flipped d ∷ l) h

flipped_each : (old new : Lines) (xs : List ℕ) → map flipped (filter is_difference (map (difference_at old new) xs)) ≡ filter is_difference (map (difference_at new old) xs)
flipped_each old new [] = refl
flipped_each old new (x ∷ xs) =
    let others = filter is_difference (map (difference_at new old) xs) in
    flipped_one (difference_at old new x) (filter is_difference (map (difference_at old new) xs)) others (is_same_line (text_at x old) (text_at x new)) (flipped_each old new xs)
    ∙ ap (λ b. cond (not b) (difference_at new old x ∷ others) others) (is_same_swap (text_at x old) (text_at x new))

flipped_are : (old new : Lines) → map flipped (differences old new) ≡ differences new old
flipped_are old new =
    flipped_each old new (rising (line_addresses old ++ line_addresses new))
    ∙ ap (λ xs. filter is_difference (map (difference_at new old) xs)) (addresses_swap (line_addresses old) (line_addresses new))

pub lead_back : (old new : Lines) → Rise old → Rise new → applied new (map flipped (differences old new)) ≡ old
lead_back old new a b = ap (applied new) (flipped_are old new) ∙ all_applied new old b a

-- ---- states

states_flipped : (a b : StateLines) → state_flipped (state_differences a b) ≡ state_differences b a
states_flipped a b =
    λ i. record {
      threads = flipped_are a.threads b.threads i;
      inboxes = flipped_are a.inboxes b.inboxes i;
      endpoints = flipped_are a.endpoints b.endpoints i;
      slots = flipped_are a.slots b.slots i;
      selfheld = flipped_are a.selfheld b.selfheld i;
    }

rising_back : (a b : StateLines) → AllRise a → AllRise b → state_applied b (state_flipped (state_differences a b)) ≡ a
rising_back a b h k = ap (state_applied b) (states_flipped a b) ∙ rising_applied b a k h

pub states_back : (texts : Texts) (p : ProfileName) (v w : Shown) → state_applied (lines_of_state texts p w) (state_flipped (state_differences (lines_of_state texts p v) (lines_of_state texts p w))) ≡ lines_of_state texts p v
states_back texts p v w = rising_back (lines_of_state texts p v) (lines_of_state texts p w) (lines_rise texts p v) (lines_rise texts p w)

-- ---- runs

replayed_more : (lines : StateLines) (ds : List StateDifferences) (d : StateDifferences) → replayed lines (ds ++ d ∷ []) ≡ state_applied (replayed lines ds) d
replayed_more lines [] d = refl
replayed_more lines (e ∷ ds) d = replayed_more (state_applied lines e) ds d

calls_back : (texts : Texts) (p : ProfileName) (A : State) (calls : List Call) → replayed (lines_in texts p (state_after p A calls)) (backwards (run_differences texts p A calls)) ≡ lines_in texts p A
unfolding run_differences state_after
calls_back texts p A [] = refl
calls_back texts p A (call ∷ calls) =
    let B = (step p A call).state in
    replayed_more (lines_in texts p (state_after p B calls)) (backwards (run_differences texts p B calls)) (state_flipped (call_differences texts p A call))
    ∙ ap (λ l. state_applied l (state_flipped (call_differences texts p A call))) (calls_back texts p B calls)
    ∙ states_back texts p (shown A) (shown B)

pub run_back : (texts : Texts) (p : ProfileName) (plan : Plan) (calls : List Call) →
    replayed (lines_in texts p (state_after p (boot p plan) calls)) (backwards (boot_differences texts p plan ∷ run_differences texts p (boot p plan) calls)) ≡ no_lines
run_back texts p plan calls =
    let A = boot p plan in
    replayed_more (lines_in texts p (state_after p A calls)) (backwards (run_differences texts p A calls)) (state_flipped (boot_differences texts p plan))
    ∙ ap (λ l. state_applied l (state_flipped (boot_differences texts p plan))) (calls_back texts p A calls)
    ∙ rising_back no_lines (lines_in texts p A) none_rise (lines_rise texts p (shown A))

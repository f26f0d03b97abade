-- The tally of the files so far, with one more, and its exit status.
use Rattle.std.proofs.Common.{◌≡◌, ◌∙◌, ℕ, ◌+◌, ◌≤◌, ◌==◌, List, [], ◌∷◌, ◌++◌, Bool, true, false, Option, Some, None, Result, Ok, Err, map, refl, ap, ap₂, arith}
use Rattle.std.specs.Prelude.{max, cond}
use Rattle.std.proofs.lemmas.List.Sums.{sum_by-append}
use Rattle.setup_format.specs.Faults.{Fault}
use Rattle.setup_format.specs.Setups.{setup_of_bytes}
use Rattle.setup_format.specs.Views.{SetupView}
use Rattle.setup_report.specs.Report.{met_count, expectation_count}
use Rattle.setup_report.specs.declared.calls.ExpectationCount.{ExpectationCount}
use Rattle.command_check.specs.Notes.{unexpected_in}
use Rattle.command_check.specs.Program.{outcome_in, outcome_of, program, replies_to, verdict_in, verdict_on}
use Rattle.command_check.specs.declared.run.CountedText.{CountedText}
use Rattle.command_core.specs.Statuses.{verdict_status}
use Rattle.command_core.specs.declared.fault.Verdict.{Verdict}
use Rattle.command_core.specs.declared.fault.Verdict.TheVariants.{AllMet, NotMet, Refused, Absent}
use Rattle.command_files.specs.Files.{HasCountOf, IsNeverAbsent, count_with, greatest, status_alone, tally_of, tally_status}
use Rattle.command_files.specs.Strict.{check_verdict, strict_verdict}
use Rattle.command_files.specs.Private.{IsJudgedFound, found_status, tally_size, verdict_found, with_status}
use Rattle.command_files.specs.declared.tally.Tally.{Tally}
use Rattle.command_files.specs.declared.telling.FileAnswer.{FileAnswer}

-- ---- one more file

count_more : (verdict : List ℕ → Verdict) (status : ℕ) (files : List (Option (List ℕ))) (contents : Option (List ℕ))
    → count_with verdict status (files ++ contents ∷ []) ≡ count_with verdict status files + cond (status_alone verdict contents == status) 1 0
count_more verdict status files contents = omega (arith, sum_by-append (λ c. cond (status_alone verdict c == status) 1 0) files (contents ∷ []))

count_before : (verdict : List ℕ → Verdict) (status : ℕ) (files : List (Option (List ℕ))) (contents : Option (List ℕ))
    → count_with verdict status (contents ∷ files) ≡ count_with verdict status files + cond (status_alone verdict contents == status) 1 0
count_before verdict status files contents = omega (arith, sum_by-append (λ c. cond (status_alone verdict c == status) 1 0) (contents ∷ []) files)

abbrev tally : ℕ → ℕ → ℕ → ℕ → Tally
tally met unmet refused unread = record { met = met; unmet = unmet; refused = refused; unread = unread }

four : (a b c d a' b' c' d' : ℕ) → a ≡ a' → b ≡ b' → c ≡ c' → d ≡ d' → tally a b c d ≡ tally a' b' c' d'
four a b c d a' b' c' d' p q r s = rw (p, q, r, s) refl

pub tally_more : (verdict : List ℕ → Verdict) (files : List (Option (List ℕ))) (contents : Option (List ℕ))
    → tally_of verdict (files ++ contents ∷ []) ≡ with_status (status_alone verdict contents) (tally_of verdict files)
tally_more verdict files contents =
    four _ _ _ _ _ _ _ _ (count_more verdict 0 files contents) (count_more verdict 1 files contents) (count_more verdict 2 files contents) (count_more verdict 3 files contents)

tally_before : (verdict : List ℕ → Verdict) (files : List (Option (List ℕ))) (contents : Option (List ℕ))
    → tally_of verdict (contents ∷ files) ≡ with_status (status_alone verdict contents) (tally_of verdict files)
tally_before verdict files contents =
    four _ _ _ _ _ _ _ _ (count_before verdict 0 files contents) (count_before verdict 1 files contents) (count_before verdict 2 files contents) (count_before verdict 3 files contents)

-- ---- what was found

-- a count has the verdict of its set-up
counted : (setup : Result SetupView Fault) (count : Option ExpectationCount) → HasCountOf setup count → verdict_in count ≡ (outcome_in setup).1
unfolding outcome_of
counted (Ok setup) None has = absurd has
counted (Ok setup) (Some count) has = ap₂ verdict_on has.0 has.1
counted (Err fault) count is = ap verdict_in is

-- the verdict by a count of the set-up's, and by the calls that a strict check counts
pub judged : (strict : Bool) (bytes refused : List ℕ) (count : Option ExpectationCount) → HasCountOf (setup_of_bytes bytes) count
    → refused ≡ unexpected_in (setup_of_bytes bytes) → strict_verdict strict refused (verdict_in count) ≡ check_verdict strict bytes
unfolding program
judged strict bytes refused count has same = ap₂ (strict_verdict strict) same (counted (setup_of_bytes bytes) count has)

-- the same where no call counts
pub judged_by_count : (bytes : List ℕ) (count : Option ExpectationCount) → HasCountOf (setup_of_bytes bytes) count → verdict_in count ≡ check_verdict false bytes
unfolding program
judged_by_count bytes count has = counted (setup_of_bytes bytes) count has

-- what was found has the exit status of the contents
pub found_status_is : (verdict : List ℕ → Verdict) (IsMade : List ℕ → CountedText → Type 0) (contents : Option (List ℕ)) (found : Option FileAnswer)
    → IsJudgedFound verdict IsMade contents found → found_status (verdict_found found) ≡ status_alone verdict contents
found_status_is verdict IsMade None None is = refl
found_status_is verdict IsMade None (Some answer) is = absurd is
found_status_is verdict IsMade (Some bytes) None is = absurd is
found_status_is verdict IsMade (Some bytes) (Some answer) is = ap verdict_status is.1

verdict_size : (verdict : Verdict) (t : Tally) → tally_size (with_status (verdict_status verdict) t) ≤ tally_size t + 1
verdict_size AllMet t = omega arith
verdict_size NotMet t = omega arith
verdict_size Refused t = omega arith
verdict_size Absent t = omega arith

-- one file more is counted
pub size_more : (found : Option Verdict) (t : Tally) → tally_size (with_status (found_status found) t) ≤ tally_size t + 1
size_more None t = omega arith
size_more (Some verdict) t = verdict_size verdict t

-- ---- the exit status

met_more : (t : Tally) → tally_status (with_status 0 t) ≡ max 0 (tally_status t)
met_more t = grind arith

unmet_more : (t : Tally) → tally_status (with_status 1 t) ≡ max 1 (tally_status t)
unmet_more t = grind arith

refused_more : (t : Tally) → tally_status (with_status 2 t) ≡ max 2 (tally_status t)
refused_more t = grind arith

unread_more : (t : Tally) → tally_status (with_status 3 t) ≡ max 3 (tally_status t)
unread_more t = grind arith

verdict_more : (verdict : Verdict) (t : Tally) → (verdict ≡ Absent → ⊥) → tally_status (with_status (verdict_status verdict) t) ≡ max (verdict_status verdict) (tally_status t)
verdict_more AllMet t never = met_more t
verdict_more NotMet t never = unmet_more t
verdict_more Refused t never = refused_more t
verdict_more Absent t never = absurd (never refl)

status_more : (verdict : List ℕ → Verdict) (contents : Option (List ℕ)) (t : Tally) → IsNeverAbsent verdict
    → tally_status (with_status (status_alone verdict contents) t) ≡ max (status_alone verdict contents) (tally_status t)
status_more verdict None t never = unread_more t
status_more verdict (Some bytes) t never = verdict_more (verdict bytes) t (never bytes)

pub status_is : (verdict : List ℕ → Verdict) (files : List (Option (List ℕ))) → IsNeverAbsent verdict
    → tally_status (tally_of verdict files) ≡ greatest (map (status_alone verdict) files)
status_is verdict [] never = refl
status_is verdict (contents ∷ files) never =
    ap tally_status (tally_before verdict files contents) ∙ status_more verdict contents (tally_of verdict files) never
    ∙ ap (max (status_alone verdict contents)) (status_is verdict files never)

-- ---- the verdict of a check

met_is_there : (strict : Bool) (refused : List ℕ) (b : Bool) → strict_verdict strict refused (cond b AllMet NotMet) ≡ Absent → ⊥
met_is_there false refused true e = absurd cc
met_is_there false refused false e = absurd cc
met_is_there true [] true e = absurd cc
met_is_there true [] false e = absurd cc
met_is_there true (call ∷ calls) true e = absurd cc
met_is_there true (call ∷ calls) false e = absurd cc

refused_is_there : (strict : Bool) (refused : List ℕ) → strict_verdict strict refused Refused ≡ Absent → ⊥
refused_is_there false refused e = absurd cc
refused_is_there true [] e = absurd cc
refused_is_there true (call ∷ calls) e = absurd cc

outcome_is_there : (strict : Bool) (setup : Result SetupView Fault) → strict_verdict strict (unexpected_in setup) (outcome_in setup).1 ≡ Absent → ⊥
unfolding outcome_of
outcome_is_there strict (Ok setup) e =
    met_is_there strict (unexpected_in (Ok setup))
    (met_count setup.calls (replies_to setup.profile setup) == expectation_count setup.calls (replies_to setup.profile setup)) e
outcome_is_there strict (Err fault) e = refused_is_there strict (unexpected_in (Err fault)) e

pub check_is_there : (strict : Bool) → IsNeverAbsent (check_verdict strict)
unfolding program
check_is_there strict bytes e = outcome_is_there strict (setup_of_bytes bytes) e

-- The lines and the tally of the files so far, with one more.
use Rattle.std.proofs.Common.{◌≡◌, ◌∙◌, ℕ, ◌+◌, ◌<◌, ◌≤◌, List, [], ◌∷◌, ◌++◌, map, take, length, get_or, Option, Some, None, Result, Ok, Err, refl, sym, ap, ap₂, subst, append_assoc, arith}
use Rattle.std.proofs.lemmas.List.{append-nil, map-append, take_more}
use denote.Ref.{Bor}
use Rattle.setup_format.specs.Faults.{Fault}
use Rattle.setup_format.specs.Setups.{setup_of_bytes}
use Rattle.setup_format.specs.Views.{SetupView}
use Rattle.setup_report.specs.declared.calls.ExpectationCount.{ExpectationCount}
use Rattle.command_check.specs.Program.{HasCounts, IsTextOfSetup}
use Rattle.command_check.specs.declared.run.CountedText.{CountedText}
use Rattle.command_files.specs.Files.{Each, HasCountOf, IsFoundFile, contents_line, lines_of, setup_line, tally_of}
use Rattle.command_core.specs.declared.fault.Verdict.{Verdict}
use Rattle.command_files.specs.Private.{IsJudgedFound, found_line, found_status, line_with, tally_size, told_in, verdict_found, with_status}
use Rattle.command_files.specs.declared.tally.Tally.{Tally}
use Rattle.command_files.specs.declared.telling.FileAnswer.{FileAnswer}
use Rattle.command_files.proofs.Tallies.{found_status_is, size_more, tally_more}

pub one_more : (Is : List ℕ → Option (List ℕ) → Type 0) (names : List (List ℕ)) (files : List (Option (List ℕ))) (name : List ℕ) (contents : Option (List ℕ))
    → Each Is names files → Is name contents → Each Is (names ++ name ∷ []) (files ++ contents ∷ [])
one_more Is [] [] name contents each is = (is, tt)
one_more Is [] (c ∷ files) name contents each is = absurd each
one_more Is (n ∷ names) [] name contents each is = absurd each
one_more Is (n ∷ names) (c ∷ files) name contents each is = (each.0, one_more Is names files name contents each.1 is)

pub lines_more : (line : List ℕ → Option (List ℕ) → List ℕ) (Is : List ℕ → Option (List ℕ) → Type 0) (names : List (List ℕ)) (files : List (Option (List ℕ))) (name : List ℕ) (contents : Option (List ℕ))
    → Each Is names files → lines_of line (names ++ name ∷ []) (files ++ contents ∷ []) ≡ lines_of line names files ++ line name contents
lines_more line Is [] [] name contents each = append-nil (line name contents)
lines_more line Is [] (c ∷ files) name contents each = absurd each
lines_more line Is (n ∷ names) [] name contents each = absurd each
lines_more line Is (n ∷ names) (c ∷ files) name contents each =
    ap (λ l. line n c ++ l) (lines_more line Is names files name contents each.1)
    ∙ sym (append_assoc (line n c) (lines_of line names files) (line name contents))

-- ---- the check of a file

-- a text of a set-up has its count
pub has_count : (setup : Result SetupView Fault) (made : CountedText) → IsTextOfSetup setup made → HasCountOf setup made.count
has_count (Ok setup) made is = is.1
has_count (Err fault) made is = is.1

count_is : (setup : SetupView) (text : List ℕ) (count : Option ExpectationCount) → HasCounts setup.profile setup count
    → line_with text count ≡ setup_line (Ok setup)
count_is setup text None has = absurd has
count_is setup text (Some count) has = rw (has.0, has.1) refl

made_is : (setup : Result SetupView Fault) (made : CountedText) → IsTextOfSetup setup made → line_with made.text.items made.count ≡ setup_line setup
made_is (Ok setup) made is = count_is setup made.text.items made.count is.1
made_is (Err fault) made is = rw is.1 is.0

-- the line of what was found is that of the contents
pub found_is : (contents : Option (List ℕ)) (found : Option CountedText) → IsFoundFile (λ bytes made. IsTextOfSetup (setup_of_bytes bytes) made) contents found
    → found_line found ≡ contents_line contents
found_is None None is = refl
found_is None (Some made) is = absurd is
found_is (Some bytes) None is = absurd is
found_is (Some bytes) (Some made) is = made_is (setup_of_bytes bytes) made is

-- ---- the files so far

made_of : (verdict : List ℕ → Verdict) (IsMade : List ℕ → CountedText → Type 0) (contents : Option (List ℕ)) (found : Option FileAnswer)
    → IsJudgedFound verdict IsMade contents found → IsFoundFile IsMade contents (told_in found)
made_of verdict IsMade None None is = tt
made_of verdict IsMade None (Some answer) is = absurd is
made_of verdict IsMade (Some bytes) None is = absurd is
made_of verdict IsMade (Some bytes) (Some answer) is = is.0

-- the lines and the tally are those of the files of these names, of which there are no more than so many
pub record SoFar (verdict : List ℕ → Verdict) (head : List ℕ) (line : List ℕ → Option (List ℕ) → List ℕ) (Is : List ℕ → Option (List ℕ) → Type 0) (names : List (List ℕ)) (size : ℕ)
    (out : List ℕ) (tally : Tally) : Type 0 where
  pub files : List (Option (List ℕ))
  pub each : Each Is names files
  pub lines : out ≡ head ++ lines_of line names files
  pub tally_is : tally ≡ tally_of verdict files
  pub counted : tally_size tally ≤ size

names_more : (names : List (Bor (List ℕ))) (i : ℕ) (d : Bor (List ℕ)) → i < length names
    → map (λ (s : Bor (List ℕ)). s.now) (take (i + 1) names) ≡ map (λ (s : Bor (List ℕ)). s.now) (take i names) ++ (get_or names i d).now ∷ []
names_more names i d within =
    ap (map (λ (s : Bor (List ℕ)). s.now)) (take_more names i d within) ∙ map-append (λ (s : Bor (List ℕ)). s.now) (take i names) (get_or names i d ∷ [])

module _ (verdict : List ℕ → Verdict) (head : List ℕ) (line : List ℕ → Option (List ℕ) → List ℕ) (Is : List ℕ → Option (List ℕ) → Type 0) where
  with_found : (IsMade : List ℕ → CountedText → Type 0) (names : List (List ℕ)) (size : ℕ) (out out' : List ℕ) (tally tally' : Tally)
      (name : List ℕ) (contents : Option (List ℕ)) (found : Option FileAnswer)
      → SoFar verdict head line Is names size out tally → Is name contents → IsJudgedFound verdict IsMade contents found → out' ≡ out ++ line name contents → tally' ≡ with_status (found_status (verdict_found found)) tally
      → SoFar verdict head line Is (names ++ name ∷ []) (size + 1) out' tally'
  with_found IsMade names size out out' tally tally' name contents found so_far is was written counts = record {
    files = so_far.files ++ contents ∷ [];
    each = one_more Is names so_far.files name contents so_far.each is;
    lines = written ∙ ap (λ o. o ++ line name contents) so_far.lines ∙ append_assoc head (lines_of line names so_far.files) (line name contents)
        ∙ ap (λ l. head ++ l) (sym (lines_more line Is names so_far.files name contents so_far.each));
    tally_is = counts ∙ ap₂ with_status (found_status_is verdict IsMade contents found was) so_far.tally_is ∙ sym (tally_more verdict so_far.files contents);
    counted = subst (λ t. tally_size t ≤ size + 1) (sym counts) (omega (arith, size_more (verdict_found found) tally, so_far.counted));
  }

  -- one of some names more, where the line was made of what was found, and so was the tally
  pub more : (IsMade : List ℕ → CountedText → Type 0) (names : List (Bor (List ℕ))) (i : ℕ) (d : Bor (List ℕ)) (out out' : List ℕ) (tally tally' : Tally)
      (contents : Option (List ℕ)) (found : Option FileAnswer) (shown : Option CountedText) (counted : Option Verdict) → shown ≡ told_in found → counted ≡ verdict_found found
      → i < length names
      → SoFar verdict head line Is (map (λ (s : Bor (List ℕ)). s.now) (take i names)) i out tally → Is (get_or names i d).now contents → IsJudgedFound verdict IsMade contents found
      → ((c : Option (List ℕ)) → IsFoundFile IsMade c shown → out' ≡ out ++ line (get_or names i d).now c) → tally' ≡ with_status (found_status counted) tally
      → SoFar verdict head line Is (map (λ (s : Bor (List ℕ)). s.now) (take (i + 1) names)) (i + 1) out' tally'
  more IsMade names i d out out' tally tally' contents found shown counted shows counts within so_far is was written has =
      subst (λ ns. SoFar verdict head line Is ns (i + 1) out' tally') (sym (names_more names i d within))
      (with_found IsMade (map (λ (s : Bor (List ℕ)). s.now) (take i names)) i out out' tally tally' (get_or names i d).now contents found so_far is was
      (written contents (subst (λ f. IsFoundFile IsMade contents f) (sym shows) (made_of verdict IsMade contents found was))) (has ∙ ap (λ f. with_status (found_status f) tally) counts))

  -- no names
  pub none : (out out' : List ℕ) → out ≡ [] → out' ≡ out ++ head → SoFar verdict head line Is [] 0 out' (tally_of verdict [])
  none out out' empty written = record {
    files = [];
    each = tt;
    lines = written ∙ ap (λ o. o ++ head) empty ∙ sym (append-nil head);
    tally_is = refl;
    counted = omega arith;
  }

-- Lines behind lines.
use Rattle.std.proofs.Common.{◌≡◌, ◌∙◌, ◌++◌, ◌∷◌, [], ℕ, List, ap, ap₂, sym, append_assoc, codes}
use Rattle.std.proofs.lemmas.List.Concat.{flat_map-append}
use Rattle.std.specs.Prelude.{OnOk, Result, Ok, Err}
use Rattle.setup_report.specs.Report.{terminated}
use Rattle.command_policy_text.specs.Texts.{all_lines_text}

pub on_ok : {A E : Type 0} (P Q : Type 0) → (P → Q) → (r : Result A E) → OnOk r P → OnOk r Q
on_ok P Q f (Ok a) h = f h
on_ok P Q f (Err e) h = h

pub three : (a b c : List (List ℕ)) (start one two all : List ℕ) → one ≡ start ++ all_lines_text a → two ≡ one ++ all_lines_text b → all ≡ two ++ all_lines_text c →
    all ≡ start ++ all_lines_text (a ++ (b ++ c))
three a b c start one two all h1 h2 h3 =
    h3 ∙ ap (λ s. s ++ all_lines_text c) h2 ∙ append_assoc one (all_lines_text b) (all_lines_text c)
    ∙ ap (λ s. s ++ (all_lines_text b ++ all_lines_text c)) h1 ∙ append_assoc start (all_lines_text a) (all_lines_text b ++ all_lines_text c)
    ∙ ap (λ l. start ++ l) (sym (flat_map-append terminated a (b ++ c) ∙ ap (λ l. all_lines_text a ++ l) (flat_map-append terminated b c)))

pub four : (a b c d : List (List ℕ)) (start one two three_of all : List ℕ) → one ≡ start ++ all_lines_text a → two ≡ one ++ all_lines_text b →
    three_of ≡ two ++ all_lines_text c → all ≡ three_of ++ all_lines_text d → all ≡ start ++ all_lines_text (a ++ (b ++ (c ++ d)))
four a b c d start one two three_of all h1 h2 h3 h4 =
    three a b (c ++ d) start one two all h1 h2
    (h4 ∙ ap (λ s. s ++ all_lines_text d) h3 ∙ append_assoc two (all_lines_text c) (all_lines_text d) ∙ ap (λ l. two ++ l) (sym (flat_map-append terminated c d)))

-- three lines, each of which ends in a word
pub three_words : (v g s zeroth first second : List ℕ) → v ≡ zeroth → g ≡ first → s ≡ second →
    codes "policy " ++ (v ++ (codes "\nseL4_grant " ++ (g ++ (codes "\ncalls_succeed " ++ (s ++ codes "\n")))))
    ≡ all_lines_text ((codes "policy " ++ zeroth) ∷ (codes "seL4_grant " ++ first) ∷ (codes "calls_succeed " ++ second) ∷ [])
three_words v g s zeroth first second is_zeroth is_first is_second =
    ap (λ w. codes "policy " ++ (w ++ (codes "\nseL4_grant " ++ (g ++ (codes "\ncalls_succeed " ++ (s ++ codes "\n")))))) is_zeroth
    ∙ ap₂ (λ x y. codes "policy " ++ (zeroth ++ (codes "\nseL4_grant " ++ (x ++ (codes "\ncalls_succeed " ++ (y ++ codes "\n")))))) is_first is_second
    ∙ sym (ap (λ l. codes "policy " ++ l) (append_assoc zeroth (10 ∷ []) (codes "seL4_grant " ++ ((first ++ 10 ∷ []) ++ (codes "calls_succeed " ++ ((second ++ 10 ∷ []) ++ [])))))
    ∙ ap (λ l. codes "policy " ++ (zeroth ++ (codes "\nseL4_grant " ++ l))) (append_assoc first (10 ∷ []) (codes "calls_succeed " ++ ((second ++ 10 ∷ []) ++ [])))
    ∙ ap (λ l. codes "policy " ++ (zeroth ++ (codes "\nseL4_grant " ++ (first ++ (codes "\ncalls_succeed " ++ l))))) (append_assoc second (10 ∷ []) []))

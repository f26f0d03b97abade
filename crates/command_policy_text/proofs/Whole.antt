-- The parts of the text, one behind the other, and its numbers.
use Rattle.std.proofs.Common.{◌≡◌, ℕ, ◌==◌, Bool, true, false, cond, List, [], ◌∷◌, ◌++◌, ◌+◌, map, length, refl, sym, ap, ◌∙◌, append_assoc, append-nil, string_bytes, String, Global, arith}
use Rattle.std.specs.Prelude.{count_by}
use Rattle.std.specs.List.{flat_map}
use Rattle.std.proofs.lemmas.Bool.{eqb-true}
use Rattle.std.proofs.lemmas.List.{length-append, length-map}
use Rattle.std.proofs.lemmas.List.Folds.{flat_map-map}
use Rattle.kernel_abstract.specs.declared.call.Reply.{Reply}
use Rattle.setup_format.specs.Views.{SetupView}
use Rattle.setup_report.specs.Report.{terminated}
use Rattle.command_core.specs.declared.fault.Verdict.{Verdict}
use Rattle.command_core.specs.declared.fault.Verdict.TheVariants.{AllMet, NotMet}
use Rattle.command_policy_breaches.specs.declared.joining.Join.{Join}
use Rattle.command_policy_breaches.specs.declared.held.Home.{Home}
use Rattle.setup_policy.specs.declared.policy.Labels.{Labels}
use Rattle.command_policy_breaches.specs.declared.held.Layout.{Layout}
use Rattle.setup_policy.specs.declared.policy.Policy.{Policy}
use Rattle.command_policy_text.specs.declared.text.Counts.{Counts}
use Rattle.command_policy_text.specs.declared.told.Told.{Told}
use Rattle.command_policy_breaches.specs.declared.ways.Passage.{Passage}
use Rattle.command_policy_text.specs.Kinds.{breach_kinds, joined_breaches, grants, thread_breaches, regions, uses, badge_breaches, right_breaches, passage_breaches, waiting_breaches, take_breaches as takes_told}
use Rattle.command_policy_text.specs.Order.{firsts_in_order}
use Rattle.command_policy_text.specs.Texts.{text, text_and_verdict, verdict_by_count, policy_head_line, last_line, all_lines_text, text_itself, first_lines, calls_breached, breach_text, breaches, breaches_with_places, lines_of_kind, lines_with_places, part_breaches, use_breaches, way_breaches, take_breaches, unused, breach_count, counts}
use Rattle.command_policy_text.specs.Told.{line_told}
use Rattle.command_policy_text.proofs.Firsts.{as_many_firsts}
use Rattle.command_policy_breaches.specs.Ways.{is_between_parts}

-- lines behind a text
pub lines_behind : (xs : List (String Global)) (ls : List (List ℕ)) (before after : List ℕ) → map string_bytes xs ≡ ls →
    after ≡ before ++ flat_map (λ s. terminated (string_bytes s)) xs → after ≡ before ++ all_lines_text ls
lines_behind xs ls before after e a = a ∙ ap (λ t. before ++ t) (sym (flat_map-map terminated string_bytes xs) ∙ ap (λ l. flat_map terminated l) e)

-- whole lines behind a text
pub whole_behind : (xs : List (String Global)) (ls : List (List ℕ)) (before after : List ℕ) → map string_bytes xs ≡ ls →
    after ≡ before ++ flat_map (λ s. text_itself (string_bytes s)) xs → after ≡ before ++ flat_map text_itself ls
whole_behind xs ls before after e a = a ∙ ap (λ t. before ++ t) (sym (flat_map-map text_itself string_bytes xs) ∙ ap (λ l. flat_map text_itself l) e)

pub as_many : (xs : List (String Global)) (ls : List (List ℕ)) → map string_bytes xs ≡ ls → length xs ≡ length ls
as_many xs ls e = sym (length-map xs string_bytes) ∙ ap length e

-- five pieces and a sixth, each behind those before
pub six : (a b c d e f s1 s2 s3 s4 s5 s6 : List ℕ) → s1 ≡ a → s2 ≡ s1 ++ b → s3 ≡ s2 ++ c → s4 ≡ s3 ++ d → s5 ≡ s4 ++ e → s6 ≡ s5 ++ f →
    s6 ≡ a ++ (b ++ (c ++ (d ++ (e ++ f))))
six a b c d e f s1 s2 s3 s4 s5 s6 h1 h2 h3 h4 h5 h6 =
    h6 ∙ ap (λ s. s ++ f) h5 ∙ append_assoc s4 e f
    ∙ ap (λ s. s ++ (e ++ f)) h4 ∙ append_assoc s3 d (e ++ f)
    ∙ ap (λ s. s ++ (d ++ (e ++ f))) h3 ∙ append_assoc s2 c (d ++ (e ++ f))
    ∙ ap (λ s. s ++ (c ++ (d ++ (e ++ f)))) h2 ∙ append_assoc s1 b (c ++ (d ++ (e ++ f)))
    ∙ ap (λ s. s ++ (b ++ (c ++ (d ++ (e ++ f))))) h1

-- numbers that are those of the last line, in its place
pub counted : (c : Policy) (l : Layout) (n : Labels) (hs : List Home) (js : List Join) (ws : List Passage) (setup : SetupView) (replies : List Reply)
    (groups parts ways taken text_and_verdict others idle : ℕ) → groups ≡ length c.groups.items → parts ≡ length l.parts.items → ways ≡ count_by is_between_parts ws →
    taken ≡ length l.takes.items → text_and_verdict ≡ length (calls_breached c setup replies) → others ≡ length (breaches c l n hs js ws) → idle ≡ length (unused c l n hs) →
    ◌≡◌ {A = Counts} (record { groups = groups; parts = parts; ways = ways; takes = taken; breaches = text_and_verdict + others; unused = idle }) (counts c l n hs js ws setup replies)
counted c l n hs js ws setup replies groups parts ways taken text_and_verdict others idle g p w k t o i = cc

-- ---- a text for each line of a breach

module _ (places : Told → List ℕ) (c : Policy) (l : Layout) (n : Labels) (hs : List Home) where
  as_many_of_kind : (told : List Told) → length (lines_with_places places c l n hs told) ≡ length (lines_of_kind c l n hs told)
  as_many_of_kind told =
      length-map (firsts_in_order (line_told c l n hs) told) (breach_text places)
      ∙ as_many_firsts (line_told c l n hs) told

  as_many_of_kinds : (kinds : List (List Told)) → length (flat_map (lines_with_places places c l n hs) kinds) ≡ length (flat_map (lines_of_kind c l n hs) kinds)
  as_many_of_kinds [] = refl
  as_many_of_kinds (k ∷ kinds) =
      length-append (lines_with_places places c l n hs k) (flat_map (lines_with_places places c l n hs) kinds)
      ∙ ap (λ m. m + length (flat_map (lines_with_places places c l n hs) kinds)) (as_many_of_kind k)
      ∙ ap (λ m. length (lines_of_kind c l n hs k) + m) (as_many_of_kinds kinds)
      ∙ sym (length-append (lines_of_kind c l n hs k) (flat_map (lines_of_kind c l n hs) kinds))

-- ten lists, in one row
in_one_row : {X : Type 0} (a1 a2 a3 a4 a5 a6 a7 a8 a9 a10 : List X) →
    (a1 ++ (a2 ++ (a3 ++ a4))) ++ ((a5 ++ (a6 ++ a7)) ++ ((a8 ++ a9) ++ a10))
    ≡ a1 ++ (a2 ++ (a3 ++ (a4 ++ (a5 ++ (a6 ++ (a7 ++ (a8 ++ (a9 ++ (a10 ++ [])))))))))
in_one_row a1 a2 a3 a4 a5 a6 a7 a8 a9 a10 =
    append_assoc a1 (a2 ++ (a3 ++ a4)) ((a5 ++ (a6 ++ a7)) ++ ((a8 ++ a9) ++ a10))
    ∙ ap (λ t. a1 ++ t) (append_assoc a2 (a3 ++ a4) ((a5 ++ (a6 ++ a7)) ++ ((a8 ++ a9) ++ a10)))
    ∙ ap (λ t. a1 ++ (a2 ++ t)) (append_assoc a3 a4 ((a5 ++ (a6 ++ a7)) ++ ((a8 ++ a9) ++ a10)))
    ∙ ap (λ t. a1 ++ (a2 ++ (a3 ++ (a4 ++ t)))) (append_assoc a5 (a6 ++ a7) ((a8 ++ a9) ++ a10) ∙ ap (λ t. a5 ++ t) (append_assoc a6 a7 ((a8 ++ a9) ++ a10)))
    ∙ ap (λ t. a1 ++ (a2 ++ (a3 ++ (a4 ++ (a5 ++ (a6 ++ (a7 ++ t))))))) (append_assoc a8 a9 a10 ∙ ap (λ t. a8 ++ (a9 ++ t)) (sym (append-nil a10)))

-- the lines of breaches are those of all kinds
all_kinds : (c : Policy) (l : Layout) (n : Labels) (hs : List Home) (js : List Join) (ws : List Passage) →
    breaches c l n hs js ws ≡ flat_map (lines_of_kind c l n hs) (breach_kinds c l hs js ws)
unfolding breaches
all_kinds c l n hs js ws =
    in_one_row (lines_of_kind c l n hs (joined_breaches l)) (lines_of_kind c l n hs (grants l js)) (lines_of_kind c l n hs (thread_breaches c l))
    (lines_of_kind c l n hs (regions c l)) (lines_of_kind c l n hs (uses c l)) (lines_of_kind c l n hs (badge_breaches c l)) (lines_of_kind c l n hs (right_breaches c l))
    (lines_of_kind c l n hs (passage_breaches c l hs ws)) (lines_of_kind c l n hs (waiting_breaches c l)) (lines_of_kind c l n hs (takes_told c l))

-- there are as many texts as lines of breaches
pub as_many_breaches : (places : Told → List ℕ) (c : Policy) (l : Layout) (n : Labels) (hs : List Home) (js : List Join) (ws : List Passage) →
    length (breaches_with_places places c l n hs js ws) ≡ length (breaches c l n hs js ws)
unfolding breaches_with_places
as_many_breaches places c l n hs js ws =
    as_many_of_kinds places c l n hs (breach_kinds c l hs js ws) ∙ sym (ap (λ (b : List (List ℕ)). length b) (all_kinds c l n hs js ws))

-- ---- all of it

-- the pieces of the text, and the verdict, are what is told
pub all_told : (places : Told → List ℕ) (c : Policy) (l : Layout) (n : Labels) (hs : List Home) (js : List Join) (ws : List Passage) (setup : SetupView) (replies : List Reply)
    (made : List ℕ) (verdict : Verdict) →
    made ≡ policy_head_line c.version setup (length replies) ++ (all_lines_text (first_lines c l n hs) ++ (all_lines_text (calls_breached c setup replies)
    ++ (flat_map text_itself (breaches_with_places places c l n hs js ws) ++ (all_lines_text (unused c l n hs) ++ last_line c.version (counts c l n hs js ws setup replies))))) →
    verdict ≡ verdict_by_count (breach_count c l n hs js ws setup replies) →
    ◌≡◌ {A = List ℕ × Verdict} (made, verdict) (text_and_verdict places c l n hs js ws setup replies)
unfolding text text_and_verdict
all_told places c l n hs js ws setup replies made verdict m v = ap (λ b. (b, verdict)) m ∙ ap (λ w. (text places c l n hs js ws setup replies, w)) v

-- ---- nothing is broken

met_where : (b : Bool) → cond b AllMet NotMet ≡ AllMet → b ≡ true
met_where true h = refl
met_where false h = cc

no_length : {X : Type 0} (xs : List X) → length xs ≡ 0 → xs ≡ []
no_length [] h = refl
no_length (x ∷ xs) h = cc

no_more : (m n : ℕ) → m + n ≡ 0 → n ≡ 0
no_more m n h = omega (arith, h)

-- where nothing is broken, the text is one and the same, whatever would stand below a breach
pub placeless : (some others : Told → List ℕ) (c : Policy) (l : Layout) (n : Labels) (hs : List Home) (js : List Join) (ws : List Passage) (setup : SetupView) (replies : List Reply)
    (made : List ℕ) → ◌≡◌ {A = List ℕ × Verdict} (made, AllMet) (text_and_verdict some c l n hs js ws setup replies) →
    ◌≡◌ {A = List ℕ × Verdict} (made, AllMet) (text_and_verdict others c l n hs js ws setup replies)
unfolding text text_and_verdict
placeless some others c l n hs js ws setup replies made is =
    let met = met_where (breach_count c l n hs js ws setup replies == 0) (sym (ap (λ (t : List ℕ × Verdict). t.1) is)) in
    let none = no_more (length (calls_breached c setup replies)) (length (breaches c l n hs js ws)) (eqb-true (breach_count c l n hs js ws setup replies) 0 met) in
    let same = no_length (breaches_with_places some c l n hs js ws) (as_many_breaches some c l n hs js ws ∙ none)
    ∙ sym (no_length (breaches_with_places others c l n hs js ws) (as_many_breaches others c l n hs js ws ∙ none)) in
    is ∙ ap (λ (t : List (List ℕ)). (
      policy_head_line c.version setup (length replies) ++ (all_lines_text (first_lines c l n hs) ++ (all_lines_text (calls_breached c setup replies)
          ++ (flat_map text_itself t ++ (all_lines_text (unused c l n hs) ++ last_line c.version (counts c l n hs js ws setup replies))))),
      verdict_by_count (breach_count c l n hs js ws setup replies),
    )) same

-- The threads at home in a part are those that lie in its memory.
use Rattle.std.proofs.Common.{◌≡◌, ℕ, Bool, true, false, cond, ◌==◌, List, [], ◌∷◌, ◌++◌, map, filter, Option, Some, None, option_map, refl, ap, ◌∙◌}
use Rattle.std.specs.List.{cons_option, filter_map, flat_map}
use Rattle.query_parts.specs.declared.listed.PartMemory.{PartMemory}
use Rattle.query_parts.specs.Listed.{part_at}
use Rattle.setup_report.specs.Naming.{Texts}
use Rattle.command_parts.specs.declared.telling.Home.{Home}
use Rattle.command_parts.specs.Takes.{is_part}
use Rattle.command_parts.specs.Telling.{PartTexts, home_of, part_texts, threads_at_home, threads_in, threads_or_number}

-- one thread more, by the part in which it lies
one_more : (thread part : ℕ) (at : Option ℕ) (homes : List Home) (rest : List ℕ) → threads_at_home homes part ≡ rest →
    threads_at_home (cons_option (option_map (λ (i : ℕ). record { thread = thread; part = i }) at) homes) part ≡ cond (is_part part at) (thread ∷ rest) rest
one_more thread part None homes rest is = is
one_more thread part (Some i) homes rest is =
    elim (i == part) as (λ b. map (λ (h : Home). h.thread) (cond b (record { thread = thread; part = i } ∷ filter (λ (h : Home). h.part == part) homes) (filter (λ (h : Home). h.part == part) homes)) ≡ cond b (thread ∷ rest) rest) [
      | true ↦ ap (λ (l : List ℕ). thread ∷ l) is
      | false ↦ is
    ]

at_home : (memory : List PartMemory) (threads : List ℕ) (part : ℕ) → threads_at_home (filter_map (home_of memory) threads) part ≡ threads_in memory threads part
at_home memory [] part = refl
at_home memory (thread ∷ threads) part =
    one_more thread part (part_at memory thread) (filter_map (home_of memory) threads) (threads_in memory threads part) (at_home memory threads part)

chosen : (by_name : Bool) (memory : List PartMemory) (threads : List ℕ) (part : ℕ) →
    threads_at_home (cond by_name (filter_map (home_of memory) threads) []) part ≡ cond by_name (threads_in memory threads part) []
chosen true memory threads part = at_home memory threads part
chosen false memory threads part = refl

-- how parts are told by where threads live
pub told_at_home : (texts : Texts) (memory : List PartMemory) (threads : List ℕ) (homes : List Home) → homes ≡ cond texts.by_name (filter_map (home_of memory) threads) [] →
    ◌≡◌ {A = PartTexts} (record { texts = texts; part = λ (part : ℕ). threads_or_number texts part (threads_at_home homes part) }) (part_texts texts memory threads)
told_at_home texts memory threads homes is =
    λ i. record {
      texts = texts;
      part = λ (part : ℕ). threads_or_number texts part ((ap (λ (l : List Home). threads_at_home l part) is ∙ chosen texts.by_name memory threads part) i);
    }

-- the lines of the threads at home in a part are those of the threads that lie in its memory
line_if : {X : Type 0} (line : ℕ → List X) (thread : ℕ) (is : Bool) (here : List ℕ) (lines : List X) → flat_map line here ≡ lines →
    flat_map line (cond is (thread ∷ here) here) ≡ cond is (line thread) [] ++ lines
line_if line thread true here lines same = ap (λ l. line thread ++ l) same
line_if line thread false here lines same = same

lines_in : {X : Type 0} (line : ℕ → List X) (memory : List PartMemory) (part : ℕ) (threads : List ℕ) →
    flat_map line (threads_in memory threads part) ≡ flat_map (λ thread. cond (is_part part (part_at memory thread)) (line thread) []) threads
lines_in line memory part [] = refl
lines_in line memory part (thread ∷ threads) =
    line_if line thread (is_part part (part_at memory thread)) (threads_in memory threads part) _ (lines_in line memory part threads)

pub lines_at_home : {X : Type 0} (line : ℕ → List X) (memory : List PartMemory) (part : ℕ) (threads : List ℕ) →
    flat_map line (threads_at_home (filter_map (home_of memory) threads) part)
    ≡ flat_map (λ thread. cond (is_part part (part_at memory thread)) (line thread) []) threads
lines_at_home line memory part threads = ap (flat_map line) (at_home memory threads part) ∙ lines_in line memory part threads

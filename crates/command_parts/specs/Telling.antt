-- How the text of parts writes threads, endpoints and parts.
use Rattle.std.specs.Prelude.{codes, ℕ, ◌==◌, cond, List, [], ◌∷◌, ◌++◌, map, filter, Option, option_map, string_bytes}
use Rattle.std.specs.List.{flat_map}
use Rattle.std.specs.Fmt.{decimal}
use Rattle.query_parts.specs.declared.listed.PartMemory.{PartMemory}
use Rattle.query_parts.specs.Listed.{part_at}
use Rattle.setup_report.specs.Naming.{Texts, naming_view}
use Rattle.command_parts.specs.declared.telling.Home.{Home}
use Rattle.command_parts.specs.declared.telling.PartNaming.{PartNaming}
use Rattle.command_parts.specs.declared.telling.PartTold.{PartTold}
use Rattle.command_parts.specs.declared.telling.PartTold.TheVariants.{Number, Threads}
use Rattle.command_parts.specs.Takes.{is_part}

-- the texts of threads and endpoints, and of a part by its number
pub record PartTexts : Type 0 where
  pub texts : Texts
  pub part : ℕ → List ℕ

-- those of some threads that lie in a part's memory
abbrev pub threads_in : List PartMemory → List ℕ → ℕ → List ℕ
threads_in memory threads part = filter (λ thread. is_part part (part_at memory thread)) threads

abbrev pub thread_behind : Texts → ℕ → List ℕ
thread_behind texts thread = codes "+" ++ texts.about thread

-- threads, with a `+` between two of them; if there is none, the number of their part
abbrev pub threads_or_number : Texts → ℕ → List ℕ → List ℕ
threads_or_number texts part [] = decimal part
threads_or_number texts part (thread ∷ more) = texts.about thread ++ flat_map (thread_behind texts) more

-- a part is named by the threads in its memory, if names stand in place of addresses; these are the live threads
abbrev pub part_texts : Texts → List PartMemory → List ℕ → PartTexts
part_texts texts memory threads = record {
  texts = texts;
  part = λ part. threads_or_number texts part (cond texts.by_name (threads_in memory threads part) []);
}

-- ---- what the code has of them

-- a thread and the part in whose memory it lies
abbrev pub home_of : List PartMemory → ℕ → Option Home
home_of memory thread = option_map (λ part. record { thread = thread; part = part }) (part_at memory thread)

abbrev pub threads_at_home : List Home → ℕ → List ℕ
threads_at_home homes part = map (λ (h : Home). h.thread) (filter (λ (h : Home). h.part == part) homes)

-- the texts by which the code writes
abbrev pub part_naming_view : PartNaming → PartTexts
part_naming_view n = record {
  texts = naming_view n.naming.now;
  part = λ part. threads_or_number (naming_view n.naming.now) part (threads_at_home n.homes.items part);
}

-- one part as it is written
abbrev pub part_told_as : PartTold → List ℕ
part_told_as (Number part) = decimal part
part_told_as (Threads text) = string_bytes text

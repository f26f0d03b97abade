-- Which threads words mean, and which of the live threads may go on to make calls.
use Rattle.std.specs.Prelude.{ℕ, not, Bool, ◌&&◌, List, map, filter}
use Rattle.std.specs.Borrow.{Bor}
use Rattle.cap_core.specs.declared.profile.ProfileName.{ProfileName}
use Rattle.kernel_abstract.specs.Plan.{Plan}
use Rattle.kernel_abstract.specs.Shown.{Shown}
use Rattle.setup_values.specs.Names.{Names}
use Rattle.setup_report.specs.declared.meanings.meant.ObjectKind.{ObjectKind}
use Rattle.setup_report.specs.declared.meanings.meant.ObjectKind.TheVariants.{Thread}
use Rattle.setup_report.specs.Meant.{are_meant, objects_meant}
use Rattle.setup_report.specs.State.{is_in, rising, threads}
use Rattle.command_parts.specs.declared.threads.Trust.{Trust}

-- the objects of a kind that some words stand for, rising
abbrev pub objects_named : ObjectKind → ProfileName → Names → Plan → Shown → List (List ℕ) → List ℕ
objects_named kind p names plan v texts = rising (objects_meant kind p names plan v texts)

-- the words for the threads that are trusted: to make no more calls, and only to send and receive
pub record Trusted : Type 0 where
  pub without : List (List ℕ)
  pub messages : List (List ℕ)

-- who is trusted and how, with the words as lists of characters
abbrev pub trusted_by : Trust → Trusted
trusted_by trust = record {
  without = map (λ (w : Bor (List ℕ)). w.now) trust.without.now;
  messages = map (λ (w : Bor (List ℕ)). w.now) trust.messages.now;
}

-- each of these words stands for a thread
abbrev pub are_trusted : ProfileName → Names → Plan → Shown → Trusted → Bool
are_trusted p names plan v trust = are_meant Thread p names plan v trust.without && are_meant Thread p names plan v trust.messages

-- the live threads that are not trusted
abbrev pub callers : ProfileName → Shown → List ℕ → List ℕ
callers p v trusted = filter (λ thread. not (is_in thread trusted)) (threads p v)

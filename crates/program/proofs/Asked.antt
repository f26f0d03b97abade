-- What is asked with words is what their texts ask.
use Rattle.std.proofs.Common.{◌≡◌, ◌∙◌, ℕ, Bool, List, Option, ap}
use Rattle.clap.specs.Walk.{texts}
use Rattle.command_parts.specs.declared.threads.Trust.{Trust}
use Rattle.command_parts.specs.Threads.{Trusted, trusted_by}
use Rattle.command_never.specs.declared.asking.Question.{Question}
use Rattle.command_never.specs.Question.{Asked, asked_never}
use Rattle.command_how_witness.specs.declared.asked.Happening.{Happening}
use Rattle.command_how.specs.declared.asking.How.{How}
use Rattle.command_how.specs.How.{Words, how_words}

abbrev trusting : List (List ℕ) → List (List ℕ) → Trusted
trusting without messages = record { without = without; messages = messages }

pub trusted_as : (trust : Trust) (most : Trusted) → texts trust.without.now ≡ most.without → texts trust.messages.now ≡ most.messages → trusted_by trust ≡ most
trusted_as trust most without messages =
    ap (λ w. trusting w (texts trust.messages.now)) without ∙ ap (trusting most.without) messages

pub asked_as : (question : Question) (asked : Asked) → trusted_by question.trust ≡ asked.trust → question.from.now ≡ asked.from → question.to.now ≡ asked.to
    → texts question.by.now ≡ asked.by → question.names ≡ asked.by_name → asked_never question ≡ asked
asked_as question asked trust from to by names =
    ap (λ (it : Trusted). record (asked_never question) { trust = it }) trust
    ∙ ap (λ (it : List ℕ). record (asked_never question) { trust = asked.trust; from = it }) from
    ∙ ap (λ (it : List ℕ). record (asked_never question) { trust = asked.trust; from = asked.from; to = it }) to
    ∙ ap (λ (it : List (List ℕ)). record (asked_never question) { trust = asked.trust; from = asked.from; to = asked.to; by = it }) by
    ∙ ap (λ (it : Bool). record asked { by_name = it }) names

pub how_as : (how : How) (words : Words) → how.what ≡ words.what → how.from.now ≡ words.from → how.to.now ≡ words.to
    → texts how.by.now ≡ words.by → how.badge ≡ words.badge → texts how.without.now ≡ words.without → how.states ≡ words.states → how_words how ≡ words
how_as how words what from to by badge without states =
    ap (λ (it : Happening). record (how_words how) { what = it }) what
    ∙ ap (λ (it : List ℕ). record (how_words how) { what = words.what; from = it }) from
    ∙ ap (λ (it : List ℕ). record (how_words how) { what = words.what; from = words.from; to = it }) to
    ∙ ap (λ (it : List (List ℕ)). record (how_words how) { what = words.what; from = words.from; to = words.to; by = it }) by
    ∙ ap (λ it. record (how_words how) { what = words.what; from = words.from; to = words.to; by = words.by; badge = it }) badge
    ∙ ap (λ (it : List (List ℕ)). record (how_words how) { what = words.what; from = words.from; to = words.to; by = words.by; badge = words.badge; without = it }) without
    ∙ ap (λ (it : Option ℕ). record words { states = it }) states

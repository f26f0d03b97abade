-- The table that bytes are migrated to, where they are a set-up of the first format, and what it is read as.
use Rattle.std.proofs.Common.{◌≡◌, ℕ, ℤ, pos, negsuc, true, List, Option, Some, None, Ok, refl, sym, ap, ◌∙◌, inl, inr, arith}
use Rattle.std.proofs.lemmas.Bool.{cases_Bool}
use Rattle.std.proofs.lemmas.Bool.Decides.{nat_tests}
use Rattle.toml.specs.Data.{as_integer}
use Rattle.setup_values.specs.Kinds.{between, number, number_in}
use Rattle.setup_format.specs.Limits.{first_format, newest_format}
use Rattle.setup_format.specs.declared.fault.Place.TheVariants as places
use Rattle.std.specs.Prelude.{codes}
use Rattle.toml.specs.Data.{Members}
use Rattle.kernel_abstract.specs.Plan.{IsPlan}
use Rattle.setup_format.specs.Setups.{document_of, first_format_setup_of, first_format_setup_of_bytes, setup_of, setup_of_bytes, setup_up_to}
use Rattle.setup_format.specs.Views.{SetupView}
use Rattle.setup_migrate.specs.Migration.{migrated, migrated_bytes}
use Rattle.setup_migrate.proofs.Law.Follows.{Follows, same, after, required_follows, together}
use Rattle.setup_format.proofs.Grammar.Parts.{no_answer}
use Rattle.setup_migrate.proofs.Law.Setups.{same_setup}

-- a table that was rewritten by the profile and the plan of the set-up that it was read as
pub record IsRewritten (bytes : List ℕ) (t u : Members) (s : SetupView) : Type 0 where
  pub document : document_of bytes ≡ Ok t
  pub read : first_format_setup_of t ≡ Ok s
  pub rewritten : u ≡ migrated s.profile s.plan t

pub table_of_bytes : (bytes : List ℕ) (t u : Members) (s : SetupView) → IsRewritten bytes t u s → migrated_bytes bytes ≡ Ok u
unfolding migrated_bytes
table_of_bytes bytes t u s h = together _ _ t u h.document (together _ _ s u h.read (ap Ok (sym h.rewritten)))

pub setup_of_table : (bytes : List ℕ) (t u : Members) (s : SetupView) → IsRewritten bytes t u s → IsPlan s.profile s.plan → setup_of u ≡ first_format_setup_of_bytes bytes
unfolding first_format_setup_of_bytes
setup_of_table bytes t u s h plan = ap setup_of h.rewritten ∙ (same_setup t s h.read plan ∙ sym (together _ _ t s h.document h.read))

-- ---- a set-up of the first format is read as the same by the reader of all formats

first_in : (o : Option ℤ) → Follows (number_in first_format first_format o) (number_in first_format newest_format o)
first_in None = same _
first_in (Some (negsuc n)) = same _
first_in (Some (pos n)) =
    elim (cases_Bool (between first_format first_format n)) [
      | inl first ↦ let newest : between first_format newest_format n ≡ true = grind (arith, nat_tests) in rw (first, newest) (same _)
      | inr other ↦ rw other (record { follows = λ x e. no_answer _ x e })
    ]

first_is_read : (t : Members) → Follows (first_format_setup_of t) (setup_of t)
unfolding setup_up_to
first_is_read t =
    after (required_follows places.Top t t (codes "format") (number first_format first_format) (number first_format newest_format) refl (λ d. first_in (as_integer d)))
    (λ format. same _)

first_bytes : (bytes : List ℕ) → Follows (first_format_setup_of_bytes bytes) (setup_of_bytes bytes)
unfolding first_format_setup_of_bytes setup_of_bytes
first_bytes bytes = after (same _) first_is_read

pub setup_as_read : (bytes : List ℕ) (t u : Members) (s : SetupView) → IsRewritten bytes t u s → IsPlan s.profile s.plan → setup_of u ≡ setup_of_bytes bytes
unfolding first_format_setup_of_bytes
setup_as_read bytes t u s h plan =
    let read : first_format_setup_of_bytes bytes ≡ Ok s = together _ _ t s h.document h.read in
    setup_of_table bytes t u s h plan ∙ (read ∙ sym ((first_bytes bytes).follows s read))

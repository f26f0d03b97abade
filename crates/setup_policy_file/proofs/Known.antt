-- A table in which no unknown key is found has only known ones.
use Rattle.std.proofs.Common.{◌≡◌, ℕ, List, [], ◌∷◌, map, not, true, Some, None, string_bytes, refl, inl, inr, arith}
use Rattle.std.proofs.lemmas.Bool.{cases_Bool}
use Rattle.std.specs.List.{find}
use Rattle.std.specs.Prelude.{String}
use Rattle.std.specs.declared.alloc.Global.{Global}
use Rattle.toml.specs.declared.value.Value.{Value}
use Rattle.toml.specs.View.{members_view}
use Rattle.setup_format.specs.Tables.{is_one_of}
use Rattle.setup_policy_file.specs.Files.{has_only}

pub only_known : (known : List (List ℕ)) (es : List (String Global × Value)) → find (λ k. not (is_one_of known (string_bytes k))) (map (λ e. e.0) es) ≡ None → has_only known (members_view es) ≡ true
only_known known [] none = refl
only_known known (e ∷ es) none =
    elim (cases_Bool (is_one_of known (string_bytes e.0))) [
      | inl listed ↦ rw listed (only_known known es (rw listed at none))
      | inr other ↦ let wrong : Some e.0 ≡ None = rw other at none in grind (arith, wrong)
    ]

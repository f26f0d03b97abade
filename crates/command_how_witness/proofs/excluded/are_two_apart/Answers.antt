-- The kernel's list of derivations is that of the forest it shows, in which each slot stands once.
use Rattle.std.proofs.Common.{◌≡◌, ◌⊎◌, ℕ, inr, ◌==◌, Bool, true, false, List, map, ap, ◌∙◌}
use Rattle.std.specs.List.{IsDistinct}
use Rattle.std.proofs.lemmas.Result.{IfOk-weaker}
use Rattle.kernel_forest.specs.Forest.{Forest}
use Rattle.kernel_forest.specs.Entries.{Entry, derivations_of, slots}
use Rattle.slot_core.specs.declared.derivations.Derivation.{Derivation}
use Rattle.slot_core.specs.Calls.{derivation_view}
use Rattle.query_parts.specs.declared.listed.PartUse.{PartUse}
use Rattle.query_parts.specs.Listed.{parts_listed}
use Rattle.query_parts.specs.Below.{StandsNoneBelow}
use Rattle.command_how_witness.specs.Excluded.{StandsOneBelow}
use Rattle.command_how_witness.specs.Private.{AreTwoApart}
use Rattle.command_how_witness.proofs.excluded.are_two_apart.Goals as goal

pub returns-clause-apart : goal.returns-clause-apart
returns-clause-apart g c =
    let p = g.P.Profile.profile in
    let memory = c.args.memory.now in
    let part = c.args.part in
    let other = c.args.other in
    IfOk-weaker c.stands_none_below.result
    (λ (is : Bool). is ≡ true → (uses : List PartUse) (f : Forest Entry) → map (derivation_view p) c.as_slice.result.now ≡ derivations_of f →
    IsDistinct (λ (a b : ℕ). a == b) (slots f) → StandsNoneBelow (parts_listed memory uses) part other f)
    (λ (is : Bool). is ≡ true → (uses : List PartUse) → AreTwoApart memory uses c.args.kernel.now part other)
    (λ is told yes uses. (
      c.if-part-other.false,
      told yes uses c.args.kernel.now.derivations (ap (λ (l : List Derivation). map (derivation_view p) l) c.as_slice.ensures.value ∙ c.in_ok-derivations.ensures.list)
          c.in_ok-derivations.ensures.apart,
    ))
    c.stands_none_below.ensures.none

pub returns-clause-below : goal.returns-clause-below
returns-clause-below g c =
    let p = g.P.Profile.profile in
    let memory = c.args.memory.now in
    let part = c.args.part in
    let other = c.args.other in
    IfOk-weaker c.stands_none_below.result
    (λ (is : Bool). is ≡ false → (f : Forest Entry) → map (derivation_view p) c.as_slice.result.now ≡ derivations_of f →
    IsDistinct (λ (a b : ℕ). a == b) (slots f) → StandsOneBelow memory part other f)
    (λ (is : Bool). is ≡ false → (part ≡ other) ⊎ StandsOneBelow memory part other c.args.kernel.now.derivations)
    (λ is told differs.
    inr (told differs c.args.kernel.now.derivations (ap (λ (l : List Derivation). map (derivation_view p) l) c.as_slice.ensures.value ∙ c.in_ok-derivations.ensures.list)
    c.in_ok-derivations.ensures.apart))
    c.stands_none_below.ensures.one

-- Lines at rising addresses rise, and of lines that stay there is nothing to tell.
use Rattle.std.proofs.Common.{◌≡◌, ℕ, ◌&&◌, true, cond, List, [], ◌∷◌, ◌++◌, Option, None, Some, refl, sym, ap, subst, ◌∙◌, eq-eqb, nat_eq}
use Rattle.std.specs.List.{AllByRecursion, flat_map}
use Rattle.std.specs.List.Sorted.{IsStrictlySortedBy}
use Rattle.std.specs.Ordering.{nat_cmp}
use Rattle.std.specs.declared.cmp.Ordering.TheVariants.{Less}
use lib.Pointwise.{pointwise}
use Rattle.setup_report.specs.State.{rising}
use Rattle.setup_report.proofs.Addresses.Rising.{sorted_rising}
use Rattle.command_trace.specs.Lines.{Lines, address_line, line_at, lines_at}
use Rattle.command_trace.specs.Changes.{StateLines, line_addresses, text_at, removed_line, added, change, change_at, line_changes, changes}
use Rattle.command_trace.specs.Told.{ToldLines, told_changes}

-- ---- lines at rising addresses rise

below_lines : (f : ℕ → Option (List ℕ)) (k : ℕ) (xs : List ℕ) → AllByRecursion (λ y. nat_cmp k y ≡ Less) xs → AllByRecursion (λ y. nat_cmp k y ≡ Less) (line_addresses (flat_map (line_at f) xs))
below_lines f k [] h = tt
below_lines f k (x ∷ xs) h =
    elim (f x) as (λ o. AllByRecursion (λ y. nat_cmp k y ≡ Less) (line_addresses (address_line x o ++ flat_map (line_at f) xs))) [
      | None ↦ below_lines f k xs h.1
      | Some t ↦ (h.0, below_lines f k xs h.1)
    ]

rises_lines : (f : ℕ → Option (List ℕ)) (xs : List ℕ) → IsStrictlySortedBy nat_cmp xs → IsStrictlySortedBy nat_cmp (line_addresses (flat_map (line_at f) xs))
unfolding IsStrictlySortedBy
rises_lines f [] h = tt
rises_lines f (x ∷ xs) h =
    elim (f x) as (λ o. IsStrictlySortedBy nat_cmp (line_addresses (address_line x o ++ flat_map (line_at f) xs))) [
      | None ↦ rises_lines f xs h.1
      | Some t ↦ (below_lines f x xs h.0, rises_lines f xs h.1)
    ]

pub rises_at : (f : ℕ → Option (List ℕ)) (xs : List ℕ) (l : Lines) → l ≡ lines_at f xs → IsStrictlySortedBy nat_cmp (line_addresses l)
rises_at f xs l is = subst (λ m. IsStrictlySortedBy nat_cmp (line_addresses m)) (sym is) (rises_lines f (rising xs) (sorted_rising xs))

-- ---- nothing is told of what stays

same_text : (t : List ℕ) → pointwise nat_eq t t ≡ true
same_text [] = refl
same_text (x ∷ t) = ap (λ b. b && pointwise nat_eq t t) (eq-eqb x x refl) ∙ same_text t

pub no_change : (o : Option (List ℕ)) → change o o ≡ []
no_change None = refl
no_change (Some t) = ap (λ b. cond b [] (removed_line (Some t) ++ added (Some t))) (same_text t)

none_at : (l : Lines) (xs : List ℕ) → flat_map (change_at l l) xs ≡ []
none_at l [] = refl
none_at l (x ∷ xs) = λ i. no_change (text_at x l) i ++ none_at l xs i

pub no_line_changes : (l m : Lines) → l ≡ m → line_changes l m ≡ []
no_line_changes l m is = ap (line_changes l) (sym is) ∙ none_at l (rising (line_addresses l ++ line_addresses l))

pub nothing_changes : (a b : StateLines) → a ≡ b → changes a b ≡ []
nothing_changes a b is =
    λ i. no_line_changes a.threads b.threads (ap (λ (s : StateLines). s.threads) is) i
    ++ (no_line_changes a.inboxes b.inboxes (ap (λ (s : StateLines). s.inboxes) is) i
    ++ (no_line_changes a.endpoints b.endpoints (ap (λ (s : StateLines). s.endpoints) is) i
    ++ (no_line_changes a.slots b.slots (ap (λ (s : StateLines). s.slots) is) i
    ++ no_line_changes a.selfheld b.selfheld (ap (λ (s : StateLines). s.selfheld) is) i)))

pub nothing_differs : (a b : ToldLines) → a ≡ b → told_changes a b ≡ []
nothing_differs a b is =
    λ i. nothing_changes a.state b.state (ap (λ (t : ToldLines). t.state) is) i
    ++ no_line_changes a.siblings b.siblings (ap (λ (t : ToldLines). t.siblings) is) i

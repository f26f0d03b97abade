-- The tables of a witness.
use Rattle.std.proofs.Common.{◌≡◌, ℕ, suc, ◌-◌, ◌<◌, ◌≤◌, length, get_or, List, [], ◌∷◌, Option, Some, None, IfSome, option_map, string_bytes, codes, Bor, refl, sym, ap, ◌∙◌, inl, inr, arith}
use Rattle.std.proofs.lemmas.Bool.{cases_Bool}
use Rattle.std.proofs.lemmas.Option.{none-some, same_Some}
use Rattle.std.specs.BTreeMap.{is_at}
use Rattle.std.specs.List.{AllZip}
use Rattle.std.specs.Map.{remove_entry}
use Rattle.std.specs.Prelude.{HoldsAt, MatchOption}
use Rattle.toml.proofs.Views.{get_item_within, get_item_past}
use Rattle.toml.specs.Data.{Data, Members, table, member, same_key, get_item, as_table}
use Rattle.toml.specs.View.{view, items_view, members_view}
use Rattle.toml.specs.declared.value.Value.{Value}
use Rattle.setup_migrate.proofs.Parts.{Entry, at_text}
use Rattle.command_explore.specs.Witnesses.{table_without, unexpecting}

-- clones of entries have the same data
pub cloned : (es fs : List Entry) → AllZip (λ (p q : Entry). (string_bytes q.0 ≡ string_bytes p.0) × (view q.1 ≡ view p.1)) es fs → members_view fs ≡ members_view es
cloned [] [] z = refl
cloned [] (f ∷ fs) z = absurd z
cloned (e ∷ es) [] z = absurd z
cloned (e ∷ es) (f ∷ fs) z = λ i. member (z.0.0 i) (z.0.1 i) (cloned es fs z.1 i)

pub view_without : (k : List ℕ) (es : List Entry) → members_view (remove_entry (is_at (at_text k)) es) ≡ table_without k (members_view es)
view_without k [] = refl
view_without k (x ∷ es) =
    elim (cases_Bool (same_key k (string_bytes x.0))) [
      | inl same ↦ simp same
      | inr other ↦ simp other (ap (member (string_bytes x.0) (view x.1)) (view_without k es))
    ]

-- what a slice holds at a place, as data
pub view_at : (r : Option (Bor Value)) (vs : List Value) (i : ℕ) → IfSome r (λ x. x.now ≡ get_or vs i x.now)
    → MatchOption r (length vs ≤ i) (λ x. (i < length vs) × HoldsAt (λ y. x.now ≡ y) vs i) → option_map (λ x. view x.now) r ≡ get_item i (items_view vs)
view_at None vs i same past = get_item_past vs i past
view_at (Some x) vs i same within = ap (λ v. Some (view v)) same ∙ get_item_within vs i x.now within.0

pub next : (n i : ℕ) → 1 ≤ n → i ≡ n - 1 → n ≡ suc i
next n i some e = omega arith

-- a call that is a table, and any other value
pub unexpecting_table : (d : Data) (ms : Members) → Some ms ≡ as_table d → unexpecting d ≡ table (table_without (codes "expect") ms)
unexpecting_table (table t) ms e = ap (λ u. table (table_without (codes "expect") u)) (sym (same_Some ms t e))
unexpecting_table d ms e = absurd (none-some ms (sym e))

pub unexpecting_none : (d : Data) → None ≡ as_table d → unexpecting d ≡ d
unexpecting_none (table t) e = absurd (none-some t e)
unexpecting_none d e = refl

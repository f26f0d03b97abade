-- The table of a set-up of which each call expects its reply.
use Rattle.std.proofs.Common.{◌≡◌, ℕ, suc, ◌+◌, ◌<◌, ◌≤◌, length, drop, get_or, List, [], ◌∷◌, ◌++◌, Option, Some, None, IfSome, option_map, map, codes, String, Global, string_bytes, Bor, refl, sym, ap, ◌∙◌, arith}
use Rattle.std.proofs.lemmas.List.{append_assoc, append-nil, map_push}
use Rattle.std.specs.List.{AllZip}
use Rattle.std.specs.Prelude.{HoldsAt, MatchOption}
use Rattle.toml.proofs.Views.{get_item_within, get_item_past}
use Rattle.std.proofs.lemmas.Option.{none-some, same_Some}
use Rattle.toml.specs.Data.{Data, string, Items, Members, member, get_item, table, as_table}
use Rattle.toml.specs.View.{view, items_view, members_view}
use Rattle.toml.specs.declared.value.Value.{Value}
use Rattle.kernel_abstract.specs.declared.call.Reply.{Reply}
use Rattle.std.specs.BTreeMap.{insert_entry}
use Rattle.std.specs.String.{string_cmp}
use Rattle.setup_migrate.proofs.Parts.{Entry, view_with}
use Rattle.setup_migrate.specs.Migration.{with_member}
use Rattle.command_marks.specs.Recorded.{answered, all_expecting, expecting, expectation_of, with_expectation}

-- clones of entries have the same data
pub cloned : (es fs : List Entry) → AllZip (λ (p q : Entry). (string_bytes q.0 ≡ string_bytes p.0) × (view q.1 ≡ view p.1)) es fs → members_view fs ≡ members_view es
cloned [] [] z = refl
cloned [] (f ∷ fs) z = absurd z
cloned (e ∷ es) [] z = absurd z
cloned (e ∷ es) (f ∷ fs) z = λ i. member (z.0.0 i) (z.0.1 i) (cloned es fs z.1 i)

-- what a slice holds at a place, as data
pub view_at : (r : Option (Bor Value)) (vs : List Value) (i : ℕ) → IfSome r (λ x. x.now ≡ get_or vs i x.now)
    → MatchOption r (length vs ≤ i) (λ x. (i < length vs) × HoldsAt (λ y. x.now ≡ y) vs i) → option_map (λ x. view x.now) r ≡ get_item i (items_view vs)
view_at None vs i same past = get_item_past vs i past
view_at (Some x) vs i same within = ap (λ v. Some (view v)) same ∙ get_item_within vs i x.now within.0

-- a reply more
pub answered_next : (calls : Items) (place : ℕ) (reply : Reply) (replies all : List Reply) (before after total : List Data)
    → before ++ all_expecting calls place all ≡ total → all ≡ reply ∷ replies → after ≡ before ++ answered (get_item place calls) reply
    → after ++ all_expecting calls (place + 1) replies ≡ total
answered_next calls place reply replies all before after total e same a =
    ap (λ t. t ++ all_expecting calls (place + 1) replies) a
    ∙ append_assoc before (answered (get_item place calls) reply) (all_expecting calls (place + 1) replies)
    ∙ ap (λ l. before ++ all_expecting calls place l) (sym same)
    ∙ e

-- a call that is a table, and any other value
pub expecting_table : (reply : Reply) (d : Data) (ms : Members) → Some ms ≡ as_table d → expecting reply d ≡ table (with_expectation reply ms)
expecting_table reply (table t) ms e = ap (λ u. table (with_expectation reply u)) (sym (same_Some ms t e))
expecting_table reply d ms e = absurd (none-some ms (sym e))

pub expecting_none : (reply : Reply) (d : Data) → None ≡ as_table d → expecting reply d ≡ d
expecting_none reply (table t) e = absurd (none-some t e)
expecting_none reply d e = refl

-- a call's table, behind the reply was put into it
pub expected : (es after : List Entry) (key text : String Global) (value : Value) (reply : Reply) → after ≡ insert_entry string_cmp es key value → string_bytes key ≡ codes "expect"
    → view value ≡ string (string_bytes text) → string_bytes text ≡ expectation_of reply → members_view after ≡ with_expectation reply (members_view es)
expected es after key text value reply e k v t =
    ap members_view e
    ∙ view_with es key value
    ∙ ap (λ n. with_member n (view value) (members_view es)) k
    ∙ ap (λ d. with_member (codes "expect") d (members_view es)) (v ∙ ap string t)

-- the call of a reply, where there is one, and where there is none
pub added : (calls : Items) (place : ℕ) (reply : Reply) (r : Option (Bor Value)) (call : Bor Value) (made after : List Value) (value : Value)
    → option_map (λ x. view x.now) r ≡ get_item place calls → r ≡ Some call → view value ≡ expecting reply (view call.now) → after ≡ made ++ value ∷ []
    → map view after ≡ map view made ++ answered (get_item place calls) reply
added calls place reply r call made after value at is seen a =
    ap (map view) a
    ∙ map_push view made value
    ∙ ap (λ d. map view made ++ d ∷ []) seen
    ∙ ap (λ o. map view made ++ answered o reply) (sym (ap (option_map (λ x. view x.now)) is) ∙ at)

pub none_added : (calls : Items) (place : ℕ) (reply : Reply) (r : Option (Bor Value)) (made : List Value)
    → option_map (λ x. view x.now) r ≡ get_item place calls → r ≡ None → map view made ≡ map view made ++ answered (get_item place calls) reply
none_added calls place reply r made at is =
    sym (append-nil (map view made)) ∙ ap (λ o. map view made ++ answered o reply) (sym (ap (option_map (λ x. view x.now)) is) ∙ at)

-- A set-up that makes the calls of one order.
use Rattle.std.specs.Prelude.{codes, ℕ, zero, suc, ◌+◌, ◌==◌, pos, Bool, cond, if◌then◌else◌, List, [], ◌∷◌, Option, None, Some, option_map}
use Rattle.std.specs.List.{flat_map}
use Rattle.toml.specs.Data.{Data, integer, array, table, Items, Members, no_members, member, same_key, get_item}
use Rattle.toml.specs.View.{items_of}
use Rattle.cap_core.specs.declared.profile.ProfileName.{ProfileName}
use Rattle.setup_format.specs.Limits.{newest_format}
use Rattle.setup_format.specs.Views.{SetupView}
use Rattle.setup_migrate.specs.Migration.{with_member, with_changed}
use Rattle.query_orders.specs.Answers.{Answered}
use Rattle.query_orders.specs.Ends.{StuckEnd}
use Rattle.command_explore.specs.declared.report.witness.Witness.{Witness}
use Rattle.command_explore.specs.declared.report.witness.Witness.TheVariants.{Answer, Stuck}
use Rattle.command_explore.specs.Numbers.{client_numbers_of, order_numbers}
use Rattle.command_explore.specs.Report.{exploration}
use Rattle.command_explore.specs.Text.{is_answer_of}
use Rattle.command_explore.specs.Views.{ExploredView}

-- ---- the order

-- the answer that the report tells in a call's line with this place, where the first line has this one
abbrev pub answer_numbered : List (List ℕ) → ℕ → ℕ → ℕ → List Answered → Option Answered
answer_numbered numbers number wanted place [] = None
answer_numbered numbers number wanted place (a ∷ answers) =
    cond (is_answer_of numbers number a) (cond (place == wanted) (Some a) (answer_numbered numbers number wanted (place + 1) answers)) (answer_numbered numbers number wanted place answers)

-- the way to end stuck that it tells with this place, where the first has this one
abbrev pub stuck_numbered : ℕ → ℕ → List StuckEnd → Option StuckEnd
stuck_numbered wanted place [] = None
stuck_numbered wanted place (s ∷ stuck) = cond (place == wanted) (Some s) (stuck_numbered wanted (place + 1) stuck)

-- the first order that tells what a witness is of
abbrev pub named_order : List (List ℕ) → ExploredView → Witness → Option (List ℕ)
named_order numbers e (Answer call place) = option_map (λ (a : Answered). a.order) (answer_numbered numbers call place 1 e.answers)
named_order numbers e (Stuck place) = option_map (λ (s : StuckEnd). s.order) (stuck_numbered place 1 e.stuck)

-- the number of the call whose expectation stays; 0, the number of none, for an order that ends stuck
abbrev pub expecting : Witness → ℕ
expecting (Answer call place) = call
expecting (Stuck place) = 0

-- ---- the table

-- a table without a key
abbrev pub table_without : List ℕ → Members → Members
table_without k no_members = no_members
table_without k (member l d ms) = if same_key k l then ms else member l d (table_without k ms)

-- a call without its expectation
abbrev pub unexpecting : Data → Data
unexpecting (table ms) = table (table_without (codes "expect") ms)
unexpecting d = d

abbrev pub call_as : Bool → Data → Data
call_as expects d = cond expects d (unexpecting d)

-- the call with a number, from 1 on
abbrev pub call_numbered : Items → ℕ → Option Data
call_numbered calls zero = None
call_numbered calls (suc n) = get_item n calls

abbrev pub call_where : Bool → Option Data → List Data
call_where expects None = []
call_where expects (Some d) = call_as expects d ∷ []

-- that call, where there is one, with its expectation if its number is this one
abbrev pub chosen_call : ℕ → Items → ℕ → List Data
chosen_call kept calls number = call_where (number == kept) (call_numbered calls number)

-- the calls with these numbers, in this order
abbrev pub chosen_calls : ℕ → List ℕ → Data → Data
chosen_calls kept numbers (array calls) = array (items_of (flat_map (chosen_call kept calls) numbers))
chosen_calls kept numbers d = d

-- the table of a set-up with these calls alone, in the newest format
abbrev pub with_calls : ℕ → List ℕ → Members → Members
with_calls kept numbers document =
    with_changed (codes "call") (chosen_calls kept numbers) (with_member (codes "format") (integer (pos newest_format)) document)

-- ---- the witness

-- that of the order which an exploration tells, where it tells one
abbrev pub witness_in : SetupView → ExploredView → Witness → Members → Option Members
witness_in setup e witness document =
    option_map (λ (order : List ℕ). with_calls (expecting witness) (order_numbers (client_numbers_of setup) [] order) document) (named_order (client_numbers_of setup) e witness)

-- the table of a set-up's document, with the calls of the first order that tells what the witness is of
unfoldable pub witness_of : ProfileName → SetupView → ℕ → ℕ → Witness → Members → Option Members
witness_of p setup first limit witness document = witness_in setup (exploration p setup first limit) witness document

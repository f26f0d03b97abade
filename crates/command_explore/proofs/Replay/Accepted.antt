-- The table of a witness is that of a set-up that makes the calls of the order that is told.
use Rattle.std.proofs.Common.{◌≡◌, ◌==◌, ◌++◌, ◌≤◌, ℕ, zero, suc, Bool, List, [], ◌∷◌, length, Option, None, Some, option_map, slice_get, refl, ap, sym, ◌∙◌, arith}
use Rattle.std.proofs.lemmas.List.{length-map}
use Rattle.std.proofs.lemmas.List.Concat.{flat_map-cons}
use Rattle.std.proofs.lemmas.Option.{none-some, same_Some}
use Rattle.std.specs.List.{flat_map}
use Rattle.toml.specs.Data.{Members}
use Rattle.kernel_abstract.specs.Boot.{boot}
use Rattle.setup_format.specs.Setups.{setup_of, names_of}
use Rattle.setup_format.specs.Views.{CallView, SetupView}
use Rattle.query_orders.specs.World.{start}
use Rattle.query_orders.specs.Laws.{calls_of_orders}
use Rattle.command_explore.specs.declared.report.witness.Witness.{Witness}
use Rattle.command_explore.specs.Clients.{calls_of_each}
use Rattle.command_explore.specs.Numbers.{client_numbers_of, order_numbers, view_numbered}
use Rattle.command_explore.specs.Witnesses.{named_order, expecting, with_calls, witness_of}
use Rattle.command_explore.specs.Replays.{view_as, view_where, chosen_views, called, explored, IsWitnessAccepted}
use Rattle.command_explore.proofs.NoLonger.{no_more_calls}
use Rattle.command_explore.proofs.Limits.{own-length}
use Rattle.command_explore.proofs.Replay.Picks.{picked, pick}
use Rattle.command_explore.proofs.Replay.Numbers.{numbers_make_calls}
use Rattle.command_explore.proofs.Replay.Plans.{plan_lawful}
use Rattle.command_explore.proofs.Replay.Setups.{chosen_setup, names_same}

view-picked : (kept : ℕ) (calls : List CallView) (number : ℕ) → pick view_as kept calls number ≡ view_where (number == kept) (view_numbered calls number)
view-picked kept calls zero = refl
view-picked kept calls (suc n) = by (suc n == kept) (slice_get calls n)
  where
    by : (b : Bool) (o : Option CallView) → picked view_as b o ≡ view_where b o
    by b None = refl
    by b (Some call) = refl

views-picked : (kept : ℕ) (calls : List CallView) (numbers : List ℕ) → flat_map (pick view_as kept calls) numbers ≡ chosen_views kept calls numbers
views-picked kept calls [] = refl
views-picked kept calls (n ∷ numbers) =
    flat_map-cons (pick view_as kept calls) n numbers
    ∙ (ap (λ l. l ++ flat_map (pick view_as kept calls) numbers) (view-picked kept calls n)
    ∙ (ap (λ l. view_where (n == kept) (view_numbered calls n) ++ l) (views-picked kept calls numbers)
    ∙ sym (flat_map-cons (λ number. view_where (number == kept) (view_numbered calls number)) n numbers)))

-- the calls that an order makes are no more than those of the set-up
no_more_views : (kept : ℕ) (setup : SetupView) (order : List ℕ) → length (chosen_views kept setup.calls (order_numbers (client_numbers_of setup) [] order)) ≤ length setup.calls
no_more_views kept setup order =
    let views = chosen_views kept setup.calls (order_numbers (client_numbers_of setup) [] order) in
    let A = boot setup.profile setup.plan in
    let a : length (called views) ≡ length views = length-map views (λ (c : CallView). (c.client, c.call)) in
    let b : length (called views) ≡ length (calls_of_orders setup.profile (calls_of_each setup) (start (calls_of_each setup) A) order) = ap length (numbers_make_calls kept setup.profile setup A order) in
    let d = no_more_calls setup.profile (calls_of_each setup) A order in
    let e = own-length setup in
    omega (arith, a, b, d, e)

-- what was made of something that is there
pub some_of : {X Y : Type 0} (f : X → Y) (o : Option X) (y : Y) → option_map f o ≡ Some y → (x : X) × (o ≡ Some x) × (f x ≡ y)
some_of f None y e = absurd (none-some y e)
some_of f (Some x) y e = (x, refl, same_Some (f x) y e)

pub witness_accepted : (setup : SetupView) (first limit : ℕ) (witness : Witness) (document table : Members) → IsWitnessAccepted setup first limit witness document table
unfolding witness_of
witness_accepted setup first limit witness document table sorted read told =
    let (order, named, is) = some_of (λ (order : List ℕ). with_calls (expecting witness) (order_numbers (client_numbers_of setup) [] order) document) (named_order (client_numbers_of setup) (explored setup first limit) witness) table told in
    let kept = expecting witness in
    let numbers = order_numbers (client_numbers_of setup) [] order in
    let same = views-picked kept setup.calls numbers in
    let bound = ap length same in
    let most = no_more_views kept setup order in
    let (made, accepted, has) = chosen_setup kept numbers document setup sorted read (omega (arith, bound, most)) in
    record {
      order = order;
      told = named;
      made = made;
      accepted = ap setup_of (sym is) ∙ accepted;
      lawful = plan_lawful document setup read;
      names = ap (λ x. names_of setup.profile x) (sym is) ∙ names_same kept numbers document setup.profile;
      makes =
          record {
            profile = has.profile;
            plan = has.plan;
            clients = has.clients;
            limit = has.limit;
            numbers = has.calls ∙ same;
            calls = ap called (has.calls ∙ same) ∙ numbers_make_calls kept setup.profile setup (boot setup.profile setup.plan) order;
          };
    }

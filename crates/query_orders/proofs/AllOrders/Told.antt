-- The law that a group's orders tell of its clients' calls what all orders tell.
use Rattle.std.proofs.Common.{◌≡◌, ℕ, Bool, true, false, List, [], ◌∷◌, ◌++◌, filter, length, refl, ap, sym, subst, ◌∙◌, inl, inr}
use Rattle.std.specs.List.{Contains, AllByRecursion as Each}
use Rattle.std.proofs.lemmas.Bool.{false≢true}
use Rattle.cap_core.specs.declared.profile.ProfileName.{ProfileName}
use Rattle.kernel_abstract.specs.declared.call.Call.{Call}
use Rattle.kernel_abstract.specs.State.{State, shown}
use Rattle.kernel_abstract.specs.Reached.{IsReached}
use Rattle.query_orders.specs.declared.answer.Answer.{Answer}
use Rattle.query_orders.specs.declared.left.LeftCall.{LeftCall}
use Rattle.query_orders.specs.World.{World, start, next_client_call, may_call, world_after}
use Rattle.query_orders.specs.Orders.{is_end}
use Rattle.query_orders.specs.Answers.{Answered, answered, call_answers, end_answers}
use Rattle.query_orders.specs.Ends.{left_calls}
use Rattle.query_orders.specs.Groups.{AreGroups, alone, is_client_in}
use Rattle.query_orders.specs.Laws.{EachCanBeMade}
use Rattle.query_orders.specs.Apart.{IsSeenAlike, IsTold, IsLeft, TellTheSame, LeaveTheSame}
use Rattle.query_orders.proofs.Contained.{contains-filter, each-contained}
use Rattle.query_orders.proofs.Behind.{orders_go_on}
use Rattle.query_orders.proofs.Exploration.Steps.{world_reached, world_after-append}
use Rattle.query_orders.proofs.Apart.Lists.{filter_whole}
use Rattle.query_orders.proofs.Apart.Alone.{begins_alike}
use Rattle.query_orders.proofs.Apart.Parts.{made_to}
use Rattle.query_orders.proofs.Apart.Groups.{has_part, goes_on_alone}
use Rattle.query_orders.proofs.Apart.Clients.{waits_of_first}
use Rattle.query_orders.proofs.AllOrders.Listed.{passed}
use Rattle.query_orders.proofs.AllOrders.Moved.{call_elsewhere, end_elsewhere, by_call, by_end, told_by, IsToldFrom, told_from, told_to}
use Rattle.query_orders.proofs.AllOrders.Others.{AreDone, done_first, caller_ours, order_ours, left_ours}
use Rattle.query_orders.proofs.AllOrders.Unheard.{IsOther, unheard}
use Rattle.query_orders.proofs.AllOrders.Ends.{ends_alone, IsToEnd, all_to_end}

-- what stands at an end, in worlds that are seen alike
end_over : (has : ℕ → Bool) (l m : List (List Call)) (v u : World) →
    ((order : List ℕ) → filter (λ (a : Answered). has a.client) (end_answers l v order) ≡ filter (λ (a : Answered). has a.client) (end_answers m u order)) →
    (order to : List ℕ) (a : Answered) → has a.client ≡ true → Contains (end_answers l v order) a → Contains (end_answers m u to) (answered to a.client a.place a.answer)
end_over has l m v u same order to a ours h =
    let b = answered to a.client a.place a.answer in
    (passed (λ (a : Answered). has a.client) (end_answers m u to) b
    (subst (λ (l : List Answered). Contains l b) (same to)
    (contains-filter (λ (a : Answered). has a.client) (end_answers l v to) b (end_elsewhere l v order to a h) ours))).0

module _ (p : ProfileName) (own : List (List Call)) (A : State) (first groups : List ℕ) (group : ℕ) (r : IsReached p A) (are : AreGroups p own (world_after p own (start own A) first) groups) where
  abbrev w : World
  w = world_after p own (start own A) first

  abbrev has : ℕ → Bool
  has = is_client_in groups group

  abbrev lone : List (List Call)
  lone = alone own w.made has

  abbrev begin : world_after p lone (start lone A) first ≡ w
  begin = begins_alike p own A first has

  -- the group's part of an order of all clients
  abbrev part_world : List ℕ → World
  part_world more = world_after p lone w (filter has more)

  part_done : (more : List ℕ) → EachCanBeMade p own w more → AreDone own w.made has (part_world more)
  part_done more can = (order_ours own w.made has p (filter has more) w (done_first own w.made has w refl) (has_part p own A first groups group more r are can).0).1

  -- an order of the group's clients by themselves
  module _ (more : List ℕ) (can : EachCanBeMade p lone w more) where
    ours : Each (λ client. has client ≡ true) more
    ours = (order_ours own w.made has p more w (done_first own w.made has w refl) can).0

    alone_done : AreDone own w.made has (world_after p lone w more)
    alone_done = (order_ours own w.made has p more w (done_first own w.made has w refl) can).1

    whole : filter has more ≡ more
    whole = filter_whole has more ours

    among : EachCanBeMade p own w more
    among = goes_on_alone p own A first groups group [] more r are (made_to p own w [] (world_reached p own (start own A) first r) tt) refl can ours

    -- of an order of all clients with this part
    seen : (all : List ℕ) → EachCanBeMade p own w all → filter has all ≡ more → IsSeenAlike p own lone has (world_after p own w all) (world_after p lone w more)
    seen all made is = subst (λ (l : List ℕ). IsSeenAlike p own lone has (world_after p own w all) (world_after p lone w l)) is (has_part p own A first groups group all r are made).1

  -- ---- answers

  module _ (client place : ℕ) (answer : Answer) (its : has client ≡ true) where
    -- who tells it is in the group
    heard : (more order told_with : List ℕ) (caller : ℕ) → may_call own (world_after p own w more) caller ≡ true →
        Contains (call_answers p (world_after p own w more) order caller (next_client_call own (world_after p own w more).made caller)) (answered told_with client place answer) → has caller ≡ true
    heard more order told_with caller may h = by (has caller) refl
      where
        by : (b : Bool) → has caller ≡ b → b ≡ true
        by true is = refl
        by false is =
            let v = world_after p own w more in
            let none = each-contained (IsOther has) (call_answers p v order caller (next_client_call own v.made caller)) (answered told_with client place answer)
            (unheard p own w groups group are (world_reached p own (start own A) first r) (waits_of_first own p A first r) more order caller is may) h in
            absurd (false≢true (sym none ∙ its))

    told_alone : IsTold p own A first client place answer → IsTold p lone A first client place answer
    told_alone t = by (told_from p own A first w refl client place answer t)
      where
        by : IsToldFrom p own A first w refl client place answer → IsTold p lone A first client place answer
        by f =
            let v = world_after p own w f.more in
            let u = part_world f.more in
            let part = has_part p own A first groups group f.more r are f.can in
            let alike = part.1 in
            let to = first ++ filter has f.more in
            let a = answered f.told_with client place answer in
            elim (told_by p own v f.order a f.told) as (λ _. IsTold p lone A first client place answer) [
              | inl calls ↦ (
                  let caller = calls.0 in
                  let is = heard f.more f.order f.told_with caller calls.1 calls.2 in
                  let told = subst (λ (l : List Answered). Contains l (answered (to ++ caller ∷ []) client place answer)) (alike.told to caller is)
                  (call_elsewhere p v f.order to caller (next_client_call own v.made caller) a calls.2) in
                  told_to p lone A first w begin client place answer (filter has f.more) part.0 (to ++ caller ∷ [])
                  (by_call p lone u to (answered (to ++ caller ∷ []) client place answer) caller (sym (alike.may caller is) ∙ calls.1) told))
              | inr end ↦ told_to p lone A first w begin client place answer (filter has f.more) part.0 to
                  (by_end p lone u to (answered to client place answer) (ends_alone p own w.made has v u alike (part_done f.more f.can) end.0)
                  (end_over has own lone v u alike.ends f.order to a its end.1))
            ]

    told_among : IsTold p lone A first client place answer → IsTold p own A first client place answer
    told_among t = by (told_from p lone A first w begin client place answer t)
      where
        by : IsToldFrom p lone A first w begin client place answer → IsTold p own A first client place answer
        by f =
            let u = world_after p lone w f.more in
            let can = among f.more f.can in
            let a = answered f.told_with client place answer in
            elim (told_by p lone u f.order a f.told) as (λ _. IsTold p own A first client place answer) [
              | inl calls ↦ (
                  let v = world_after p own w f.more in
                  let to = first ++ f.more in
                  let alike = seen f.more f.can f.more can (whole f.more f.can) in
                  let caller = calls.0 in
                  let is = caller_ours own w.made has u (alone_done f.more f.can) caller calls.1 in
                  let told = subst (λ (l : List Answered). Contains l (answered (to ++ caller ∷ []) client place answer)) (sym (alike.told to caller is))
                  (call_elsewhere p u f.order to caller (next_client_call lone u.made caller) a calls.2) in
                  told_to p own A first w refl client place answer f.more can (to ++ caller ∷ [])
                  (by_call p own v to (answered (to ++ caller ∷ []) client place answer) caller (alike.may caller is ∙ calls.1) told))
              | inr end ↦ (
                  let all = all_to_end p own A first groups group r are f.more end.0 can (whole f.more f.can) in
                  let v = world_after p own w all.more in
                  let to = first ++ all.more in
                  let alike = seen f.more f.can all.more all.can all.part_is in
                  told_to p own A first w refl client place answer all.more all.can to
                  (by_end p own v to (answered to client place answer) all.ends
                  (end_over has lone own u v (λ order. sym (alike.ends order)) f.order to a its end.1)))
            ]

  -- ---- calls that are left

  -- an end, behind calls that can be made from the first ones on
  record IsLeftFrom (l : List (List Call)) (left : List LeftCall) : Type 0 where
    pub more : List ℕ
    pub can : EachCanBeMade p l w more
    pub ends : is_end l (world_after p l w more) ≡ true
    pub left_are : left_calls l (world_after p l w more).made (shown (world_after p l w more).kernel) ≡ left

  left_from : (l : List (List Call)) → world_after p l (start l A) first ≡ w → (left : List LeftCall) → IsLeft p l A first left → IsLeftFrom l left
  left_from l starts left t =
      let b = (orders_go_on p l (start l A) first t.count t.order).0 t.begins in
      let world : world_after p l (start l A) t.order ≡ world_after p l w b.0 =
      ap (world_after p l (start l A)) b.1 ∙ world_after-append p l (start l A) first b.0 ∙ ap (λ (v : World). world_after p l v b.0) starts in
      record {
        more = b.0;
        can = subst (λ (v : World). EachCanBeMade p l v b.0) starts b.3;
        ends = ap (is_end l) (sym world) ∙ t.ends;
        left_are = ap (λ (v : World). left_calls l v.made (shown v.kernel)) (sym world) ∙ t.left_are;
      }

  left_to : (l : List (List Call)) → world_after p l (start l A) first ≡ w → (left : List LeftCall) → IsLeftFrom l left → IsLeft p l A first left
  left_to l starts left f =
      let world : world_after p l (start l A) (first ++ f.more) ≡ world_after p l w f.more =
      world_after-append p l (start l A) first f.more ∙ ap (λ (v : World). world_after p l v f.more) starts in
      record {
        count = length f.more;
        order = first ++ f.more;
        begins = (orders_go_on p l (start l A) first (length f.more) (first ++ f.more)).1 (f.more, refl, refl, subst (λ (v : World). EachCanBeMade p l v f.more) (sym starts) f.can);
        ends = ap (is_end l) world ∙ f.ends;
        left_are = ap (λ (v : World). left_calls l v.made (shown v.kernel)) world ∙ f.left_are;
      }

  abbrev of_group : List LeftCall → List LeftCall
  of_group left = filter (λ (c : LeftCall). has c.client) left

  left_alone : (left all : List LeftCall) → IsLeft p own A first all → of_group all ≡ left → IsLeft p lone A first left
  left_alone left all t is =
      let f = left_from own refl all t in
      let v = world_after p own w f.more in
      let u = part_world f.more in
      let part = has_part p own A first groups group f.more r are f.can in
      let done = part_done f.more f.can in
      left_to lone begin left (record {
        more = filter has f.more;
        can = part.0;
        ends = ends_alone p own w.made has v u part.1 done f.ends;
        left_are =
            sym (filter_whole (λ (c : LeftCall). has c.client) (left_calls lone u.made (shown u.kernel)) (left_ours own w.made has u done (shown u.kernel)))
            ∙ sym part.1.left ∙ ap of_group f.left_are ∙ is;
      })

  left_among : (left : List LeftCall) → IsLeft p lone A first left → (all : List LeftCall) × IsLeft p own A first all × (of_group all ≡ left)
  left_among left t = (let f = left_from lone begin left t in by f (all_to_end p own A first groups group r are f.more f.ends (among f.more f.can) (whole f.more f.can)))
    where
      by : (f : IsLeftFrom lone left) → IsToEnd p own A first groups group f.more → (all : List LeftCall) × IsLeft p own A first all × (of_group all ≡ left)
      by f all =
          let u = world_after p lone w f.more in
          let v = world_after p own w all.more in
          let left_own = left_calls own v.made (shown v.kernel) in
          let left_lone = left_calls lone u.made (shown u.kernel) in
          let alike : of_group left_own ≡ of_group left_lone = (seen f.more f.can all.more all.can all.part_is).left in
          let only : of_group left_lone ≡ left_lone = filter_whole (λ (c : LeftCall). has c.client) left_lone (left_ours own w.made has u (alone_done f.more f.can) (shown u.kernel)) in
          (left_own, left_to own refl left_own (record { more = all.more; can = all.can; ends = all.ends; left_are = refl }), alike ∙ only ∙ f.left_are)

pub tell_the_same : (p : ProfileName) (own : List (List Call)) (A : State) (first groups : List ℕ) (group : ℕ) → TellTheSame p own A first groups group
tell_the_same p own A first groups group r are client place answer its =
    (told_among p own A first groups group r are client place answer its, told_alone p own A first groups group r are client place answer its)

pub leave_the_same : (p : ProfileName) (own : List (List Call)) (A : State) (first groups : List ℕ) (group : ℕ) → LeaveTheSame p own A first groups group
leave_the_same p own A first groups group r are left =
    (left_among p own A first groups group r are left, λ h. left_alone p own A first groups group r are left h.0 h.1 h.2)

-- The groups from which joins begin, and what they are once each two clients were looked at.
use Rattle.std.proofs.Common.{◌≡◌, ◌<◌, ◌≤◌, ◌||◌, ℕ, Bool, true, List, [], map, length, ap, sym, subst, ◌∙◌, arith}
use Rattle.std.specs.List.{slice_get}
use Rattle.std.specs.Prelude.{unwrap_or}
use Rattle.cap_core.specs.declared.profile.ProfileName.{ProfileName}
use Rattle.kernel_abstract.specs.declared.call.Call.{Call}
use Rattle.kernel_abstract.specs.State.{shown}
use Rattle.query_orders.specs.declared.groups.objects.CallObject.{CallObject}
use Rattle.query_orders.specs.World.{World}
use Rattle.query_orders.specs.Orders.{numbers_below}
use Rattle.query_orders.specs.Groups.{objects_of_client, share, capabilities_may_change, is_together, group_of_client, AreGroups}
use Rattle.query_orders.specs.Private.Grouping.{objects_by, touch_alike, AreGrouped}
use Rattle.query_orders.proofs.Grouped.Lists.{length-below, group_below, mapped_below}

module _ (together : ℕ → ℕ → Bool) (n : ℕ) where
  alone_in : (client : ℕ) → client < length (numbers_below n) → group_of_client (numbers_below n) client ≡ client
  alone_in client lt = group_below n client (subst (λ k. client < k) (length-below n) lt)

  pub single : AreGrouped together 0 0 (numbers_below n)
  single = record {
    first = λ client lt.
        (let is = alone_in client lt in (let low : client ≤ client = omega arith in subst (λ k. k ≤ client) (sym is) low, ap (group_of_client (numbers_below n)) is));
    finest = λ other respects client lt. ap other (sym (alone_in client lt));
    before = λ x y lx hx hy t. absurd (omega (arith, lx));
    here = λ y ly hx hy t. absurd (omega (arith, ly));
  }

module _ (p : ProfileName) (own : List (List Call)) (w : World) (may_change : Bool) (objects : List (List CallObject)) (groups : List ℕ)
    (may_change_is : may_change ≡ capabilities_may_change own w.made)
    (objects_are : objects ≡ map (objects_by p own w.made w.waits (shown w.kernel)) (numbers_below (length own))) where
  told : (client : ℕ) → client < length own → unwrap_or (slice_get objects client) [] ≡ objects_of_client p own w client
  told client lt =
      ap (λ (l : List (List CallObject)). unwrap_or (slice_get l client) []) objects_are
      ∙ mapped_below (objects_by p own w.made w.waits (shown w.kernel)) (length own) client [] lt

  same : (a b : ℕ) → a < length own → b < length own → touch_alike may_change objects a b ≡ is_together p own w a b
  same a b ha hb =
      ap (λ (o : Bool). o || share (unwrap_or (slice_get objects a) []) (unwrap_or (slice_get objects b) [])) may_change_is
      ∙ ap (λ (l : List CallObject). capabilities_may_change own w.made || share l (unwrap_or (slice_get objects b) [])) (told a ha)
      ∙ ap (λ (l : List CallObject). capabilities_may_change own w.made || share (objects_of_client p own w a) l) (told b hb)

  pub groups_are : length groups ≡ length own → AreGrouped (touch_alike may_change objects) (length own) 0 groups → AreGroups p own w groups
  groups_are len g = record {
    each = len;
    together = λ a b ha hb t. g.before a b ha (omega (arith, len, ha)) (omega (arith, len, hb)) (same a b ha hb ∙ t);
    finest = λ other respects a b ha hb e.
        (let h : (x y : ℕ) → x < length groups → y < length groups → touch_alike may_change objects x y ≡ true → other x ≡ other y = λ x y hx hy t.
        (let x_in : x < length own = omega (arith, len, hx) in
        let y_in : y < length own = omega (arith, len, hy) in
        respects x y x_in y_in (sym (same x y x_in y_in) ∙ t)) in
        g.finest other h a (omega (arith, len, ha)) ∙ ap other e ∙ sym (g.finest other h b (omega (arith, len, hb))));
    first = λ client lt. g.first client (omega (arith, len, lt));
  }

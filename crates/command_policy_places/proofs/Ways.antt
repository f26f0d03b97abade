-- Ways up, from a slot to that which it stands right below.
use Rattle.std.proofs.Common.{◌≡◌, ℕ, suc, ◌+◌, ◌-◌, ◌<◌, Bool, false, cond, List, [], Option, Some, option_and_then, sym, ap, ◌∙◌, arith}
use Rattle.command_parts.specs.declared.takes.PartSlot.{PartSlot}
use Rattle.command_policy_places.specs.Places.{is_of, nearest, slot_above}

-- from a slot of no such part the way goes on above it
pub one_up : (slots : List PartSlot) (part end counter : ℕ) (above : Option ℕ) (s : PartSlot) → counter < end →
    slot_above slots above ≡ Some s → is_of [] part s.part ≡ false →
    nearest slots part (end - (counter + 1)) s.above ≡ nearest slots part (end - counter) above
one_up slots part end counter above s low found other =
    let left = end - (counter + 1) in
    let e : end - counter ≡ suc left = omega (arith, low) in
    sym (ap (λ (n : ℕ). nearest slots part n above) e
    ∙ (ap (option_and_then (λ (t : PartSlot). cond (is_of [] part t.part) (Some t.slot) (nearest slots part left t.above))) found
    ∙ ap (λ (b : Bool). cond b (Some s.slot) (nearest slots part left s.above)) other))

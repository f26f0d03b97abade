-- Parts that may be told give one answer of a message, however they are written.
use Rattle.std.proofs.Common.{◌≡◌, ℕ, suc, ◌+◌, ◌<◌, ◌≤◌, ◌⊎◌, inl, inr, Bool, true, false, not, cond, ◌==◌, ◌&&◌, ◌||◌, List, [], ◌∷◌, ◌++◌, length, map, filter, get_or, Option, Some, None, refl, sym, ap, subst, ◌∙◌, arith, eq-eqb}
use Rattle.std.specs.Prelude.{find, option_map, nat_le, nat_lt}
use Rattle.std.specs.List.{list_any, AllAdjacentBelow}
use Rattle.std.proofs.lemmas.Bool.{false≢true, eqb-true}
use Rattle.std.proofs.lemmas.Bool.Decides.{nat_tests}
use Rattle.std.proofs.lemmas.List.Folds.{list_any-append}
use Rattle.std.proofs.lemmas.Nat.{pow_pos}
use Rattle.cap_core.specs.declared.profile.ProfileName.{ProfileName}
use Rattle.cap_core.specs.Numbers.{endpoint_bits, endpoint_size}
use Rattle.cap_core.specs.Rights.{write_bit, read_bit}
use Rattle.kernel_delete.specs.Members.{In}
use Rattle.kernel_delete.proofs.Members.{both_true, either_true, true_left, true_right, any_in, any_of, all_in, filter_in}
use Rattle.kernel_delete.proofs.Clearable.{in_contains}
use Rattle.kernel_abstract.specs.Decode.{has_right}
use Rattle.kernel_abstract.specs.State.{State, shown}
use Rattle.kernel_abstract.specs.Reached.{IsReached}
use Rattle.query_parts.specs.declared.listed.PartMemory.{PartMemory}
use Rattle.query_parts.specs.declared.listed.PartUse.{PartUse}
use Rattle.query_parts.specs.Parts.{IsWithin, IsOwned}
use Rattle.cap_core.specs.declared.capability.Cap.TheVariants.{Endpoint}
use Rattle.query_parts.specs.Listed.{lies_in, part_at, use_of, parts_listed}
use Rattle.query_parts.specs.Order.{is_stretch, lies_behind, AreInOrder}
use Rattle.query_parts.specs.Least.{LiesIn, LieIn, AreLeastAround}
use Rattle.query_parts.proofs.Joined.{LieBehind, IsChain, rest_chain}
use Rattle.query_parts.proofs.Numbered.{behind_last}
use Rattle.query_parts.proofs.Lists.{in_mapped, from_mapped, and_true}
use Rattle.setup_report.specs.State.{is_in}
use Rattle.setup_report.proofs.Addresses.Rising.{any_rising}
use Rattle.command_parts.specs.Text.{is_part, is_use}
use Rattle.command_never.specs.declared.parts_kept.waits.Wait.{Wait}
use Rattle.command_never.specs.declared.parts_kept.never.Never.TheVariants.{Excluded, Possible}
use Rattle.command_never.specs.Never.{has_some, has_bytes, is_use_of, is_waiting_sender, is_waiting_receiver, may_send_to, may_receive_on, is_open, endpoints_met, are_open, never_between, never}
use Rattle.command_never.proofs.Tests.{neither, none_at}
use Rattle.command_never.proofs.Had.{IsKeptRight, write_kept, read_kept, bytes_at, covered_use, may_use}
use Rattle.command_never.proofs.Kept.{used_met, waited_met, use_at, sender_at, receiver_at}
use Rattle.kernel_abstract.specs.Shown.{Shown}
use Rattle.query_parts.proofs.Same.{lie_in_each_other}
use Rattle.command_parts.specs.Ever.{AreRightParts}
use Rattle.command_parts.specs.Threads.{callers}
use Rattle.command_never.specs.Waits.{waits}
use Rattle.command_how_witness.specs.declared.asked.Happening.{Happening}
use Rattle.command_how_witness.specs.declared.asked.Happening.TheVariants.{Message, Hold, Loss}
use Rattle.command_how_witness.specs.Witness.{Asking}
use Rattle.command_how_witness.specs.Excluded.{IsNeverSaid, LiesElsewhere, SharesPart, StandsApart, MayLose, TakesFrom, IsRuledOut, IsInside, IsOnlyOne}
use Rattle.command_how_witness.proofs.Below.{part_is, is_the_part}

-- ---- stretches that rise lie apart

adjacent_behind : (m : PartMemory) (l : List PartMemory) → AllAdjacentBelow (λ m n. lies_behind m n ≡ true) (m ∷ l) (length (m ∷ l)) → LieBehind m l
adjacent_behind m [] rising = tt
adjacent_behind m (n ∷ ns) rising = (
  rising 0 m (omega arith),
  adjacent_behind n ns (λ k d low.
      let next : suc k + 1 ≡ suc (k + 1) = omega arith in
      subst (λ j. lies_behind (get_or (n ∷ ns) k d) (get_or (m ∷ (n ∷ ns)) j d) ≡ true) next (rising (suc k) d (omega (arith, low)))),
)

is_chain : (l : List PartMemory) → AllAdjacentBelow (λ m n. lies_behind m n ≡ true) l (length l) → IsChain l
is_chain [] rising = tt
is_chain (m ∷ l) rising = adjacent_behind m l rising

-- of the stretches that lie behind one, each begins behind its last address
behind_end : (m : PartMemory) (ms : List PartMemory) → ((n : PartMemory) → In n ms → n.first ≤ n.last) → LieBehind m ms → (n : PartMemory) → In n ms → m.last < n.first
behind_end m [] stretches behind n here = absurd here
behind_end m (k ∷ ks) stretches behind n here = by (next k behind.0) here (behind_last k ks stretches behind.1)
  where
    next : (k : PartMemory) → lies_behind m k ≡ true → m.last < k.first
    next k h = let low = (both_true (nat_lt m.last k.first) _ h).0 in grind (arith, nat_tests, low)

    by : m.last < k.first → In n (k ∷ ks) → ((x : PartMemory) → In x ks → k.first < x.first) → m.last < n.first
    by low (inl same) rest = subst (λ (x : PartMemory). m.last < x.first) (sym same) low
    by low (inr more) rest = let far = rest n more in omega (arith, low, far)

-- an address of a stretch lies in its part
at_stretch : (ms : List PartMemory) → ((n : PartMemory) → In n ms → n.first ≤ n.last) → IsChain ms → (m : PartMemory) → In m ms →
    (address : ℕ) → lies_in m address ≡ true → part_at ms address ≡ Some m.part
at_stretch [] stretches chain m here address lies = absurd here
at_stretch (n ∷ ms) stretches chain m (inl same) address lies =
    ap (λ b. option_map (λ (x : PartMemory). x.part) (cond b (Some n) (find (λ (x : PartMemory). lies_in x address) ms)))
    (sym (ap (λ (x : PartMemory). lies_in x address) same) ∙ lies)
    ∙ sym (ap (λ (x : PartMemory). Some x.part) same)
at_stretch (n ∷ ms) stretches chain m (inr more) address lies =
    ap (λ b. option_map (λ (x : PartMemory). x.part) (cond b (Some n) (find (λ (x : PartMemory). lies_in x address) ms))) beside
    ∙ at_stretch ms (λ x i. stretches x (inr i)) (rest_chain n ms chain) m more address lies
  where
    out_of : (b c : Bool) → c ≡ false → b && c ≡ false
    out_of true c h = h
    out_of false c h = refl

    beside : lies_in n address ≡ false
    beside =
        let far : n.last < m.first = behind_end n ms (λ x i. stretches x (inr i)) chain m more in
        let low = (both_true (nat_le m.first address) _ lies).0 in
        let past : nat_le address n.last ≡ false = grind (arith, nat_tests, far, low) in
        out_of (nat_le n.first address) (nat_le address n.last) past

-- a byte of so many from an address on is memory of a part
abbrev pub HasByte : List PartMemory → ℕ → ℕ → ℕ → Type 0
HasByte memory part first size = (address : ℕ) × ((first ≤ address) × ((address < first + size) × (part_at memory address ≡ Some part)))

module _ (p : ProfileName) (memory : List PartMemory) (uses : List PartUse) (order : AreInOrder p memory uses) (part first size : ℕ) (some : 0 < size) where
  stretches : (n : PartMemory) → In n memory → n.first ≤ n.last
  stretches n here = let long = all_in is_stretch memory n order.stretches here in grind (arith, nat_tests, long)

  pub has_byte : list_any (has_some part first size) memory ≡ true → HasByte memory part first size
  has_byte has = by (any_of (has_some part first size) memory has)
    where
      at : (m : PartMemory) → In m memory → m.part ≡ part → (address : ℕ) → m.first ≤ address → address ≤ m.last → part_at memory address ≡ Some part
      at m here own address low high =
          let begins : nat_le m.first address ≡ true = grind (arith, nat_tests, low) in
          let ends : nat_le address m.last ≡ true = grind (arith, nat_tests, high) in
          at_stretch memory stretches (is_chain memory order.rising) m here address (and_true _ _ begins ends) ∙ ap (λ k. Some k) own

      from_first : (m : PartMemory) → In m memory → m.part ≡ part → m.first < first + size → first ≤ m.last → (b : Bool) → nat_le first m.first ≡ b → HasByte memory part first size
      from_first m here own low high true behind =
          let over : first ≤ m.first = grind (arith, nat_tests, behind) in
          (m.first, (over, (low, at m here own m.first (omega arith) (stretches m here))))
      from_first m here own low high false before =
          let under : m.first < first = grind (arith, nat_tests, before) in
          (first, (omega arith, (omega (arith, some), at m here own first (omega (arith, under)) high)))

      by : (m : PartMemory) × (In m memory × (has_some part first size m ≡ true)) → HasByte memory part first size
      by (m, (here, has_one)) =
          let own = both_true (m.part == part) _ has_one in
          let ends = both_true (nat_lt m.first (first + size)) (nat_le first m.last) own.1 in
          let low : m.first < first + size = grind (arith, nat_tests, ends.0) in
          let high : first ≤ m.last = grind (arith, nat_tests, ends.1) in
          from_first m here (eqb-true m.part part own.0) low high (nat_le first m.first) refl

-- ---- what a part has of an endpoint, another one in which it lies has as well

any_weaker : {A : Type 0} (f g : A → Bool) → ((a : A) → f a ≡ true → g a ≡ true) → (l : List A) → list_any f l ≡ true → list_any g l ≡ true
any_weaker f g weaker l some = let found = any_of f l some in any_in g l found.0 found.1.0 (weaker found.0 found.1.1)

module _ (p : ProfileName) (memory : List PartMemory) (uses : List PartUse) (memory' : List PartMemory) (uses' : List PartUse) (ws : List Wait)
    (order' : AreInOrder p memory' uses') (e : ℕ) where
  abbrev Holds : ℕ → ℕ → Type 0
  Holds k' k = LiesIn p (parts_listed memory' uses') k' (parts_listed memory uses) k

  -- a byte of the endpoint is the part's, or the endpoint is met
  abbrev HasPlace : ℕ → Type 0
  HasPlace k = HasByte memory k e (endpoint_size p) ⊎ (is_in e (endpoints_met uses ws) ≡ true)

  module _ (k' k : ℕ) (holds : Holds k' k) where
    byte_back : has_bytes p memory' k' e ≡ true → HasByte memory k e (endpoint_size p)
    byte_back has = let b = has_byte p memory' uses' order' k' e (endpoint_size p) (pow_pos (endpoint_bits p)) has in (b.0, (b.1.0, (b.1.1.0, holds.memory b.0 b.1.1.1)))

    bytes_of : HasByte memory k e (endpoint_size p) → has_bytes p memory k e ≡ true
    bytes_of b = bytes_at p memory uses k e b.0 b.1.1.1 b.1.0 b.1.1.0

    first_of_it : part_at memory e ≡ Some k → HasByte memory k e (endpoint_size p)
    first_of_it at = (e, (omega arith, (omega (arith, pow_pos (endpoint_bits p)), at)))

    -- a use may stand in the part in which its part lies
    stands : (u : PartUse) → In u uses' → u.part ≡ k' → IsWithin p (parts_listed memory uses) k (Endpoint u.endpoint u.badge u.rights)
    stands u here own =
        let chosen = filter_in (λ (x : PartUse). x.part == k') uses' u here (eq-eqb u.part k' own) in
        let listed = in_mapped use_of u (filter (λ (x : PartUse). x.part == k') uses') chosen in
        holds.uses (use_of u) (in_contains (map use_of (filter (λ (x : PartUse). x.part == k') uses')) (use_of u) listed)

    stands_at : (u : PartUse) → In u uses' → u.part ≡ k' → u.endpoint ≡ e → IsWithin p (parts_listed memory uses) k (Endpoint e u.badge u.rights)
    stands_at u here own at = subst (λ a. IsWithin p (parts_listed memory uses) k (Endpoint a u.badge u.rights)) at (stands u here own)

    use_back : (right : ℕ) → IsKeptRight right → list_any (is_use right k' e) uses' ≡ true → (part_at memory e ≡ Some k) ⊎ (list_any (is_use right k e) uses ≡ true)
    use_back right kept some =
        let found = any_of (is_use right k' e) uses' some in
        let u = found.0 in
        let own = both_true (u.part == k') _ found.1.1 in
        let at = both_true (u.endpoint == e) (has_right right u.rights) own.1 in
        may_use p memory uses k right e u.badge kept (u.rights, (stands_at u found.1.0 (eqb-true u.part k' own.0) (eqb-true u.endpoint e at.0), at.1))

    owned_or_used : (u : PartUse) → IsWithin p (parts_listed memory uses) k (Endpoint e u.badge u.rights) →
        IsOwned p (parts_listed memory uses) k (Endpoint e u.badge u.rights) ⊎ (list_any (is_use_of k e) uses ≡ true)
    owned_or_used u (inl owned) = inl owned
    owned_or_used u (inr covered) = inr (covered_use p memory uses k e u.badge u.rights covered)

    any_use_back : list_any (is_use_of k' e) uses' ≡ true → (part_at memory e ≡ Some k) ⊎ (list_any (is_use_of k e) uses ≡ true)
    any_use_back some =
        let found = any_of (is_use_of k' e) uses' some in
        let u = found.0 in
        let own = both_true (u.part == k') (u.endpoint == e) found.1.1 in
        elim (owned_or_used u (stands_at u found.1.0 (eqb-true u.part k' own.0) (eqb-true u.endpoint e own.1))) [
          | inl owned ↦ inl (owned e (omega arith) (omega (arith, pow_pos (endpoint_bits p))))
          | inr used ↦ inr used
        ]

    sender_back : (w : Wait) → is_waiting_sender memory' k' e w ≡ true → is_waiting_sender memory k e w ≡ true
    sender_back w waits =
        let sends = both_true w.sends _ waits in
        let at = both_true (w.endpoint == e) (is_part k' (part_at memory' w.thread)) sends.1 in
        and_true _ _ sends.0 (and_true _ _ at.0 (part_is (part_at memory w.thread) k (holds.memory w.thread (is_the_part (part_at memory' w.thread) k' at.1))))

    receiver_back : (w : Wait) → is_waiting_receiver memory' k' e w ≡ true → is_waiting_receiver memory k e w ≡ true
    receiver_back w waits =
        let receives = both_true (not w.sends) _ waits in
        let at = both_true (w.endpoint == e) (is_part k' (part_at memory' w.thread)) receives.1 in
        and_true _ _ receives.0 (and_true _ _ at.0 (part_is (part_at memory w.thread) k (holds.memory w.thread (is_the_part (part_at memory' w.thread) k' at.1))))

    by_byte_send : HasByte memory k e (endpoint_size p) → (may_send_to p memory uses ws k e ≡ true) × HasPlace k
    by_byte_send b = (true_left _ _ (bytes_of b), inl b)

    by_byte_receive : HasByte memory k e (endpoint_size p) → (may_receive_on p memory uses ws k e ≡ true) × HasPlace k
    by_byte_receive b = (true_left _ _ (bytes_of b), inl b)

    send_back : may_send_to p memory' uses' ws k' e ≡ true → (may_send_to p memory uses ws k e ≡ true) × HasPlace k
    send_back may = elim (either_true (has_bytes p memory' k' e) _ may) [
      | inl has ↦ by_byte_send (byte_back has)
      | inr other ↦ elim (either_true (list_any (is_use write_bit k' e) uses') (list_any (is_waiting_sender memory' k' e) ws) other) [
        | inl used ↦ elim (use_back write_bit write_kept used) [
          | inl at ↦ by_byte_send (first_of_it at)
          | inr held ↦ (true_right _ _ (true_left _ _ held), inr (used_met uses ws e (is_use write_bit k e) (use_at write_bit k e) held))
        ]
        | inr waiting ↦
            let there = any_weaker (is_waiting_sender memory' k' e) (is_waiting_sender memory k e) sender_back ws waiting in
            (true_right _ _ (true_right _ _ there), inr (waited_met uses ws e (is_waiting_sender memory k e) (sender_at memory k e) there))
      ]
    ]

    receive_back : may_receive_on p memory' uses' ws k' e ≡ true → (may_receive_on p memory uses ws k e ≡ true) × HasPlace k
    receive_back may = elim (either_true (has_bytes p memory' k' e) _ may) [
      | inl has ↦ by_byte_receive (byte_back has)
      | inr other ↦ elim (either_true (list_any (is_use read_bit k' e) uses') (list_any (is_waiting_receiver memory' k' e) ws) other) [
        | inl used ↦ elim (use_back read_bit read_kept used) [
          | inl at ↦ by_byte_receive (first_of_it at)
          | inr held ↦ (true_right _ _ (true_left _ _ held), inr (used_met uses ws e (is_use read_bit k e) (use_at read_bit k e) held))
        ]
        | inr waiting ↦
            let there = any_weaker (is_waiting_receiver memory' k' e) (is_waiting_receiver memory k e) receiver_back ws waiting in
            (true_right _ _ (true_right _ _ there), inr (waited_met uses ws e (is_waiting_receiver memory k e) (receiver_at memory k e) there))
      ]
    ]

  -- ---- what is open of parts that lie in two parts is open of these

  use_of_at : (k : ℕ) (u : PartUse) → is_use_of k e u ≡ true → u.endpoint ≡ e
  use_of_at k u h = eqb-true u.endpoint e (both_true (u.part == k) _ h).1

  -- an endpoint that is met of the ones is met of the others, or one part has all of its bytes
  abbrev IsMetOrOwned : Type 0
  IsMetOrOwned = (is_in e (endpoints_met uses ws) ≡ true) ⊎ ((k : ℕ) × ((address : ℕ) → e ≤ address → address < e + endpoint_size p → part_at memory address ≡ Some k))

  met_back : LieIn p (parts_listed memory' uses') (parts_listed memory uses) → is_in e (endpoints_met uses' ws) ≡ true → IsMetOrOwned
  met_back lie there = elim (either_true (is_in e (map (λ (u : PartUse). u.endpoint) uses')) (is_in e (map (λ (w : Wait). w.endpoint) ws)) split) [
    | inl used ↦
        let found = any_of (λ a. e == a) (map (λ (u : PartUse). u.endpoint) uses') used in
        let u = from_mapped (λ (u : PartUse). u.endpoint) uses' found.0 found.1.0 in
        let at : u.0.endpoint ≡ e = sym u.1.1 ∙ sym (eqb-true e found.0 found.1.1) in
        let k = lie u.0.part in
        elim (owned_or_used u.0.part k.0 k.1 u.0 (stands_at u.0.part k.0 k.1 u.0 u.1.0 refl at)) [
          | inl owned ↦ inr (k.0, owned)
          | inr held ↦ inl (used_met uses ws e (is_use_of k.0 e) (use_of_at k.0) held)
        ]
    | inr waited ↦ inl (any_rising (λ a. e == a) all ∙ list_any-append (λ a. e == a) (map (λ (u : PartUse). u.endpoint) uses) (map (λ (w : Wait). w.endpoint) ws) ∙ true_right _ _ waited)
  ]
    where
      all : List ℕ
      all = map (λ (u : PartUse). u.endpoint) uses ++ map (λ (w : Wait). w.endpoint) ws

      split : (is_in e (map (λ (u : PartUse). u.endpoint) uses') || is_in e (map (λ (w : Wait). w.endpoint) ws)) ≡ true
      split =
          sym (list_any-append (λ a. e == a) (map (λ (u : PartUse). u.endpoint) uses') (map (λ (w : Wait). w.endpoint) ws))
          ∙ sym (any_rising (λ a. e == a) (map (λ (u : PartUse). u.endpoint) uses' ++ map (λ (w : Wait). w.endpoint) ws)) ∙ there

  module _ (by : List ℕ) (i' j' i j : ℕ) (first : Holds i' i) (second : Holds j' j) (differ : i ≡ j → ⊥)
      (lie : LieIn p (parts_listed memory' uses') (parts_listed memory uses)) where
    same_part : (o : Option ℕ) (k n : ℕ) → o ≡ Some k → o ≡ Some n → k ≡ n
    same_part o k n h g = let both : Some k ≡ Some n = sym h ∙ g in cc

    -- where both have a byte, no one part has all
    place : HasPlace i → HasPlace j → IsMetOrOwned → is_in e (endpoints_met uses ws) ≡ true
    place (inr there) other met = there
    place (inl b) (inr there) met = there
    place (inl b) (inl c) (inl there) = there
    place (inl b) (inl c) (inr owned) =
        absurd (differ
        (same_part (part_at memory b.0) i owned.0 b.1.1.1 (owned.1 b.0 b.1.0 b.1.1.0) ∙ same_part (part_at memory c.0) owned.0 j (owned.1 c.0 c.1.0 c.1.1.0) c.1.1.1))

    abbrev Found : Type 0
    Found = (is_open p memory uses ws by i j e ≡ true) × (is_in e (endpoints_met uses ws) ≡ true)

    passes : not (is_in e by) ≡ true → IsMetOrOwned → (may_send_to p memory uses ws i e ≡ true) × HasPlace i → (may_receive_on p memory uses ws j e ≡ true) × HasPlace j → Found
    passes named met (sends, here) (receives, there) = (and_true _ _ named (true_right _ _ (and_true _ _ sends receives)), place here there met)

    takes : not (is_in e by) ≡ true → IsMetOrOwned → (list_any (is_use_of i' e) uses' && has_bytes p memory' j' e) ≡ true → Found
    takes named met both =
        let parts = both_true (list_any (is_use_of i' e) uses') (has_bytes p memory' j' e) both in
        let b = byte_back j' j second parts.1 in
        elim (any_use_back i' i first parts.0) [
          | inl at ↦ passes named met (by_byte_send i' i first (first_of_it i' i first at)) (by_byte_receive j' j second b)
          | inr used ↦ (and_true _ _ named (true_left _ _ (and_true _ _ used (bytes_of j' j second b))), used_met uses ws e (is_use_of i e) (use_of_at i) used)
        ]

    pub open_back : is_in e (endpoints_met uses' ws) ≡ true → is_open p memory' uses' ws by i' j' e ≡ true → Found
    open_back there opens =
        let met = met_back lie there in
        let named = both_true (not (is_in e by)) _ opens in
        elim (either_true (list_any (is_use_of i' e) uses' && has_bytes p memory' j' e) _ named.1) [
          | inl both ↦ takes named.0 met both
          | inr both ↦
              let may = both_true (may_send_to p memory' uses' ws i' e) (may_receive_on p memory' uses' ws j' e) both in
              passes named.0 met (send_back i' i first may.0) (receive_back j' j second may.1)
        ]

-- ---- the answer

-- the parts of two threads between which an answer excludes
pub record ShutBetween (p : ProfileName) (memory : List PartMemory) (uses : List PartUse) (ws : List Wait) (by : List ℕ) (from to : ℕ) : Type 0 where
  pub i : ℕ
  pub j : ℕ
  pub from_in : part_at memory from ≡ Some i
  pub to_in : part_at memory to ≡ Some j
  pub shut : are_open p memory uses ws by i j ≡ false

module _ (p : ProfileName) (memory : List PartMemory) (uses : List PartUse) (ws : List Wait) (by : List ℕ) where
  pub shut_between : (from to : ℕ) → never p memory uses ws by from to ≡ Excluded → ShutBetween p memory uses ws by from to
  shut_between from to answer = go (part_at memory from) (part_at memory to) refl refl answer
    where
      closed : (b : Bool) → cond b Possible Excluded ≡ Excluded → b ≡ false
      closed true h = cc
      closed false h = refl

      go : (first second : Option ℕ) → part_at memory from ≡ first → part_at memory to ≡ second → never_between p memory uses ws by first second ≡ Excluded →
          ShutBetween p memory uses ws by from to
      go None second here there h = cc
      go (Some i) None here there h = cc
      go (Some i) (Some j) here there h = record { i = i; j = j; from_in = here; to_in = there; shut = closed (are_open p memory uses ws by i j) h }

  pub open_between : (from to i j : ℕ) → part_at memory from ≡ Some i → part_at memory to ≡ Some j → never p memory uses ws by from to ≡ Possible →
      are_open p memory uses ws by i j ≡ true
  open_between from to i j here there answer =
      opened (are_open p memory uses ws by i j) (sym (ap (λ o. never_between p memory uses ws by o (Some j)) here) ∙ sym (ap (never_between p memory uses ws by (part_at memory from)) there) ∙ answer)
    where
      opened : (b : Bool) → cond b Possible Excluded ≡ Possible → b ≡ true
      opened true h = refl
      opened false h = cc

module _ (p : ProfileName) (memory : List PartMemory) (uses : List PartUse) (memory' : List PartMemory) (uses' : List PartUse) (ws : List Wait) (by : List ℕ)
    (order' : AreInOrder p memory' uses')
    (lie : LieIn p (parts_listed memory uses) (parts_listed memory' uses')) (back : LieIn p (parts_listed memory' uses') (parts_listed memory uses)) where
  -- the part in which a part lies that has an address of it
  home : (i' address i : ℕ) → part_at memory' address ≡ Some i' → part_at memory address ≡ Some i → LiesIn p (parts_listed memory' uses') i' (parts_listed memory uses) i
  home i' address i there here =
      let k = back i' in
      let same : k.0 ≡ i = some_is k.0 i (sym (k.1.memory address there) ∙ here) in
      subst (λ n. LiesIn p (parts_listed memory' uses') i' (parts_listed memory uses) n) same k.1
    where
      some_is : (a b : ℕ) → Some a ≡ Some b → a ≡ b
      some_is a b h = cc

  pub one_answer : (from to : ℕ) → never p memory uses ws by from to ≡ Excluded → never p memory' uses' ws by from to ≡ Possible → ⊥
  one_answer from to excluded possible =
      let s = shut_between p memory uses ws by from to excluded in
      let none = neither (s.i == s.j) (list_any (is_open p memory uses ws by s.i s.j) (endpoints_met uses ws)) s.shut in
      let first = lie s.i in
      let second = lie s.j in
      let from_in : part_at memory' from ≡ Some first.0 = first.1.memory from s.from_in in
      let to_in : part_at memory' to ≡ Some second.0 = second.1.memory to s.to_in in
      let differ : s.i ≡ s.j → ⊥ = λ same. false≢true (sym none.0 ∙ eq-eqb s.i s.j same) in
      let from_back = home first.0 from s.i from_in s.from_in in
      let to_back = home second.0 to s.j to_in s.to_in in
      elim (either_true (first.0 == second.0) (list_any (is_open p memory' uses' ws by first.0 second.0) (endpoints_met uses' ws))
      (open_between p memory' uses' ws by from to first.0 second.0 from_in to_in possible)) [
        | inl same ↦
            let also : part_at memory' to ≡ Some first.0 = to_in ∙ ap (λ n. Some n) (sym (eqb-true first.0 second.0 same)) in
            differ (two_is (part_at memory to) s.i s.j (from_back.memory to also) s.to_in)
        | inr some ↦
            let found = any_of (is_open p memory' uses' ws by first.0 second.0) (endpoints_met uses' ws) some in
            let e = found.0 in
            let there : is_in e (endpoints_met uses' ws) ≡ true = any_in (λ a. e == a) (endpoints_met uses' ws) e found.1.0 (eq-eqb e e refl) in
            let is = open_back p memory uses memory' uses' ws order' e by first.0 second.0 s.i s.j from_back to_back differ back there found.1.1 in
            false≢true (sym (none_at (is_open p memory uses ws by s.i s.j) e (endpoints_met uses ws) none.1 is.1) ∙ is.0)
      ]
    where
      two_is : (o : Option ℕ) (a b : ℕ) → o ≡ Some a → o ≡ Some b → a ≡ b
      two_is o a b h g = let both : Some a ≡ Some b = sym h ∙ g in cc

-- ---- what is outside is not inside

two_ways : (part : ℕ) (o : Option ℕ) → o ≡ None → o ≡ Some part → ⊥
two_ways part o h k = let n : None ≡ Some part = sym h ∙ k in cc

one_part : (o : Option ℕ) (a b : ℕ) → o ≡ Some a → o ≡ Some b → a ≡ b
one_part o a b h g = let both : Some a ≡ Some b = sym h ∙ g in cc

module _ (p : ProfileName) (q : Asking) (uses : List PartUse) (A : State) (reached : IsReached p A) where
  around : (memory : List PartMemory) (more : List PartUse) → AreRightParts p (shown A) q.without memory more → AreLeastAround p (callers p (shown A) q.without) (shown A) memory more
  around memory more is = record { ever = is.ever; around = is.callers; least = is.least }

  not_message : IsNeverSaid p q (shown A) Excluded → IsNeverSaid p q (shown A) Possible → ⊥
  not_message said possible =
      let lie = lie_in_each_other p (callers p (shown A) q.without) (shown A) said.memory said.uses possible.memory possible.uses
      (around said.memory said.uses said.right) (around possible.memory possible.uses possible.right) A reached refl in
      one_answer p said.memory said.uses possible.memory possible.uses (waits p (shown A)) q.by possible.right.order lie.0 lie.1 q.from q.to (sym said.answered) (sym possible.answered)

  not_hold : (part_at q.memory q.from ≡ None) ⊎ LiesElsewhere q.memory q.from q.to → SharesPart q.memory q.from q.to → ⊥
  not_hold (inl outside) shares = two_ways shares.part (part_at q.memory q.from) outside shares.from_in
  not_hold (inr elsewhere) shares =
      elsewhere.other (shares.to_in ∙ ap (λ n. Some n) (one_part (part_at q.memory q.from) shares.part elsewhere.part shares.from_in elsewhere.from_in))

  not_apart : (v : Shown) (apart : StandsApart q.memory uses v q.from q.to) (i : ℕ) → i ≡ apart.i → MayLose q.memory v i (Some apart.j) → ⊥
  not_apart v apart i own (inl same) = apart.two (sym own ∙ same)
  not_apart v apart i own (inr one) = apart.none one.slot one.under (one.slot_in ∙ ap (λ n. Some n) own) one.below one.under_in

  not_loss : (v : Shown) → (part_at q.memory q.from ≡ None) ⊎ StandsApart q.memory uses v q.from q.to → TakesFrom q.memory v q.from q.to → ⊥
  not_loss v (inl outside) takes = two_ways takes.part (part_at q.memory q.from) outside takes.from_in
  not_loss v (inr apart) takes =
      not_apart v apart takes.part (one_part (part_at q.memory q.from) takes.part apart.i takes.from_in apart.from_in) (subst (MayLose q.memory v takes.part) apart.to_in takes.lost)

  not_both : (what : Happening) → IsRuledOut p q uses (shown A) what → IsInside p q (shown A) what → ⊥
  not_both Message outside inside = not_message outside inside
  not_both Hold outside inside = not_hold outside inside
  not_both Loss outside inside = not_loss (shown A) outside inside

pub only_one : (p : ProfileName) (q : Asking) (uses : List PartUse) (A : State) → IsOnlyOne p q uses A
only_one p q uses A reached outside inside = not_both p q uses A reached q.what outside inside

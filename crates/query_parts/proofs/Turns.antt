-- The turns of the search for the least parts: what is kept, and that it ends with closed parts.
use Rattle.std.proofs.Common.{◌≡◌, ℕ, ◌+◌, ◌-◌, ◌^◌, ◌≤◌, ◌<◌, ◌⊎◌, inl, inr, Bool, true, false, not, ◌||◌, ◌&&◌, List, [], ◌∷◌, ◌++◌, map, length, take, get_or, append_assoc, Option, Some, None, refl, sym, ap, subst, ◌∙◌, arith, length-append}
use Rattle.std.proofs.lemmas.List.{take_more, take_all, take-append-le, take-map, map-append, length-map}
use Rattle.slot_core.specs.declared.derivations.Derivation.{Derivation}
use Rattle.slot_core.specs.Calls.{derivation_view}
use Rattle.std.specs.Prelude.{unwrap_or}
use Rattle.std.specs.List.{list_all, count_by}
use Rattle.std.proofs.lemmas.Bool.{false≢true}
use Rattle.std.proofs.lemmas.Bool.Decides.{nat_tests}
use Rattle.cap_core.specs.declared.profile.ProfileName.{ProfileName}
use Rattle.cap_core.specs.declared.capability.Cap.{Cap}
use Rattle.cap_core.specs.declared.capability.Cap.TheVariants.{Null, Untyped, Endpoint, CNode, Tcb}
use Rattle.cap_core.specs.declared.object.Range.{Range}
use Rattle.cap_core.specs.Ranges.{range_named}
use Rattle.cap_core.specs.Numbers.{tcb_bits}
use Rattle.kernel_forest.specs.Entries.{Entry}
use Rattle.kernel_delete.specs.Members.{In}
use Rattle.kernel_delete.proofs.Members.{both_true, either_true, true_left, all_of, in_append, in_left, in_right}
use Rattle.kernel_delete.proofs.Clearable.{contains_in}
use Rattle.query_parts.specs.declared.listed.PartMemory.{PartMemory}
use Rattle.query_parts.specs.declared.listed.PartUse.{PartUse}
use Rattle.query_parts.specs.Parts.{Parts, IsWithin}
use Rattle.query_parts.specs.Listed.{lies_in, part_at, owns_range, is_allowed, named_within, is_within, spares, stands_in, entry_stands}
use Rattle.query_parts.specs.Private.Search.{memory_in, AreSame, IsCapTaken, IsTakenWhere, IsSlotTaken, IsRangeTaken, AreSound, inside_in, is_inside, is_outside, EndsInWords, whose, HoldWithin, AreBounded, AreGrown, AreHeld, AreLooked, AreTaken, block_of, entries_of, AreAround, AreFound, AreFoundSoFar}
use Rattle.query_parts.proofs.Lists.{in_mapped, from_mapped}
use Rattle.query_parts.proofs.Joining.{count_le, count_less, map_twice}
use Rattle.query_parts.proofs.Growing.{at_member, part_member, owned_at, owns_last, made_inside}
use Rattle.query_parts.proofs.Taken.{IsKept, with_none, range_kept, cap_kept}

-- ---- what grows

pub outside_before : (b c : Bool) → (b ≡ true → c ≡ true) → not c ≡ true → not b ≡ true
outside_before true c h out = sym (ap not (h refl)) ∙ out
outside_before false c h out = refl

module _ (p : ProfileName) (es : List Entry) (memory : List PartMemory) (uses : List PartUse) where
  pub grown_none : AreSound memory uses → AreGrown p es memory uses memory uses
  grown_none S = record {
    sound = S;
    inside = λ e h. h;
    bounded = λ other holds B. B;
    into = λ k. k;
    more = [];
    memory_is = with_none memory;
    fewer = omega arith;
  }

  pub grown_both : (memory' : List PartMemory) (uses' : List PartUse) (memory'' : List PartMemory) (uses'' : List PartUse) →
      AreGrown p es memory uses memory' uses' → AreGrown p es memory' uses' memory'' uses'' → AreGrown p es memory uses memory'' uses''
  grown_both memory' uses' memory'' uses'' A B = record {
    sound = B.sound;
    inside = λ e h. B.inside e (A.inside e h);
    bounded = λ other holds O. B.bounded other holds (A.bounded other holds O);
    into = λ k. B.into (A.into k);
    more = map (memory_in B.into) A.more ++ B.more;
    memory_is = B.memory_is ∙ ap (λ (l : List PartMemory). map (memory_in B.into) l ++ B.more) A.memory_is
        ∙ ap (λ (l : List PartMemory). l ++ B.more) (map-append (memory_in B.into) (map (memory_in A.into) memory) A.more)
        ∙ append_assoc (map (memory_in B.into) (map (memory_in A.into) memory)) (map (memory_in B.into) A.more) B.more
        ∙ ap (λ (l : List PartMemory). l ++ (map (memory_in B.into) A.more ++ B.more)) (map_twice B.into A.into memory);
    fewer =
        let both = length-append (map (memory_in B.into) A.more) B.more in
        let one = length-map A.more (memory_in B.into) in
        omega (arith, A.fewer, B.fewer, both, one);
  }

-- ---- one slot

-- what a part owns may stand there by whatever uses; and what it does not own and no use allows may not
module _ (p : ProfileName) (memory : List PartMemory) (uses : List PartUse) (part : ℕ) (cap : Cap) where
  owned_within : (o : Option Range) → named_within memory [] part cap o ≡ true → named_within memory uses part cap o ≡ true
  owned_within None h = h
  owned_within (Some range) h = elim (either_true (owns_range memory part range) (is_allowed [] part cap) h) [
    | inl own ↦ true_left _ _ own
    | inr none ↦ absurd (by cap none)
  ]
    where
      by : (c : Cap) → is_allowed [] part c ≡ true → ⊥
      by Null h = false≢true h
      by (Untyped base bits free) h = false≢true h
      by (Endpoint base badge rights) h = false≢true h
      by (CNode base radix guard) h = false≢true h
      by (Tcb base) h = false≢true h

  not_within : (o : Option Range) → named_within memory [] part cap o ≡ false → is_allowed uses part cap ≡ false → named_within memory uses part cap o ≡ false
  not_within None h none = h
  not_within (Some range) h none = ap (λ b. owns_range memory part range || b) none ∙ by (owns_range memory part range) h
    where
      by : (b : Bool) → b || is_allowed [] part cap ≡ false → b || false ≡ false
      by true h = h
      by false h = refl

module _ (p : ProfileName) (es : List Entry) (m : PartMemory) (e : Entry) (memory : List PartMemory) (uses : List PartUse) (S : AreSound memory uses) (there : In m memory)
    (known : In e es) where
  at_slot : lies_in m e.slot ≡ true → part_at memory e.slot ≡ Some m.part
  at_slot lies = part_member memory e.slot m (λ n j here. S.apart n m j there e.slot here lies) there lies

  still_there : (into : ℕ → ℕ) (more memory' : List PartMemory) → into m.part ≡ m.part → memory' ≡ map (memory_in into) memory ++ more → In m memory'
  still_there into more memory' same is =
      let one : In (memory_in into m) memory' = subst (λ (l : List PartMemory). In (memory_in into m) l) (sym is) (in_left _ _ more (in_mapped (memory_in into) m memory there)) in
      let whole : memory_in into m ≡ m = ap (λ (k : ℕ). memory_in (λ n. k) m) same in
      subst (λ (x : PartMemory). In x memory') whole one

  holds_there : (other : Parts) → HoldWithin p other es → AreBounded p other memory uses → lies_in m e.slot ≡ true → IsWithin p other (whose other m.part) e.cap
  holds_there other holds B lies =
      let low = between lies in
      holds e known (whose other m.part) (B.memory_lies m there e.slot low.0 low.1)
    where
      between : lies_in m e.slot ≡ true → (m.first ≤ e.slot) × (e.slot ≤ m.last)
      between h = (grind (arith, nat_tests), grind (arith, nat_tests))

  new_looked : (memory' : List PartMemory) (uses' : List PartUse) → lies_in m e.slot ≡ true → is_within p memory [] m.part e.cap ≡ false →
      IsCapTaken p m.part e.cap memory uses memory' uses' → AreLooked p es m (e ∷ []) memory uses memory' uses'
  new_looked memory' uses' lies new taken =
      let K = cap_kept p m.part memory uses e.cap memory' uses' e.slot (at_slot lies) taken in
      record {
        grown = record {
          sound = K.sound S;
          inside = K.grows;
          bounded = λ other holds B. K.bounded S other (holds_there other holds B lies) B;
          into = K.into;
          more = K.more;
          memory_is = K.memory_is;
          fewer = fewer K K.pushed;
        };
        still = still_there K.into K.more memory' K.same K.memory_is;
        held = λ a i at ends. held K a ends i;
      }
    where
      held : IsKept p e.cap m.part memory uses memory' uses' → (a : Entry) → EndsInWords p a.cap → In a (e ∷ []) → is_inside p memory' uses' a ≡ true
      held K a ends (inl same) =
          subst (λ (x : Entry). EndsInWords p x.cap → is_inside p memory' uses' x ≡ true) (sym same)
          (λ last. made_inside p memory' uses' e m.part (K.stays e.slot (at_slot lies)) (K.now last)) ends
      held K a ends (inr none) = absurd none

      fewer : (K : IsKept p e.cap m.part memory uses memory' uses') → (length K.more ≡ 0) ⊎ ((length K.more ≡ 1) × ((is_within p memory' uses' m.part e.cap ≡ true) × (is_allowed uses m.part e.cap ≡ false))) →
          count_by (is_outside p memory' uses') es + length K.more ≤ count_by (is_outside p memory uses) es
      fewer K (inl none) =
          let less = count_le (is_outside p memory' uses') (is_outside p memory uses) (λ a. outside_before _ _ (K.grows a)) es in
          omega (arith, less, none)
      fewer K (inr one) =
          let less = count_less (is_outside p memory' uses') (is_outside p memory uses) (λ a. outside_before _ _ (K.grows a)) es e known
          (ap not (made_inside p memory' uses' e m.part (K.stays e.slot (at_slot lies)) one.1.0))
          (ap not (ap (inside_in p memory uses e.cap) (at_slot lies) ∙ not_within p memory uses m.part e.cap (range_named p e.cap) new one.1.1)) in
          omega (arith, less, one.0)

  old_looked : (memory' : List PartMemory) (uses' : List PartUse) → (lies_in m e.slot ≡ true → is_within p memory uses m.part e.cap ≡ true) →
      AreSame memory uses memory' uses' → AreLooked p es m (e ∷ []) memory uses memory' uses'
  old_looked memory' uses' within same =
      subst (λ (l : List PartMemory). AreLooked p es m (e ∷ []) memory uses l uses') (sym same.0)
      (subst (λ (l : List PartUse). AreLooked p es m (e ∷ []) memory uses memory l) (sym same.1)
      (record { grown = grown_none p es memory uses S; still = there; held = λ a i. held a i }))
    where
      held : (a : Entry) → In a (e ∷ []) → lies_in m a.slot ≡ true → EndsInWords p a.cap → is_inside p memory uses a ≡ true
      held a (inl same) =
          subst (λ (x : Entry). lies_in m x.slot ≡ true → EndsInWords p x.cap → is_inside p memory uses x ≡ true) (sym same)
          (λ lies ends. made_inside p memory uses e m.part (at_slot lies) (within lies))
      held a (inr none) = absurd none

  pub slot_looked : (memory' : List PartMemory) (uses' : List PartUse) → IsSlotTaken p m e memory uses memory' uses' → AreLooked p es m (e ∷ []) memory uses memory' uses'
  slot_looked memory' uses' taken = by (lies_in m e.slot) refl (is_within p memory [] m.part e.cap) refl taken
    where
      by : (b : Bool) → lies_in m e.slot ≡ b → (c : Bool) → is_within p memory [] m.part e.cap ≡ c →
          IsTakenWhere p m.part e.cap (b && not c) memory uses memory' uses' → AreLooked p es m (e ∷ []) memory uses memory' uses'
      by true lies false new taken = new_looked memory' uses' lies new taken
      by true lies true within same = old_looked memory' uses' (λ h. owned_within p memory uses m.part e.cap (range_named p e.cap) within) same
      by false away c w same = old_looked memory' uses' (λ h. absurd (false≢true (sym away ∙ h))) same

-- ---- one slot after another

pub taken_none : (p : ProfileName) (es : List Entry) (m : PartMemory) (memory : List PartMemory) (uses : List PartUse) → AreTaken p es m [] memory uses memory uses
taken_none p es m memory uses S there = record { grown = grown_none p es memory uses S; still = there; held = λ e i. absurd i }

-- the derivations, and the entry of one of them
entries_more : (p : ProfileName) (ds : List Derivation) (i : ℕ) (d : Derivation) → i < length ds → d ≡ get_or ds i d →
    entries_of p (take (i + 1) ds) ≡ entries_of p (take i ds) ++ (derivation_view p d).0 ∷ []
entries_more p ds i d low is =
    ap (entries_of p) (take_more ds i d low ∙ ap (λ (x : Derivation). take i ds ++ x ∷ []) (sym is))
    ∙ map-append (λ (x : Derivation). (derivation_view p x).0) (take i ds) (d ∷ [])

pub slots_more : (p : ProfileName) (ds : List Derivation) (m : PartMemory) (i : ℕ) (d : Derivation) (memory : List PartMemory) (uses : List PartUse) (memory' : List PartMemory)
    (uses' : List PartUse) (memory'' : List PartMemory) (uses'' : List PartUse) → i < length ds → d ≡ get_or ds i d →
    AreTaken p (entries_of p ds) m (entries_of p (take i ds)) memory uses memory' uses' → IsSlotTaken p m (derivation_view p d).0 memory' uses' memory'' uses'' →
    AreTaken p (entries_of p ds) m (entries_of p (take (i + 1) ds)) memory uses memory'' uses''
slots_more p ds m i d memory uses memory' uses' memory'' uses'' low is A taken S there =
    let L = A S there in
    let known = in_mapped (λ (x : Derivation). (derivation_view p x).0) d ds (contains_in ds d (i, low, sym is)) in
    let M = slot_looked p (entries_of p ds) m (derivation_view p d).0 memory' uses' L.grown.sound L.still known memory'' uses'' taken in
    record {
      grown = grown_both p (entries_of p ds) memory uses memory' uses' memory'' uses'' L.grown M.grown;
      still = M.still;
      held = λ e j lies ends.
          elim (in_append e (entries_of p (take i ds)) ((derivation_view p d).0 ∷ []) (subst (λ (l : List Entry). In e l) (entries_more p ds i d low is) j)) [
            | inl old ↦ M.grown.inside e (L.held e old lies ends)
            | inr new ↦ M.held e new lies ends
          ];
    }

-- ---- the threads

whose_is : (other : Parts) (t i : ℕ) → other.part_of t ≡ Some i → whose other t ≡ i
whose_is other t i h = ap (λ (o : Option ℕ). unwrap_or o 0) h

pub around_more : (p : ProfileName) (threads : List ℕ) (t : ℕ) (memory : List PartMemory) (uses : List PartUse) (memory' : List PartMemory) (uses' : List PartUse) →
    AreAround p threads memory uses → IsRangeTaken t (record { first = t; bits = tcb_bits p }) memory uses memory' uses' →
    AreAround p (threads ++ t ∷ []) memory' uses'
around_more p threads t memory uses memory' uses' A taken =
    let K = range_kept p t memory uses (Tcb t) memory' uses' refl refl (λ other j w. w) taken in
    record {
      sound = K.sound A.sound;
      has = λ s i ends. has K s ends (in_append s threads (t ∷ []) i);
      bounded = λ other lies. K.bounded A.sound other
          (let l = lies t (in_right t threads (t ∷ []) (inl refl)) in subst (λ k. IsWithin p other k (Tcb t)) (sym (whose_is other t l.0 l.1.0)) l.1.1)
          (A.bounded other (λ s i. lies s (in_left s threads (t ∷ []) i)));
    }
  where
    at : is_within p memory' uses' t (Tcb t) ≡ true → part_at memory' t ≡ Some t
    at within =
        let owned = owns_last memory' t t (t + (2 ^ tcb_bits p - 1)) _ (no_use _ within) in
        let both = both_true (list_all (spares t t (t + (2 ^ tcb_bits p - 1))) memory') _ owned in
        owned_at t t (t + (2 ^ tcb_bits p - 1)) t memory' (omega arith) (omega arith) both.0 both.1
      where
        no_use : (b : Bool) → (b || false) ≡ true → b ≡ true
        no_use true h = refl
        no_use false h = absurd (false≢true h)

    has : IsKept p (Tcb t) t memory uses memory' uses' → (s : ℕ) → EndsInWords p (Tcb s) → (In s threads) ⊎ (In s (t ∷ [])) → is_inside p memory' uses' (block_of s) ≡ true
    has K s ends (inl old) = K.grows (block_of s) (A.has s old ends)
    has K s ends (inr one) = elim one [
      | inl e ↦ subst (λ x. EndsInWords p (Tcb x) → is_inside p memory' uses' (block_of x) ≡ true) (sym e)
          (λ last. made_inside p memory' uses' (block_of t) t (at (K.now last)) (K.now last)) ends
      | inr none ↦ absurd none
    ]

-- ---- the turns

module _ (p : ProfileName) (es : List Entry) (threads : List ℕ) (memory : List PartMemory) (uses : List PartUse) where
  pub found_first : AreAround p threads memory uses → AreFoundSoFar p es threads memory uses 0
  found_first A = record {
    sound = A.sound;
    has = A.has;
    bounded = λ other of. A.bounded other of.has;
    low = omega arith;
    looked = λ m i. absurd i;
  }

  module _ (place : ℕ) (m : PartMemory) (low : place < length memory) (is : m ≡ get_or memory place m) (memory' : List PartMemory) (uses' : List PartUse)
      (F : AreFoundSoFar p es threads memory uses place) (T : AreTaken p es m es memory uses memory' uses') where
    looked_now : AreLooked p es m es memory uses memory' uses'
    looked_now = T F.sound (contains_in memory m (place, low, sym is))

    longer : length memory' ≡ length memory + length looked_now.grown.more
    longer = ap length looked_now.grown.memory_is ∙ length-append (map (memory_in looked_now.grown.into) memory) looked_now.grown.more
        ∙ ap (λ n. n + length looked_now.grown.more) (length-map memory (memory_in looked_now.grown.into))

    taken_first : take (place + 1) memory' ≡ map (memory_in looked_now.grown.into) (take place memory ++ m ∷ [])
    taken_first =
        ap (take (place + 1)) looked_now.grown.memory_is
        ∙ take-append-le (place + 1) (map (memory_in looked_now.grown.into) memory) looked_now.grown.more (let n = length-map memory (memory_in looked_now.grown.into) in omega (arith, n))
        ∙ take-map (memory_in looked_now.grown.into) (place + 1) memory
        ∙ ap (map (memory_in looked_now.grown.into)) (take_more memory place m low ∙ ap (λ (x : PartMemory). take place memory ++ x ∷ []) (sym is))

    pub found_more : AreFoundSoFar p es threads memory' uses' (place + 1)
    found_more = record {
      sound = looked_now.grown.sound;
      has = λ t j ends. looked_now.grown.inside (block_of t) (F.has t j ends);
      bounded = λ other of. looked_now.grown.bounded other of.holds (F.bounded other of);
      low = let n = longer in omega (arith, n);
      looked = λ n i.
          let w = from_mapped (memory_in looked_now.grown.into) (take place memory ++ m ∷ []) n (subst (λ (l : List PartMemory). In n l) taken_first i) in
          subst (λ (x : PartMemory). AreHeld p memory' uses' x es) (sym w.1.1) (held w.0 (in_append w.0 (take place memory) (m ∷ []) w.1.0));
    }
      where
        held : (n : PartMemory) → (In n (take place memory)) ⊎ (In n (m ∷ [])) → AreHeld p memory' uses' n es
        held n (inl old) = λ e i lies ends. looked_now.grown.inside e (F.looked n old e i lies ends)
        held n (inr new) = elim new [
          | inl same ↦ subst (λ (x : PartMemory). AreHeld p memory' uses' x es) (sym same) looked_now.held
          | inr none ↦ absurd none
        ]

    pub turn_less : count_by (is_outside p memory' uses') es + (length memory' - (place + 1)) < count_by (is_outside p memory uses) es + (length memory - place)
    turn_less = let n = longer in let less = looked_now.grown.fewer in omega (arith, n, less)

  pub found_all : (place : ℕ) → length memory ≤ place → AreFoundSoFar p es threads memory uses place → AreFound p es threads memory uses
  found_all place all F = record { sound = F.sound; has = F.has; bounded = F.bounded; closed = closed }
    where
      whole : take place memory ≡ memory
      whole = take_all place memory all

      stands : (e : Entry) → In e es → EndsInWords p e.cap → (o : Option ℕ) → part_at memory e.slot ≡ o → stands_in p memory uses e.cap o ≡ true
      stands e i ends None at = refl
      stands e i ends (Some k) at =
          let m = at_member memory e.slot k at in
          let inside = F.looked m.0 (subst (λ (l : List PartMemory). In m.0 l) (sym whole) m.1.0) e i m.1.1.0 ends in
          sym (ap (inside_in p memory uses e.cap) at) ∙ inside

      closed : ((e : Entry) → In e es → EndsInWords p e.cap) → list_all (entry_stands p memory uses) es ≡ true
      closed ends = all_of (entry_stands p memory uses) es (λ e i. stands e i (ends e i) (part_at memory e.slot) refl)

pub threads_more : (p : ProfileName) (threads : List ℕ) (i bits : ℕ) (memory : List PartMemory) (uses : List PartUse) (memory' : List PartMemory) (uses' : List PartUse) →
    i < length threads → bits ≡ tcb_bits p → AreAround p (take i threads) memory uses →
    IsRangeTaken (get_or threads i 0) (record { first = get_or threads i 0; bits = bits }) memory uses memory' uses' →
    AreAround p (take (i + 1) threads) memory' uses'
threads_more p threads i bits memory uses memory' uses' low size A taken =
    subst (λ (ts : List ℕ). AreAround p ts memory' uses') (sym (take_more threads i 0 low))
    (around_more p (take i threads) (get_or threads i 0) memory uses memory' uses' A
    (subst (λ b. IsRangeTaken (get_or threads i 0) (record { first = get_or threads i 0; bits = b }) memory uses memory' uses') size taken))

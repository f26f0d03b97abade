-- Ways by the uses that a part has, and by the parts that may receive on each endpoint.
use Rattle.std.proofs.Common.{◌≡◌, ℕ, ◌+◌, ◌<◌, ◌≤◌, Bool, true, false, not, cond, ◌==◌, ◌&&◌, ◌||◌, List, [], ◌∷◌, ◌++◌, filter, map, length, take, get_or, append_assoc, refl, sym, ap, ap₂, ◌∙◌, arith}
use Rattle.std.specs.List.{list_any, flat_map}
use Rattle.std.proofs.lemmas.Bool.{false≢true}
use Rattle.std.proofs.lemmas.List.{append-nil, get_or-map, length-map, take_more, take_all}
use Rattle.std.proofs.lemmas.List.Concat.{flat_map-append}
use Rattle.std.proofs.lemmas.List.Elements.{filter_agree}
use Rattle.cap_core.specs.declared.profile.ProfileName.{ProfileName}
use Rattle.cap_core.specs.Rights.{write_bit, read_bit}
use Rattle.kernel_abstract.proofs.Lists.Rising.{filter_both}
use Rattle.query_parts.specs.declared.listed.PartMemory.{PartMemory}
use Rattle.query_parts.specs.declared.listed.PartUse.{PartUse}
use Rattle.query_parts.specs.Order.{owns_endpoint}
use Rattle.setup_report.specs.State.{rising}
use Rattle.command_parts.specs.declared.ways.UsedEndpoint.{UsedEndpoint}
use Rattle.command_parts.specs.declared.ways.Passing.{Passing}
use Rattle.command_parts.specs.declared.ways.Passing.TheVariants.{Message, Grant, Answer}
use Rattle.command_parts.specs.Text.{parts_of, passes_by, may_pass, badges_by, is_use, is_of_part, is_of_endpoint, sends_with_any, may_send_any, badges, may_part_receive, receivers_on, other_receivers, way, ways_on, badges_held, held_ways_on, endpoints_used, between_line, passing_line}
use Rattle.command_parts.specs.Telling.{PartTexts}
use Rattle.command_parts.specs.Private.Used.{Used, memory_on, used_view, used_on, all_used}
use Rattle.command_parts.proofs.Kept.{any_kept, filter_kept}
use Rattle.command_parts.proofs.Owned.{owned_on}

left_true : (b c : Bool) → b && c ≡ true → b ≡ true
left_true true c h = refl
left_true false c h = h

right_true : (b c : Bool) → b && c ≡ true → c ≡ true
right_true true c h = h
right_true false c h = absurd (false≢true h)

exchanged : (b c : Bool) → b && c ≡ c && b
exchanged true true = refl
exchanged true false = refl
exchanged false true = refl
exchanged false false = refl

-- what one element more adds
pub one_more : {X Y : Type 0} (f : X → List Y) (xs : List X) (i : ℕ) (d : X) (start before after : List Y) → i < length xs →
    before ≡ start ++ flat_map f (take i xs) → after ≡ before ++ f (get_or xs i d) → after ≡ start ++ flat_map f (take (i + 1) xs)
one_more {X} {Y} f xs i d start before after within is so =
    so ∙ ap (λ (l : List Y). l ++ f (get_or xs i d)) is
    ∙ append_assoc start (flat_map f (take i xs)) (f (get_or xs i d))
    ∙ ap (λ (l : List Y). start ++ l)
    (ap (λ (l : List Y). flat_map f (take i xs) ++ l) (sym (append-nil (f (get_or xs i d))))
    ∙ sym (flat_map-append f (take i xs) (get_or xs i d ∷ [])) ∙ ap (flat_map f) (sym (take_more xs i d within)))

-- ---- a part's own uses

module _ (p : ProfileName) (memory : List PartMemory) (uses : List PartUse) where
  -- what has a right to an endpoint is kept by each of two filters: of the part, and of the endpoint
  abbrev KeepsUses : (PartUse → Bool) → ℕ → ℕ → Type 0
  KeepsUses keep from endpoint = (right : ℕ) (u : PartUse) → is_use right from endpoint u ≡ true → keep u ≡ true

  of_part : (from endpoint : ℕ) → KeepsUses (is_of_part from) from endpoint
  of_part from endpoint right u h = left_true _ _ h

  of_endpoint : (from endpoint : ℕ) → KeepsUses (is_of_endpoint endpoint) from endpoint
  of_endpoint from endpoint right u h = left_true _ _ (right_true (u.part == from) _ h)

  kept_badges : (keep : PartUse → Bool) (from endpoint : ℕ) → KeepsUses keep from endpoint → (l : List PartUse) →
      badges p memory (filter keep l) from endpoint ≡ badges p memory l from endpoint
  kept_badges keep from endpoint keeps l =
      ap (λ b. cond (owns_endpoint p memory from endpoint || b) (0 ∷ [])
      (rising (map (λ (u : PartUse). u.badge.0) (filter (is_use write_bit from endpoint) (filter keep l)))))
      (any_kept (sends_with_any from endpoint) keep (λ u h. keeps write_bit u (left_true _ _ h)) l)
      ∙ ap (λ (l' : List PartUse). cond (may_send_any p memory l from endpoint) (0 ∷ []) (rising (map (λ (u : PartUse). u.badge.0) l')))
      (filter_kept (is_use write_bit from endpoint) keep (λ u h. keeps write_bit u h) l)

  -- what is known of an endpoint, by the memory and the uses of it
  pub used_here : (endpoint : ℕ) (near seen : List PartMemory) (here : List PartUse) (parts receivers : List ℕ) → near ≡ memory_on p memory endpoint →
      seen ≡ near → here ≡ filter (is_of_endpoint endpoint) uses → parts ≡ parts_of memory → receivers ≡ filter (may_part_receive p seen here endpoint) parts →
      ◌≡◌ {A = Used} (record { address = endpoint; memory = near; receivers = receivers }) (used_on p memory uses endpoint)
  used_here endpoint near seen here parts receivers near_is seen_is here_is all is =
      ap₂ (λ (m : List PartMemory) (r : List ℕ). record { address = endpoint; memory = m; receivers = r }) near_is
      (is ∙ filter_agree (may_part_receive p seen here endpoint) (may_part_receive p memory uses endpoint) (λ part.
      ap₂ (λ a b. a || b)
      (ap (λ (m : List PartMemory). owns_endpoint p m part endpoint) (seen_is ∙ near_is) ∙ owned_on p part endpoint memory)
      (ap (list_any (is_use read_bit part endpoint)) here_is
      ∙ any_kept (is_use read_bit part endpoint) (is_of_endpoint endpoint) (λ u h. left_true _ _ (right_true (u.part == part) _ h)) uses)) parts
      ∙ ap (filter (may_part_receive p memory uses endpoint)) all)

  others_are : (from endpoint : ℕ) → filter (λ other. not (other == from)) (receivers_on p memory uses endpoint) ≡ other_receivers p memory uses from endpoint
  others_are from endpoint =
      sym (filter_both (may_part_receive p memory uses endpoint) (λ other. not (other == from)) (parts_of memory))
      ∙ filter_agree (λ other. may_part_receive p memory uses endpoint other && not (other == from)) (λ other. not (other == from) && may_part_receive p memory uses endpoint other)
      (λ other. exchanged (may_part_receive p memory uses endpoint other) (not (other == from))) (parts_of memory)

  used : (passing : Passing) (from endpoint : ℕ) (u : PartUse) → passes_by passing from endpoint u ≡ true → is_use write_bit from endpoint u ≡ true
  used Message from endpoint u h = h
  used Grant from endpoint u h = left_true _ _ h
  used Answer from endpoint u h = left_true _ _ h

  kept_passes : (keep : PartUse → Bool) (passing : Passing) (from endpoint : ℕ) → KeepsUses keep from endpoint → (l : List PartUse) →
      may_pass passing p memory (filter keep l) from endpoint ≡ may_pass passing p memory l from endpoint
  kept_passes keep passing from endpoint keeps l =
      ap (λ b. owns_endpoint p memory from endpoint || b)
      (any_kept (passes_by passing from endpoint) keep (λ u h. keeps write_bit u (used passing from endpoint u h)) l)

  kept_by : (keep : PartUse → Bool) (passing : Passing) (from endpoint : ℕ) → KeepsUses keep from endpoint → (l : List PartUse) →
      badges_by passing p memory (filter keep l) from endpoint ≡ badges_by passing p memory l from endpoint
  kept_by keep Message from endpoint keeps l = kept_badges keep from endpoint keeps l
  kept_by keep Grant from endpoint keeps l = ap (λ b. cond b (0 ∷ []) []) (kept_passes keep Grant from endpoint keeps l)
  kept_by keep Answer from endpoint keeps l = ap (λ b. cond b (0 ∷ []) []) (kept_passes keep Answer from endpoint keeps l)

  near_by : (passing : Passing) (from endpoint : ℕ) (l : List PartUse) → badges_by passing p (memory_on p memory endpoint) l from endpoint ≡ badges_by passing p memory l from endpoint
  near_by Message from endpoint l =
      ap (λ b. cond (b || list_any (sends_with_any from endpoint) l) (0 ∷ []) (rising (map (λ (u : PartUse). u.badge.0) (filter (is_use write_bit from endpoint) l))))
      (owned_on p from endpoint memory)
  near_by Grant from endpoint l = ap (λ b. cond (b || list_any (passes_by Grant from endpoint) l) (0 ∷ []) []) (owned_on p from endpoint memory)
  near_by Answer from endpoint l = ap (λ b. cond (b || list_any (passes_by Answer from endpoint) l) (0 ∷ []) []) (owned_on p from endpoint memory)

  -- the ways from a part by an endpoint, by the part's uses of it and by what is known of it
  pub ways_here : (passing : Passing) (from endpoint : ℕ) (here : List PartUse) (used : UsedEndpoint) → used_view used ≡ used_on p memory uses endpoint →
      here ≡ filter (is_of_endpoint used.address) (filter (is_of_part from) uses) →
      flat_map (λ badge. map (way from used.address badge) (filter (λ other. not (other == from)) used.receivers.items)) (badges_by passing p used.memory.items here from used.address)
      ≡ ways_on passing p memory uses from endpoint
  ways_here passing from endpoint here used is here_is =
      ap (λ (w : Used). flat_map (λ badge. map (way from w.address badge) (filter (λ other. not (other == from)) w.receivers)) (badges_by passing p w.memory here from w.address)) is
      ∙ ap (λ (l : List PartUse). flat_map (λ badge. map (way from endpoint badge) (filter (λ other. not (other == from)) (receivers_on p memory uses endpoint)))
      (badges_by passing p (memory_on p memory endpoint) l from endpoint))
      (here_is ∙ ap (λ (w : Used). filter (is_of_endpoint w.address) (filter (is_of_part from) uses)) is)
      ∙ ap (flat_map (λ badge. map (way from endpoint badge) (filter (λ other. not (other == from)) (receivers_on p memory uses endpoint))))
      (near_by passing from endpoint (filter (is_of_endpoint endpoint) (filter (is_of_part from) uses))
      ∙ kept_by (is_of_endpoint endpoint) passing from endpoint (of_endpoint from endpoint) (filter (is_of_part from) uses)
      ∙ kept_by (is_of_part from) passing from endpoint (of_part from endpoint) uses)
      ∙ ap (λ (r : List ℕ). flat_map (λ badge. map (way from endpoint badge) r) (badges_by passing p memory uses from endpoint)) (others_are from endpoint)

  -- what passes between two parts by an endpoint, by the uses of it
  pub between_here : (told : PartTexts) (passing : Passing) (from to endpoint : ℕ) (here : List PartUse) → here ≡ filter (is_of_endpoint endpoint) uses →
      between_line told passing p memory here from to endpoint ≡ between_line told passing p memory uses from to endpoint
  between_here told passing from to endpoint here is =
      ap (λ (l : List PartUse). between_line told passing p memory l from to endpoint) is
      ∙ ap (λ b. cond (b && may_part_receive p memory (filter (is_of_endpoint endpoint) uses) endpoint to) (passing_line told passing (way from endpoint 0 to)) [])
      (kept_passes (is_of_endpoint endpoint) passing from endpoint (of_endpoint from endpoint) uses)
      ∙ ap (λ b. cond (may_pass passing p memory uses from endpoint && (owns_endpoint p memory to endpoint || b)) (passing_line told passing (way from endpoint 0 to)) [])
      (any_kept (is_use read_bit to endpoint) (is_of_endpoint endpoint) (λ u h. of_endpoint to endpoint read_bit u h) uses)

  -- the ways by an endpoint of which a part has these uses alone, by the uses of it and by what is known of it
  pub held_here : (held : List PartUse) (from endpoint : ℕ) (here : List PartUse) (used : UsedEndpoint) → used_view used ≡ used_on p memory uses endpoint →
      here ≡ filter (is_of_endpoint used.address) held →
      flat_map (λ badge. map (way from used.address badge) (filter (λ other. not (other == from)) used.receivers.items)) (badges_held here from used.address)
      ≡ held_ways_on p memory uses held from endpoint
  held_here held from endpoint here used is here_is =
      ap (λ (w : Used). flat_map (λ badge. map (way from w.address badge) (filter (λ other. not (other == from)) w.receivers)) (badges_held here from w.address)) is
      ∙ ap (λ (l : List PartUse). flat_map (λ badge. map (way from endpoint badge) (filter (λ other. not (other == from)) (receivers_on p memory uses endpoint)))
      (rising (map (λ (u : PartUse). u.badge.0) l)))
      (ap (filter (is_use write_bit from endpoint)) (here_is ∙ ap (λ (w : Used). filter (is_of_endpoint w.address) held) is)
      ∙ filter_kept (is_use write_bit from endpoint) (is_of_endpoint endpoint) (λ u h. of_endpoint from endpoint write_bit u h) held)

  -- by uses that are the same of each endpoint
  pub receivers_same : (list : List PartUse) → ((n : ℕ) → filter (is_of_endpoint n) list ≡ filter (is_of_endpoint n) uses) → (endpoint : ℕ) →
      receivers_on p memory list endpoint ≡ receivers_on p memory uses endpoint
  receivers_same list same endpoint =
      filter_agree (may_part_receive p memory list endpoint) (may_part_receive p memory uses endpoint) (λ part.
      ap (λ b. owns_endpoint p memory part endpoint || b)
      (sym (any_kept (is_use read_bit part endpoint) (is_of_endpoint endpoint) (λ u h. of_endpoint part endpoint read_bit u h) list)
      ∙ ap (list_any (is_use read_bit part endpoint)) (same endpoint)
      ∙ any_kept (is_use read_bit part endpoint) (is_of_endpoint endpoint) (λ u h. of_endpoint part endpoint read_bit u h) uses)) (parts_of memory)

  used_same : (list : List PartUse) → ((n : ℕ) → filter (is_of_endpoint n) list ≡ filter (is_of_endpoint n) uses) → (endpoints : List ℕ) →
      map (used_on p memory list) endpoints ≡ map (used_on p memory uses) endpoints
  used_same list same [] = refl
  used_same list same (e ∷ es) =
      ap₂ (λ (r : List ℕ) (rest : List Used). record { address = e; memory = memory_on p memory e; receivers = r } ∷ rest)
      (receivers_same list same e) (used_same list same es)

  pub all_found : (list : List PartUse) → ((n : ℕ) → filter (is_of_endpoint n) list ≡ filter (is_of_endpoint n) uses) → (endpoints : List ℕ) (i : ℕ)
      (all : List UsedEndpoint) → endpoints ≡ endpoints_used uses → length endpoints ≤ i → map used_view all ≡ map (used_on p memory list) (take i endpoints) →
      map used_view all ≡ all_used p memory uses
  all_found list same endpoints i all is low so =
      so ∙ ap (map (used_on p memory list)) (take_all i endpoints low) ∙ used_same list same endpoints ∙ ap (map (used_on p memory uses)) is

  as_long : (all : List UsedEndpoint) → map used_view all ≡ all_used p memory uses → length all ≡ length (endpoints_used uses)
  as_long all same = sym (length-map all used_view) ∙ ap length same ∙ length-map (endpoints_used uses) (used_on p memory uses)

  -- what was found of the endpoint at a place
  pub found_at : (all : List UsedEndpoint) (i : ℕ) (used : UsedEndpoint) → i < length all → map used_view all ≡ all_used p memory uses → used ≡ get_or all i used →
      used_view used ≡ used_on p memory uses (get_or (endpoints_used uses) i 0)
  found_at all i used low same is =
      let there : i < length (endpoints_used uses) = omega (arith, as_long all same, low) in
      ap used_view is
      ∙ sym (get_or-map used_view all i used (used_view used) low)
      ∙ ap (λ (l : List Used). get_or l i (used_view used)) same
      ∙ get_or-map (used_on p memory uses) (endpoints_used uses) i 0 (used_view used) there

  -- what one endpoint more adds, and what all of them add
  pub next_found : {Y : Type 0} (f : ℕ → List Y) (all : List UsedEndpoint) (i : ℕ) (start before after : List Y) → i < length all →
      map used_view all ≡ all_used p memory uses → before ≡ start ++ flat_map f (take i (endpoints_used uses)) → after ≡ before ++ f (get_or (endpoints_used uses) i 0) →
      after ≡ start ++ flat_map f (take (i + 1) (endpoints_used uses))
  next_found f all i start before after low same is so =
      let there : i < length (endpoints_used uses) = omega (arith, as_long all same, low) in
      one_more f (endpoints_used uses) i 0 start before after there is so

  pub all_taken : {Y : Type 0} (f : ℕ → List Y) (all : List UsedEndpoint) (i : ℕ) (start after : List Y) → length all ≤ i →
      map used_view all ≡ all_used p memory uses → after ≡ start ++ flat_map f (take i (endpoints_used uses)) → after ≡ start ++ flat_map f (endpoints_used uses)
  all_taken {Y} f all i start after high same is =
      let behind : length (endpoints_used uses) ≤ i = omega (arith, as_long all same, high) in
      is ∙ ap (λ (l : List ℕ). start ++ flat_map f l) (take_all i (endpoints_used uses) behind)

-- Equal listings are those of policies that say the same.
use Rattle.std.proofs.Common.{◌≡◌, ℕ, ◌<◌, ◌≤◌, ◌^◌, ◌==◌, Bool, true, false, nat_lt, All, List, [], ◌∷◌, ◌++◌, map, filter, length, Option, Some, None, inl, inr, refl, sym, ap, subst, ◌∙◌, append_assoc, append-nil, arith, eq-eqb, string_bytes, String, Global}
use Rattle.std.specs.Prelude.{codes, cond, find, option_map, slice_get}
use Rattle.std.specs.Fmt.{decimal}
use Rattle.std.specs.List.{AllByRecursion as Each, Contains, flat_map, list_all}
use Rattle.std.proofs.lemmas.Bool.{false≢true, eqb-true}
use Rattle.std.proofs.lemmas.Fmt.{decimal_injective}
use Rattle.std.proofs.lemmas.List.{append_cancel_left}
use Rattle.std.proofs.lemmas.List.Elements.{All-get_or, recursion_from_All}
use Rattle.std.proofs.lemmas.Option.{get_or_from_slice_get, slice_get_within}
use Rattle.cap_core.specs.Rights.{all_rights}
use Rattle.cap_core.specs.declared.rights.Rights.{Rights}
use Rattle.kernel_delete.specs.Members.{In}
use Rattle.kernel_delete.proofs.Clearable.{contains_in, in_contains}
use Rattle.kernel_delete.proofs.Members.{each_in, each_of, eqb_self, filter_in, in_append, in_filter, in_left, in_right}
use Rattle.query_parts.proofs.Lists.{from_mapped, in_mapped}
use Rattle.setup_format.specs.Views.{SetupView}
use Rattle.setup_report.specs.Report.{terminated}
use Rattle.setup_report.specs.Text.{rights_text}
use Rattle.setup_report_laws.proofs.OneLine.{all_pass}
use Rattle.setup_policy.specs.declared.policy.Allowance.{Allowance}
use Rattle.setup_policy.specs.declared.policy.Label.{Label}
use Rattle.setup_policy.specs.declared.policy.Labels.{Labels}
use Rattle.setup_policy.specs.declared.policy.Member.{Member}
use Rattle.setup_policy.specs.declared.policy.OwnRegion.{OwnRegion}
use Rattle.setup_policy.specs.declared.policy.Policy.{Policy}
use Rattle.setup_policy.specs.declared.policy.PolicyTake.{PolicyTake}
use Rattle.setup_policy.specs.declared.policy.PolicyVersion.{PolicyVersion}
use Rattle.setup_policy.specs.declared.policy.PolicyVersion.TheVariants.{One, Two}
use Rattle.setup_policy.specs.declared.policy.PolicyWay.{PolicyWay}
use Rattle.command_parts.specs.Text.{any_badge_text}
use Rattle.command_policy_text.specs.Names.{actor_name, label_of, labelled, labelled_text, name_or_none, version_text}
use Rattle.command_policy_text.specs.Order.{in_order}
use Rattle.command_policy_text.specs.Told.{group_text, labelled_endpoint, labelled_thread, word_behind}
use Rattle.command_policy_listing.specs.Listing.{count_line, listing_head, listing_text, may_lines, messages_line, region_line, silent_line, switch_lines, switch_text, take_line, use_line, way_line, who_lines}
use Rattle.command_policy_listing.specs.Told.{AreTold, CanBeListed, HaveTheSame, IsShortMember, IsShortRegion, IsShortUse, IsShortWay, IsWordly, ListingsTellPolicies, SayTheSame, TellApart, said_member, said_region, said_take, said_use, said_way}
use Rattle.command_policy_listing.proofs.Ordered.{from_order, in_their_order}
use Rattle.command_policy_listing.proofs.Words.{AreWords, IsLine, IsRow, IsWord, Row, badge_word, lines_apart, lines_joined, lines_text, no_end, number_word, rights_word, row_line, row_text, rows_apart, same_badge, same_rights, spaced, word_line}

-- ---- lists

all_in : {X : Type 0} (P : X → Type 0) (xs : List X) (x : X) → All P xs → In x xs → P x
all_in P xs x all there = each_in P xs x (recursion_from_All P xs all) there

each_both : {X : Type 0} (P : X → Type 0) (xs ys : List X) → Each P xs → Each P ys → Each P (xs ++ ys)
each_both P [] ys h k = k
each_both P (x ∷ xs) ys h k = (h.0, each_both P xs ys h.1 k)

at_place : {X : Type 0} (P : X → Type 0) (xs : List X) (n : ℕ) (x : X) → All P xs → slice_get xs n ≡ Some x → P x
at_place P xs n x h e = subst P (get_or_from_slice_get xs n x x e) (All-get_or P xs n x (slice_get_within xs n x e) h)

-- without the last of them
abbrev but_last : List (List ℕ) → List (List ℕ)
but_last [] = []
but_last (x ∷ []) = []
but_last (x ∷ (y ∷ ys)) = x ∷ but_last (y ∷ ys)

but_last_is : (xs : List (List ℕ)) (x : List ℕ) → but_last (xs ++ (x ∷ [])) ≡ xs
but_last_is [] x = refl
but_last_is (y ∷ []) x = refl
but_last_is (y ∷ (z ∷ zs)) x = ap (λ l. y ∷ l) (but_last_is (z ∷ zs) x)

-- behind those of a kind that it is not of
skip : {X : Type 0} (row : X → Row) (xs : List X) (rest : List Row) (r : Row) → ((x : X) → r ≡ row x → ⊥) → In r (map row xs ++ rest) → In r rest
skip row xs rest r none there = elim (in_append r (map row xs) rest there) [
  | inl here ↦ let m = from_mapped row xs r here in absurd (none m.0 m.1.1)
  | inr more ↦ more
]

-- one of a kind, where it is none of those behind
found : {X : Type 0} (row : X → Row) (xs : List X) (rest : List Row) (r : Row) → (In r rest → ⊥) → In r (map row xs ++ rest) → (x : X) × (In x xs × (r ≡ row x))
found row xs rest r none there = elim (in_append r (map row xs) rest there) [
  | inl here ↦ from_mapped row xs r here
  | inr more ↦ absurd (none more)
]

abbrev first : Row → ℕ
first ((b ∷ bs), ws) = b
first ([], ws) = 0

differ : (r s : Row) → r ≡ s → first r == first s ≡ false → ⊥
differ r s same unlike = false≢true (sym unlike ∙ (ap (λ (t : Row). first r == first t) (sym same) ∙ eqb_self (first r)))

-- ---- the rows of a policy: the words of each line

abbrev silent_row : Labels → Member → Row
silent_row n m = (codes "silent", labelled_thread n m.thread ∷ [])

abbrev messages_row : Labels → Member → Row
messages_row n m = (codes "messages", labelled_thread n m.thread ∷ [])

abbrev threads_of : Policy → Labels → ℕ → List (List ℕ)
threads_of c n group = in_order (map (λ (m : Member). labelled_thread n m.thread) (filter (λ (m : Member). m.actor == group) c.members.items))

abbrev group_row : Policy → Labels → ℕ → Row
group_row c n group = (codes "group", actor_name c group ∷ codes "threads" ∷ threads_of c n group)

abbrev region_row : Policy → Labels → OwnRegion → Row
region_row c n r = (codes "region", actor_name c r.group ∷ labelled_text n.regions.items r.base ∷ codes "bits" ∷ decimal r.bits ∷ [])

abbrev way_row : Policy → Labels → PolicyWay → Row
way_row c n w =
    (codes "way", actor_name c w.from ∷ codes "->" ∷ labelled_endpoint n w.endpoint ∷ codes "badge" ∷ any_badge_text w.badge ∷ codes "rights" ∷ rights_text w.rights ∷ codes "->" ∷ actor_name c w.to ∷ [])

abbrev use_row : Policy → Labels → Allowance → Row
use_row c n a = (codes "use", actor_name c a.actor ∷ labelled_endpoint n a.endpoint ∷ codes "badge" ∷ any_badge_text a.badge ∷ codes "rights" ∷ rights_text a.rights ∷ [])

abbrev take_row : Policy → PolicyTake → Row
take_row c t = (codes "take", actor_name c t.from ∷ codes "->" ∷ actor_name c t.to ∷ [])

abbrev rows : Policy → Labels → List Row
rows c n =
    map (silent_row n) c.silent.items ++ (map (messages_row n) c.messages.items ++ (map (group_row c n) c.groups.items
    ++ (map (region_row c n) c.regions.items ++ (map (way_row c n) c.ways.items ++ (map (use_row c n) c.uses.items ++ (map (take_row c) c.takes.items ++ []))))))

-- ---- a line has the words of its row

silent_said : (n : Labels) (m : Member) → silent_line n m ≡ row_text (silent_row n m)
silent_said n m = ap (λ t. codes "silent" ++ (codes " " ++ t)) (sym (append-nil (labelled_thread n m.thread)))

messages_said : (n : Labels) (m : Member) → messages_line n m ≡ row_text (messages_row n m)
messages_said n m = ap (λ t. codes "messages" ++ (codes " " ++ t)) (sym (append-nil (labelled_thread n m.thread)))

words_said : (ws : List (List ℕ)) → flat_map word_behind ws ≡ spaced ws
words_said [] = refl
words_said (w ∷ ws) = ap (λ t. (codes " " ++ w) ++ t) (words_said ws)

group_said : (c : Policy) (n : Labels) (g : ℕ) → group_text c n g ≡ row_text (group_row c n g)
group_said c n g =
    ap (λ t. codes "group " ++ t) (append_assoc (actor_name c g) (codes " threads") (flat_map word_behind (threads_of c n g)))
    ∙ ap (λ t. codes "group " ++ (actor_name c g ++ (codes " threads" ++ t))) (words_said (threads_of c n g))

region_said : (c : Policy) (n : Labels) (r : OwnRegion) → region_line c n r ≡ row_text (region_row c n r)
region_said c n r =
    ap (λ t. codes "region " ++ (actor_name c r.group ++ (codes " " ++ (labelled_text n.regions.items r.base ++ (codes " bits " ++ t))))) (sym (append-nil (decimal r.bits)))

way_said : (c : Policy) (n : Labels) (w : PolicyWay) → way_line c n w ≡ row_text (way_row c n w)
way_said c n w =
    ap (λ t. codes "way " ++ (actor_name c w.from ++ (codes " -> " ++ (labelled_endpoint n w.endpoint ++ (codes " badge " ++ (any_badge_text w.badge
    ++ (codes " rights " ++ (rights_text w.rights ++ (codes " -> " ++ t))))))))) (sym (append-nil (actor_name c w.to)))

use_said : (c : Policy) (n : Labels) (a : Allowance) → use_line c n a ≡ row_text (use_row c n a)
use_said c n a =
    ap (λ t. codes "use " ++ (actor_name c a.actor ++ (codes " " ++ (labelled_endpoint n a.endpoint ++ (codes " badge " ++ (any_badge_text a.badge
    ++ (codes " rights " ++ t))))))) (sym (append-nil (rights_text a.rights)))

take_said : (c : Policy) (t : PolicyTake) → take_line c t ≡ row_text (take_row c t)
take_said c t = ap (λ l. codes "take " ++ (actor_name c t.from ++ (codes " -> " ++ l))) (sym (append-nil (actor_name c t.to)))

-- lines in order are those of rows
module _ {X : Type 0} (line : X → List ℕ) (row : X → Row) (said : (x : X) → line x ≡ row_text (row x)) where
  line_there : (xs : List X) (r : Row) → In r (map row xs) → In (row_text r) (in_order (map line xs))
  line_there xs r there =
      let m = from_mapped row xs r there in
      in_their_order (map line xs) (row_text r) (subst (λ t. In t (map line xs)) (said m.0 ∙ sym (ap row_text m.1.1)) (in_mapped line m.0 xs m.1.0))

  row_there : (xs : List X) (t : List ℕ) → In t (in_order (map line xs)) → (r : Row) × (In r (map row xs) × (t ≡ row_text r))
  row_there xs t there =
      let m = from_mapped line xs t (from_order (map line xs) t there) in
      (row m.0, (in_mapped row m.0 xs m.1.0, m.1.1 ∙ said m.0))

abbrev lines : Policy → Labels → List (List ℕ)
lines c n = who_lines c n ++ may_lines c n

module _ (c : Policy) (n : Labels) where
  abbrev s : List (List ℕ)
  s = in_order (map (silent_line n) c.silent.items)

  abbrev m : List (List ℕ)
  m = in_order (map (messages_line n) c.messages.items)

  abbrev g : List (List ℕ)
  g = in_order (map (group_text c n) c.groups.items)

  abbrev k : List (List ℕ)
  k = in_order (map (region_line c n) c.regions.items)

  abbrev w : List (List ℕ)
  w = in_order (map (way_line c n) c.ways.items)

  abbrev u : List (List ℕ)
  u = in_order (map (use_line c n) c.uses.items)

  abbrev taken : List (List ℕ)
  taken = in_order (map (take_line c) c.takes.items)

  line_of : (r : Row) → In r (rows c n) → In (row_text r) (lines c n)
  line_of r there = elim (in_append r (map (silent_row n) c.silent.items) _ there) [
    | inl here ↦ in_left (row_text r) (s ++ (m ++ g)) (k ++ (w ++ (u ++ taken))) (in_left (row_text r) s (m ++ g) (line_there (silent_line n) (silent_row n) (silent_said n) c.silent.items r here))
    | inr there ↦ elim (in_append r (map (messages_row n) c.messages.items) _ there) [
      | inl here ↦ in_left (row_text r) (s ++ (m ++ g)) (k ++ (w ++ (u ++ taken))) (in_right (row_text r) s (m ++ g)
          (in_left (row_text r) m g (line_there (messages_line n) (messages_row n) (messages_said n) c.messages.items r here)))
      | inr there ↦ elim (in_append r (map (group_row c n) c.groups.items) _ there) [
        | inl here ↦ in_left (row_text r) (s ++ (m ++ g)) (k ++ (w ++ (u ++ taken))) (in_right (row_text r) s (m ++ g)
            (in_right (row_text r) m g (line_there (group_text c n) (group_row c n) (group_said c n) c.groups.items r here)))
        | inr there ↦ in_right (row_text r) (s ++ (m ++ g)) (k ++ (w ++ (u ++ taken))) (elim (in_append r (map (region_row c n) c.regions.items) _ there) [
          | inl here ↦ in_left (row_text r) k (w ++ (u ++ taken)) (line_there (region_line c n) (region_row c n) (region_said c n) c.regions.items r here)
          | inr there ↦ in_right (row_text r) k (w ++ (u ++ taken)) (elim (in_append r (map (way_row c n) c.ways.items) _ there) [
            | inl here ↦ in_left (row_text r) w (u ++ taken) (line_there (way_line c n) (way_row c n) (way_said c n) c.ways.items r here)
            | inr there ↦ in_right (row_text r) w (u ++ taken) (elim (in_append r (map (use_row c n) c.uses.items) _ there) [
              | inl here ↦ in_left (row_text r) u taken (line_there (use_line c n) (use_row c n) (use_said c n) c.uses.items r here)
              | inr there ↦ in_right (row_text r) u taken (elim (in_append r (map (take_row c) c.takes.items) [] there) [
                | inl here ↦ line_there (take_line c) (take_row c) (take_said c) c.takes.items r here
                | inr none ↦ absurd none
              ])
            ])
          ])
        ])
      ]
    ]
  ]

  abbrev IsSaid : List ℕ → Type 0
  IsSaid t = (r : Row) × (In r (rows c n) × (t ≡ row_text r))

  -- a row of some kind, behind others
  behind : (front rest : List Row) (t : List ℕ) → (r : Row) × (In r rest × (t ≡ row_text r)) → (r : Row) × (In r (front ++ rest) × (t ≡ row_text r))
  behind front rest t is = (is.0, (in_right is.0 front rest is.1.0, is.1.1))

  before : (front rest : List Row) (t : List ℕ) → (r : Row) × (In r front × (t ≡ row_text r)) → (r : Row) × (In r (front ++ rest) × (t ≡ row_text r))
  before front rest t is = (is.0, (in_left is.0 front rest is.1.0, is.1.1))

  row_of : (t : List ℕ) → In t (lines c n) → IsSaid t
  row_of t there = elim (in_append t (s ++ (m ++ g)) (k ++ (w ++ (u ++ taken))) there) [
    | inl there ↦ elim (in_append t s (m ++ g) there) [
      | inl here ↦ before (map (silent_row n) c.silent.items) _ t (row_there (silent_line n) (silent_row n) (silent_said n) c.silent.items t here)
      | inr there ↦ behind (map (silent_row n) c.silent.items) _ t (elim (in_append t m g there) [
        | inl here ↦ before (map (messages_row n) c.messages.items) _ t (row_there (messages_line n) (messages_row n) (messages_said n) c.messages.items t here)
        | inr here ↦ behind (map (messages_row n) c.messages.items) _ t
            (before (map (group_row c n) c.groups.items) _ t (row_there (group_text c n) (group_row c n) (group_said c n) c.groups.items t here))
      ])
    ]
    | inr there ↦ behind (map (silent_row n) c.silent.items) _ t (behind (map (messages_row n) c.messages.items) _ t (behind (map (group_row c n) c.groups.items) _ t
        (elim (in_append t k (w ++ (u ++ taken)) there) [
          | inl here ↦ before (map (region_row c n) c.regions.items) _ t (row_there (region_line c n) (region_row c n) (region_said c n) c.regions.items t here)
          | inr there ↦ behind (map (region_row c n) c.regions.items) _ t (elim (in_append t w (u ++ taken) there) [
            | inl here ↦ before (map (way_row c n) c.ways.items) _ t (row_there (way_line c n) (way_row c n) (way_said c n) c.ways.items t here)
            | inr there ↦ behind (map (way_row c n) c.ways.items) _ t (elim (in_append t u taken there) [
              | inl here ↦ before (map (use_row c n) c.uses.items) _ t (row_there (use_line c n) (use_row c n) (use_said c n) c.uses.items t here)
              | inr here ↦ behind (map (use_row c n) c.uses.items) _ t
                  (before (map (take_row c) c.takes.items) [] t (row_there (take_line c) (take_row c) (take_said c) c.takes.items t here))
            ])
          ])
        ])))
  ]

  -- ---- one row for each entry, and one entry for each row

  none : (r : Row) → In r [] → ⊥
  none r there = there

  is_silent : (r : Row) → first r ≡ 115 → In r (rows c n) → (x : Member) × (In x c.silent.items × (r ≡ silent_row n x))
  is_silent r kind there = found (silent_row n) c.silent.items _ r
      (λ rest. skip (take_row c) c.takes.items [] r (λ x e. differ r (take_row c x) e (ap (λ b. b == 116) kind))
      (skip (use_row c n) c.uses.items _ r (λ x e. differ r (use_row c n x) e (ap (λ b. b == 117) kind))
      (skip (way_row c n) c.ways.items _ r (λ x e. differ r (way_row c n x) e (ap (λ b. b == 119) kind))
      (skip (region_row c n) c.regions.items _ r (λ x e. differ r (region_row c n x) e (ap (λ b. b == 114) kind))
      (skip (group_row c n) c.groups.items _ r (λ x e. differ r (group_row c n x) e (ap (λ b. b == 103) kind))
      (skip (messages_row n) c.messages.items _ r (λ x e. differ r (messages_row n x) e (ap (λ b. b == 109) kind)) rest)))))) there

  past_silent : (r : Row) → (first r == 115 ≡ false) → In r (rows c n) → In r (map (messages_row n) c.messages.items ++ (map (group_row c n) c.groups.items
      ++ (map (region_row c n) c.regions.items ++ (map (way_row c n) c.ways.items ++ (map (use_row c n) c.uses.items ++ (map (take_row c) c.takes.items ++ []))))))
  past_silent r unlike there = skip (silent_row n) c.silent.items _ r (λ x e. differ r (silent_row n x) e unlike) there

  past_messages : (r : Row) → (first r == 115 ≡ false) → (first r == 109 ≡ false) → In r (rows c n) → In r (map (group_row c n) c.groups.items
      ++ (map (region_row c n) c.regions.items ++ (map (way_row c n) c.ways.items ++ (map (use_row c n) c.uses.items ++ (map (take_row c) c.takes.items ++ [])))))
  past_messages r first_no second_no there = skip (messages_row n) c.messages.items _ r (λ x e. differ r (messages_row n x) e second_no) (past_silent r first_no there)

  is_messages : (r : Row) → first r ≡ 109 → In r (rows c n) → (x : Member) × (In x c.messages.items × (r ≡ messages_row n x))
  is_messages r kind there = found (messages_row n) c.messages.items _ r
      (λ rest. skip (take_row c) c.takes.items [] r (λ x e. differ r (take_row c x) e (ap (λ b. b == 116) kind))
      (skip (use_row c n) c.uses.items _ r (λ x e. differ r (use_row c n x) e (ap (λ b. b == 117) kind))
      (skip (way_row c n) c.ways.items _ r (λ x e. differ r (way_row c n x) e (ap (λ b. b == 119) kind))
      (skip (region_row c n) c.regions.items _ r (λ x e. differ r (region_row c n x) e (ap (λ b. b == 114) kind))
      (skip (group_row c n) c.groups.items _ r (λ x e. differ r (group_row c n x) e (ap (λ b. b == 103) kind)) rest))))) (past_silent r (ap (λ b. b == 115) kind) there)

  is_group : (r : Row) → first r ≡ 103 → In r (rows c n) → (x : ℕ) × (In x c.groups.items × (r ≡ group_row c n x))
  is_group r kind there = found (group_row c n) c.groups.items _ r
      (λ rest. skip (take_row c) c.takes.items [] r (λ x e. differ r (take_row c x) e (ap (λ b. b == 116) kind))
      (skip (use_row c n) c.uses.items _ r (λ x e. differ r (use_row c n x) e (ap (λ b. b == 117) kind))
      (skip (way_row c n) c.ways.items _ r (λ x e. differ r (way_row c n x) e (ap (λ b. b == 119) kind))
      (skip (region_row c n) c.regions.items _ r (λ x e. differ r (region_row c n x) e (ap (λ b. b == 114) kind)) rest))))
      (past_messages r (ap (λ b. b == 115) kind) (ap (λ b. b == 109) kind) there)

  past_groups : (r : Row) → (first r == 115 ≡ false) → (first r == 109 ≡ false) → (first r == 103 ≡ false) → In r (rows c n) → In r (map (region_row c n) c.regions.items
      ++ (map (way_row c n) c.ways.items ++ (map (use_row c n) c.uses.items ++ (map (take_row c) c.takes.items ++ []))))
  past_groups r first_no second_no third_no there = skip (group_row c n) c.groups.items _ r (λ x e. differ r (group_row c n x) e third_no) (past_messages r first_no second_no there)

  is_region : (r : Row) → first r ≡ 114 → In r (rows c n) → (x : OwnRegion) × (In x c.regions.items × (r ≡ region_row c n x))
  is_region r kind there = found (region_row c n) c.regions.items _ r
      (λ rest. skip (take_row c) c.takes.items [] r (λ x e. differ r (take_row c x) e (ap (λ b. b == 116) kind))
      (skip (use_row c n) c.uses.items _ r (λ x e. differ r (use_row c n x) e (ap (λ b. b == 117) kind))
      (skip (way_row c n) c.ways.items _ r (λ x e. differ r (way_row c n x) e (ap (λ b. b == 119) kind)) rest)))
      (past_groups r (ap (λ b. b == 115) kind) (ap (λ b. b == 109) kind) (ap (λ b. b == 103) kind) there)

  is_way : (r : Row) → first r ≡ 119 → In r (rows c n) → (x : PolicyWay) × (In x c.ways.items × (r ≡ way_row c n x))
  is_way r kind there = found (way_row c n) c.ways.items _ r
      (λ rest. skip (take_row c) c.takes.items [] r (λ x e. differ r (take_row c x) e (ap (λ b. b == 116) kind))
      (skip (use_row c n) c.uses.items _ r (λ x e. differ r (use_row c n x) e (ap (λ b. b == 117) kind)) rest))
      (skip (region_row c n) c.regions.items _ r (λ x e. differ r (region_row c n x) e (ap (λ b. b == 114) kind))
      (past_groups r (ap (λ b. b == 115) kind) (ap (λ b. b == 109) kind) (ap (λ b. b == 103) kind) there))

  is_use : (r : Row) → first r ≡ 117 → In r (rows c n) → (x : Allowance) × (In x c.uses.items × (r ≡ use_row c n x))
  is_use r kind there = found (use_row c n) c.uses.items _ r
      (λ rest. skip (take_row c) c.takes.items [] r (λ x e. differ r (take_row c x) e (ap (λ b. b == 116) kind)) rest)
      (skip (way_row c n) c.ways.items _ r (λ x e. differ r (way_row c n x) e (ap (λ b. b == 119) kind))
      (skip (region_row c n) c.regions.items _ r (λ x e. differ r (region_row c n x) e (ap (λ b. b == 114) kind))
      (past_groups r (ap (λ b. b == 115) kind) (ap (λ b. b == 109) kind) (ap (λ b. b == 103) kind) there)))

  is_take : (r : Row) → first r ≡ 116 → In r (rows c n) → (x : PolicyTake) × (In x c.takes.items × (r ≡ take_row c x))
  is_take r kind there = found (take_row c) c.takes.items [] r (none r)
      (skip (use_row c n) c.uses.items _ r (λ x e. differ r (use_row c n x) e (ap (λ b. b == 117) kind))
      (skip (way_row c n) c.ways.items _ r (λ x e. differ r (way_row c n x) e (ap (λ b. b == 119) kind))
      (skip (region_row c n) c.regions.items _ r (λ x e. differ r (region_row c n x) e (ap (λ b. b == 114) kind))
      (past_groups r (ap (λ b. b == 115) kind) (ap (λ b. b == 109) kind) (ap (λ b. b == 103) kind) there))))

  in_silent : (x : Member) → In x c.silent.items → In (silent_row n x) (rows c n)
  in_silent x there = in_left _ (map (silent_row n) c.silent.items) _ (in_mapped (silent_row n) x c.silent.items there)

  in_messages : (x : Member) → In x c.messages.items → In (messages_row n x) (rows c n)
  in_messages x there = in_right _ (map (silent_row n) c.silent.items) _ (in_left _ (map (messages_row n) c.messages.items) _ (in_mapped (messages_row n) x c.messages.items there))

  in_groups : (x : ℕ) → In x c.groups.items → In (group_row c n x) (rows c n)
  in_groups x there = in_right _ (map (silent_row n) c.silent.items) _ (in_right _ (map (messages_row n) c.messages.items) _
      (in_left _ (map (group_row c n) c.groups.items) _ (in_mapped (group_row c n) x c.groups.items there)))

  past_three : (r : Row) → In r (map (region_row c n) c.regions.items ++ (map (way_row c n) c.ways.items ++ (map (use_row c n) c.uses.items ++ (map (take_row c) c.takes.items ++ [])))) → In r (rows c n)
  past_three r there = in_right r (map (silent_row n) c.silent.items) _ (in_right r (map (messages_row n) c.messages.items) _ (in_right r (map (group_row c n) c.groups.items) _ there))

  in_regions : (x : OwnRegion) → In x c.regions.items → In (region_row c n x) (rows c n)
  in_regions x there = past_three _ (in_left _ (map (region_row c n) c.regions.items) _ (in_mapped (region_row c n) x c.regions.items there))

  in_ways : (x : PolicyWay) → In x c.ways.items → In (way_row c n x) (rows c n)
  in_ways x there = past_three _ (in_right _ (map (region_row c n) c.regions.items) _ (in_left _ (map (way_row c n) c.ways.items) _ (in_mapped (way_row c n) x c.ways.items there)))

  in_uses : (x : Allowance) → In x c.uses.items → In (use_row c n x) (rows c n)
  in_uses x there = past_three _ (in_right _ (map (region_row c n) c.regions.items) _ (in_right _ (map (way_row c n) c.ways.items) _
      (in_left _ (map (use_row c n) c.uses.items) _ (in_mapped (use_row c n) x c.uses.items there))))

  in_takes : (x : PolicyTake) → In x c.takes.items → In (take_row c x) (rows c n)
  in_takes x there = past_three _ (in_right _ (map (region_row c n) c.regions.items) _ (in_right _ (map (way_row c n) c.ways.items) _
      (in_right _ (map (use_row c n) c.uses.items) _ (in_left _ (map (take_row c) c.takes.items) [] (in_mapped (take_row c) x c.takes.items there)))))

-- ---- each row has words, and each line is one

name_word : (names : List (String Global)) (i : ℕ) → All IsWordly names → IsWord (name_or_none (option_map string_bytes (slice_get names i)))
name_word names i words =
    elim (slice_get names i) as (λ (o : Option (String Global)). slice_get names i ≡ o → IsWord (name_or_none (option_map string_bytes o))) [
      | None ↦ λ e. tt
      | Some name ↦ λ e. all_pass (nat_lt 32) (string_bytes name) (at_place IsWordly names i name words e)
    ] refl

label_word : (labels : List Label) (base : ℕ) → Each (λ (l : Label). IsWordly l.text) labels → IsWord (labelled_text labels base)
label_word [] base h = number_word base
label_word (x ∷ xs) base h =
    elim (x.base == base) as (λ t. IsWord (labelled base (option_map (λ (l : Label). string_bytes l.text) (cond t (Some x) (find (λ (l : Label). l.base == base) xs))))) [
      | true ↦ (refl, all_pass (nat_lt 32) (string_bytes x.text) h.0)
      | false ↦ label_word xs base h.1
    ]

of_kind : {X : Type 0} (row : X → Row) (xs : List X) (rest : List Row) (r : Row) → ((x : X) → IsRow (row x)) → (In r rest → IsRow r) → In r (map row xs ++ rest) → IsRow r
of_kind row xs rest r each others there = elim (in_append r (map row xs) rest there) [
  | inl here ↦ let m = from_mapped row xs r here in subst IsRow (sym m.1.1) (each m.0)
  | inr more ↦ others more
]

switch_same : (x y : Bool) → switch_text x ≡ switch_text y → x ≡ y
switch_same true true same = refl
switch_same false false same = refl
switch_same true false same = let e : 4 ≡ 5 = ap length same in absurd (omega (arith, e))
switch_same false true same = let e : 5 ≡ 4 = ap length same in absurd (omega (arith, e))

version_same : (x y : PolicyVersion) → version_text x ≡ version_text y → x ≡ y
version_same One One same = refl
version_same Two Two same = refl
version_same One Two same = let e : 49 ≡ 50 = ap (λ (w : List ℕ). first (w, [])) same in absurd (omega (arith, e))
version_same Two One same = let e : 50 ≡ 49 = ap (λ (w : List ℕ). first (w, [])) same in absurd (omega (arith, e))

version_line : (v : PolicyVersion) → IsLine (codes "policy " ++ version_text v)
version_line One = all_pass no_end (codes "policy 1") refl
version_line Two = all_pass no_end (codes "policy 2") refl

grant_line : (b : Bool) → IsLine (codes "seL4_grant " ++ switch_text b)
grant_line true = all_pass no_end (codes "seL4_grant true") refl
grant_line false = all_pass no_end (codes "seL4_grant false") refl

calls_line : (b : Bool) → IsLine (codes "calls_succeed " ++ switch_text b)
calls_line true = all_pass no_end (codes "calls_succeed true") refl
calls_line false = all_pass no_end (codes "calls_succeed false") refl

abbrev count_row : Policy → Row
count_row c = (
  codes "groups",
  decimal (length c.groups.items) ∷ codes "threads" ∷ decimal (length c.members.items) ∷ codes "regions" ∷ decimal (length c.regions.items)
      ∷ codes "ways" ∷ decimal (length c.ways.items) ∷ codes "uses" ∷ decimal (length c.uses.items) ∷ codes "takes" ∷ decimal (length c.takes.items) ∷ [],
)

count_said : (c : Policy) → count_line c ≡ row_text (count_row c)
count_said c =
    ap (λ t. codes "groups " ++ (decimal (length c.groups.items) ++ (codes " threads " ++ (decimal (length c.members.items) ++ (codes " regions "
    ++ (decimal (length c.regions.items) ++ (codes " ways " ++ (decimal (length c.ways.items) ++ (codes " uses "
    ++ (decimal (length c.uses.items) ++ (codes " takes " ++ t))))))))))) (sym (append-nil (decimal (length c.takes.items))))

count_is_row : (c : Policy) → IsRow (count_row c)
count_is_row c = (
  all_pass (nat_lt 32) (codes "groups") refl,
  (
    number_word (length c.groups.items),
    (
      all_pass (nat_lt 32) (codes "threads") refl,
      (
        number_word (length c.members.items),
        (
          all_pass (nat_lt 32) (codes "regions") refl,
          (
            number_word (length c.regions.items),
            (
              all_pass (nat_lt 32) (codes "ways") refl,
              (
                number_word (length c.ways.items),
                (
                  all_pass (nat_lt 32) (codes "uses") refl,
                  (number_word (length c.uses.items), (all_pass (nat_lt 32) (codes "takes") refl, (number_word (length c.takes.items), tt))),
                ),
              ),
            ),
          ),
        ),
      ),
    ),
  ),
)

abbrev all_lines : Policy → Labels → List (List ℕ)
all_lines c n = switch_lines c ++ (lines c n ++ (count_line c ∷ []))

text_is : (c : Policy) (n : Labels) (setup : SetupView) (made : ℕ) → listing_text c n setup made ≡ listing_head setup made ++ lines_text (all_lines c n)
unfolding listing_text
text_is c n setup made =
    let last = count_line c ∷ [] in
    let of_last : lines_text (may_lines c n) ++ terminated (count_line c) ≡ lines_text (may_lines c n ++ last) =
    ap (λ t. lines_text (may_lines c n) ++ t) (sym (append-nil (terminated (count_line c)))) ∙ lines_joined (may_lines c n) last in
    let of_who : lines_text (who_lines c n) ++ (lines_text (may_lines c n) ++ terminated (count_line c)) ≡ lines_text (lines c n ++ last) =
    ap (λ t. lines_text (who_lines c n) ++ t) of_last ∙ lines_joined (who_lines c n) (may_lines c n ++ last)
    ∙ ap lines_text (sym (append_assoc (who_lines c n) (may_lines c n) last)) in
    ap (λ t. listing_head setup made ++ t) (ap (λ t. lines_text (switch_lines c) ++ t) of_who ∙ lines_joined (switch_lines c) (lines c n ++ last))

-- ---- words of a row by their places

abbrev word_1 : Row → List ℕ
word_1 (k, a ∷ r) = a
word_1 _ = []

abbrev word_2 : Row → List ℕ
word_2 (k, a ∷ b ∷ r) = b
word_2 _ = []

abbrev words_behind_2 : Row → List (List ℕ)
words_behind_2 (k, a ∷ b ∷ r) = r
words_behind_2 _ = []

abbrev word_3 : Row → List ℕ
word_3 (k, ws) = word_1 (k, words_behind_2 (k, ws))

abbrev word_4 : Row → List ℕ
word_4 (k, ws) = word_2 (k, words_behind_2 (k, ws))

abbrev word_5 : Row → List ℕ
word_5 (k, ws) = word_3 (k, words_behind_2 (k, ws))

abbrev word_6 : Row → List ℕ
word_6 (k, ws) = word_4 (k, words_behind_2 (k, ws))

abbrev word_7 : Row → List ℕ
word_7 (k, ws) = word_5 (k, words_behind_2 (k, ws))

abbrev word_9 : Row → List ℕ
word_9 (k, ws) = word_7 (k, words_behind_2 (k, ws))

module _ (n : Labels) (apart : TellApart n) where
  thread_word : (base : ℕ) → IsWord (labelled_thread n base)
  thread_word base = label_word n.threads.items base (recursion_from_All (λ (l : Label). IsWordly l.text) n.threads.items apart.threads.words)

  endpoint_word : (base : ℕ) → IsWord (labelled_endpoint n base)
  endpoint_word base = label_word n.endpoints.items base (recursion_from_All (λ (l : Label). IsWordly l.text) n.endpoints.items apart.endpoints.words)

  region_word : (base : ℕ) → IsWord (labelled_text n.regions.items base)
  region_word base = label_word n.regions.items base (recursion_from_All (λ (l : Label). IsWordly l.text) n.regions.items apart.regions.words)

  wordy : (c : Policy) → CanBeListed c → (r : Row) → In r (rows c n) → IsRow r
  wordy c can r there =
      of_kind (silent_row n) c.silent.items _ r (λ x. (all_pass (nat_lt 32) (codes "silent") refl, (thread_word x.thread, tt)))
      (λ rest. of_kind (messages_row n) c.messages.items _ r (λ x. (all_pass (nat_lt 32) (codes "messages") refl, (thread_word x.thread, tt)))
      (λ rest. of_kind (group_row c n) c.groups.items _ r (λ x. (all_pass (nat_lt 32) (codes "group") refl, (name x, (all_pass (nat_lt 32) (codes "threads") refl, threads x))))
      (λ rest. of_kind (region_row c n) c.regions.items _ r
      (λ x. (all_pass (nat_lt 32) (codes "region") refl, (name x.group, (region_word x.base, (all_pass (nat_lt 32) (codes "bits") refl, (number_word x.bits, tt))))))
      (λ rest. of_kind (way_row c n) c.ways.items _ r
      (λ x. (
        all_pass (nat_lt 32) (codes "way") refl,
        (
          name x.from,
          (
            all_pass (nat_lt 32) (codes "->") refl,
            (
              endpoint_word x.endpoint,
              (
                all_pass (nat_lt 32) (codes "badge") refl,
                (badge_word x.badge, (all_pass (nat_lt 32) (codes "rights") refl, (rights_word x.rights, (all_pass (nat_lt 32) (codes "->") refl, (name x.to, tt))))),
              ),
            ),
          ),
        ),
      ))
      (λ rest. of_kind (use_row c n) c.uses.items _ r
      (λ x. (
        all_pass (nat_lt 32) (codes "use") refl,
        (
          name x.actor,
          (
            endpoint_word x.endpoint,
            (
              all_pass (nat_lt 32) (codes "badge") refl,
              (badge_word x.badge, (all_pass (nat_lt 32) (codes "rights") refl, (rights_word x.rights, tt))),
            ),
          ),
        ),
      ))
      (λ rest. of_kind (take_row c) c.takes.items [] r
      (λ x. (all_pass (nat_lt 32) (codes "take") refl, (name x.from, (all_pass (nat_lt 32) (codes "->") refl, (name x.to, tt)))))
      (λ none. absurd none) rest) rest) rest) rest) rest) rest) there
    where
      name : (i : ℕ) → IsWord (actor_name c i)
      name i = name_word c.actors.items i can.names

      threads : (g : ℕ) → AreWords (threads_of c n g)
      threads g = each_of IsWord (threads_of c n g) (λ t there.
          let told = λ (m : Member). labelled_thread n m.thread in
          let own = filter (λ (m : Member). m.actor == g) c.members.items in
          let m = from_mapped told own t (from_order (map told own) t there) in
          subst IsWord (sym m.1.1) (thread_word m.0.thread))

  lines_are : (c : Policy) → CanBeListed c → Each IsLine (all_lines c n)
  lines_are c can = (
    version_line c.version,
    (
      grant_line c.grant,
      (
        calls_line c.calls,
        each_both IsLine (lines c n) (count_line c ∷ [])
            (each_of IsLine (lines c n) (λ t there. let r = row_of c n t there in subst IsLine (sym r.1.1) (row_line r.0 (wordy c can r.0 r.1.0))))
            (subst IsLine (sym (count_said c)) (row_line (count_row c) (count_is_row c)), tt),
      ),
    ),
  )

  -- ---- what is said of one policy is said of another one with the same rows

  module _ (one other : Policy) (can : CanBeListed one) (also : CanBeListed other) (into : (r : Row) → In r (rows one n) → In r (rows other n)) where
    silent_into : (x : ℕ) → Contains (map (λ (m : Member). m.thread) one.silent.items) x → Contains (map (λ (m : Member). m.thread) other.silent.items) x
    silent_into x there =
        let thread = λ (m : Member). m.thread in
        let m = from_mapped thread one.silent.items x (contains_in (map thread one.silent.items) x there) in
        let y = is_silent other n (silent_row n m.0) refl (into (silent_row n m.0) (in_silent one n m.0 m.1.0)) in
        let same = apart.threads.apart m.0.thread y.0.thread (all_in IsShortMember one.silent.items m.0 can.silent m.1.0) (all_in IsShortMember other.silent.items y.0 also.silent y.1.0) (ap word_1 y.1.1) in
        subst (Contains (map thread other.silent.items)) (sym (m.1.1 ∙ same)) (in_contains (map thread other.silent.items) y.0.thread (in_mapped thread y.0 other.silent.items y.1.0))

    messages_into : (x : ℕ) → Contains (map (λ (m : Member). m.thread) one.messages.items) x → Contains (map (λ (m : Member). m.thread) other.messages.items) x
    messages_into x there =
        let thread = λ (m : Member). m.thread in
        let m = from_mapped thread one.messages.items x (contains_in (map thread one.messages.items) x there) in
        let y = is_messages other n (messages_row n m.0) refl (into (messages_row n m.0) (in_messages one n m.0 m.1.0)) in
        let same = apart.threads.apart m.0.thread y.0.thread (all_in IsShortMember one.messages.items m.0 can.messages m.1.0) (all_in IsShortMember other.messages.items y.0 also.messages y.1.0) (ap word_1 y.1.1) in
        subst (Contains (map thread other.messages.items)) (sym (m.1.1 ∙ same)) (in_contains (map thread other.messages.items) y.0.thread (in_mapped thread y.0 other.messages.items y.1.0))

    groups_into : (x : List ℕ) → Contains (map (actor_name one) one.groups.items) x → Contains (map (actor_name other) other.groups.items) x
    groups_into x there =
        let m = from_mapped (actor_name one) one.groups.items x (contains_in (map (actor_name one) one.groups.items) x there) in
        let y = is_group other n (group_row one n m.0) refl (into (group_row one n m.0) (in_groups one n m.0 m.1.0)) in
        subst (Contains (map (actor_name other) other.groups.items)) (sym (m.1.1 ∙ ap word_1 y.1.1))
        (in_contains (map (actor_name other) other.groups.items) (actor_name other y.0) (in_mapped (actor_name other) y.0 other.groups.items y.1.0))

    members_into : (x : List ℕ × ℕ) → Contains (map (said_member one) one.members.items) x → Contains (map (said_member other) other.members.items) x
    members_into x there =
        let told = λ (m : Member). labelled_thread n m.thread in
        let m = from_mapped (said_member one) one.members.items x (contains_in (map (said_member one) one.members.items) x there) in
        let group = contains_in one.groups.items m.0.actor (all_in (λ (m : Member). Contains one.groups.items m.actor) one.members.items m.0 can.groups m.1.0) in
        let y = is_group other n (group_row one n m.0.actor) refl (into (group_row one n m.0.actor) (in_groups one n m.0.actor group)) in
        let own = filter (λ (z : Member). z.actor == m.0.actor) one.members.items in
        let theirs = filter (λ (z : Member). z.actor == y.0) other.members.items in
        let here : In (told m.0) (threads_of one n m.0.actor) = in_their_order (map told own) (told m.0)
        (in_mapped told m.0 own (filter_in (λ (z : Member). z.actor == m.0.actor) one.members.items m.0 m.1.0 (eqb_self m.0.actor))) in
        let k = from_mapped told theirs (told m.0) (from_order (map told theirs) (told m.0) (subst (In (told m.0)) (ap words_behind_2 y.1.1) here)) in
        let is = in_filter (λ (z : Member). z.actor == y.0) other.members.items k.0 k.1.0 in
        let names : actor_name one m.0.actor ≡ actor_name other k.0.actor = ap word_1 y.1.1 ∙ ap (actor_name other) (sym (eqb-true k.0.actor y.0 is.1)) in
        let thread = apart.threads.apart m.0.thread k.0.thread (all_in IsShortMember one.members.items m.0 can.members m.1.0) (all_in IsShortMember other.members.items k.0 also.members is.0) k.1.1 in
        let same : said_member one m.0 ≡ said_member other k.0 = λ i. (names i, thread i) in
        subst (Contains (map (said_member other) other.members.items)) (sym (m.1.1 ∙ same))
        (in_contains (map (said_member other) other.members.items) (said_member other k.0) (in_mapped (said_member other) k.0 other.members.items is.0))

    regions_into : (x : List ℕ × ℕ × ℕ) → Contains (map (said_region one) one.regions.items) x → Contains (map (said_region other) other.regions.items) x
    regions_into x there =
        let m = from_mapped (said_region one) one.regions.items x (contains_in (map (said_region one) one.regions.items) x there) in
        let y = is_region other n (region_row one n m.0) refl (into (region_row one n m.0) (in_regions one n m.0 m.1.0)) in
        let h = all_in IsShortRegion one.regions.items m.0 can.regions m.1.0 in
        let k = all_in IsShortRegion other.regions.items y.0 also.regions y.1.0 in
        let name : actor_name one m.0.group ≡ actor_name other y.0.group = ap word_1 y.1.1 in
        let base = apart.regions.apart m.0.base y.0.base h.0 k.0 (ap word_2 y.1.1) in
        let bits = decimal_injective m.0.bits y.0.bits h.1 k.1 (ap word_4 y.1.1) in
        let same : said_region one m.0 ≡ said_region other y.0 = λ i. (name i, base i, bits i) in
        subst (Contains (map (said_region other) other.regions.items)) (sym (m.1.1 ∙ same))
        (in_contains (map (said_region other) other.regions.items) (said_region other y.0) (in_mapped (said_region other) y.0 other.regions.items y.1.0))

    ways_into : (x : List ℕ × ℕ × ℕ × Rights × List ℕ) → Contains (map (said_way one) one.ways.items) x → Contains (map (said_way other) other.ways.items) x
    ways_into x there =
        let m = from_mapped (said_way one) one.ways.items x (contains_in (map (said_way one) one.ways.items) x there) in
        let y = is_way other n (way_row one n m.0) refl (into (way_row one n m.0) (in_ways one n m.0 m.1.0)) in
        let h = all_in IsShortWay one.ways.items m.0 can.ways m.1.0 in
        let k = all_in IsShortWay other.ways.items y.0 also.ways y.1.0 in
        let from : actor_name one m.0.from ≡ actor_name other y.0.from = ap word_1 y.1.1 in
        let endpoint = apart.endpoints.apart m.0.endpoint y.0.endpoint h.0 k.0 (ap word_3 y.1.1) in
        let badge = same_badge m.0.badge y.0.badge h.1 k.1 (ap word_5 y.1.1) in
        let rights = same_rights m.0.rights y.0.rights h.2 k.2 (ap word_7 y.1.1) in
        let to : actor_name one m.0.to ≡ actor_name other y.0.to = ap word_9 y.1.1 in
        let same : said_way one m.0 ≡ said_way other y.0 = λ i. (from i, endpoint i, badge i, rights i, to i) in
        subst (Contains (map (said_way other) other.ways.items)) (sym (m.1.1 ∙ same))
        (in_contains (map (said_way other) other.ways.items) (said_way other y.0) (in_mapped (said_way other) y.0 other.ways.items y.1.0))

    uses_into : (x : List ℕ × ℕ × ℕ × Rights) → Contains (map (said_use one) one.uses.items) x → Contains (map (said_use other) other.uses.items) x
    uses_into x there =
        let m = from_mapped (said_use one) one.uses.items x (contains_in (map (said_use one) one.uses.items) x there) in
        let y = is_use other n (use_row one n m.0) refl (into (use_row one n m.0) (in_uses one n m.0 m.1.0)) in
        let h = all_in IsShortUse one.uses.items m.0 can.uses m.1.0 in
        let k = all_in IsShortUse other.uses.items y.0 also.uses y.1.0 in
        let name : actor_name one m.0.actor ≡ actor_name other y.0.actor = ap word_1 y.1.1 in
        let endpoint = apart.endpoints.apart m.0.endpoint y.0.endpoint h.0 k.0 (ap word_2 y.1.1) in
        let badge = same_badge m.0.badge y.0.badge h.1 k.1 (ap word_4 y.1.1) in
        let rights = same_rights m.0.rights y.0.rights h.2 k.2 (ap word_6 y.1.1) in
        let same : said_use one m.0 ≡ said_use other y.0 = λ i. (name i, endpoint i, badge i, rights i) in
        subst (Contains (map (said_use other) other.uses.items)) (sym (m.1.1 ∙ same))
        (in_contains (map (said_use other) other.uses.items) (said_use other y.0) (in_mapped (said_use other) y.0 other.uses.items y.1.0))

    takes_into : (x : List ℕ × List ℕ) → Contains (map (said_take one) one.takes.items) x → Contains (map (said_take other) other.takes.items) x
    takes_into x there =
        let m = from_mapped (said_take one) one.takes.items x (contains_in (map (said_take one) one.takes.items) x there) in
        let y = is_take other n (take_row one m.0) refl (into (take_row one m.0) (in_takes one n m.0 m.1.0)) in
        let from : actor_name one m.0.from ≡ actor_name other y.0.from = ap word_1 y.1.1 in
        let to : actor_name one m.0.to ≡ actor_name other y.0.to = ap word_3 y.1.1 in
        let same : said_take one m.0 ≡ said_take other y.0 = λ i. (from i, to i) in
        subst (Contains (map (said_take other) other.takes.items)) (sym (m.1.1 ∙ same))
        (in_contains (map (said_take other) other.takes.items) (said_take other y.0) (in_mapped (said_take other) y.0 other.takes.items y.1.0))

  -- ---- all of it

  rows_into : (a b : Policy) → CanBeListed a → CanBeListed b → lines a n ≡ lines b n → (r : Row) → In r (rows a n) → In r (rows b n)
  rows_into a b can also same r there =
      let m = row_of b n (row_text r) (subst (In (row_text r)) same (line_of a n r there)) in
      subst (λ z. In z (rows b n)) (sym (rows_apart r m.0 (wordy a can r there) (wordy b also m.0 m.1.0) m.1.1)) m.1.0

abbrev top : List (List ℕ) → List ℕ
top (x ∷ r) = x
top [] = []

abbrev second : List (List ℕ) → List ℕ
second (x ∷ y ∷ r) = y
second _ = []

abbrev third : List (List ℕ) → List ℕ
third (x ∷ y ∷ z ∷ r) = z
third _ = []

abbrev behind_three : List (List ℕ) → List (List ℕ)
behind_three (x ∷ y ∷ z ∷ r) = r
behind_three _ = []

pub listings_tell : (a b : Policy) (n : Labels) (setup : SetupView) (made : ℕ) → ListingsTellPolicies a b n setup made
listings_tell a b n setup made apart can also same =
    let all : all_lines a n ≡ all_lines b n =
    lines_apart (all_lines a n) (all_lines b n) (lines_are n apart a can) (lines_are n apart b also)
    (append_cancel_left (listing_head setup made) (lines_text (all_lines a n)) (lines_text (all_lines b n)) (sym (text_is a n setup made) ∙ (same ∙ text_is b n setup made))) in
    let both : lines a n ≡ lines b n = sym (but_last_is (lines a n) (count_line a)) ∙ (ap (λ l. but_last (behind_three l)) all ∙ but_last_is (lines b n) (count_line b)) in
    let to = rows_into n apart a b can also both in
    let back = rows_into n apart b a also can (sym both) in
    record {
      version = version_same a.version b.version (append_cancel_left (codes "policy ") (version_text a.version) (version_text b.version) (ap top all));
      grant = switch_same a.grant b.grant (append_cancel_left (codes "seL4_grant ") (switch_text a.grant) (switch_text b.grant) (ap second all));
      calls = switch_same a.calls b.calls (append_cancel_left (codes "calls_succeed ") (switch_text a.calls) (switch_text b.calls) (ap third all));
      silent = λ x. (silent_into n apart a b can also to x, silent_into n apart b a also can back x);
      messages = λ x. (messages_into n apart a b can also to x, messages_into n apart b a also can back x);
      groups = λ x. (groups_into n apart a b can also to x, groups_into n apart b a also can back x);
      members = λ x. (members_into n apart a b can also to x, members_into n apart b a also can back x);
      regions = λ x. (regions_into n apart a b can also to x, regions_into n apart b a also can back x);
      ways = λ x. (ways_into n apart a b can also to x, ways_into n apart b a also can back x);
      uses = λ x. (uses_into n apart a b can also to x, uses_into n apart b a also can back x);
      takes = λ x. (takes_into n apart a b can also to x, takes_into n apart b a also can back x);
    }

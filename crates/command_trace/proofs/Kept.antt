-- What is kept of a state has the line at each address that is told of the state.
use Rattle.std.proofs.Common.{◌≡◌, ℕ, ◌==◌, ◌||◌, Bool, true, false, cond, List, [], ◌∷◌, ◌++◌, map, Option, None, Some, option_map, option_and_then, ◌⊎◌, inl, inr, refl, sym, ap, subst, ◌∙◌, append-nil}
use Rattle.std.specs.List.{AllByRecursion as Each, IsDistinct, find, flat_map}
use Rattle.std.specs.List.Sorted.{IsStrictlySortedBy}
use Rattle.std.specs.Ordering.{nat_cmp}
use Rattle.std.specs.declared.cmp.Ordering.TheVariants.{Less}
use Rattle.std.proofs.lemmas.Bool.Decides.{eqb_tells}
use Rattle.cap_core.specs.declared.profile.ProfileName.{ProfileName}
use Rattle.kernel_forest.specs.Forest.{Forest}
use Rattle.kernel_forest.specs.Entries.{Entry, slots, derivations_of}
use Rattle.slot_core.specs.declared.derivations.Derivation.{Derivation}
use Rattle.slot_core.specs.Calls.{derivation_view}
use Rattle.kernel_abstract.specs.Shown.{Shown}
use Rattle.setup_report.specs.declared.live.NamedObject.{NamedObject}
use Rattle.setup_report.specs.Naming.{Texts}
use Rattle.setup_report.specs.State.{Derived, slot_of, found, is_in, named, holding_themselves, rising}
use Rattle.setup_report.proofs.Addresses.Slots.{slots_are as derived_slots}
use Rattle.command_trace.specs.Lines.{Lines, address_line, traced_slot_text, slot_at, traced_slot_lines, thread_text_at, inbox_line_at, endpoint_text_at, selfheld_at, traced_selfheld_lines}
use Rattle.command_trace.specs.Siblings.{Sibling, siblings, in_front, sibling_text, sibling_at, sibling_lines, row_view}
use Rattle.command_trace.specs.Changes.{StateLines, lines_of_state, line_addresses, text_at, line_changes, changes}
use Rattle.command_trace.specs.Told.{ToldLines, told_lines, nothing_told, told_changes}
use Rattle.command_trace.specs.Views.{lines_seen, thread_row_line, inbox_line, endpoint_row_line, ShowsMemory, ShowsMessages, IsViewOf, IsStateTold}
use Rattle.command_trace.specs.Private.Listed.{derivation_line}
use Rattle.command_trace.specs.Private.Path.{sibling_line, siblings_walked}
use Rattle.command_trace.specs.Private.Rows.{AreLinesApart}
use Rattle.command_trace.specs.Private.Kept.{thread_rows, inbox_rows, endpoint_rows, kept_slot_lines, sibling_rows, message_changes, view_rows, told_rows, IsApartMemory, IsApartMessages, IsApartView, IsApartTold, HaveSameSlots}
use Rattle.command_trace.specs.declared.lines.siblings.SiblingRow.{SiblingRow}
use Rattle.command_trace.specs.declared.lines.state.Memory.{Memory}
use Rattle.command_trace.specs.declared.lines.state.Messages.{Messages}
use Rattle.command_trace.specs.declared.lines.state.View.{View}
use Rattle.command_trace.specs.declared.lines.told.Told.{Told}
use Rattle.command_trace.proofs.Differences.{different}
use Rattle.command_trace.proofs.Listed.{row_line, rows_viewed}
use Rattle.command_trace.proofs.Views.{rises_at, no_line_changes}
use Rattle.command_trace.proofs.Walks.Walked.{walked_is, slots_are}
use Rattle.command_trace.proofs.Alike.{or_else, not_there, line_first, text_of_rising, told_of_same, other_way}

pub as_map : {X : Type 0} (f : X → ℕ × List ℕ) (xs : List X) → flat_map (λ x. f x ∷ []) xs ≡ map f xs
as_map f [] = refl
as_map f (x ∷ xs) = ap (λ l. f x ∷ l) (as_map f xs)

-- lines that have the same line at each address
abbrev pub Same : Lines → Lines → Type 0
Same a b = (q : ℕ) → text_at q a ≡ text_at q b

same_lines : (a b : Lines) → a ≡ b → Same a b
same_lines a b is q = ap (text_at q) is

-- ---- full slots

abbrev pub row_lines : Texts → List Derived → Lines
row_lines texts list = map (row_line texts) list

slot_told : (texts : Texts) (q : ℕ) (list : List Derived) → text_at q (row_lines texts list) ≡ slot_at texts list q
slot_told texts q [] = refl
slot_told texts q (d ∷ list) =
    elim (slot_of d == q) as (λ b. cond b (Some (traced_slot_text texts d)) (text_at q (row_lines texts list)) ≡ option_map (traced_slot_text texts) (cond b (Some d) (found list q))) [
      | true ↦ refl
      | false ↦ slot_told texts q list
    ]

row_addresses : (texts : Texts) (list : List Derived) → line_addresses (row_lines texts list) ≡ map slot_of list
row_addresses texts [] = refl
row_addresses texts (d ∷ list) = ap (λ l. slot_of d ∷ l) (row_addresses texts list)

pub slots_told : (texts : Texts) (list : List Derived) → Same (row_lines texts list) (traced_slot_lines texts list)
slots_told texts list q =
    slot_told texts q list
    ∙ sym (text_of_rising (slot_at texts list) q (map slot_of list) (λ e. sym (slot_told texts q list) ∙ not_there q (row_lines texts list) (ap (is_in q) (row_addresses texts list) ∙ e)))

module _ (texts : Texts) (p : ProfileName) (v : Shown) (m : Memory) (h : ShowsMemory texts p v m) where
  slots_viewed : kept_slot_lines texts p m ≡ row_lines texts (derivations_of v.derivations)
  slots_viewed = as_map (derivation_line texts p) m.slots.items ∙ rows_viewed texts p m.slots.items ∙ ap (row_lines texts) h.slots

  slots_same : Same (kept_slot_lines texts p m) (traced_slot_lines texts (derivations_of v.derivations))
  slots_same q = ap (text_at q) slots_viewed ∙ slots_told texts (derivations_of v.derivations) q

  pub memory_apart : IsApartMemory texts p m
  memory_apart =
      record {
        slots = subst (IsDistinct (λ (a b : ℕ). a == b))
            (sym (ap line_addresses slots_viewed ∙ row_addresses texts (derivations_of v.derivations) ∙ derived_slots v.derivations)) h.apart;
        selfheld = rises_at (selfheld_at texts) (holding_themselves p (derivations_of v.derivations)) _ h.selfheld;
      }

-- ---- threads and endpoints

off_those_above : (k : ℕ) (xs : List ℕ) → Each (λ y. nat_cmp k y ≡ Less) xs → Each (λ y. (k == y) ≡ false) xs
off_those_above k [] h = tt
off_those_above k (x ∷ xs) h = (different k x h.0, off_those_above k xs h.1)

rising_apart : (xs : List ℕ) → IsStrictlySortedBy nat_cmp xs → IsDistinct (λ (a b : ℕ). a == b) xs
unfolding IsStrictlySortedBy IsDistinct
rising_apart [] h = tt
rising_apart (x ∷ xs) h = (off_those_above x xs h.0, rising_apart xs h.1)

module _ (texts : Texts) (p : ProfileName) (v : Shown) (m : Messages) (h : ShowsMessages texts p v m) where
  abbrev list : List Derived
  list = derivations_of v.derivations

  threads_are : thread_rows texts m ≡ (lines_of_state texts p v).threads
  threads_are = as_map (thread_row_line texts) m.threads.items ∙ h.threads

  inboxes_are : inbox_rows texts m ≡ (lines_of_state texts p v).inboxes
  inboxes_are = as_map (inbox_line texts) m.inboxes.items ∙ h.inboxes

  endpoints_are : endpoint_rows texts m ≡ (lines_of_state texts p v).endpoints
  endpoints_are = as_map (endpoint_row_line texts) m.endpoints.items ∙ h.endpoints

  pub messages_apart : IsApartMessages texts m
  messages_apart =
      record {
        threads = rising_apart _ (rises_at (thread_text_at texts v) (named p NamedObject.Thread list) (thread_rows texts m) threads_are);
        inboxes = rising_apart _ (rises_at (inbox_line_at texts v) (named p NamedObject.Thread list) (inbox_rows texts m) inboxes_are);
        endpoints = rising_apart _ (rises_at (endpoint_text_at texts v) (named p NamedObject.Endpoint list) (endpoint_rows texts m) endpoints_are);
      }

-- ---- siblings

abbrev first_of : Sibling → ℕ
first_of x = x.0

flat_of_map : (texts : Texts) (rows : List SiblingRow) → flat_map (λ (r : SiblingRow). sibling_line texts (row_view r)) rows ≡ flat_map (sibling_line texts) (map row_view rows)
flat_of_map texts [] = refl
flat_of_map texts (r ∷ rows) = ap (λ l. sibling_line texts (row_view r) ++ l) (flat_of_map texts rows)

no_other : (o : Option (List ℕ)) → or_else o None ≡ o
no_other None = refl
no_other (Some t) = refl

off_siblings : (texts : Texts) (q : ℕ) (xs : List Sibling) → Each (λ (y : ℕ). (q == y) ≡ false) (map first_of xs) → text_at q (flat_map (sibling_line texts) xs) ≡ None
off_siblings texts q [] h = refl
off_siblings texts q (x ∷ xs) h =
    line_first q x.0 (flat_map (sibling_line texts) xs) (option_map (sibling_text texts x.0) x.1)
    ∙ (λ i. or_else (cond (other_way q x.0 h.0 i) (option_map (sibling_text texts x.0) x.1) None) (off_siblings texts q xs h.1 i))

sibling_told : (texts : Texts) (q : ℕ) (xs : List Sibling) → IsDistinct (λ (a b : ℕ). a == b) (map first_of xs) → text_at q (flat_map (sibling_line texts) xs) ≡ sibling_at texts xs q
unfolding IsDistinct
sibling_told texts q [] apart = refl
sibling_told texts q (x ∷ xs) apart =
    line_first q x.0 (flat_map (sibling_line texts) xs) (option_map (sibling_text texts x.0) x.1) ∙ by (sibling_told texts q xs apart.1) (eqb_tells x.0 q)
  where
    by : text_at q (flat_map (sibling_line texts) xs) ≡ sibling_at texts xs q → (((x.0 == q) ≡ true) × (x.0 ≡ q)) ⊎ (((x.0 == q) ≡ false) × (x.0 ≡ q → ⊥)) →
        or_else (cond (x.0 == q) (option_map (sibling_text texts x.0) x.1) None) (text_at q (flat_map (sibling_line texts) xs))
        ≡ option_map (sibling_text texts q) (option_and_then (λ (y : Sibling). y.1) (cond (x.0 == q) (Some x) (find (λ (y : Sibling). y.0 == q) xs)))
    by later (inl w) =
        (λ i. or_else (cond (w.0 i) (option_map (sibling_text texts x.0) x.1) None) (off_siblings texts q xs (subst (λ k. Each (λ (y : ℕ). (k == y) ≡ false) (map first_of xs)) w.1 apart.0) i))
        ∙ no_other (option_map (sibling_text texts x.0) x.1)
        ∙ ap (λ k. option_map (sibling_text texts k) x.1) w.1
        ∙ sym (ap (λ b. option_map (sibling_text texts q) (option_and_then (λ (y : Sibling). y.1) (cond b (Some x) (find (λ (y : Sibling). y.0 == q) xs)))) w.0)
    by later (inr w) =
        ap (λ b. or_else (cond b (option_map (sibling_text texts x.0) x.1) None) (text_at q (flat_map (sibling_line texts) xs))) w.0
        ∙ later
        ∙ sym (ap (λ b. option_map (sibling_text texts q) (option_and_then (λ (y : Sibling). y.1) (cond b (Some x) (find (λ (y : Sibling). y.0 == q) xs)))) w.0)

either_false : (a b : Bool) → (a || b) ≡ false → (a ≡ false) × (b ≡ false)
either_false true b h = cc
either_false false b h = (refl, h)

none_in_front : (q : ℕ) (xs : List Sibling) → is_in q (map first_of xs) ≡ false → in_front xs q ≡ None
none_in_front q [] h = refl
none_in_front q (x ∷ xs) h =
    let both = either_false (q == x.0) (is_in q (map first_of xs)) h in
    ap (λ b. option_and_then (λ (y : Sibling). y.1) (cond b (Some x) (find (λ (y : Sibling). y.0 == q) xs))) (other_way q x.0 both.0) ∙ none_in_front q xs both.1

each_line : (texts : Texts) (P : ℕ → Type 0) (xs : List Sibling) → Each P (map first_of xs) → Each P (line_addresses (flat_map (sibling_line texts) xs))
each_line texts P [] h = tt
each_line texts P (x ∷ xs) h =
    elim x.1 as (λ o. Each P (line_addresses (address_line x.0 (option_map (sibling_text texts x.0) o) ++ flat_map (sibling_line texts) xs))) [
      | None ↦ each_line texts P xs h.1
      | Some before ↦ (h.0, each_line texts P xs h.1)
    ]

siblings_apart : (texts : Texts) (xs : List Sibling) → IsDistinct (λ (a b : ℕ). a == b) (map first_of xs) → AreLinesApart (flat_map (sibling_line texts) xs)
unfolding IsDistinct
siblings_apart texts [] h = tt
siblings_apart texts (x ∷ xs) h =
    elim x.1 as (λ o. AreLinesApart (address_line x.0 (option_map (sibling_text texts x.0) o) ++ flat_map (sibling_line texts) xs)) [
      | None ↦ siblings_apart texts xs h.1
      | Some before ↦ (each_line texts (λ y. (x.0 == y) ≡ false) xs h.0, siblings_apart texts xs h.1)
    ]

module _ (texts : Texts) (f : Forest Entry) (apart : IsDistinct (λ (a b : ℕ). a == b) (slots f)) where
  abbrev order : List Sibling
  order = siblings None f

  order_apart : IsDistinct (λ (a b : ℕ). a == b) (map first_of order)
  order_apart = subst (IsDistinct (λ (a b : ℕ). a == b)) (sym (slots_are f)) apart

  pub lines_apart : AreLinesApart (flat_map (sibling_line texts) order)
  lines_apart = siblings_apart texts order order_apart

  pub order_told : Same (flat_map (sibling_line texts) order) (sibling_lines texts f)
  order_told q =
      sibling_told texts q order order_apart
      ∙ sym (text_of_rising (sibling_at texts order) q (slots f) (λ e. ap (option_map (sibling_text texts q)) (none_in_front q order (ap (is_in q) (slots_are f) ∙ e))))

  pub rows_apart : AreLinesApart (row_lines texts (derivations_of f))
  rows_apart = subst (IsDistinct (λ (a b : ℕ). a == b)) (sym (row_addresses texts (derivations_of f) ∙ derived_slots f)) apart

module _ (texts : Texts) (f : Forest Entry) (rows : List SiblingRow) (is : map row_view rows ≡ siblings None f) (apart : IsDistinct (λ (a b : ℕ). a == b) (slots f)) where
  order_viewed : flat_map (λ (r : SiblingRow). sibling_line texts (row_view r)) rows ≡ flat_map (sibling_line texts) (siblings None f)
  order_viewed = flat_of_map texts rows ∙ ap (flat_map (sibling_line texts)) is

  pub order_is_apart : AreLinesApart (flat_map (λ (r : SiblingRow). sibling_line texts (row_view r)) rows)
  order_is_apart = subst AreLinesApart (sym order_viewed) (lines_apart texts f apart)

  pub order_same : Same (flat_map (λ (r : SiblingRow). sibling_line texts (row_view r)) rows) (sibling_lines texts f)
  order_same q = ap (text_at q) order_viewed ∙ order_told texts f apart q

-- the rows that a walk finds are those of the forest
pub walk_is : (p : ProfileName) (slots_there : List Derivation) (rows : List SiblingRow) (f : Forest Entry) → map row_view rows ≡ siblings_walked [] (map (derivation_view p) slots_there) →
    map (derivation_view p) slots_there ≡ derivations_of f → IsDistinct (λ (a b : ℕ). a == b) (slots f) → map row_view rows ≡ siblings None f
walk_is p slots_there rows f walk is apart = walk ∙ ap (siblings_walked []) is ∙ walked_is f apart

-- where full slots are the same, so is their order
pub same_slots : (v w : Shown) → derivations_of w.derivations ≡ derivations_of v.derivations → IsDistinct (λ (a b : ℕ). a == b) (slots v.derivations) →
    IsDistinct (λ (a b : ℕ). a == b) (slots w.derivations) → HaveSameSlots v w
same_slots v w is a b =
    record { list = is; order = sym (walked_is w.derivations b) ∙ ap (siblings_walked []) is ∙ walked_is v.derivations a }

pub slots_stay : (texts : Texts) (p : ProfileName) (v w : Shown) (told : Told) (old new : List Derivation) → IsStateTold texts p v told → old ≡ told.view.memory.slots.items →
    map (derivation_view p) old ≡ map (derivation_view p) new → map (derivation_view p) new ≡ derivations_of w.derivations → IsDistinct (λ (a b : ℕ). a == b) (slots w.derivations) → HaveSameSlots v w
slots_stay texts p v w told old new h is same there apart =
    same_slots v w (sym there ∙ sym same ∙ ap (map (derivation_view p)) is ∙ h.view.memory.slots) h.view.memory.apart apart

pub same_forest : (v w : Shown) → w.derivations ≡ v.derivations → HaveSameSlots v w
same_forest v w is = record { list = ap (λ f. derivations_of f) is; order = ap (λ f. siblings None f) is }

-- ---- all that is kept

pub view_apart : (texts : Texts) (p : ProfileName) (v : Shown) (view : View) → IsViewOf texts p v view → IsApartView texts p view
view_apart texts p v view h = record { memory = memory_apart texts p v view.memory h.memory; messages = messages_apart texts p v view.messages h.messages }

pub told_apart : (texts : Texts) (p : ProfileName) (v : Shown) (told : Told) → IsStateTold texts p v told → IsApartTold texts p told
told_apart texts p v told h =
    record { view = view_apart texts p v told.view h.view; siblings = order_is_apart texts v.derivations told.siblings.items h.siblings h.view.memory.apart }

record SameState (a b : StateLines) : Type 0 where
  threads : Same a.threads b.threads
  inboxes : Same a.inboxes b.inboxes
  endpoints : Same a.endpoints b.endpoints
  slots : Same a.slots b.slots
  selfheld : Same a.selfheld b.selfheld

view_same : (texts : Texts) (p : ProfileName) (v : Shown) (view : View) → IsViewOf texts p v view → SameState (view_rows texts p view) (lines_of_state texts p v)
view_same texts p v view h =
    record {
      threads = same_lines _ _ (threads_are texts p v view.messages h.messages);
      inboxes = same_lines _ _ (inboxes_are texts p v view.messages h.messages);
      endpoints = same_lines _ _ (endpoints_are texts p v view.messages h.messages);
      slots = slots_same texts p v view.memory h.memory;
      selfheld = same_lines _ _ h.memory.selfheld;
    }

changes_same : (a b c d : StateLines) → SameState a c → SameState b d → changes a b ≡ changes c d
changes_same a b c d h k =
    λ i. told_of_same a.threads b.threads c.threads d.threads h.threads k.threads i
    ++ (told_of_same a.inboxes b.inboxes c.inboxes d.inboxes h.inboxes k.inboxes i
    ++ (told_of_same a.endpoints b.endpoints c.endpoints d.endpoints h.endpoints k.endpoints i
    ++ (told_of_same a.slots b.slots c.slots d.slots h.slots k.slots i
    ++ told_of_same a.selfheld b.selfheld c.selfheld d.selfheld h.selfheld k.selfheld i)))

pub view_changes : (texts : Texts) (p : ProfileName) (v w : Shown) (a b : View) → IsViewOf texts p v a → IsViewOf texts p w b → changes (view_rows texts p a) (view_rows texts p b) ≡ changes (lines_of_state texts p v) (lines_of_state texts p w)
view_changes texts p v w a b h k = changes_same (view_rows texts p a) (view_rows texts p b) (lines_of_state texts p v) (lines_of_state texts p w) (view_same texts p v a h) (view_same texts p w b k)

pub kept_changes : (texts : Texts) (p : ProfileName) (v w : Shown) (a b : Told) → IsStateTold texts p v a → IsStateTold texts p w b → told_changes (told_rows texts p a) (told_rows texts p b) ≡ told_changes (told_lines texts p v) (told_lines texts p w)
kept_changes texts p v w a b h k =
    λ i. view_changes texts p v w a.view b.view h.view k.view i
    ++ told_of_same (sibling_rows texts a) (sibling_rows texts b) (sibling_lines texts v.derivations) (sibling_lines texts w.derivations)
    (order_same texts v.derivations a.siblings.items h.siblings h.view.memory.apart) (order_same texts w.derivations b.siblings.items k.siblings k.view.memory.apart) i

itself : (l : Lines) → Same l l
itself l q = refl

state_itself : (s : StateLines) → SameState s s
state_itself s = record { threads = itself s.threads; inboxes = itself s.inboxes; endpoints = itself s.endpoints; slots = itself s.slots; selfheld = itself s.selfheld }

pub first_changes : (texts : Texts) (p : ProfileName) (w : Shown) (a b : Told) → told_rows texts p a ≡ nothing_told → IsStateTold texts p w b → told_changes (told_rows texts p a) (told_rows texts p b) ≡ told_changes nothing_told (told_lines texts p w)
first_changes texts p w a b none k =
    ap (λ t. told_changes t (told_rows texts p b)) none
    ∙ (λ i. changes_same nothing_told.state (view_rows texts p b.view) nothing_told.state (lines_of_state texts p w) (state_itself nothing_told.state) (view_same texts p w b.view k.view) i
    ++ told_of_same nothing_told.siblings (sibling_rows texts b) nothing_told.siblings (sibling_lines texts w.derivations) (itself nothing_told.siblings) (order_same texts w.derivations b.siblings.items k.siblings k.view.memory.apart) i)

-- of nothing there is no line
none_apart : (l : Lines) → l ≡ [] → AreLinesApart l
unfolding IsDistinct
none_apart l is = subst AreLinesApart (sym is) nil
  where
    nil : AreLinesApart []
    nil = tt

none_rise : (l : Lines) → l ≡ [] → IsStrictlySortedBy nat_cmp (line_addresses l)
unfolding IsStrictlySortedBy
none_rise l is = subst (λ m. IsStrictlySortedBy nat_cmp (line_addresses m)) (sym is) nil
  where
    nil : IsStrictlySortedBy nat_cmp []
    nil = tt

pub nothing_apart : (texts : Texts) (p : ProfileName) (told : Told) → told_rows texts p told ≡ nothing_told → IsApartTold texts p told
nothing_apart texts p told is =
    record {
      view = record {
        memory = record {
          slots = none_apart _ (ap (λ (t : ToldLines). t.state.slots) is);
          selfheld = none_rise _ (ap (λ (t : ToldLines). t.state.selfheld) is);
        };
        messages = record {
          threads = none_apart _ (ap (λ (t : ToldLines). t.state.threads) is);
          inboxes = none_apart _ (ap (λ (t : ToldLines). t.state.inboxes) is);
          endpoints = none_apart _ (ap (λ (t : ToldLines). t.state.endpoints) is);
        };
      };
      siblings = none_apart _ (ap (λ (t : ToldLines). t.siblings) is);
    }

-- ---- where the full slots stay, the messages are all that changes

abbrev pub with_messages : Told → Messages → Told
with_messages told new = record { view = record { memory = told.view.memory; messages = new }; siblings = told.siblings }

pub still_shows : (texts : Texts) (p : ProfileName) (v w : Shown) (m : Memory) → HaveSameSlots v w → ShowsMemory texts p v m → ShowsMemory texts p w m
still_shows texts p v w m same h =
    record {
      threads = h.threads ∙ ap (λ list. rising (named p NamedObject.Thread list)) (sym same.list);
      endpoints = h.endpoints ∙ ap (λ list. rising (named p NamedObject.Endpoint list)) (sym same.list);
      slots = h.slots ∙ sym same.list;
      apart = subst (IsDistinct (λ (a b : ℕ). a == b)) (sym (derived_slots v.derivations) ∙ ap (map slot_of) (sym same.list) ∙ derived_slots w.derivations) h.apart;
      selfheld = h.selfheld ∙ ap (traced_selfheld_lines texts p) (sym same.list);
    }

pub still_told : (texts : Texts) (p : ProfileName) (v w : Shown) (told : Told) (new : Messages) → HaveSameSlots v w → IsStateTold texts p v told → ShowsMessages texts p w new → IsStateTold texts p w (with_messages told new)
still_told texts p v w told new same h k =
    record { view = record { memory = still_shows texts p v w told.view.memory same h.view.memory; messages = k }; siblings = h.siblings ∙ sym same.order }

messages_alone : (texts : Texts) (p : ProfileName) (told : Told) (new : Messages) → message_changes texts told.view.messages new ≡ told_changes (told_rows texts p told) (told_rows texts p (with_messages told new))
messages_alone texts p told new =
    let threads = line_changes (thread_rows texts told.view.messages) (thread_rows texts new) in
    let inboxes = line_changes (inbox_rows texts told.view.messages) (inbox_rows texts new) in
    let endpoints = line_changes (endpoint_rows texts told.view.messages) (endpoint_rows texts new) in
    sym (
    (λ i. (threads ++ (inboxes ++ (endpoints ++ (no_line_changes (kept_slot_lines texts p told.view.memory) (kept_slot_lines texts p told.view.memory) refl i
    ++ no_line_changes (lines_seen told.view.memory.selfheld.items) (lines_seen told.view.memory.selfheld.items) refl i))))
    ++ no_line_changes (sibling_rows texts told) (sibling_rows texts told) refl i)
    ∙ append-nil (threads ++ (inboxes ++ (endpoints ++ [])))
    ∙ ap (λ l. threads ++ (inboxes ++ l)) (append-nil endpoints))

pub messages_told : (texts : Texts) (p : ProfileName) (v w : Shown) (told : Told) (new : Messages) → HaveSameSlots v w → IsStateTold texts p v told → ShowsMessages texts p w new →
    message_changes texts told.view.messages new ≡ told_changes (told_lines texts p v) (told_lines texts p w)
messages_told texts p v w told new same h k = messages_alone texts p told new ∙ kept_changes texts p v w told (with_messages told new) h (still_told texts p v w told new same h k)

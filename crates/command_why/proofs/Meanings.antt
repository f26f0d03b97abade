-- The names by which the calls of a set-up spell their values stand for these values.
use Rattle.std.proofs.Common.{◌≡◌, ℕ, zero, suc, ◌+◌, ◌-◌, ◌^◌, ◌==◌, nat_lt, true, false, cond, List, [], ◌∷◌, length, slice_get, Option, None, Some, option_and_then, Result, Ok, Err, refl, sym, ap, subst, ◌∙◌}
use Rattle.std.specs.Prelude.{codes}
use Rattle.std.specs.List.{AllByRecursion as Each}
use Rattle.std.proofs.lemmas.List.Elements.{All-from_recursion}
use Rattle.toml.specs.Data.{Data, string, Members, as_array, as_table, get_member}
use Rattle.cap_core.specs.declared.message.Message.{Message}
use Rattle.cap_core.specs.declared.profile.ProfileName.{ProfileName}
use Rattle.cap_core.specs.declared.profile.ProfileName.TheVariants.{Wide}
use Rattle.cap_core.specs.declared.rights.Rights.{Rights}
use Rattle.cap_core.specs.Checks.{◌>>=◌}
use Rattle.cap_core.specs.Limits.{max_boot_untypeds, max_clients, max_history_limit}
use Rattle.cap_core.specs.Numbers.{word_bits}
use Rattle.cap_core.specs.Rights.{all_rights}
use Rattle.kernel_forest.proofs.Trees.Forests.{each-append}
use Rattle.kernel_abstract.specs.declared.call.Op.{Op}
use Rattle.kernel_abstract.specs.declared.call.Op.TheVariants as ops
use Rattle.kernel_abstract.specs.declared.invocation.SlotArguments.{SlotArguments}
use Rattle.setup_values.specs.declared.operations.OpName.{OpName}
use Rattle.setup_values.specs.declared.operations.OpName.TheVariants.{Retype, CapCopy, CapMint, CapMove, CapMutate, CapDelete, CapRevoke, CancelBadged, Send, NbSend, Recv, NbRecv, SetSpace, Suspend, Resume}
use Rattle.setup_values.specs.declared.values.Wrong.{Wrong}
use Rattle.setup_values.specs.declared.values.Wrong.TheVariants.{OtherValue}
use Rattle.setup_values.specs.Kinds.{array_in, below, each, expect, filled, hexadecimal, label, number, op, or_other, profile, rights, spelt, tables, table_in as is_table, word, words}
use Rattle.setup_values.specs.Names.{Names, word_named}
use Rattle.setup_values.specs.Operations.{call_keys}
use Rattle.setup_format.specs.declared.fault.Place.{Place}
use Rattle.setup_format.specs.declared.setup.Sizes.{Sizes}
use Rattle.setup_format.specs.declared.fault.Place.TheVariants as places
use Rattle.setup_format.specs.Limits.{first_format, newest_format, max_calls}
use Rattle.setup_format.specs.Operations.{operation_at, word_at, word_or, retype_at, slots_at, rights_at, copy_at, mint_at, move_at, mutate_at, slot_at, message_at, set_space_at}
use Rattle.setup_format.specs.Setups.{call_at, laid_out, limit_of, names_of, planned_with, setup_at, setup_of, setup_up_to, setup_with, sizes_at, top_keys, untyped_at, read_of}
use Rattle.setup_format.specs.Tables.{at_key, given_or, known_only, needed, optional, required}
use Rattle.setup_format.specs.Views.{CallView, ReadView, SetupView}
use Rattle.setup_format.proofs.Grammar.Parts.{parts}
use Rattle.command_why.specs.Names.{name_in, spelt_name}
use Rattle.command_why.specs.Keys.{KeyWords, key_words, transfer_words, slot_key_words}
use Rattle.command_why.specs.Tables.{call_table, table_of_call}
use Rattle.command_why.specs.Meanings.{MeansWord, MeanTheirWords, said_words}

-- ---- what was read, piece by piece

ok_same : {A E : Type 0} (x y : A) → ◌≡◌ {A = Result A E} (Ok x) (Ok y) → x ≡ y
ok_same x y h = cc

at_key_read : {A : Type 0} (place : Place) (key : List ℕ) (r : Result A Wrong) (x : A) → at_key place key r ≡ Ok x → r ≡ Ok x
at_key_read place key (Ok y) x h = let same : y ≡ x = cc in ap (λ z. Ok z) same
at_key_read place key (Err wrong) x h = absurd cc

-- ---- a value that is spelt by a name

below_read : (bound m n : ℕ) → below bound m ≡ Ok n → m ≡ n
below_read bound m n h =
    elim (nat_lt m bound) as (λ b. cond b (Ok m) (Err OtherValue) ≡ Ok n → m ≡ n) [
      | true ↦ λ k. ok_same m n k
      | false ↦ λ k. absurd cc
    ] h

other_read : (bound n : ℕ) (o : Option ℕ) → (or_other o >>= below bound) ≡ Ok n → o ≡ Some n
other_read bound n None h = absurd cc
other_read bound n (Some m) h = ap (λ i. Some i) (below_read bound m n h)

text_means : (names : Names) (bound n : ℕ) (text name : List ℕ) → (or_other (spelt names text) >>= below bound) ≡ Ok n → name_in text ≡ Some name → word_named names name ≡ Some n
text_means names bound n [] name h k = absurd cc
text_means names bound n (c ∷ text) name h k =
    elim (c == 64) as (λ b. (or_other (cond b (word_named names text) (hexadecimal (c ∷ text))) >>= below bound) ≡ Ok n → cond b (Some text) None ≡ Some name → word_named names name ≡ Some n) [
      | true ↦ λ read is. let same : text ≡ name = cc in subst (λ l. word_named names l ≡ Some n) same (other_read bound n (word_named names text) read)
      | false ↦ λ read is. absurd cc
    ] h k

data_means : (p : ProfileName) (names : Names) (d : Data) (n : ℕ) (name : List ℕ) → word p names d ≡ Ok n → spelt_name d ≡ Some name → word_named names name ≡ Some n
data_means p names (string text) n name h k = text_means names (2 ^ word_bits p) n text name h k
data_means p names d n name h k = absurd cc

module _ (p : ProfileName) (names : Names) (place : Place) (t : Members) where
  Means : List ℕ → ℕ → Type 0
  Means key n = MeansWord names (Some t) (key, n)

  word_means : (key : List ℕ) (n : ℕ) → word_at p names place t key ≡ Ok n → Means key n
  unfolding Means
  word_means key n h = by (get_member key t) (at_key_read place key (needed (word p names) (get_member key t)) n h)
    where
      by : (o : Option Data) → needed (word p names) o ≡ Ok n → (name : List ℕ) → option_and_then spelt_name o ≡ Some name → word_named names name ≡ Some n
      by None read name is = absurd cc
      by (Some d) read name is = data_means p names d n name read is

  given_means : (key : List ℕ) (default n : ℕ) → word_or p names place t key default ≡ Ok n → Means key n
  unfolding Means
  given_means key default n h = by (get_member key t) (at_key_read place key (given_or default (word p names) (get_member key t)) n h)
    where
      by : (o : Option Data) → given_or default (word p names) o ≡ Ok n → (name : List ℕ) → option_and_then spelt_name o ≡ Some name → word_named names name ≡ Some n
      by None read name is = absurd cc
      by (Some d) read name is = data_means p names d n name read is

  rights_mean : (r : Rights) → rights_at p names place t ≡ Ok r → Means (codes "rights") r.0
  unfolding Means
  rights_mean r h = by (get_member (codes "rights") t) (at_key_read place (codes "rights") (given_or all_rights rights (get_member (codes "rights") t)) r h)
    where
      number_means : (d : Data) (r : Rights) → rights d ≡ Ok r → (name : List ℕ) → spelt_name d ≡ Some name → ⊥
      number_means (string text) r read name is = cc
      number_means d r read name is = cc

      by : (o : Option Data) → given_or all_rights rights o ≡ Ok r → (name : List ℕ) → option_and_then spelt_name o ≡ Some name → word_named names name ≡ Some r.0
      by None read name is = absurd cc
      by (Some d) read name is = absurd (number_means d r read name is)

  -- ---- operations

  AllMean : KeyWords → Type 0
  AllMean list = Each (λ (k : List ℕ × ℕ). MeansWord names (Some t) k) list

  HaveMeaning : Op → Type 0
  HaveMeaning o = AllMean (key_words o)

  retype_means : (o : Op) → retype_at p names place t ≡ Ok o → HaveMeaning o
  unfolding retype_at Means AllMean HaveMeaning
  retype_means o h =
      let cap = parts (word_at p names place t (codes "cap")) _ o h in
      let kind = parts (word_at p names place t (codes "kind")) _ o cap.2 in
      let size = parts (word_or p names place t (codes "size_bits") 0) _ o kind.2 in
      let root = parts (word_at p names place t (codes "root")) _ o size.2 in
      let index = parts (word_or p names place t (codes "index") 0) _ o root.2 in
      let depth = parts (word_or p names place t (codes "depth") 0) _ o index.2 in
      let offset = parts (word_at p names place t (codes "offset")) _ o depth.2 in
      let count = parts (word_at p names place t (codes "count")) _ o offset.2 in
      let made : Op = ops.Retype cap.0 kind.0 size.0 root.0 index.0 depth.0 offset.0 count.0 in
      let same : made ≡ o = ok_same made o count.2 in
      subst HaveMeaning same (
        word_means (codes "cap") cap.0 cap.1,
        (
          word_means (codes "kind") kind.0 kind.1,
          (
            given_means (codes "size_bits") 0 size.0 size.1,
            (
              word_means (codes "root") root.0 root.1,
              (
                given_means (codes "index") 0 index.0 index.1,
                (
                  given_means (codes "depth") 0 depth.0 depth.1,
                  (word_means (codes "offset") offset.0 offset.1, (word_means (codes "count") count.0 count.1, tt)),
                ),
              ),
            ),
          ),
        ),
      )

  abbrev transfer : ℕ × SlotArguments → KeyWords
  transfer w = transfer_words w.0 w.1.index w.1.depth w.1.src_root w.1.src_index w.1.src_depth

  slots_mean : (w : ℕ × SlotArguments) → slots_at p names place t ≡ Ok w → AllMean (transfer w)
  unfolding slots_at Means AllMean
  slots_mean w h =
      let cap = parts (word_at p names place t (codes "cap")) _ w h in
      let index = parts (word_at p names place t (codes "index")) _ w cap.2 in
      let depth = parts (word_or p names place t (codes "depth") (word_bits p)) _ w index.2 in
      let src_root = parts (word_or p names place t (codes "src_root") cap.0) _ w depth.2 in
      let src_index = parts (word_at p names place t (codes "src_index")) _ w src_root.2 in
      let src_depth = parts (word_or p names place t (codes "src_depth") (word_bits p)) _ w src_index.2 in
      let made : ℕ × SlotArguments = (cap.0, record { index = index.0; depth = depth.0; src_root = src_root.0; src_index = src_index.0; src_depth = src_depth.0 }) in
      let same : made ≡ w = ok_same made w src_depth.2 in
      subst (λ x. AllMean (transfer x)) same (
        word_means (codes "cap") cap.0 cap.1,
        (
          word_means (codes "index") index.0 index.1,
          (
            given_means (codes "depth") (word_bits p) depth.0 depth.1,
            (given_means (codes "src_root") cap.0 src_root.0 src_root.1, (word_means (codes "src_index") src_index.0 src_index.1, (given_means (codes "src_depth") (word_bits p) src_depth.0 src_depth.1, tt))),
          ),
        ),
      )

  copy_means : (o : Op) → copy_at p names place t ≡ Ok o → HaveMeaning o
  unfolding copy_at Means AllMean HaveMeaning
  copy_means o h =
      let w = parts (slots_at p names place t) _ o h in
      let few = parts (rights_at p names place t) _ o w.2 in
      let made : Op = ops.CapCopy w.0.0 w.0.1.index w.0.1.depth w.0.1.src_root w.0.1.src_index w.0.1.src_depth few.0 in
      let same : made ≡ o = ok_same made o few.2 in
      subst HaveMeaning same
      (each-append (λ (k : List ℕ × ℕ). MeansWord names (Some t) k) (transfer w.0) ((codes "rights", few.0.0) ∷ []) (slots_mean w.0 w.1) (rights_mean few.0 few.1, tt))

  mint_means : (o : Op) → mint_at p names place t ≡ Ok o → HaveMeaning o
  unfolding mint_at Means AllMean HaveMeaning
  mint_means o h =
      let w = parts (slots_at p names place t) _ o h in
      let few = parts (rights_at p names place t) _ o w.2 in
      let value = parts (word_at p names place t (codes "word")) _ o few.2 in
      let made : Op = ops.CapMint w.0.0 w.0.1.index w.0.1.depth w.0.1.src_root w.0.1.src_index w.0.1.src_depth few.0 value.0 in
      let same : made ≡ o = ok_same made o value.2 in
      subst HaveMeaning same
      (each-append (λ (k : List ℕ × ℕ). MeansWord names (Some t) k) (transfer w.0) ((codes "rights", few.0.0) ∷ (codes "word", value.0) ∷ []) (slots_mean w.0 w.1)
      (rights_mean few.0 few.1, (word_means (codes "word") value.0 value.1, tt)))

  move_means : (o : Op) → move_at p names place t ≡ Ok o → HaveMeaning o
  unfolding move_at Means AllMean HaveMeaning
  move_means o h =
      let w = parts (slots_at p names place t) _ o h in
      let made : Op = ops.CapMove w.0.0 w.0.1.index w.0.1.depth w.0.1.src_root w.0.1.src_index w.0.1.src_depth in
      let same : made ≡ o = ok_same made o w.2 in
      subst HaveMeaning same (slots_mean w.0 w.1)

  mutate_means : (o : Op) → mutate_at p names place t ≡ Ok o → HaveMeaning o
  unfolding mutate_at Means AllMean HaveMeaning
  mutate_means o h =
      let w = parts (slots_at p names place t) _ o h in
      let value = parts (word_at p names place t (codes "word")) _ o w.2 in
      let made : Op = ops.CapMutate w.0.0 w.0.1.index w.0.1.depth w.0.1.src_root w.0.1.src_index w.0.1.src_depth value.0 in
      let same : made ≡ o = ok_same made o value.2 in
      subst HaveMeaning same
      (each-append (λ (k : List ℕ × ℕ). MeansWord names (Some t) k) (transfer w.0) ((codes "word", value.0) ∷ []) (slots_mean w.0 w.1) (word_means (codes "word") value.0 value.1, tt))

  slot_means : (w : ℕ × ℕ × ℕ) → slot_at p names place t ≡ Ok w → AllMean (slot_key_words w.0 w.1 w.2)
  unfolding slot_at Means AllMean
  slot_means w h =
      let cap = parts (word_at p names place t (codes "cap")) _ w h in
      let index = parts (word_at p names place t (codes "index")) _ w cap.2 in
      let depth = parts (word_or p names place t (codes "depth") (word_bits p)) _ w index.2 in
      let made : ℕ × ℕ × ℕ = (cap.0, index.0, depth.0) in
      let same : made ≡ w = ok_same made w depth.2 in
      subst (λ (x : ℕ × ℕ × ℕ). AllMean (slot_key_words x.0 x.1 x.2)) same
      (word_means (codes "cap") cap.0 cap.1, (word_means (codes "index") index.0 index.1, (given_means (codes "depth") (word_bits p) depth.0 depth.1, tt)))

  message_means : (w : ℕ × Message) → message_at p names place t ≡ Ok w → Means (codes "cap") w.0
  unfolding message_at
  message_means w h =
      let cap = parts (word_at p names place t (codes "cap")) _ w h in
      let mark = parts (optional place t (codes "label") 0 (label p)) _ w cap.2 in
      let list = parts (optional place t (codes "words") (filled []) (words p names)) _ w mark.2 in
      let made : ℕ × Message = (cap.0, record { label = mark.0; words = list.0.words; count = list.0.count }) in
      let same : made ≡ w = ok_same made w list.2 in
      subst (λ (x : ℕ × Message). Means (codes "cap") x.0) same (word_means (codes "cap") cap.0 cap.1)

  space_means : (o : Op) → set_space_at p names place t ≡ Ok o → HaveMeaning o
  unfolding set_space_at Means AllMean HaveMeaning
  space_means o h =
      let cap = parts (word_at p names place t (codes "cap")) _ o h in
      let root = parts (word_at p names place t (codes "root")) _ o cap.2 in
      let value = parts (word_or p names place t (codes "word") 0) _ o root.2 in
      let made : Op = ops.SetSpace cap.0 root.0 value.0 in
      let same : made ≡ o = ok_same made o value.2 in
      subst HaveMeaning same (word_means (codes "cap") cap.0 cap.1, (word_means (codes "root") root.0 root.1, (given_means (codes "word") 0 value.0 value.1, tt)))

  -- an operation with a word alone
  cap_means : (make : ℕ → Op) (o : Op) → ((n : ℕ) → Means (codes "cap") n → HaveMeaning (make n)) → (word_at p names place t (codes "cap") >>= λ cap. Ok (make cap)) ≡ Ok o → HaveMeaning o
  cap_means make o has h =
      let cap = parts (word_at p names place t (codes "cap")) (λ cap. Ok (make cap)) o h in
      let same : make cap.0 ≡ o = ok_same (make cap.0) o cap.2 in
      subst HaveMeaning same (has cap.0 (word_means (codes "cap") cap.0 cap.1))

  named_slot_means : (make : ℕ × ℕ × ℕ → Op) (o : Op) → ((w : ℕ × ℕ × ℕ) → AllMean (slot_key_words w.0 w.1 w.2) → HaveMeaning (make w)) → (slot_at p names place t >>= λ w. Ok (make w)) ≡ Ok o → HaveMeaning o
  named_slot_means make o has h =
      let w = parts (slot_at p names place t) (λ w. Ok (make w)) o h in
      let same : make w.0 ≡ o = ok_same (make w.0) o w.2 in
      subst HaveMeaning same (has w.0 (slot_means w.0 w.1))

  send_means : (make : ℕ × Message → Op) (o : Op) → ((w : ℕ × Message) → Means (codes "cap") w.0 → HaveMeaning (make w)) → (message_at p names place t >>= λ w. Ok (make w)) ≡ Ok o → HaveMeaning o
  send_means make o has h =
      let w = parts (message_at p names place t) (λ w. Ok (make w)) o h in
      let same : make w.0 ≡ o = ok_same (make w.0) o w.2 in
      subst HaveMeaning same (has w.0 (message_means w.0 w.1))

  operation_means : (name : OpName) (o : Op) → operation_at p names place t name ≡ Ok o → HaveMeaning o
  unfolding Means AllMean HaveMeaning
  operation_means Retype o h = retype_means o h
  operation_means CapCopy o h = copy_means o h
  operation_means CapMint o h = mint_means o h
  operation_means CapMove o h = move_means o h
  operation_means CapMutate o h = mutate_means o h
  operation_means CapDelete o h = named_slot_means (λ w. ops.CapDelete w.0 w.1 w.2) o (λ w m. m) h
  operation_means CapRevoke o h = named_slot_means (λ w. ops.CapRevoke w.0 w.1 w.2) o (λ w m. m) h
  operation_means CancelBadged o h = named_slot_means (λ w. ops.CancelBadged w.0 w.1 w.2) o (λ w m. m) h
  operation_means Send o h = send_means (λ w. ops.Send w.0 w.1) o (λ w m. (m, tt)) h
  operation_means NbSend o h = send_means (λ w. ops.NbSend w.0 w.1) o (λ w m. (m, tt)) h
  operation_means Recv o h = cap_means (λ cap. ops.Recv cap) o (λ n m. (m, tt)) h
  operation_means NbRecv o h = cap_means (λ cap. ops.NbRecv cap) o (λ n m. (m, tt)) h
  operation_means SetSpace o h = space_means o h
  operation_means Suspend o h = cap_means (λ cap. ops.Suspend cap) o (λ n m. (m, tt)) h
  operation_means Resume o h = cap_means (λ cap. ops.Resume cap) o (λ n m. (m, tt)) h

-- ---- calls

call_means : (p : ProfileName) (names : Names) (clients n : ℕ) (t : Members) (call : CallView) → call_at p names clients n t ≡ Ok call → MeanTheirWords names (Some t) call.call
unfolding call_at Means AllMean HaveMeaning
call_means p names clients n t call h =
    let place = places.Call n in
    let name = parts (required place t (codes "op") op) _ call h in
    let known = parts (known_only place t (call_keys name.0)) _ call name.2 in
    let thread = parts (required place t (codes "thread") (word p names)) _ call known.2 in
    let client = parts (optional place t (codes "client") 0 (number 0 (clients - 1))) _ call thread.2 in
    let said = parts (optional place t (codes "expect") None expect) _ call client.2 in
    let operation = parts (operation_at p names place t name.0) _ call said.2 in
    let made : CallView = record { call = record { thread = thread.0; op = operation.0 }; client = client.0; expect = said.0 } in
    let same : made ≡ call = ok_same made call operation.2 in
    All-from_recursion (MeansWord names (Some t)) (said_words call.call)
    (subst (λ (c : CallView). Each (MeansWord names (Some t)) ((codes "thread", c.call.thread) ∷ key_words c.call.op)) same
    (word_means p names place t (codes "thread") thread.0 thread.1, operation_means p names place t name.0 operation.0 operation.1))

-- what is read at a place, of what stands there
each_at : {A B E : Type 0} (read : ℕ → A → Result B E) (n : ℕ) (xs : List A) (ys : List B) (i : ℕ) (y : B) → each read n xs ≡ Ok ys → slice_get ys i ≡ Some y →
    (m : ℕ) × (x : A) × (slice_get xs i ≡ Some x) × (read m x ≡ Ok y)
unfolding each
each_at {A} {B} read n [] ys i y h k = absurd (let none : [] ≡ ys = ok_same [] ys h in let w : ◌≡◌ {A = Option B} None (Some y) = ap (λ (l : List B). slice_get l i) none ∙ k in cc)
each_at {A} {B} read n (x ∷ xs) ys zero y h k =
    let first = parts (read n x) (λ z. each read (n + 1) xs >>= λ rest. Ok (z ∷ rest)) ys h in
    let others = parts (each read (n + 1) xs) (λ rest. Ok (first.0 ∷ rest)) ys first.2 in
    let all : first.0 ∷ others.0 ≡ ys = ok_same (first.0 ∷ others.0) ys others.2 in
    let here : ◌≡◌ {A = Option B} (Some first.0) (Some y) = ap (λ (l : List B). slice_get l zero) all ∙ k in
    let same : first.0 ≡ y = cc in
    (n, x, refl, first.1 ∙ ap (λ z. Ok z) same)
each_at {A} {B} read n (x ∷ xs) ys (suc i) y h k =
    let first = parts (read n x) (λ z. each read (n + 1) xs >>= λ rest. Ok (z ∷ rest)) ys h in
    let others = parts (each read (n + 1) xs) (λ rest. Ok (first.0 ∷ rest)) ys first.2 in
    let all : first.0 ∷ others.0 ≡ ys = ok_same (first.0 ∷ others.0) ys others.2 in
    each_at read (n + 1) xs others.0 i y others.1 (ap (λ (l : List B). slice_get l (suc i)) all ∙ k)

-- ---- set-ups

-- the names, the tables of the calls, and what these are read as
record IsReadAt (p : ProfileName) (t : Members) (setup : SetupView) : Type 0 where
  ns : Names
  clients : ℕ
  call : List Members
  named : names_of p t ≡ Ok ns
  spelt : optional places.Top t (codes "call") [] (tables 0 max_calls) ≡ Ok call
  profile : p ≡ setup.profile
  calls : each (call_at p ns clients) 1 call ≡ Ok setup.calls

with_read : (p : ProfileName) (ns : Names) (sizes : Sizes) (clients limit : ℕ) (untyped call : List Members) (setup : SetupView) → setup_with p ns sizes clients limit untyped call ≡ Ok setup →
    (p ≡ setup.profile) × (each (call_at p ns clients) 1 call ≡ Ok setup.calls)
unfolding setup_with
with_read p ns sizes clients limit untyped call setup h =
    let untypeds = parts (each (untyped_at p) 1 untyped) _ setup h in
    let plan = parts (laid_out p (planned_with sizes untypeds.0)) _ setup untypeds.2 in
    let calls = parts (each (call_at p ns clients) 1 call) _ setup plan.2 in
    let made : SetupView = record { profile = p; plan = plan.0; clients = clients; limit = limit_of limit (length calls.0); calls = calls.0 } in
    let same : made ≡ setup = ok_same made setup calls.2 in
    subst (λ (x : SetupView). (p ≡ x.profile) × (each (call_at p ns clients) 1 call ≡ Ok x.calls)) same (refl, calls.1)

at_read : (p : ProfileName) (t : Members) (setup : SetupView) → setup_at p t ≡ Ok setup → IsReadAt p t setup
unfolding setup_at
at_read p t setup h =
    let sizes = parts (sizes_at places.Top t) _ setup h in
    let clients = parts (optional places.Top t (codes "clients") 1 (number 1 max_clients)) _ setup sizes.2 in
    let limit = parts (optional places.Top t (codes "limit") 0 (number 1 max_history_limit)) _ setup clients.2 in
    let ns = parts (names_of p t) _ setup limit.2 in
    let untyped = parts (optional places.Top t (codes "untyped") [] (tables 0 max_boot_untypeds)) _ setup ns.2 in
    let call = parts (optional places.Top t (codes "call") [] (tables 0 max_calls)) _ setup untyped.2 in
    let read = with_read p ns.0 sizes.0 clients.0 limit.0 untyped.0 call.0 setup call.2 in
    record { ns = ns.0; clients = clients.0; call = call.0; named = ns.1; spelt = call.1; profile = read.0; calls = read.1 }

setup_read : (newest : ℕ) (t : Members) (setup : SetupView) → setup_up_to newest t ≡ Ok setup → (p : ProfileName) × IsReadAt p t setup
unfolding setup_up_to
setup_read newest t setup h =
    let format = parts (required places.Top t (codes "format") (number first_format newest)) _ setup h in
    let known = parts (known_only places.Top t (top_keys format.0)) _ setup format.2 in
    let p = parts (optional places.Top t (codes "profile") Wide profile) (λ p. setup_at p t) setup known.2 in
    (p.0, at_read p.0 t setup p.2)

-- the table of a call is the one that it is read from
is_spelt_by : (t call : Members) (e : Data) → is_table (as_table e) ≡ Ok call → as_table e ≡ Some call
is_spelt_by t call e h = by (as_table e) h
  where
    by : (o : Option Members) → is_table o ≡ Ok call → o ≡ Some call
    by None k = absurd cc
    by (Some c) k = ap (λ x. Some x) (ok_same c call k)

table_is : (t : Members) (list : List Members) (i : ℕ) (call : Members) → optional places.Top t (codes "call") [] (tables 0 max_calls) ≡ Ok list → slice_get list i ≡ Some call → call_table t i ≡ Some call
table_is t list i call h k = by (get_member (codes "call") t) (at_key_read places.Top (codes "call") (given_or [] (tables 0 max_calls) (get_member (codes "call") t)) list h)
  where
    by : (o : Option Data) → given_or [] (tables 0 max_calls) o ≡ Ok list → option_and_then (λ calls. table_of_call (array_in 0 max_calls (as_array calls)) i) o ≡ Some call
    by None read = absurd (let none : [] ≡ list = ok_same [] list read in let w : ◌≡◌ {A = Option Members} None (Some call) = ap (λ (l : List Members). slice_get l i) none ∙ k in cc)
    by (Some d) read =
        let items = parts (array_in 0 max_calls (as_array d)) (each (λ _ e. is_table (as_table e)) 0) list read in
        let there = each_at (λ _ e. is_table (as_table e)) 0 items.0 list i call items.2 k in
        ap (λ r. table_of_call r i) items.1 ∙ (ap (option_and_then as_table) there.2 ∙ is_spelt_by t call there.1 there.3)

abbrev read_with : Members → Names → SetupView → ReadView
read_with table names setup = record { table = table; names = names; setup = setup }

pub names_mean : (t : Members) (read : ReadView) (i : ℕ) (call : CallView) → read_of t ≡ Ok read → slice_get read.setup.calls i ≡ Some call → MeanTheirWords read.names (call_table t i) call.call
unfolding read_of
names_mean t read i call h =
    let s = parts (setup_of t) (λ s. names_of s.profile t >>= λ n. Ok (read_with t n s)) read h in
    let named = parts (names_of s.0.profile t) (λ n. Ok (read_with t n s.0)) read s.2 in
    let same : read_with t named.0 s.0 ≡ read = ok_same (read_with t named.0 s.0) read named.2 in
    let at = setup_read newest_format t s.0 s.1 in
    let its : at.1.ns ≡ named.0 = ok_same at.1.ns named.0 (sym at.1.named ∙ (ap (λ q. names_of q t) at.1.profile ∙ named.1)) in
    subst (λ (x : ReadView). slice_get x.setup.calls i ≡ Some call → MeanTheirWords x.names (call_table t i) call.call) same
    (λ k.
    let there = each_at (call_at at.0 at.1.ns at.1.clients) 1 at.1.call s.0.calls i call at.1.calls k in
    let means = call_means at.0 at.1.ns at.1.clients there.0 there.1 call there.3 in
    let table_there : call_table t i ≡ Some there.1 = table_is t at.1.call i there.1 at.1.spelt there.2 in
    subst (λ n. MeanTheirWords n (call_table t i) call.call) its (subst (λ o. MeanTheirWords at.1.ns o call.call) (sym table_there) means))

-- How many lines the text of each reason has.
use Rattle.std.proofs.Common.{◌≡◌, ℕ, ◌+◌, ◌-◌, ◌≤◌, true, false, cond, List, [], ◌∷◌, ◌++◌, length, take, slice_get, Option, None, Some, refl, sym, ◌∙◌, append-nil, length-append, arith}
use Rattle.std.specs.Prelude.{codes}
use Rattle.std.specs.Fmt.{decimal}
use Rattle.std.specs.List.{AllByRecursion as Each, flat_map}
use Rattle.std.proofs.lemmas.List.Concat.{flat_map-append}
use Rattle.std.proofs.lemmas.List.Elements.{All-from_recursion}
use Rattle.cap_core.specs.declared.profile.ProfileName.{ProfileName}
use Rattle.cap_core.specs.declared.capability.Kind.{Kind}
use Rattle.kernel_forest.proofs.Trees.Forests.{each-append}
use Rattle.kernel_abstract.specs.Shown.{Shown}
use Rattle.kernel_abstract.specs.declared.call.ThreadState.{ThreadState}
use Rattle.kernel_checks.specs.declared.hints.Hint.{Hint}
use Rattle.kernel_checks.specs.declared.hints.Hint.TheVariants.{Depth, Number}
use Rattle.kernel_abstract.specs.declared.reason.Held.{Held}
use Rattle.kernel_abstract.specs.declared.reason.Miss.{Miss}
use Rattle.kernel_abstract.specs.declared.reason.Miss.TheVariants as miss
use Rattle.kernel_abstract.specs.declared.reason.Right.{Right}
use Rattle.kernel_abstract.specs.declared.reason.Reason.{Reason}
use Rattle.kernel_abstract.specs.declared.reason.Reason.TheVariants.{NoThread, NotReady, NotFound, NoDepth, NoCapability, OtherKind, NoRight, IsFull, IsEmpty, HasBadge, LongGuard, HasChildren, NotAllRights, NoSpace, NoKind, NoSize, TooLarge, TooSmall, NoNode, NoOffset, NoCount, FewSlots, SomeFull, NoRoom}
use Rattle.kernel_abstract.specs.declared.reason.Word.{Word}
use Rattle.kernel_abstract.specs.declared.reason.Word.TheVariants.{Invoked, Root, Index, SourceIndex}
use Rattle.setup_report.specs.State.{threads}
use Rattle.setup_report.specs.Naming.{Texts}
use Rattle.setup_report.specs.Text.{threads_text}
use Rattle.setup_report_laws.specs.Laws.{IsOneLine}
use Rattle.setup_report_laws.proofs.OneLine.{both_lines, number_line}
use Rattle.command_why.specs.Limits.{threads_told}
use Rattle.command_why.specs.Keys.{key_words}
use Rattle.command_why.specs.Words.{word_key, depth_key, is_whole, root_of}
use Rattle.command_why.specs.Text.{reason_line, an_op, kind_text, radix_of}
use Rattle.command_why.specs.Text as text
use Rattle.command_why.specs.Asked.{AskedView, word_said, depth_said, led_said}
use Rattle.command_why.specs.Facts.{nothing_in, fact_lines, kind_lines, right_lines, right_words, badge_text, guard_text, children_lines}
use Rattle.command_why.specs.Lookups.{start_line, no_root_lines, lookup_text, way_to, lookup_line, miss_text, would_text, hint_text, hint_line, hint_of, held_path, missed_lines, not_found_lines, no_depth_lines}
use Rattle.command_why.specs.Reasons.{asked_thread_text, more_text, live_line, no_thread_line, does_text, not_ready_lines, reason_lines}
use Rattle.command_why.specs.Retypes.{used_text, number_text, retyped_text}
use Rattle.command_why.specs.Laws.{AreOneLineNames, AreOneLineTexts, HasLines}
use Rattle.command_why.proofs.Texts as one_line

-- ---- texts of so many lines, one behind another

record Has (texts : Texts) (a : AskedView) (low high : ℕ) (text : List ℕ) : Type 0 where
  lines : List (List ℕ)
  is : text ≡ flat_map reason_line lines
  apart : AreOneLineTexts texts → AreOneLineNames a → Each IsOneLine lines
  least : low ≤ length lines
  most : length lines ≤ high

one : (texts : Texts) (a : AskedView) (text : List ℕ) → (AreOneLineTexts texts → AreOneLineNames a → IsOneLine text) → Has texts a 1 1 (reason_line text)
one texts a text line =
    record {
      lines = text ∷ [];
      is = sym (append-nil (reason_line text));
      apart = λ told names. (line told names, tt);
      least = omega arith;
      most = omega arith;
    }

nothing : (texts : Texts) (a : AskedView) → Has texts a 0 0 []
nothing texts a = record { lines = []; is = refl; apart = λ told names. tt; least = omega arith; most = omega arith }

both : (texts : Texts) (a : AskedView) (low high least most : ℕ) (text more : List ℕ) → Has texts a low high text → Has texts a least most more → Has texts a (low + least) (high + most) (text ++ more)
both texts a low high least most text more h k =
    record {
      lines = h.lines ++ k.lines;
      is = (λ i. h.is i ++ k.is i) ∙ sym (flat_map-append reason_line h.lines k.lines);
      apart = λ told names. each-append IsOneLine h.lines k.lines (h.apart told names) (k.apart told names);
      least = omega (arith, length-append h.lines k.lines, h.least, k.least);
      most = omega (arith, length-append h.lines k.lines, h.most, k.most);
    }

within : (texts : Texts) (a : AskedView) (low high least most : ℕ) (text : List ℕ) → least ≤ low → high ≤ most → Has texts a low high text → Has texts a least most text
within texts a low high least most text l m h =
    record { lines = h.lines; is = h.is; apart = h.apart; least = omega (arith, h.least); most = omega (arith, h.most) }

-- ---- the parts of a text

module _ (texts : Texts) (a : AskedView) where
  two : (first second : List ℕ) → (AreOneLineTexts texts → AreOneLineNames a → IsOneLine first) → (AreOneLineTexts texts → AreOneLineNames a → IsOneLine second) → Has texts a 1 4 (reason_line first ++ reason_line second)
  two first second h k = within texts a 2 2 1 4 (reason_line first ++ reason_line second) (omega arith) (omega arith) (both texts a 1 1 1 1 (reason_line first) (reason_line second) (one texts a first h) (one texts a second k))

  single : (text : List ℕ) → (AreOneLineTexts texts → AreOneLineNames a → IsOneLine text) → Has texts a 1 4 (reason_line text)
  single text h = within texts a 1 1 1 4 (reason_line text) (omega arith) (omega arith) (one texts a text h)

  fact : (word : Word) (held : Held) (said : List ℕ) → (AreOneLineTexts texts → AreOneLineNames a → IsOneLine said) → Has texts a 1 4 (fact_lines texts a word held said)
  fact word held said h = two (led_said texts a word held) said (λ told names. one_line.led_line texts a told names word held) h

  three : (word : Word) (held : Held) (second third : List ℕ) → (AreOneLineTexts texts → AreOneLineNames a → IsOneLine second) → (AreOneLineTexts texts → AreOneLineNames a → IsOneLine third) → Has texts a 1 4 (fact_lines texts a word held second ++ reason_line third)
  three word held second third h k =
      within texts a 3 3 1 4 (fact_lines texts a word held second ++ reason_line third) (omega arith) (omega arith)
      (both texts a 2 2 1 1 (fact_lines texts a word held second) (reason_line third)
      (both texts a 1 1 1 1 (reason_line (led_said texts a word held)) (reason_line second) (one texts a (led_said texts a word held) (λ told names. one_line.led_line texts a told names word held)) (one texts a second h))
      (one texts a third k))

  start : (word : Word) (from : Held) → Has texts a 1 1 (start_line texts a word from)
  start word from =
      let whole = word_said a word ++ (codes " is looked up from the thread's root " ++ text.slot_and_content texts from) in
      let index = word_said a word ++ (codes " " ++ (depth_said a word ++ (codes " is looked up from " ++ text.slot_and_content texts from))) in
      elim (is_whole word) as (λ b. Has texts a 1 1 (cond b (reason_line whole) (reason_line index))) [
        | true ↦ one texts a whole (λ told names. one_line.whole_start_line texts a told names word from)
        | false ↦ one texts a index (λ told names. one_line.index_start_line texts a told names word from)
      ]

  no_root : (word : Word) (from : Held) → Has texts a 2 2 (no_root_lines texts a word from)
  no_root word from =
      let whole = start_line texts a word from ++ reason_line (codes "the thread has no capability space") in
      let led = led_said texts a (root_of word) from in
      let said = word_key word ++ codes " is looked up from a CNode's capability" in
      elim (is_whole word) as (λ b. Has texts a 2 2 (cond b whole (reason_line led ++ reason_line said))) [
        | true ↦ both texts a 1 1 1 1 (start_line texts a word from) (reason_line (codes "the thread has no capability space")) (start word from) (one texts a (codes "the thread has no capability space") (λ told names. refl))
        | false ↦ both texts a 1 1 1 1 (reason_line led) (reason_line said) (one texts a led (λ told names. one_line.led_line texts a told names (root_of word) from))
            (one texts a said (λ told names. both_lines (word_key word) (codes " is looked up from a CNode's capability") (one_line.key_line word) refl))
      ]

  way_on : (between : List Held) (last : Option Held) → Has texts a 0 1 (way_to texts between last)
  way_on between None = within texts a 0 0 0 1 [] (omega arith) (omega arith) (nothing texts a)
  way_on between (Some last) = within texts a 1 1 0 1 (reason_line (lookup_text texts between last)) (omega arith) (omega arith) (one texts a (lookup_text texts between last) (λ told names. one_line.way_line texts told between last))

  way : (slots : List Held) → Has texts a 0 1 (lookup_line texts slots)
  way [] = within texts a 0 0 0 1 [] (omega arith) (omega arith) (nothing texts a)
  way (first ∷ rest) = way_on (take (length rest - 1) rest) (slice_get rest (length rest - 1))

  hint : (word : Word) (h : Option Hint) → Has texts a 0 1 (hint_line texts word h)
  hint word None = within texts a 0 0 0 1 [] (omega arith) (omega arith) (nothing texts a)
  hint word (Some (Depth depth slot)) =
      let said = hint_text texts (depth_key word) depth (codes " would name slot ") slot in
      within texts a 1 1 0 1 (reason_line said) (omega arith) (omega arith) (one texts a said (λ told names. one_line.hint_line texts told (depth_key word) depth (codes " would name slot ") slot (one_line.depth_key_line word) refl))
  hint word (Some (Number number slot)) =
      let said = hint_text texts (word_key word) number (would_text word) slot in
      within texts a 1 1 0 1 (reason_line said) (omega arith) (omega arith) (one texts a said (λ told names. one_line.hint_line texts told (word_key word) number (would_text word) slot (one_line.key_line word) (one_line.would_line word)))

  missed : (p : ProfileName) (v : Shown) (word : Word) (from : Held) (m : Miss) → Has texts a 1 4 (missed_lines texts p v a word from m)
  missed p v word from m =
      let slots = lookup_line texts (held_path p v (key_words a.call.op) word from) in
      let last = hint_line texts word (hint_of p v (key_words a.call.op) word from) in
      within texts a 2 4 1 4 (missed_lines texts p v a word from m) (omega arith) (omega arith)
      (both texts a 1 1 1 3 (start_line texts a word from) (slots ++ (reason_line (miss_text m) ++ last)) (start word from)
      (both texts a 0 1 1 2 slots (reason_line (miss_text m) ++ last) (way (held_path p v (key_words a.call.op) word from))
      (both texts a 1 1 0 1 (reason_line (miss_text m)) last (one texts a (miss_text m) (λ told names. one_line.miss_line m)) (hint word (hint_of p v (key_words a.call.op) word from)))))

  not_found : (p : ProfileName) (v : Shown) (word : Word) (from : Held) (m : Miss) → Has texts a 1 4 (not_found_lines texts p v a word from m)
  not_found p v word from miss.NoRoot = within texts a 2 2 1 4 (no_root_lines texts a word from) (omega arith) (omega arith) (no_root word from)
  not_found p v word from m = missed p v word from m

  no_depth : (p : ProfileName) (v : Shown) (word : Word) (from : Held) (most : ℕ) → Has texts a 1 4 (no_depth_lines texts p v a word from most)
  no_depth p v word from most =
      let said = depth_said a word ++ (codes " is not from 1 to " ++ decimal most) in
      let last = hint_line texts word (hint_of p v (key_words a.call.op) word from) in
      within texts a 1 2 1 4 (reason_line said ++ last) (omega arith) (omega arith)
      (both texts a 1 1 0 1 (reason_line said) last (one texts a said (λ told names. one_line.depth_and texts a told names word (codes " is not from 1 to " ++ decimal most) (number_line most)))
      (hint word (hint_of p v (key_words a.call.op) word from)))

  no_thread : Has texts a 1 1 (no_thread_line texts a)
  unfolding no_thread_line
  no_thread =
      one texts a (codes "no live thread is at " ++ asked_thread_text texts a) (λ told names. one_line.thread_line texts a told names)

  live : (list : List ℕ) → Has texts a 1 1 (live_line texts list)
  unfolding live_line
  live [] = one texts a (codes "no thread is live") (λ told names. refl)
  live (first ∷ rest) =
      one texts a (codes "live threads:" ++ (threads_text texts (take threads_told (first ∷ rest)) ++ more_text (length (first ∷ rest))))
      (λ told names. one_line.live_threads_line texts told threads_told (first ∷ rest))

  not_ready : (state : ThreadState) → Has texts a 1 4 (not_ready_lines texts a state)
  not_ready state =
      two (codes "thread " ++ (asked_thread_text texts a ++ (codes " " ++ does_text texts state))) (codes "a call is made by a thread that is ready")
      (λ told names. one_line.thread_and texts a told names (codes " " ++ does_text texts state) (one_line.does_line texts told state)) (λ told names. refl)

  kind : (held : Held) (wanted : Kind) → Has texts a 1 4 (kind_lines texts a held wanted)
  kind held wanted =
      fact Invoked held (an_op a.call.op ++ (codes " is made by " ++ kind_text wanted))
      (λ told names. one_line.op_and a.call.op (codes " is made by " ++ kind_text wanted) (one_line.kind_line wanted))

  right : (held : Held) (needed : Right) → Has texts a 1 4 (right_lines texts a held needed)
  right held needed =
      fact Invoked held (an_op a.call.op ++ (codes " needs the right " ++ right_words needed))
      (λ told names. one_line.op_and a.call.op (codes " needs the right " ++ right_words needed) (one_line.right_line needed))

  children : (source : Held) (child : ℕ) → Has texts a 1 4 (children_lines texts a source child)
  children source child =
      three SourceIndex source (codes "it has children, the first of them in slot " ++ texts.slot child) (an_op a.call.op ++ codes " is made of an untyped capability only while it has no children")
      (λ told names. told.1 child) (λ told names. one_line.op_and a.call.op (codes " is made of an untyped capability only while it has no children") refl)

-- ---- each reason

counted : (texts : Texts) (p : ProfileName) (v : Shown) (a : AskedView) (reason : Reason) → Has texts a 1 4 (reason_lines texts p v a reason)
counted texts p v a NoThread =
    within texts a 2 2 1 4 (no_thread_line texts a ++ live_line texts (threads p v)) (omega arith) (omega arith)
    (both texts a 1 1 1 1 (no_thread_line texts a) (live_line texts (threads p v)) (no_thread texts a) (live texts a (threads p v)))
counted texts p v a (NotReady state) = not_ready texts a state
counted texts p v a (NotFound word from m) = not_found texts a p v word from m
counted texts p v a (NoDepth word from most) = no_depth texts a p v word from most
counted texts p v a (NoCapability slot wanted) = kind texts a (nothing_in slot) wanted
counted texts p v a (OtherKind found wanted) = kind texts a found wanted
counted texts p v a (NoRight found needed) = right texts a found needed
counted texts p v a (LongGuard word node size most) = fact texts a word node (guard_text a size (radix_of node.cap) most) (λ told names. one_line.guard_line texts a told names size (radix_of node.cap) most)
counted texts p v a (HasChildren source child) = children texts a source child
counted texts p v a (IsFull held) = fact texts a Index held (codes "the slot to fill has to be empty") (λ told names. refl)
counted texts p v a (IsEmpty slot) = fact texts a SourceIndex (nothing_in slot) (codes "the source has to be full") (λ told names. refl)
counted texts p v a (HasBadge held) = fact texts a SourceIndex held (badge_text a.call.op) (λ told names. one_line.badge_line a.call.op)
counted texts p v a (NotAllRights held) = fact texts a Index held (codes "a cancel_badged names an endpoint's capability with all four rights") (λ told names. refl)
counted texts p v a (NoSpace held) = fact texts a Root held (codes "a thread's capability space begins at a CNode's capability") (λ told names. refl)
counted texts p v a NoKind = single texts a (number_text a NoKind) (λ told names. one_line.number_text_line texts a told names NoKind)
counted texts p v a (NoSize below) = single texts a (number_text a (NoSize below)) (λ told names. one_line.number_text_line texts a told names (NoSize below))
counted texts p v a (TooLarge k bits most) = single texts a (number_text a (TooLarge k bits most)) (λ told names. one_line.number_text_line texts a told names (TooLarge k bits most))
counted texts p v a (TooSmall k least) = single texts a (number_text a (TooSmall k least)) (λ told names. one_line.number_text_line texts a told names (TooSmall k least))
counted texts p v a (NoCount most) = single texts a (number_text a (NoCount most)) (λ told names. one_line.number_text_line texts a told names (NoCount most))
counted texts p v a (NoNode word found) = fact texts a word found (retyped_text texts a (NoNode word found)) (λ told names. one_line.objects_line texts a told names (NoNode word found))
counted texts p v a (NoOffset word node) = fact texts a word node (retyped_text texts a (NoOffset word node)) (λ told names. one_line.objects_line texts a told names (NoOffset word node))
counted texts p v a (FewSlots word node) = fact texts a word node (retyped_text texts a (FewSlots word node)) (λ told names. one_line.objects_line texts a told names (FewSlots word node))
counted texts p v a (SomeFull word node number full) =
    fact texts a word node (retyped_text texts a (SomeFull word node number full)) (λ told names. one_line.objects_line texts a told names (SomeFull word node number full))
counted texts p v a (NoRoom untyped has_children begin bits room) =
    three texts a Invoked untyped (used_text untyped has_children begin) (retyped_text texts a (NoRoom untyped has_children begin bits room))
    (λ told names. one_line.used_line untyped has_children begin) (λ told names. one_line.objects_line texts a told names (NoRoom untyped has_children begin bits room))

pub reason_counted : (texts : Texts) (p : ProfileName) (v : Shown) (a : AskedView) (reason : Reason) → HasLines texts a 1 4 (reason_lines texts p v a reason)
reason_counted texts p v a reason =
    let h = counted texts p v a reason in
    record { lines = h.lines; is = h.is; apart = λ told names. All-from_recursion IsOneLine h.lines (h.apart told names); least = h.least; most = h.most }

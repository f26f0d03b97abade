-- What `==` of two answers, and of two calls that are left, tells: they are one.
use Rattle.std.proofs.Common.{rules, ◌≡◌, ℕ, ◌==◌, ◌&&◌, Bool, true, false, List, [], ◌∷◌, Option, None, Some, refl, ap, sym, ◌∙◌, arith}
use Rattle.std.proofs.lemmas.Bool.Decides.{nat_tests}
use mathlib.Core.Bool.{true≢false}
use mathlib.Core.Logic.{inl, inr}
use denote.Struct.Field.{Field, u64-field}
use denote.Struct.Values.{Values}
use denote.Enum.Declared.{Choice}
use denote.Enum.Compared.{Each, by}
use Rattle.cap_core.specs.declared.capability.Badge.{Badge}
use Rattle.cap_core.specs.declared.message.Message.{Message}
use Rattle.cap_core.specs.declared.refusal.Refusal.{Refusal}
use Rattle.kernel_abstract.specs.declared.call.Reply.{Reply}
use Rattle.kernel_abstract.specs.declared.call.ThreadState.{ThreadState}
use Rattle.kernel_abstract.specs.contracts.call.Reply as reply
use Rattle.kernel_abstract.specs.contracts.call.ThreadState as thread_state
use Rattle.cap_core.specs.contracts.capability.Badge as badge_type
use Rattle.cap_core.specs.contracts.message.Message as message_type
use Rattle.cap_core.specs.contracts.refusal.Refusal as refusal_type
use Rattle.cap_core.specs.contracts.capability.BadgePartialEq.TheImpl as badge_eq
use Rattle.cap_core.specs.contracts.message.MessagePartialEq.TheImpl as message_eq
use Rattle.cap_core.specs.contracts.refusal.RefusalPartialEq.TheImpl as refusal_eq
use Rattle.kernel_abstract.specs.contracts.call.ReplyPartialEq.TheImpl as reply_eq
use Rattle.kernel_abstract.specs.contracts.call.ThreadStatePartialEq.TheImpl as state_eq
use Rattle.std.specs.contracts.prelude.OptionPartialEq.TheImpl as option_eq
use Rattle.query_orders.specs.declared.answer.Answer.{Answer}
use Rattle.query_orders.specs.declared.left.LeftCall.{LeftCall}
use Rattle.query_orders.specs.contracts.answer.Answer as answer
use Rattle.query_orders.specs.contracts.answer.AnswerPartialEq.TheImpl as answer_eq
use Rattle.query_orders.specs.contracts.left.LeftCallPartialEq.TheImpl as left_eq

-- a test that passes no two values
pub record Exact (A : Type 0) : Type 0 where
  pub test : A → A → Bool
  pub one : (a b : A) → test a b ≡ true → a ≡ b

abbrev pub Exacts : List Field → Type 0
Exacts [] = Unit {0}
Exacts (F ∷ Fs) = Exact F.Value × Exacts Fs

-- all fields are tested, in order
abbrev pub tested : (Fs : List Field) → Exacts Fs → Values Fs → Values Fs → Bool
tested [] es x y = true
tested (F ∷ []) es x y = es.0.test x.0 y.0
tested (F ∷ G ∷ Fs) es x y = es.0.test x.0 y.0 && tested (G ∷ Fs) es.1 x.1 y.1

pub parts : (s t : Bool) → (s && t) ≡ true → (s ≡ true) × (t ≡ true)
parts true t p = (refl, p)
parts false t p = cc

pub fields : (Fs : List Field) (es : Exacts Fs) (x y : Values Fs) → tested Fs es x y ≡ true → x ≡ y
fields [] es x y e = refl
fields (F ∷ []) es x y e = λ i. (es.0.one x.0 y.0 e i, tt)
fields (F ∷ G ∷ Fs) es x y e =
    let p = parts (es.0.test x.0 y.0) (tested (G ∷ Fs) es.1 x.1 y.1) e in
    let rest = fields (G ∷ Fs) es.1 x.1 y.1 p.1 in
    λ i. (es.0.one x.0 y.0 p.0 i, rest i)

abbrev pub IsExact : (Fss : List (List Field)) → Each Bool Fss → Type 0
IsExact [] each = Unit {0}
IsExact (Fs ∷ Fss) each = ((x y : Values Fs) → each.0 x y ≡ true → x ≡ y) × IsExact Fss each.1

pub by_exact : (Fss : List (List Field)) (each : Each Bool Fss) (c d : Choice Fss) → by false false Fss each c d ≡ true → IsExact Fss each → c ≡ d
by_exact [] each c d e exact = absurd c
by_exact (Fs ∷ Fss) each (inl x) (inl y) e exact = ap inl (exact.0 x y e)
by_exact (Fs ∷ Fss) each (inl x) (inr d) e exact = absurd (true≢false (sym e))
by_exact (Fs ∷ Fss) each (inr c) (inl y) e exact = absurd (true≢false (sym e))
by_exact (Fs ∷ Fss) each (inr c) (inr d) e exact = ap inr (by_exact Fss each.1 c d e exact.1)

pub same_word : (a b : ℕ) → (a == b) ≡ true → a ≡ b
same_word a b e = grind (arith, nat_tests)

abbrev pub word : Exact ℕ
word = record { test = ◌==◌; one = same_word }

same_badge : (a b : Badge) → badge_eq.ghosts.eq a b ≡ true → a ≡ b
same_badge a b e = search rules

abbrev badge : Exact Badge
badge = record { test = badge_eq.ghosts.eq; one = same_badge }

pub same_message : (a b : Message) → message_eq.ghosts.eq a b ≡ true → a ≡ b
same_message a b e = search rules

abbrev pub message : Exact Message
message = record { test = message_eq.ghosts.eq; one = same_message }

same_refusal : (a b : Refusal) → refusal_eq.ghosts.eq a b ≡ true → a ≡ b
same_refusal a b e = search rules

abbrev refusal : Exact Refusal
refusal = record { test = refusal_eq.ghosts.eq; one = same_refusal }

same_reply : (a b : Reply) → reply_eq.ghosts.eq a b ≡ true → a ≡ b
same_reply a b e =
    sym (reply.enum.eta a)
    ∙ (ap reply.enum.make (by_exact reply.the_parts _ (reply.as_values a) (reply.as_values b) e (
      fields [] tt,
      (
        fields (u64-field ∷ u64-field ∷ u64-field ∷ badge_type.the_field ∷ message_type.the_field ∷ []) (word, (word, (word, (badge, (message, tt))))),
        (
          fields [] tt,
          (
            fields [] tt,
            (
              fields [] tt,
              (
                fields (refusal_type.the_field ∷ []) (refusal, tt),
                tt,
              ),
            ),
          ),
        ),
      ),
    )) ∙ reply.enum.eta b)

abbrev a_reply : Exact Reply
a_reply = record { test = reply_eq.ghosts.eq; one = same_reply }

pub same_answer : (a b : Answer) → answer_eq.ghosts.eq a b ≡ true → a ≡ b
same_answer a b e =
    sym (answer.enum.eta a)
    ∙ (ap answer.enum.make (by_exact answer.the_parts _ (answer.as_values a) (answer.as_values b) e (
      fields (reply.the_field ∷ []) (a_reply, tt),
      (
        fields (reply.the_field ∷ []) (a_reply, tt),
        (
          fields [] tt,
          (
            fields [] tt,
            (
              fields [] tt,
              tt,
            ),
          ),
        ),
      ),
    )) ∙ answer.enum.eta b)

same_state : (a b : ThreadState) → state_eq.ghosts.eq a b ≡ true → a ≡ b
same_state a b e =
    sym (thread_state.enum.eta a)
    ∙ (ap thread_state.enum.make (by_exact thread_state.the_parts _ (thread_state.as_values a) (thread_state.as_values b) e (
      fields [] tt,
      (
        fields [] tt,
        (
          fields (u64-field ∷ []) (word, tt),
          (
            fields (u64-field ∷ []) (word, tt),
            tt,
          ),
        ),
      ),
    )) ∙ thread_state.enum.eta b)

abbrev states_test : Option ThreadState → Option ThreadState → Bool
states_test = (option_eq.ghosts thread_state.the_row state_eq.ghosts state_eq.dict).eq

same_states : (a b : Option ThreadState) → states_test a b ≡ true → a ≡ b
same_states None None e = refl
same_states None (Some b) e = absurd (true≢false (sym e))
same_states (Some a) None e = absurd (true≢false (sym e))
same_states (Some a) (Some b) e = ap (λ (s : ThreadState). Some s) (same_state a b e)

pub same_left : (a b : LeftCall) → left_eq.ghosts.eq a b ≡ true → a ≡ b
same_left a b e =
    let q = parts (a.client == b.client) _ e in
    let r = parts (a.place == b.place) _ q.1 in
    let t = parts (a.thread == b.thread) _ r.1 in
    λ i. record {
      client = same_word a.client b.client q.0 i;
      place = same_word a.place b.place r.0 i;
      thread = same_word a.thread b.thread t.0 i;
      state = same_states a.state b.state t.1 i;
    }

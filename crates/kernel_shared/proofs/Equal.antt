-- What `==` of two entries tells: they are one.
use Rattle.std.proofs.Common.{rules, ◌≡◌, ℕ, ◌==◌, ◌&&◌, Bool, true, false, List, [], ◌∷◌, refl, ap, sym, ◌∙◌, arith}
use Rattle.std.proofs.lemmas.Bool.Decides.{nat_tests}
use mathlib.Core.Bool.{true≢false}
use mathlib.Core.Logic.{inl, inr}
use denote.Struct.Field.{Field, u64-field}
use denote.Struct.Values.{Values}
use denote.Enum.Declared.{Choice}
use denote.Enum.Compared.{Each, by}
use Rattle.cap_core.specs.declared.rights.Rights.{Rights}
use Rattle.cap_core.specs.declared.capability.Badge.{Badge}
use Rattle.cap_core.specs.declared.message.Message.{Message}
use Rattle.cap_core.specs.declared.refusal.Refusal.{Refusal}
use Rattle.kernel_abstract.specs.declared.call.Call.{Call}
use Rattle.kernel_abstract.specs.declared.call.Op.{Op}
use Rattle.kernel_abstract.specs.declared.call.Reply.{Reply}
use Rattle.kernel_abstract.specs.contracts.call.Op as op
use Rattle.kernel_abstract.specs.contracts.call.Reply as reply
use Rattle.cap_core.specs.contracts.rights.Rights as rights_type
use Rattle.cap_core.specs.contracts.capability.Badge as badge_type
use Rattle.cap_core.specs.contracts.message.Message as message_type
use Rattle.cap_core.specs.contracts.refusal.Refusal as refusal_type
use Rattle.cap_core.specs.contracts.rights.RightsPartialEq.TheImpl as rights_eq
use Rattle.cap_core.specs.contracts.capability.BadgePartialEq.TheImpl as badge_eq
use Rattle.cap_core.specs.contracts.message.MessagePartialEq.TheImpl as message_eq
use Rattle.cap_core.specs.contracts.refusal.RefusalPartialEq.TheImpl as refusal_eq
use Rattle.kernel_abstract.specs.contracts.call.OpPartialEq.TheImpl as op_eq
use Rattle.kernel_abstract.specs.contracts.call.CallPartialEq.TheImpl as call_eq
use Rattle.kernel_abstract.specs.contracts.call.ReplyPartialEq.TheImpl as reply_eq
use Rattle.kernel_shared.specs.declared.entry.Entry.{Entry}
use Rattle.kernel_shared.specs.contracts.entry.EntryPartialEq.TheImpl as entry_eq

-- a test that passes no two values
pub record Exact (A : Type 0) : Type 0 where
  pub test : A → A → Bool
  pub one : (a b : A) → test a b ≡ true → a ≡ b

abbrev pub Exacts : List Field → Type 0
Exacts [] = Unit {0}
Exacts (F ∷ Fs) = Exact F.Value × Exacts Fs

-- all fields are tested, in order
abbrev pub tested : (Fs : List Field) → Exacts Fs → Values Fs → Values Fs → Bool
tested [] es x y = true
tested (F ∷ []) es x y = es.0.test x.0 y.0
tested (F ∷ G ∷ Fs) es x y = es.0.test x.0 y.0 && tested (G ∷ Fs) es.1 x.1 y.1

parts : (s t : Bool) → (s && t) ≡ true → (s ≡ true) × (t ≡ true)
parts true t p = (refl, p)
parts false t p = cc

pub fields : (Fs : List Field) (es : Exacts Fs) (x y : Values Fs) → tested Fs es x y ≡ true → x ≡ y
fields [] es x y e = refl
fields (F ∷ []) es x y e = λ i. (es.0.one x.0 y.0 e i, tt)
fields (F ∷ G ∷ Fs) es x y e =
    let p = parts (es.0.test x.0 y.0) (tested (G ∷ Fs) es.1 x.1 y.1) e in
    let rest = fields (G ∷ Fs) es.1 x.1 y.1 p.1 in
    λ i. (es.0.one x.0 y.0 p.0 i, rest i)

abbrev pub IsExact : (Fss : List (List Field)) → Each Bool Fss → Type 0
IsExact [] each = Unit {0}
IsExact (Fs ∷ Fss) each = ((x y : Values Fs) → each.0 x y ≡ true → x ≡ y) × IsExact Fss each.1

pub by_exact : (Fss : List (List Field)) (each : Each Bool Fss) (c d : Choice Fss) → by false false Fss each c d ≡ true → IsExact Fss each → c ≡ d
by_exact [] each c d e exact = absurd c
by_exact (Fs ∷ Fss) each (inl x) (inl y) e exact = ap inl (exact.0 x y e)
by_exact (Fs ∷ Fss) each (inl x) (inr d) e exact = absurd (true≢false (sym e))
by_exact (Fs ∷ Fss) each (inr c) (inl y) e exact = absurd (true≢false (sym e))
by_exact (Fs ∷ Fss) each (inr c) (inr d) e exact = ap inr (by_exact Fss each.1 c d e exact.1)

same_word : (a b : ℕ) → (a == b) ≡ true → a ≡ b
same_word a b e = grind (arith, nat_tests)

abbrev word : Exact ℕ
word = record { test = ◌==◌; one = same_word }

same_rights : (a b : Rights) → rights_eq.ghosts.eq a b ≡ true → a ≡ b
same_rights a b e = search rules

abbrev rights : Exact Rights
rights = record { test = rights_eq.ghosts.eq; one = same_rights }

same_badge : (a b : Badge) → badge_eq.ghosts.eq a b ≡ true → a ≡ b
same_badge a b e = search rules

abbrev badge : Exact Badge
badge = record { test = badge_eq.ghosts.eq; one = same_badge }

same_message : (a b : Message) → message_eq.ghosts.eq a b ≡ true → a ≡ b
same_message a b e = search rules

abbrev message : Exact Message
message = record { test = message_eq.ghosts.eq; one = same_message }

same_refusal : (a b : Refusal) → refusal_eq.ghosts.eq a b ≡ true → a ≡ b
same_refusal a b e = search rules

abbrev refusal : Exact Refusal
refusal = record { test = refusal_eq.ghosts.eq; one = same_refusal }

same_op : (a b : Op) → op_eq.ghosts.eq a b ≡ true → a ≡ b
same_op a b e =
    sym (op.enum.eta a)
    ∙ (ap op.enum.make (by_exact op.the_parts _ (op.as_values a) (op.as_values b) e (
      fields (u64-field ∷ u64-field ∷ u64-field ∷ u64-field ∷ u64-field ∷ u64-field ∷ u64-field ∷ u64-field ∷ []) (word, (word, (word, (word, (word, (word, (word, (word, tt)))))))),
      (
        fields (u64-field ∷ u64-field ∷ u64-field ∷ u64-field ∷ u64-field ∷ u64-field ∷ rights_type.the_field ∷ []) (word, (word, (word, (word, (word, (word, (rights, tt))))))),
        (
          fields (u64-field ∷ u64-field ∷ u64-field ∷ u64-field ∷ u64-field ∷ u64-field ∷ rights_type.the_field ∷ u64-field ∷ []) (word, (word, (word, (word, (word, (word, (rights, (word, tt)))))))),
          (
            fields (u64-field ∷ u64-field ∷ u64-field ∷ u64-field ∷ u64-field ∷ u64-field ∷ []) (word, (word, (word, (word, (word, (word, tt)))))),
            (
              fields (u64-field ∷ u64-field ∷ u64-field ∷ u64-field ∷ u64-field ∷ u64-field ∷ u64-field ∷ []) (word, (word, (word, (word, (word, (word, (word, tt))))))),
              (
                fields (u64-field ∷ u64-field ∷ u64-field ∷ []) (word, (word, (word, tt))),
                (
                  fields (u64-field ∷ u64-field ∷ u64-field ∷ []) (word, (word, (word, tt))),
                  (
                    fields (u64-field ∷ u64-field ∷ u64-field ∷ []) (word, (word, (word, tt))),
                    (
                      fields (u64-field ∷ message_type.the_field ∷ []) (word, (message, tt)),
                      (
                        fields (u64-field ∷ message_type.the_field ∷ []) (word, (message, tt)),
                        (
                          fields (u64-field ∷ []) (word, tt),
                          (
                            fields (u64-field ∷ []) (word, tt),
                            (
                              fields (u64-field ∷ u64-field ∷ u64-field ∷ []) (word, (word, (word, tt))),
                              (
                                fields (u64-field ∷ []) (word, tt),
                                (
                                  fields (u64-field ∷ []) (word, tt),
                                  tt,
                                ),
                              ),
                            ),
                          ),
                        ),
                      ),
                    ),
                  ),
                ),
              ),
            ),
          ),
        ),
      ),
    )) ∙ op.enum.eta b)

same_reply : (a b : Reply) → reply_eq.ghosts.eq a b ≡ true → a ≡ b
same_reply a b e =
    sym (reply.enum.eta a)
    ∙ (ap reply.enum.make (by_exact reply.the_parts _ (reply.as_values a) (reply.as_values b) e (
      fields [] tt,
      (
        fields (u64-field ∷ u64-field ∷ u64-field ∷ badge_type.the_field ∷ message_type.the_field ∷ []) (word, (word, (word, (badge, (message, tt))))),
        (
          fields [] tt,
          (
            fields [] tt,
            (
              fields [] tt,
              (
                fields (refusal_type.the_field ∷ []) (refusal, tt),
                tt,
              ),
            ),
          ),
        ),
      ),
    )) ∙ reply.enum.eta b)

same_call : (a b : Call) → call_eq.ghosts.eq a b ≡ true → a ≡ b
same_call a b e =
    let p = parts (a.thread == b.thread) (op_eq.ghosts.eq a.op b.op) e in
    λ i. record { thread = same_word a.thread b.thread p.0 i; op = same_op a.op b.op p.1 i }

pub same_entry : (a b : Entry) → entry_eq.ghosts.eq a b ≡ true → a ≡ b
same_entry a b e =
    let p = parts (a.client == b.client) _ e in
    let q = parts (a.number == b.number) _ p.1 in
    let r = parts (call_eq.ghosts.eq a.call b.call) (reply_eq.ghosts.eq a.reply b.reply) q.1 in
    λ i. record {
      client = same_word a.client b.client p.0 i;
      number = same_word a.number b.number q.0 i;
      call = same_call a.call b.call r.0 i;
      reply = same_reply a.reply b.reply r.1 i;
    }

-- Calls that are found equal are one.
use Rattle.std.proofs.Common.{rules, ◌≡◌, ◌==◌, true, List, [], ◌∷◌, refl, ap, sym, ◌∙◌}
use Rattle.std.specs.Cmp.Lexicographic.{pointwise}
use mathlib.Core.Bool.{true≢false}
use denote.Struct.Field.{Field, u64-field}
use Rattle.cap_core.specs.declared.rights.Rights.{Rights}
use Rattle.cap_core.specs.contracts.message.Message as message_type
use Rattle.cap_core.specs.contracts.rights.Rights as rights_type
use Rattle.cap_core.specs.contracts.rights.RightsPartialEq.TheImpl as rights_eq
use Rattle.kernel_abstract.specs.declared.call.Call.{Call}
use Rattle.kernel_abstract.specs.declared.call.Op.{Op}
use Rattle.kernel_abstract.specs.contracts.call.Op as op
use Rattle.kernel_abstract.specs.contracts.call.OpPartialEq.TheImpl as op_eq
use Rattle.kernel_abstract.specs.contracts.call.CallPartialEq.TheImpl as call_eq
use Rattle.query_orders.proofs.Tests.{Exact, Exacts, fields, by_exact, parts, same_word, word, message}

same_rights : (a b : Rights) → rights_eq.ghosts.eq a b ≡ true → a ≡ b
same_rights a b e = search rules

abbrev rights : Exact Rights
rights = record { test = rights_eq.ghosts.eq; one = same_rights }

abbrev one_word : List Field
one_word = u64-field ∷ []

abbrev three_words : List Field
three_words = u64-field ∷ u64-field ∷ u64-field ∷ []

abbrev six_words : List Field
six_words = u64-field ∷ u64-field ∷ u64-field ∷ three_words

abbrev one_exact : Exacts one_word
one_exact = (word, tt)

abbrev three_exact : Exacts three_words
three_exact = (word, (word, (word, tt)))

abbrev six_exact : Exacts six_words
six_exact = (word, (word, (word, three_exact)))

same_op : (a b : Op) → op_eq.ghosts.eq a b ≡ true → a ≡ b
same_op a b e =
    sym (op.enum.eta a)
    ∙ (ap op.enum.make (by_exact op.the_parts _ (op.as_values a) (op.as_values b) e (
      fields (u64-field ∷ u64-field ∷ six_words) (word, (word, six_exact)),
      (
        fields (u64-field ∷ u64-field ∷ u64-field ∷ u64-field ∷ u64-field ∷ u64-field ∷ rights_type.the_field ∷ [])
            (word, (word, (word, (word, (word, (word, (rights, tt))))))),
        (
          fields (u64-field ∷ u64-field ∷ u64-field ∷ u64-field ∷ u64-field ∷ u64-field ∷ rights_type.the_field ∷ one_word)
              (word, (word, (word, (word, (word, (word, (rights, one_exact))))))),
          (
            fields six_words six_exact,
            (
              fields (u64-field ∷ six_words) (word, six_exact),
              (
                fields three_words three_exact,
                (
                  fields three_words three_exact,
                  (
                    fields three_words three_exact,
                    (
                      fields (u64-field ∷ message_type.the_field ∷ []) (word, (message, tt)),
                      (
                        fields (u64-field ∷ message_type.the_field ∷ []) (word, (message, tt)),
                        (
                          fields one_word one_exact,
                          (
                            fields one_word one_exact,
                            (
                              fields three_words three_exact,
                              (
                                fields one_word one_exact,
                                (
                                  fields one_word one_exact,
                                  tt,
                                ),
                              ),
                            ),
                          ),
                        ),
                      ),
                    ),
                  ),
                ),
              ),
            ),
          ),
        ),
      ),
    )) ∙ op.enum.eta b)

pub same_call : (a b : Call) → call_eq.ghosts.eq a b ≡ true → a ≡ b
same_call a b e =
    let q = parts (a.thread == b.thread) _ e in
    λ i. record { thread = same_word a.thread b.thread q.0 i; op = same_op a.op b.op q.1 i }

pub same_calls : (some others : List Call) → pointwise call_eq.ghosts.eq some others ≡ true → some ≡ others
same_calls [] [] e = refl
same_calls [] (b ∷ others) e = absurd (true≢false (sym e))
same_calls (a ∷ some) [] e = absurd (true≢false (sym e))
same_calls (a ∷ some) (b ∷ others) e =
    let q = parts (call_eq.ghosts.eq a b) (pointwise call_eq.ghosts.eq some others) e in
    λ i. same_call a b q.0 i ∷ same_calls some others q.1 i

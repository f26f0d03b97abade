-- An operation that was read without names is read the same with names, whatever the call's thread is.
use Rattle.std.proofs.Common.{◌≡◌, ℕ, ◌^◌, codes, List, [], ◌∷◌, Bool, true, false, cond, ◌==◌, ℤ, pos, negsuc, Option, Some, None, Ok, refl}
use Rattle.toml.specs.Data.{Data, Members, get_member, same_key, as_array, as_integer, as_str}
use Rattle.cap_core.specs.declared.profile.ProfileName.{ProfileName}
use Rattle.cap_core.specs.declared.limits.TheConstants.{MAX_MESSAGE_WORDS}
use Rattle.cap_core.specs.Numbers.{word_bits}
use Rattle.cap_core.specs.Rights.{all_rights}
use Rattle.setup_values.specs.declared.operations.OpName.{OpName}
use Rattle.setup_values.specs.declared.operations.OpName.TheVariants.{Retype, CapCopy, CapMint, CapMove, CapMutate, CapDelete, CapRevoke, CancelBadged, Send, NbSend, SetSpace}
use Rattle.setup_values.specs.Names.{Names, word_named}
use Rattle.setup_values.specs.Kinds.{natural_in, spelt, or_other, word, words, filled, label, rights, array_in, below}
use Rattle.setup_format.specs.declared.fault.Place.{Place}
use Rattle.setup_format.specs.Tables.{required, optional}
use Rattle.setup_format.specs.Operations.{operation_at, retype_at, slots_at, rights_at, copy_at, mint_at, move_at, mutate_at, slot_at, message_at, set_space_at}
use Rattle.setup_migrate.proofs.Law.Follows.{Follows, same, after, required_follows, optional_follows, each_follows}
use Rattle.setup_format.proofs.Grammar.Parts.{no_answer}

-- ---- a word

spelt_at : (b : Bool) (named other : Option ℕ) → Follows (or_other (cond b None other)) (or_other (cond b named other))
spelt_at true named other = record { follows = λ x e. no_answer _ x e }
spelt_at false named other = same _

spelt_follows : (names : Names) (text : List ℕ) → Follows (or_other (spelt [] text)) (or_other (spelt names text))
spelt_follows names [] = same _
spelt_follows names (c ∷ cs) = spelt_at (c == 64) (word_named names cs) _

natural_follows : (names : Names) (n : Option ℤ) (text : Option (List ℕ)) → Follows (natural_in [] n text) (natural_in names n text)
natural_follows names (Some (pos n)) text = same _
natural_follows names (Some (negsuc n)) text = same _
natural_follows names None (Some text) = spelt_follows names text
natural_follows names None None = same _

pub word_follows : (p : ProfileName) (names : Names) (d : Data) → Follows (word p [] d) (word p names d)
word_follows p names d = after (natural_follows names (as_integer d) (as_str d)) (λ n. same (below (2 ^ word_bits p) n))

words_follows : (p : ProfileName) (names : Names) (d : Data) → Follows (words p [] d) (words p names d)
words_follows p names d =
    after (after (same (array_in 0 MAX_MESSAGE_WORDS (as_array d))) (λ xs. each_follows (λ _. word p []) (λ _. word p names) 0 xs (λ _. word_follows p names))) (λ ws. same (Ok (filled ws)))

-- ---- an operation's keys

-- a table that holds at each key but one what another table holds
pub record AgreesPast (k : List ℕ) (t u : Members) : Type 0 where
  pub agrees : (j : List ℕ) → same_key j k ≡ false → get_member j u ≡ get_member j t

module _ (p : ProfileName) (names : Names) (place : Place) (t u : Members) (a : AgreesPast (codes "thread") t u) where
  need : (key : List ℕ) → same_key key (codes "thread") ≡ false → Follows (required place t key (word p [])) (required place u key (word p names))
  need key apart = required_follows place t u key (word p []) (word p names) (a.agrees key apart) (word_follows p names)

  may : (key : List ℕ) (default : ℕ) → same_key key (codes "thread") ≡ false → Follows (optional place t key default (word p [])) (optional place u key default (word p names))
  may key default apart = optional_follows place t u key default (word p []) (word p names) (a.agrees key apart) (word_follows p names)

  retype_follows : Follows (retype_at p [] place t) (retype_at p names place u)
  unfolding retype_at
  retype_follows =
      after (need (codes "cap") refl) (λ cap. after (need (codes "kind") refl) (λ kind. after (may (codes "size_bits") 0 refl) (λ size_bits. after (need (codes "root") refl) (λ root.
      after (may (codes "index") 0 refl) (λ index. after (may (codes "depth") 0 refl) (λ depth. after (need (codes "offset") refl) (λ offset. after (need (codes "count") refl) (λ count. same _))))))))

  slots_follow : Follows (slots_at p [] place t) (slots_at p names place u)
  unfolding slots_at
  slots_follow =
      after (need (codes "cap") refl) (λ cap. after (need (codes "index") refl) (λ index. after (may (codes "depth") (word_bits p) refl) (λ depth.
      after (may (codes "src_root") cap refl) (λ src_root. after (need (codes "src_index") refl) (λ src_index. after (may (codes "src_depth") (word_bits p) refl) (λ src_depth. same _))))))

  rights_follow : Follows (rights_at p [] place t) (rights_at p names place u)
  rights_follow = optional_follows place t u (codes "rights") all_rights rights rights (a.agrees (codes "rights") refl) (λ d. same (rights d))

  copy_follows : Follows (copy_at p [] place t) (copy_at p names place u)
  unfolding copy_at
  copy_follows = after slots_follow (λ w. after rights_follow (λ r. same _))

  mint_follows : Follows (mint_at p [] place t) (mint_at p names place u)
  unfolding mint_at
  mint_follows = after slots_follow (λ w. after rights_follow (λ r. after (need (codes "word") refl) (λ value. same _)))

  move_follows : Follows (move_at p [] place t) (move_at p names place u)
  unfolding move_at
  move_follows = after slots_follow (λ w. same _)

  mutate_follows : Follows (mutate_at p [] place t) (mutate_at p names place u)
  unfolding mutate_at
  mutate_follows = after slots_follow (λ w. after (need (codes "word") refl) (λ value. same _))

  slot_follows : Follows (slot_at p [] place t) (slot_at p names place u)
  unfolding slot_at
  slot_follows = after (need (codes "cap") refl) (λ cap. after (need (codes "index") refl) (λ index. after (may (codes "depth") (word_bits p) refl) (λ depth. same _)))

  message_follows : Follows (message_at p [] place t) (message_at p names place u)
  unfolding message_at
  message_follows =
      after (need (codes "cap") refl) (λ cap.
      after (optional_follows place t u (codes "label") 0 (label p) (label p) (a.agrees (codes "label") refl) (λ d. same (label p d))) (λ l.
      after (optional_follows place t u (codes "words") (filled []) (words p []) (words p names) (a.agrees (codes "words") refl) (words_follows p names)) (λ ws. same _)))

  set_space_follows : Follows (set_space_at p [] place t) (set_space_at p names place u)
  unfolding set_space_at
  set_space_follows = after (need (codes "cap") refl) (λ cap. after (need (codes "root") refl) (λ root. after (may (codes "word") 0 refl) (λ value. same _)))

  pub operation_follows : (op : OpName) → Follows (operation_at p [] place t op) (operation_at p names place u op)
  operation_follows Retype = retype_follows
  operation_follows CapCopy = copy_follows
  operation_follows CapMint = mint_follows
  operation_follows CapMove = move_follows
  operation_follows CapMutate = mutate_follows
  operation_follows CapDelete = after slot_follows (λ w. same _)
  operation_follows CapRevoke = after slot_follows (λ w. same _)
  operation_follows CancelBadged = after slot_follows (λ w. same _)
  operation_follows Send = after message_follows (λ w. same _)
  operation_follows NbSend = after message_follows (λ w. same _)
  operation_follows SetSpace = set_space_follows
  operation_follows op = after (need (codes "cap") refl) (λ cap. same _)

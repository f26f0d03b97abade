-- An operation is read the same of a call that is another one in turn and has another expectation.
use Rattle.std.proofs.Common.{◌≡◌, ℕ, codes, List, [], false, Result, Ok, Err, refl}
use Rattle.toml.specs.Data.{Data, Members, get_member, same_key}
use Rattle.cap_core.specs.declared.profile.ProfileName.{ProfileName}
use Rattle.cap_core.specs.Numbers.{word_bits}
use Rattle.cap_core.specs.Rights.{all_rights}
use Rattle.setup_values.specs.declared.operations.OpName.{OpName}
use Rattle.setup_values.specs.declared.operations.OpName.TheVariants.{Retype, CapCopy, CapMint, CapMove, CapMutate, CapDelete, CapRevoke, CancelBadged, Send, NbSend, SetSpace}
use Rattle.setup_values.specs.declared.values.Wrong.{Wrong}
use Rattle.setup_values.specs.Names.{Names}
use Rattle.setup_values.specs.Kinds.{word, words, filled, label, rights}
use Rattle.setup_format.specs.declared.fault.Place.{Place}
use Rattle.setup_format.specs.Tables.{required, optional, needed, given_or, at_key}
use Rattle.setup_format.specs.Operations.{operation_at, retype_at, slots_at, rights_at, copy_at, mint_at, move_at, mutate_at, slot_at, message_at, set_space_at}
use Rattle.setup_format.proofs.Grammar.Parts.{no_answer}
use Rattle.setup_migrate.proofs.Law.Follows.{Follows, same, after}
use Rattle.setup_migrate.proofs.Law.Operations.{AgreesPast}

-- what is read at a key does not depend on the place of the table
moved : {A : Type 0} (place place' : Place) (key : List ℕ) (r : Result A Wrong) → Follows (at_key place key r) (at_key place' key r)
moved place place' key (Ok x) = same _
moved place place' key (Err wrong) = record { follows = λ y e. no_answer _ y e }

-- at a key where both tables hold the same
pub required_moved : {A : Type 0} (place place' : Place) (t u : Members) (key : List ℕ) (kind : Data → Result A Wrong) → get_member key u ≡ get_member key t
    → Follows (required place t key kind) (required place' u key kind)
required_moved place place' t u key kind e = rw e (moved place place' key (needed kind (get_member key t)))

pub optional_moved : {A : Type 0} (place place' : Place) (t u : Members) (key : List ℕ) (default : A) (kind : Data → Result A Wrong) → get_member key u ≡ get_member key t
    → Follows (optional place t key default kind) (optional place' u key default kind)
optional_moved place place' t u key default kind e = rw e (moved place place' key (given_or default kind (get_member key t)))

module _ (p : ProfileName) (names : Names) (place place' : Place) (t u : Members) (a : AgreesPast (codes "expect") t u) where
  need : (key : List ℕ) → same_key key (codes "expect") ≡ false → Follows (required place t key (word p names)) (required place' u key (word p names))
  need key apart = required_moved place place' t u key (word p names) (a.agrees key apart)

  may : (key : List ℕ) (default : ℕ) → same_key key (codes "expect") ≡ false → Follows (optional place t key default (word p names)) (optional place' u key default (word p names))
  may key default apart = optional_moved place place' t u key default (word p names) (a.agrees key apart)

  retype_follows : Follows (retype_at p names place t) (retype_at p names place' u)
  unfolding retype_at
  retype_follows =
      after (need (codes "cap") refl) (λ cap. after (need (codes "kind") refl) (λ kind. after (may (codes "size_bits") 0 refl) (λ size_bits. after (need (codes "root") refl) (λ root.
      after (may (codes "index") 0 refl) (λ index. after (may (codes "depth") 0 refl) (λ depth. after (need (codes "offset") refl) (λ offset. after (need (codes "count") refl) (λ count. same _))))))))

  slots_follow : Follows (slots_at p names place t) (slots_at p names place' u)
  unfolding slots_at
  slots_follow =
      after (need (codes "cap") refl) (λ cap. after (need (codes "index") refl) (λ index. after (may (codes "depth") (word_bits p) refl) (λ depth.
      after (may (codes "src_root") cap refl) (λ src_root. after (need (codes "src_index") refl) (λ src_index. after (may (codes "src_depth") (word_bits p) refl) (λ src_depth. same _))))))

  rights_follow : Follows (rights_at p names place t) (rights_at p names place' u)
  rights_follow = optional_moved place place' t u (codes "rights") all_rights rights (a.agrees (codes "rights") refl)

  copy_follows : Follows (copy_at p names place t) (copy_at p names place' u)
  unfolding copy_at
  copy_follows = after slots_follow (λ w. after rights_follow (λ r. same _))

  mint_follows : Follows (mint_at p names place t) (mint_at p names place' u)
  unfolding mint_at
  mint_follows = after slots_follow (λ w. after rights_follow (λ r. after (need (codes "word") refl) (λ value. same _)))

  move_follows : Follows (move_at p names place t) (move_at p names place' u)
  unfolding move_at
  move_follows = after slots_follow (λ w. same _)

  mutate_follows : Follows (mutate_at p names place t) (mutate_at p names place' u)
  unfolding mutate_at
  mutate_follows = after slots_follow (λ w. after (need (codes "word") refl) (λ value. same _))

  slot_follows : Follows (slot_at p names place t) (slot_at p names place' u)
  unfolding slot_at
  slot_follows = after (need (codes "cap") refl) (λ cap. after (need (codes "index") refl) (λ index. after (may (codes "depth") (word_bits p) refl) (λ depth. same _)))

  message_follows : Follows (message_at p names place t) (message_at p names place' u)
  unfolding message_at
  message_follows =
      after (need (codes "cap") refl) (λ cap.
      after (optional_moved place place' t u (codes "label") 0 (label p) (a.agrees (codes "label") refl)) (λ l.
      after (optional_moved place place' t u (codes "words") (filled []) (words p names) (a.agrees (codes "words") refl)) (λ ws. same _)))

  set_space_follows : Follows (set_space_at p names place t) (set_space_at p names place' u)
  unfolding set_space_at
  set_space_follows = after (need (codes "cap") refl) (λ cap. after (need (codes "root") refl) (λ root. after (may (codes "word") 0 refl) (λ value. same _)))

  pub operation_follows : (op : OpName) → Follows (operation_at p names place t op) (operation_at p names place' u op)
  operation_follows Retype = retype_follows
  operation_follows CapCopy = copy_follows
  operation_follows CapMint = mint_follows
  operation_follows CapMove = move_follows
  operation_follows CapMutate = mutate_follows
  operation_follows CapDelete = after slot_follows (λ w. same _)
  operation_follows CapRevoke = after slot_follows (λ w. same _)
  operation_follows CancelBadged = after slot_follows (λ w. same _)
  operation_follows Send = after message_follows (λ w. same _)
  operation_follows NbSend = after message_follows (λ w. same _)
  operation_follows SetSpace = set_space_follows
  operation_follows op = after (need (codes "cap") refl) (λ cap. same _)

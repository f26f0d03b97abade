-- The names that a plan gives: each may stand as a name, its word fits, and a boot thread's stands for its address.
use Rattle.std.proofs.Common.{◌≡◌, ℕ, zero, suc, ◌+◌, ◌^◌, ◌<◌, ◌≤◌, Bool, true, ◌==◌, codes, pos, ◌++◌, length, find, Some, option_map, refl, ap, ◌∙◌, inl, inr, arith}
use Rattle.std.proofs.lemmas.Bool.{cases_Bool}
use Rattle.std.proofs.lemmas.Bool.Decides.{nat_tests}
use Rattle.std.proofs.lemmas.Option.{none-some, same_Some}
use Rattle.std.proofs.Math.Nat.{pow-le-pow_right}
use Rattle.std.specs.Fmt.{decimal}
use Rattle.std.specs.List.{range_with_len}
use Rattle.toml.specs.Data.{integer, Members, no_members, get_member}
use Rattle.cap_core.specs.declared.profile.ProfileName.{ProfileName}
use Rattle.cap_core.specs.declared.profile.ProfileName.TheVariants.{Wide, Narrow}
use Rattle.cap_core.specs.declared.limits.TheConstants.{MAX_MEMORY_BITS}
use Rattle.cap_core.specs.Numbers.{word_bits, tcb_bits}
use Rattle.kernel_abstract.specs.Plan.{Plan, IsPlan, tcb_place, boot_end}
use Rattle.kernel_abstract.proofs.Boot.Places.{tcb_fits}
use Rattle.kernel_abstract.proofs.Boot.SoundPlans.{objects_within}
use Rattle.setup_values.specs.Names.{word_named}
use Rattle.setup_migrate.specs.Migration.{with_words, boot_names, boot_thread_at}
use Rattle.setup_migrate.proofs.Law.Names.{AreNamed, AllNamed, all_named-append, all_named-numbered, with_words-append, named-with_words, names_read, word_in, word_named_read, get_numbered}
use Rattle.setup_migrate.proofs.Law.Calls.{NamesThreads}

-- ---- the words

-- the threads' addresses lie within the memory
pub threads_within : (p : ProfileName) (plan : Plan) → IsPlan p plan → tcb_place p plan plan.threads ≤ 2 ^ MAX_MEMORY_BITS
threads_within p plan h =
    let all : boot_end p plan ≤ 2 ^ plan.memory_bits = objects_within p plan h in
    let memory : 2 ^ plan.memory_bits ≤ 2 ^ MAX_MEMORY_BITS = pow-le-pow_right {n = 2} (omega arith) {i = plan.memory_bits} {j = MAX_MEMORY_BITS} h.limits.sizes.memory_most in
    omega arith

word_least : (p : ProfileName) → 2 ^ MAX_MEMORY_BITS < 2 ^ word_bits p
word_least Wide = omega arith
word_least Narrow = omega arith

slot_fits : (p : ProfileName) (n : ℕ) → n < 1000 → n < 2 ^ word_bits p
slot_fits Wide n h = omega arith
slot_fits Narrow n h = omega arith

thread_fits : (p : ProfileName) (plan : Plan) (i : ℕ) → IsPlan p plan → i < plan.threads → tcb_place p plan i < 2 ^ word_bits p
thread_fits p plan i h lt =
    let below : tcb_place p plan i + 2 ^ tcb_bits p ≤ tcb_place p plan plan.threads = tcb_fits p plan i lt in
    let within = threads_within p plan h in
    let word = word_least p in
    omega arith

-- ---- the names

pub all_named : (p : ProfileName) (plan : Plan) → IsPlan p plan → AllNamed p (boot_names p plan)
all_named p plan h =
    let limits = h.limits in
    all_named-append p _ _ (all_named-numbered p (codes "untyped_") (λ k. 2 + plan.threads + plan.endpoints + k) 0 (length plan.untypeds) (omega arith) (omega arith) refl (omega arith) (λ k lt. slot_fits p _ (omega arith)))
    (all_named-append p _ _ (all_named-numbered p (codes "ep_") (λ j. 2 + plan.threads + j) 0 plan.endpoints (omega arith) (omega arith) refl (omega arith) (λ j lt. slot_fits p _ (omega arith)))
    (all_named-append p _ _ (all_named-numbered p (codes "tcb_") (λ i. 2 + i) 0 plan.threads (omega arith) (omega arith) refl (omega arith) (λ i lt. slot_fits p _ (omega arith)))
    (all_named-numbered p (codes "thread_") (tcb_place p plan) 0 plan.threads (omega arith) (omega arith) refl (omega arith) (λ i lt. thread_fits p plan i h (omega arith)))))

-- the table of the names
abbrev pub name_table : ProfileName → Plan → Members
name_table p plan = with_words (boot_names p plan) no_members

pub table_named : (p : ProfileName) (plan : Plan) → IsPlan p plan → AreNamed p (name_table p plan)
table_named p plan h = named-with_words p (boot_names p plan) no_members (all_named p plan h) tt

-- ---- a boot thread's name

found_in_range : (test : ℕ → Bool) (a n i : ℕ) → find test (range_with_len a n) ≡ Some i → (test i ≡ true) × (i < a + n)
found_in_range test a zero i e = absurd (none-some i e)
found_in_range test a (suc n) i e =
    elim (cases_Bool (test a)) [
      | inl passes ↦
          let here : a ≡ i = same_Some a i (rw passes at e) in
          (rw (← here) passes, rw (← here) (omega arith))
      | inr fails ↦
          let later = found_in_range test (a + 1) n i (rw fails at e) in
          (later.0, omega arith)
    ]

thread_word : (p : ProfileName) (plan : Plan) (i : ℕ) → IsPlan p plan → i < plan.threads → get_member (codes "thread_" ++ decimal i) (name_table p plan) ≡ Some (integer (pos (tcb_place p plan i)))
thread_word p plan i h lt =
    let limits = h.limits in
    rw (with_words-append, with_words-append, with_words-append) (get_numbered (codes "thread_") (tcb_place p plan) plan.threads i _ lt (omega arith))

pub names_threads : (p : ProfileName) (plan : Plan) → IsPlan p plan → NamesThreads p plan (names_read (name_table p plan))
names_threads p plan h = record { stands = stands }
  where
    stands : (i address : ℕ) → boot_thread_at p plan address ≡ Some i → word_named (names_read (name_table p plan)) (codes "thread_" ++ decimal i) ≡ Some address
    stands i address found =
        let at = found_in_range (λ k. tcb_place p plan k == address) 0 plan.threads i found in
        let same : tcb_place p plan i ≡ address = grind (arith, nat_tests, at.0) in
        word_named_read (codes "thread_" ++ decimal i) (name_table p plan) ∙ (ap (option_map word_in) (thread_word p plan i h (omega (arith, at.1))) ∙ ap Some same)

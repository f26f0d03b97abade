-- The regions that words say, and what the options of `new` ask for by them.
use Rattle.std.proofs.Common.{◌≡◌, ℕ, zero, suc, ◌+◌, ◌<◌, ◌≤◌, ◌^◌, codes, true, List, [], ◌∷◌, ◌++◌, map, take, length, get_or, All, Option, Some, None, option_map, refl, subst, sym, ap, ◌∙◌, arith, lit<}
use Rattle.std.specs.Prelude.{MatchOption}
use Rattle.std.specs.Str.{bytes_eq}
use Rattle.std.proofs.lemmas.List.{map-append, take_more, get_or-map, length-map}
use Rattle.std.proofs.lemmas.Slice.Eq.{bytes_eq-Decides}
use denote.Ref.{Bor}
use Rattle.cap_core.specs.declared.profile.ProfileName.{ProfileName}
use Rattle.cap_core.specs.declared.profile.ProfileName.TheVariants.{Wide, Narrow}
use Rattle.cap_core.specs.Numbers.{max_object_bits}
use Rattle.kernel_abstract.specs.Plan.{IsPlan, IsUntypedSize}
use Rattle.command_line.specs.CommandLine.{Says}
use Rattle.command_line.specs.declared.arguments.Options.{Options}
use Rattle.command_core.specs.declared.fault.Verdict.{Verdict}
use Rattle.command_core.specs.declared.fault.Verdict.TheVariants.{AllMet, NotMet, Refused, Absent}
use Rattle.command_new.specs.New.{IsNewText, NoneFits}
use Rattle.command_new.specs.declared.asked.NewSetup.{NewSetup}
use Rattle.program.specs.Texts.{before_mark, behind_mark}
use Rattle.program.specs.Commas.{words_in}
use Rattle.program.specs.NewWords.{AreRegionWords, AsksFor, IsNewOf, IsProfileNamed, IsRegionWord, NothingFits}
use Rattle.program.specs.Private.{SayNoSizes}

one_more : (words : List (List ℕ)) (regions : List (ℕ × ℕ)) (word : List ℕ) (region : ℕ × ℕ) → AreRegionWords words regions → IsRegionWord word region →
    AreRegionWords (words ++ word ∷ []) (regions ++ region ∷ [])
one_more [] [] word region are is = (is, tt)
one_more [] (r ∷ regions) word region are is = absurd are
one_more (w ∷ words) [] word region are is = absurd are
one_more (w ∷ words) (r ∷ regions) word region are is = (are.0, one_more words regions word region are.1 is)

-- the words that are looked at, with one more
pub more : (words : List (Bor (List ℕ))) (i : ℕ) (d : Bor (List ℕ)) (regions regions' : List (ℕ × ℕ)) (region : ℕ × ℕ) → i < length words →
    AreRegionWords (map (λ w. w.now) (take i words)) regions → IsRegionWord (get_or words i d).now region → regions' ≡ regions ++ region ∷ [] →
    AreRegionWords (map (λ w. w.now) (take (i + 1) words)) regions'
more words i d regions regions' region within are is pushed =
    subst (λ ws. AreRegionWords ws regions')
    (sym (ap (map (λ (w : Bor (List ℕ)). w.now)) (take_more words i d within) ∙ map-append (λ (w : Bor (List ℕ)). w.now) (take i words) (get_or words i d ∷ [])))
    (subst (AreRegionWords (map (λ (w : Bor (List ℕ)). w.now) (take i words) ++ (get_or words i d).now ∷ [])) (sym pushed)
    (one_more (map (λ (w : Bor (List ℕ)). w.now) (take i words)) regions (get_or words i d).now region are is))

-- the region that a word says among others
at_word : (words : List (List ℕ)) (regions : List (ℕ × ℕ)) (i : ℕ) (d : List ℕ) (e : ℕ × ℕ) → AreRegionWords words regions → i < length words →
    (i < length regions) × IsRegionWord (get_or words i d) (get_or regions i e)
at_word [] regions i d e are within = absurd (omega arith)
at_word (w ∷ words) [] i d e are within = absurd are
at_word (w ∷ words) (r ∷ regions) zero d e are within = (omega arith, are.0)
at_word (w ∷ words) (r ∷ regions) (suc i) d e are within =
    let rest = at_word words regions i d e are.1 (omega arith) in (omega (arith, rest.0), rest.1)

-- no profile has regions of so many bits
few_bits : (p : ProfileName) → max_object_bits p < 2 ^ 32
few_bits Wide = lit< tt
few_bits Narrow = lit< tt

-- one word says no bits that a profile has, so the words say no sizes
pub no_sizes : (words : List (Bor (List ℕ))) (i : ℕ) (d : Bor (List ℕ)) → i < length words →
    ((region : ℕ × ℕ) → IsRegionWord (get_or words i d).now region → 2 ^ 32 ≤ region.1) → SayNoSizes (map (λ w. w.now) words)
no_sizes words i d within many regions are p sized =
    let names : List (List ℕ) = map (λ (w : Bor (List ℕ)). w.now) words in
    let here = at_word names regions i d.now (0, 0) are (omega (arith, length-map words (λ (w : Bor (List ℕ)). w.now))) in
    let word : get_or names i d.now ≡ (get_or words i d).now = get_or-map (λ (w : Bor (List ℕ)). w.now) words i d d.now within in
    let bits : 2 ^ 32 ≤ (get_or regions i (0, 0)).1 = many (get_or regions i (0, 0)) (subst (λ w. IsRegionWord w (get_or regions i (0, 0))) word here.1) in
    let size : (get_or regions i (0, 0)).1 ≤ max_object_bits p = (sized i (0, 0) here.0).most in
    absurd (omega (arith, few_bits p))

-- ---- the options ask for one thing at most

same_number : (t : List ℕ) (m n : ℕ) → Says (Some t) (Some m) → Says (Some t) (Some n) → m ≡ n
same_number t m n a b = a.1 ∙ sym b.1

same_regions : (words : List (List ℕ)) (some others : List (ℕ × ℕ)) → AreRegionWords words some → AreRegionWords words others → some ≡ others
same_regions [] [] [] a b = refl
same_regions [] [] (r ∷ others) a b = absurd b
same_regions [] (r ∷ some) others a b = absurd a
same_regions (w ∷ words) [] others a b = absurd a
same_regions (w ∷ words) (r ∷ some) [] a b = absurd b
same_regions (w ∷ words) (r ∷ some) (s ∷ others) a b =
    let base = same_number (before_mark 58 w) r.0 s.0 a.0.0 b.0.0 in
    let bits = same_number (behind_mark 58 w) r.1 s.1 a.0.1 b.0.1 in
    let rest = same_regions words some others a.1 b.1 in
    λ i. (base i, bits i) ∷ rest i

not_both : (name : List ℕ) → bytes_eq name (codes "wide") ≡ true → bytes_eq name (codes "narrow") ≡ true → ⊥
not_both name a b =
    let wide : name ≡ codes "wide" = (bytes_eq-Decides name (codes "wide")).0 a in
    let narrow : name ≡ codes "narrow" = (bytes_eq-Decides name (codes "narrow")).0 b in
    let lengths : length (codes "wide") ≡ length (codes "narrow") = ap length (sym wide ∙ narrow) in
    absurd (omega arith)

same_profile : (name : Option (List ℕ)) (some other : ProfileName) → IsProfileNamed name some → IsProfileNamed name other → some ≡ other
same_profile None some other a b = a ∙ sym b
same_profile (Some name) Wide Wide a b = refl
same_profile (Some name) Wide Narrow a b = absurd (not_both name a b)
same_profile (Some name) Narrow Wide a b = absurd (not_both name b a)
same_profile (Some name) Narrow Narrow a b = refl

-- where no plan fits what the options ask for, none fits whatever they may ask for
nothing_fits : (options : Options) (asked : NewSetup) → AsksFor options asked → NoneFits asked → NothingFits options
nothing_fits options asked asks none other also plan fits =
    let profile : other.profile ≡ asked.profile = same_profile _ _ _ also.profile asks.profile in
    none plan (record {
      sound = subst (λ p. IsPlan p plan) profile fits.sound;
      objects = record {
        threads = fits.objects.threads ∙ (also.threads ∙ sym asks.threads);
        endpoints = fits.objects.endpoints ∙ (also.endpoints ∙ sym asks.endpoints);
        untypeds = fits.objects.untypeds ∙ same_regions _ _ _ also.untypeds asks.untypeds;
      };
    })

-- where the words say no sizes, no plan fits
pub no_regions : (options : Options) → SayNoSizes (words_in (option_map (λ s. s.now) options.untyped)) → NothingFits options
no_regions options none asked asks plan fits =
    none asked.untypeds.items asks.untypeds asked.profile
    (subst (All (IsUntypedSize asked.profile)) fits.objects.untypeds fits.sound.limits.untypeds_sized)

-- what is made for the sizes is what the options ask for
pub asked_is_made : (options : Options) (asked : Option NewSetup) → MatchOption asked (NothingFits options) (AsksFor options) → (input text : List ℕ) (verdict : Verdict) →
    IsNewText asked input text verdict → IsNewOf options text verdict
unfolding IsNewOf
asked_is_made options None asks input text verdict made = subst (IsNewOf options text) (sym made.1) (made.0, asks)
asked_is_made options (Some asked) asks input text AllMet made = (asked, asks, made)
asked_is_made options (Some asked) asks input text NotMet made = absurd made
asked_is_made options (Some asked) asks input text Refused made = (made.0, (asked, asks, made.1))
asked_is_made options (Some asked) asks input text Absent made = (made.0, nothing_fits options asked asks made.1)

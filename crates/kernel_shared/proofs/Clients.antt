-- What a client's parts are after each step.
use Rattle.std.proofs.Common.{◌≡◌, ℕ, zero, suc, ◌+◌, ◌≤◌, ◌<◌, ◌==◌, nat_lt, Bool, true, false, get_or, List, [], ◌∷◌, ◌++◌, length, take, Option, Some, None, slice_get, refl, ap, sym, ◌∙◌, subst, arith}
use Rattle.std.proofs.lemmas.List.{take-append-drop}
use Rattle.std.proofs.Math.Seq.{take-length}
use Rattle.cap_core.specs.declared.profile.ProfileName.{ProfileName}
use Rattle.kernel_abstract.specs.declared.call.Call.{Call}
use Rattle.kernel_abstract.specs.declared.call.Reply.{Reply}
use Rattle.kernel_abstract.specs.Shown.{Shown}
use Rattle.kernel_shared.specs.declared.entry.Entry.{Entry}
use Rattle.kernel_shared.specs.Laws.{Lawful, client_entry, count_of}
use Rattle.kernel_shared.proofs.Grows.{lawful_open, count_append}
use Rattle.std.proofs.lemmas.Option.{slice_get_within, get_or_from_slice_get}
use Rattle.std.proofs.lemmas.Bool.Decides.{nat_tests}
use Rattle.kernel_shared.specs.declared.client.Stray.{Stray}
use Rattle.kernel_shared.specs.Fronts.{StartsWith}
use Rattle.kernel_shared.specs.ClientStates.{IsClient, ClientState, Lost, client_state, lost, lost_of, stray_fits, strays}
use Rattle.kernel_shared.proofs.Keeping.{starts_trans, take_same, longer}
use Rattle.kernel_shared.proofs.Lawfully.{take_one}

pub new_client : (p : ProfileName) (o : Shown) (id parts amount : ℕ) (log : List Entry) → log ≡ [] → parts ≡ 1 → amount ≡ 0 → IsClient p o id 0 parts amount 0 None log
new_client p o id parts amount log e one none = record {
  one_part = one;
  counted = none;
  within = omega arith;
  lawful = subst (λ (l : List Entry). ∥ Lawful p o l ∥₁) (sym e) ∣ lawful_open p o ∣₁;
  has_done = omega arith;
  fits = tt;
  small = omega arith;
}

pub take_starts : (n : ℕ) (log : List Entry) → StartsWith log (take n log)
take_starts n log = record { rest = _; is = sym (take-append-drop n log) }

pub take_all : (n : ℕ) (log : List Entry) → n ≡ length log → take n log ≡ log
take_all n log e = ap (λ k. take k log) e ∙ take-length log

-- a look at all that is published
pub looks_later : (seen n : ℕ) (log log' : List Entry) → StartsWith log' log → n ≡ length log' → StartsWith (take n log') (take seen log)
looks_later seen n log log' s e = subst (λ (l : List Entry). StartsWith l (take seen log)) (sym (take_all n log' e)) (starts_trans log' log (take seen log) s (take_starts seen log))

pub fits_later : (id done : ℕ) (stray : Option Stray) (log log' : List Entry) → StartsWith log' log → stray_fits id done stray log → stray_fits id done stray log'
fits_later id done None log log' s f = tt
fits_later id done (Some x) log log' s f = ((let l = longer log' log s in let g = f.0 in omega arith), ap (count_of id) (take_same log' log x.seen s f.0) ∙ f.1)

pub lost_same : (id done : ℕ) (stray : Option Stray) (log log' : List Entry) → StartsWith log' log → stray_fits id done stray log → lost_of stray log' ≡ lost_of stray log
lost_same id done None log log' s f = refl
lost_same id done (Some x) log log' s f = ap (λ l. Some (lost x.call l)) (take_same log' log x.seen s f.0)

-- an entry that gives no more to see
pub client_same : (p : ProfileName) (o : Shown) (id done parts amount seen : ℕ) (stray : Option Stray) (log log' : List Entry) → IsClient p o id done parts amount seen stray log
    → StartsWith log' log → ∥ Lawful p o log' ∥₁ → IsClient p o id done parts amount seen stray log'
client_same p o id done parts amount seen stray log log' c s l = record {
  one_part = c.one_part;
  counted = c.counted;
  within = let a = longer log' log s in let b = c.within in omega arith;
  lawful = l;
  has_done = subst (λ (h : List Entry). done ≤ count_of id h) (sym (take_same log' log seen s c.within)) c.has_done;
  fits = fits_later id done stray log log' s c.fits;
  small = c.small;
}

pub found_front : (id done seen : ℕ) (log log' : List Entry) (call : Call) (reply : Reply) → StartsWith log' log → seen ≤ length log → slice_get log' seen ≡ Some (client_entry id done call reply)
    → take (seen + 1) log' ≡ take seen log ++ client_entry id done call reply ∷ []
found_front id done seen log log' call reply s le at = take_one log' seen (client_entry id done call reply) at ∙ ap (λ l. l ++ client_entry id done call reply ∷ []) (take_same log' log seen s le)

one_stray : (stray : Option Stray) (log : List Entry) (l : Lost) → lost_of stray log ≡ Some l → strays stray ≡ 1
one_stray None log l e = cc
one_stray (Some s) log l e = refl

pub count_one : (id done : ℕ) (call : Call) (reply : Reply) → count_of id (client_entry id done call reply ∷ []) ≡ 1
count_one id done call reply = let t : (id == id) ≡ true = grind (arith, nat_tests) in rw t refl

-- the call was found
pub client_finds : (p : ProfileName) (o : Shown) (id done parts amount seen : ℕ) (stray : Option Stray) (log log' : List Entry) (call : Call) (reply : Reply) → IsClient p o id done parts amount seen stray log
    → StartsWith log' log → ∥ Lawful p o log' ∥₁ → (l : Lost) → lost_of stray log ≡ Some l → slice_get log' seen ≡ Some (client_entry id done call reply) → IsClient p o id (done + 1) parts amount (seen + 1) None log'
client_finds p o id done parts amount seen stray log log' call reply c s law l e at = record {
  one_part = c.one_part;
  counted = let a = c.counted in let b = one_stray stray log l e in omega arith;
  within = let w = slice_get_within log' seen (client_entry id done call reply) at in omega arith;
  lawful = law;
  has_done =
      let f = ap (count_of id) (found_front id done seen log log' call reply s c.within at) in
      let g = count_append id (take seen log) (client_entry id done call reply ∷ []) in
      let k = count_one id done call reply in
      let h = c.has_done in omega arith;
  fits = tt;
  small = c.small;
}

pub found_state : (id done seen : ℕ) (stray : Option Stray) (log log' : List Entry) (call : Call) (reply : Reply) (old : ClientState) → client_state id done (take seen log) (lost_of stray log) ≡ old → StartsWith log' log → seen ≤ length log → slice_get log' seen ≡ Some (client_entry id done call reply)
    → client_state id (done + 1) (take (seen + 1) log') None ≡ client_state old.id (old.done + 1) (old.front ++ client_entry old.id old.done call reply ∷ []) None
found_state id done seen stray log log' call reply old e s le at =
    subst (λ (u : ClientState). client_state id (done + 1) (take (seen + 1) log') None ≡ client_state u.id (u.done + 1) (u.front ++ client_entry u.id u.done call reply ∷ []) None) e
    (ap (λ l. client_state id (done + 1) l None) (found_front id done seen log log' call reply s le at))

pub same_state : (id done seen : ℕ) (stray : Option Stray) (log log' : List Entry) (now : ClientState) → client_state id done (take seen log) (lost_of stray log) ≡ now → StartsWith log' log → seen ≤ length log → stray_fits id done stray log
    → client_state id done (take seen log') (lost_of stray log') ≡ now
same_state id done seen stray log log' now e s le f =
    ap (λ l. client_state id done l (lost_of stray log')) (take_same log' log seen s le) ∙ (ap (λ l. client_state id done (take seen log) l) (lost_same id done stray log log' s f) ∙ e)

-- the first entries of another history are what was seen
pub begins_other : (seen : ℕ) (log log' other front : List Entry) → take seen log ≡ front → StartsWith log' log → seen ≤ length log → take seen log' ≡ take seen other → StartsWith other front
begins_other seen log log' other front e s le same =
    subst (λ (h : List Entry). StartsWith other h) (sym same ∙ (take_same log' log seen s le ∙ e)) (take_starts seen other)

nothing_past : (xs : List Entry) (n : ℕ) → slice_get xs n ≡ None → n < length xs → ⊥
nothing_past [] n e lt = omega arith
nothing_past (x ∷ xs) zero e lt = cc
nothing_past (x ∷ xs) (suc n) e lt = nothing_past xs n e (omega arith)

alike_at : (n : ℕ) (xs ys : List Entry) (x : Option Entry) → slice_get xs n ≡ x → n < length xs → slice_get xs n ≡ slice_get ys n → take n xs ≡ take n ys → take (n + 1) xs ≡ take (n + 1) ys
alike_at n xs ys (Some a) is lt e same = take_one xs n a is ∙ (ap (λ h. h ++ a ∷ []) same ∙ sym (take_one ys n a (sym e ∙ is)))
alike_at n xs ys None is lt e same = absurd (nothing_past xs n is lt)

-- one more entry is alike
pub alike_more : (n : ℕ) (xs ys : List Entry) → n < length xs → slice_get xs n ≡ slice_get ys n → take n xs ≡ take n ys → take (n + 1) xs ≡ take (n + 1) ys
alike_more n xs ys lt e same = alike_at n xs ys (slice_get xs n) refl lt e same

begin_at : (log : List Entry) (items : List ClientState) (k : ℕ) (d : ClientState) → get_or items k d ≡ d → StartsWith log d.front → ((i : ℕ) (t : ClientState) → i < k → slice_get items i ≡ Some t → StartsWith log t.front) → (i : ℕ) (t : ClientState) → i < k + 1 → slice_get items i ≡ Some t
    → (b : Bool) → nat_lt i k ≡ b → StartsWith log t.front
begin_at log items k d e s h i t lt at true is = h i t (grind (arith, nat_tests)) at
begin_at log items k d e s h i t lt at false is =
    let same : i ≡ k = grind (arith, nat_tests) in
    let found : d ≡ t = sym e ∙ (ap (λ j. get_or items j d) (sym same) ∙ get_or_from_slice_get items i t d at) in
    subst (λ (u : ClientState). StartsWith log u.front) found s

-- one more client's front begins the log
pub begin_more : (log : List Entry) (items : List ClientState) (k : ℕ) (d : ClientState) → get_or items k d ≡ d → StartsWith log d.front → ((i : ℕ) (t : ClientState) → i < k → slice_get items i ≡ Some t → StartsWith log t.front) → (i : ℕ) (t : ClientState) → i < k + 1 → slice_get items i ≡ Some t
    → StartsWith log t.front
begin_more log items k d e s h i t lt at = begin_at log items k d e s h i t lt at (nat_lt i k) refl

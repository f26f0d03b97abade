-- Calls, each beside its caller.
use Rattle.std.proofs.Common.{◌≡◌, ℕ, zero, suc, ◌<◌, List, [], ◌∷◌, ◌++◌, length, map, slice_get, get_or, Some, option_map, string_bytes, refl, ap, arith}
use Rattle.kernel_abstract.specs.declared.call.Call.{Call}
use Rattle.setup_format.specs.declared.setup.Caller.{Caller}
use Rattle.setup_format.specs.Views.{CallView, call_views}

pub calls_seen : (cs : List Call) (ks : List Caller) → length cs ≡ length ks → map (λ (c : CallView). c.call) (call_views cs ks) ≡ cs
calls_seen [] ks e = refl
calls_seen (c ∷ cs) [] e = absurd (omega arith)
calls_seen (c ∷ cs) (k ∷ ks) e = ap (λ l. c ∷ l) (calls_seen cs ks (omega arith))

pub length-call_views : (cs : List Call) (ks : List Caller) → length cs ≡ length ks → length (call_views cs ks) ≡ length cs
length-call_views [] ks e = refl
length-call_views (c ∷ cs) [] e = absurd (omega arith)
length-call_views (c ∷ cs) (k ∷ ks) e = ap suc (length-call_views cs ks (omega arith))

pub call_views-push : (cs : List Call) (ks : List Caller) (c : Call) (k : Caller) → length cs ≡ length ks → call_views (cs ++ c ∷ []) (ks ++ k ∷ []) ≡ call_views cs ks ++ call_views (c ∷ []) (k ∷ [])
call_views-push [] [] c k e = refl
call_views-push [] (x ∷ ks) c k e = absurd (omega arith)
call_views-push (x ∷ cs) [] c k e = absurd (omega arith)
call_views-push (x ∷ cs) (y ∷ ks) c k e = ap (λ l. call_views (x ∷ []) (y ∷ []) ++ l) (call_views-push cs ks c k (omega arith))

pub client_seen : (cs : List Call) (ks : List Caller) (i : ℕ) (d : Caller) → length cs ≡ length ks → i < length ks → option_map (λ (c : CallView). c.client) (slice_get (call_views cs ks) i) ≡ Some (get_or ks i d).client
client_seen cs [] i d e lt = absurd (omega arith)
client_seen [] (k ∷ ks) i d e lt = absurd (omega arith)
client_seen (c ∷ cs) (k ∷ ks) zero d e lt = refl
client_seen (c ∷ cs) (k ∷ ks) (suc i) d e lt = client_seen cs ks i d (omega arith) (omega arith)

pub expect_seen : (cs : List Call) (ks : List Caller) (i : ℕ) (d : Caller) → length cs ≡ length ks → i < length ks → option_map (λ (c : CallView). c.expect) (slice_get (call_views cs ks) i) ≡ Some (option_map string_bytes (get_or ks i d).expect)
expect_seen cs [] i d e lt = absurd (omega arith)
expect_seen [] (k ∷ ks) i d e lt = absurd (omega arith)
expect_seen (c ∷ cs) (k ∷ ks) zero d e lt = refl
expect_seen (c ∷ cs) (k ∷ ks) (suc i) d e lt = expect_seen cs ks i d (omega arith) (omega arith)

-- a place of what is seen is a place of the callers
pub place_seen : (cs : List Call) (ks : List Caller) (i : ℕ) (seen : List CallView) → length cs ≡ length ks → call_views cs ks ≡ seen → i < length seen → i < length ks
place_seen cs ks i seen e is lt =
    let count : length (call_views cs ks) ≡ length cs = length-call_views cs ks e in
    let same : length (call_views cs ks) ≡ length seen = ap length is in
    omega arith

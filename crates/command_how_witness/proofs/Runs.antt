-- A run has as many replies as calls.
use Rattle.std.specs.Prelude.{◌≡◌, length, Result, Ok, Err, IfOk}
use Rattle.std.proofs.Common.{◌∙◌}
use Rattle.std.proofs.lemmas.List.{length-map}
use Rattle.cap_core.specs.declared.profile.ProfileName.{ProfileName}
use Rattle.kernel_abstract.specs.Boot.{boot}
use Rattle.setup_format.specs.Views.{SetupView, CallView}
use Rattle.setup_report.proofs.Runs.{replies_length}
use Rattle.command_how_witness.specs.Text.{witness_replies, witness_calls}

pub length_replies_to : (p : ProfileName) (setup : SetupView) → length (witness_replies p setup) ≡ length setup.calls
length_replies_to p setup = replies_length p (boot p setup.plan) (witness_calls setup) ∙ length-map setup.calls (λ (c : CallView). c.call)

-- what two clauses say of a result that is Ok gives a third
pub ok_both : {A F : Type 0} (P Q R : A → Type 0) (r : Result A F) → IfOk r P → IfOk r Q → ((v : A) → P v → Q v → R v) → IfOk r R
ok_both P Q R (Ok v) p q f = f v p q
ok_both P Q R (Err e) p q f = tt

use Rattle.std.proofs.Common.{◌≡◌, ◌≤◌, ◌↔◌, IfOk, IsTrue, Bool, false, Result, Ok, Err, sym, ap, ◌∙◌, subst}
use Rattle.script_names.specs.declared.memory.Memory.{Memory}
use Rattle.serde_json.specs.Data.{Data, depth}
use Rattle.serde_json.specs.Written.{has_float}
use Rattle.report_json.specs.ReportJson.{json_of}
use Rattle.report_json.proofs.Floats.{report_plain}
use Rattle.report_json.proofs.ValueDepth.{report_depth}
use Rattle.report_reader.proofs.read.has_value.Goals as goal

turned : (r : Result Bool Memory) (d v e : Data) → v ≡ e → has_float e ≡ false → IfOk r (λ same. IsTrue same → d ≡ v)
    → IfOk r (λ same. has_float v ≡ false → d ≡ v → IsTrue same) → IfOk r (λ has. IsTrue has ↔ (e ≡ d))
turned (Ok b) d v e is plain f g = (λ t. sym (f t ∙ is), λ k. g (ap has_float is ∙ plain) (sym (is ∙ k)))
turned (Err m) d v e is plain f g = tt

pub same_value-requires-clause-second : goal.same_value-requires-clause-second
same_value-requires-clause-second c = subst (λ d. depth d ≤ 127) (sym c.in_ok-again.ensures) (report_depth c.args.version c.args.report.now)

pub returns : goal.returns
returns c =
    turned c.same_value.result _ _ (json_of c.args.version c.args.report.now) c.in_ok-again.ensures (report_plain c.args.version c.args.report.now) c.same_value.ensures.same c.same_value.ensures.all

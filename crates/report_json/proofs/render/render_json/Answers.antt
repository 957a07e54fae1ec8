use Rattle.std.proofs.Common.{◌≡◌, ℕ, List, false, ap, ◌∙◌}
use Rattle.serde_json.specs.Data.{Data}
use Rattle.serde_json.specs.Written.{compact_text, has_float}
use Rattle.shown_texts.specs.Lines.{line}
use Rattle.feature_trees.specs.declared.version.Version.TheVariants.{Second}
use Rattle.report_json.specs.ReportJson.{json_of}
use Rattle.report_json.proofs.Floats.{report_plain}
use Rattle.report_json.proofs.render.render_json.Goals as goal

turned : (text : List ℕ) (v e : Data) → v ≡ e → has_float e ≡ false → (has_float v ≡ false → text ≡ line (compact_text v)) → text ≡ line (compact_text e)
turned text v e is plain f = f (ap has_float is ∙ plain) ∙ ap (λ d. line (compact_text d)) is

pub returns : goal.returns
returns c = turned _ _ (json_of Second c.args.report.now) c.in_ok-value.ensures (report_plain Second c.args.report.now) c.in_ok-text.ensures

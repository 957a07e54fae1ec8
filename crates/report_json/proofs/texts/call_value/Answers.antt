use Rattle.std.proofs.Common.{◌∙◌}
use Rattle.report_text.proofs.LowPieces.{call_low}
use Rattle.report_json.proofs.Ascii.{same_utf8}
use Rattle.report_json.proofs.texts.call_value.Goals as goal

pub text_value-requires : goal.text_value-requires
text_value-requires c = same_utf8 _ _ (c.as_slice.ensures ∙ c.in_ok-text.ensures) (call_low c.args.call.now c.is_representable_call.ensures)

use Rattle.std.proofs.Common.{◌∙◌}
use Rattle.report_text.proofs.LowPieces.{literal_low}
use Rattle.report_json.proofs.Ascii.{same_utf8}
use Rattle.report_json.proofs.texts.literal_value.Goals as goal

pub text_value-requires : goal.text_value-requires
text_value-requires c = same_utf8 _ _ (c.as_slice.ensures ∙ c.in_ok-text.ensures) (literal_low c.args.version c.args.literal.now c.is_representable_literal.ensures)

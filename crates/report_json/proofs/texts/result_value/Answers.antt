use Rattle.std.proofs.Common.{◌++◌, ap, ◌∙◌}
use Rattle.report_text.specs.ReportText.{result_text}
use Rattle.report_text.proofs.LowPieces.{result_low}
use Rattle.report_json.proofs.Ascii.{same_utf8}
use Rattle.report_json.proofs.texts.result_value.Goals as goal

pub text_value-requires : goal.text_value-requires
text_value-requires c =
    let text = c.as_slice.ensures ∙ c.in_ok-put_result.ensures.ok ∙ ap (λ t. t ++ result_text c.args.ending) c.new-text.ensures in
    same_utf8 _ _ text (result_low c.args.ending c.is_representable_ending.ensures)

use Rattle.report_json.proofs.MarkTexts.{marks_printed}
use Rattle.report_json.proofs.texts.print_marks.Goals as goal

pub returns-in_ok-put_marks-in-len1-up : goal.returns-in_ok-put_marks-in-len1-up
returns-in_ok-put_marks-in-len1-up c =
    marks_printed c.args.marks.now _ _ _ _ c.in-len1-up.len_at_least c.new-text.ensures c.in_ok-push_mark-in-len1-up.ensures.ok
    c.in_ok-put_marks-in-len1-up.ensures

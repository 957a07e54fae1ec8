use Rattle.std.specs.Prelude.{true, nat_le}
use Rattle.std.specs.List.{list_all}
use Rattle.std.specs.Fmt.{decimal}
use Rattle.shown_texts.specs.Show.{show, are_bytes, shown_of}
use Rattle.shown_texts.specs.Numbers.{number_of}
use Rattle.shown_texts.specs.Lines.{lines_text, is_line, lines_of}
use Rattle.shown_texts.specs.Paths.{path_text, path_of, are_names}
use Rattle.shown_texts.specs.Marks.{site_text, mark_text, reason_name, site_of, mark_of, reason_of, is_site, is_mark}
use Rattle.shown_texts.proofs.Lists.{reads_back}
use Rattle.shown_texts.proofs.Spelled.{show_read, show_spelled}
use Rattle.shown_texts.proofs.Numerals.{number_read, number_spelled}
use Rattle.shown_texts.proofs.LineTexts.{lines_read, lines_spelled}
use Rattle.shown_texts.proofs.PathTexts.{path_read, path_spelled}
use Rattle.shown_texts.proofs.MarkTexts.{site_read, site_spelled, mark_read, mark_spelled, reason_read, reason_spelled}
use Rattle.shown_texts.proofs.theorems.texts_read_back.Goals as goal

pub returns-clause-bytes : goal.returns-clause-bytes
returns-clause-bytes c = reads_back are_bytes show shown_of show_read show_spelled

pub returns-clause-numbers : goal.returns-clause-numbers
returns-clause-numbers c most fits =
    reads_back (λ n. nat_le n most) decimal (number_of most) (λ n h. number_read most n fits h) (λ text n e. number_spelled most text n fits e)

pub returns-clause-lines : goal.returns-clause-lines
returns-clause-lines c = reads_back (λ lines. list_all is_line lines) lines_text lines_of lines_read lines_spelled

pub returns-clause-paths : goal.returns-clause-paths
returns-clause-paths c = reads_back are_names path_text path_of path_read path_spelled

pub returns-clause-sites : goal.returns-clause-sites
returns-clause-sites c = reads_back is_site site_text site_of site_read site_spelled

pub returns-clause-marks : goal.returns-clause-marks
returns-clause-marks c = reads_back is_mark mark_text mark_of mark_read mark_spelled

pub returns-clause-reasons : goal.returns-clause-reasons
returns-clause-reasons c = reads_back (λ reason. true) reason_name reason_of (λ reason h. reason_read reason) reason_spelled

use Rattle.std.proofs.Common.{◌∙◌, subst, sym, IsUtf8}
use Rattle.std.specs.Prelude.{All}
use Rattle.report_json.specs.ReportJson.{version_lines}
use Rattle.report_json.proofs.Ascii.{all_utf8}
use Rattle.report_json.proofs.Versions.{lines_low}
use Rattle.report_json.proofs.values.tree_value.Goals as goal

pub texts_value-requires : goal.texts_value-requires
texts_value-requires c =
    let tree = c.args.tree.now in
    subst (All IsUtf8) (sym (c.as_slice.ensures ∙ c.in_ok-lines.ensures))
    (all_utf8 (version_lines c.args.version tree) (lines_low c.args.version tree c.is_representable_tree.ensures))

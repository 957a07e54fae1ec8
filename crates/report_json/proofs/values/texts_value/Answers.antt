use Rattle.std.proofs.Common.{map, ap, ◌∙◌, subst, sym, IsUtf8}
use Rattle.std.proofs.lemmas.List.{take_all}
use Rattle.serde_json.specs.Data.{string, array}
use Rattle.serde_json.specs.View.{items_of}
use Rattle.serde_json.proofs.Views.{view-Array}
use Rattle.report_json.proofs.values.texts_value.Goals as goal

pub text_value-requires : goal.text_value-requires
text_value-requires c =
    subst IsUtf8 (sym (c.as_slice.ensures ∙ c.text-item.is)) (c.requires c.loop-text.text-index c.text-item.result c.loop-text-test.true)

pub returns : goal.returns
returns c =
    let all = c.loop-text.invariant ∙ ap (map string) (take_all c.loop-text.text-index c.args.texts.now c.loop-text-test.false) in
    view-Array c.loop-text.list ∙ ap (λ ds. array (items_of ds)) all

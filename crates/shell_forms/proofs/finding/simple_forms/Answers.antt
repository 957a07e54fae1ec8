use Rattle.std.proofs.Common.{not, ◌&&◌, ◌||◌, [], ◌∷◌, codes, map, sym, ap, ◌∙◌}
use Rattle.shell_syntax.specs.declared.form.Form.TheVariants as form
use Rattle.shell_forms.specs.Forms.{word_says, assign_says, static_name, is_name, is_named, is_one_flag, some_unquoted, are_any, calls_later}
use Rattle.shell_forms.specs.Known.{first_in}
use Rattle.shell_forms.specs.Seen.{operands_of, is_one_flag_in, some_unquoted_in}
use Rattle.shell_forms.proofs.Finds.{simple_found, found_when}
use Rattle.shell_forms.proofs.Says.{static_says, operands_say, flag_says, some_unquoted_say, sets_ifs_say, prefix_says, any_says}
use Rattle.shell_forms.proofs.finding.simple_forms.Goals as goal

pub returns : goal.returns
returns c =
    let first = first_in c.args.functions.now in
    let words = c.args.words.now in
    let name = c.in_ok-name.ensures ∙ sym (static_says first words) in
    let flag = ap is_one_flag_in c.operands-operands.ensures ∙ sym (flag_says first (operands_of words)) ∙ ap is_one_flag (sym (operands_say first words)) in
    let unquoted = ap some_unquoted_in c.operands-operands.ensures ∙ sym (some_unquoted_say first (operands_of words)) ∙ ap some_unquoted (sym (operands_say first words)) in
    let any = ap are_any c.operands-operands.ensures ∙ sym (any_says first (word_says first) (operands_of words)) ∙ ap are_any (sym (operands_say first words)) in
    let said = static_name (map (word_says first) words) in
    simple_found first c.args.at (map (assign_says first) c.args.assigns.now) (map (word_says first) words) c.args.place
    c.args.first c.found_if-first.result c.found_if-first-2.result c.found_if-first-3.result c.found_if-first-4.result
    c.found_if-first-5.result c.found_if-first-6.result c.found_if.result
    (found_when _ _ form.Option c.args.at _ _ c.found_if-first.ensures
    (c.in_ok-sets_option.ensures ∙ ap (λ n. is_name n (codes "set") && not (is_one_flag_in c.operands-operands.result.now)) name
    ∙ ap (λ b. is_name said (codes "set") && not b) flag))
    (found_when _ _ form.Ifs c.args.at _ _ c.found_if-first-2.ensures (c.sets_ifs.ensures ∙ sym (sets_ifs_say first c.args.assigns.now)))
    (found_when _ _ form.Prefix c.args.at _ _ c.found_if-first-3.ensures (c.is_prefix.ensures ∙ sym (prefix_says first c.args.assigns.now words)))
    (found_when _ _ form.Export c.args.at _ _ c.found_if-first-4.ensures
    (c.exports_unquoted.ensures ∙ ap (λ n. is_name n (codes "export") && some_unquoted_in c.operands-operands.result.now) name
    ∙ ap (λ b. is_name said (codes "export") && b) unquoted))
    (found_when _ _ form.LoopExit c.args.at _ _ c.found_if-first-5.ensures
    (c.leaves_no_loop.ensures ∙ ap (λ n. is_named n (codes "break" ∷ codes "continue" ∷ []) && (are_any c.operands-operands.result.now || not c.args.place.in_loop)) name
    ∙ ap (λ b. is_named said (codes "break" ∷ codes "continue" ∷ []) && (b || not c.args.place.in_loop)) any))
    (found_when _ _ form.Return c.args.at _ _ c.found_if-first-6.ensures
    (c.leaves_no_function.ensures ∙ ap (λ n. is_name n (codes "return") && not c.args.place.may_return) name))
    (found_when _ _ form.CallOrder c.args.at _ _ c.found_if.ensures (c.calls_later-is_later.ensures ∙ ap (calls_later first c.args.place.defined_at) name))

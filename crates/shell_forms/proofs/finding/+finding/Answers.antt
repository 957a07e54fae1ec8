use Rattle.std.proofs.Common.{List, ◌++◌, map, refl, ap, ◌∙◌, arith, codes}
use Rattle.std.specs.List.{flat_map}
use Rattle.std.specs.Str.{bytes_eq}
use Rattle.shell_syntax.specs.declared.form.Form.TheVariants as form
use Rattle.std.proofs.lemmas.Result.{IfOk-weaker}
use Rattle.std.proofs.lemmas.List.{take_all}
use Rattle.shell_syntax.specs.declared.syntax.CaseArm.{out-CaseArm}
use Rattle.shell_syntax.specs.declared.syntax.Command.TheVariants as v
use Rattle.shell_forms.specs.Words.{WordSays, AssignSays}
use Rattle.shell_forms.specs.Forms.{Forms, forms_of, word_says, assign_says, case_arm_says, if_arm_says, link_says, in_word, in_pattern, in_patterns, in_arm, in_case_arm, in_words, in_assigns, all_of, in_arms, in_case_arms, when, define_forms, simple_forms, within, looped, function_body}
use Rattle.shell_forms.specs.Known.{first_in}
use Rattle.shell_forms.specs.Seen.{in_part}
use Rattle.shell_forms.specs.Soonest.{soonest}
use Rattle.shell_forms.proofs.Finds.{forms_simple, forms_chain, forms_for_none, forms_for_some, forms_if, forms_while, forms_case, forms_define, says_assign, says_case_arm, says_if_arm, says_link, in_parts, then_more, same_forms, one_more, one_more_part, moved}
use Rattle.shell_forms.proofs.finding.+finding.Goals as goal

pub in_words-loop-word-preserved : goal.in_words-loop-word-preserved
in_words-loop-word-preserved t c =
    one_more (λ w. in_word w c.args.place) (word_says (first_in c.args.functions.now)) c.args.first c.loop-word.first c.in_ok-first.first c.args.words.now c.loop-word.word-index c.word-item.result
    c.loop-word-test.true c.word-item.is c.loop-word.invariant
    c.in_ok-first.ensures

pub in_patterns-loop-word-preserved : goal.in_patterns-loop-word-preserved
in_patterns-loop-word-preserved t c =
    one_more (λ w. in_pattern w c.args.place) (word_says (first_in c.args.functions.now)) c.args.first c.loop-word.first c.in_ok-first.first c.args.words.now c.loop-word.word-index c.word-item.result
    c.loop-word-test.true c.word-item.is c.loop-word.invariant
    c.in_ok-first.ensures

pub in_assigns-loop-assign-preserved : goal.in_assigns-loop-assign-preserved
in_assigns-loop-assign-preserved t c =
    one_more (λ (a : AssignSays Forms). in_word a.value c.args.place) (assign_says (first_in c.args.functions.now)) c.args.first c.loop-assign.first c.in_ok-first.first c.args.assigns.now c.loop-assign.assign-index c.assign-item.result
    c.loop-assign-test.true c.assign-item.is c.loop-assign.invariant
    (same_forms c.loop-assign.first c.in_ok-first.first (in_word (word_says (first_in c.args.functions.now) c.assign-item.result.value) c.args.place) (in_word (assign_says (first_in c.args.functions.now) c.assign-item.result).value c.args.place)
    (ap (λ (a : AssignSays Forms). in_word a.value c.args.place) (says_assign (first_in c.args.functions.now) c.assign-item.result)) c.in_ok-first.ensures)

pub in_commands-loop-command-preserved : goal.in_commands-loop-command-preserved
in_commands-loop-command-preserved t c =
    one_more (λ (f : Forms). f c.args.place) (forms_of (first_in c.args.functions.now)) c.args.first c.loop-command.first c.in_ok-first.first c.args.commands.now c.loop-command.command-index c.command-item.result
    c.loop-command-test.true c.command-item.is c.loop-command.invariant
    c.in_ok-first.ensures

pub in_links-loop-link-preserved : goal.in_links-loop-link-preserved
in_links-loop-link-preserved t c =
    one_more (λ (f : Forms). f c.args.place) (link_says (first_in c.args.functions.now)) c.args.first c.loop-link.first c.in_ok-first.first c.args.links.now c.loop-link.link-index c.link-item.result
    c.loop-link-test.true c.link-item.is c.loop-link.invariant
    (same_forms c.loop-link.first c.in_ok-first.first (forms_of (first_in c.args.functions.now) c.link-item.result.command c.args.place) (link_says (first_in c.args.functions.now) c.link-item.result c.args.place)
    (ap (λ (f : Forms). f c.args.place) (says_link (first_in c.args.functions.now) c.link-item.result)) c.in_ok-first.ensures)

pub in_arms-loop-arm-preserved : goal.in_arms-loop-arm-preserved
in_arms-loop-arm-preserved t c =
    one_more (λ (a : Forms × Forms). in_arm a c.args.place) (if_arm_says (first_in c.args.functions.now)) c.args.first c.loop-arm.first c.in_ok-first-2.first c.args.arms.now c.loop-arm.arm-index c.arm-item.result
    c.loop-arm-test.true c.arm-item.is c.loop-arm.invariant
    (then_more c.loop-arm.first c.in_ok-first.first c.in_ok-first-2.first (forms_of (first_in c.args.functions.now) c.arm-item.result.cond c.args.place) (forms_of (first_in c.args.functions.now) c.arm-item.result.body c.args.place) (in_arm (if_arm_says (first_in c.args.functions.now) c.arm-item.result) c.args.place)
    (ap (λ (a : Forms × Forms). in_arm a c.args.place) (says_if_arm (first_in c.args.functions.now) c.arm-item.result)) c.in_ok-first.ensures c.in_ok-first-2.ensures)

pub in_case_arms-loop-arm-preserved : goal.in_case_arms-loop-arm-preserved
in_case_arms-loop-arm-preserved t c =
    one_more (λ (a : List (WordSays Forms) × Forms). in_case_arm a c.args.place) (case_arm_says (first_in c.args.functions.now)) c.args.first c.loop-arm.first c.in_ok-first-2.first c.args.arms.now c.loop-arm.arm-index c.arm-item.result
    c.loop-arm-test.true c.arm-item.is c.loop-arm.invariant
    (then_more c.loop-arm.first c.in_ok-first.first c.in_ok-first-2.first (in_patterns (map (word_says (first_in c.args.functions.now)) (out-CaseArm c.arm-item.result).patterns) c.args.place) (forms_of (first_in c.args.functions.now) (out-CaseArm c.arm-item.result).body c.args.place) (in_case_arm (case_arm_says (first_in c.args.functions.now) c.arm-item.result) c.args.place)
    (ap (λ (a : List (WordSays Forms) × Forms). in_case_arm a c.args.place) (says_case_arm (first_in c.args.functions.now) c.arm-item.result))
    (c.in_ok-first.ensures ∙ ap (λ ws. soonest c.loop-arm.first (in_patterns (map (word_says (first_in c.args.functions.now)) ws) c.args.place)) c.as_slice.ensures) c.in_ok-first-2.ensures)

pub in_word-loop-part-preserved : goal.in_word-loop-part-preserved
in_word-loop-part-preserved t c =
    one_more_part (λ part. in_part (first_in c.args.functions.now) part c.args.place) c.args.first c.loop-part.first c.in_ok-first.first c.as_slice-part-items.result.now c.loop-part.part-index c.part-item.result
    c.loop-part-test.true c.part-item.is c.loop-part.invariant c.in_ok-first.ensures

pub in_word-returns : goal.in_word-returns
in_word-returns t c =
    same_forms c.args.first c.loop-part.first (flat_map (λ part. in_part (first_in c.args.functions.now) part c.args.place) c.args.word.now.parts) (in_word (word_says (first_in c.args.functions.now) c.args.word.now) c.args.place)
    (in_parts (first_in c.args.functions.now) c.args.word.now c.args.place)
    (c.loop-part.invariant ∙ ap (λ ps. soonest c.args.first (flat_map (λ part. in_part (first_in c.args.functions.now) part c.args.place) ps))
    (take_all c.loop-part.part-index c.as_slice-part-items.result.now (omega (arith, c.loop-part-test.false)) ∙ c.as_slice-part-items.ensures))

pub in_command-returns-in_ok-first-in-Chain : goal.in_command-returns-in_ok-first-in-Chain
in_command-returns-in_ok-first-in-Chain t c =
    IfOk-weaker c.in_links.result _ _ (λ found later. then_more c.args.first c.in_ok-first-in-Chain.first found (forms_of (first_in c.args.functions.now) c.in-Chain.head (within c.args.place)) (all_of (map (link_says (first_in c.args.functions.now)) c.in-Chain.rest) (within c.args.place)) (forms_of (first_in c.args.functions.now) c.args.command.now c.args.place)
    (ap (λ x. forms_of (first_in c.args.functions.now) x c.args.place) c.in-Chain.is ∙ forms_chain (first_in c.args.functions.now) c.in-Chain.head c.in-Chain.rest c.args.place)
    (moved c.args.first c.in_ok-first-in-Chain.first (forms_of (first_in c.args.functions.now)) _ _ _ _ c.in_ok-first-in-Chain.ensures c.get-in-Chain.ensures c.within-in-Chain.ensures)
    (moved c.in_ok-first-in-Chain.first found (λ ls. all_of (map (link_says (first_in c.args.functions.now)) ls)) _ _ _ _ later c.as_slice-in-Chain.ensures c.within-in-Chain-2.ensures)) c.in_links.ensures

pub in_command-returns-in-Some : goal.in_command-returns-in-Some
in_command-returns-in-Some t c =
    IfOk-weaker c.in_command-in-Some.result _ _ (λ found later. then_more c.args.first c.in_ok-first-in-If.first found (in_arms (map (if_arm_says (first_in c.args.functions.now)) c.in-If.arms) (within c.args.place)) (forms_of (first_in c.args.functions.now) c.in-Some.body (within c.args.place)) (forms_of (first_in c.args.functions.now) c.args.command.now c.args.place)
    (ap (λ x. forms_of (first_in c.args.functions.now) x c.args.place) c.in-If.is ∙ ap (λ o. forms_of (first_in c.args.functions.now) (v.If c.in-If.at c.in-If.arms o) c.args.place) c.in-Some.is ∙ forms_if (first_in c.args.functions.now) c.in-If.at c.in-If.arms c.in-Some.body c.args.place)
    (moved c.args.first c.in_ok-first-in-If.first (λ xs. in_arms (map (if_arm_says (first_in c.args.functions.now)) xs)) _ _ _ _ c.in_ok-first-in-If.ensures c.as_slice-in-If.ensures c.within-in-If.ensures)
    (moved c.in_ok-first-in-If.first found (forms_of (first_in c.args.functions.now)) _ _ _ _ later c.get-in-Some.ensures c.within-in-Some.ensures)) c.in_command-in-Some.ensures

pub in_command-returns-in_ok-first-in-While : goal.in_command-returns-in_ok-first-in-While
in_command-returns-in_ok-first-in-While t c =
    IfOk-weaker c.in_command-in-While-2.result _ _ (λ found later. then_more c.args.first c.in_ok-first-in-While.first found (forms_of (first_in c.args.functions.now) c.in-While.cond (looped c.args.place)) (forms_of (first_in c.args.functions.now) c.in-While.body (looped c.args.place)) (forms_of (first_in c.args.functions.now) c.args.command.now c.args.place)
    (ap (λ x. forms_of (first_in c.args.functions.now) x c.args.place) c.in-While.is ∙ forms_while (first_in c.args.functions.now) c.in-While.at c.in-While.until c.in-While.cond c.in-While.body c.args.place)
    (moved c.args.first c.in_ok-first-in-While.first (forms_of (first_in c.args.functions.now)) _ _ _ _ c.in_ok-first-in-While.ensures c.get-in-While.ensures c.looped-in-While.ensures)
    (moved c.in_ok-first-in-While.first found (forms_of (first_in c.args.functions.now)) _ _ _ _ later c.get-in-While-2.ensures c.looped-in-While-2.ensures)) c.in_command-in-While-2.ensures

pub in_command-returns-in_ok-first-in-Case : goal.in_command-returns-in_ok-first-in-Case
in_command-returns-in_ok-first-in-Case t c =
    IfOk-weaker c.in_case_arms.result _ _ (λ found later. then_more c.args.first c.in_ok-first-in-Case.first found (in_pattern (word_says (first_in c.args.functions.now) c.in-Case.subject) c.args.place) (in_case_arms (map (case_arm_says (first_in c.args.functions.now)) c.in-Case.arms) (within c.args.place)) (forms_of (first_in c.args.functions.now) c.args.command.now c.args.place)
    (ap (λ x. forms_of (first_in c.args.functions.now) x c.args.place) c.in-Case.is ∙ forms_case (first_in c.args.functions.now) c.in-Case.at c.in-Case.subject c.in-Case.arms c.args.place)
    c.in_ok-first-in-Case.ensures
    (moved c.in_ok-first-in-Case.first found (λ xs. in_case_arms (map (case_arm_says (first_in c.args.functions.now)) xs)) _ _ _ _ later c.as_slice-in-Case.ensures c.within-in-Case.ensures)) c.in_case_arms.ensures

pub in_command-returns-in-Define : goal.in_command-returns-in-Define
in_command-returns-in-Define t c =
    IfOk-weaker c.in_command-in-Define.result _ _ (λ found later. then_more c.args.first c.define_forms-first.result found (define_forms (first_in c.args.functions.now) c.in-Define.at c.in-Define.name c.args.place) (forms_of (first_in c.args.functions.now) c.in-Define.body (function_body c.in-Define.at)) (forms_of (first_in c.args.functions.now) c.args.command.now c.args.place)
    (ap (λ x. forms_of (first_in c.args.functions.now) x c.args.place) c.in-Define.is ∙ forms_define (first_in c.args.functions.now) c.in-Define.at c.in-Define.name c.in-Define.body c.args.place)
    c.define_forms-first.ensures
    (moved c.define_forms-first.result found (forms_of (first_in c.args.functions.now)) _ _ _ _ later c.get-in-Define.ensures c.function_body.ensures)) c.in_command-in-Define.ensures

pub in_command-returns-in-None-words : goal.in_command-returns-in-None-words
in_command-returns-in-None-words t c =
    IfOk-weaker c.in_command-in-None-words.result _ _ (λ found later. then_more c.args.first c.found_if-first.result found
    (when (bytes_eq c.in-For.name (codes "IFS")) form.Ifs c.in-For.at) (forms_of (first_in c.args.functions.now) c.in-For.body (looped c.args.place)) (forms_of (first_in c.args.functions.now) c.args.command.now c.args.place)
    (ap (λ x. forms_of (first_in c.args.functions.now) x c.args.place) c.in-For.is ∙ ap (λ o. forms_of (first_in c.args.functions.now) (v.For c.in-For.at c.in-For.name o c.in-For.body) c.args.place) c.in-None-words.is
    ∙ forms_for_none (first_in c.args.functions.now) c.in-For.at c.in-For.name c.in-For.body c.args.place)
    (c.found_if-first.ensures ∙ ap (λ b. soonest c.args.first (when b form.Ifs c.in-For.at))
    (c.is.ensures ∙ ap (λ n. bytes_eq n (codes "IFS")) c.as_slice-in-For.ensures))
    (moved c.found_if-first.result found (forms_of (first_in c.args.functions.now)) _ _ _ _ later c.get-in-None-words.ensures c.looped.ensures)) c.in_command-in-None-words.ensures

pub in_command-returns-in_ok-first-in-Some-words : goal.in_command-returns-in_ok-first-in-Some-words
in_command-returns-in_ok-first-in-Some-words t c =
    IfOk-weaker c.in_command-in-Some-words.result _ _ (λ found later. then_more c.args.first c.found_if-first.result found
    (when (bytes_eq c.in-For.name (codes "IFS")) form.Ifs c.in-For.at)
    (in_words (map (word_says (first_in c.args.functions.now)) c.in-Some-words.words) c.args.place ++ forms_of (first_in c.args.functions.now) c.in-For.body (looped c.args.place)) (forms_of (first_in c.args.functions.now) c.args.command.now c.args.place)
    (ap (λ x. forms_of (first_in c.args.functions.now) x c.args.place) c.in-For.is ∙ ap (λ o. forms_of (first_in c.args.functions.now) (v.For c.in-For.at c.in-For.name o c.in-For.body) c.args.place) c.in-Some-words.is
    ∙ forms_for_some (first_in c.args.functions.now) c.in-For.at c.in-For.name c.in-Some-words.words c.in-For.body c.args.place)
    (c.found_if-first.ensures ∙ ap (λ b. soonest c.args.first (when b form.Ifs c.in-For.at))
    (c.is.ensures ∙ ap (λ n. bytes_eq n (codes "IFS")) c.as_slice-in-For.ensures))
    (then_more c.found_if-first.result c.in_ok-first-in-Some-words.first found
    (in_words (map (word_says (first_in c.args.functions.now)) c.in-Some-words.words) c.args.place) (forms_of (first_in c.args.functions.now) c.in-For.body (looped c.args.place))
    (in_words (map (word_says (first_in c.args.functions.now)) c.in-Some-words.words) c.args.place ++ forms_of (first_in c.args.functions.now) c.in-For.body (looped c.args.place)) refl
    (moved c.found_if-first.result c.in_ok-first-in-Some-words.first (λ ws. in_words (map (word_says (first_in c.args.functions.now)) ws)) _ _ c.args.place c.args.place
    c.in_ok-first-in-Some-words.ensures c.as_slice-in-Some-words.ensures refl)
    (moved c.in_ok-first-in-Some-words.first found (forms_of (first_in c.args.functions.now)) _ _ _ _ later c.get-in-Some-words.ensures c.looped-in-Some-words.ensures)))
    c.in_command-in-Some-words.ensures

pub in_command-returns-in_ok-first-in-Simple-2 : goal.in_command-returns-in_ok-first-in-Simple-2
in_command-returns-in_ok-first-in-Simple-2 t c =
    IfOk-weaker c.in_words.result _ _ (λ found later. then_more c.args.first c.in_ok-first-in-Simple.first found
    (simple_forms (first_in c.args.functions.now) c.in-Simple.at (map (assign_says (first_in c.args.functions.now)) c.in-Simple.assigns) (map (word_says (first_in c.args.functions.now)) c.in-Simple.words) c.args.place)
    (in_assigns (map (assign_says (first_in c.args.functions.now)) c.in-Simple.assigns) c.args.place ++ in_words (map (word_says (first_in c.args.functions.now)) c.in-Simple.words) c.args.place) (forms_of (first_in c.args.functions.now) c.args.command.now c.args.place)
    (ap (λ x. forms_of (first_in c.args.functions.now) x c.args.place) c.in-Simple.is ∙ forms_simple (first_in c.args.functions.now) c.in-Simple.at c.in-Simple.assigns c.in-Simple.words c.args.place)
    (c.in_ok-first-in-Simple.ensures
    ∙ ap (λ xs. soonest c.args.first (simple_forms (first_in c.args.functions.now) c.in-Simple.at (map (assign_says (first_in c.args.functions.now)) xs) (map (word_says (first_in c.args.functions.now)) c.as_slice-words.result.now) c.args.place)) c.as_slice-assigns.ensures
    ∙ ap (λ ws. soonest c.args.first (simple_forms (first_in c.args.functions.now) c.in-Simple.at (map (assign_says (first_in c.args.functions.now)) c.in-Simple.assigns) (map (word_says (first_in c.args.functions.now)) ws) c.args.place)) c.as_slice-words.ensures)
    (then_more c.in_ok-first-in-Simple.first c.in_ok-first-in-Simple-2.first found
    (in_assigns (map (assign_says (first_in c.args.functions.now)) c.in-Simple.assigns) c.args.place) (in_words (map (word_says (first_in c.args.functions.now)) c.in-Simple.words) c.args.place)
    (in_assigns (map (assign_says (first_in c.args.functions.now)) c.in-Simple.assigns) c.args.place ++ in_words (map (word_says (first_in c.args.functions.now)) c.in-Simple.words) c.args.place) refl
    (moved c.in_ok-first-in-Simple.first c.in_ok-first-in-Simple-2.first (λ xs. in_assigns (map (assign_says (first_in c.args.functions.now)) xs)) _ _ c.args.place c.args.place c.in_ok-first-in-Simple-2.ensures c.as_slice-assigns.ensures refl)
    (moved c.in_ok-first-in-Simple-2.first found (λ ws. in_words (map (word_says (first_in c.args.functions.now)) ws)) _ _ c.args.place c.args.place later c.as_slice-words.ensures refl)))
    c.in_words.ensures

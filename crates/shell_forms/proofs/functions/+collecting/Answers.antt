use Rattle.std.proofs.Common.{ap, sym, ◌∙◌, arith}
use Rattle.std.proofs.lemmas.Result.{on_ok_weaker}
use Rattle.shell_syntax.specs.declared.syntax.Command.TheVariants as v
use Rattle.shell_forms.specs.Functions.{definitions, part_definitions, assign_definitions, case_arm_definitions, if_arm_definitions, link_definitions, word_definitions}
use Rattle.shell_forms.specs.Known.{first_in}
use Rattle.shell_forms.proofs.Known.{adds_both, adds_more, adds_all, adds_same, adds_of}
use Rattle.shell_forms.proofs.Definitions.{in_simple, in_chain, in_if, in_for, in_while, in_case, in_assign, in_case_arm, in_if_arm, in_link, in_word}
use Rattle.shell_forms.proofs.functions.+collecting.Goals as goal

pub add_word-loop-part-preserved : goal.add_word-loop-part-preserved
add_word-loop-part-preserved t c =
    adds_more part_definitions (first_in c.args.functions.now) (first_in c.loop-part.functions) (first_in c.add_part.new.functions) c.as_slice-part-items.result.now
    c.loop-part.part-index c.part-item.result c.loop-part-test.true c.part-item.is c.loop-part.invariant (c.in_ok-add_part.ensures)

pub add_words-loop-word-preserved : goal.add_words-loop-word-preserved
add_words-loop-word-preserved t c =
    adds_more word_definitions (first_in c.args.functions.now) (first_in c.loop-word.functions) (first_in c.add_word.new.functions) c.args.words.now
    c.loop-word.word-index c.word-item.result c.loop-word-test.true c.word-item.is c.loop-word.invariant (c.in_ok-add_word.ensures)

pub add_assigns-loop-assign-preserved : goal.add_assigns-loop-assign-preserved
add_assigns-loop-assign-preserved t c =
    adds_more assign_definitions (first_in c.args.functions.now) (first_in c.loop-assign.functions) (first_in c.add_word.new.functions) c.args.assigns.now
    c.loop-assign.assign-index c.assign-item.result c.loop-assign-test.true c.assign-item.is c.loop-assign.invariant
    (adds_same _ _ _ _ (in_assign c.assign-item.result) (c.in_ok-add_word.ensures))

pub add_commands-loop-command-preserved : goal.add_commands-loop-command-preserved
add_commands-loop-command-preserved t c =
    adds_more definitions (first_in c.args.functions.now) (first_in c.loop-command.functions) (first_in c.add_command.new.functions) c.args.commands.now
    c.loop-command.command-index c.command-item.result c.loop-command-test.true c.command-item.is c.loop-command.invariant (c.in_ok-add_command.ensures)

pub add_links-loop-link-preserved : goal.add_links-loop-link-preserved
add_links-loop-link-preserved t c =
    adds_more link_definitions (first_in c.args.functions.now) (first_in c.loop-link.functions) (first_in c.add_command.new.functions) c.args.links.now
    c.loop-link.link-index c.link-item.result c.loop-link-test.true c.link-item.is c.loop-link.invariant
    (adds_same _ _ _ _ (in_link c.link-item.result) (c.in_ok-add_command.ensures))

pub add_arms-loop-arm-preserved : goal.add_arms-loop-arm-preserved
add_arms-loop-arm-preserved t c =
    adds_more if_arm_definitions (first_in c.args.functions.now) (first_in c.loop-arm.functions) (first_in c.add_command-in-loop-arm.new.functions) c.args.arms.now
    c.loop-arm.arm-index c.arm-item.result c.loop-arm-test.true c.arm-item.is c.loop-arm.invariant
    (adds_both (first_in c.loop-arm.functions) (first_in c.add_command.new.functions) (first_in c.add_command-in-loop-arm.new.functions) _ _ _ (in_if_arm c.arm-item.result) (c.in_ok-add_command.ensures) (c.in_ok-add_command-2.ensures))

pub add_case_arms-loop-arm-preserved : goal.add_case_arms-loop-arm-preserved
add_case_arms-loop-arm-preserved t c =
    adds_more case_arm_definitions (first_in c.args.functions.now) (first_in c.loop-arm.functions) (first_in c.add_command.new.functions) c.args.arms.now
    c.loop-arm.arm-index c.arm-item.result c.loop-arm-test.true c.arm-item.is c.loop-arm.invariant
    (adds_both (first_in c.loop-arm.functions) (first_in c.add_words.new.functions) (first_in c.add_command.new.functions) _ _ _ (in_case_arm c.arm-item.result)
    (adds_of word_definitions _ _ _ _ c.as_slice.ensures (c.in_ok-add_words.ensures))
    (c.in_ok-add_command.ensures))

pub add_word-returns : goal.add_word-returns
add_word-returns t c =
    adds_same _ _ _ _ (in_word c.args.word.now)
    (adds_of part_definitions _ _ _ _ c.as_slice-part-items.ensures
    (adds_all part_definitions (first_in c.args.functions.now) (first_in c.loop-part.functions) _ c.loop-part.part-index (omega (arith, c.loop-part-test.false)) c.loop-part.invariant))

pub add_command-returns-in_ok-add_assigns-in-Simple : goal.add_command-returns-in_ok-add_assigns-in-Simple
add_command-returns-in_ok-add_assigns-in-Simple t c =
    on_ok_weaker _ (λ later. adds_both (first_in c.args.functions.now) (first_in c.add_assigns.new.functions) (first_in c.add_words.new.functions) _ _ _
    (ap definitions c.in-Simple.is ∙ in_simple c.in-Simple.at c.in-Simple.assigns c.in-Simple.words)
    (adds_of assign_definitions _ _ _ _ c.as_slice.ensures (c.in_ok-add_assigns-in-Simple.ensures))
    (adds_of word_definitions _ _ _ _ c.as_slice-in-Simple.ensures later)) c.add_words.ensures

pub add_command-returns-in_ok-add_command-in-Chain : goal.add_command-returns-in_ok-add_command-in-Chain
add_command-returns-in_ok-add_command-in-Chain t c =
    on_ok_weaker _ (λ later. adds_both (first_in c.args.functions.now) (first_in c.add_command-in-Chain.new.functions) (first_in c.add_links.new.functions) _ _ _
    (ap definitions c.in-Chain.is ∙ in_chain c.in-Chain.first c.in-Chain.rest)
    (adds_same _ _ _ _ (ap definitions (sym c.get-in-Chain.ensures)) (c.in_ok-add_command-in-Chain.ensures))
    (adds_of link_definitions _ _ _ _ c.as_slice-in-Chain.ensures later)) c.add_links.ensures

pub add_command-returns-in-Some : goal.add_command-returns-in-Some
add_command-returns-in-Some t c =
    on_ok_weaker _ (λ later. adds_both (first_in c.args.functions.now) (first_in c.add_arms.new.functions) (first_in c.add_command-in-Some.new.functions) _ _ _
    (ap definitions c.in-If.is ∙ ap (λ o. definitions (v.If c.in-If.at c.in-If.arms o)) c.in-Some.is ∙ in_if c.in-If.at c.in-If.arms c.in-Some.body)
    (adds_of if_arm_definitions _ _ _ _ c.as_slice-in-If.ensures c.in_ok-add_arms-in-If.ensures)
    (adds_same _ _ _ _ (ap definitions (sym c.get-in-Some.ensures)) later)) c.add_command-in-Some.ensures

pub add_command-returns-in_ok-add_command-in-While : goal.add_command-returns-in_ok-add_command-in-While
add_command-returns-in_ok-add_command-in-While t c =
    on_ok_weaker _ (λ later. adds_both (first_in c.args.functions.now) (first_in c.add_command-in-While.new.functions) (first_in c.add_command-in-While-2.new.functions) _ _ _
    (ap definitions c.in-While.is ∙ in_while c.in-While.at c.in-While.until c.in-While.cond c.in-While.body)
    (adds_same _ _ _ _ (ap definitions (sym c.get-in-While.ensures)) c.in_ok-add_command-in-While.ensures)
    (adds_same _ _ _ _ (ap definitions (sym c.get-in-While-2.ensures)) later)) c.add_command-in-While-2.ensures

pub add_command-returns-in_ok-add_word-in-Case : goal.add_command-returns-in_ok-add_word-in-Case
add_command-returns-in_ok-add_word-in-Case t c =
    on_ok_weaker _ (λ later. adds_both (first_in c.args.functions.now) (first_in c.add_word.new.functions) (first_in c.add_case_arms.new.functions) _ _ _
    (ap definitions c.in-Case.is ∙ in_case c.in-Case.at c.in-Case.subject c.in-Case.arms)
    c.in_ok-add_word-in-Case.ensures
    (adds_of case_arm_definitions _ _ _ _ c.as_slice-in-Case.ensures later)) c.add_case_arms.ensures

pub add_command-returns-in_ok-add_words-in-Some-words : goal.add_command-returns-in_ok-add_words-in-Some-words
add_command-returns-in_ok-add_words-in-Some-words t c =
    on_ok_weaker _ (λ later. adds_both (first_in c.args.functions.now) (first_in c.add_words-in-Some-words.new.functions) (first_in c.add_command-in-Some-words.new.functions) _ _ _
    (ap definitions c.in-For.is ∙ ap (λ o. definitions (v.For c.in-For.at c.in-For.name o c.in-For.body)) c.in-Some-words.is ∙ in_for c.in-For.at c.in-For.name c.in-Some-words.words c.in-For.body)
    (adds_of word_definitions _ _ _ _ c.as_slice-in-Some-words.ensures c.in_ok-add_words-in-Some-words.ensures)
    (adds_same _ _ _ _ (ap definitions (sym c.get-in-Some-words.ensures)) later)) c.add_command-in-Some-words.ensures

use Rattle.std.proofs.Common.{◌≡◌, List, ◌++◌, Option, codes, ap, ◌∙◌, refl, sym}
use Rattle.std.proofs.lemmas.Result.{on_ok_weaker}
use Rattle.std.specs.List.{flat_map}
use Rattle.shell_syntax.specs.declared.syntax.Assign.{Assign}
use Rattle.shell_syntax.specs.declared.syntax.CaseArm.{CaseArm, out-CaseArm}
use Rattle.shell_syntax.specs.declared.syntax.IfArm.{IfArm}
use Rattle.shell_syntax.specs.declared.syntax.Word.{Word}
use Rattle.shell_syntax.specs.declared.syntax.Link.{Link}
use Rattle.shell_syntax.specs.declared.syntax.Command.{Command}
use Rattle.shell_syntax.specs.declared.syntax.Command.TheVariants as v
use Rattle.shell_syntax.specs.declared.level.Level.TheVariants as level
use Rattle.shell_syntax.specs.PrintedParts.{Text}
use Rattle.shell_syntax.specs.Printed.{printed, placed, assign_text, word_text, further_text, arm_text, condition_text, spaced, between, if_head, else_text, for_head, in_words, do_text, loop_head, case_head, arms_text, arm_head, arm_body}
use Rattle.shell_syntax.proofs.Layers.{two_of, three_of, text_simple, text_chain, text_if_else, text_for, text_for_in, text_while, text_case, text_arm}
use Rattle.shell_syntax.proofs.printing.+printing.Goals as goal

-- ---- texts of members, by what is gone over

abbrev assigns_text : List Assign → Text
assigns_text assigns = flat_map (λ assign. spaced (assign_text assign)) assigns

abbrev words_text : List Word → Text
words_text words = flat_map (λ word. spaced (word_text word)) words

abbrev conditions_text : List IfArm → Text
conditions_text arms = if_head (between (codes "\n elif") condition_text arms)

abbrev patterns_text : List Word → Text
patterns_text words = arm_head (between (codes " |") (λ word. spaced (word_text word)) words)

abbrev own_text : Command → Text
own_text command = (printed command).text

pub put_command-returns-in_ok-put_assigns-in-Simple : goal.put_command-returns-in_ok-put_assigns-in-Simple
put_command-returns-in_ok-put_assigns-in-Simple t c =
    on_ok_weaker c.put_words.result
    (λ last. two_of assigns_text words_text c.args.text.now c.put_assigns.new.text c.put_words.new.text (own_text c.args.command.now)
    c.as_slice.result.now c.in-Simple.assigns c.as_slice-in-Simple.result.now c.in-Simple.words
    c.in_ok-put_assigns-in-Simple.ensures last
    (ap own_text c.in-Simple.is ∙ text_simple c.in-Simple.at c.in-Simple.assigns c.in-Simple.words)
    c.as_slice.ensures c.as_slice-in-Simple.ensures)
    c.put_words.ensures

pub put_command-returns-in_ok-put_placed-in-Chain : goal.put_command-returns-in_ok-put_placed-in-Chain
put_command-returns-in_ok-put_placed-in-Chain t c =
    on_ok_weaker c.put_links.result
    (λ last. two_of (λ (x : Command). placed level.Pipeline (printed x)) (λ (ls : List Link). flat_map further_text ls)
    c.args.text.now c.put_placed.new.text c.put_links.new.text (own_text c.args.command.now)
    c.get-in-Chain.result.now c.in-Chain.first c.as_slice-in-Chain.result.now c.in-Chain.rest
    c.in_ok-put_placed-in-Chain.ensures last
    (ap own_text c.in-Chain.is ∙ text_chain c.in-Chain.first c.in-Chain.rest)
    c.get-in-Chain.ensures c.as_slice-in-Chain.ensures)
    c.put_links.ensures

pub put_command-returns-in_ok-put_if_head-in-Some : goal.put_command-returns-in_ok-put_if_head-in-Some
put_command-returns-in_ok-put_if_head-in-Some t c =
    on_ok_weaker c.put_else.result
    (λ last. two_of conditions_text (λ (x : Command). else_text (own_text x))
    c.args.text.now c.put_if_head.new.text c.put_else.new.text (own_text c.args.command.now)
    c.as_slice-in-Some.result.now c.in-If.arms c.get-in-Some.result.now c.in-Some.body
    c.in_ok-put_if_head-in-Some.ensures last
    (ap own_text c.in-If.is ∙ ap (λ (o : Option Command). own_text (v.If c.in-If.at c.in-If.arms o)) c.in-Some.is
    ∙ text_if_else c.in-If.at c.in-If.arms c.in-Some.body)
    c.as_slice-in-Some.ensures c.get-in-Some.ensures)
    c.put_else.ensures

pub put_command-returns-in_ok-put_for-in-None-words : goal.put_command-returns-in_ok-put_for-in-None-words
put_command-returns-in_ok-put_for-in-None-words t c =
    on_ok_weaker c.put_do.result
    (λ last. two_of for_head (λ (x : Command). do_text (own_text x))
    c.args.text.now c.put_for.new.text c.put_do.new.text (own_text c.args.command.now)
    c.as_slice-in-None-words.result.now c.in-For.name c.get-in-None-words.result.now c.in-For.body
    c.in_ok-put_for-in-None-words.ensures last
    (ap own_text c.in-For.is ∙ ap (λ (o : Option (List Word)). own_text (v.For c.in-For.at c.in-For.name o c.in-For.body)) c.in-None-words.is
    ∙ text_for c.in-For.at c.in-For.name c.in-For.body)
    c.as_slice-in-None-words.ensures c.get-in-None-words.ensures)
    c.put_do.ensures

pub put_command-returns-in_ok-put_in-in-Some-words : goal.put_command-returns-in_ok-put_in-in-Some-words
put_command-returns-in_ok-put_in-in-Some-words t c =
    on_ok_weaker c.put_do-in-Some-words.result
    (λ last. three_of for_head (λ (ws : List Word). in_words (words_text ws)) (λ (x : Command). do_text (own_text x))
    c.args.text.now c.put_for-in-Some-words.new.text c.put_in.new.text c.put_do-in-Some-words.new.text (own_text c.args.command.now)
    c.as_slice-in-Some-words.result.now c.in-For.name c.as_slice-in-Some-words-2.result.now c.in-Some-words.words
    c.get-in-Some-words.result.now c.in-For.body
    c.in_ok-put_for-in-Some-words.ensures c.in_ok-put_in-in-Some-words.ensures last
    (ap own_text c.in-For.is ∙ ap (λ (o : Option (List Word)). own_text (v.For c.in-For.at c.in-For.name o c.in-For.body)) c.in-Some-words.is
    ∙ text_for_in c.in-For.at c.in-For.name c.in-Some-words.words c.in-For.body)
    c.as_slice-in-Some-words.ensures c.as_slice-in-Some-words-2.ensures c.get-in-Some-words.ensures)
    c.put_do-in-Some-words.ensures

pub put_command-returns-in_ok-put_loop_head-in-While : goal.put_command-returns-in_ok-put_loop_head-in-While
put_command-returns-in_ok-put_loop_head-in-While t c =
    on_ok_weaker c.put_do-in-While.result
    (λ last. two_of (λ (x : Command). loop_head c.in-While.until (own_text x)) (λ (x : Command). do_text (own_text x))
    c.args.text.now c.put_loop_head.new.text c.put_do-in-While.new.text (own_text c.args.command.now)
    c.get-in-While.result.now c.in-While.cond c.get-in-While-2.result.now c.in-While.body
    c.in_ok-put_loop_head-in-While.ensures last
    (ap own_text c.in-While.is ∙ text_while c.in-While.at c.in-While.until c.in-While.cond c.in-While.body)
    c.get-in-While.ensures c.get-in-While-2.ensures)
    c.put_do-in-While.ensures

pub put_command-returns-in_ok-put_case_head-in-Case : goal.put_command-returns-in_ok-put_case_head-in-Case
put_command-returns-in_ok-put_case_head-in-Case t c =
    on_ok_weaker c.put_arms.result
    (λ last. two_of (λ (w : Word). case_head (word_text w)) (λ (arms : List CaseArm). arms_text (flat_map arm_text arms))
    c.args.text.now c.put_case_head.new.text c.put_arms.new.text (own_text c.args.command.now)
    c.in-Case.subject c.in-Case.subject c.as_slice-in-Case.result.now c.in-Case.arms
    c.in_ok-put_case_head-in-Case.ensures last
    (ap own_text c.in-Case.is ∙ text_case c.in-Case.at c.in-Case.subject c.in-Case.arms)
    refl c.as_slice-in-Case.ensures)
    c.put_arms.ensures

pub put_case_arm-returns : goal.put_case_arm-returns
put_case_arm-returns t c =
    on_ok_weaker c.put_arm_body.result
    (λ last. two_of patterns_text (λ (x : Command). arm_body (own_text x))
    c.args.text.now c.put_arm_head.new.text c.put_arm_body.new.text (arm_text c.args.arm.now)
    c.as_slice.result.now (out-CaseArm c.args.arm.now).patterns (out-CaseArm c.args.arm.now).body (out-CaseArm c.args.arm.now).body
    c.in_ok-put_arm_head.ensures last (text_arm c.args.arm.now) c.as_slice.ensures refl)
    c.put_arm_body.ensures

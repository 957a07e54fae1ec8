use Rattle.std.proofs.Common.{refl, ap, sym, ◌∙◌, arith, map, ◌∷◌, []}
use Rattle.std.proofs.lemmas.Result.{on_ok_weaker}
use Rattle.std.proofs.lemmas.List.{take_all}
use Rattle.std.specs.List.{flat_map}
use Rattle.shell_syntax.specs.declared.syntax.Command.TheVariants as v
use Rattle.settled_commands.specs.Seen.{commands_in, part_seen, head}
use Rattle.settled_commands.specs.SeenParts.{words_commands, words_parts, assigns_commands, links_commands, arms_commands, case_arms_commands}
use Rattle.settled_commands.proofs.Behind.{both, same}
use Rattle.settled_commands.proofs.Layers.{simple_added, in_pipe, in_chain, in_seq, in_if_alone, in_if, in_for_alone, in_for, in_while, in_case, word_parts, word_commands}
use Rattle.settled_commands.proofs.seeing.+seeing.Goals as goal

pub see_command-returns-in_ok-words-in-Simple : goal.see_command-returns-in_ok-words-in-Simple
see_command-returns-in_ok-words-in-Simple t c =
    on_ok_weaker _ (λ later. simple_added c.args.seen.now c.see_assigns.new.seen c.see_words.new.seen c.add.new.self c.in-Simple.at c.in-Simple.assigns c.in-Simple.words _ _ c.args.command.now
    c.in-Simple.is
    (same _ _ _ _ (ap assigns_commands (sym c.as_slice.ensures)) c.in_ok-assigned-in-Simple.ensures.commands)
    (same _ _ _ _ (ap words_commands (sym c.as_slice-in-Simple.ensures)) c.in_ok-words-in-Simple.ensures.commands)
    (c.in_ok-assigned-in-Simple.ensures.names ∙ ap (map (λ assign. assign.name)) c.as_slice.ensures)
    (c.in_ok-words-in-Simple.ensures.words ∙ ap words_parts c.as_slice-in-Simple.ensures)
    later) c.add.ensures.ok

pub see_command-returns-in-Pipe : goal.see_command-returns-in-Pipe
see_command-returns-in-Pipe t c =
    on_ok_weaker _ (λ later. same c.args.seen.now c.see_commands.new.seen _ _
    (ap commands_in c.in-Pipe.is ∙ in_pipe c.in-Pipe.at c.in-Pipe.parts ∙ ap (flat_map commands_in) (sym c.as_slice-in-Pipe.ensures)) later)
    c.see_commands.ensures

pub see_command-returns-in-Seq : goal.see_command-returns-in-Seq
see_command-returns-in-Seq t c =
    on_ok_weaker _ (λ later. same c.args.seen.now c.see_commands-in-Seq.new.seen _ _
    (ap commands_in c.in-Seq.is ∙ in_seq c.in-Seq.parts ∙ ap (flat_map commands_in) (sym c.as_slice-in-Seq.ensures)) later)
    c.see_commands-in-Seq.ensures

pub see_command-returns-in_ok-see_command-in-Chain : goal.see_command-returns-in_ok-see_command-in-Chain
see_command-returns-in_ok-see_command-in-Chain t c =
    on_ok_weaker _ (λ later. both c.args.seen.now c.see_command-in-Chain.new.seen c.see_links.new.seen _ _ _
    (ap commands_in c.in-Chain.is ∙ in_chain c.in-Chain.first c.in-Chain.rest)
    (same _ _ _ _ (ap commands_in (sym c.get-in-Chain.ensures)) c.in_ok-see_command-in-Chain.ensures)
    (same _ _ _ _ (ap links_commands (sym c.as_slice-in-Chain.ensures)) later)) c.see_links.ensures

pub see_command-returns-in-None : goal.see_command-returns-in-None
see_command-returns-in-None t c =
    same _ _ _ _
    (ap commands_in c.in-If.is ∙ ap (λ o. commands_in (v.If c.in-If.at c.in-If.arms o)) c.in-None.is ∙ in_if_alone c.in-If.at c.in-If.arms
    ∙ ap arms_commands (sym c.as_slice-in-If.ensures)) c.in_ok-see_arms-in-If.ensures

pub see_command-returns-in-Some : goal.see_command-returns-in-Some
see_command-returns-in-Some t c =
    on_ok_weaker _ (λ later. both c.args.seen.now c.see_arms.new.seen c.see_command-in-Some.new.seen _ _ _
    (ap commands_in c.in-If.is ∙ ap (λ o. commands_in (v.If c.in-If.at c.in-If.arms o)) c.in-Some.is ∙ in_if c.in-If.at c.in-If.arms c.in-Some.body)
    (same _ _ _ _ (ap arms_commands (sym c.as_slice-in-If.ensures)) c.in_ok-see_arms-in-If.ensures)
    (same _ _ _ _ (ap commands_in (sym c.get-in-Some.ensures)) later)) c.see_command-in-Some.ensures

pub see_command-returns-in-None-words : goal.see_command-returns-in-None-words
see_command-returns-in-None-words t c =
    on_ok_weaker _ (λ later. both c.args.seen.now c.see_head.new.seen c.see_command-in-None-words.new.seen (head c.in-For.name ∷ []) _ _
    (ap commands_in c.in-For.is ∙ ap (λ o. commands_in (v.For c.in-For.at c.in-For.name o c.in-For.body)) c.in-None-words.is
    ∙ in_for_alone c.in-For.at c.in-For.name c.in-For.body)
    c.in_ok-see_head-in-For.ensures
    (same _ _ _ _ (ap commands_in (sym c.get-in-None-words.ensures)) later)) c.see_command-in-None-words.ensures

pub see_command-returns-in_ok-_words-in-Some-words : goal.see_command-returns-in_ok-_words-in-Some-words
see_command-returns-in_ok-_words-in-Some-words t c =
    on_ok_weaker _ (λ later. both c.args.seen.now c.see_head.new.seen c.see_command-in-Some-words.new.seen (head c.in-For.name ∷ []) _ _
    (ap commands_in c.in-For.is ∙ ap (λ o. commands_in (v.For c.in-For.at c.in-For.name o c.in-For.body)) c.in-Some-words.is
    ∙ in_for c.in-For.at c.in-For.name c.in-Some-words.words c.in-For.body)
    c.in_ok-see_head-in-For.ensures
    (both c.see_head.new.seen c.see_words-in-Some-words.new.seen c.see_command-in-Some-words.new.seen _ _ _ refl
    (same _ _ _ _ (ap words_commands (sym c.as_slice-in-Some-words.ensures)) c.in_ok-_words-in-Some-words.ensures.commands)
    (same _ _ _ _ (ap commands_in (sym c.get-in-Some-words.ensures)) later))) c.see_command-in-Some-words.ensures

pub see_command-returns-in_ok-see_command-in-While : goal.see_command-returns-in_ok-see_command-in-While
see_command-returns-in_ok-see_command-in-While t c =
    on_ok_weaker _ (λ later. both c.args.seen.now c.see_command-in-While.new.seen c.see_command-in-While-2.new.seen _ _ _
    (ap commands_in c.in-While.is ∙ in_while c.in-While.at c.in-While.until c.in-While.cond c.in-While.body)
    (same _ _ _ _ (ap commands_in (sym c.get-in-While.ensures)) c.in_ok-see_command-in-While.ensures)
    (same _ _ _ _ (ap commands_in (sym c.get-in-While-2.ensures)) later)) c.see_command-in-While-2.ensures

pub see_command-returns-in_ok-_parts-in-Case : goal.see_command-returns-in_ok-_parts-in-Case
see_command-returns-in_ok-_parts-in-Case t c =
    on_ok_weaker _ (λ later. both c.args.seen.now c.see_word.new.seen c.see_case_arms.new.seen _ _ _
    (ap commands_in c.in-Case.is ∙ in_case c.in-Case.at c.in-Case.subject c.in-Case.arms)
    c.in_ok-_parts-in-Case.ensures.commands
    (same _ _ _ _ (ap case_arms_commands (sym c.as_slice-in-Case.ensures)) later)) c.see_case_arms.ensures

pub see_word-returns-clause-parts : goal.see_word-returns-clause-parts
see_word-returns-clause-parts t c =
    c.loop-part.invariant.parts
    ∙ ap (map (λ p. (part_seen p).part)) (take_all c.loop-part.part-index c.as_slice-part-items.result.now (omega (arith, c.loop-part-test.false)) ∙ c.as_slice-part-items.ensures)
    ∙ sym (word_parts c.args.word.now)

pub see_word-returns-clause-commands : goal.see_word-returns-clause-commands
see_word-returns-clause-commands t c =
    same _ _ _ _
    (word_commands c.args.word.now
    ∙ ap (flat_map (λ p. (part_seen p).commands)) (sym (take_all c.loop-part.part-index c.as_slice-part-items.result.now (omega (arith, c.loop-part-test.false)) ∙ c.as_slice-part-items.ensures)))
    c.loop-part.invariant.commands

use Rattle.std.proofs.Common.{◌≡◌, ◌+◌, ◌*◌, take}
use Rattle.shell_syntax.specs.declared.syntax.Command.{size-Command}
use Rattle.shell_syntax.specs.declared.syntax.Command.TheVariants.{Simple, Redirected, Pipe, Not, Chain, Seq, If, For, While, Case, Sub, Define}
use Rattle.shell_syntax.proofs.copies.+copying.Given as goal

abbrev pub invariant-copy_word-loop-part : goal.invariant-copy_word-loop-part
invariant-copy_word-loop-part l = l.parts ≡ take l.part-index l.part-items

abbrev pub invariant-copy_words-loop-word : goal.invariant-copy_words-loop-word
invariant-copy_words-loop-word l = l.twins ≡ take l.word-index l.words

abbrev pub invariant-copy_assigns-loop-assign : goal.invariant-copy_assigns-loop-assign
invariant-copy_assigns-loop-assign l = l.twins ≡ take l.assign-index l.assigns

abbrev pub invariant-copy_commands-loop-command : goal.invariant-copy_commands-loop-command
invariant-copy_commands-loop-command l = l.twins ≡ take l.command-index l.commands

abbrev pub invariant-copy_links-loop-link : goal.invariant-copy_links-loop-link
invariant-copy_links-loop-link l = l.twins ≡ take l.link-index l.links

abbrev pub invariant-copy_arms-loop-arm : goal.invariant-copy_arms-loop-arm
invariant-copy_arms-loop-arm l = l.twins ≡ take l.arm-index l.arms

abbrev pub invariant-copy_case_arms-loop-arm : goal.invariant-copy_case_arms-loop-arm
invariant-copy_case_arms-loop-arm l = l.twins ≡ take l.arm-index l.arms

-- A function of one form goes down the command that its parts make; what is passed on whole is ranked below who passes it.

abbrev pub decreases-copy_command : goal.decreases-copy_command
decreases-copy_command l = 3 * goal.size-copy_command l + 1

abbrev pub decreases-copy_part : goal.decreases-copy_part
decreases-copy_part l = 3 * goal.size-copy_part l + 1

abbrev pub decreases-copy_word : goal.decreases-copy_word
decreases-copy_word l = 3 * goal.size-copy_word l + 1

abbrev pub decreases-copy_words : goal.decreases-copy_words
decreases-copy_words l = 3 * goal.size-copy_words l + 2

abbrev pub decreases-copy_assigns : goal.decreases-copy_assigns
decreases-copy_assigns l = 3 * goal.size-copy_assigns l + 2

abbrev pub decreases-copy_commands : goal.decreases-copy_commands
decreases-copy_commands l = 3 * goal.size-copy_commands l + 2

abbrev pub decreases-copy_links : goal.decreases-copy_links
decreases-copy_links l = 3 * goal.size-copy_links l + 2

abbrev pub decreases-copy_arms : goal.decreases-copy_arms
decreases-copy_arms l = 3 * goal.size-copy_arms l + 2

abbrev pub decreases-copy_case_arms : goal.decreases-copy_case_arms
decreases-copy_case_arms l = 3 * goal.size-copy_case_arms l + 2

abbrev pub decreases-copy_simple : goal.decreases-copy_simple
decreases-copy_simple l = 3 * size-Command (Simple l.at l.assigns.now l.words.now)

abbrev pub decreases-copy_redirected : goal.decreases-copy_redirected
decreases-copy_redirected l = 3 * size-Command (Redirected l.at l.body.now l.redirects.now)

abbrev pub decreases-copy_pipe : goal.decreases-copy_pipe
decreases-copy_pipe l = 3 * size-Command (Pipe l.at l.parts.now)

abbrev pub decreases-copy_seq : goal.decreases-copy_seq
decreases-copy_seq l = 3 * size-Command (Seq l.parts.now)

abbrev pub decreases-copy_not : goal.decreases-copy_not
decreases-copy_not l = 3 * size-Command (Not l.at l.body.now)

abbrev pub decreases-copy_chain : goal.decreases-copy_chain
decreases-copy_chain l = 3 * size-Command (Chain l.first.now l.rest.now)

abbrev pub decreases-copy_if : goal.decreases-copy_if
decreases-copy_if l = 3 * size-Command (If l.at l.arms.now l.otherwise.now)

abbrev pub decreases-copy_for : goal.decreases-copy_for
decreases-copy_for l = 3 * size-Command (For l.at l.name.now l.words.now l.body.now)

abbrev pub decreases-copy_while : goal.decreases-copy_while
decreases-copy_while l = 3 * size-Command (While l.at l.until l.cond.now l.body.now)

abbrev pub decreases-copy_case : goal.decreases-copy_case
decreases-copy_case l = 3 * size-Command (Case l.at l.subject.now l.arms.now)

abbrev pub decreases-copy_sub : goal.decreases-copy_sub
decreases-copy_sub l = 3 * size-Command (Sub l.at l.body.now)

abbrev pub decreases-copy_define : goal.decreases-copy_define
decreases-copy_define l = 3 * size-Command (Define l.at l.name.now l.body.now)

use Rattle.std.proofs.Common.{◌≡◌, ◌+◌, ◌*◌, map, take}
use Rattle.std.specs.List.{flat_map}
use Rattle.shell_syntax.specs.declared.syntax.Command.{size-Command}
use Rattle.shell_syntax.specs.declared.syntax.Command.TheVariants.{Simple, Chain, If, For, While, Case}
use Rattle.shell_to_colis.specs.Translated.{PartTo, translated, each, part_to, pieces_to, word_to, fields_to, assign_to, link_to, if_arm_to, case_arm_to}
use Rattle.shell_to_colis.proofs.statements.+translating.Given as goal

abbrev pub invariant-commands_of-loop-part : goal.invariant-commands_of-loop-part
invariant-commands_of-loop-part l = l.stmts ≡ each (map translated (take l.part-index l.commands)) l.defs

abbrev pub invariant-links_of-loop-link : goal.invariant-links_of-loop-link
invariant-links_of-loop-link l = l.parts ≡ each (map link_to (take l.link-index l.links)) l.defs

abbrev pub invariant-if_arms-loop-arm : goal.invariant-if_arms-loop-arm
invariant-if_arms-loop-arm l = l.parts ≡ each (map if_arm_to (take l.arm-index l.arms)) l.defs

abbrev pub invariant-case_arms-loop-arm : goal.invariant-case_arms-loop-arm
invariant-case_arms-loop-arm l = l.parts ≡ flat_map (λ arm. arm l.defs) (map case_arm_to (take l.arm-index l.arms))

abbrev pub invariant-patterns_of-loop-word : goal.invariant-patterns_of-loop-word
invariant-patterns_of-loop-word l = l.patterns ≡ map (λ word. pieces_to word l.defs) (map word_to (take l.word-index l.words))

abbrev pub invariant-sets_of-loop-assign : goal.invariant-sets_of-loop-assign
invariant-sets_of-loop-assign l = l.sets ≡ each (map assign_to (take l.assign-index l.assigns)) l.defs

abbrev pub invariant-fields_of-loop-word : goal.invariant-fields_of-loop-word
invariant-fields_of-loop-word l = l.fields ≡ fields_to (map word_to (take l.word-index l.words)) l.defs

abbrev pub invariant-pieces_of-loop-part : goal.invariant-pieces_of-loop-part
invariant-pieces_of-loop-part l = l.pieces ≡ pieces_to (map part_to (take l.part-index l.part-items)) l.defs

abbrev pub invariant-joined-loop-part : goal.invariant-joined-loop-part
invariant-joined-loop-part l = l.values ≡ map (λ (part : PartTo). part.value l.defs) (map part_to (take l.part-index l.part-items))

-- Each function goes down the syntax; what is passed on whole is ranked below who passes it.

abbrev pub decreases-value : goal.decreases-value
decreases-value l = 6 * goal.size-value l + 1

abbrev pub decreases-command : goal.decreases-command
decreases-command l = 6 * goal.size-command l + 2

abbrev pub decreases-boxed : goal.decreases-boxed
decreases-boxed l = 6 * goal.size-boxed l + 3

abbrev pub decreases-pieces_of : goal.decreases-pieces_of
decreases-pieces_of l = 6 * goal.size-pieces_of l + 1

abbrev pub decreases-joined : goal.decreases-joined
decreases-joined l = 6 * goal.size-joined l + 1

abbrev pub decreases-field : goal.decreases-field
decreases-field l = 6 * goal.size-field l + 2

abbrev pub decreases-fields_of : goal.decreases-fields_of
decreases-fields_of l = 6 * goal.size-fields_of l + 3

abbrev pub decreases-operands_of : goal.decreases-operands_of
decreases-operands_of l = 6 * goal.size-operands_of l + 4

abbrev pub decreases-patterns_of : goal.decreases-patterns_of
decreases-patterns_of l = 6 * goal.size-patterns_of l + 3

abbrev pub decreases-assignment : goal.decreases-assignment
decreases-assignment l = 6 * goal.size-assignment l + 1

abbrev pub decreases-sets_of : goal.decreases-sets_of
decreases-sets_of l = 6 * goal.size-sets_of l + 3

abbrev pub decreases-linked : goal.decreases-linked
decreases-linked l = 6 * goal.size-linked l + 1

abbrev pub decreases-if_arm : goal.decreases-if_arm
decreases-if_arm l = 6 * goal.size-if_arm l + 1

abbrev pub decreases-case_arm : goal.decreases-case_arm
decreases-case_arm l = 6 * goal.size-case_arm l + 1

abbrev pub decreases-links_of : goal.decreases-links_of
decreases-links_of l = 6 * goal.size-links_of l + 3

abbrev pub decreases-if_arms : goal.decreases-if_arms
decreases-if_arms l = 6 * goal.size-if_arms l + 3

abbrev pub decreases-case_arms : goal.decreases-case_arms
decreases-case_arms l = 6 * goal.size-case_arms l + 3

abbrev pub decreases-commands_of : goal.decreases-commands_of
decreases-commands_of l = 6 * goal.size-commands_of l + 3

abbrev pub decreases-simple : goal.decreases-simple
decreases-simple l = 6 * size-Command (Simple l.at l.assigns.now l.words.now) + 1

abbrev pub decreases-chain : goal.decreases-chain
decreases-chain l = 6 * size-Command (Chain l.first.now l.rest.now) + 1

abbrev pub decreases-branches : goal.decreases-branches
decreases-branches l = 6 * size-Command (If l.at l.arms.now l.otherwise.now) + 1

abbrev pub decreases-each_field : goal.decreases-each_field
decreases-each_field l = 6 * size-Command (For l.at l.name.now l.words.now l.body.now) + 1

abbrev pub decreases-repeated : goal.decreases-repeated
decreases-repeated l = 6 * size-Command (While l.at l.until l.cond.now l.body.now) + 1

abbrev pub decreases-cases : goal.decreases-cases
decreases-cases l = 6 * size-Command (Case l.at l.subject.now l.arms.now) + 1

abbrev pub decreases-of_kind : goal.decreases-of_kind
decreases-of_kind l = 6 * size-Command (Simple l.at l.assigns.now l.words.now)

abbrev pub decreases-add_case_arm : goal.decreases-add_case_arm
decreases-add_case_arm l = 6 * goal.size-add_case_arm l + 2

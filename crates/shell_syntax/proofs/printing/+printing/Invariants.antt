use Rattle.std.proofs.Common.{◌≡◌, ◌+◌, ◌*◌, ◌++◌, take, codes}
use Rattle.std.specs.List.{flat_map}
use Rattle.shell_syntax.specs.Printed.{printed, placed, part_text, word_text, assign_text, arm_text, condition_text, further_text, spaced}
use Rattle.shell_syntax.proofs.printing.+printing.Given as goal

abbrev pub invariant-put_further-loop-command : goal.invariant-put_further-loop-command
invariant-put_further-loop-command l = l.text ≡ l.initial.text ++ flat_map (λ command. l.separator ++ placed l.place (printed command)) (take l.command-index l.commands)

abbrev pub invariant-put_links-loop-link : goal.invariant-put_links-loop-link
invariant-put_links-loop-link l = l.text ≡ l.initial.text ++ flat_map further_text (take l.link-index l.links)

abbrev pub invariant-put_further_conditions-loop-arm : goal.invariant-put_further_conditions-loop-arm
invariant-put_further_conditions-loop-arm l = l.text ≡ l.initial.text ++ flat_map (λ arm. codes "\n elif" ++ condition_text arm) (take l.arm-index l.arms)

abbrev pub invariant-put_case_arms-loop-arm : goal.invariant-put_case_arms-loop-arm
invariant-put_case_arms-loop-arm l = l.text ≡ l.initial.text ++ flat_map arm_text (take l.arm-index l.arms)

abbrev pub invariant-put_further_patterns-loop-word : goal.invariant-put_further_patterns-loop-word
invariant-put_further_patterns-loop-word l = l.text ≡ l.initial.text ++ flat_map (λ word. codes " |" ++ spaced (word_text word)) (take l.word-index l.words)

abbrev pub invariant-put_words-loop-word : goal.invariant-put_words-loop-word
invariant-put_words-loop-word l = l.text ≡ l.initial.text ++ flat_map (λ word. spaced (word_text word)) (take l.word-index l.words)

abbrev pub invariant-put_assigns-loop-assign : goal.invariant-put_assigns-loop-assign
invariant-put_assigns-loop-assign l = l.text ≡ l.initial.text ++ flat_map (λ assign. spaced (assign_text assign)) (take l.assign-index l.assigns)

abbrev pub invariant-put_parts-loop-part : goal.invariant-put_parts-loop-part
invariant-put_parts-loop-part l = l.text ≡ l.initial.text ++ flat_map part_text (take l.part-index l.parts)

-- What is gone down to is smaller, or as large and of lower rank.

abbrev pub decreases-put_command : goal.decreases-put_command
decreases-put_command l = 8 * goal.size-put_command l + 1

abbrev pub decreases-put_not : goal.decreases-put_not
decreases-put_not l = 8 * goal.size-put_not l + 3

abbrev pub decreases-put_placed : goal.decreases-put_placed
decreases-put_placed l = 8 * goal.size-put_placed l + 2

abbrev pub decreases-put_redirected : goal.decreases-put_redirected
decreases-put_redirected l = 8 * goal.size-put_redirected l + 3

abbrev pub decreases-put_members : goal.decreases-put_members
decreases-put_members l = 8 * goal.size-put_members l + 5

abbrev pub decreases-put_further : goal.decreases-put_further
decreases-put_further l = 8 * goal.size-put_further l + 4

abbrev pub decreases-put_links : goal.decreases-put_links
decreases-put_links l = 8 * goal.size-put_links l + 4

abbrev pub decreases-put_link : goal.decreases-put_link
decreases-put_link l = 8 * goal.size-put_link l + 3

abbrev pub decreases-put_if : goal.decreases-put_if
decreases-put_if l = 8 * goal.size-put_if l + 8

abbrev pub decreases-put_if_head : goal.decreases-put_if_head
decreases-put_if_head l = 8 * goal.size-put_if_head l + 7

abbrev pub decreases-put_else : goal.decreases-put_else
decreases-put_else l = 8 * goal.size-put_else l + 2

abbrev pub decreases-put_conditions : goal.decreases-put_conditions
decreases-put_conditions l = 8 * goal.size-put_conditions l + 6

abbrev pub decreases-put_further_conditions : goal.decreases-put_further_conditions
decreases-put_further_conditions l = 8 * goal.size-put_further_conditions l + 5

abbrev pub decreases-put_elif : goal.decreases-put_elif
decreases-put_elif l = 8 * goal.size-put_elif l + 4

abbrev pub decreases-put_condition : goal.decreases-put_condition
decreases-put_condition l = 8 * goal.size-put_condition l + 3

abbrev pub decreases-put_in : goal.decreases-put_in
decreases-put_in l = 8 * goal.size-put_in l + 6

abbrev pub decreases-put_do : goal.decreases-put_do
decreases-put_do l = 8 * goal.size-put_do l + 2

abbrev pub decreases-put_loop_head : goal.decreases-put_loop_head
decreases-put_loop_head l = 8 * goal.size-put_loop_head l + 2

abbrev pub decreases-put_case_head : goal.decreases-put_case_head
decreases-put_case_head l = 8 * goal.size-put_case_head l + 3

abbrev pub decreases-put_arms : goal.decreases-put_arms
decreases-put_arms l = 8 * goal.size-put_arms l + 6

abbrev pub decreases-put_case_arms : goal.decreases-put_case_arms
decreases-put_case_arms l = 8 * goal.size-put_case_arms l + 5

abbrev pub decreases-put_case_arm : goal.decreases-put_case_arm
decreases-put_case_arm l = 8 * goal.size-put_case_arm l + 4

abbrev pub decreases-put_arm_head : goal.decreases-put_arm_head
decreases-put_arm_head l = 8 * goal.size-put_arm_head l + 7

abbrev pub decreases-put_arm_body : goal.decreases-put_arm_body
decreases-put_arm_body l = 8 * goal.size-put_arm_body l + 2

abbrev pub decreases-put_patterns : goal.decreases-put_patterns
decreases-put_patterns l = 8 * goal.size-put_patterns l + 6

abbrev pub decreases-put_further_patterns : goal.decreases-put_further_patterns
decreases-put_further_patterns l = 8 * goal.size-put_further_patterns l + 5

abbrev pub decreases-put_further_pattern : goal.decreases-put_further_pattern
decreases-put_further_pattern l = 8 * goal.size-put_further_pattern l + 4

abbrev pub decreases-put_sub : goal.decreases-put_sub
decreases-put_sub l = 8 * goal.size-put_sub l + 2

abbrev pub decreases-put_define : goal.decreases-put_define
decreases-put_define l = 8 * goal.size-put_define l + 2

abbrev pub decreases-put_words : goal.decreases-put_words
decreases-put_words l = 8 * goal.size-put_words l + 5

abbrev pub decreases-put_spaced : goal.decreases-put_spaced
decreases-put_spaced l = 8 * goal.size-put_spaced l + 3

abbrev pub decreases-put_word : goal.decreases-put_word
decreases-put_word l = 8 * goal.size-put_word l + 2

abbrev pub decreases-put_assigns : goal.decreases-put_assigns
decreases-put_assigns l = 8 * goal.size-put_assigns l + 5

abbrev pub decreases-put_assign : goal.decreases-put_assign
decreases-put_assign l = 8 * goal.size-put_assign l + 3

abbrev pub decreases-put_parts : goal.decreases-put_parts
decreases-put_parts l = 8 * goal.size-put_parts l + 2

abbrev pub decreases-put_part : goal.decreases-put_part
decreases-put_part l = 8 * goal.size-put_part l + 1

abbrev pub decreases-put_run : goal.decreases-put_run
decreases-put_run l = 8 * goal.size-put_run l + 2

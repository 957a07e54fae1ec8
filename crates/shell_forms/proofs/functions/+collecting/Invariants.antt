use Rattle.std.proofs.Common.{map, take}
use Rattle.shell_forms.specs.Functions.{definitions, part_definitions, assign_definitions, case_arm_definitions, if_arm_definitions, link_definitions, word_definitions, of_all}
use Rattle.shell_forms.specs.Known.{Adds}
use Rattle.shell_forms.proofs.functions.+collecting.Given as goal

abbrev pub invariant-add_word-loop-part : goal.invariant-add_word-loop-part
invariant-add_word-loop-part l = Adds l.initial.functions l.functions (of_all (map part_definitions (take l.part-index l.part-items)))

abbrev pub invariant-add_words-loop-word : goal.invariant-add_words-loop-word
invariant-add_words-loop-word l = Adds l.initial.functions l.functions (of_all (map word_definitions (take l.word-index l.words)))

abbrev pub invariant-add_assigns-loop-assign : goal.invariant-add_assigns-loop-assign
invariant-add_assigns-loop-assign l = Adds l.initial.functions l.functions (of_all (map assign_definitions (take l.assign-index l.assigns)))

abbrev pub invariant-add_commands-loop-command : goal.invariant-add_commands-loop-command
invariant-add_commands-loop-command l = Adds l.initial.functions l.functions (of_all (map definitions (take l.command-index l.commands)))

abbrev pub invariant-add_links-loop-link : goal.invariant-add_links-loop-link
invariant-add_links-loop-link l = Adds l.initial.functions l.functions (of_all (map link_definitions (take l.link-index l.links)))

abbrev pub invariant-add_arms-loop-arm : goal.invariant-add_arms-loop-arm
invariant-add_arms-loop-arm l = Adds l.initial.functions l.functions (of_all (map if_arm_definitions (take l.arm-index l.arms)))

abbrev pub invariant-add_case_arms-loop-arm : goal.invariant-add_case_arms-loop-arm
invariant-add_case_arms-loop-arm l = Adds l.initial.functions l.functions (of_all (map case_arm_definitions (take l.arm-index l.arms)))

use Rattle.std.proofs.Common.{◌≡◌, map, take}
use Rattle.std.specs.List.{flat_map}
use Rattle.shell_forms.specs.Forms.{forms_of, word_says, assign_says, case_arm_says, if_arm_says, link_says, in_words, in_assigns, in_patterns, in_arms, in_case_arms, all_of}
use Rattle.shell_forms.specs.Known.{first_in}
use Rattle.shell_forms.specs.Seen.{in_part}
use Rattle.shell_forms.specs.Soonest.{soonest}
use Rattle.shell_forms.proofs.finding.+finding.Given as goal

abbrev pub invariant-in_word-loop-part : goal.invariant-in_word-loop-part
invariant-in_word-loop-part l =
    l.first ≡ soonest l.initial.first (flat_map (λ part. in_part (first_in l.functions) part l.place) (take l.part-index l.part-items))

abbrev pub invariant-in_words-loop-word : goal.invariant-in_words-loop-word
invariant-in_words-loop-word l =
    l.first ≡ soonest l.initial.first (in_words (map (word_says (first_in l.functions)) (take l.word-index l.words)) l.place)

abbrev pub invariant-in_patterns-loop-word : goal.invariant-in_patterns-loop-word
invariant-in_patterns-loop-word l =
    l.first ≡ soonest l.initial.first (in_patterns (map (word_says (first_in l.functions)) (take l.word-index l.words)) l.place)

abbrev pub invariant-in_assigns-loop-assign : goal.invariant-in_assigns-loop-assign
invariant-in_assigns-loop-assign l =
    l.first ≡ soonest l.initial.first (in_assigns (map (assign_says (first_in l.functions)) (take l.assign-index l.assigns)) l.place)

abbrev pub invariant-in_commands-loop-command : goal.invariant-in_commands-loop-command
invariant-in_commands-loop-command l =
    l.first ≡ soonest l.initial.first (all_of (map (forms_of (first_in l.functions)) (take l.command-index l.commands)) l.place)

abbrev pub invariant-in_links-loop-link : goal.invariant-in_links-loop-link
invariant-in_links-loop-link l =
    l.first ≡ soonest l.initial.first (all_of (map (link_says (first_in l.functions)) (take l.link-index l.links)) l.place)

abbrev pub invariant-in_arms-loop-arm : goal.invariant-in_arms-loop-arm
invariant-in_arms-loop-arm l =
    l.first ≡ soonest l.initial.first (in_arms (map (if_arm_says (first_in l.functions)) (take l.arm-index l.arms)) l.place)

abbrev pub invariant-in_case_arms-loop-arm : goal.invariant-in_case_arms-loop-arm
invariant-in_case_arms-loop-arm l =
    l.first ≡ soonest l.initial.first (in_case_arms (map (case_arm_says (first_in l.functions)) (take l.arm-index l.arms)) l.place)

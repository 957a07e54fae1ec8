use Rattle.std.proofs.Common.{◌≡◌, ◌++◌, map, take}
use Rattle.std.specs.List.{flat_map}
use Rattle.settled_commands.specs.Seen.{commands_in, part_seen}
use Rattle.settled_commands.specs.SeenParts.{words_parts, words_commands, assigns_commands, links_commands, arms_commands, case_arms_commands}
use Rattle.settled_commands.proofs.seeing.+seeing.Given as goal

abbrev pub invariant-see_word-loop-part : goal.invariant-see_word-loop-part
invariant-see_word-loop-part l = record {
  parts : l.parts ≡ map (λ p. (part_seen p).part) (take l.part-index l.part-items);
  commands : l.seen ≡ l.initial.seen ++ flat_map (λ p. (part_seen p).commands) (take l.part-index l.part-items);
}

abbrev pub invariant-see_words-loop-word : goal.invariant-see_words-loop-word
invariant-see_words-loop-word l = record {
  parts : l.says ≡ words_parts (take l.word-index l.words);
  commands : l.seen ≡ l.initial.seen ++ words_commands (take l.word-index l.words);
}

abbrev pub invariant-see_assigns-loop-assign : goal.invariant-see_assigns-loop-assign
invariant-see_assigns-loop-assign l = record {
  names : l.names ≡ map (λ assign. assign.name) (take l.assign-index l.assigns);
  commands : l.seen ≡ l.initial.seen ++ assigns_commands (take l.assign-index l.assigns);
}

abbrev pub invariant-see_commands-loop-command : goal.invariant-see_commands-loop-command
invariant-see_commands-loop-command l = l.seen ≡ l.initial.seen ++ flat_map commands_in (take l.command-index l.commands)

abbrev pub invariant-see_links-loop-link : goal.invariant-see_links-loop-link
invariant-see_links-loop-link l = l.seen ≡ l.initial.seen ++ links_commands (take l.link-index l.links)

abbrev pub invariant-see_arms-loop-arm : goal.invariant-see_arms-loop-arm
invariant-see_arms-loop-arm l = l.seen ≡ l.initial.seen ++ arms_commands (take l.arm-index l.arms)

abbrev pub invariant-see_case_arms-loop-arm : goal.invariant-see_case_arms-loop-arm
invariant-see_case_arms-loop-arm l = l.seen ≡ l.initial.seen ++ case_arms_commands (take l.arm-index l.arms)

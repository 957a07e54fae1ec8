use Rattle.std.proofs.Common.{◌≡◌, ◌≤◌, ◌-◌, take, drop}
use Rattle.std.specs.List.{filter}
use Rattle.shell_words.specs.Fields.{behind, collected, has_letter, onto, parts, fields_of}
use Rattle.shell_words.proofs.field.cut.Given as goal

abbrev pub invariant-loop-at : goal.invariant-loop-at
invariant-loop-at l = record {
  place : l.from ≤ l.at;
  wanted : behind l.fields (collected (filter has_letter (onto (take (l.at - l.from) (drop l.from l.word)) (parts (drop l.at l.word))))) ≡ fields_of l.word;
}

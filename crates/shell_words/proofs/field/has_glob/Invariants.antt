use Rattle.std.proofs.Common.{◌≡◌, ◌||◌, ◌&&◌, drop}
use Rattle.std.specs.List.{list_any}
use Rattle.shell_words.specs.Words.{is_unquoted, has_glob}
use Rattle.shell_words.proofs.field.has_glob.Given as goal

abbrev pub invariant-loop-letter : goal.invariant-loop-letter
invariant-loop-letter l =
    ((l.open && list_any (is_unquoted 93) (drop l.letter-index l.part)) || has_glob (drop l.letter-index l.part)) ≡ has_glob l.part

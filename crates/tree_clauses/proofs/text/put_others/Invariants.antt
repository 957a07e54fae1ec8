use Rattle.std.proofs.Common.{◌≡◌, ◌++◌, take, map}
use Rattle.std.specs.List.{flat_map}
use Rattle.shown_texts.specs.Show.{show}
use Rattle.tree_clauses.specs.ClauseText.{after_comma}
use Rattle.tree_clauses.proofs.text.put_others.Given as goal

abbrev pub invariant-loop-name : goal.invariant-loop-name
invariant-loop-name l = l.text ≡ l.initial.text ++ flat_map after_comma (map show (take l.name-index l.names))

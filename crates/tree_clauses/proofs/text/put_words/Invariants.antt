use Rattle.tree_clauses.proofs.KindWords.{IsSaid, IsSome}
use Rattle.tree_clauses.proofs.text.put_words.Given as goal

abbrev pub invariant-loop-word : goal.invariant-loop-word
invariant-loop-word l = record {
  text : IsSaid l.words l.word-index l.text l.initial.text l.some;
  some : IsSome l.words l.word-index l.text l.initial.text l.some;
}

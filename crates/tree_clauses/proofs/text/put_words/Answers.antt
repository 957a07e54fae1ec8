use Rattle.tree_clauses.proofs.KindWords.{ends_some, ends_none}
use Rattle.tree_clauses.proofs.text.put_words.Goals as goal

pub returns-then-some : goal.returns-then-some
returns-then-some c =
    ends_some c.args.words.now c.loop-word.word-index c.loop-word.text c.args.text.now c.loop-word.some c.loop-word-test.false c.loop-word.invariant.text c.loop-word.invariant.some c.if-some.true

pub returns : goal.returns
returns c =
    ends_none c.args.words.now c.loop-word.word-index c.loop-word.text c.args.text.now c.loop-word.some c.extend.new.self c.loop-word-test.false c.loop-word.invariant.text c.loop-word.invariant.some c.if-some.false c.in_ok-extend.ensures.ok

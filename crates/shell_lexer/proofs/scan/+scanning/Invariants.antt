use Rattle.std.proofs.Common.{length, ◌-◌, ◌*◌, ◌+◌}
use Rattle.shell_lexer.proofs.SoFar.{ItemsSoFar, WordSoFar, InnerSoFar}
use Rattle.shell_lexer.proofs.scan.+scanning.Given as goal

abbrev pub decreases-items : goal.decreases-items
decreases-items l = 4 * (length l.text.now - l.at) + 2

abbrev pub decreases-substitution : goal.decreases-substitution
decreases-substitution l = 4 * (length l.text.now - l.at) + 3

abbrev pub decreases-whole_word : goal.decreases-whole_word
decreases-whole_word l = 4 * (length l.text.now - l.place) + 1

abbrev pub decreases-word : goal.decreases-word
decreases-word l = 4 * (length l.text.now - l.at)

abbrev pub decreases-quoted : goal.decreases-quoted
decreases-quoted l = 4 * (length l.text.now - l.at)

abbrev pub invariant-items-tokens : goal.invariant-items-tokens
invariant-items-tokens l = ItemsSoFar l.text l.depth l.from l.fn.at l.parens l.place l.out

abbrev pub decreases-items-tokens : goal.decreases-items-tokens
decreases-items-tokens l = length l.text - l.place

abbrev pub invariant-word-parts : goal.invariant-word-parts
invariant-word-parts l = WordSoFar l.text l.depth l.fn.at l.place l.run l.parts l.notes

abbrev pub decreases-word-parts : goal.decreases-word-parts
decreases-word-parts l = length l.text - l.place

abbrev pub invariant-quoted-inside : goal.invariant-quoted-inside
invariant-quoted-inside l = InnerSoFar l.text l.depth l.from l.fn.at l.place l.fresh l.run l.initial.parts l.parts l.initial.notes l.notes

abbrev pub decreases-quoted-inside : goal.decreases-quoted-inside
decreases-quoted-inside l = length l.text - l.place

use Rattle.std.proofs.Common.{◌≡◌, true, false, sym, ◌∙◌, refl, arith}
use Rattle.feature_trees.specs.View.{node_of}
use Rattle.tree_clauses.specs.NameSets.{has}
use Rattle.tree_clauses.proofs.AgreeingEntries.{all_within, one_without}
use Rattle.tree_clauses.proofs.facts.entries_within.Goals as goal

pub returns-then-not-is_within : goal.returns-then-not-is_within
returns-then-not-is_within c = (
  λ t. absurd (let bad : false ≡ true = t in cc),
  λ all.
      one_without c.args.entries.now (has c.args.names.now) c.args.other.now c.loop-at.at (record { name = c.in-Some.f.now; node = node_of c.in-Some.field-0-1.now })
      c.is_sound.ensures c.in-Some.ensures.some.1 (λ w. let t = c.is_within.ensures.1 w in let no = c.if-not-is_within.true in let bad : false ≡ true = sym no ∙ t in cc) all,
)

pub returns : goal.returns
returns c = (
  λ t. all_within c.args.entries.now (has c.args.names.now) c.args.other.now c.len-at-end.result c.len-at-end.ensures
      (λ k e lt get. c.loop-at.invariant k e (omega (arith, lt, c.loop-at-test.false)) get),
  λ all. refl,
)

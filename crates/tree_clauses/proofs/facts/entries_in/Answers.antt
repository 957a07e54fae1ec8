use Rattle.std.proofs.Common.{◌≡◌, true, false, sym, ◌∙◌, refl, arith}
use Rattle.feature_trees.specs.View.{node_of, value_of-node_of}
use Rattle.tree_clauses.specs.NameSets.{has}
use Rattle.tree_clauses.proofs.AgreeingEntries.{In, one_more, all_in, one_other}
use Rattle.tree_clauses.proofs.facts.entries_in.Goals as goal

pub returns-then-not-is_in : goal.returns-then-not-is_in
returns-then-not-is_in c =
    let there = value_of-node_of c.in-Some.v.now c.in-Some.ensures.some.0 in (
      λ t. absurd (let bad : false ≡ true = t in cc),
      λ all.
          one_other c.args.entries.now (has c.args.names.now) c.args.other.now c.loop-at.at (record { name = c.in-Some.f.now; node = node_of c.in-Some.v.now })
          c.is_sound.ensures c.in-Some.ensures.some.1
          (λ w.
          let t = c.is_in.ensures.1 (λ out. w out ∙ there) in
          let no = c.if-not-is_in.true in
          let bad : false ≡ true = sym no ∙ t in cc) all,
    )

pub loop-at-preserved : goal.loop-at-preserved
loop-at-preserved c =
    one_more (In (has c.args.names.now) c.args.other.now) c.args.entries.now c.loop-at.at (record { name = c.in-Some.f.now; node = node_of c.in-Some.v.now })
    c.loop-at.invariant c.in-Some.ensures.some.1
    (λ out. c.is_in.ensures.0 c.if-not-is_in.false out ∙ sym (value_of-node_of c.in-Some.v.now c.in-Some.ensures.some.0))

pub returns : goal.returns
returns c = (
  λ t. all_in c.args.entries.now (has c.args.names.now) c.args.other.now c.len-at-end.result c.is_sound.ensures c.len-at-end.ensures
      (λ k e lt get. c.loop-at.invariant k e (omega (arith, lt, c.loop-at-test.false)) get),
  λ all. refl,
)

use Rattle.std.proofs.Common.{◌≡◌, List, ◌++◌, drop, length, map}
use Rattle.feature_trees.specs.declared.shape.Entry.{Entry}
use Rattle.tree_clauses.specs.declared.cell.Edit.{Edit}
use Rattle.tree_clauses.specs.Cells.{edited, AreBelow}
use Rattle.tree_clauses.specs.KnownValues.{known_in}
use Rattle.tree_clauses.specs.MadeValues.{replaced}
use Rattle.tree_clauses.proofs.making.edits.Given as goal

abbrev pub invariant-loop-f : goal.invariant-loop-f
invariant-loop-f l = record {
  below : AreBelow (length l.values.cells) l.edits;
  named : map (λ (e : Edit). e.name) l.edits ++ map (λ f. f.now) (drop l.f-index l.names) ≡ map (λ f. f.now) l.names;
  same : (es : List Entry) →
      replaced (known_in l.values) l.y.0 (map (λ f. f.now) (drop l.f-index l.names)) l.left (edited l.values.cells es l.edits)
      ≡ replaced (known_in l.values) l.y.0 (map (λ f. f.now) l.names) l.literals es;
}

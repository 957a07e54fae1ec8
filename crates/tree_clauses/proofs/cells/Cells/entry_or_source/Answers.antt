use Rattle.std.proofs.Common.{None, length, subst, sym, ap, ◌∙◌}
use Rattle.feature_trees.specs.Tree.{entry}
use Rattle.tree_clauses.specs.Cells.{cell_value, place_under, IsBelow}
use Rattle.tree_clauses.specs.Solved.{Rising}
use Rattle.tree_clauses.proofs.EditSearch.{names_of_edits}
use Rattle.tree_clauses.proofs.CellEntries.{entry_found, entry_passed}
use Rattle.tree_clauses.proofs.cells.Cells.entry_or_source.Goals as goal

pub returns-in-Seen : goal.returns-in-Seen
returns-in-Seen c =
    let values = c.args.self.now in (
      c.seen_entry.ensures.below (length values),
      c.seen_entry.ensures.value values
          ∙ ap (λ v. entry v c.args.f.now) (sym (c.in-Some.ensures.2 ∙ ap (cell_value values) c.in-Seen.is)),
    )

pub returns-in-Some-place_under : goal.returns-in-Some-place_under
returns-in-Some-place_under c =
    let values = c.args.self.now in
    let edits = c.in-Edited.edits in
    entry_found values c.args.at c.in-Edited.from edits c.args.f.now c.are_sound.ensures
    (subst (IsBelow c.args.at) c.in-Edited.is c.in-Some.ensures.1)
    (c.in-Some.ensures.2 ∙ ap (cell_value values) c.in-Edited.is)
    c.in-Some-place_under.place c.in-Some.ensures.0
    (sym (c.in-Some-place_under.ensures ∙ ap (place_under None c.args.f.now) c.as_slice.ensures))

pub returns-in-None-place_under : goal.returns-in-None-place_under
returns-in-None-place_under c =
    let values = c.args.self.now in
    let edits = c.in-Edited.edits in
    let below = subst (IsBelow c.args.at) c.in-Edited.is c.in-Some.ensures.1 in (
      below.0,
      entry_passed values c.args.at c.in-Edited.from edits c.args.f.now c.are_sound.ensures below
          (c.in-Some.ensures.2 ∙ ap (cell_value values) c.in-Edited.is)
          (sym (c.in-None-place_under.ensures ∙ ap (place_under None c.args.f.now) c.as_slice.ensures)),
    )

pub place_under-requires : goal.place_under-requires
place_under-requires c =
    let below = subst (IsBelow c.args.at) c.in-Edited.is c.in-Some.ensures.1 in
    subst (λ edits. Rising (names_of_edits edits)) (sym c.as_slice.ensures) below.2

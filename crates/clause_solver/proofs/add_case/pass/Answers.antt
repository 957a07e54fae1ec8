use Rattle.std.proofs.Common.{◌≡◌, []}
use Rattle.clause_solver.proofs.Drafted.{entry_placed, fence_placed, fence_is, filled_placed}
use Rattle.clause_solver.proofs.Turns.{entry_goes, empty_goes, filled_goes, link_goes}
use Rattle.clause_solver.proofs.add_case.pass.Goals as goal

pub enter-requires-clause-placed : goal.enter-requires-clause-placed
enter-requires-clause-placed c = entry_placed c.args.draft.now c.args.rest.now c.in-Entry.x c.in-Entry.f c.in-Entry.y (rw c.in-Entry.is at c.requires)

pub empty-requires-clause-placed : goal.empty-requires-clause-placed
empty-requires-clause-placed c = fence_placed c.args.draft.now c.args.rest.now c.in-Fence.x c.in-Fence.field-1 (rw c.in-Fence.is at c.requires)

pub fill-requires-clause-placed : goal.fill-requires-clause-placed
fill-requires-clause-placed c = filled_placed c.args.draft.now c.args.rest.now c.in-NotEmpty.x (rw c.in-NotEmpty.is at c.requires)

pub returns-in_ok-enter-in-Entry-clause-goes : goal.returns-in_ok-enter-in-Entry-clause-goes
returns-in_ok-enter-in-Entry-clause-goes c = rw c.in-Entry.is (entry_goes c.args.draft.now c.enter.new.self c.args.rest.now c.in-Entry.x c.in-Entry.f c.in-Entry.y c.in_ok-enter-in-Entry.ensures)

pub returns-in_ok-empty-in-Fence-clause-goes : goal.returns-in_ok-empty-in-Fence-clause-goes
returns-in_ok-empty-in-Fence-clause-goes c =
    let none : c.in-Fence.field-1 ≡ [] = fence_is c.args.draft.now c.args.rest.now c.in-Fence.x c.in-Fence.field-1 (rw c.in-Fence.is at c.requires) in
    rw (c.in-Fence.is, none) (empty_goes c.args.draft.now c.empty.new.self c.args.rest.now c.in-Fence.x c.in_ok-empty-in-Fence.ensures)

pub returns-in_ok-fill-in-NotEmpty-clause-goes : goal.returns-in_ok-fill-in-NotEmpty-clause-goes
returns-in_ok-fill-in-NotEmpty-clause-goes c = rw c.in-NotEmpty.is (filled_goes c.args.draft.now c.fill.new.self c.args.rest.now c.in-NotEmpty.x c.in_ok-fill-in-NotEmpty.ensures)

pub returns-in_ok-make-in-Target-clause-goes : goal.returns-in_ok-make-in-Target-clause-goes
returns-in_ok-make-in-Target-clause-goes c = rw c.in-Target.is (link_goes c.args.draft.now c.make.new.self c.args.rest.now c.in-Target.y c.in-Target.target (rw c.in_ok-target-in-Target.ensures at c.in_ok-make-in-Target.ensures))

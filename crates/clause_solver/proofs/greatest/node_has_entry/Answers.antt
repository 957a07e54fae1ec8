use Rattle.std.proofs.Common.{◌↔◌, ◌<◌, ℕ, IsTrue, [], length}
use Rattle.clause_solver.specs.ReplacedNames.{names}
use Rattle.clause_solver.specs.Greatest.{IsPresentChild, unfenced_if}
use Rattle.clause_solver.proofs.HasEntries.{node_bare, node_open, node_closed, replaced_nothing}
use Rattle.clause_solver.proofs.greatest.node_has_entry.Goals as goal

pub returns-then-is_open : goal.returns-then-is_open
returns-then-is_open c =
    node_open c.args.vars.now c.args.best.now (unfenced_if c.args.vars.now c.args.counted) c.args.x (names c.args.replaced.now)
    c.is_open.result c.if-is_open.true c.requires.node c.is_open.ensures

pub returns-then-not-any : goal.returns-then-not-any
returns-then-not-any c =
    let any : IsTrue c.some_present_child-any.result ↔ ((m : ℕ) × (m < length c.args.vars.now) × IsPresentChild c.args.vars.now c.args.best.now c.args.x [] m) =
    rw replaced_nothing at c.some_present_child-any.ensures in
    node_bare c.args.vars.now c.args.best.now (unfenced_if c.args.vars.now c.args.counted) c.args.x (names c.args.replaced.now)
    c.is_open.result c.some_present_child-any.result c.if-is_open.false c.if-not-any.true c.requires.node c.is_open.ensures any

pub returns : goal.returns
returns c =
    node_closed c.args.vars.now c.args.best.now (unfenced_if c.args.vars.now c.args.counted) c.args.x (names c.args.replaced.now)
    c.is_open.result c.some_present_child.result c.if-is_open.false c.requires.node c.is_open.ensures c.some_present_child.ensures

use Rattle.clause_solver.specs.Stands.{Alive}
use Rattle.clause_solver.proofs.Deciding.{left_alive}
use Rattle.clause_solver.proofs.OneMore.{seen_of}
use Rattle.clause_solver.proofs.Spares.{plainer_always, plainer_start, plainer_stands, plainest_of}
use Rattle.clause_solver.proofs.store.Store.plainest_tree.Goals as goal

pub plainest-requires-clause-left : goal.plainest-requires-clause-left
plainest-requires-clause-left c =
    let inv = c.self.invariant in
    let vars = c.self.inside.lists.vars in
    let now = c.self.inside.current in
    let alive : Alive (seen_of vars now) = rw (← c.self.view_is) at c.requires in
    inv.decided.alive.1 ((left_alive vars now inv.decided.order inv.now_tree inv.start_tree).1 alive)

pub invariant_of-plain : goal.invariant_of-plain
invariant_of-plain c =
    let inv = c.self.invariant in
    let new = c.in_ok-lists.ensures in
    let known = inv.now_known in
    let same = new.plainer.same in
    record {
      decided = new.decided;
      now_known = rw same known;
      now_tree = plainer_always c.self.inside.lists.vars c.in_ok-lists.lists.vars c.self.inside.current new.plainer inv.now_tree;
      start_tree = plainer_start c.self.inside.lists.vars c.in_ok-lists.lists.vars new.plainer inv.start_tree;
    }

pub start_tree-requires : goal.start_tree-requires
start_tree-requires c =
    let inv = c.self.invariant in
    let new = c.in_ok-lists.ensures in
    let vars = c.in_ok-lists.lists.vars in
    let old = c.self.inside.lists.vars in
    let now = c.self.inside.current in
    (left_alive vars now new.decided.order (plainer_always old vars now new.plainer inv.now_tree) (plainer_start old vars new.plainer inv.start_tree)).0 (new.decided.alive.0 new.left)

pub returns-clause-pair : goal.returns-clause-pair
returns-clause-pair c =
    let some = c.in_ok-tree.ensures.pair in
    let new = c.in_ok-lists.ensures in
    rw (← c.self.view_is) (some.0, plainer_stands c.self.inside.lists.vars c.in_ok-lists.lists.vars c.self.inside.current new.decided.order new.plainer c.in_ok-tree.tree some.0 some.1)

pub returns-clause-plainest : goal.returns-clause-plainest
returns-clause-plainest c =
    let inv = c.self.invariant in
    let new = c.in_ok-lists.ensures in
    rw (← c.self.view_is) (plainest_of c.self.inside.lists c.in_ok-lists.lists c.self.inside.current inv.decided inv.start_tree new.decided new.left new.filled new.plainer new.needed c.in_ok-tree.tree c.in_ok-tree.ensures.pair)

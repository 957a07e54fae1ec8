use Rattle.std.proofs.Common.{ℕ, List, take, sym, subst, ◌∙◌}
use Rattle.start_trees.proofs.Walks.{Walked, walked_more, wanted_pairs, take_one, take_all}
use Rattle.start_trees.proofs.starts.require.Goals as goal

pub loop-f-preserved : goal.loop-f-preserved
loop-f-preserved c =
    let P : List (List ℕ) → Type 0 = λ names. Walked c.args.store.now c.child.new.self names c.in_ok-x.x.0 in
    subst P (sym (take_one c.names-f-items.result.now c.loop-f.f-index c.f-item.result c.loop-f-test.true c.f-item.is))
    (walked_more c.args.store.now c.loop-f.store c.child.new.self (take c.loop-f.f-index c.names-f-items.result.now) c.f-item.result c.loop-f.x.0 c.in_ok-x.x.0
    c.loop-f.invariant c.in_ok-x.ensures.extends c.in_ok-x.ensures.entry)

pub returns : goal.returns
returns c =
    let P : List (List ℕ) → Type 0 = λ names. Walked c.args.store.now c.loop-f.store names c.loop-f.x.0 in
    let walked = subst P (take_all c.names-f-items.result.now c.loop-f.f-index c.loop-f-test.false ∙ c.names-f-items.ensures.names) c.loop-f.invariant in
    record {
      pairs = wanted_pairs c.args.store.now c.loop-f.store c.want.new.store c.args.need.now.path.names c.args.need.now.wanted
          c.loop-f.x.0 walked c.in_ok-left.ensures.leaves;
      alive = c.in_ok-left.ensures.alive;
    }

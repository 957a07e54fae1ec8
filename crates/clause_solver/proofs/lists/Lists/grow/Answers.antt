use Rattle.std.proofs.Common.{◌≡◌, ◌∙◌, ◌<◌, ◌++◌, ◌∷◌, [], ap, sym, length, map, arith, length-append, ◌+◌}
use Rattle.std.proofs.lemmas.List.{with_items_is, map_push, length-map}
use Rattle.clause_solver.specs.Variables.{var_at}
use Rattle.clause_solver.specs.Gathered.{gathered, finished}
use Rattle.clause_solver.specs.Builds.{laid_by}
use Rattle.clause_solver.proofs.Laid.{last_one_each, laid_step, laid_length}
use Rattle.clause_solver.proofs.lists.Lists.grow.Goals as goal

pub finish-requires : goal.finish-requires
finish-requires c =
    let old = c.loop-last.places.items in
    let new = c.pop.new.self.items in
    let last = c.in-Some.last in
    let low = c.loop-last.invariant.low in
    let long : length old ≡ length new + 1 = ap length c.in-Some.ensures.items ∙ length-append new _ in
    let e : map gathered old ≡ map gathered new ++ gathered last ∷ [] = ap (map gathered) c.in-Some.ensures.items ∙ map_push gathered new last in
    record {
      one_each = last_one_each c.args.self.now.vars c.args.self.now.best c.args.marks.now c.args.z.now c.requires.decided.order (map gathered old) (map gathered new) (gathered last) (length new) e (length-map new gathered) (omega (arith, long, low)) c.loop-last.invariant.gathered;
    }

pub loop-last-preserved : goal.loop-last-preserved
loop-last-preserved c =
    let vars = c.args.self.now.vars in
    let i = c.len-i.result in
    let old = c.loop-last.places.items in
    let new = c.pop.new.self.items in
    let last = c.in-Some.last in
    let moved = c.move_to_parent.new.places in
    let definition = (var_at vars i).definition in
    let at : length new ≡ i = sym (c.len-i.ensures ∙ c.pop.new.self.ok.0) in
    let low = c.loop-last.invariant.low in
    let long : length old ≡ length new + 1 = ap length c.in-Some.ensures.items ∙ length-append new _ in
    let inside : i < length vars = omega (arith, at, long, low) in
    let e : map gathered old ≡ map gathered new ++ gathered last ∷ [] = ap (map gathered) c.in-Some.ensures.items ∙ map_push gathered new last in
    let step = laid_step vars c.args.self.now.best c.args.marks.now c.args.z.now c.requires.decided.order (map gathered old) (map gathered new) (gathered last) i e (length-map new gathered ∙ at) inside c.loop-last.invariant.gathered in
    let is : map gathered moved ≡ laid_by (map gathered new) definition (finished (gathered last)) =
    c.in_ok-move_to_parent.ensures
    ∙ (λ k. laid_by (map gathered (c.deref_mut.ensures.value k)) (c.definition_at.ensures k) (c.in_ok-v.ensures k)) in
    let counted : length moved ≡ i = sym (length-map moved gathered) ∙ ap length is ∙ laid_length (map gathered new) definition (finished (gathered last)) ∙ length-map new gathered ∙ at in
    let items = with_items_is c.pop.new.self moved (counted ∙ c.len-i.ensures) in
    let mapped : length (map gathered moved) ≡ i = length-map moved gathered ∙ counted in
    let nz = c.if-i-eq0.false in
    record {
      some = rw (items, counted) (omega (arith, nz));
      low = rw (items, counted) (omega (arith, inside));
      gathered = rw items (rw mapped (rw is step));
    }

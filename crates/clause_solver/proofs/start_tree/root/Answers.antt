use Rattle.std.proofs.Common.{◌≡◌, ◌∙◌, Some, ap, sym, true, arith}
use Rattle.clause_solver.specs.declared.variable.Definition.TheVariants.{Derived, Ensured}
use Rattle.clause_solver.specs.Opens.{itself, derived, ensured}
use Rattle.clause_solver.specs.Variables.{var_at, is_node}
use Rattle.clause_solver.proofs.Opens.{root_node, root_derived, root_ensured}
use Rattle.clause_solver.proofs.start_tree.root.Goals as goal

pub returns-in-Start-clause-root : goal.returns-in-Start-clause-root
returns-in-Start-clause-root c r is =
    let node : is_node (var_at c.args.vars.now c.loop-of.here).definition ≡ true = ap is_node (sym c.definition_at.ensures ∙ c.in-Start.is) in
    ap Some (sym (root_node c.args.vars.now c.loop-of.here r node (c.loop-of.invariant.same r is)))

pub returns-in-Start-clause-found : goal.returns-in-Start-clause-found
returns-in-Start-clause-found c =
    let node : is_node (var_at c.args.vars.now c.loop-of.here).definition ≡ true = ap is_node (sym c.definition_at.ensures ∙ c.in-Start.is) in
    c.loop-of.invariant.back c.loop-of.here (itself node)

pub returns-in-Child-clause-root : goal.returns-in-Child-clause-root
returns-in-Child-clause-root c r is =
    let node : is_node (var_at c.args.vars.now c.loop-of.here).definition ≡ true = ap is_node (sym c.definition_at.ensures ∙ c.in-Child.is) in
    ap Some (sym (root_node c.args.vars.now c.loop-of.here r node (c.loop-of.invariant.same r is)))

pub returns-in-Child-clause-found : goal.returns-in-Child-clause-found
returns-in-Child-clause-found c =
    let node : is_node (var_at c.args.vars.now c.loop-of.here).definition ≡ true = ap is_node (sym c.definition_at.ensures ∙ c.in-Child.is) in
    c.loop-of.invariant.back c.loop-of.here (itself node)

pub loop-of-preserved-in-Derived : goal.loop-of-preserved-in-Derived
loop-of-preserved-in-Derived c =
    let vars = c.args.vars.now in
    let here = c.loop-of.here in
    let inside = c.loop-of.invariant.inside in
    let e : (var_at vars here).definition ≡ Derived c.in-Derived.of c.in-Derived.field-1 c.in-Derived.field-2 = sym c.definition_at.ensures ∙ c.in-Derived.is in
    let before = rw e at (c.requires.order.earlier here inside) in
    record {
      inside = omega (arith, before.0, inside);
      same = λ r q. root_derived vars here c.in-Derived.of c.in-Derived.field-1 c.in-Derived.field-2 r e (c.loop-of.invariant.same r q);
      back = λ r q. c.loop-of.invariant.back r (derived c.in-Derived.of c.in-Derived.field-1 c.in-Derived.field-2 e q);
    }

pub loop-of-preserved : goal.loop-of-preserved
loop-of-preserved c =
    let vars = c.args.vars.now in
    let here = c.loop-of.here in
    let inside = c.loop-of.invariant.inside in
    let e : (var_at vars here).definition ≡ Ensured c.in-Ensured.of = sym c.definition_at.ensures ∙ c.in-Ensured.is in
    let before = rw e at (c.requires.order.earlier here inside) in
    record {
      inside = omega (arith, before, inside);
      same = λ r q. root_ensured vars here c.in-Ensured.of r e (c.loop-of.invariant.same r q);
      back = λ r q. c.loop-of.invariant.back r (ensured c.in-Ensured.of e q);
    }

use Rattle.std.proofs.Common.{◌≡◌, ◌∙◌, sym, ap}
use Rattle.clause_solver.specs.declared.variable.Variable.{Variable}
use Rattle.clause_solver.specs.declared.variable.Definition.TheVariants.{Derived, Ensured, Made}
use Rattle.clause_solver.specs.Variables.{var_at}
use Rattle.clause_solver.proofs.Emptied.{comes_to_itself, past_ensured, past_derived, at_made}
use Rattle.clause_solver.proofs.lists.Lists.way_down.Goals as goal
use Rattle.clause_solver.proofs.lists.Lists.way_down.Goals.{in-Derived+in_ok-go_past-in-Derived, in-Ensured}

pub down-init : goal.down-init
down-init c = record {
  decided = rw c.in_ok-new.ensures c.requires.decided;
  known = rw (c.in_ok-names.ensures, sym c.as_slice.ensures) c.in_ok-known.ensures;
  to = rw (c.in_ok-new.ensures, c.in_ok-names.ensures) (comes_to_itself c.args.self.now.vars c.args.x c.args.fence.now c.requires.decided.order c.requires.inside);
}

pub returns-in-Made-clause-ends : goal.returns-in-Made-clause-ends
returns-in-Made-clause-ends c =
    let e : (var_at c.down.new.vars c.down.here).definition ≡ Made c.in-Made.field-0 =
    sym (c.get.ensures ∙ c.in_ok-definition.ensures ∙ ap (λ (v : Variable). v.definition) c.var_at.ensures) ∙ c.in-Made.is in
    at_made c.args.self.now.vars c.args.x c.args.fence.now c.down.new.vars c.down.here c.down.names c.down.invariant.to c.in-Made.field-0 e

pub down-preserved : goal.down-preserved
down-preserved c = elim c.match-get.branch [
  | in-Derived+in_ok-go_past-in-Derived w ↦
      let e : (var_at c.down.new.vars c.down.here).definition ≡ Derived w.in-Derived.of w.in-Derived.f w.in-Derived.y =
      sym (c.get.ensures ∙ c.in_ok-definition.ensures ∙ ap (λ (v : Variable). v.definition) c.var_at.ensures) ∙ w.in-Derived.is in
      record {
        decided = rw w.new-is w.in_ok-go_past-in-Derived.ensures.decided;
        known = rw (w.known-is, w.names-is) w.in_ok-go_past-in-Derived.ensures.known;
        to = rw (w.new-is, w.names-is, w.here-is, w.in_ok-go_past-in-Derived.ensures.vars, w.in_ok-go_past-in-Derived.ensures.names)
            (past_derived c.args.self.now.vars c.args.x c.args.fence.now c.down.new.vars c.down.here c.down.names c.down.invariant.to w.in-Derived.of w.in-Derived.f w.in-Derived.y e);
      }
  | in-Ensured w ↦
      let e : (var_at c.down.new.vars c.down.here).definition ≡ Ensured w.in-Ensured.of =
      sym (c.get.ensures ∙ c.in_ok-definition.ensures ∙ ap (λ (v : Variable). v.definition) c.var_at.ensures) ∙ w.in-Ensured.is in
      record {
        decided = rw w.new-is c.down.invariant.decided;
        known = rw (w.known-is, w.names-is) c.down.invariant.known;
        to = rw (w.new-is, w.names-is, w.here-is) (past_ensured c.args.self.now.vars c.args.x c.args.fence.now c.down.new.vars c.down.here c.down.names c.down.invariant.to w.in-Ensured.of e);
      }
]

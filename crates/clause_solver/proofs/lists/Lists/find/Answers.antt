use Rattle.std.proofs.Common.{◌≡◌, ◌∙◌, ap, sym, subst, Some}
use Rattle.clause_solver.specs.declared.kin.Kin.{Kin}
use Rattle.clause_solver.specs.declared.variable.Definition.TheVariants.{Child}
use Rattle.clause_solver.specs.Differences.{difference}
use Rattle.clause_solver.specs.Linked.{kin_at, link_at}
use Rattle.clause_solver.specs.Variables.{var_at}
use Rattle.clause_solver.proofs.Indexing.{IsSought, first_sought, name_here, behind_sought, behind_falls, none_sought}
use Rattle.clause_solver.proofs.lists.Lists.find.Goals as goal

pub entries-init : goal.entries-init
entries-init c =
    let e : c.kin_at.result.now.youngest ≡ (kin_at c.args.self.now.kin c.args.of).youngest = ap (λ (k : Kin). k.youngest) c.kin_at.ensures in
    subst (IsSought c.args.self.now.vars c.args.of c.args.f.now) (sym e) (first_sought c.args.self.now.vars c.args.self.now.kin c.args.of c.args.f.now c.requires.linked c.requires.inside)

pub returns-in-None : goal.returns-in-None
returns-in-None c =
    none_sought c.args.self.now.vars c.args.of c.args.f.now (subst (IsSought c.args.self.now.vars c.args.of c.args.f.now) c.in-None.is c.entries.invariant)

pub entries-smaller : goal.entries-smaller
entries-smaller c =
    let vars = c.args.self.now.vars in
    let m = c.in-Some.m in
    let here : IsSought vars c.args.of c.args.f.now (Some m) = subst (IsSought vars c.args.of c.args.f.now) c.in-Some.is c.entries.invariant in
    let name = name_here vars c.args.self.now.kin c.args.of c.args.f.now c.requires.linked m here in
    let e : c.behind-here.result ≡ link_at (kin_at c.args.self.now.kin m).links (difference name c.args.f.now) = c.behind-here.ensures.entry c.args.of name (c.definition_at-definition.ensures ∙ here.entry.1.1) in
    rw (e, c.in-Some.is) (behind_falls vars c.args.self.now.kin c.args.of c.args.f.now c.requires.linked m here)

pub entries-preserved : goal.entries-preserved
entries-preserved c =
    let vars = c.args.self.now.vars in
    let m = c.in-Some.m in
    let here : IsSought vars c.args.of c.args.f.now (Some m) = subst (IsSought vars c.args.of c.args.f.now) c.in-Some.is c.entries.invariant in
    let name = name_here vars c.args.self.now.kin c.args.of c.args.f.now c.requires.linked m here in
    let e : c.behind-here.result ≡ link_at (kin_at c.args.self.now.kin m).links (difference name c.args.f.now) = c.behind-here.ensures.entry c.args.of name (c.definition_at-definition.ensures ∙ here.entry.1.1) in
    let other : (var_at vars m).definition ≡ Child c.args.of c.args.f.now → ⊥ =
    λ q. let t = c.is_child.ensures.1 (c.definition_at-definition.ensures ∙ q) in let f = c.if-is_child.false in absurd (cc) in
    rw e (behind_sought vars c.args.self.now.kin c.args.of c.args.f.now c.requires.linked m here other)

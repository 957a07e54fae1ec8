use Rattle.std.proofs.Common.{◌≡◌, ◌≢◌, ◌∙◌, Some, ap, sym, subst}
use Rattle.clause_solver.specs.declared.kin.Kin.{Kin}
use Rattle.clause_solver.specs.declared.variable.Definition.TheVariants.{Derived}
use Rattle.clause_solver.specs.Appends.{LeadsTo}
use Rattle.clause_solver.specs.Differences.{difference}
use Rattle.clause_solver.specs.Linked.{kin_at, link_at}
use Rattle.clause_solver.proofs.Following.{IsFollowed, followed_known, followed_last, followed_on, followed_falls, is_followed, name_followed}
use Rattle.clause_solver.proofs.lists.Lists.resolve.Goals as goal

pub returns-in-None : goal.returns-in-None
returns-in-None c =
    let vars = c.args.self.now.vars in
    let kin = c.args.self.now.kin in
    let here = subst (IsFollowed vars kin c.args.x c.args.f.now) c.in-None.is c.directories.invariant in
    let end : c.kin_at.result.now.end ≡ (kin_at kin c.args.x).end = ap (λ (k : Kin). k.end) c.kin_at.ensures in
    followed_last vars kin c.requires.linked c.args.x c.args.f.now c.found_at.result here
    (subst (λ n. LeadsTo vars n c.args.f.now c.found_at.result) end (c.found_at.ensures c.args.f.now))

pub returns-in-Some-value_under : goal.returns-in-Some-value_under
returns-in-Some-value_under c =
    let vars = c.args.self.now.vars in
    let kin = c.args.self.now.kin in
    let m = c.in-Some.m in
    let here : IsFollowed vars kin c.args.x c.args.f.now (Some m) = subst (IsFollowed vars kin c.args.x c.args.f.now) c.in-Some.is c.directories.invariant in
    let put = c.in-Some-value_under.ensures in
    followed_known vars kin c.requires.linked c.args.x c.args.f.now m here c.in-Some-value_under.y c.requires.order (put.0, sym c.definition_at-definition.ensures ∙ put.1)

pub directories-smaller : goal.directories-smaller
directories-smaller c =
    let vars = c.args.self.now.vars in
    let kin = c.args.self.now.kin in
    let m = c.in-Some.m in
    let here : IsFollowed vars kin c.args.x c.args.f.now (Some m) = subst (IsFollowed vars kin c.args.x c.args.f.now) c.in-Some.is c.directories.invariant in
    let name = name_followed vars kin c.requires.linked c.args.x c.args.f.now m here in
    let e : c.behind-here.result ≡ link_at (kin_at kin m).links (difference name c.args.f.now) =
    c.behind-here.ensures.derived here.down.1.0 here.down.1.1 name (c.definition_at-definition.ensures ∙ is_followed vars kin c.requires.linked c.args.x c.args.f.now m here) in
    rw (e, c.in-Some.is) (followed_falls vars kin c.requires.linked c.args.x c.args.f.now m here)

pub directories-preserved : goal.directories-preserved
directories-preserved c =
    let vars = c.args.self.now.vars in
    let kin = c.args.self.now.kin in
    let m = c.in-Some.m in
    let here : IsFollowed vars kin c.args.x c.args.f.now (Some m) = subst (IsFollowed vars kin c.args.x c.args.f.now) c.in-Some.is c.directories.invariant in
    let name = name_followed vars kin c.requires.linked c.args.x c.args.f.now m here in
    let is = is_followed vars kin c.requires.linked c.args.x c.args.f.now m here in
    let e : c.behind-here.result ≡ link_at (kin_at kin m).links (difference name c.args.f.now) =
    c.behind-here.ensures.derived here.down.1.0 here.down.1.1 name (c.definition_at-definition.ensures ∙ is) in
    let none = c.in_default.ensures in
    let other : c.args.f.now ≢ name = λ q.
    none here.down.1.0 here.down.1.1 (c.definition_at-definition.ensures ∙ is ∙ ap (λ g. Derived here.down.1.0 g here.down.1.1) (sym q)) in
    rw e (followed_on vars kin c.requires.linked c.args.x c.args.f.now m here other)

use Rattle.std.proofs.Common.{◌≡◌, ap, sym, subst, refl, false, true}
use Rattle.clause_solver.specs.declared.kin.Kin.{Kin}
use Rattle.clause_solver.specs.Greatest.{IsPresentChild}
use Rattle.clause_solver.specs.Linked.{kin_at}
use Rattle.clause_solver.specs.ReplacedNames.{names}
use Rattle.clause_solver.proofs.HasEntries.{NonePresent, none_first, none_last, none_next, present_falls, present_inside}
use Rattle.clause_solver.proofs.greatest.some_present_child.Goals as goal

pub entries-init : goal.entries-init
entries-init c =
    let e : c.kin_at.result.now.youngest ≡ (kin_at c.args.kin.now c.args.x).youngest = ap (λ (k : Kin). k.youngest) c.kin_at.ensures in
    subst (NonePresent c.args.vars.now c.args.best.now c.args.x (names c.args.replaced.now)) (sym e) (none_first c.args.vars.now c.args.best.now c.args.kin.now c.args.x (names c.args.replaced.now) c.requires.linked c.requires.inside)

pub returns-in-None : goal.returns-in-None
returns-in-None c = (
  λ t. let bad : false ≡ true = t in cc,
  λ child. absurd (none_last c.args.vars.now c.args.best.now c.args.kin.now c.args.x (names c.args.replaced.now) c.requires.linked (subst (NonePresent c.args.vars.now c.args.best.now c.args.x (names c.args.replaced.now)) c.in-None.is c.entries.invariant) child),
)

pub returns-then-is_present_child : goal.returns-then-is_present_child
returns-then-is_present_child c =
    let left = subst (NonePresent c.args.vars.now c.args.best.now c.args.x (names c.args.replaced.now)) c.in-Some.is c.entries.invariant in
    let inside = present_inside c.args.vars.now c.args.best.now c.args.kin.now c.args.x (names c.args.replaced.now) c.requires.linked c.in-Some.m left in
    (λ t. (c.in-Some.m, inside, c.is_present_child.ensures.0 c.if-is_present_child.true), λ child. refl)

pub entries-smaller : goal.entries-smaller
entries-smaller c =
    let left = subst (NonePresent c.args.vars.now c.args.best.now c.args.x (names c.args.replaced.now)) c.in-Some.is c.entries.invariant in
    rw (c.kin_at-in-Some.ensures, c.in-Some.is) (present_falls c.args.vars.now c.args.best.now c.args.kin.now c.args.x (names c.args.replaced.now) c.requires.linked c.in-Some.m left)

pub entries-preserved : goal.entries-preserved
entries-preserved c =
    let m = c.in-Some.m in
    let left = subst (NonePresent c.args.vars.now c.args.best.now c.args.x (names c.args.replaced.now)) c.in-Some.is c.entries.invariant in
    let e : c.kin_at-in-Some.result.now.older ≡ (kin_at c.args.kin.now m).older = ap (λ (k : Kin). k.older) c.kin_at-in-Some.ensures in
    let absent : ¬ (IsPresentChild c.args.vars.now c.args.best.now c.args.x (names c.args.replaced.now) m) =
    λ q. let t = c.is_present_child.ensures.1 q in let f = c.if-is_present_child.false in absurd (cc) in
    subst (NonePresent c.args.vars.now c.args.best.now c.args.x (names c.args.replaced.now)) (sym e) (none_next c.args.vars.now c.args.best.now c.args.kin.now c.args.x (names c.args.replaced.now) c.requires.linked m left absent)

use Rattle.std.proofs.Common.{◌≡◌, ◌<◌, ◌∙◌, Some, ap, subst}
use Rattle.feature_trees.specs.declared.kind.Kind.TheVariants.{Absent}
use Rattle.feature_trees.specs.Kinds.{has}
use Rattle.clause_solver.specs.declared.kin.Kin.{Kin}
use Rattle.clause_solver.specs.declared.variable.Variable.{Variable}
use Rattle.clause_solver.specs.Linked.{kin_at}
use Rattle.clause_solver.specs.Variables.{allowed, var_at}
use Rattle.clause_solver.proofs.Falling.{AreGoneOver, first_gone, all_gone, gone_falls, gone_on, fallen_settled}
use Rattle.clause_solver.proofs.Links.{left_of}
use Rattle.clause_solver.proofs.settling.+settle.Goals as goal

pub settle_entries-entries-init : goal.settle_entries-entries-init
settle_entries-entries-init t c =
    let e : c.kin_at.result.now.youngest ≡ (kin_at c.args.kin.now c.args.p).youngest = ap (λ (k : Kin). k.youngest) c.kin_at.ensures in
    record {
      gone = rw e (first_gone c.args.vars.now c.args.kin.now c.args.p c.args.best c.requires.linked c.requires.inside);
      fence = λ f. c.in_ok-fence.ensures f ∙ ap (λ (v : Variable). allowed v.fence f) c.var_at.ensures;
    }

pub settle_entries-returns-in-None : goal.settle_entries-returns-in-None
settle_entries-returns-in-None t c =
    let vars = c.args.vars.now in
    let best = c.args.best in
    all_gone vars c.args.kin.now c.args.p best c.requires.linked c.entries.new c.entries.fits (subst (AreGoneOver vars c.args.p best c.entries.new c.entries.fits) c.in-None.is c.entries.invariant.gone)

pub settle_entries-entries-smaller : goal.settle_entries-entries-smaller
settle_entries-entries-smaller t c =
    let vars = c.args.vars.now in
    let best = c.args.best in
    let gone : AreGoneOver vars c.args.p best c.entries.new c.entries.fits (Some c.in-Some.m) = subst (AreGoneOver vars c.args.p best c.entries.new c.entries.fits) c.in-Some.is c.entries.invariant.gone in
    let e : c.kin_at-in-Some.result.now.older ≡ (kin_at c.args.kin.now c.in-Some.m).older = ap (λ (k : Kin). k.older) c.kin_at-in-Some.ensures in
    let smaller : left_of c.kin_at-in-Some.result.now.older < left_of c.entries.here =
    rw (e, c.in-Some.is) (gone_falls vars c.args.kin.now c.args.p best c.requires.linked c.requires.order c.in-Some.m c.entries.new c.entries.fits gone) in
    smaller

pub settle_entries-entries-preserved : goal.settle_entries-entries-preserved
settle_entries-entries-preserved t c =
    let vars = c.args.vars.now in
    let best = c.args.best in
    let gone : AreGoneOver vars c.args.p best c.entries.new c.entries.fits (Some c.in-Some.m) = subst (AreGoneOver vars c.args.p best c.entries.new c.entries.fits) c.in-Some.is c.entries.invariant.gone in
    let e : c.kin_at-in-Some.result.now.older ≡ (kin_at c.args.kin.now c.in-Some.m).older = ap (λ (k : Kin). k.older) c.kin_at-in-Some.ensures in
    let entry = c.in_ok-entry-in-Some.entry in
    record {
      gone = rw e (gone_on vars c.args.kin.now c.args.p best c.requires.linked c.requires.order c.in-Some.m c.entries.new c.entries.fits gone entry.best entry.fits c.in_ok-entry-in-Some.ensures);
      fence = c.entries.invariant.fence;
    }

pub settle_entry-returns : goal.settle_entry-returns
settle_entry-returns t c =
    let vars = c.args.vars.now in
    let best = c.args.best in
    let falls = c.is_to_fall.ensures.0 c.if-not-is_to_fall.false in
    let may : c.has-may.result ≡ has (var_at vars c.args.m).kinds Absent = c.has-may.ensures ∙ ap (λ (v : Variable). has v.kinds Absent) c.var_at.ensures in
    let below = c.in_ok-below.below in
    fallen_settled vars best below.best c.args.m c.has-may.result below.fits c.requires.order c.requires.same c.requires.inside falls.0 falls.1 may (rw c.in_ok-set_alone.ensures.ok at c.in_ok-below.ensures)

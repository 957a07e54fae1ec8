use Rattle.std.proofs.Common.{sym, ap, ◌∙◌, Some, None, ◌+◌, arith}
use Rattle.std.specs.Option.{option_copied}
use Rattle.link_walks.proofs.Meets.{end_at, step_at}
use Rattle.link_walks.proofs.walks.met.Goals as goal

pub returns-then-not-followed-clause-met : goal.returns-then-not-followed-clause-met
returns-then-not-followed-clause-met c =
    sym (end_at c.args.links.now c.args.last c.args.names.now c.loop-k.k (c.loop-k.k + 1) (omega arith) c.loop-k-test.true
    (sym c.is_followed-followed.ensures ∙ c.if-not-followed.true)) ∙ c.loop-k.invariant.1

pub returns-in-Some-clause-met : goal.returns-in-Some-clause-met
returns-in-Some-clause-met c =
    sym (step_at c.args.links.now c.args.last c.args.names.now c.loop-k.k (c.loop-k.k + 1) (Some c.in-Some.link.now)
    (omega arith) c.loop-k-test.true (sym c.is_followed-followed.ensures ∙ c.if-not-followed.false)
    (sym c.link_at.ensures ∙ ap option_copied c.in-Some.is)) ∙ c.loop-k.invariant.1

pub loop-k-preserved : goal.loop-k-preserved
loop-k-preserved c =
    let lt = c.loop-k-test.true in (
      omega (arith, lt),
      sym (step_at c.args.links.now c.args.last c.args.names.now c.loop-k.k (c.loop-k.k + 1) None
          (omega arith) c.loop-k-test.true (sym c.is_followed-followed.ensures ∙ c.if-not-followed.false)
          (sym c.link_at.ensures ∙ ap option_copied c.in-None.is)) ∙ c.loop-k.invariant.1,
    )

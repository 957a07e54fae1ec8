use Rattle.std.proofs.Common.{All, subst, arith}
use Rattle.std.proofs.lemmas.List.{take_all}
use Rattle.std.proofs.lemmas.List.Elements.{All-more}
use Rattle.package_jobs.specs.FileActs.{StandsSomewhere}
use Rattle.package_jobs.proofs.followed.links_are_named.Goals as goal

pub loop-link-preserved : goal.loop-link-preserved
loop-link-preserved c =
    All-more StandsSomewhere c.args.links.now c.loop-link.link-index c.link-item.result c.loop-link-test.true c.loop-link.invariant
    (subst StandsSomewhere c.link-item.is c.at-at.ensures.named)

pub returns : goal.returns
returns c =
    subst (All StandsSomewhere) (take_all c.loop-link.link-index c.args.links.now (omega (arith, c.loop-link-test.false)))
    c.loop-link.invariant

use Rattle.std.proofs.Common.{arith}
use Rattle.shell_syntax.specs.declared.redirect.Redirect.TheVariants.{OutNull}
use Rattle.shell_to_colis.specs.Translated.{redirected_to}
use Rattle.shell_to_colis.proofs.Steps.{redirected_step}
use Rattle.shell_to_colis.proofs.redirections.redirected.Goals as goal

pub loop-left-preserved : goal.loop-left-preserved
loop-left-preserved c =
    redirected_step c.args.at c.loop-left.left.now OutNull c.loop-left.stmt c.in_ok-stmt.stmt (redirected_to c.args.at c.args.redirects.now c.args.body)
    (omega (arith, c.in-len1-up.len_at_least)) c.in_ok-stmt.ensures c.loop-left.invariant

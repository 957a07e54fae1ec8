use Rattle.std.proofs.Common.{◌∙◌, sym, ap, arith}
use Rattle.shell_grammar.specs.Forms.{redirection}
use Rattle.shell_parser.proofs.Steps.{end_of}
use Rattle.shell_parser.proofs.Lists.{redirects_begin, redirects_goes, redirects_end}
use Rattle.shell_parser.proofs.parser.commands.redirects.Goals as goal

pub loop-now-init : goal.loop-now-init
loop-now-init c = (omega arith, c.requires, redirects_begin _ _ c.new-all.ensures)

pub loop-now-preserved : goal.loop-now-preserved
loop-now-preserved c = (omega (arith, c.loop-now.invariant.0), omega (arith, c.loop-now-test.true), redirects_goes _ c.args.ts.now c.loop-now.now _ _ _ c.loop-now.invariant.2 (ap redirection (sym c.look.ensures) ∙ sym c.redirection.ensures ∙ c.in-Some.is) c.in_ok-add.ensures.ok)

pub returns-in-None : goal.returns-in-None
returns-in-None c = (c.loop-now.invariant.0, c.loop-now.invariant.1, redirects_end _ _ _ c.loop-now.invariant.2 (ap redirection (sym c.look.ensures) ∙ sym c.redirection.ensures ∙ c.in-None.is))

pub returns : goal.returns
returns c = (c.loop-now.invariant.0, c.loop-now.invariant.1, redirects_end _ _ _ c.loop-now.invariant.2 (ap redirection (end_of c.args.ts.now c.loop-now.now (omega (arith, c.loop-now-test.false)))))

use Rattle.std.proofs.Common.{◌∙◌, ◌+◌, ◌<◌, [], ◌∷◌, Some, length, drop, sym, ap, refl, subst, arith}
use Rattle.std.proofs.lemmas.List.{drop_more, drop_all}
use Rattle.shell_grammar.specs.Forms as form
use Rattle.shell_grammar.specs.Trees as tree
use Rattle.shell_parser.specs.Reads.{ItemsFrom, Caused, Gives, Stops}
use Rattle.shell_grammar.specs.Grammar.{Script}
use Rattle.shell_parser.proofs.Compounds as k
use Rattle.shell_parser.proofs.Lists as m
use Rattle.shell_parser.proofs.Loops as o
use Rattle.shell_parser.proofs.Simples as i
use Rattle.shell_parser.proofs.Steps as s
use Rattle.shell_parser.proofs.Words as w
use Rattle.shell_parser.proofs.parser.+parser.Goals as goal

-- ---- and-or lists

pub lists::and_or-returns-in-Err : goal.lists::and_or-returns-in-Err
lists::and_or-returns-in-Err t c = s.passed_on (λ f r x. m.and_or_stops x) c.in-Err.fault c.in-Err.ensures

pub lists::and_or-loop-now-init : goal.lists::and_or-loop-now-init
lists::and_or-loop-now-init t c = (c.in-Ok.ensures.0, c.in-Ok.ensures.1, m.links_begin _ _ _ _ c.in_ok-links.ensures c.in-Ok.ensures.2)

pub lists::and_or-returns-in-None : goal.lists::and_or-returns-in-None
lists::and_or-returns-in-None t c = (c.loop-now.invariant.0, c.loop-now.invariant.1, m.links_end _ _ _ _ _ c.in_ok-chain_of-in-None.ensures c.loop-now.invariant.2 (ap form.link_and (sym c.look.ensures) ∙ sym c.link_and.ensures ∙ c.in-None.is))

pub lists::and_or-returns-in-Err-pipeline : goal.lists::and_or-returns-in-Err-pipeline
lists::and_or-returns-in-Err-pipeline t c = s.passed_on (λ f r x. m.links_stops _ c.args.ts.now c.loop-now.now _ r _ f _ _ c.loop-now.invariant.2 (ap form.link_and (sym c.look.ensures) ∙ sym c.link_and.ensures ∙ c.in-Some.is) c.newlines-now.ensures.2 x) c.in-Err-pipeline.fault c.in-Err-pipeline.ensures

pub lists::and_or-loop-now-preserved : goal.lists::and_or-loop-now-preserved
lists::and_or-loop-now-preserved t c = (omega (arith, c.loop-now.invariant.0, c.newlines-now.ensures.0, c.in-Ok-pipeline.ensures.0), c.in-Ok-pipeline.ensures.1, m.links_goes _ c.args.ts.now c.loop-now.now _ _ _ _ _ _ _ c.loop-now.invariant.2 (ap form.link_and (sym c.look.ensures) ∙ sym c.link_and.ensures ∙ c.in-Some.is) c.newlines-now.ensures.2 c.in-Ok-pipeline.ensures.2 c.in_ok-links-2.ensures)

pub lists::and_or-returns : goal.lists::and_or-returns
lists::and_or-returns t c = (c.loop-now.invariant.0, c.loop-now.invariant.1, m.links_end _ _ _ _ _ c.in_ok-chain_of.ensures c.loop-now.invariant.2 (ap form.link_and (s.end_of c.args.ts.now c.loop-now.now (omega (arith, c.loop-now-test.false)))))

-- ---- blocks

pub lists::block-returns : goal.lists::block-returns
lists::block-returns t c = m.block_reads _ _ c.args.ts.now c.args.at _ _ c.newlines-first.ensures.0 c.newlines-first.ensures.2 c.members.ensures

-- ---- `{ }` and `( )`

pub commands::braces-returns-in-Err : goal.commands::braces-returns-in-Err
commands::braces-returns-in-Err t c = s.passed_sign (λ f r x. k.braces_first f x) c.in-Err.fault c.in-Err.ensures.takes

pub commands::braces-returns-in-Err-block : goal.commands::braces-returns-in-Err-block
commands::braces-returns-in-Err-block t c = s.passed_on (λ f r x. k.braces_body _ f c.in-Ok.ensures.takes.2 x) c.in-Err-block.fault c.in-Err-block.ensures

pub commands::braces-returns-in-Err-take : goal.commands::braces-returns-in-Err-take
commands::braces-returns-in-Err-take t c = s.passed_sign (λ f r x. k.braces_last _ _ f c.in-Ok.ensures.takes.2 c.in-Ok-block.ensures.2 x) c.in-Err-take.fault c.in-Err-take.ensures

pub commands::braces-returns : goal.commands::braces-returns
commands::braces-returns t c = (omega (arith, c.in-Ok.ensures.takes.0, c.in-Ok-block.ensures.0, c.in-Ok-take.ensures.0), c.in-Ok-take.ensures.1, k.braces_ok _ _ _ c.in-Ok.ensures.takes.2 c.in-Ok-block.ensures.2 c.in-Ok-take.ensures.2)

pub commands::group-returns : goal.commands::group-returns
commands::group-returns t c = k.group_reads _ _ _ _ _ c.requires.form c.braces.ensures

pub commands::subshell-returns-in-Err : goal.commands::subshell-returns-in-Err
commands::subshell-returns-in-Err t c = s.passed_sign (λ f r x. k.subshell_first f c.requires.form x) c.in-Err.fault c.in-Err.ensures.takes

pub commands::subshell-returns-in-Err-block : goal.commands::subshell-returns-in-Err-block
commands::subshell-returns-in-Err-block t c = s.passed_on (λ f r x. k.subshell_body _ f c.requires.form c.in-Ok.ensures.takes.2 x) c.in-Err-block.fault c.in-Err-block.ensures

pub commands::subshell-returns-in-Err-take : goal.commands::subshell-returns-in-Err-take
commands::subshell-returns-in-Err-take t c = s.passed_sign (λ f r x. k.subshell_last _ _ f c.requires.form c.in-Ok.ensures.takes.2 c.in-Ok-block.ensures.2 x) c.in-Err-take.fault c.in-Err-take.ensures

pub commands::subshell-returns : goal.commands::subshell-returns
commands::subshell-returns t c = (omega (arith, c.in-Ok.ensures.takes.0, c.in-Ok-block.ensures.0, c.in-Ok-take.ensures.0), c.in-Ok-take.ensures.1, s.built c.in_ok-tree.ensures (k.subshell_ok _ _ _ _ c.place.ensures c.requires.form c.in-Ok.ensures.takes.2 c.in-Ok-block.ensures.2 c.in-Ok-take.ensures.2))

-- ---- lists of commands

pub lists::members-returns-in-Err : goal.lists::members-returns-in-Err
lists::members-returns-in-Err t c = s.passed_on (λ f r x. m.members_stop x) c.in-Err.fault c.in-Err.ensures

pub lists::members-loop-now-init : goal.lists::members-loop-now-init
lists::members-loop-now-init t c = (c.in-Ok.ensures.0, c.in-Ok.ensures.1, m.members_begin _ _ _ [] _ refl c.in_ok-trees.ensures c.in-Ok.ensures.2)

pub lists::members-returns-then-not-starts : goal.lists::members-returns-then-not-starts
lists::members-returns-then-not-starts t c = (omega (arith, c.loop-now.invariant.0, c.newlines-now.ensures.0), c.newlines-now.ensures.1, m.members_last _ c.args.ts.now c.loop-now.now _ c.loop-now.trees _ c.in_ok-seq_of.ensures c.loop-now.invariant.2 (sym c.separates.ensures.looks ∙ c.loop-now-test.true) c.newlines-now.ensures.2 (ap form.starts (sym c.look.ensures) ∙ sym c.starts.ensures ∙ c.if-not-starts.true))

pub lists::members-returns-in-Err-and_or : goal.lists::members-returns-in-Err-and_or
lists::members-returns-in-Err-and_or t c = s.passed_on (λ f r x. m.members_stops _ c.args.ts.now c.loop-now.now _ r f c.loop-now.trees c.loop-now.invariant.2 (sym c.separates.ensures.looks ∙ c.loop-now-test.true) c.newlines-now.ensures.2 (ap form.starts (sym c.look.ensures) ∙ sym c.starts.ensures ∙ c.if-not-starts.false) x) c.in-Err-and_or.fault c.in-Err-and_or.ensures

pub lists::members-loop-now-preserved : goal.lists::members-loop-now-preserved
lists::members-loop-now-preserved t c = (omega (arith, c.loop-now.invariant.0, c.newlines-now.ensures.0, c.in-Ok-and_or.ensures.0), c.in-Ok-and_or.ensures.1, m.members_goes _ c.args.ts.now c.loop-now.now _ _ _ c.loop-now.trees _ c.loop-now.invariant.2 (sym c.separates.ensures.looks ∙ c.loop-now-test.true) c.newlines-now.ensures.2 (ap form.starts (sym c.look.ensures) ∙ sym c.starts.ensures ∙ c.if-not-starts.false) c.in-Ok-and_or.ensures.2 c.in_ok-trees-2.ensures)

pub lists::members-returns : goal.lists::members-returns
lists::members-returns t c = (c.loop-now.invariant.0, c.loop-now.invariant.1, m.members_end _ _ c.loop-now.trees _ c.in_ok-seq_of-2.ensures c.loop-now.invariant.2 (sym c.separates.ensures.looks ∙ c.loop-now-test.false))

-- ---- pipelines

pub lists::piped-returns-in-Err : goal.lists::piped-returns-in-Err
lists::piped-returns-in-Err t c = s.passed_on (λ f r x. m.piped_stops x) c.in-Err.fault c.in-Err.ensures

pub lists::piped-returns-then-not-stands : goal.lists::piped-returns-then-not-stands
lists::piped-returns-then-not-stands t c = (c.in-Ok.ensures.0, c.in-Ok.ensures.1, m.piped_one _ _ _ c.in-Ok.ensures.2 (λ q. let t = c.stands.ensures.looks.1 q in let f = c.if-not-stands.true in cc))

pub lists::piped-loop-now-init : goal.lists::piped-loop-now-init
lists::piped-loop-now-init t c = (c.in-Ok.ensures.0, c.in-Ok.ensures.1, m.bars_begin _ _ _ [] _ refl c.in_ok-parts.ensures c.in-Ok.ensures.2)

pub lists::piped-returns-in-Err-command : goal.lists::piped-returns-in-Err-command
lists::piped-returns-in-Err-command t c = s.passed_on (λ f r x. m.bars_stops _ c.args.ts.now c.loop-now.now _ r f c.loop-now.parts c.loop-now.invariant.2 (c.stands-in-loop-now.ensures.looks.0 c.loop-now-test.true) c.newlines-now.ensures.2 x) c.in-Err-command.fault c.in-Err-command.ensures

pub lists::piped-loop-now-preserved : goal.lists::piped-loop-now-preserved
lists::piped-loop-now-preserved t c = (omega (arith, c.loop-now.invariant.0, c.newlines-now.ensures.0, c.in-Ok-command.ensures.0), c.in-Ok-command.ensures.1, m.bars_goes _ c.args.ts.now c.loop-now.now _ _ _ c.loop-now.parts _ c.loop-now.invariant.2 (c.stands-in-loop-now.ensures.looks.0 c.loop-now-test.true) c.newlines-now.ensures.2 c.in-Ok-command.ensures.2 c.in_ok-parts-2.ensures)

pub lists::piped-returns : goal.lists::piped-returns
lists::piped-returns t c = (c.loop-now.invariant.0, c.loop-now.invariant.1, m.bars_end _ _ c.loop-now.parts _ _ c.place.ensures c.in_ok-pipe_of.ensures c.loop-now.invariant.2 (λ q. let t = c.stands-in-loop-now.ensures.looks.1 q in let f = c.loop-now-test.false in cc))

pub lists::pipeline-returns-in-Err : goal.lists::pipeline-returns-in-Err
lists::pipeline-returns-in-Err t c = s.passed_on (λ f r x. m.bang_stops c.args.ts.now c.args.at r f (c.stands.ensures.looks.0 c.if-stands.true) x) c.in-Err.fault c.in-Err.ensures

pub lists::pipeline-returns-then-stands : goal.lists::pipeline-returns-then-stands
lists::pipeline-returns-then-stands t c = (omega (arith, c.in-Ok.ensures.0), c.in-Ok.ensures.1, s.built c.in_ok-turned.ensures (m.pipeline_bang c.args.ts.now c.args.at _ _ _ c.place.ensures (c.stands.ensures.looks.0 c.if-stands.true) c.in-Ok.ensures.2))

pub lists::pipeline-returns : goal.lists::pipeline-returns
lists::pipeline-returns t c = m.plain_reads _ _ _ _ _ (λ q. let t = c.stands.ensures.looks.1 q in let f = c.if-stands.false in cc) c.piped-2.ensures

-- ---- commands

pub commands::command-returns-in-None : goal.commands::command-returns-in-None
commands::command-returns-in-None t c = k.command_none _ _ (ap form.command_form (sym c.look.ensures) ∙ sym c.command_form.ensures ∙ c.in-None.is) c.place.ensures

pub commands::compound_command-returns-in-Err : goal.commands::compound_command-returns-in-Err
commands::compound_command-returns-in-Err t c = s.passed_on (λ f r x. k.command_stops f c.requires.form x) c.in-Err.fault c.in-Err.ensures

pub commands::compound_command-returns-in-Err-redirects : goal.commands::compound_command-returns-in-Err-redirects
commands::compound_command-returns-in-Err-redirects t c = s.passed_on (λ f r x. k.command_stops_later _ f c.requires.form c.in-Ok.ensures.2 x) c.in-Err-redirects.fault c.in-Err-redirects.ensures

pub commands::compound_command-returns : goal.commands::compound_command-returns
commands::compound_command-returns t c = (omega (arith, c.in-Ok.ensures.0, c.in-Ok-redirects.ensures.0), c.in-Ok-redirects.ensures.1, k.command_compound _ _ _ _ c.place.ensures c.in_ok-redirected.ensures c.requires.form c.in-Ok.ensures.2 c.in-Ok-redirects.ensures.2)

-- ---- `if`

pub conditionals::if_arm-returns-in-Err : goal.conditionals::if_arm-returns-in-Err
conditionals::if_arm-returns-in-Err t c = s.passed_on (λ f r x. k.arm_cond f x) c.in-Err.fault c.in-Err.ensures

pub conditionals::if_arm-returns-in-Err-take : goal.conditionals::if_arm-returns-in-Err-take
conditionals::if_arm-returns-in-Err-take t c = s.passed_sign (λ f r x. k.arm_then _ f c.in-Ok.ensures.2 x) c.in-Err-take.fault c.in-Err-take.ensures

pub conditionals::if_arm-returns-in-Err-block : goal.conditionals::if_arm-returns-in-Err-block
conditionals::if_arm-returns-in-Err-block t c = s.passed_on (λ f r x. k.arm_body _ _ f c.in-Ok.ensures.2 c.in-Ok-take.ensures.2 x) c.in-Err-block.fault c.in-Err-block.ensures

pub conditionals::if_arm-returns : goal.conditionals::if_arm-returns
conditionals::if_arm-returns t c = (omega (arith, c.in-Ok.ensures.0, c.in-Ok-take.ensures.0, c.in-Ok-block.ensures.0), c.in-Ok-block.ensures.1, k.arm_ok _ _ _ _ refl c.in-Ok.ensures.2 c.in-Ok-take.ensures.2 c.in-Ok-block.ensures.2)

pub conditionals::branches-returns-in-Err : goal.conditionals::branches-returns-in-Err
conditionals::branches-returns-in-Err t c = s.passed_sign (λ f r x. k.if_first f c.requires.form x) c.in-Err.fault c.in-Err.ensures.takes

pub conditionals::branches-returns-in-Err-clause : goal.conditionals::branches-returns-in-Err-clause
conditionals::branches-returns-in-Err-clause t c = s.passed_on (λ f r x. k.if_body _ f c.requires.form c.in-Ok.ensures.takes.2 x) c.in-Err-clause.fault c.in-Err-clause.ensures

pub conditionals::branches-returns-in-Err-take : goal.conditionals::branches-returns-in-Err-take
conditionals::branches-returns-in-Err-take t c = s.passed_sign (λ f r x. k.if_last _ _ f c.requires.form c.in-Ok.ensures.takes.2 c.in-Ok-clause.ensures.2 x) c.in-Err-take.fault c.in-Err-take.ensures

pub conditionals::branches-returns : goal.conditionals::branches-returns
conditionals::branches-returns t c = (omega (arith, c.in-Ok.ensures.takes.0, c.in-Ok-clause.ensures.0, c.in-Ok-take.ensures.0), c.in-Ok-take.ensures.1, s.built c.in_ok-tree.ensures (k.if_ok _ _ _ _ _ c.place.ensures c.requires.form c.in-Ok.ensures.takes.2 c.in-Ok-clause.ensures.2 c.in-Ok-take.ensures.2))

pub conditionals::clause-returns-in-Err : goal.conditionals::clause-returns-in-Err
conditionals::clause-returns-in-Err t c = c.in-Err.ensures

pub conditionals::clause-loop-arms-init : goal.conditionals::clause-loop-arms-init
conditionals::clause-loop-arms-init t c = (c.in-Ok.ensures.0, c.in-Ok.ensures.1, k.arms_begin _ _ _ [] _ refl c.in_ok-arms.ensures c.in-Ok.ensures.2)

pub conditionals::clause-returns-in-Err-if_arm : goal.conditionals::clause-returns-in-Err-if_arm
conditionals::clause-returns-in-Err-if_arm t c = s.passed_on (λ f r x. k.arms_stops _ c.args.ts.now c.loop-arms.now r f c.loop-arms.arms c.loop-arms.invariant.2 (c.stands.ensures.looks.0 c.loop-arms-test.true) x) c.in-Err-if_arm.fault c.in-Err-if_arm.ensures

pub conditionals::clause-loop-arms-preserved : goal.conditionals::clause-loop-arms-preserved
conditionals::clause-loop-arms-preserved t c = (omega (arith, c.loop-arms.invariant.0, c.in-Ok-if_arm.ensures.0), c.in-Ok-if_arm.ensures.1, k.arms_goes _ c.args.ts.now c.loop-arms.now _ _ c.loop-arms.arms _ c.loop-arms.invariant.2 (c.stands.ensures.looks.0 c.loop-arms-test.true) c.in-Ok-if_arm.ensures.2 c.in_ok-arms-2.ensures)

pub conditionals::clause-returns-in-Err-block : goal.conditionals::clause-returns-in-Err-block
conditionals::clause-returns-in-Err-block t c = s.passed_on (λ f r x. k.clause_bad _ c.args.ts.now c.loop-arms.now r f c.loop-arms.arms c.loop-arms.invariant.2 (c.stands-2.ensures.looks.0 c.if-stands.true) x) c.in-Err-block.fault c.in-Err-block.ensures

pub conditionals::clause-returns-then-stands : goal.conditionals::clause-returns-then-stands
conditionals::clause-returns-then-stands t c = (omega (arith, c.loop-arms.invariant.0, c.in-Ok-block.ensures.0), c.in-Ok-block.ensures.1, k.clause_else _ c.args.ts.now c.loop-arms.now _ _ c.loop-arms.arms c.loop-arms.invariant.2 (c.stands-2.ensures.looks.0 c.if-stands.true) c.in-Ok-block.ensures.2)

pub conditionals::clause-returns : goal.conditionals::clause-returns
conditionals::clause-returns t c = (c.loop-arms.invariant.0, c.loop-arms.invariant.1, k.clause_end _ _ c.loop-arms.arms c.loop-arms.invariant.2 (λ q. let t = c.stands.ensures.looks.1 q in let f = c.loop-arms-test.false in cc) (λ q. let t = c.stands-2.ensures.looks.1 q in let f = c.if-stands.false in cc))

-- ---- `while` and `until`

pub loops::turn-returns-in-Err : goal.loops::turn-returns-in-Err
loops::turn-returns-in-Err t c = s.passed_on (λ f r x. k.turn_cond f x) c.in-Err.fault c.in-Err.ensures

pub loops::turn-returns-in-Err-take : goal.loops::turn-returns-in-Err-take
loops::turn-returns-in-Err-take t c = s.passed_sign (λ f r x. k.turn_do _ f c.in-Ok.ensures.2 x) c.in-Err-take.fault c.in-Err-take.ensures

pub loops::turn-returns-in-Err-block : goal.loops::turn-returns-in-Err-block
loops::turn-returns-in-Err-block t c = s.passed_on (λ f r x. k.turn_body _ _ f c.in-Ok.ensures.2 c.in-Ok-take.ensures.2 x) c.in-Err-block.fault c.in-Err-block.ensures

pub loops::turn-returns : goal.loops::turn-returns
loops::turn-returns t c = (omega (arith, c.in-Ok.ensures.0, c.in-Ok-take.ensures.0, c.in-Ok-block.ensures.0), c.in-Ok-block.ensures.1, k.turn_ok _ _ _ c.in-Ok.ensures.2 c.in-Ok-take.ensures.2 c.in-Ok-block.ensures.2)

pub loops::turns-returns-in-Err : goal.loops::turns-returns-in-Err
loops::turns-returns-in-Err t c = s.passed_sign (λ f r x. k.while_first c.args.until _ f c.loop_word-want.ensures.looks c.requires.form x) c.in-Err.fault c.in-Err.ensures.takes

pub loops::turns-returns-in-Err-turn : goal.loops::turns-returns-in-Err-turn
loops::turns-returns-in-Err-turn t c = s.passed_on (λ f r x. k.while_body c.args.until _ _ f c.loop_word-want.ensures.looks c.requires.form c.in-Ok.ensures.takes.2 x) c.in-Err-turn.fault c.in-Err-turn.ensures

pub loops::turns-returns-in-Err-take : goal.loops::turns-returns-in-Err-take
loops::turns-returns-in-Err-take t c = s.passed_sign (λ f r x. k.while_last c.args.until _ _ _ f c.loop_word-want.ensures.looks c.requires.form c.in-Ok.ensures.takes.2 c.in-Ok-turn.ensures.2 x) c.in-Err-take.fault c.in-Err-take.ensures

pub loops::turns-returns : goal.loops::turns-returns
loops::turns-returns t c = (omega (arith, c.in-Ok.ensures.takes.0, c.in-Ok-turn.ensures.0, c.in-Ok-take.ensures.0), c.in-Ok-take.ensures.1, s.built c.in_ok-tree.ensures (k.while_ok c.args.until _ _ _ _ _ _ c.loop_word-want.ensures.looks c.place.ensures c.requires.form c.in-Ok.ensures.takes.2 c.in-Ok-turn.ensures.2 c.in-Ok-take.ensures.2))

-- ---- `for`

pub loops::for_loop-returns-in-Err : goal.loops::for_loop-returns-in-Err
loops::for_loop-returns-in-Err t c = s.passed_sign (λ f r x. o.for_first f c.requires.form x) c.in-Err.fault c.in-Err.ensures.takes

pub loops::for_loop-returns-in-Err-for_rest : goal.loops::for_loop-returns-in-Err-for_rest
loops::for_loop-returns-in-Err-for_rest t c = s.passed_on (λ f r x. o.for_body _ f c.requires.form c.in-Ok.ensures.takes.2 x) c.in-Err-for_rest.fault c.in-Err-for_rest.ensures

pub loops::for_loop-returns-in-Err-take : goal.loops::for_loop-returns-in-Err-take
loops::for_loop-returns-in-Err-take t c = s.passed_sign (λ f r x. o.for_last _ _ f c.requires.form c.in-Ok.ensures.takes.2 c.in-Ok-for_rest.ensures.2 x) c.in-Err-take.fault c.in-Err-take.ensures

pub loops::for_loop-returns : goal.loops::for_loop-returns
loops::for_loop-returns t c = (omega (arith, c.in-Ok.ensures.takes.0, c.in-Ok-for_rest.ensures.0, c.in-Ok-take.ensures.0), c.in-Ok-take.ensures.1, s.built c.in_ok-tree.ensures (o.for_ok _ _ _ _ _ _ c.place.ensures c.requires.form c.in-Ok.ensures.takes.2 c.in-Ok-for_rest.ensures.2 c.in-Ok-take.ensures.2))

pub loops::for_rest-returns-in-Err : goal.loops::for_rest-returns-in-Err
loops::for_rest-returns-in-Err t c = s.passed_on (λ f r x. o.rest_name f x) c.in-Err.fault c.in-Err.ensures

pub loops::for_rest-returns-in-Err-for_words : goal.loops::for_rest-returns-in-Err-for_words
loops::for_rest-returns-in-Err-for_words t c = s.passed_on (λ f r x. o.rest_words _ f c.in-Ok.ensures.2 c.newlines-next.ensures.2 x) c.in-Err-for_words.fault c.in-Err-for_words.ensures

pub loops::for_rest-returns-in-Err-take : goal.loops::for_rest-returns-in-Err-take
loops::for_rest-returns-in-Err-take t c = s.passed_sign (λ f r x. o.rest_do _ _ f c.in-Ok.ensures.2 c.newlines-next.ensures.2 c.in-Ok-for_words.ensures.2 x) c.in-Err-take.fault c.in-Err-take.ensures

pub loops::for_rest-returns-in-Err-block : goal.loops::for_rest-returns-in-Err-block
loops::for_rest-returns-in-Err-block t c = s.passed_on (λ f r x. o.rest_body _ _ _ f c.in-Ok.ensures.2 c.newlines-next.ensures.2 c.in-Ok-for_words.ensures.2 c.in-Ok-take.ensures.2 x) c.in-Err-block.fault c.in-Err-block.ensures

pub loops::for_rest-returns : goal.loops::for_rest-returns
loops::for_rest-returns t c = (omega (arith, c.in-Ok.ensures.0, c.newlines-next.ensures.0, c.in-Ok-for_words.ensures.0, c.in-Ok-take.ensures.0, c.in-Ok-block.ensures.0), c.in-Ok-block.ensures.1, o.rest_ok _ _ _ _ c.in-Ok.ensures.2 c.newlines-next.ensures.2 c.in-Ok-for_words.ensures.2 c.in-Ok-take.ensures.2 c.in-Ok-block.ensures.2)

pub loops::for_name-returns-then-not-is_name_word : goal.loops::for_name-returns-then-not-is_name_word
loops::for_name-returns-then-not-is_name_word t c = o.name_none _ _ (ap form.is_name_word (sym c.look.ensures) ∙ sym c.is_name_word.ensures ∙ c.if-not-is_name_word.true) c.place.ensures

pub loops::for_name-returns-in-Err : goal.loops::for_name-returns-in-Err
loops::for_name-returns-in-Err t c = s.passed_sign (λ f r x. o.name_stops f (ap form.is_name_word (sym c.look.ensures) ∙ sym c.is_name_word.ensures ∙ c.if-not-is_name_word.false) x) c.in-Err.fault c.in-Err.ensures

pub loops::for_name-returns : goal.loops::for_name-returns
loops::for_name-returns t c = (omega (arith, c.in-Ok.ensures.0), c.in-Ok.ensures.1, o.name_ok _ _ c.in_ok-text.ensures (ap form.is_name_word (sym c.look.ensures) ∙ sym c.is_name_word.ensures ∙ c.if-not-is_name_word.false) c.in-Ok.ensures.2)

pub loops::for_words-returns-in-Err : goal.loops::for_words-returns-in-Err
loops::for_words-returns-in-Err t c = s.passed_on (λ f r x. o.words_stops c.args.ts.now c.args.at r f (c.stands.ensures.looks.0 c.if-not-stands.false) x) c.in-Err.fault c.in-Err.ensures

pub loops::for_words-returns-in-Err-apart : goal.loops::for_words-returns-in-Err-apart
loops::for_words-returns-in-Err-apart t c = s.passed_on (λ f r x. o.words_apart c.args.ts.now c.args.at _ r _ f (c.stands.ensures.looks.0 c.if-not-stands.false) c.in-Ok.ensures.2 x) c.in-Err-apart.fault c.in-Err-apart.ensures

pub loops::for_words-returns : goal.loops::for_words-returns
loops::for_words-returns t c = (omega (arith, c.in-Ok.ensures.0, c.in-Ok-apart.ensures.0), c.in-Ok-apart.ensures.1, o.words_ok c.args.ts.now c.args.at _ _ _ (c.stands.ensures.looks.0 c.if-not-stands.false) c.in-Ok.ensures.2 c.in-Ok-apart.ensures.2)

pub loops::each-loop-alloc-init : goal.loops::each-loop-alloc-init
loops::each-loop-alloc-init t c = (omega arith, c.requires.within, o.each_begins _ _ c.new-words.ensures)

pub loops::each-returns-in-Err : goal.loops::each-returns-in-Err
loops::each-returns-in-Err t c = s.passed_sign (λ f r x. o.each_stops _ _ r f c.loop-alloc.words c.loop-alloc.invariant.2 (ap form.is_word (sym c.look.ensures) ∙ sym c.is_word.ensures ∙ c.loop-alloc-test.true) x) c.in-Err.fault c.in-Err.ensures

pub loops::each-loop-alloc-preserved : goal.loops::each-loop-alloc-preserved
loops::each-loop-alloc-preserved t c = (omega (arith, c.loop-alloc.invariant.0, c.in-Ok.ensures.0), c.in-Ok.ensures.1, o.each_goes _ _ _ _ c.loop-alloc.words _ c.loop-alloc.invariant.2 (ap form.is_word (sym c.look.ensures) ∙ sym c.is_word.ensures ∙ c.loop-alloc-test.true) c.in-Ok.ensures.2 c.in_ok-add.ensures.ok)

pub loops::each-returns : goal.loops::each-returns
loops::each-returns t c = (c.loop-alloc.invariant.0, c.loop-alloc.invariant.1, o.each_end _ _ c.loop-alloc.words c.loop-alloc.invariant.2 (ap form.is_word (sym c.look.ensures) ∙ sym c.is_word.ensures ∙ c.loop-alloc-test.false))

-- ---- `case`

pub cases::choice-returns-in-Err : goal.cases::choice-returns-in-Err
cases::choice-returns-in-Err t c = s.passed_sign (λ f r x. o.case_first f c.requires.form x) c.in-Err.fault c.in-Err.ensures.takes

pub cases::choice-returns-in-Err-case_rest : goal.cases::choice-returns-in-Err-case_rest
cases::choice-returns-in-Err-case_rest t c = s.passed_on (λ f r x. o.case_body _ f c.requires.form c.in-Ok.ensures.takes.2 x) c.in-Err-case_rest.fault c.in-Err-case_rest.ensures

pub cases::choice-returns-in-Err-take : goal.cases::choice-returns-in-Err-take
cases::choice-returns-in-Err-take t c = s.passed_sign (λ f r x. o.case_last _ _ f c.requires.form c.in-Ok.ensures.takes.2 c.in-Ok-case_rest.ensures.2 x) c.in-Err-take.fault c.in-Err-take.ensures

pub cases::choice-returns : goal.cases::choice-returns
cases::choice-returns t c = (omega (arith, c.in-Ok.ensures.takes.0, c.in-Ok-case_rest.ensures.0, c.in-Ok-take.ensures.0), c.in-Ok-take.ensures.1, s.built c.in_ok-tree.ensures (o.case_ok _ _ _ _ _ c.place.ensures c.requires.form c.in-Ok.ensures.takes.2 c.in-Ok-case_rest.ensures.2 c.in-Ok-take.ensures.2))

pub cases::case_rest-returns-in-Err : goal.cases::case_rest-returns-in-Err
cases::case_rest-returns-in-Err t c = s.passed_sign (λ f r x. o.choice_word f x) c.in-Err.fault c.in-Err.ensures

pub cases::case_rest-returns-in-Err-take : goal.cases::case_rest-returns-in-Err-take
cases::case_rest-returns-in-Err-take t c = s.passed_sign (λ f r x. o.choice_in _ f c.in-Ok.ensures.2 c.newlines-next.ensures.2 x) c.in-Err-take.fault c.in-Err-take.ensures

pub cases::case_rest-returns-in-Err-case_arms : goal.cases::case_rest-returns-in-Err-case_arms
cases::case_rest-returns-in-Err-case_arms t c = s.passed_on (λ f r x. o.choice_arms _ _ f c.in-Ok.ensures.2 c.newlines-next.ensures.2 c.in-Ok-take.ensures.2 c.newlines-start.ensures.2 x) c.in-Err-case_arms.fault c.in-Err-case_arms.ensures

pub cases::case_rest-returns : goal.cases::case_rest-returns
cases::case_rest-returns t c = (omega (arith, c.in-Ok.ensures.0, c.newlines-next.ensures.0, c.in-Ok-take.ensures.0, c.newlines-start.ensures.0, c.in-Ok-case_arms.ensures.0), c.in-Ok-case_arms.ensures.1, o.choice_ok _ _ _ c.in-Ok.ensures.2 c.newlines-next.ensures.2 c.in-Ok-take.ensures.2 c.newlines-start.ensures.2 c.in-Ok-case_arms.ensures.2)

pub cases::case_arms-loop-alloc-init : goal.cases::case_arms-loop-alloc-init
cases::case_arms-loop-alloc-init t c = (omega arith, c.requires.within, o.case_arms_begin _ _ c.new-arms.ensures)

pub cases::case_arms-returns-in-Err : goal.cases::case_arms-returns-in-Err
cases::case_arms-returns-in-Err t c = s.passed_on (λ f r x. o.case_arms_stop _ _ r f c.loop-alloc.arms c.loop-alloc.invariant.2 (λ q. let t = c.stands.ensures.looks.1 q in let f = c.loop-alloc-test.true in cc) x) c.in-Err.fault c.in-Err.ensures

pub cases::case_arms-returns-then-not-stands : goal.cases::case_arms-returns-then-not-stands
cases::case_arms-returns-then-not-stands t c = (omega (arith, c.loop-alloc.invariant.0, c.in-Ok.ensures.0), c.in-Ok.ensures.1, o.case_arms_last _ _ _ _ c.loop-alloc.arms _ c.loop-alloc.invariant.2 (λ q. let t = c.stands.ensures.looks.1 q in let f = c.loop-alloc-test.true in cc) c.in-Ok.ensures.2 (λ q. let t = c.stands-in-loop-alloc.ensures.looks.1 q in let f = c.if-not-stands.true in cc) c.in_ok-arms.ensures)

pub cases::case_arms-loop-alloc-preserved : goal.cases::case_arms-loop-alloc-preserved
cases::case_arms-loop-alloc-preserved t c = (omega (arith, c.loop-alloc.invariant.0, c.in-Ok.ensures.0, c.newlines-now.ensures.0), c.newlines-now.ensures.1, o.case_arms_go _ _ c.args.ts.now c.in-Ok.found.1 _ _ c.loop-alloc.arms _ c.loop-alloc.invariant.2 (λ q. let t = c.stands.ensures.looks.1 q in let f = c.loop-alloc-test.true in cc) c.in-Ok.ensures.2 (c.stands-in-loop-alloc.ensures.looks.0 c.if-not-stands.false) c.newlines-now.ensures.2 c.in_ok-arms.ensures)

pub cases::case_arms-returns : goal.cases::case_arms-returns
cases::case_arms-returns t c = (c.loop-alloc.invariant.0, c.loop-alloc.invariant.1, o.case_arms_end _ _ c.loop-alloc.arms c.loop-alloc.invariant.2 (c.stands.ensures.looks.0 c.loop-alloc-test.false))

pub cases::case_arm-returns-in-Err : goal.cases::case_arm-returns-in-Err
cases::case_arm-returns-in-Err t c = s.passed_on (λ f r x. c.arm_begin-first.ensures.2 _ (o.case_arm_patterns f x)) c.in-Err.fault c.in-Err.ensures

pub cases::case_arm-returns-in-Err-take : goal.cases::case_arm-returns-in-Err-take
cases::case_arm-returns-in-Err-take t c = s.passed_sign (λ f r x. c.arm_begin-first.ensures.2 _ (o.case_arm_close _ f c.in-Ok.ensures.2 x)) c.in-Err-take.fault c.in-Err-take.ensures

pub cases::case_arm-returns-in-Err-arm_body : goal.cases::case_arm-returns-in-Err-arm_body
cases::case_arm-returns-in-Err-arm_body t c = s.passed_on (λ f r x. c.arm_begin-first.ensures.2 _ (o.case_arm_body _ _ f c.in-Ok.ensures.2 c.in-Ok-take.ensures.2 c.newlines-start.ensures.2 x)) c.in-Err-arm_body.fault c.in-Err-arm_body.ensures

pub cases::case_arm-returns : goal.cases::case_arm-returns
cases::case_arm-returns t c = (omega (arith, c.arm_begin-first.ensures.0, c.in-Ok.ensures.0, c.in-Ok-take.ensures.0, c.newlines-start.ensures.0, c.in-Ok-arm_body.ensures.0), c.in-Ok-arm_body.ensures.1, c.arm_begin-first.ensures.2 _ (o.case_arm_ok _ _ _ _ refl c.in-Ok.ensures.2 c.in-Ok-take.ensures.2 c.newlines-start.ensures.2 c.in-Ok-arm_body.ensures.2))

pub cases::patterns-returns-in-Err : goal.cases::patterns-returns-in-Err
cases::patterns-returns-in-Err t c = s.passed_sign (λ f r x. o.patterns_stop f x) c.in-Err.fault c.in-Err.ensures

pub cases::patterns-loop-alloc-init : goal.cases::patterns-loop-alloc-init
cases::patterns-loop-alloc-init t c = (omega (arith, c.in-Ok.ensures.0), c.in-Ok.ensures.1, o.patterns_begin _ _ _ [] _ refl c.in_ok-words.ensures c.in-Ok.ensures.2)

pub cases::patterns-returns-in-Err-word : goal.cases::patterns-returns-in-Err-word
cases::patterns-returns-in-Err-word t c = s.passed_sign (λ f r x. o.patterns_stops _ c.args.ts.now c.loop-alloc.now r f c.loop-alloc.words c.loop-alloc.invariant.2 (c.stands.ensures.looks.0 c.loop-alloc-test.true) x) c.in-Err-word.fault c.in-Err-word.ensures

pub cases::patterns-loop-alloc-preserved : goal.cases::patterns-loop-alloc-preserved
cases::patterns-loop-alloc-preserved t c = (omega (arith, c.loop-alloc.invariant.0, c.in-Ok-word.ensures.0), c.in-Ok-word.ensures.1, o.patterns_go _ c.args.ts.now c.loop-alloc.now _ _ c.loop-alloc.words _ c.loop-alloc.invariant.2 (c.stands.ensures.looks.0 c.loop-alloc-test.true) c.in-Ok-word.ensures.2 c.in_ok-add.ensures.ok)

pub cases::patterns-returns : goal.cases::patterns-returns
cases::patterns-returns t c = (c.loop-alloc.invariant.0, c.loop-alloc.invariant.1, o.patterns_end _ _ c.loop-alloc.words c.loop-alloc.invariant.2 (λ q. let t = c.stands.ensures.looks.1 q in let f = c.loop-alloc-test.false in cc))

pub cases::arm_body-returns-then-ends_arm : goal.cases::arm_body-returns-then-ends_arm
cases::arm_body-returns-then-ends_arm t c = (omega arith, c.requires.within, o.arm_body_none _ _ c.new.ensures c.in_ok-none.ensures (ap form.ends_arm (sym c.look.ensures) ∙ sym c.ends_arm.ensures ∙ c.if-ends_arm.true))

pub cases::arm_body-returns : goal.cases::arm_body-returns
cases::arm_body-returns t c = o.arm_body_reads _ _ _ _ _ (ap form.ends_arm (sym c.look.ensures) ∙ sym c.ends_arm.ensures ∙ c.if-ends_arm.false) c.members.ensures

-- ---- commands that begin with a name, and simple commands

pub simple_commands::named-returns-in-Err : goal.simple_commands::named-returns-in-Err
simple_commands::named-returns-in-Err t c = s.passed_sign (λ f r x. i.named_word f c.requires.form x) c.in-Err.fault c.in-Err.ensures

pub simple_commands::named-returns-in-Err-definition : goal.simple_commands::named-returns-in-Err-definition
simple_commands::named-returns-in-Err-definition t c = s.passed_on (λ f r x. i.define_stops _ f c.requires.form c.in-Ok.ensures.2 x) c.in-Err-definition.fault c.in-Err-definition.ensures

pub simple_commands::named-returns-then-stands : goal.simple_commands::named-returns-then-stands
simple_commands::named-returns-then-stands t c = (omega (arith, c.in-Ok.ensures.0, c.in-Ok-definition.ensures.0), c.in-Ok-definition.ensures.1, s.built c.in_ok-tree.ensures (i.define_ok _ _ _ _ c.place.ensures refl c.requires.form c.in-Ok.ensures.2 c.in-Ok-definition.ensures.2))

pub simple_commands::named-returns-in-Err-items : goal.simple_commands::named-returns-in-Err-items
simple_commands::named-returns-in-Err-items t c = s.passed_on (λ f r x. i.continue_stops _ f c.requires.form c.in-Ok.ensures.2 (λ q. let t = c.stands.ensures.looks.1 q in let f = c.if-stands.false in cc) x) c.in-Err-items.fault c.in-Err-items.ensures

pub simple_commands::named-returns : goal.simple_commands::named-returns
simple_commands::named-returns t c = (omega (arith, c.in-Ok.ensures.0, c.in-Ok-items.ensures.0), c.in-Ok-items.ensures.1, i.continue_ok _ tree.no_items _ _ _ _ refl c.in_ok-begun.ensures c.place-2.ensures c.in_ok-simple_of.ensures c.requires.form c.in-Ok.ensures.2 (λ q. let t = c.stands.ensures.looks.1 q in let f = c.if-stands.false in cc) c.in-Ok-items.ensures.2)

pub simple_commands::definition-returns-in-Err : goal.simple_commands::definition-returns-in-Err
simple_commands::definition-returns-in-Err t c = s.passed_sign (λ f r x. i.definition_open f c.requires.looks x) c.in-Err.fault c.in-Err.ensures

pub simple_commands::definition-returns-in-Err-take : goal.simple_commands::definition-returns-in-Err-take
simple_commands::definition-returns-in-Err-take t c = s.passed_sign (λ f r x. i.definition_close _ f c.requires.looks c.in-Ok.ensures.2 x) c.in-Err-take.fault c.in-Err-take.ensures

pub simple_commands::definition-returns-in-Err-braces : goal.simple_commands::definition-returns-in-Err-braces
simple_commands::definition-returns-in-Err-braces t c = s.passed_on (λ f r x. i.definition_body _ _ f c.requires.looks c.in-Ok.ensures.2 c.in-Ok-take.ensures.2 c.newlines-start.ensures.2 x) c.in-Err-braces.fault c.in-Err-braces.ensures

pub simple_commands::definition-returns : goal.simple_commands::definition-returns
simple_commands::definition-returns t c = (omega (arith, c.in-Ok.ensures.0, c.in-Ok-take.ensures.0, c.newlines-start.ensures.0, c.in-Ok-braces.ensures.0), c.in-Ok-braces.ensures.1, i.definition_ok _ _ _ c.requires.looks c.in-Ok.ensures.2 c.in-Ok-take.ensures.2 c.newlines-start.ensures.2 c.in-Ok-braces.ensures.2)

pub simple_commands::simple-returns-in-Err : goal.simple_commands::simple-returns-in-Err
simple_commands::simple-returns-in-Err t c = s.passed_on (λ f r x. i.simple_stops f c.requires.form x) c.in-Err.fault c.in-Err.ensures

pub simple_commands::simple-returns : goal.simple_commands::simple-returns
simple_commands::simple-returns t c = (c.in-Ok.ensures.0, c.in-Ok.ensures.1, i.simple_ok _ _ _ _ c.in_ok-none.ensures c.place.ensures c.in_ok-simple_of.ensures c.requires.form c.in-Ok.ensures.2)

-- ---- items of a simple command

pub simple_commands::items-loop-now-init : goal.simple_commands::items-loop-now-init
simple_commands::items-loop-now-init t c = (omega arith, c.requires.within, i.items_begin _ _ _ _ refl)

pub simple_commands::items-returns-in-None : goal.simple_commands::items-returns-in-None
simple_commands::items-returns-in-None t c = (c.loop-now.invariant.0, c.loop-now.invariant.1, i.items_end _ _ _ _ _ _ c.loop-now.invariant.2 (ap (form.item _) (sym c.look.ensures) ∙ sym c.item.ensures ∙ c.in-None.is))

pub simple_commands::items-returns-in-Err : goal.simple_commands::items-returns-in-Err
simple_commands::items-returns-in-Err t c = i.items_stop _ _ _ _ _ _ c.loop-now.invariant.2 c.in-Err.fault c.in-Err.ensures

pub simple_commands::items-loop-now-preserved : goal.simple_commands::items-loop-now-preserved
simple_commands::items-loop-now-preserved t c = (omega (arith, c.loop-now.invariant.0, c.in-Ok.ensures.0), c.in-Ok.ensures.1, subst (λ b. ItemsFrom c.args.level c.args.end c.args.behind_word c.args.begun (drop c.args.at c.args.ts.now) b c.in-Ok.found.0 (drop c.in-Ok.found.1 c.args.ts.now)) (sym c.has_word-worded.ensures) (i.items_on _ _ _ _ _ _ _ _ _ c.loop-now.invariant.2 c.in-Ok.ensures.2))

pub simple_commands::items-returns : goal.simple_commands::items-returns
simple_commands::items-returns t c = (c.loop-now.invariant.0, c.loop-now.invariant.1, i.items_end _ _ _ _ _ _ c.loop-now.invariant.2 (ap (form.item _) (s.end_of c.args.ts.now c.loop-now.now (omega (arith, c.loop-now-test.false))) ∙ i.item_end _))

pub simple_commands::one_item-returns-in-Err : goal.simple_commands::one_item-returns-in-Err
simple_commands::one_item-returns-in-Err t c = s.passed_sign (λ f r x. i.item_assign_stops _ _ r f (c.requires.item ∙ ap Some c.in-Assignment.is) x) c.in-Err.fault c.in-Err.ensures

pub simple_commands::one_item-returns-in_ok-with_assign-in-Assignment : goal.simple_commands::one_item-returns-in_ok-with_assign-in-Assignment
simple_commands::one_item-returns-in_ok-with_assign-in-Assignment t c = (c.in-Ok.ensures.0, c.in-Ok.ensures.1, i.items_by _ _ _ _ _ _ _ (ap (form.has_word _) c.in-Assignment.is) (i.item_assign _ _ _ _ _ _ (c.requires.item ∙ ap Some c.in-Assignment.is) c.in-Ok.ensures.2 c.in_ok-with_assign-in-Assignment.ensures))

pub simple_commands::one_item-returns-in_ok-with_redirect-in-Redirection : goal.simple_commands::one_item-returns-in_ok-with_redirect-in-Redirection
simple_commands::one_item-returns-in_ok-with_redirect-in-Redirection t c = (omega arith, omega (arith, c.requires.inside), i.items_by _ _ _ _ _ _ _ (ap (form.has_word _) c.in-Redirection.is) (i.item_redirect _ _ _ c.args.ts.now c.args.at _ (c.requires.item ∙ ap Some c.in-Redirection.is) c.in_ok-with_redirect-in-Redirection.ensures))

pub simple_commands::one_item-returns-in-Err-word : goal.simple_commands::one_item-returns-in-Err-word
simple_commands::one_item-returns-in-Err-word t c = s.passed_sign (λ f r x. i.item_word_stops _ _ r f (c.requires.item ∙ ap Some c.in-Word.is) x) c.in-Err-word.fault c.in-Err-word.ensures

pub simple_commands::one_item-returns-in_ok-with_word-in-Word : goal.simple_commands::one_item-returns-in_ok-with_word-in-Word
simple_commands::one_item-returns-in_ok-with_word-in-Word t c = (c.in-Ok-word.ensures.0, c.in-Ok-word.ensures.1, i.items_by _ _ _ _ _ _ _ (ap (form.has_word _) c.in-Word.is) (i.item_word _ _ _ _ _ _ (c.requires.item ∙ ap Some c.in-Word.is) c.in-Ok-word.ensures.2 c.in_ok-with_word-in-Word.ensures))

-- ---- words

pub words::word-returns-in-None : goal.words::word-returns-in-None
words::word-returns-in-None t c = w.word_none _ _ _ _ c.in-None.ensures.none c.place.ensures

pub words::word-returns-in-Err : goal.words::word-returns-in-Err
words::word-returns-in-Err t c = w.word_bad _ _ _ _ c.in-Some.ensures.some c.in-Err.fault c.in-Err.ensures

pub words::word-returns : goal.words::word-returns
words::word-returns t c = (omega arith, omega (arith, c.in-Some.ensures.within), w.word_ok _ _ c.args.ts.now c.args.at _ _ _ _ c.in-Some.ensures.some c.in_ok-begun.ensures c.in-Ok.ensures c.place-first.ensures)

pub words::assignment-returns-in-None : goal.words::assignment-returns-in-None
words::assignment-returns-in-None t c = w.word_none _ _ _ _ c.in-None.ensures.none c.place.ensures

pub words::assignment-returns-in-Err : goal.words::assignment-returns-in-Err
words::assignment-returns-in-Err t c = w.assign_bad _ _ _ _ _ c.requires.looks c.in-Some.ensures.some c.rest_of.ensures c.in-Err.fault c.in-Err.ensures

pub words::assignment-returns : goal.words::assignment-returns
words::assignment-returns t c = (omega arith, omega (arith, c.in-Some.ensures.within), w.assign_ok _ _ c.args.ts.now c.args.at _ _ _ _ _ _ _ _ c.requires.looks c.in-Some.ensures.some c.rest_of.ensures c.raw_text-text.ensures (c.in_ok-name.ensures ∙ c.up_to_equals.ensures) c.behind_equals.ensures c.in_ok-begun.ensures c.in-Ok.ensures c.place-first.ensures)

pub words::parts-loop-raw-init : goal.words::parts-loop-raw-init
words::parts-loop-raw-init t c = w.parts_begin _ _ _ _ refl

pub words::parts-returns-in-Err : goal.words::parts-returns-in-Err
words::parts-returns-in-Err t c = let lt : c.loop-raw.raw-index < length c.args.raws.now = omega (arith, c.loop-raw-test.true) in w.parts_bad _ _ _ _ _ _ _ (drop_more c.args.raws.now c.loop-raw.raw-index c.raw-item.result lt ∙ ap (λ x. x ∷ drop (c.loop-raw.raw-index + 1) c.args.raws.now) (sym c.raw-item.is)) c.loop-raw.invariant c.in-Err.fault c.in-Err.ensures

pub words::parts-loop-raw-preserved : goal.words::parts-loop-raw-preserved
words::parts-loop-raw-preserved t c = let lt : c.loop-raw.raw-index < length c.args.raws.now = omega (arith, c.loop-raw-test.true) in w.parts_go _ _ _ _ _ _ _ _ _ (drop_more c.args.raws.now c.loop-raw.raw-index c.raw-item.result lt ∙ ap (λ x. x ∷ drop (c.loop-raw.raw-index + 1) c.args.raws.now) (sym c.raw-item.is)) c.loop-raw.invariant c.in-Ok.ensures c.in_ok-add.ensures.ok

pub words::parts-returns : goal.words::parts-returns
words::parts-returns t c = w.parts_end _ _ _ _ _ (drop_all c.loop-raw.raw-index c.args.raws.now (omega (arith, c.loop-raw-test.false))) c.loop-raw.invariant

-- ---- a part

pub words::part-returns-then-level-eq-MAX_LEVELS : goal.words::part-returns-then-level-eq-MAX_LEVELS
words::part-returns-then-level-eq-MAX_LEVELS t c = w.part_deep _ _ _ _ _ c.in-Run.is c.if-level-eq-MAX_LEVELS.true

pub words::part-returns-in-Err : goal.words::part-returns-in-Err
words::part-returns-in-Err t c = w.part_bad _ _ _ _ _ c.in-Run.is (omega (arith, c.requires.shallow, c.if-level-eq-MAX_LEVELS.false)) c.in-Err.fault (subst (λ ts. Caused (Stops (c.args.level + 1) c.in-Run.at Script ts) c.in-Err.fault) c.as_slice.ensures c.in-Err.ensures)

pub words::part-returns-in_ok-copy-in-Plain : goal.words::part-returns-in_ok-copy-in-Plain
words::part-returns-in_ok-copy-in-Plain t c = w.part_plain _ _ _ _ c.in-Plain.is c.in_ok-copy-in-Plain.ensures

pub words::part-returns-in_ok-copy-in-Quoted : goal.words::part-returns-in_ok-copy-in-Quoted
words::part-returns-in_ok-copy-in-Quoted t c = w.part_quoted _ _ _ _ c.in-Quoted.is c.in_ok-copy-in-Quoted.ensures

pub words::part-returns-in_ok-param_of-in-Param : goal.words::part-returns-in_ok-param_of-in-Param
words::part-returns-in_ok-param_of-in-Param t c = w.part_param _ _ _ _ _ _ c.in-Param.is c.in_ok-param_of-in-Param.ensures

pub words::part-returns-in-All : goal.words::part-returns-in-All
words::part-returns-in-All t c = w.part_all _ _ c.in-All.is

pub words::part-returns-in-Ok : goal.words::part-returns-in-Ok
words::part-returns-in-Ok t c = w.part_run _ _ _ _ _ _ c.in-Run.is (omega (arith, c.requires.shallow, c.if-level-eq-MAX_LEVELS.false)) (subst (λ ts. Gives (c.args.level + 1) c.in-Run.at Script ts c.in-Ok.body) c.as_slice.ensures c.in-Ok.ensures)

-- ---- a script

pub lists::script-returns-then-same_look : goal.lists::script-returns-then-same_look
lists::script-returns-then-same_look t c = m.script_none _ _ _ _ c.new.ensures c.in_ok-none.ensures c.newlines-first.ensures.2 (sym c.look.ensures ∙ c.same_look.ensures.0 c.if-same_look.true)

pub lists::script-returns-in-Err : goal.lists::script-returns-in-Err
lists::script-returns-in-Err t c = s.passed_on (λ f r x. m.script_stops _ _ r f c.newlines-first.ensures.2 (λ q. let t = c.same_look.ensures.1 (c.look.ensures ∙ q) in let f = c.if-same_look.false in cc) x) c.in-Err.fault c.in-Err.ensures

pub lists::script-returns-then-same_look-2 : goal.lists::script-returns-then-same_look-2
lists::script-returns-then-same_look-2 t c = m.script_ok _ _ _ _ c.newlines-first.ensures.2 (λ q. let t = c.same_look.ensures.1 (c.look.ensures ∙ q) in let f = c.if-same_look.false in cc) c.in-Ok.ensures.2 (sym c.look-2.ensures ∙ c.same_look-2.ensures.0 c.if-same_look-2.true)

pub lists::script-returns : goal.lists::script-returns
lists::script-returns t c = m.script_more _ _ _ _ _ c.newlines-first.ensures.2 (λ q. let t = c.same_look.ensures.1 (c.look.ensures ∙ q) in let f = c.if-same_look.false in cc) c.in-Ok.ensures.2 (λ q. let t = c.same_look-2.ensures.1 (c.look-2.ensures ∙ q) in let f = c.if-same_look-2.false in cc) c.place.ensures

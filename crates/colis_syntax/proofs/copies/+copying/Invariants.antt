use Rattle.std.proofs.Common.{◌≡◌, ◌+◌, ◌*◌, take}
use Rattle.colis_syntax.specs.declared.syntax.Stmt.{size-Stmt}
use Rattle.colis_syntax.specs.declared.syntax.Stmt.TheVariants.{Set, Call, Fun, Seq, Chain, Not, If, For, While, Case, Sub, Quiet}
use Rattle.colis_syntax.specs.declared.syntax.Stmt.TheVariants.{Err, Exit, Return, Export, Unset}
use Rattle.colis_syntax.proofs.copies.+copying.Given as goal

abbrev pub invariant-copy_strs-loop-string : goal.invariant-copy_strs-loop-string
invariant-copy_strs-loop-string l = l.twins ≡ take l.string-index l.strings

abbrev pub invariant-copy_pieces-loop-piece : goal.invariant-copy_pieces-loop-piece
invariant-copy_pieces-loop-piece l = l.twins ≡ take l.piece-index l.pieces

abbrev pub invariant-copy_fields-loop-field : goal.invariant-copy_fields-loop-field
invariant-copy_fields-loop-field l = l.twins ≡ take l.field-index l.fields

abbrev pub invariant-copy_stmts-loop-stmt : goal.invariant-copy_stmts-loop-stmt
invariant-copy_stmts-loop-stmt l = l.twins ≡ take l.stmt-index l.stmts

abbrev pub invariant-copy_sets-loop-set : goal.invariant-copy_sets-loop-set
invariant-copy_sets-loop-set l = l.twins ≡ take l.set-index l.sets

abbrev pub invariant-copy_chain_parts-loop-part : goal.invariant-copy_chain_parts-loop-part
invariant-copy_chain_parts-loop-part l = l.twins ≡ take l.part-index l.parts

abbrev pub invariant-copy_arms-loop-arm : goal.invariant-copy_arms-loop-arm
invariant-copy_arms-loop-arm l = l.twins ≡ take l.arm-index l.arms

abbrev pub invariant-copy_patterns-loop-pattern : goal.invariant-copy_patterns-loop-pattern
invariant-copy_patterns-loop-pattern l = l.twins ≡ take l.pattern-index l.patterns

abbrev pub invariant-copy_pat_arms-loop-arm : goal.invariant-copy_pat_arms-loop-arm
invariant-copy_pat_arms-loop-arm l = l.twins ≡ take l.arm-index l.arms

-- A function of one form goes down the statement that its parts make; what is passed on whole is ranked below who
-- passes it.

abbrev pub decreases-copy_stmt : goal.decreases-copy_stmt
decreases-copy_stmt l = 3 * goal.size-copy_stmt l + 1

abbrev pub decreases-copy_str : goal.decreases-copy_str
decreases-copy_str l = 3 * goal.size-copy_str l + 1

abbrev pub decreases-copy_piece : goal.decreases-copy_piece
decreases-copy_piece l = 3 * goal.size-copy_piece l + 1

abbrev pub decreases-copy_field : goal.decreases-copy_field
decreases-copy_field l = 3 * goal.size-copy_field l + 1

abbrev pub decreases-copy_strs : goal.decreases-copy_strs
decreases-copy_strs l = 3 * goal.size-copy_strs l + 2

abbrev pub decreases-copy_pieces : goal.decreases-copy_pieces
decreases-copy_pieces l = 3 * goal.size-copy_pieces l + 2

abbrev pub decreases-copy_fields : goal.decreases-copy_fields
decreases-copy_fields l = 3 * goal.size-copy_fields l + 2

abbrev pub decreases-copy_stmts : goal.decreases-copy_stmts
decreases-copy_stmts l = 3 * goal.size-copy_stmts l + 2

abbrev pub decreases-copy_sets : goal.decreases-copy_sets
decreases-copy_sets l = 3 * goal.size-copy_sets l + 2

abbrev pub decreases-copy_chain_parts : goal.decreases-copy_chain_parts
decreases-copy_chain_parts l = 3 * goal.size-copy_chain_parts l + 2

abbrev pub decreases-copy_arms : goal.decreases-copy_arms
decreases-copy_arms l = 3 * goal.size-copy_arms l + 2

abbrev pub decreases-copy_patterns : goal.decreases-copy_patterns
decreases-copy_patterns l = 3 * goal.size-copy_patterns l + 3

abbrev pub decreases-copy_pat_arms : goal.decreases-copy_pat_arms
decreases-copy_pat_arms l = 3 * goal.size-copy_pat_arms l + 2

abbrev pub decreases-copy_set : goal.decreases-copy_set
decreases-copy_set l = 3 * size-Stmt (Set l.at l.sets.now)

abbrev pub decreases-copy_call : goal.decreases-copy_call
decreases-copy_call l = 3 * size-Stmt (Call l.at l.fields.now)

abbrev pub decreases-copy_exit : goal.decreases-copy_exit
decreases-copy_exit l = 3 * size-Stmt (Exit l.at l.fields.now)

abbrev pub decreases-copy_return : goal.decreases-copy_return
decreases-copy_return l = 3 * size-Stmt (Return l.at l.fields.now)

abbrev pub decreases-copy_export : goal.decreases-copy_export
decreases-copy_export l = 3 * size-Stmt (Export l.at l.fields.now)

abbrev pub decreases-copy_unset : goal.decreases-copy_unset
decreases-copy_unset l = 3 * size-Stmt (Unset l.at l.fields.now)

abbrev pub decreases-copy_seq : goal.decreases-copy_seq
decreases-copy_seq l = 3 * size-Stmt (Seq l.parts.now)

abbrev pub decreases-copy_not : goal.decreases-copy_not
decreases-copy_not l = 3 * size-Stmt (Not l.body.now)

abbrev pub decreases-copy_quiet : goal.decreases-copy_quiet
decreases-copy_quiet l = 3 * size-Stmt (Quiet l.body.now)

abbrev pub decreases-copy_sub : goal.decreases-copy_sub
decreases-copy_sub l = 3 * size-Stmt (Sub l.at l.body.now)

abbrev pub decreases-copy_err : goal.decreases-copy_err
decreases-copy_err l = 3 * size-Stmt (Err l.at l.body.now)

abbrev pub decreases-copy_fun : goal.decreases-copy_fun
decreases-copy_fun l = 3 * size-Stmt (Fun l.at l.name.now l.fields.now)

abbrev pub decreases-copy_chain : goal.decreases-copy_chain
decreases-copy_chain l = 3 * size-Stmt (Chain l.first.now l.rest.now)

abbrev pub decreases-copy_if : goal.decreases-copy_if
decreases-copy_if l = 3 * size-Stmt (If l.arms.now l.last.now)

abbrev pub decreases-copy_for : goal.decreases-copy_for
decreases-copy_for l = 3 * size-Stmt (For l.at l.name.now l.fields.now l.body.now)

abbrev pub decreases-copy_while : goal.decreases-copy_while
decreases-copy_while l = 3 * size-Stmt (While l.at l.cond.now l.body.now)

abbrev pub decreases-copy_case : goal.decreases-copy_case
decreases-copy_case l = 3 * size-Stmt (Case l.at l.subject.now l.arms.now)

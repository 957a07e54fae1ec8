use Rattle.std.proofs.Common.{◌≡◌, ◌+◌, ◌*◌, ◌++◌, take}
use Rattle.std.specs.List.{flat_map}
use Rattle.colis_syntax.specs.declared.syntax.Stmt.{size-Stmt}
use Rattle.colis_syntax.specs.declared.syntax.Stmt.TheVariants.{Chain, If, For, While, Case}
use Rattle.colis_syntax.specs.ProgramText.{spaced, stmt_text, field_text, piece_text, str_text, set_text, part_text, arm_text, pat_arm_text, pattern_text}
use Rattle.colis_syntax.proofs.printing.+printing.Given as goal

abbrev pub invariant-put_stmts-loop-stmt : goal.invariant-put_stmts-loop-stmt
invariant-put_stmts-loop-stmt l = l.text ≡ l.initial.text ++ flat_map (λ stmt. spaced (stmt_text stmt)) (take l.stmt-index l.stmts)

abbrev pub invariant-put_fields-loop-field : goal.invariant-put_fields-loop-field
invariant-put_fields-loop-field l = l.text ≡ l.initial.text ++ flat_map (λ field. spaced (field_text field)) (take l.field-index l.fields)

abbrev pub invariant-put_pieces-loop-piece : goal.invariant-put_pieces-loop-piece
invariant-put_pieces-loop-piece l = l.text ≡ l.initial.text ++ flat_map (λ piece. spaced (piece_text piece)) (take l.piece-index l.pieces)

abbrev pub invariant-put_strs-loop-string : goal.invariant-put_strs-loop-string
invariant-put_strs-loop-string l = l.text ≡ l.initial.text ++ flat_map (λ string. spaced (str_text string)) (take l.string-index l.strings)

abbrev pub invariant-put_sets-loop-set : goal.invariant-put_sets-loop-set
invariant-put_sets-loop-set l = l.text ≡ l.initial.text ++ flat_map (λ set. spaced (set_text set)) (take l.set-index l.sets)

abbrev pub invariant-put_parts-loop-part : goal.invariant-put_parts-loop-part
invariant-put_parts-loop-part l = l.text ≡ l.initial.text ++ flat_map (λ part. spaced (part_text part)) (take l.part-index l.parts)

abbrev pub invariant-put_arms-loop-arm : goal.invariant-put_arms-loop-arm
invariant-put_arms-loop-arm l = l.text ≡ l.initial.text ++ flat_map (λ arm. spaced (arm_text arm)) (take l.arm-index l.arms)

abbrev pub invariant-put_pat_arms-loop-arm : goal.invariant-put_pat_arms-loop-arm
invariant-put_pat_arms-loop-arm l = l.text ≡ l.initial.text ++ flat_map (λ arm. spaced (pat_arm_text arm)) (take l.arm-index l.arms)

abbrev pub invariant-put_further_patterns-loop-pattern : goal.invariant-put_further_patterns-loop-pattern
invariant-put_further_patterns-loop-pattern l = l.text ≡ l.initial.text ++ flat_map (λ pattern. spaced (pattern_text pattern)) (take l.pattern-index l.patterns)

-- What is gone down to is smaller, or as large and of lower rank.

abbrev pub decreases-put_stmt : goal.decreases-put_stmt
decreases-put_stmt l = 8 * goal.size-put_stmt l + 1

abbrev pub decreases-put_str : goal.decreases-put_str
decreases-put_str l = 8 * goal.size-put_str l + 1

abbrev pub decreases-put_piece : goal.decreases-put_piece
decreases-put_piece l = 8 * goal.size-put_piece l + 1

abbrev pub decreases-put_field : goal.decreases-put_field
decreases-put_field l = 8 * goal.size-put_field l + 1

abbrev pub decreases-put_set : goal.decreases-put_set
decreases-put_set l = 8 * goal.size-put_set l + 1

abbrev pub decreases-put_part : goal.decreases-put_part
decreases-put_part l = 8 * goal.size-put_part l + 3

abbrev pub decreases-put_arm : goal.decreases-put_arm
decreases-put_arm l = 8 * goal.size-put_arm l + 1

abbrev pub decreases-put_pat_arm : goal.decreases-put_pat_arm
decreases-put_pat_arm l = 8 * goal.size-put_pat_arm l + 1

abbrev pub decreases-put_with_stmt : goal.decreases-put_with_stmt
decreases-put_with_stmt l = 8 * goal.size-put_with_stmt l + 2

abbrev pub decreases-put_at_stmt : goal.decreases-put_at_stmt
decreases-put_at_stmt l = 8 * goal.size-put_at_stmt l + 2

abbrev pub decreases-put_with_str : goal.decreases-put_with_str
decreases-put_with_str l = 8 * goal.size-put_with_str l + 2

abbrev pub decreases-put_or : goal.decreases-put_or
decreases-put_or l = 8 * goal.size-put_or l + 2

abbrev pub decreases-put_at_fields : goal.decreases-put_at_fields
decreases-put_at_fields l = 8 * goal.size-put_at_fields l + 3

abbrev pub decreases-put_set_all : goal.decreases-put_set_all
decreases-put_set_all l = 8 * goal.size-put_set_all l + 3

abbrev pub decreases-put_fun : goal.decreases-put_fun
decreases-put_fun l = 8 * goal.size-put_fun l + 3

abbrev pub decreases-put_seq : goal.decreases-put_seq
decreases-put_seq l = 8 * goal.size-put_seq l + 3

abbrev pub decreases-put_join : goal.decreases-put_join
decreases-put_join l = 8 * goal.size-put_join l + 3

abbrev pub decreases-put_word : goal.decreases-put_word
decreases-put_word l = 8 * goal.size-put_word l + 3

abbrev pub decreases-put_pattern : goal.decreases-put_pattern
decreases-put_pattern l = 8 * goal.size-put_pattern l + 3

abbrev pub decreases-put_stmts : goal.decreases-put_stmts
decreases-put_stmts l = 8 * goal.size-put_stmts l + 2

abbrev pub decreases-put_fields : goal.decreases-put_fields
decreases-put_fields l = 8 * goal.size-put_fields l + 2

abbrev pub decreases-put_pieces : goal.decreases-put_pieces
decreases-put_pieces l = 8 * goal.size-put_pieces l + 2

abbrev pub decreases-put_strs : goal.decreases-put_strs
decreases-put_strs l = 8 * goal.size-put_strs l + 2

abbrev pub decreases-put_sets : goal.decreases-put_sets
decreases-put_sets l = 8 * goal.size-put_sets l + 2

abbrev pub decreases-put_parts : goal.decreases-put_parts
decreases-put_parts l = 8 * goal.size-put_parts l + 4

abbrev pub decreases-put_arms : goal.decreases-put_arms
decreases-put_arms l = 8 * goal.size-put_arms l + 2

abbrev pub decreases-put_pat_arms : goal.decreases-put_pat_arms
decreases-put_pat_arms l = 8 * goal.size-put_pat_arms l + 2

abbrev pub decreases-put_further_patterns : goal.decreases-put_further_patterns
decreases-put_further_patterns l = 8 * goal.size-put_further_patterns l + 5

abbrev pub decreases-put_patterns : goal.decreases-put_patterns
decreases-put_patterns l = 8 * goal.size-put_patterns l + 6

abbrev pub decreases-put_between_fields : goal.decreases-put_between_fields
decreases-put_between_fields l = 8 * goal.size-put_between_fields l + 5

abbrev pub decreases-put_chain : goal.decreases-put_chain
decreases-put_chain l = 8 * size-Stmt (Chain l.first.now l.rest.now)

abbrev pub decreases-put_if : goal.decreases-put_if
decreases-put_if l = 8 * size-Stmt (If l.arms.now l.last.now)

abbrev pub decreases-put_for : goal.decreases-put_for
decreases-put_for l = 8 * size-Stmt (For l.at l.name.now l.fields.now l.body.now)

abbrev pub decreases-put_while : goal.decreases-put_while
decreases-put_while l = 8 * size-Stmt (While l.at l.cond.now l.body.now)

abbrev pub decreases-put_case : goal.decreases-put_case
decreases-put_case l = 8 * size-Stmt (Case l.at l.subject.now l.arms.now)

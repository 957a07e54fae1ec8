use Rattle.std.proofs.Common.{◌≡◌, ◌+◌, ◌*◌, drop, map}
use Rattle.std.specs.List.{list_all}
use Rattle.colis_syntax.specs.WellFormed.{scope_of, all_pass, stmt_passes, part_passes, arm_passes, pat_arm_passes, set_passes, field_passes, piece_passes, str_passes}
use Rattle.colis_syntax.proofs.well_formed.+passing.Given as goal

abbrev pub invariant-stmts_pass-loop-stmt : goal.invariant-stmts_pass-loop-stmt
invariant-stmts_pass-loop-stmt l =
    all_pass (scope_of l.defs l.in_loop l.in_def) (map stmt_passes (drop l.stmt-index l.stmts)) ≡ all_pass (scope_of l.defs l.in_loop l.in_def) (map stmt_passes l.stmts)

abbrev pub invariant-parts_pass-loop-part : goal.invariant-parts_pass-loop-part
invariant-parts_pass-loop-part l =
    all_pass (scope_of l.defs l.in_loop l.in_def) (map part_passes (drop l.part-index l.parts)) ≡ all_pass (scope_of l.defs l.in_loop l.in_def) (map part_passes l.parts)

abbrev pub invariant-arms_pass-loop-arm : goal.invariant-arms_pass-loop-arm
invariant-arms_pass-loop-arm l =
    all_pass (scope_of l.defs l.in_loop l.in_def) (map arm_passes (drop l.arm-index l.arms)) ≡ all_pass (scope_of l.defs l.in_loop l.in_def) (map arm_passes l.arms)

abbrev pub invariant-pat_arms_pass-loop-arm : goal.invariant-pat_arms_pass-loop-arm
invariant-pat_arms_pass-loop-arm l =
    all_pass (scope_of l.defs l.in_loop l.in_def) (map pat_arm_passes (drop l.arm-index l.arms)) ≡ all_pass (scope_of l.defs l.in_loop l.in_def) (map pat_arm_passes l.arms)

abbrev pub invariant-sets_pass-loop-set : goal.invariant-sets_pass-loop-set
invariant-sets_pass-loop-set l =
    all_pass (scope_of l.defs l.in_loop l.in_def) (map set_passes (drop l.set-index l.sets)) ≡ all_pass (scope_of l.defs l.in_loop l.in_def) (map set_passes l.sets)

abbrev pub invariant-fields_pass-loop-field : goal.invariant-fields_pass-loop-field
invariant-fields_pass-loop-field l =
    all_pass (scope_of l.defs l.in_loop l.in_def) (map field_passes (drop l.field-index l.fields)) ≡ all_pass (scope_of l.defs l.in_loop l.in_def) (map field_passes l.fields)

abbrev pub invariant-pieces_pass-loop-piece : goal.invariant-pieces_pass-loop-piece
invariant-pieces_pass-loop-piece l =
    all_pass (scope_of l.defs l.in_loop l.in_def) (map piece_passes (drop l.piece-index l.pieces)) ≡ all_pass (scope_of l.defs l.in_loop l.in_def) (map piece_passes l.pieces)

abbrev pub invariant-strs_pass-loop-string : goal.invariant-strs_pass-loop-string
invariant-strs_pass-loop-string l =
    all_pass (scope_of l.defs l.in_loop l.in_def) (map str_passes (drop l.string-index l.strings)) ≡ all_pass (scope_of l.defs l.in_loop l.in_def) (map str_passes l.strings)

abbrev pub invariant-patterns_pass-loop-pattern : goal.invariant-patterns_pass-loop-pattern
invariant-patterns_pass-loop-pattern l =
    let s = scope_of l.defs l.in_loop l.in_def in
    list_all (λ pieces. all_pass s pieces) (map (λ pieces. map piece_passes pieces) (drop l.pattern-index l.patterns))
    ≡ list_all (λ pieces. all_pass s pieces) (map (λ pieces. map piece_passes pieces) l.patterns)

abbrev pub decreases-stmt_passes : goal.decreases-stmt_passes
decreases-stmt_passes l = 3 * goal.size-stmt_passes l + 1

abbrev pub decreases-str_passes : goal.decreases-str_passes
decreases-str_passes l = 3 * goal.size-str_passes l + 1

abbrev pub decreases-piece_passes : goal.decreases-piece_passes
decreases-piece_passes l = 3 * goal.size-piece_passes l + 1

abbrev pub decreases-field_passes : goal.decreases-field_passes
decreases-field_passes l = 3 * goal.size-field_passes l + 1

abbrev pub decreases-set_passes : goal.decreases-set_passes
decreases-set_passes l = 3 * goal.size-set_passes l + 1

abbrev pub decreases-part_passes : goal.decreases-part_passes
decreases-part_passes l = 3 * goal.size-part_passes l + 1

abbrev pub decreases-arm_passes : goal.decreases-arm_passes
decreases-arm_passes l = 3 * goal.size-arm_passes l + 1

abbrev pub decreases-pat_arm_passes : goal.decreases-pat_arm_passes
decreases-pat_arm_passes l = 3 * goal.size-pat_arm_passes l + 1

abbrev pub decreases-stmts_pass : goal.decreases-stmts_pass
decreases-stmts_pass l = 3 * goal.size-stmts_pass l + 2

abbrev pub decreases-parts_pass : goal.decreases-parts_pass
decreases-parts_pass l = 3 * goal.size-parts_pass l + 2

abbrev pub decreases-arms_pass : goal.decreases-arms_pass
decreases-arms_pass l = 3 * goal.size-arms_pass l + 2

abbrev pub decreases-pat_arms_pass : goal.decreases-pat_arms_pass
decreases-pat_arms_pass l = 3 * goal.size-pat_arms_pass l + 2

abbrev pub decreases-patterns_pass : goal.decreases-patterns_pass
decreases-patterns_pass l = 3 * goal.size-patterns_pass l + 3

abbrev pub decreases-sets_pass : goal.decreases-sets_pass
decreases-sets_pass l = 3 * goal.size-sets_pass l + 2

abbrev pub decreases-fields_pass : goal.decreases-fields_pass
decreases-fields_pass l = 3 * goal.size-fields_pass l + 2

abbrev pub decreases-pieces_pass : goal.decreases-pieces_pass
decreases-pieces_pass l = 3 * goal.size-pieces_pass l + 2

abbrev pub decreases-strs_pass : goal.decreases-strs_pass
decreases-strs_pass l = 3 * goal.size-strs_pass l + 2

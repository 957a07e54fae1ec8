use Rattle.std.proofs.Common.{◌≡◌, ◌+◌, ◌*◌, map, take}
use Rattle.colis_reader.specs.Readings.{reads}
use Rattle.colis_reader.proofs.decoding.+decoding.Given as goal

abbrev pub invariant-read_strings-loop-nest : goal.invariant-read_strings-loop-nest
invariant-read_strings-loop-nest l = l.found ≡ map (λ r. r.string) (reads (take l.nest-index l.nests))

abbrev pub invariant-read_pieces-loop-nest : goal.invariant-read_pieces-loop-nest
invariant-read_pieces-loop-nest l = l.found ≡ map (λ r. r.piece) (reads (take l.nest-index l.nests))

abbrev pub invariant-read_fields-loop-nest : goal.invariant-read_fields-loop-nest
invariant-read_fields-loop-nest l = l.found ≡ map (λ r. r.field) (reads (take l.nest-index l.nests))

abbrev pub invariant-read_stmts-loop-nest : goal.invariant-read_stmts-loop-nest
invariant-read_stmts-loop-nest l = l.found ≡ map (λ r. r.stmt) (reads (take l.nest-index l.nests))

abbrev pub invariant-read_sets-loop-nest : goal.invariant-read_sets-loop-nest
invariant-read_sets-loop-nest l = l.found ≡ map (λ r. r.set) (reads (take l.nest-index l.nests))

abbrev pub invariant-read_parts-loop-nest : goal.invariant-read_parts-loop-nest
invariant-read_parts-loop-nest l = l.found ≡ map (λ r. r.part) (reads (take l.nest-index l.nests))

abbrev pub invariant-read_pat_arms-loop-nest : goal.invariant-read_pat_arms-loop-nest
invariant-read_pat_arms-loop-nest l = l.found ≡ map (λ r. r.pat_arm) (reads (take l.nest-index l.nests))

abbrev pub invariant-read_patterns-loop-nest : goal.invariant-read_patterns-loop-nest
invariant-read_patterns-loop-nest l = l.found ≡ map (λ r. r.pieces) (reads (take l.nest-index l.nests))

abbrev pub invariant-arms_before-loop-i : goal.invariant-arms_before-loop-i
invariant-arms_before-loop-i l = l.found ≡ map (λ r. r.arm) (reads (take l.i l.nests))

-- What is gone down to is smaller, or as large and of lower rank.

abbrev pub decreases-read_stmt : goal.decreases-read_stmt
decreases-read_stmt l = 12 * goal.size-read_stmt l + 1

abbrev pub decreases-read_string : goal.decreases-read_string
decreases-read_string l = 12 * goal.size-read_string l + 1

abbrev pub decreases-read_piece : goal.decreases-read_piece
decreases-read_piece l = 12 * goal.size-read_piece l + 1

abbrev pub decreases-read_pattern : goal.decreases-read_pattern
decreases-read_pattern l = 12 * goal.size-read_pattern l + 1

abbrev pub decreases-read_field : goal.decreases-read_field
decreases-read_field l = 12 * goal.size-read_field l + 1

abbrev pub decreases-read_set : goal.decreases-read_set
decreases-read_set l = 12 * goal.size-read_set l + 1

abbrev pub decreases-read_part : goal.decreases-read_part
decreases-read_part l = 12 * goal.size-read_part l + 1

abbrev pub decreases-read_arm : goal.decreases-read_arm
decreases-read_arm l = 12 * goal.size-read_arm l + 1

abbrev pub decreases-read_pat_arm : goal.decreases-read_pat_arm
decreases-read_pat_arm l = 12 * goal.size-read_pat_arm l + 1

abbrev pub decreases-patterns_of : goal.decreases-patterns_of
decreases-patterns_of l = 12 * goal.size-patterns_of l + 1

abbrev pub decreases-fields_of : goal.decreases-fields_of
decreases-fields_of l = 12 * goal.size-fields_of l + 1

abbrev pub decreases-stmt_at : goal.decreases-stmt_at
decreases-stmt_at l = 12 * goal.size-stmt_at l + 2

abbrev pub decreases-string_at : goal.decreases-string_at
decreases-string_at l = 12 * goal.size-string_at l + 2

abbrev pub decreases-patterns_at : goal.decreases-patterns_at
decreases-patterns_at l = 12 * goal.size-patterns_at l + 2

abbrev pub decreases-fields_at : goal.decreases-fields_at
decreases-fields_at l = 12 * goal.size-fields_at l + 2

abbrev pub decreases-read_strings : goal.decreases-read_strings
decreases-read_strings l = 12 * goal.size-read_strings l + 2

abbrev pub decreases-read_pieces : goal.decreases-read_pieces
decreases-read_pieces l = 12 * goal.size-read_pieces l + 2

abbrev pub decreases-read_fields : goal.decreases-read_fields
decreases-read_fields l = 12 * goal.size-read_fields l + 2

abbrev pub decreases-read_stmts : goal.decreases-read_stmts
decreases-read_stmts l = 12 * goal.size-read_stmts l + 2

abbrev pub decreases-read_sets : goal.decreases-read_sets
decreases-read_sets l = 12 * goal.size-read_sets l + 2

abbrev pub decreases-read_parts : goal.decreases-read_parts
decreases-read_parts l = 12 * goal.size-read_parts l + 2

abbrev pub decreases-read_pat_arms : goal.decreases-read_pat_arms
decreases-read_pat_arms l = 12 * goal.size-read_pat_arms l + 2

abbrev pub decreases-read_patterns : goal.decreases-read_patterns
decreases-read_patterns l = 12 * goal.size-read_patterns l + 2

abbrev pub decreases-pieces_behind : goal.decreases-pieces_behind
decreases-pieces_behind l = 12 * goal.size-pieces_behind l + 3

abbrev pub decreases-fields_behind : goal.decreases-fields_behind
decreases-fields_behind l = 12 * goal.size-fields_behind l + 3

abbrev pub decreases-parts_behind : goal.decreases-parts_behind
decreases-parts_behind l = 12 * goal.size-parts_behind l + 3

abbrev pub decreases-pat_arms_behind : goal.decreases-pat_arms_behind
decreases-pat_arms_behind l = 12 * goal.size-pat_arms_behind l + 3

abbrev pub decreases-arms_before : goal.decreases-arms_before
decreases-arms_before l = 12 * goal.size-arms_before l + 3

abbrev pub decreases-read_seq : goal.decreases-read_seq
decreases-read_seq l = 12 * goal.size-read_seq l + 4

abbrev pub decreases-read_chain : goal.decreases-read_chain
decreases-read_chain l = 12 * goal.size-read_chain l + 4

abbrev pub decreases-read_not : goal.decreases-read_not
decreases-read_not l = 12 * goal.size-read_not l + 4

abbrev pub decreases-read_if : goal.decreases-read_if
decreases-read_if l = 12 * goal.size-read_if l + 4

abbrev pub decreases-read_quiet : goal.decreases-read_quiet
decreases-read_quiet l = 12 * goal.size-read_quiet l + 4

abbrev pub decreases-read_set_all : goal.decreases-read_set_all
decreases-read_set_all l = 12 * goal.size-read_set_all l + 4

abbrev pub decreases-read_call : goal.decreases-read_call
decreases-read_call l = 12 * goal.size-read_call l + 4

abbrev pub decreases-read_fun : goal.decreases-read_fun
decreases-read_fun l = 12 * goal.size-read_fun l + 4

abbrev pub decreases-read_for : goal.decreases-read_for
decreases-read_for l = 12 * goal.size-read_for l + 4

abbrev pub decreases-read_while : goal.decreases-read_while
decreases-read_while l = 12 * goal.size-read_while l + 4

abbrev pub decreases-read_case : goal.decreases-read_case
decreases-read_case l = 12 * goal.size-read_case l + 4

abbrev pub decreases-read_sub : goal.decreases-read_sub
decreases-read_sub l = 12 * goal.size-read_sub l + 4

abbrev pub decreases-read_err : goal.decreases-read_err
decreases-read_err l = 12 * goal.size-read_err l + 4

abbrev pub decreases-read_exit : goal.decreases-read_exit
decreases-read_exit l = 12 * goal.size-read_exit l + 4

abbrev pub decreases-read_return : goal.decreases-read_return
decreases-read_return l = 12 * goal.size-read_return l + 4

abbrev pub decreases-read_export : goal.decreases-read_export
decreases-read_export l = 12 * goal.size-read_export l + 4

abbrev pub decreases-read_unset : goal.decreases-read_unset
decreases-read_unset l = 12 * goal.size-read_unset l + 4

abbrev pub decreases-read_or : goal.decreases-read_or
decreases-read_or l = 12 * goal.size-read_or l + 4

abbrev pub decreases-read_output : goal.decreases-read_output
decreases-read_output l = 12 * goal.size-read_output l + 4

abbrev pub decreases-read_join : goal.decreases-read_join
decreases-read_join l = 12 * goal.size-read_join l + 4

abbrev pub decreases-string_headed : goal.decreases-string_headed
decreases-string_headed l = 12 * goal.size-string_headed l + 5

abbrev pub decreases-string_from : goal.decreases-string_from
decreases-string_from l = 12 * goal.size-string_from l + 6

abbrev pub decreases-piece_headed : goal.decreases-piece_headed
decreases-piece_headed l = 12 * goal.size-piece_headed l + 5

abbrev pub decreases-piece_from : goal.decreases-piece_from
decreases-piece_from l = 12 * goal.size-piece_from l + 6

abbrev pub decreases-field_headed : goal.decreases-field_headed
decreases-field_headed l = 12 * goal.size-field_headed l + 5

abbrev pub decreases-field_from : goal.decreases-field_from
decreases-field_from l = 12 * goal.size-field_from l + 6

abbrev pub decreases-fields_headed : goal.decreases-fields_headed
decreases-fields_headed l = 12 * goal.size-fields_headed l + 5

abbrev pub decreases-simple_headed : goal.decreases-simple_headed
decreases-simple_headed l = 12 * goal.size-simple_headed l + 6

abbrev pub decreases-sited_headed : goal.decreases-sited_headed
decreases-sited_headed l = 12 * goal.size-sited_headed l + 7

abbrev pub decreases-sited_from : goal.decreases-sited_from
decreases-sited_from l = 12 * goal.size-sited_from l + 8

abbrev pub decreases-word_headed : goal.decreases-word_headed
decreases-word_headed l = 12 * goal.size-word_headed l + 9

abbrev pub decreases-stmt_headed : goal.decreases-stmt_headed
decreases-stmt_headed l = 12 * goal.size-stmt_headed l + 10

abbrev pub decreases-stmt_from : goal.decreases-stmt_from
decreases-stmt_from l = 12 * goal.size-stmt_from l + 11

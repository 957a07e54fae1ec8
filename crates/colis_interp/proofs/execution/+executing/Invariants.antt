use Rattle.std.proofs.Common.{◌≡◌, ◌≤◌, ℕ, ◌+◌, ◌*◌, drop, [], map, max, length}
use Rattle.colis_syntax.specs.declared.syntax.Stmt.{size-Stmt}
use Rattle.shell_rules.specs.State.{at_command, with, success_if_none}
use Rattle.shell_rules.specs.Expansion.{do_fields, fields_behind, do_pieces, pieces_behind, do_join, join_behind}
use Rattle.shell_rules.specs.Commands.{do_all, do_rest, do_links, do_if}
use Rattle.shell_rules.specs.Loops.{for_each, do_while, while_rounds}
use Rattle.shell_rules.specs.Cases.{first_arm, some_pattern}
use Rattle.shell_rules.specs.Calls.{do_assignments, no_substitution}
use Rattle.colis_meaning.specs.Meaning.{co_stmt, co_str, co_piece, co_fields, co_set, co_link, co_arm, co_case_arm, funs_of, values_with, pieces_with, fields_with}
use Rattle.colis_interp.specs.Places.{place_of}
use Rattle.colis_interp.specs.Runs.{state_of}
use Rattle.colis_interp.proofs.Weight.{weight}
use Rattle.colis_interp.proofs.execution.+executing.Given as goal

abbrev pub invariant-run_all-loop-stmt : goal.invariant-run_all-loop-stmt
invariant-run_all-loop-stmt l =
    (l.shell.conc.turns ≤ l.fn.shell.conc.turns) ×
    (do_all (with (funs_of l.defs []) (map co_stmt l.stmts)) (place_of l.place) (state_of l.fn.shell) ≡ do_rest (with (funs_of l.defs []) (map co_stmt (drop l.stmt-index l.stmts))) (place_of l.place) (state_of l.shell))

abbrev pub invariant-run_links-loop-link : goal.invariant-run_links-loop-link
invariant-run_links-loop-link l =
    (l.shell.conc.turns ≤ l.fn.shell.conc.turns) ×
    (l.left + l.link-index ≡ length l.links) ×
    (do_links (with (funs_of l.defs []) (map co_link l.links)) (place_of l.place) (state_of l.fn.shell) ≡ do_links (with (funs_of l.defs []) (map co_link (drop l.link-index l.links))) (place_of l.place) (state_of l.shell))

abbrev pub invariant-run_arms-loop-arm : goal.invariant-run_arms-loop-arm
invariant-run_arms-loop-arm l =
    (l.shell.conc.turns ≤ l.fn.shell.conc.turns) ×
    (do_if (with (funs_of l.defs []) (map co_arm l.arms)) (co_stmt l.last (funs_of l.defs [])) (place_of l.place) (state_of l.fn.shell) ≡ do_if (with (funs_of l.defs []) (map co_arm (drop l.arm-index l.arms))) (co_stmt l.last (funs_of l.defs [])) (place_of l.place) (state_of l.shell))

abbrev pub invariant-run_for-loop-field : goal.invariant-run_for-loop-field
invariant-run_for-loop-field l =
    (l.shell.conc.turns ≤ l.fn.shell.conc.turns) ×
    (for_each l.name (co_stmt l.body (funs_of l.defs [])) l.fields (place_of l.place) (success_if_none l.fields (state_of l.fn.shell)) ≡ for_each l.name (co_stmt l.body (funs_of l.defs [])) (drop l.field-index l.fields) (place_of l.place) (state_of l.shell))

abbrev pub invariant-run_while-rounds : goal.invariant-run_while-rounds
invariant-run_while-rounds l =
    (l.shell.conc.turns ≤ l.fn.shell.conc.turns) ×
    ((n : ℕ) × (l.shell.conc.turns ≤ n) × (do_while l.at (co_stmt l.cond (funs_of l.defs [])) (co_stmt l.body (funs_of l.defs [])) (place_of l.place) (state_of l.fn.shell) ≡ while_rounds n (co_stmt l.cond (funs_of l.defs [])) (co_stmt l.body (funs_of l.defs [])) (at_command l.at (place_of l.place)) l.last (state_of l.shell)))

abbrev pub decreases-run_while-rounds : goal.decreases-run_while-rounds
decreases-run_while-rounds l = l.shell.conc.turns

abbrev pub invariant-run_case-loop-arm : goal.invariant-run_case-loop-arm
invariant-run_case-loop-arm l =
    (l.shell.conc.turns ≤ l.fn.shell.conc.turns) ×
    (first_arm l.subject (with (funs_of l.defs []) (map co_case_arm l.arms)) (place_of l.place) (state_of l.fn.shell) ≡ first_arm l.subject (with (funs_of l.defs []) (map co_case_arm (drop l.arm-index l.arms))) (place_of l.place) (state_of l.shell))

abbrev pub invariant-run_patterns-loop-pattern : goal.invariant-run_patterns-loop-pattern
invariant-run_patterns-loop-pattern l =
    (l.shell.conc.turns ≤ l.fn.shell.conc.turns) ×
    (some_pattern l.subject (map (pieces_with (funs_of l.defs [])) (map (λ pieces. map co_piece pieces) l.patterns)) (place_of l.place) (state_of l.fn.shell) ≡ some_pattern l.subject (map (pieces_with (funs_of l.defs [])) (map (λ pieces. map co_piece pieces) (drop l.pattern-index l.patterns))) (place_of l.place) (state_of l.shell))

abbrev pub invariant-run_set-loop-set : goal.invariant-run_set-loop-set
invariant-run_set-loop-set l =
    (l.shell.conc.turns ≤ l.fn.shell.conc.turns) ×
    (do_assignments (with (funs_of l.defs []) (map co_set l.sets)) (at_command l.at (place_of l.place)) (no_substitution (state_of l.fn.shell)) ≡ do_assignments (with (funs_of l.defs []) (map co_set (drop l.set-index l.sets))) (at_command l.at (place_of l.place)) (state_of l.shell))

abbrev pub invariant-run_fields-loop-one : goal.invariant-run_fields-loop-one
invariant-run_fields-loop-one l =
    (l.shell.conc.turns ≤ l.fn.shell.conc.turns) ×
    (do_fields (fields_with (funs_of l.defs []) (map co_fields l.words)) (place_of l.place) (state_of l.fn.shell) ≡ fields_behind l.fields (fields_with (funs_of l.defs []) (map co_fields (drop l.one-index l.words))) (place_of l.place) (state_of l.shell))

abbrev pub invariant-run_pieces-loop-piece : goal.invariant-run_pieces-loop-piece
invariant-run_pieces-loop-piece l =
    (l.shell.conc.turns ≤ l.fn.shell.conc.turns) ×
    (do_pieces (pieces_with (funs_of l.defs []) (map co_piece l.pieces)) (place_of l.place) (state_of l.fn.shell) ≡ pieces_behind l.parts (pieces_with (funs_of l.defs []) (map co_piece (drop l.piece-index l.pieces))) (place_of l.place) (state_of l.shell))

abbrev pub invariant-run_join-loop-part : goal.invariant-run_join-loop-part
invariant-run_join-loop-part l =
    (l.shell.conc.turns ≤ l.fn.shell.conc.turns) ×
    (do_join (values_with (funs_of l.defs []) (map co_str l.parts)) (place_of l.place) (state_of l.fn.shell) ≡ join_behind l.text (values_with (funs_of l.defs []) (map co_str (drop l.part-index l.parts))) (place_of l.place) (state_of l.shell))

abbrev pub decreases-run_stmt : goal.decreases-run_stmt
decreases-run_stmt l = 4 * (goal.size-run_stmt l + weight l.defs.now) + 1

abbrev pub decreases-run_str : goal.decreases-run_str
decreases-run_str l = 4 * (goal.size-run_str l + weight l.defs.now) + 1

abbrev pub decreases-run_piece : goal.decreases-run_piece
decreases-run_piece l = 4 * (goal.size-run_piece l + weight l.defs.now) + 1

abbrev pub decreases-run_word : goal.decreases-run_word
decreases-run_word l = 4 * (goal.size-run_word l + weight l.defs.now) + 1

abbrev pub decreases-run_pieces : goal.decreases-run_pieces
decreases-run_pieces l = 4 * (goal.size-run_pieces l + weight l.defs.now) + 2

abbrev pub decreases-run_output : goal.decreases-run_output
decreases-run_output l = 4 * (goal.size-run_output l + weight l.defs.now) + 2

abbrev pub decreases-run_join : goal.decreases-run_join
decreases-run_join l = 4 * (goal.size-run_join l + weight l.defs.now) + 2

abbrev pub decreases-run_short : goal.decreases-run_short
decreases-run_short l = 4 * (goal.size-run_short l + weight l.defs.now) + 2

abbrev pub decreases-run_set : goal.decreases-run_set
decreases-run_set l = 4 * (goal.size-run_set l + weight l.defs.now) + 2

abbrev pub decreases-run_fields : goal.decreases-run_fields
decreases-run_fields l = 4 * (goal.size-run_fields l + weight l.defs.now) + 2

abbrev pub decreases-run_call : goal.decreases-run_call
decreases-run_call l = 4 * (goal.size-run_call l + weight l.defs.now) + 3

abbrev pub decreases-run_function : goal.decreases-run_function
decreases-run_function l = 4 * (goal.size-run_function l + weight l.defs.now) + 3

abbrev pub decreases-run_leave : goal.decreases-run_leave
decreases-run_leave l = 4 * (goal.size-run_leave l + weight l.defs.now) + 3

abbrev pub decreases-run_export : goal.decreases-run_export
decreases-run_export l = 4 * (goal.size-run_export l + weight l.defs.now) + 3

abbrev pub decreases-run_unset : goal.decreases-run_unset
decreases-run_unset l = 4 * (goal.size-run_unset l + weight l.defs.now) + 3

abbrev pub decreases-run_all : goal.decreases-run_all
decreases-run_all l = 4 * (goal.size-run_all l + weight l.defs.now) + 2

abbrev pub decreases-run_links : goal.decreases-run_links
decreases-run_links l = 4 * (goal.size-run_links l + weight l.defs.now) + 2

abbrev pub decreases-run_for : goal.decreases-run_for
decreases-run_for l = 4 * (goal.size-run_for l + weight l.defs.now) + 2

abbrev pub decreases-run_case : goal.decreases-run_case
decreases-run_case l = 4 * (goal.size-run_case l + weight l.defs.now) + 2

abbrev pub decreases-run_patterns : goal.decreases-run_patterns
decreases-run_patterns l = 4 * (goal.size-run_patterns l + weight l.defs.now) + 3

abbrev pub decreases-run_sub : goal.decreases-run_sub
decreases-run_sub l = 4 * (goal.size-run_sub l + weight l.defs.now) + 2

abbrev pub decreases-run_arms : goal.decreases-run_arms
decreases-run_arms l = 4 * (max (goal.size-run_arms l) (size-Stmt l.last.now) + weight l.defs.now) + 2

abbrev pub decreases-run_while : goal.decreases-run_while
decreases-run_while l = 4 * (max (size-Stmt l.cond.now) (size-Stmt l.body.now) + weight l.defs.now) + 2

abbrev pub decreases-run_body : goal.decreases-run_body
decreases-run_body l = 4 * weight l.defs.now + 2

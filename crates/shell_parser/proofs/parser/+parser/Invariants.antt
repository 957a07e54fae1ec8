use Rattle.std.proofs.Common.{length, ◌-◌, ◌*◌, ◌+◌, ◌≤◌, drop}
use Rattle.shell_parser.specs.declared.tokens.TheConstants.{MAX_LEVELS}
use Rattle.shell_parser.specs.Reads.{MembersFrom, LinksFrom, BarsFrom, ArmsFrom, EachFrom, PatternsFrom, CaseArmsFrom, ItemsFrom, PartsFrom}
use Rattle.shell_parser.proofs.parser.+parser.Given as goal

-- ---- every way back to a function of no lower number goes one level further in

abbrev pub decreases-cases::case_rest : goal.decreases-cases::case_rest
decreases-cases::case_rest l = 32 * (MAX_LEVELS - l.level) + 19

abbrev pub decreases-cases::case_arms : goal.decreases-cases::case_arms
decreases-cases::case_arms l = 32 * (MAX_LEVELS - l.level) + 18

abbrev pub decreases-cases::case_arm : goal.decreases-cases::case_arm
decreases-cases::case_arm l = 32 * (MAX_LEVELS - l.level) + 17

abbrev pub decreases-conditionals::clause : goal.decreases-conditionals::clause
decreases-conditionals::clause l = 32 * (MAX_LEVELS - l.level) + 17

abbrev pub decreases-conditionals::if_arm : goal.decreases-conditionals::if_arm
decreases-conditionals::if_arm l = 32 * (MAX_LEVELS - l.level) + 16

abbrev pub decreases-loops::turn : goal.decreases-loops::turn
decreases-loops::turn l = 32 * (MAX_LEVELS - l.level) + 16

abbrev pub decreases-loops::for_rest : goal.decreases-loops::for_rest
decreases-loops::for_rest l = 32 * (MAX_LEVELS - l.level) + 16

abbrev pub decreases-lists::script : goal.decreases-lists::script
decreases-lists::script l = 32 * (MAX_LEVELS - l.level) + 15

abbrev pub decreases-lists::block : goal.decreases-lists::block
decreases-lists::block l = 32 * (MAX_LEVELS - l.level) + 15

abbrev pub decreases-cases::arm_body : goal.decreases-cases::arm_body
decreases-cases::arm_body l = 32 * (MAX_LEVELS - l.level) + 15

abbrev pub decreases-lists::members : goal.decreases-lists::members
decreases-lists::members l = 32 * (MAX_LEVELS - l.level) + 14

abbrev pub decreases-lists::and_or : goal.decreases-lists::and_or
decreases-lists::and_or l = 32 * (MAX_LEVELS - l.level) + 13

abbrev pub decreases-lists::pipeline : goal.decreases-lists::pipeline
decreases-lists::pipeline l = 32 * (MAX_LEVELS - l.level) + 12

abbrev pub decreases-lists::piped : goal.decreases-lists::piped
decreases-lists::piped l = 32 * (MAX_LEVELS - l.level) + 11

abbrev pub decreases-commands::command : goal.decreases-commands::command
decreases-commands::command l = 32 * (MAX_LEVELS - l.level) + 10

abbrev pub decreases-commands::compound_command : goal.decreases-commands::compound_command
decreases-commands::compound_command l = 32 * (MAX_LEVELS - l.level) + 9

abbrev pub decreases-commands::compound : goal.decreases-commands::compound
decreases-commands::compound l = 32 * (MAX_LEVELS - l.level) + 8

abbrev pub decreases-commands::subshell : goal.decreases-commands::subshell
decreases-commands::subshell l = 32 * (MAX_LEVELS - l.level) + 7

abbrev pub decreases-commands::group : goal.decreases-commands::group
decreases-commands::group l = 32 * (MAX_LEVELS - l.level) + 7

abbrev pub decreases-conditionals::branches : goal.decreases-conditionals::branches
decreases-conditionals::branches l = 32 * (MAX_LEVELS - l.level) + 7

abbrev pub decreases-loops::for_loop : goal.decreases-loops::for_loop
decreases-loops::for_loop l = 32 * (MAX_LEVELS - l.level) + 7

abbrev pub decreases-cases::choice : goal.decreases-cases::choice
decreases-cases::choice l = 32 * (MAX_LEVELS - l.level) + 7

abbrev pub decreases-loops::turns : goal.decreases-loops::turns
decreases-loops::turns l = 32 * (MAX_LEVELS - l.level) + 7

abbrev pub decreases-simple_commands::named : goal.decreases-simple_commands::named
decreases-simple_commands::named l = 32 * (MAX_LEVELS - l.level) + 7

abbrev pub decreases-simple_commands::simple : goal.decreases-simple_commands::simple
decreases-simple_commands::simple l = 32 * (MAX_LEVELS - l.level) + 7

abbrev pub decreases-simple_commands::definition : goal.decreases-simple_commands::definition
decreases-simple_commands::definition l = 32 * (MAX_LEVELS - l.level) + 6

abbrev pub decreases-loops::for_words : goal.decreases-loops::for_words
decreases-loops::for_words l = 32 * (MAX_LEVELS - l.level) + 6

abbrev pub decreases-simple_commands::items : goal.decreases-simple_commands::items
decreases-simple_commands::items l = 32 * (MAX_LEVELS - l.level) + 6

abbrev pub decreases-commands::braces : goal.decreases-commands::braces
decreases-commands::braces l = 32 * (MAX_LEVELS - l.level) + 5

abbrev pub decreases-loops::for_name : goal.decreases-loops::for_name
decreases-loops::for_name l = 32 * (MAX_LEVELS - l.level) + 5

abbrev pub decreases-loops::each : goal.decreases-loops::each
decreases-loops::each l = 32 * (MAX_LEVELS - l.level) + 5

abbrev pub decreases-cases::patterns : goal.decreases-cases::patterns
decreases-cases::patterns l = 32 * (MAX_LEVELS - l.level) + 5

abbrev pub decreases-simple_commands::one_item : goal.decreases-simple_commands::one_item
decreases-simple_commands::one_item l = 32 * (MAX_LEVELS - l.level) + 5

abbrev pub decreases-words::assignment : goal.decreases-words::assignment
decreases-words::assignment l = 32 * (MAX_LEVELS - l.level) + 4

abbrev pub decreases-words::word : goal.decreases-words::word
decreases-words::word l = 32 * (MAX_LEVELS - l.level) + 4

abbrev pub decreases-words::parts : goal.decreases-words::parts
decreases-words::parts l = 32 * (MAX_LEVELS - l.level) + 3

abbrev pub decreases-words::part : goal.decreases-words::part
decreases-words::part l = 32 * (MAX_LEVELS - l.level) + 2

-- ---- loops

abbrev pub invariant-lists::members-loop-now : goal.invariant-lists::members-loop-now
invariant-lists::members-loop-now l = (l.fn.at ≤ l.now) × (l.now ≤ length l.ts) × MembersFrom l.level l.end (drop l.fn.at l.ts) (drop l.now l.ts) l.trees

abbrev pub decreases-lists::members-loop-now : goal.decreases-lists::members-loop-now
decreases-lists::members-loop-now l = length l.ts - l.now

abbrev pub invariant-lists::and_or-loop-now : goal.invariant-lists::and_or-loop-now
invariant-lists::and_or-loop-now l = (l.fn.at ≤ l.now) × (l.now ≤ length l.ts) × LinksFrom l.level l.end (drop l.fn.at l.ts) (drop l.now l.ts) l.first l.links

abbrev pub decreases-lists::and_or-loop-now : goal.decreases-lists::and_or-loop-now
decreases-lists::and_or-loop-now l = length l.ts - l.now

abbrev pub invariant-lists::piped-loop-now : goal.invariant-lists::piped-loop-now
invariant-lists::piped-loop-now l = (l.fn.at ≤ l.now) × (l.now ≤ length l.ts) × BarsFrom l.level l.end (drop l.fn.at l.ts) (drop l.now l.ts) l.parts

abbrev pub decreases-lists::piped-loop-now : goal.decreases-lists::piped-loop-now
decreases-lists::piped-loop-now l = length l.ts - l.now

abbrev pub invariant-conditionals::clause-loop-arms : goal.invariant-conditionals::clause-loop-arms
invariant-conditionals::clause-loop-arms l = (l.fn.at ≤ l.now) × (l.now ≤ length l.ts) × ArmsFrom l.level l.end (drop l.fn.at l.ts) (drop l.now l.ts) l.arms

abbrev pub decreases-conditionals::clause-loop-arms : goal.decreases-conditionals::clause-loop-arms
decreases-conditionals::clause-loop-arms l = length l.ts - l.now

abbrev pub invariant-loops::each-loop-alloc : goal.invariant-loops::each-loop-alloc
invariant-loops::each-loop-alloc l = (l.fn.at ≤ l.now) × (l.now ≤ length l.ts) × EachFrom l.level l.end (drop l.fn.at l.ts) (drop l.now l.ts) l.words

abbrev pub decreases-loops::each-loop-alloc : goal.decreases-loops::each-loop-alloc
decreases-loops::each-loop-alloc l = length l.ts - l.now

abbrev pub invariant-cases::patterns-loop-alloc : goal.invariant-cases::patterns-loop-alloc
invariant-cases::patterns-loop-alloc l = (l.fn.at ≤ l.now) × (l.now ≤ length l.ts) × PatternsFrom l.level l.end (drop l.fn.at l.ts) (drop l.now l.ts) l.words

abbrev pub decreases-cases::patterns-loop-alloc : goal.decreases-cases::patterns-loop-alloc
decreases-cases::patterns-loop-alloc l = length l.ts - l.now

abbrev pub invariant-cases::case_arms-loop-alloc : goal.invariant-cases::case_arms-loop-alloc
invariant-cases::case_arms-loop-alloc l = (l.fn.at ≤ l.now) × (l.now ≤ length l.ts) × CaseArmsFrom l.level l.end (drop l.fn.at l.ts) (drop l.now l.ts) l.arms

abbrev pub decreases-cases::case_arms-loop-alloc : goal.decreases-cases::case_arms-loop-alloc
decreases-cases::case_arms-loop-alloc l = length l.ts - l.now

abbrev pub invariant-simple_commands::items-loop-now : goal.invariant-simple_commands::items-loop-now
invariant-simple_commands::items-loop-now l = (l.fn.at ≤ l.now) × (l.now ≤ length l.ts) × ItemsFrom l.level l.end l.fn.behind_word l.fn.begun (drop l.fn.at l.ts) l.worded l.all (drop l.now l.ts)

abbrev pub decreases-simple_commands::items-loop-now : goal.decreases-simple_commands::items-loop-now
decreases-simple_commands::items-loop-now l = length l.ts - l.now

abbrev pub invariant-words::parts-loop-raw : goal.invariant-words::parts-loop-raw
invariant-words::parts-loop-raw l = PartsFrom l.level l.fn.begun l.raws l.parts (drop l.raw-index l.raws)

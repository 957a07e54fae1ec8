-- Loops (POSIX.1-2017, XCU 2.9.4.2 The for Loop, 2.9.4.5 The while Loop, 2.14 break and continue).
use Rattle.std.specs.Prelude.{ℕ, zero, suc, Bool, true, List, [], ◌∷◌, if◌then◌else◌}
use Rattle.std.specs.FinMap as map
use Rattle.shell_rules.specs.State.{Text, State, Broke, Continued, Returned, Exited, Stopped, Bound, Run, Go}
use Rattle.shell_rules.specs.State.{Left, then_do, Place, at_command, except, site_of, Doing, Action, with_status}
use Rattle.shell_rules.specs.State.{success_if_none}
use Rattle.shell_rules.specs.Expansion.{do_fields}

-- `break` ends the innermost loop, with success (XCU 2.14 break, continue)
abbrev pub do_break : Action
do_break p s = Left Broke (with_status true s)

-- `continue` ends a turn of the innermost loop, with success (XCU 2.14 continue)
abbrev pub do_continue : Action
do_continue p s = Left Continued (with_status true s)

-- with so many turns left
abbrev pub with_turns : ℕ → State → State
with_turns n s = record s { conc = record s.conc { turns = n } }

-- what takes a turn, from the turns that are left
abbrev pub turn_from : ℕ → Action
turn_from zero p s = Left (Bound (site_of p)) s
turn_from (suc n) p s = Go tt (with_turns n s)

-- one turn is taken; with none left the run is bound at the loop
abbrev pub take_turn : Action
take_turn p s = turn_from s.conc.turns p s

-- behind a body: the next turn, also after `continue`, or the end of the loop after `break`
abbrev pub after_body : Run (Unit {0}) → (State → Run (Unit {0})) → Run (Unit {0})
after_body (Go _ s) next = next s
after_body (Left Broke s) next = Go tt s
after_body (Left Continued s) next = next s
after_body (Left Returned s) next = Left Returned s
after_body (Left Exited s) next = Left Exited s
after_body (Left (Stopped reason site) s) next = Left (Stopped reason site) s
after_body (Left (Bound site) s) next = Left (Bound site) s

-- ---- `for` (XCU 2.9.4.2 The for Loop)

-- a variable gets a value
abbrev pub assign : Text → Text → State → State
assign name value s = record s { conc = record s.conc { vars = map.insert s.conc.vars name value } }

-- for each field in order: a turn is taken, the variable gets the field, and the body is run
abbrev pub for_each : Text → Action → List Text → Action
for_each name body [] p s = Go tt s
for_each name body (field ∷ fields) p s =
    then_do (take_turn p s) (λ _ s. after_body (body p (assign name field s)) (for_each name body fields p))

-- a loop over the fields of these words has the status of its last body; over no field it succeeds
abbrev pub do_for : ℕ → Text → List (Doing (List Text)) → Action → Action
do_for at name words body p s =
    let q : Place = at_command at p in
    then_do (do_fields words q s) (λ fields s. for_each name body fields q (success_if_none fields s))

-- ---- `while` (XCU 2.9.4.5 The while Loop)

-- Behind the condition: where it holds, the turn of the body; where it fails, or by `break`, the end of the loop with
-- the status of the last body; by `continue` the condition again.
abbrev pub after_condition : Run (Unit {0}) → Bool → (State → Run (Unit {0})) → (State → Run (Unit {0}))
    → Run (Unit {0})
after_condition (Go _ s) last holds again = if s.conc.status then holds s else Go tt (with_status last s)
after_condition (Left Broke s) last holds again = Go tt (with_status last s)
after_condition (Left Continued s) last holds again = again s
after_condition (Left Returned s) last holds again = Left Returned s
after_condition (Left Exited s) last holds again = Left Exited s
after_condition (Left (Stopped reason site) s) last holds again = Left (Stopped reason site) s
after_condition (Left (Bound site) s) last holds again = Left (Bound site) s

-- One round: the condition, whose failure is excepted; a turn; and the body. `continue` in the condition takes a turn
-- too. `last` is the status of the last body, success where none was run; `next` is the next round.
abbrev pub while_round : Action → Action → Place → (Bool → State → Run (Unit {0})) → Bool → State → Run (Unit {0})
while_round condition body p next last s =
    after_condition (condition (except p) s) last
    (λ s. then_do (take_turn p s) (λ _ s. after_body (body p s) (λ s. next s.conc.status s)))
    (λ s. then_do (take_turn p s) (λ _ s. next last s))

-- rounds, of which at most n take a turn; n is at least the count of turns that are left
abbrev pub while_rounds : ℕ → Action → Action → Place → Bool → State → Run (Unit {0})
while_rounds zero condition body p last s =
    while_round condition body p (λ last s. Left (Bound (site_of p)) s) last s
while_rounds (suc n) condition body p last s =
    while_round condition body p (while_rounds n condition body p) last s

-- a loop while the condition holds has the status of its last body; where none was run it succeeds
abbrev pub do_while : ℕ → Action → Action → Action
do_while at condition body p s = while_rounds s.conc.turns condition body (at_command at p) true s

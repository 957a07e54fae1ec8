use Rattle.std.proofs.Common.{◌∷◌, ap, ◌∙◌, arith}
use Rattle.case_paths.proofs.Rounds.{going_begin, going_end, going_ended, going_stage, going_alive, going_found, going_fault, room_left}
use Rattle.case_paths.proofs.exploration.round.Goals as goal

pub items-init : goal.items-init
items-init g c = going_begin (g.M.Machine.decision c.args.machine.now) c.args.items c.args.room c.new-seen.result c.requires.items c.requires.alive c.requires.room c.new-seen.ensures

pub returns-in-None : goal.returns-in-None
returns-in-None g c = going_end (g.M.Machine.decision c.args.machine.now) c.args.items c.args.room c.items.seen c.items.items c.items.invariant c.in-None.ensures

pub pursue-requires-clause-alive : goal.pursue-requires-clause-alive
pursue-requires-clause-alive g c = going_alive (g.M.Machine.decision c.args.machine.now) c.args.items c.args.room c.items.seen c.items.items c.items.invariant c.in-Some-Waiting.stage c.pop.new.self (c.in-Some-Waiting.ensures ∙ ap (λ y. y ∷ c.pop.new.self) c.in-Some-Waiting.field-0-is)

pub pursue-requires-clause-stage : goal.pursue-requires-clause-stage
pursue-requires-clause-stage g c = going_stage (g.M.Machine.decision c.args.machine.now) c.args.items c.args.room c.items.seen c.items.items c.items.invariant c.in-Some-Waiting.stage c.pop.new.self (c.in-Some-Waiting.ensures ∙ ap (λ y. y ∷ c.pop.new.self) c.in-Some-Waiting.field-0-is)

pub pursue-requires-clause-room : goal.pursue-requires-clause-room
pursue-requires-clause-room g c =
    let r = room_left (g.M.Machine.decision c.args.machine.now) c.args.items c.args.room c.items.seen c.items.items c.items.invariant _ c.pop.new.self (c.in-Some-Waiting.ensures ∙ ap (λ y. y ∷ c.pop.new.self) c.in-Some-Waiting.field-0-is) in
    omega (arith, r, c.len.ensures, c.len-in-Some-Waiting.ensures)

pub returns-in-Err : goal.returns-in-Err
returns-in-Err g c =
    let r = room_left (g.M.Machine.decision c.args.machine.now) c.args.items c.args.room c.items.seen c.items.items c.items.invariant _ c.pop.new.self (c.in-Some-Waiting.ensures ∙ ap (λ y. y ∷ c.pop.new.self) c.in-Some-Waiting.field-0-is) in
    going_fault (g.M.Machine.decision c.args.machine.now) c.args.items c.args.room c.items.seen c.items.items c.items.invariant c.in-Some-Waiting.stage c.pop.new.self _ c.in-Err.fault (c.in-Some-Waiting.ensures ∙ ap (λ y. y ∷ c.pop.new.self) c.in-Some-Waiting.field-0-is) c.in-Err.ensures
    (omega (arith, r, c.len.ensures, c.len-in-Some-Waiting.ensures))

pub items-preserved : goal.items-preserved
items-preserved g c =
    let r = room_left (g.M.Machine.decision c.args.machine.now) c.args.items c.args.room c.items.seen c.items.items c.items.invariant _ c.pop.new.self (c.in-Some-Waiting.ensures ∙ ap (λ y. y ∷ c.pop.new.self) c.in-Some-Waiting.field-0-is) in
    going_found (g.M.Machine.decision c.args.machine.now) c.args.items c.args.room c.items.seen c.items.items c.items.invariant c.in-Some-Waiting.stage c.pop.new.self c.put_found.new.items _ c.in-Ok.found (c.in-Some-Waiting.ensures ∙ ap (λ y. y ∷ c.pop.new.self) c.in-Some-Waiting.field-0-is) c.in-Ok.ensures c.in_ok-put_found-in-Some-Waiting.ensures
    (omega (arith, r, c.len.ensures, c.len-in-Some-Waiting.ensures))

pub items-preserved-in-Continue-1 : goal.items-preserved-in-Continue-1
items-preserved-in-Continue-1 g c =
    going_ended (g.M.Machine.decision c.args.machine.now) c.args.items c.args.room c.items.seen c.items.items c.items.invariant c.in-Some-Ended.path c.pop.new.self c.push.new.self
    (c.in-Some-Ended.ensures ∙ ap (λ y. y ∷ c.pop.new.self) c.in-Some-Ended.field-0-is) c.in_ok-push-in-Some-Ended.ensures

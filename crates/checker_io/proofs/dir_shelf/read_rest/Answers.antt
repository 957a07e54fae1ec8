use Rattle.std.proofs.Common.{◌∙◌}
use Rattle.checker_io.proofs.Rests.{takes_more, takes_all}
use Rattle.checker_io.proofs.dir_shelf.read_rest.Goals as goal

pub returns-then-count-max : goal.returns-then-count-max
returns-then-count-max g c =
    takes_all _ _ _ c.loop-turn.bytes.items _ c.read_some.new.buffer c.len.result c.next_room-room.result c.in-Ok.count c.args.max
    c.loop-turn.invariant.1 c.in-Ok.ensures.bytes.0 c.in-Ok.ensures.bound c.in-Ok.ensures.len (c.len.ensures ∙ c.loop-turn.bytes.ok.0)
    c.next_room-room.ensures.bound (rw (c.len-in-loop-turn.ensures, ← c.len.ensures) at c.if-count-max.true)

pub returns-then-is_err : goal.returns-then-is_err
returns-then-is_err g c =
    takes_more _ _ _ c.loop-turn.bytes.items _ c.read_some.new.buffer c.len.result c.next_room-room.result c.in-Ok.count c.args.max
    c.loop-turn.invariant.1 c.in-Ok.ensures.bytes.0 c.in-Ok.ensures.bound c.in-Ok.ensures.len (c.len.ensures ∙ c.loop-turn.bytes.ok.0)
    c.next_room-room.ensures.bound

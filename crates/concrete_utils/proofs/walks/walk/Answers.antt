use Rattle.std.proofs.Common.{sym, ◌∙◌}
use Rattle.concrete_utils.proofs.Puts.{stops_in, stops_at}
use Rattle.concrete_utils.proofs.walks.walk.Goals as goal

pub returns-then-is_link-clause-in_dir : goal.returns-then-is_link-clause-in_dir
returns-then-is_link-clause-in_dir c =
    sym (stops_in c.loop-left.here.now c.loop-left.left.now c.f-item.result c.entry_or-next.result.now c.if-left-lt2.false c.f-item.is c.entry_or-next.ensures
    (sym c.is_link.ensures ∙ c.if-is_link.true))
    ∙ c.loop-left.invariant.in_dir

pub returns-then-is_link-clause-here : goal.returns-then-is_link-clause-here
returns-then-is_link-clause-here c =
    c.requires.nothing
    ∙ sym (stops_at c.loop-left.here.now c.loop-left.left.now c.f-item.result c.entry_or-next.result.now c.if-left-lt2.false c.f-item.is c.entry_or-next.ensures
    (sym c.is_link.ensures ∙ c.if-is_link.true))
    ∙ c.loop-left.invariant.at

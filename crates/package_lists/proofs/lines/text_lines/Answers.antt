use Rattle.std.proofs.Common.{true, false, map, ap, ◌∙◌}
use Rattle.package_lists.proofs.Endings.{lines_popped}
use Rattle.package_lists.proofs.lines.text_lines.Goals as goal

pub returns-then-is_empty : goal.returns-then-is_empty
returns-then-is_empty c =
    lines_popped c.in_ok-lines.lines.items c.pop.new.self.items c.in-Some.last c.args.text.now true c.in_ok-lines.ensures c.in-Some.ensures.items c.if-is_empty.ensures

pub returns-in_ok-push-in-Some : goal.returns-in_ok-push-in-Some
returns-in_ok-push-in-Some c =
    ap (map (λ line. line.now)) c.in_ok-push-in-Some.ensures.items
    ∙ lines_popped c.in_ok-lines.lines.items c.pop.new.self.items c.in-Some.last c.args.text.now false c.in_ok-lines.ensures c.in-Some.ensures.items c.if-is_empty.ensures

use Rattle.std.proofs.lemmas.Result.{on_ok_weaker}
use Rattle.colis_syntax.proofs.Layers.{put_pattern_text, put_pat_arm_text}
use Rattle.colis_syntax.proofs.printing.+printing.Goals as goal

pub put_pat_arm-returns : goal.put_pat_arm-returns
put_pat_arm-returns t c =
    on_ok_weaker c.extend-3.result
    (put_pat_arm_text c.args.text.now c.extend.new.self c.put_patterns.new.text c.extend-2.new.self c.put_stmt.new.text
    c.extend-3.new.self c.as_slice.result.now c.args.arm.now c.in_ok-extend.ensures.ok c.in_ok-put_patterns.ensures
    c.as_slice.ensures c.in_ok-extend-2.ensures.ok c.in_ok-put_stmt.ensures)
    c.extend-3.ensures.ok

pub put_pattern-returns : goal.put_pattern-returns
put_pattern-returns t c =
    on_ok_weaker c.extend-2.result
    (put_pattern_text c.args.text.now c.extend.new.self c.put_pieces.new.text c.extend-2.new.self c.args.pieces.now
    c.in_ok-extend.ensures.ok c.in_ok-put_pieces.ensures)
    c.extend-2.ensures.ok

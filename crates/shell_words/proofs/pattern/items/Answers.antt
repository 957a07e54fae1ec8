use Rattle.std.proofs.Common.{◌+◌, length, ap, arith}
use Rattle.std.proofs.lemmas.Bool.Decides.{nat_tests}
use Rattle.std.proofs.lemmas.List.{take_rest, length-drop}
use Rattle.shell_words.proofs.Reading.{none-behind, items-more}
use Rattle.shell_words.proofs.pattern.items.Goals as goal

pub item_at-requires : goal.item_at-requires
item_at-requires c = λ e. none-behind c.args.letters.now c.after_last_close-last.result (c.loop-at.at + 1) c.after_last_close-last.ensures (grind (arith, nat_tests))

pub loop-at-preserved : goal.loop-at-preserved
loop-at-preserved c =
    let letters = c.args.letters.now in
    let next = c.loop-at.at + 1 in
    record {
      within = omega (arith, c.in_ok-item.ensures.within, ap length (take_rest letters next), length-drop next letters);
      left = items-more letters c.loop-at.at _ c.in_ok-item.item c.in_ok-item.taken c.loop-at.out c.add.new.self c.loop-at-test.true c.in_ok-item.ensures.item c.loop-at.invariant.left c.in_ok-add.ensures.ok;
    }

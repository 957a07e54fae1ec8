use Rattle.std.proofs.Common.{◌++◌, ◌||◌, ap, ◌∙◌}
use Rattle.std.specs.Prelude.{codes}
use Rattle.script_places.specs.KindWords.{one_word}
use Rattle.script_places.proofs.Added.{four}
use Rattle.script_places.proofs.kind_words.push_special.Goals as goal

pub returns : goal.returns
returns c =
    let k = c.args.kinds in
    let second = c.either-begun.ensures in
    let third = c.either-begun-2.ensures ∙ ap (λ b. b || k.socket) second in
    let fourth = c.either-begun-3.ensures ∙ ap (λ b. b || k.block) third in
    four _ _ _ _ _ c.in_ok-push_one.ensures
    (c.in_ok-push_one-2.ensures ∙ ap (λ b. c.push_one.new.text ++ one_word b k.socket (codes "a socket")) second)
    (c.in_ok-push_one-3.ensures ∙ ap (λ b. c.push_one-2.new.text ++ one_word b k.block (codes "a block device")) third)
    (c.in_ok-push_one-4.ensures ∙ ap (λ b. c.push_one-3.new.text ++ one_word b k.char (codes "a character device")) fourth)

use Rattle.std.proofs.Common.{◌++◌, ◌||◌, ap, ◌∙◌}
use Rattle.std.specs.Prelude.{codes}
use Rattle.script_places.specs.KindWords.{one_word, special_words}
use Rattle.script_places.proofs.Added.{five}
use Rattle.script_places.proofs.kind_words.push_each.Goals as goal

pub returns : goal.returns
returns c =
    let k = c.args.kinds in
    let third = c.either-begun.ensures in
    let fourth = c.either-begun-2.ensures ∙ ap (λ b. b || k.link) third in
    let last = c.either-begun-3.ensures ∙ ap (λ b. b || c.is_special.result) fourth
    ∙ ap (λ s. ((k.absent || k.reg) || k.link) || s) c.is_special.ensures in
    five _ _ _ _ _ _ c.in_ok-push_one.ensures c.in_ok-push_one-2.ensures
    (c.in_ok-push_one-3.ensures ∙ ap (λ b. c.push_one-2.new.text ++ one_word b k.link (codes "a link")) third)
    (c.in_ok-push_special.ensures ∙ ap (λ b. c.push_one-3.new.text ++ special_words b k) fourth)
    (c.in_ok-push_one-4.ensures ∙ ap (λ b. c.push_special.new.text ++ one_word b k.dir (codes "a directory")) last)

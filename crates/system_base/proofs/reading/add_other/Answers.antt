use Rattle.std.proofs.Common.{sym, ap, ◌∙◌, subst}
use Rattle.package_lists.specs.Faults.{IsLeft}
use Rattle.system_base.specs.Bases.{with_word, with_words}
use Rattle.system_base.proofs.Keeping.{left_calls, no_word, line_words}
use Rattle.system_base.proofs.reading.add_other.Goals as goal

pub returns-clause-left : goal.returns-clause-left
returns-clause-left c =
    let two = no_word (with_word c.args.base.now c.args.line.now) c.args.base.now c.add_word.new.base c.in_ok-added.added
    c.in_ok-added.ensures c.if-added.false in
    subst (λ r. IsLeft r c.add_words.new.base c.add_words.result)
    (ap (λ base. with_words c.args.number base c.args.line.now) two.1
    ∙ sym (line_words c.args.number c.args.base.now c.args.line.now (sym c.is_passed.ensures ∙ c.if-is_passed.false) two.0))
    c.add_words.ensures

pub returns-clause-calls : goal.returns-clause-calls
returns-clause-calls c =
    let two = no_word (with_word c.args.base.now c.args.line.now) c.args.base.now c.add_word.new.base c.in_ok-added.added
    c.in_ok-added.ensures c.if-added.false in
    left_calls c.args.number c.args.base.now c.add_words.new.base c.args.line.now c.add_words.result c.requires
    (subst (λ base. IsLeft (with_words c.args.number base c.args.line.now) c.add_words.new.base c.add_words.result)
    two.1 c.add_words.ensures)

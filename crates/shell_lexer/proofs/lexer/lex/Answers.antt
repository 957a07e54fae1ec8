use Rattle.std.proofs.Common.{◌∙◌, sym, ap, refl, length}
use Rattle.std.proofs.lemmas.Result.{err_from_is_err_and}
use Rattle.shell_lexer.specs.FirstLine.{interpreter}
use Rattle.shell_lexer.proofs.CutOnce.{cut_read, fault_read, only_cut, no_fault, no_other, no_cut}
use Rattle.shell_lexer.proofs.lexer.lex.Goals as goal

pub returns-clause-cut : goal.returns-clause-cut
returns-clause-cut c = cut_read c.args.text.now c.in-Some-interpreter.strict c.split_line-begin.result.1 (sym c.in-None.ensures.place) (ap interpreter (sym c.split_line-begin.ensures.line) ∙ sym c.in-Some-interpreter.ensures) c.split_line-begin.ensures.behind c.in_ok-tokens.tokens c.in_ok-tokens._end (length c.args.text.now) c.in_ok-tokens.ensures refl

pub returns-clause-only : goal.returns-clause-only
returns-clause-only c = only_cut c.args.text.now _ (cut_read c.args.text.now c.in-Some-interpreter.strict c.split_line-begin.result.1 (sym c.in-None.ensures.place) (ap interpreter (sym c.split_line-begin.ensures.line) ∙ sym c.in-Some-interpreter.ensures) c.split_line-begin.ensures.behind c.in_ok-tokens.tokens c.in_ok-tokens._end (length c.args.text.now) c.in_ok-tokens.ensures refl)

pub returns-clause-no_fault : goal.returns-clause-no_fault
returns-clause-no_fault c = no_fault c.args.text.now _ (cut_read c.args.text.now c.in-Some-interpreter.strict c.split_line-begin.result.1 (sym c.in-None.ensures.place) (ap interpreter (sym c.split_line-begin.ensures.line) ∙ sym c.in-Some-interpreter.ensures) c.split_line-begin.ensures.behind c.in_ok-tokens.tokens c.in_ok-tokens._end (length c.args.text.now) c.in_ok-tokens.ensures refl)

pub returns-in_err-tokens-clause-fault : goal.returns-in_err-tokens-clause-fault
returns-in_err-tokens-clause-fault c =
    let p = err_from_is_err_and c.from_residual.result c.from_residual.ensures.1 in
    rw (p.1, p.2) (fault_read c.args.text.now c.in-Some-interpreter.strict c.split_line-begin.result.1 (sym c.in-None.ensures.place) (ap interpreter (sym c.split_line-begin.ensures.line) ∙ sym c.in-Some-interpreter.ensures) c.split_line-begin.ensures.behind c.in_err-tokens.field-0.0 c.in_err-tokens.ensures)

pub returns-in_err-tokens-clause-no_other : goal.returns-in_err-tokens-clause-no_other
returns-in_err-tokens-clause-no_other c =
    let p = err_from_is_err_and c.from_residual.result c.from_residual.ensures.1 in
    rw (p.1, p.2) (no_other c.args.text.now c.in_err-tokens.field-0.0 (fault_read c.args.text.now c.in-Some-interpreter.strict c.split_line-begin.result.1 (sym c.in-None.ensures.place) (ap interpreter (sym c.split_line-begin.ensures.line) ∙ sym c.in-Some-interpreter.ensures) c.split_line-begin.ensures.behind c.in_err-tokens.field-0.0 c.in_err-tokens.ensures))

pub returns-in_err-tokens-clause-no_cut : goal.returns-in_err-tokens-clause-no_cut
returns-in_err-tokens-clause-no_cut c =
    let p = err_from_is_err_and c.from_residual.result c.from_residual.ensures.1 in
    rw (p.1, p.2) (no_cut c.args.text.now c.in_err-tokens.field-0.0 (fault_read c.args.text.now c.in-Some-interpreter.strict c.split_line-begin.result.1 (sym c.in-None.ensures.place) (ap interpreter (sym c.split_line-begin.ensures.line) ∙ sym c.in-Some-interpreter.ensures) c.split_line-begin.ensures.behind c.in_err-tokens.field-0.0 c.in_err-tokens.ensures))

use Rattle.std.proofs.Common.{sym, ap, ◌∙◌, arith}
use Rattle.std.specs.List.{list_all}
use Rattle.std.proofs.lemmas.Bool.{eqb-false}
use Rattle.script_names.specs.ShellNames.{is_digit}
use Rattle.command_words.proofs.Numbers.{reads}
use Rattle.command_words.proofs.value.read_number.Goals as goal

pub returns-in-Err : goal.returns-in-Err
returns-in-Err c =
    let digits = ap (list_all is_digit) (sym c.as_bytes.ensures.value) ∙ sym c.are_digits.ensures ∙ c.if-not-are_digits.false in
    let some = eqb-false _ 0 (sym c.is_empty.ensures ∙ c.if-is_empty.false) in
    absurd (c.in-Err.ensures.value.0 (reads c.args.text.now digits (omega (arith, some)) (omega arith)))

use Rattle.std.proofs.Common.{ℕ, ◌+◌, List, [], Bor, get_or, ap, sym, ◌∙◌, Some, length}
use Rattle.std.proofs.lemmas.List.{take_rest}
use Rattle.package_lists.specs.Control.{trimmed}
use Rattle.package_lists.proofs.Trims.{found_field}
use Rattle.package_lists.proofs.control.first_field.Goals as goal

pub returns-then-starts_with : goal.returns-then-starts_with
returns-then-starts_with c =
    let n = c.loop-line.number + 1 in
    let none : Bor (List ℕ) = record { ref_ptr = (0, 0); now = [] } in
    let line = (get_or c.args.lines.now c.loop-line.line-index none).now in
    sym (c.loop-line.invariant.rest)
    ∙ found_field c.args.field.now c.args.lines.now c.loop-line.line-index none n c.loop-line-test.true (sym c.starts_with.ensures.value ∙ c.if-starts_with.true)
    ∙ ap (λ (value : List ℕ). Some (n, value)) (sym (c.trimmed.ensures ∙ ap trimmed (take_rest line (length c.args.field.now))))

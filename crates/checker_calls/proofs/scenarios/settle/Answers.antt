use Rattle.std.proofs.Common.{◌≡◌, ◌++◌, ◌∷◌, [], sym, ◌∙◌, ap, map, Ok, Err, length, arith}
use Rattle.std.proofs.lemmas.List.{append-nil}
use Rattle.checker_calls.specs.Settled.{settled}
use Rattle.checker_calls.proofs.Settled.{settled_values, settled_fault, empty}
use Rattle.checker_calls.proofs.scenarios.settle.Goals as goal

pub returns-in-Err : goal.returns-in-Err
returns-in-Err g c =
    let values = c.loop-result.values in
    let rest = c.next.new.self.rest.items in
    let items : c.loop-result.result-iterator.rest.items ≡ Err c.in-Err.fault ∷ rest =
    c.in-Some.ensures.steps.0 ∙ ap (λ result. result ∷ rest) c.in-Err.is in
    sym (settled_fault values c.in-Err.fault rest)
    ∙ ap settled (ap (λ items. map Ok values ++ items) (sym items) ∙ c.loop-result.invariant)

pub returns : goal.returns
returns g c =
    let values = c.loop-result.values in
    let left = c.loop-result.result-iterator.rest.items in
    let none : length left ≡ 0 = omega (arith, c.in-None.ensures.steps.0) in
    let items : left ≡ [] = empty left none in
    sym (settled_values values)
    ∙ ap settled (sym (append-nil (map Ok values)) ∙ (ap (λ items. map Ok values ++ items) (sym items) ∙ c.loop-result.invariant))

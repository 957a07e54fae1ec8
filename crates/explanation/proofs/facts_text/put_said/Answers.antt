use Rattle.std.proofs.Common.{◌≡◌, ◌++◌, ℕ, List, OnOk, codes, sym, subst}
use Rattle.start_facts.specs.declared.fact.Fact.{Fact}
use Rattle.start_facts.specs.declared.fact.Fact.TheVariants.{Fence, Beside}
use Rattle.explanation.specs.FactTexts.{but_names, beside_names, fact_words}
use Rattle.explanation.proofs.Said.{behind}
use Rattle.explanation.proofs.facts_text.put_said.Goals as goal

pub returns-in_ok-extend-in-Fence : goal.returns-in_ok-extend-in-Fence
returns-in_ok-extend-in-Fence c =
    let P : Fact → Type 0 = λ f. OnOk c.put_but.result (c.put_but.new.text ≡ c.args.text.now ++ fact_words f) in
    subst P (sym c.in-Fence.is)
    (subst (λ (ns : List (List ℕ)). P (Fence ns)) c.as_slice.ensures
    (behind c.put_but.result c.args.text.now c.extend-in-Fence.new.self c.put_but.new.text (codes " has no entry")
    (but_names c.as_slice.result.now) c.in_ok-extend-in-Fence.ensures.ok c.put_but.ensures))

pub returns-in_ok-extend-in-Beside : goal.returns-in_ok-extend-in-Beside
returns-in_ok-extend-in-Beside c =
    let P : Fact → Type 0 = λ f. OnOk c.put_beside.result (c.put_beside.new.text ≡ c.args.text.now ++ fact_words f) in
    subst P (sym c.in-Beside.is)
    (subst (λ (ns : List (List ℕ)). P (Beside ns)) c.as_slice-in-Beside.ensures
    (behind c.put_beside.result c.args.text.now c.extend-in-Beside.new.self c.put_beside.new.text (codes " has an entry")
    (beside_names c.as_slice-in-Beside.result.now) c.in_ok-extend-in-Beside.ensures.ok c.put_beside.ensures))

use Rattle.std.proofs.Common.{◌≡◌, ℕ, List, Some, None, sym, ◌∙◌, Bool, true, false, ap}
use Rattle.tree_clauses.specs.declared.clause.Clause.{Clause}
use Rattle.tree_clauses.specs.ClauseRead.{clause_of, is_clause, tells}
use Rattle.tree_clauses.proofs.ClauseLaw.{told_read}
use Rattle.tree_clauses.proofs.read.read_clause.Goals as goal

none : {A : Type 0} (text : List ℕ) (clause : Clause) → None ≡ clause_of text → is_clause clause ≡ true → tells clause text ≡ true → A
none text clause e h t = let r = told_read clause text h t in cc

other : (text : List ℕ) (found clause : Clause) → Some found ≡ clause_of text → is_clause clause ≡ true → tells clause text ≡ true → tells found text ≡ true
other text found clause e h t = let r = told_read clause text h t in let same : found ≡ clause = cc in ap (λ c. tells c text) same ∙ t

pub returns-in-Ok-None : goal.returns-in-Ok-None
returns-in-Ok-None c = λ clause h t. none c.args.text.now clause (sym c.in-Ok-None.field-0-is ∙ c.in-Ok-None.ensures) h t

wrong : {A : Type 0} (b : Bool) → b ≡ true → b ≡ false → A
wrong b e f = cc

pub returns-in-Ok-false : goal.returns-in-Ok-false
returns-in-Ok-false c = λ clause h t.
    let told = other c.args.text.now c.in-Ok-Some.clause clause (sym c.in-Ok-Some.field-0-is ∙ c.in-Ok-Some.ensures) h t in
    wrong c.in-Ok-false.field-0 (c.in-Ok-false.ensures ∙ told) c.in-Ok-false.field-0-test

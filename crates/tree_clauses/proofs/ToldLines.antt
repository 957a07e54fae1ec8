-- Whether lines are those of literals, place by place.
use Rattle.std.proofs.Common.{◌≡◌, ℕ, suc, ◌+◌, ◌<◌, ◌≤◌, Bool, true, false, List, [], ◌∷◌, length, drop, map, get_or, Bor, refl, sym, ap, ◌∙◌, arith}
use Rattle.std.proofs.lemmas.Grind.{common_steps}
use Rattle.std.proofs.lemmas.List.{drop_all}
use Rattle.std.specs.Prelude.{◌&&◌}
use Rattle.tree_clauses.specs.declared.clause.Literal.{Literal}
use Rattle.tree_clauses.specs.ClauseRead.{tells_literal, tell_literals}

abbrev pub texts : List (Bor (List ℕ)) → List (List ℕ)
texts lines = map (λ line. line.now) lines

and_false : (b : Bool) → (b && false) ≡ false
and_false true = refl
and_false false = refl

-- as many lines as literals are wanted
pub other_length : (ls : List Literal) (lines : List (Bor (List ℕ))) → (length ls ≡ length lines → ⊥) → false ≡ tell_literals ls (texts lines)
other_length [] [] ne = absurd (ne refl)
other_length [] (line ∷ lines) ne = refl
other_length (l ∷ ls) [] ne = refl
other_length (l ∷ ls) (line ∷ lines) ne =
    let rest = other_length ls lines (λ e. ne (ap suc e)) in
    sym (and_false (tells_literal l line.now)) ∙ ap (λ b. tells_literal l line.now && b) rest

module _ (ls : List Literal) (lines : List (Bor (List ℕ))) (i : ℕ) where
  abbrev Told : Type 0
  Told = tell_literals (drop i ls) (texts (drop i lines)) ≡ tell_literals ls (texts lines)

  -- at the end all are told
  pub all_told : length ls ≤ i → length ls ≡ length lines → Told → true ≡ tell_literals ls (texts lines)
  all_told le same e =
      sym ((λ j. tell_literals (drop_all i ls le j) (texts (drop i lines))) ∙ ap (λ more. tell_literals [] (texts more)) (drop_all i lines (omega (arith, le, same)))) ∙ e

  module _ (l : Literal) (line : Bor (List ℕ)) (lt : i < length ls) (same : length ls ≡ length lines) (l_is : l ≡ get_or ls i l) (line_is : line ≡ get_or lines i line) where
    one_told : tell_literals (drop i ls) (texts (drop i lines)) ≡ (tells_literal l line.now && tell_literals (drop (i + 1) ls) (texts (drop (i + 1) lines)))
    one_told =
        let first : drop i ls ≡ l ∷ drop (i + 1) ls = grind (arith, common_steps) in
        let second : drop i lines ≡ line ∷ drop (i + 1) lines = grind (arith, common_steps) in
        λ j. tell_literals (first j) (texts (second j))

    -- a line that is not the literal's
    pub not_told : false ≡ tells_literal l line.now → Told → false ≡ tell_literals ls (texts lines)
    not_told bad e = sym (one_told ∙ ap (λ b. b && tell_literals (drop (i + 1) ls) (texts (drop (i + 1) lines))) (sym bad)) ∙ e

    -- a line that is
    pub more_told : true ≡ tells_literal l line.now → Told → tell_literals (drop (i + 1) ls) (texts (drop (i + 1) lines)) ≡ tell_literals ls (texts lines)
    more_told good e = ap (λ b. b && tell_literals (drop (i + 1) ls) (texts (drop (i + 1) lines))) good ∙ sym one_told ∙ e

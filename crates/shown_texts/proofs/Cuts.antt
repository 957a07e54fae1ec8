-- Parts that are joined by a byte are cut apart again.
use Rattle.std.proofs.Common.{◌≡◌, ℕ, true, false, List, [], ◌∷◌, ◌++◌, cond, refl, ap, ◌∙◌}
use Rattle.std.specs.Prelude.{not, ◌==◌}
use Rattle.std.specs.List.{list_all, onto_first, join_with_byte}
use Rattle.std.proofs.lemmas.Bool.{and_parts, eq-eqb, not-true}
use Rattle.shown_texts.specs.Parts.{parts, lacks}

module _ (at : ℕ) where
  cut_here : (rest : List ℕ) → parts at (at ∷ rest) ≡ [] ∷ parts at rest
  cut_here rest = ap (λ c. cond c ([] ∷ parts at rest) (onto_first at (parts at rest))) (eq-eqb at at refl)

  go_on : (x : ℕ) (rest : List ℕ) → (x == at) ≡ false → parts at (x ∷ rest) ≡ onto_first x (parts at rest)
  go_on x rest e = ap (λ c. cond c ([] ∷ parts at rest) (onto_first x (parts at rest))) e

  cut_next : (xs rest : List ℕ) → lacks at xs ≡ true → parts at (xs ++ at ∷ rest) ≡ xs ∷ parts at rest
  cut_next [] rest h = cut_here rest
  cut_next (x ∷ xs) rest h =
      let k = and_parts (not (x == at)) (lacks at xs) h in
      go_on x (xs ++ at ∷ rest) (not-true (x == at) k.0) ∙ ap (onto_first x) (cut_next xs rest k.1)

  cut_none : (xs : List ℕ) → lacks at xs ≡ true → parts at xs ≡ xs ∷ []
  cut_none [] h = refl
  cut_none (x ∷ xs) h =
      let k = and_parts (not (x == at)) (lacks at xs) h in
      go_on x xs (not-true (x == at) k.0) ∙ ap (onto_first x) (cut_none xs k.1)

  pub joined_cut : (text : List ℕ) (texts : List (List ℕ)) → list_all (lacks at) (text ∷ texts) ≡ true → parts at (join_with_byte at (text ∷ texts)) ≡ text ∷ texts
  joined_cut text [] h = let k = and_parts (lacks at text) true h in cut_none text k.0
  joined_cut text (next ∷ texts) h =
      let k = and_parts (lacks at text) (list_all (lacks at) (next ∷ texts)) h in
      cut_next text (join_with_byte at (next ∷ texts)) k.0 ∙ ap (λ l. text ∷ l) (joined_cut next texts k.1)

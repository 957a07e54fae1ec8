-- Pieces that stand behind one another are cut apart again.
use Rattle.std.proofs.Common.{◌≡◌, ℕ, Bool, true, false, List, [], ◌∷◌, ◌++◌, cond, refl, ap, ◌∙◌}
use Rattle.std.specs.Prelude.{not, filter}
use Rattle.std.specs.List.{list_all, slice_split, onto_first}
use Rattle.std.proofs.lemmas.Bool.{and_parts, not-true}
use Rattle.script_names.specs.Paths.{is_filled}
use Rattle.tree_clauses.specs.Cuts.{pieces}

module _ (p : ℕ → Bool) where
  -- no byte ends a piece
  abbrev pub is_clean : List ℕ → Bool
  is_clean bs = list_all (λ b. not (p b)) bs

  cut_here : (y : ℕ) (rest : List ℕ) → p y ≡ true → slice_split p (y ∷ rest) ≡ [] ∷ slice_split p rest
  cut_here y rest e = ap (λ c. cond c ([] ∷ slice_split p rest) (onto_first y (slice_split p rest))) e

  go_on : (x : ℕ) (rest : List ℕ) → p x ≡ false → slice_split p (x ∷ rest) ≡ onto_first x (slice_split p rest)
  go_on x rest e = ap (λ c. cond c ([] ∷ slice_split p rest) (onto_first x (slice_split p rest))) e

  cut_at : (xs : List ℕ) (y : ℕ) (rest : List ℕ) → is_clean xs ≡ true → p y ≡ true → slice_split p (xs ++ y ∷ rest) ≡ xs ∷ slice_split p rest
  cut_at [] y rest h e = cut_here y rest e
  cut_at (x ∷ xs) y rest h e = let k = and_parts (not (p x)) (is_clean xs) h in go_on x (xs ++ y ∷ rest) (not-true (p x) k.0) ∙ ap (onto_first x) (cut_at xs y rest k.1 e)

  cut_none : (xs : List ℕ) → is_clean xs ≡ true → slice_split p xs ≡ xs ∷ []
  cut_none [] h = refl
  cut_none (x ∷ xs) h = let k = and_parts (not (p x)) (is_clean xs) h in go_on x xs (not-true (p x) k.0) ∙ ap (onto_first x) (cut_none xs k.1)

  kept : (xs : List ℕ) (more : List (List ℕ)) → is_filled xs ≡ true → filter is_filled (xs ∷ more) ≡ xs ∷ filter is_filled more
  kept [] more h = cc
  kept (x ∷ xs) more h = refl

  -- a byte that ends a piece, in front of a text
  pub pieces_end : (y : ℕ) (rest : List ℕ) → p y ≡ true → pieces p (y ∷ rest) ≡ pieces p rest
  pieces_end y rest e = ap (filter is_filled) (cut_here y rest e)

  -- a piece and the byte that ends it, in front of a text
  pub pieces_next : (xs : List ℕ) (y : ℕ) (rest : List ℕ) → is_filled xs ≡ true → is_clean xs ≡ true → p y ≡ true → pieces p (xs ++ y ∷ rest) ≡ xs ∷ pieces p rest
  pieces_next xs y rest f h e = ap (filter is_filled) (cut_at xs y rest h e) ∙ kept xs (slice_split p rest) f

  -- the last piece
  pub pieces_last : (xs : List ℕ) → is_filled xs ≡ true → is_clean xs ≡ true → pieces p xs ≡ xs ∷ []
  pieces_last xs f h = ap (filter is_filled) (cut_none xs h) ∙ kept xs [] f

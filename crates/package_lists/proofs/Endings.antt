-- The parts between newlines, without an empty last one.
use Rattle.std.proofs.Common.{◌≡◌, ℕ, Bool, true, false, List, [], ◌∷◌, ◌++◌, length, map, Bor, refl, sym, ap, ◌∙◌, arith}
use Rattle.std.proofs.lemmas.Bool.{ne_eqb}
use Rattle.std.specs.Prelude.{◌==◌, not, if◌then◌else◌}
use Rattle.script_names.specs.Paths.{is_filled}
use Rattle.shown_texts.specs.Parts.{parts}
use Rattle.feature_trees.specs.TreeLines.{whole_lines, text_lines}

abbrev texts : List (Bor (List ℕ)) → List (List ℕ)
texts xs = map (λ line. line.now) xs

texts_more : (xs : List (Bor (List ℕ))) (last : Bor (List ℕ)) → texts (xs ++ last ∷ []) ≡ texts xs ++ last.now ∷ []
texts_more [] last = refl
texts_more (x ∷ xs) last = ap (λ l. x.now ∷ l) (texts_more xs last)

whole_more : (xs : List (List ℕ)) (last : List ℕ) → whole_lines (xs ++ last ∷ []) ≡ (if is_filled last then xs ++ last ∷ [] else xs)
whole_more [] last = refl
whole_more (x ∷ []) last = step (is_filled last)
  where
    step : (b : Bool) → x ∷ (if b then last ∷ [] else []) ≡ (if b then x ∷ last ∷ [] else x ∷ [])
    step true = refl
    step false = refl
whole_more (x ∷ y ∷ xs) last = ap (λ l. x ∷ l) (whole_more (y ∷ xs) last) ∙ step (is_filled last)
  where
    step : (b : Bool) → x ∷ (if b then (y ∷ xs) ++ last ∷ [] else y ∷ xs) ≡ (if b then (x ∷ y ∷ xs) ++ last ∷ [] else x ∷ y ∷ xs)
    step true = refl
    step false = refl

filled : (xs : List ℕ) (b : Bool) → b ≡ (length xs == 0) → is_filled xs ≡ not b
filled [] b e = sym (ap not e)
filled (x ∷ xs) b e = sym (ap not (e ∙ ne_eqb (length (x ∷ xs)) 0 (λ z. omega (arith, z))))

-- a last part was taken away, which is empty or not
pub lines_popped : (all rest : List (Bor (List ℕ))) (last : Bor (List ℕ)) (text : List ℕ) (b : Bool) → texts all ≡ parts 10 text → all ≡ rest ++ last ∷ []
    → b ≡ (length last.now == 0) → (if not b then texts (rest ++ last ∷ []) else texts rest) ≡ text_lines text
lines_popped all rest last text b cut pop e =
    step b ∙ sym (ap whole_lines (sym cut) ∙ ap (λ l. whole_lines (texts l)) pop ∙ ap whole_lines (texts_more rest last) ∙ whole_more (texts rest) last.now
    ∙ ap (λ t. if t then texts rest ++ last.now ∷ [] else texts rest) (filled last.now b e))
  where
    step : (b : Bool) → (if not b then texts (rest ++ last ∷ []) else texts rest) ≡ (if not b then texts rest ++ last.now ∷ [] else texts rest)
    step true = refl
    step false = texts_more rest last

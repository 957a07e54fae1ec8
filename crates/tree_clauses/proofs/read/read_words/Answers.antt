use Rattle.std.proofs.Common.{◌≡◌, [], ◌∷◌, map, ℕ, ◌≤◌, length, refl, arith, None, List, Bor}
use Rattle.tree_clauses.specs.ClauseRead.{literal_of}
use Rattle.tree_clauses.proofs.read.read_words.Goals as goal

one : (ws : List (Bor (List ℕ))) → length ws ≡ 1 → None ≡ literal_of (map (λ word. word.now) ws)
one [] e = refl
one (w ∷ []) e = refl
one (w ∷ x ∷ ws) e = absurd (omega arith)

five : (ws : List (Bor (List ℕ))) → 5 ≤ length ws → None ≡ literal_of (map (λ word. word.now) ws)
five [] e = refl
five (w ∷ []) e = refl
five (a ∷ b ∷ []) e = absurd (omega arith)
five (a ∷ b ∷ c ∷ []) e = absurd (omega arith)
five (a ∷ b ∷ c ∷ d ∷ []) e = absurd (omega arith)
five (a ∷ b ∷ c ∷ d ∷ f ∷ ws) e = refl

pub returns-in-len1 : goal.returns-in-len1
returns-in-len1 c = one c.args.words.now (omega arith)

pub returns-in-len5-up : goal.returns-in-len5-up
returns-in-len5-up c = five c.args.words.now (omega arith)

use Rattle.std.proofs.Common.{◌≡◌, ℕ, ◌≤◌, List, [], ◌∷◌, length, map, None, Bor, refl, arith}
use Rattle.report_text.specs.PieceRead.{result_of_words}
use Rattle.report_reader.proofs.pieces.ending_of_words.Goals as goal

few : (ws : List (Bor (List ℕ))) → length ws ≤ 1 → None ≡ result_of_words (map (λ word. word.now) ws)
few [] e = refl
few (a ∷ []) e = refl
few (a ∷ b ∷ ws) e = absurd (omega arith)

many : (ws : List (Bor (List ℕ))) → 4 ≤ length ws → None ≡ result_of_words (map (λ word. word.now) ws)
many [] e = refl
many (a ∷ []) e = refl
many (a ∷ b ∷ []) e = absurd (omega arith)
many (a ∷ b ∷ c ∷ []) e = absurd (omega arith)
many (a ∷ b ∷ c ∷ d ∷ ws) e = refl

pub returns-in-len1 : goal.returns-in-len1
returns-in-len1 c = few c.args.words.now (omega arith)

pub returns-in-len4-up : goal.returns-in-len4-up
returns-in-len4-up c = many c.args.words.now c.in-len4-up.len_at_least

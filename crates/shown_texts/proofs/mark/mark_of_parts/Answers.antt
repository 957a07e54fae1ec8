use Rattle.std.proofs.Common.{◌≡◌, ℕ, ◌≤◌, List, [], ◌∷◌, length, map, None, Bor, refl, arith}
use Rattle.shown_texts.specs.Marks.{mark_of_parts}
use Rattle.shown_texts.proofs.mark.mark_of_parts.Goals as goal

few : (ps : List (Bor (List ℕ))) → length ps ≤ 2 → None ≡ mark_of_parts (map (λ part. part.now) ps)
few [] e = refl
few (a ∷ []) e = refl
few (a ∷ b ∷ []) e = refl
few (a ∷ b ∷ c ∷ ps) e = absurd (omega arith)

four : (ps : List (Bor (List ℕ))) → 4 ≤ length ps → None ≡ mark_of_parts (map (λ part. part.now) ps)
four [] e = refl
four (a ∷ []) e = refl
four (a ∷ b ∷ []) e = refl
four (a ∷ b ∷ c ∷ []) e = absurd (omega arith)
four (a ∷ b ∷ c ∷ d ∷ ps) e = refl

pub returns-in-len1 : goal.returns-in-len1
returns-in-len1 c = few c.args.parts.now (omega arith)

pub returns-in-len2 : goal.returns-in-len2
returns-in-len2 c = few c.args.parts.now (omega arith)

pub returns-in-len4-up : goal.returns-in-len4-up
returns-in-len4-up c = four c.args.parts.now (omega arith)

use Rattle.std.proofs.Common.{◌≡◌, ℕ, ◌≤◌, List, [], ◌∷◌, length, map, None, Bor, refl, arith}
use Rattle.shown_texts.specs.Marks.{site_of_parts}
use Rattle.shown_texts.proofs.mark.site_of_parts.Goals as goal

one : (ps : List (Bor (List ℕ))) → length ps ≡ 1 → None ≡ site_of_parts (map (λ part. part.now) ps)
one [] e = refl
one (a ∷ []) e = refl
one (a ∷ b ∷ ps) e = absurd (omega arith)

three : (ps : List (Bor (List ℕ))) → 3 ≤ length ps → None ≡ site_of_parts (map (λ part. part.now) ps)
three [] e = refl
three (a ∷ []) e = refl
three (a ∷ b ∷ []) e = absurd (omega arith)
three (a ∷ b ∷ c ∷ ps) e = refl

pub returns-in-len1 : goal.returns-in-len1
returns-in-len1 c = one c.args.parts.now (omega arith)

pub returns-in-len3-up : goal.returns-in-len3-up
returns-in-len3-up c = three c.args.parts.now (omega arith)

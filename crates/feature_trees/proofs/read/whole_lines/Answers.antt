use Rattle.std.proofs.Common.{◌≡◌, ℕ, zero, suc, ◌-◌, true, false, length, take, get_or, map, List, [], ◌∷◌, Bor, refl, sym, ap, ◌∙◌, arith}
use Rattle.std.specs.Prelude.{◌==◌}
use Rattle.std.proofs.lemmas.Bool.{eqb-true, eq-eqb}
use Rattle.feature_trees.specs.TreeLines.{whole_lines}
use Rattle.feature_trees.proofs.read.whole_lines.Goals as goal

none_left : (last : List ℕ) → length last ≡ 0 → [] ≡ whole_lines (last ∷ [])
none_left [] e = refl
none_left (b ∷ bs) e = absurd (omega (arith, e))

one_left : (last : List ℕ) → (length last ≡ 0 → ⊥) → last ∷ [] ≡ whole_lines (last ∷ [])
one_left [] e = absurd (e refl)
one_left (b ∷ bs) e = refl

-- the last part has no byte
ends_empty : (ls : List (Bor (List ℕ))) (n : ℕ) (d : Bor (List ℕ)) → length ls ≡ suc n → length (get_or ls n d).now ≡ 0
    → map (λ line. line.now) (take n ls) ≡ whole_lines (map (λ line. line.now) ls)
ends_empty [] n d e z = absurd (omega (arith, e))
ends_empty (x ∷ []) zero d e z = none_left x.now z
ends_empty (x ∷ []) (suc n) d e z = absurd (omega (arith, e))
ends_empty (x ∷ y ∷ ls) zero d e z = absurd (omega (arith, e))
ends_empty (x ∷ y ∷ ls) (suc n) d e z = ap (λ l. x.now ∷ l) (ends_empty (y ∷ ls) n d (omega (arith, e)) z)

-- the last part has a byte
ends_filled : (ls : List (Bor (List ℕ))) (n : ℕ) (d : Bor (List ℕ)) → length ls ≡ suc n → (length (get_or ls n d).now ≡ 0 → ⊥)
    → map (λ line. line.now) ls ≡ whole_lines (map (λ line. line.now) ls)
ends_filled [] n d e z = absurd (omega (arith, e))
ends_filled (x ∷ []) zero d e z = one_left x.now z
ends_filled (x ∷ []) (suc n) d e z = absurd (omega (arith, e))
ends_filled (x ∷ y ∷ ls) zero d e z = absurd (omega (arith, e))
ends_filled (x ∷ y ∷ ls) (suc n) d e z = ap (λ l. x.now ∷ l) (ends_filled (y ∷ ls) n d (omega (arith, e)) z)

not_both : (a : ℕ) → (a == 0) ≡ false → a ≡ 0 → ⊥
not_both a f e = let t : (a == 0) ≡ true = eq-eqb a 0 e in cc

pub returns-then-is_empty : goal.returns-then-is_empty
returns-then-is_empty c =
    let size : length c.args.texts.now ≡ suc (length c.args.texts.now - 1) = omega (arith, c.in-len1-up.len_at_least) in
    ends_empty c.args.texts.now (length c.args.texts.now - 1) _ size (eqb-true _ 0 (sym c.is_empty.ensures ∙ c.if-is_empty.true))

pub returns-else-is_empty : goal.returns-else-is_empty
returns-else-is_empty c =
    let size : length c.args.texts.now ≡ suc (length c.args.texts.now - 1) = omega (arith, c.in-len1-up.len_at_least) in
    ends_filled c.args.texts.now (length c.args.texts.now - 1) _ size (not_both _ (sym c.is_empty.ensures ∙ c.if-is_empty.false))

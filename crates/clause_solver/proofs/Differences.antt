-- Where three names differ first: of two that differ from a third one at two places, the place of their own difference
-- is the lower of these.
use Rattle.std.proofs.Common.{◌≡◌, ◌≢◌, ℕ, zero, suc, ◌+◌, ◌/◌, ◌%◌, ◌<◌, ◌≤◌, inl, inr, false, List, [], ◌∷◌, refl, sym, ap, ◌∙◌, arith}
use Rattle.std.specs.Prelude.{nat_eq}
use Rattle.clause_solver.specs.Differences.{same_bits, difference}
use Rattle.tree_clauses.proofs.Names.{eq_cases, same_yes}

other_no : (a b : ℕ) → a ≢ b → nat_eq a b ≡ false
other_no a b ne = elim (eq_cases a b) [ inl e ↦ absurd (ne e.0) | inr n ↦ n.1 ]

bits_most : (n a b : ℕ) → same_bits n a b ≤ n
bits_most zero a b = omega arith
bits_most (suc n) a b = elim (eq_cases (a % 2) (b % 2)) [
  | inl e ↦ rw e.1 (let w = bits_most n (a / 2) (b / 2) in omega (arith, w))
  | inr e ↦ rw e.1 (omega arith)
]

bits_turned : (n a b : ℕ) → same_bits n b a ≡ same_bits n a b
bits_turned zero a b = refl
bits_turned (suc n) a b = elim (eq_cases (a % 2) (b % 2)) [
  | inl e ↦ rw (e.1, same_yes (b % 2) (a % 2) (sym e.0)) (ap (λ k. k + 1) (bits_turned n (a / 2) (b / 2)))
  | inr e ↦ rw (e.1, other_no (b % 2) (a % 2) (λ q. e.0 (sym q))) refl
]

bits_below : (n a b c : ℕ) → same_bits n a c < same_bits n a b → same_bits n b c ≡ same_bits n a c
bits_below zero a b c w = omega (arith, w)
bits_below (suc n) a b c w = elim (eq_cases (a % 2) (b % 2)) [
  | inl ab ↦ elim (eq_cases (a % 2) (c % 2)) [
    | inl ac ↦
        let w' : same_bits n (a / 2) (c / 2) + 1 < same_bits n (a / 2) (b / 2) + 1 = rw (ab.1, ac.1) at w in
        rw (ac.1, same_yes (b % 2) (c % 2) (sym ab.0 ∙ ac.0)) (ap (λ k. k + 1) (bits_below n (a / 2) (b / 2) (c / 2) (omega (arith, w'))))
    | inr ac ↦ rw (ac.1, other_no (b % 2) (c % 2) (λ q. ac.0 (ab.0 ∙ q))) refl
  ]
  | inr ab ↦ let w' : same_bits (suc n) a c < 0 = rw ab.1 at w in omega (arith, w')
]

bits_past : (n a b c : ℕ) → same_bits n a b < same_bits n a c → same_bits n b c ≡ same_bits n a b
bits_past n a b c w = bits_turned n c b ∙ bits_below n a c b w

-- the second differs later from the first than the third
pub differs_below : (f h g : List ℕ) → difference f g < difference f h → difference h g ≡ difference f g
differs_below [] h g w = absurd (omega (arith, w))
differs_below (a ∷ f) [] g w = absurd (omega (arith, w))
differs_below (a ∷ f) (b ∷ h) [] w = refl
differs_below (a ∷ f) (b ∷ h) (c ∷ g) w = elim (eq_cases a b) [
  | inl ab ↦ elim (eq_cases a c) [
    | inl ac ↦
        let w' : difference f g + 9 < difference f h + 9 = rw (ab.1, ac.1) at w in
        rw (ac.1, same_yes b c (sym ab.0 ∙ ac.0)) (ap (λ k. k + 9) (differs_below f h g (omega (arith, w'))))
    | inr ac ↦ rw (ac.1, other_no b c (λ q. ac.0 (ab.0 ∙ q))) (ap (λ x. same_bits 8 x c + 1) (sym ab.0))
  ]
  | inr ab ↦ elim (eq_cases a c) [
    | inl ac ↦
        let w' : difference f g + 9 < same_bits 8 a b + 1 = rw (ab.1, ac.1) at w in
        let most = bits_most 8 a b in
        absurd (omega (arith, w', most))
    | inr ac ↦
        let w' : same_bits 8 a c + 1 < same_bits 8 a b + 1 = rw (ab.1, ac.1) at w in
        let less : same_bits 8 a c < same_bits 8 a b = omega (arith, w') in
        let apart : b ≢ c = λ q. let w'' : same_bits 8 a c < same_bits 8 a c = rw q at less in omega (arith, w'') in
        rw (ac.1, other_no b c apart) (ap (λ k. k + 1) (bits_below 8 a b c less))
  ]
]

difference_turned : (f g : List ℕ) → difference g f ≡ difference f g
difference_turned [] [] = refl
difference_turned [] (b ∷ g) = refl
difference_turned (a ∷ f) [] = refl
difference_turned (a ∷ f) (b ∷ g) = elim (eq_cases a b) [
  | inl e ↦ rw (e.1, same_yes b a (sym e.0)) (ap (λ k. k + 9) (difference_turned f g))
  | inr e ↦ rw (e.1, other_no b a (λ q. e.0 (sym q))) (ap (λ k. k + 1) (bits_turned 8 a b))
]

-- the second differs earlier from the first than the third
pub differs_past : (f h g : List ℕ) → difference f h < difference f g → difference h g ≡ difference f h
differs_past f h g w = difference_turned g h ∙ differs_below f g h w

-- no name differs from another behind that one's end
pub differs_most : (f g : List ℕ) → difference f g ≤ difference f f
differs_most [] g = omega arith
differs_most (a ∷ f) [] = omega arith
differs_most (a ∷ f) (b ∷ g) = rw (same_yes a a refl) (elim (eq_cases a b) [
  | inl e ↦ rw e.1 (let w = differs_most f g in omega (arith, w))
  | inr ne ↦ rw ne.1 (let w = bits_most 8 a b in omega (arith, w))
])

-- Lists of names that are the same, or of which one begins the other.
use Rattle.std.proofs.Common.{◌≡◌, ◌≢◌, ℕ, Bool, true, false, List, [], ◌∷◌, ◌++◌, refl, sym, ap, ◌∙◌}
use Rattle.std.specs.Str.{bytes_eq}
use Rattle.std.specs.Cmp.Derive.{both_true}
use Rattle.std.proofs.lemmas.Slice.Eq.{bytes_eq-Decides}
use Rattle.std.proofs.lemmas.Bool.{and_parts}
use Rattle.utility_calls.specs.Acts.{is_prefix}
use Rattle.utility_calls.specs.Pairs.{same_names}

-- the same names are equal
pub same_equal : (p q : List (List ℕ)) → same_names p q ≡ true → p ≡ q
same_equal [] [] h = refl
same_equal [] (g ∷ q) h = cc
same_equal (f ∷ p) [] h = cc
same_equal (f ∷ p) (g ∷ q) h =
    let both = and_parts (bytes_eq f g) (same_names p q) h in
    let first : f ≡ g = (bytes_eq-Decides f g).0 both.0 in
    let rest : p ≡ q = same_equal p q both.1 in
    λ i. first i ∷ rest i

pub same_bytes : (f : List ℕ) → bytes_eq f f ≡ true
same_bytes f = (bytes_eq-Decides f f).1 refl

pub same_self : (p : List (List ℕ)) → same_names p p ≡ true
same_self [] = refl
same_self (f ∷ p) = both_true (same_bytes f) (same_self p)

prefix_more : (p : List (List ℕ)) (f : List ℕ) (rest : List (List ℕ)) → is_prefix p (p ++ f ∷ rest) ≡ true
prefix_more [] f rest = refl
prefix_more (g ∷ p) f rest = both_true (same_bytes g) (prefix_more p f rest)

true_false : (b : Bool) → b ≡ true → b ≡ false → ⊥
true_false b t f = let x : true ≡ false = sym t ∙ f in cc

-- names that are not the same differ
pub differ : (p q : List (List ℕ)) → same_names p q ≡ false → p ≢ q
differ p q h e = true_false (same_names p q) (ap (same_names p) (sym e) ∙ same_self p) h

-- names that do not begin others do not stand above them
pub not_under : (p q : List (List ℕ)) → is_prefix p q ≡ false → (f : List ℕ) (rest : List (List ℕ))
    → q ≢ p ++ f ∷ rest
not_under p q h f rest e = true_false (is_prefix p q) (ap (is_prefix p) e ∙ prefix_more p f rest) h

-- Bytes before which no joined line is left, and what passes a test.
use Rattle.std.proofs.Common.{◌≡◌, ℕ, Bool, true, false, ◌&&◌, nat_eq, not, [], ◌∷◌, ◌++◌, refl, ap}
use Rattle.std.specs.List.{list_all}
use Rattle.shell_lexer.specs.Text.{Bytes, skip}
use Rattle.shell_lexer.specs.Spelling.{Stands}
use Rattle.std.proofs.lemmas.Bool.{and_from, and_parts, cond-false, not-true}

pub clash : {b : Bool} → b ≡ false → b ≡ true → ⊥
clash e f = cc

-- whether a byte is no backslash
abbrev pub is_no_back : ℕ → Bool
is_no_back b = not (nat_eq b 92)

-- a byte before which no joined line is left
pub skip_first : (a : ℕ) (t : Bytes) → nat_eq a 92 ≡ false → skip (a ∷ t) ≡ a ∷ t
skip_first a [] e = refl
skip_first a (b ∷ t) e = cond-false (nat_eq a 92 && nat_eq b 10) _ _ (ap (λ x. x && nat_eq b 10) e)

-- bytes without a backslash stand where they are
pub stands_here : (s rest : Bytes) → list_all is_no_back s ≡ true → Stands s (s ++ rest) rest
stands_here [] rest e = refl
stands_here (b ∷ s) rest e = (
  s ++ rest,
  skip_first b (s ++ rest) (not-true (nat_eq b 92) (and_parts (is_no_back b) (list_all is_no_back s) e).0),
  stands_here s rest (and_parts (is_no_back b) (list_all is_no_back s) e).1,
)

-- bytes that all pass one test pass another
pub all_pass : (f g : ℕ → Bool) → ((b : ℕ) → f b ≡ true → g b ≡ true) → (s : Bytes) → list_all f s ≡ true → list_all g s ≡ true
all_pass f g h [] e = refl
all_pass f g h (b ∷ s) e = and_from (g b) (list_all g s) (h b (and_parts (f b) (list_all f s) e).0) (all_pass f g h s (and_parts (f b) (list_all f s) e).1)

pub all_append : (f : ℕ → Bool) (s t : Bytes) → list_all f s ≡ true → list_all f t ≡ true → list_all f (s ++ t) ≡ true
all_append f [] t e g = g
all_append f (b ∷ s) t e g = and_from (f b) (list_all f (s ++ t)) (and_parts (f b) (list_all f s) e).0 (all_append f s t (and_parts (f b) (list_all f s) e).1 g)

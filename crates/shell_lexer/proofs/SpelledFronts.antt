-- What is seen at the front of a text, by its next byte that counts.
use Rattle.std.proofs.Common.{◌≡◌, ℕ, Bool, true, false, nat_eq, [], ◌∷◌, refl, sym, ap, ◌∙◌}
use Rattle.shell_lexer.specs.Text.{Bytes, skip, place, tail, head_is}
use Rattle.shell_lexer.specs.Operators.{sight, sight_at}
use Rattle.shell_lexer.specs.Spelling.{IsNotNext}
use Rattle.std.proofs.lemmas.Bool.{eqb-true, true≢false}

pub shown : (len b : ℕ) (text more : Bytes) → skip text ≡ b ∷ more → sight len text ≡ sight_at len (place len (b ∷ more)) (b ∷ more)
shown len b text more e = ap (λ t. sight_at len (place len t) t) e

pub head_of : (b : ℕ) (t more : Bytes) → t ≡ b ∷ more → nat_eq b b ≡ true → (head_is b t ≡ true) × (tail t ≡ more)
head_of b t more e r = (ap (head_is b) e ∙ r, ap tail e)

pub head_back : (b : ℕ) (t : Bytes) → head_is b t ≡ true → t ≡ b ∷ tail t
head_back b [] e = absurd (cc e)
head_back b (a ∷ t) e = ap (λ a. a ∷ t) (eqb-true a b e)

-- the next byte is another: as a test, and back
pub is_not : (b : ℕ) (t : Bytes) → ((more : Bytes) → t ≡ b ∷ more → ⊥) → head_is b t ≡ false
is_not b t h = by (head_is b t) refl where
  by : (it : Bool) → head_is b t ≡ it → it ≡ false
  by true e = absurd (h (tail t) (head_back b t e))
  by false e = refl

pub not_next : (b : ℕ) (text : Bytes) → nat_eq b b ≡ true → head_is b (skip text) ≡ false → IsNotNext b text
not_next b text r e more h = true≢false (sym ((head_of b (skip text) more h r).0) ∙ e)

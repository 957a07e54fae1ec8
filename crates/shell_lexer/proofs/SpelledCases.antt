-- Tests and their cases, as the laws of spelling use them.
use Rattle.std.proofs.Common.{◌≡◌, ℕ, Bool, true, false, ◌||◌, nat_eq, [], ◌∷◌, Some, None, refl, sym, subst, arith}
use Rattle.std.proofs.lemmas.Bool.{eqb-true, false≢true}
use Rattle.std.proofs.lemmas.Grind.{common_steps}
use Rattle.std.specs.List.{list_any}
use Rattle.shell_lexer.specs.Text.{Bytes}

pub eq_same : (a : ℕ) → nat_eq a a ≡ true
eq_same a = grind (arith, common_steps)

pub or_case : (a b : Bool) {A : Type 0} → (a || b) ≡ true → (a ≡ true → A) → (b ≡ true → A) → A
or_case true b e h g = h refl
or_case false b e h g = g e

pub some_same : {A : Type 0} {x y : A} → Some x ≡ Some y → x ≡ y
some_same e = cc

pub none_some : {A : Type 0} {x : A} → None ≡ Some x → ⊥
none_some e = cc

-- what holds of each of some bytes
abbrev pub Each : (ℕ → Type 0) → Bytes → Type 0
Each P [] = Unit {0}
Each P (b ∷ bytes) = P b × Each P bytes

pub one_among : (P : ℕ → Type 0) (b : ℕ) (bytes : Bytes) → Each P bytes → list_any (nat_eq b) bytes ≡ true → P b
one_among P b [] h e = absurd (false≢true e)
one_among P b (a ∷ bytes) h e = or_case (nat_eq b a) (list_any (nat_eq b) bytes) e (λ is. subst P (sym (eqb-true b a is)) h.0) (λ more. one_among P b bytes h.1 more)

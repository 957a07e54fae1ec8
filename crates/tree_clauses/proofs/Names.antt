-- Numbers and names: two are the same or not.
use Rattle.std.proofs.Common.{◌≡◌, ◌≢◌, ℕ, zero, suc, ◌+◌, ◌<◌, ◌⊎◌, inl, inr, Bool, true, false, List, refl, sym, ap, ◌∙◌, arith}
use Rattle.std.specs.declared.cmp.Ordering.{Ordering}
use Rattle.std.specs.declared.cmp.Ordering.TheVariants.{Less, Equal, Greater}
use Rattle.std.specs.Ordering.{is_eq}
use Rattle.std.proofs.lemmas.Cmp.{tied_itself}
use Rattle.std.proofs.lemmas.Bool.Decides.{nat_tests}
use Rattle.std.specs.Prelude.{nat_eq}
use Rattle.feature_trees.specs.Tree.{name_cmp}
use Rattle.feature_trees.proofs.Laws.{ord}
use Rattle.feature_trees.proofs.Found.{same_name}

pub nat_cases : (i x : ℕ) → (i ≡ x) ⊎ (i ≢ x)
nat_cases zero zero = inl refl
nat_cases zero (suc x) = inr (λ e. omega arith)
nat_cases (suc i) zero = inr (λ e. omega arith)
nat_cases (suc i) (suc x) = elim (nat_cases i x) [ inl e ↦ inl (ap suc e) | inr n ↦ inr (λ e. n (omega arith)) ]

-- below n + 1 stands n or a smaller number
pub last_cases : (i n : ℕ) → i < n + 1 → (i < n) ⊎ (i ≡ n)
last_cases i n h = elim (nat_cases i n) [ inl e ↦ inr e | inr ne ↦ inl (omega arith) ]

pub bool_cases : (b : Bool) → (b ≡ true) ⊎ (b ≡ false)
bool_cases true = inl refl
bool_cases false = inr refl

pub eq_cases : (a b : ℕ) → ((a ≡ b) × (nat_eq a b ≡ true)) ⊎ ((a ≢ b) × (nat_eq a b ≡ false))
eq_cases a b = elim (bool_cases (nat_eq a b)) [
  | inl t ↦ inl (let e : a ≡ b = grind (arith, nat_tests, t) in e, t)
  | inr f ↦ inr (λ e. let t : nat_eq a b ≡ true = grind (arith, nat_tests, e) in cc, f)
]

pub same_yes : (a b : ℕ) → a ≡ b → nat_eq a b ≡ true
same_yes a b e = grind (arith, nat_tests, e)

-- a name is the same as itself
pub itself : (f : List ℕ) → is_eq (name_cmp f f) ≡ true
itself f = ap is_eq (tied_itself ord f)

order_cases : (o : Ordering) → (o ≡ Equal) ⊎ (is_eq o ≡ false)
order_cases Less = inr refl
order_cases Equal = inl refl
order_cases Greater = inr refl

-- two names are the same, or not, and the test says so
pub name_cases : (f g : List ℕ) → ((f ≡ g) × (is_eq (name_cmp f g) ≡ true)) ⊎ ((f ≢ g) × (is_eq (name_cmp f g) ≡ false))
name_cases f g = elim (order_cases (name_cmp f g)) [
  | inl e ↦ inl (same_name f g e, ap is_eq e)
  | inr n ↦ inr (λ e. let t : is_eq (name_cmp f g) ≡ true = ap (λ h. is_eq (name_cmp f h)) (sym e) ∙ itself f in let bad : true ≡ false = sym t ∙ n in cc, n)
]

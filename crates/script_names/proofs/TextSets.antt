-- A set of texts after one more.
use Rattle.std.proofs.Common.{◌≡◌, ℕ, Bool, true, false, List, Vec, refl, sym, ap, subst, ◌∙◌}
use Rattle.std.specs.Prelude.{◌||◌}
use Rattle.std.specs.BTreeSet.{BTreeSet, UpdatesBy, contains_by}
use Rattle.std.specs.Map.{IsKeyTest, AreApart}
use Rattle.std.specs.Set.{KeepsOthers}
use Rattle.std.specs.Ordering.{nat_cmp, is_eq, eq_by_cmp}
use Rattle.std.specs.declared.cmp.Ordering.{Ordering}
use Rattle.std.specs.declared.cmp.Ordering.TheVariants.{Less, Equal, Greater}
use Rattle.std.specs.Cmp.Lexicographic.{slice_cmp}
use Rattle.std.specs.FinMap.{slice_cmp-IsAntisymmetric, nat_cmp-IsAntisymmetric}
use Rattle.std.specs.Str.{bytes_eq}
use Rattle.std.proofs.lemmas.Map.Text.{is_eq-slice_cmp}
use Rattle.std.proofs.lemmas.Slice.Eq.{bytes_eq-Decides}
use Rattle.std.proofs.lemmas.Bool.{false_from_ne_true}

-- the order of texts, by their bytes
abbrev pub texts : List ℕ → List ℕ → Ordering
texts = slice_cmp nat_cmp

pub equal : (r : Ordering) → is_eq r ≡ true → r ≡ Equal
equal Less e = cc
equal Equal e = refl
equal Greater e = cc

pub differ : true ≡ false → ⊥
differ e = cc

same_text : (q text : List ℕ) → eq_by_cmp texts q text ≡ true → q ≡ text
same_text q text e = slice_cmp-IsAntisymmetric nat_cmp-IsAntisymmetric q text (equal _ e)

other_way : (text q : List ℕ) → bytes_eq text q ≡ false → bytes_eq q text ≡ false
other_way text q e =
    false_from_ne_true (bytes_eq q text) (λ t. absurd (differ (sym ((bytes_eq-Decides text q).1 (sym ((bytes_eq-Decides q text).0 t))) ∙ e)))

-- the text is the one added, or it is not
pub by_text : (text q : List ℕ) (P : Bool → Type 0) → (text ≡ q → P true) → ((bytes_eq text q ≡ false) → P false) → P (bytes_eq text q)
by_text text q P same other =
    elim (bytes_eq text q) as (λ b. bytes_eq text q ≡ b → P b) [
      | true ↦ λ e. same ((bytes_eq-Decides text q).0 e)
      | false ↦ λ e. other e
    ] refl

module _ {A : Type 0} where
  abbrev pub key_cmp : Vec ℕ A → Vec ℕ A → Ordering
  key_cmp x y = texts x.items y.items

  abbrev pub is_key : List ℕ → Vec ℕ A → Bool
  is_key q key = is_eq (texts q key.items)

  pub same_key : (q : List ℕ) → IsKeyTest (eq_by_cmp key_cmp) (is_key q)
  same_key q x y e = ap (λ n. is_eq (texts n y.items)) (same_text q x.items e)

  pub apart : (text q : List ℕ) → bytes_eq text q ≡ false → AreApart (is_key text) (is_key q)
  apart text q e k h =
      subst (λ n. is_eq (texts q n) ≡ false) (same_text text k.items h)
      (is_eq-slice_cmp q text ∙ other_way text q e)

  pub adds : (m n : BTreeSet (Vec ℕ A)) (text : List ℕ) → UpdatesBy key_cmp (λ k. texts text k.items) m n true
      → (q : List ℕ) → contains_by (λ k. texts q k.items) n ≡ (bytes_eq text q || contains_by (λ k. texts q k.items) m)
  unfolding KeepsOthers
  adds m n text h q =
      by_text text q (λ b. contains_by (λ k. texts q k.items) n ≡ (b || contains_by (λ k. texts q k.items) m))
      (λ same. subst (λ x. contains_by (λ k. texts x k.items) n ≡ true) same h.1)
      (λ other. h.3 (is_key q) (same_key q) (apart text q other))

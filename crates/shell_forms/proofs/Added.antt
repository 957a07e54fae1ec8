-- The map of functions after one more definition.
use Rattle.std.proofs.Common.{◌≡◌, ℕ, Bool, true, false, if◌then◌else◌, [], ◌∷◌, Option, Some, None, Vec, refl, sym, ap, subst, ◌∙◌, arith}
use Rattle.std.specs.BTreeMap.{BTreeMap, UpdatesBy}
use Rattle.std.specs.Map.{lookup, KeepsOthers, IsKeyTest, AreApart}
use Rattle.std.specs.Ordering.{nat_cmp, is_eq, eq_by_cmp}
use Rattle.std.specs.declared.cmp.Ordering.{Ordering}
use Rattle.std.specs.Cmp.Lexicographic.{slice_cmp}
use Rattle.std.specs.FinMap.{slice_cmp-IsAntisymmetric, nat_cmp-IsAntisymmetric}
use Rattle.std.specs.Str.{bytes_eq}
use Rattle.std.proofs.lemmas.Map.Text.{is_eq-slice_cmp}
use Rattle.std.proofs.lemmas.Slice.Eq.{bytes_eq-Decides}
use Rattle.std.proofs.lemmas.Bool.{leb-true, leb-false, false_from_ne_true}
use Rattle.script_names.proofs.TextSets.{equal, differ}
use Rattle.shell_forms.specs.Names.{Text}
use Rattle.shell_forms.specs.Functions.{lesser}
use Rattle.shell_forms.specs.Known.{has_name, is_at_most}
use Rattle.shell_forms.proofs.Known.{Adds, lesser-none}

abbrev pub names : Text → Text → Ordering
names = slice_cmp nat_cmp

same_name : (q name : Text) → eq_by_cmp names q name ≡ true → q ≡ name
same_name q name e = slice_cmp-IsAntisymmetric nat_cmp-IsAntisymmetric q name (equal _ e)

-- two names that differ, the other way round
other_way : (name q : Text) → bytes_eq name q ≡ false → bytes_eq q name ≡ false
other_way name q e =
    false_from_ne_true (bytes_eq q name) (λ t. absurd (differ (sym ((bytes_eq-Decides name q).1 (sym ((bytes_eq-Decides q name).0 t))) ∙ e)))

-- an offset that is not behind one more definition stays the first
lesser-known : (first : Option ℕ) (at : ℕ) → is_at_most first at ≡ true → first ≡ lesser first (Some at)
lesser-known None at e = cc
lesser-known (Some first) at e = ap Some (omega (arith, leb-true first at e))

-- else the one more is the first
lesser-new : (first : Option ℕ) (at : ℕ) → is_at_most first at ≡ false → Some at ≡ lesser first (Some at)
lesser-new None at e = refl
lesser-new (Some first) at e = ap Some (omega (arith, leb-false first at e))

-- the name is that of the definition, or it is not
by_name : (name q : Text) (P : Bool → Type 0) → (name ≡ q → P true) → ((bytes_eq name q ≡ false) → P false) → P (bytes_eq name q)
by_name name q P same other =
    elim (bytes_eq name q) as (λ b. bytes_eq name q ≡ b → P b) [
      | true ↦ λ e. same ((bytes_eq-Decides name q).0 e)
      | false ↦ λ e. other e
    ] refl

-- a definition behind the first of its name changes nothing
pub adds_known : (first : Text → Option ℕ) (name : Text) (at : ℕ) → is_at_most (first name) at ≡ true → Adds first first ((name, at) ∷ [])
adds_known first name at e q =
    by_name name q (λ b. first q ≡ lesser (first q) (lesser (if b then Some at else None) None))
    (λ same. lesser-known (first q) at (subst (λ n. is_at_most (first n) at ≡ true) same e))
    (λ other. sym (lesser-none (first q)))

module _ {A : Type 0} where
  abbrev key_cmp : Vec ℕ A → Vec ℕ A → Ordering
  key_cmp x y = names x.items y.items

  same_key : (q : Text) → IsKeyTest (eq_by_cmp key_cmp) (has_name q)
  same_key q x y e = ap (λ n. is_eq (names n y.items)) (same_name q x.items e)

  apart : (name q : Text) → bytes_eq name q ≡ false → AreApart (has_name {A = A} name) (has_name q)
  apart name q e k h =
      subst (λ n. is_eq (names q n) ≡ false) (same_name name k.items h)
      (is_eq-slice_cmp q name ∙ other_way name q e)

  -- the first definition of a name, put into the map
  pub adds_new : (m n : BTreeMap (Vec ℕ A) ℕ) (name : Text) (at : ℕ)
      → UpdatesBy key_cmp (λ k. names name k.items) m n (Some at)
      → is_at_most (lookup (has_name name) m.entries) at ≡ false
      → Adds (λ q. lookup (has_name q) m.entries) (λ q. lookup (has_name q) n.entries) ((name, at) ∷ [])
  unfolding KeepsOthers
  adds_new m n name at h e q =
      by_name name q (λ b. lookup (has_name q) n.entries ≡ lesser (lookup (has_name q) m.entries) (lesser (if b then Some at else None) None))
      (λ same. subst (λ x. lookup (has_name x) n.entries ≡ lesser (lookup (has_name x) m.entries) (Some at)) same (h.1 ∙ lesser-new _ at e))
      (λ other. h.3 (has_name q) (same_key q) (apart name q other) ∙ sym (lesser-none _))

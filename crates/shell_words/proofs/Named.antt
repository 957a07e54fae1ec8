-- A map of the tree's entries is the finite map of the same names and values, after each change too.
use Rattle.std.proofs.Common.{◌≡◌, ℕ, Bool, true, false, cond, List, [], ◌∷◌, Option, Some, None, Vec, refl, sym, ap, subst, ◌∙◌}
use Rattle.std.specs.BTreeMap.{BTreeMap, UpdatesBy}
use Rattle.std.specs.Map.{lookup, KeepsOthers, IsKeyTest, AreApart}
use Rattle.std.specs.Ordering.{nat_cmp, is_eq, eq_by_cmp}
use Rattle.std.specs.declared.cmp.Ordering.{Ordering}
use Rattle.std.specs.Cmp.Lexicographic.{slice_cmp, nat_list_cmp_total}
use Rattle.std.specs.FinMap as map
use Rattle.std.specs.FinMap.{find, get-from_entries, get-insert, get-remove, same_map, slice_cmp-IsAntisymmetric, nat_cmp-IsAntisymmetric}
use Rattle.script_names.proofs.TextSets.{equal}
use Rattle.shell_words.specs.Named.{named}

abbrev pub names : List ℕ → List ℕ → Ordering
names = slice_cmp nat_cmp

same_name : (q name : List ℕ) → eq_by_cmp names q name ≡ true → q ≡ name
same_name q name e = slice_cmp-IsAntisymmetric nat_cmp-IsAntisymmetric q name (equal _ e)

module _ {A : Type 0} where
  abbrev pub key_cmp : Vec ℕ A → Vec ℕ A → Ordering
  key_cmp x y = names x.items y.items

  -- whether a key has this name
  abbrev pub has_name : List ℕ → Vec ℕ A → Bool
  has_name q k = is_eq (names q k.items)

  pub find-named : (q : List ℕ) (es : List (Vec ℕ A × List ℕ)) → find names q (named es) ≡ lookup (has_name q) es
  find-named q [] = refl
  find-named q (e ∷ es) = ap (cond (has_name q e.0) (Some e.1)) (find-named q es)

  pub get-named : (q : List ℕ) (es : List (Vec ℕ A × List ℕ)) → map.get (map.from_entries {R = names} (named es)) q ≡ lookup (has_name q) es
  get-named q es = get-from_entries nat_list_cmp_total (named es) q ∙ find-named q es

  same_key : (q : List ℕ) → IsKeyTest (eq_by_cmp key_cmp) (has_name q)
  same_key q x y e = ap (λ n. is_eq (names n y.items)) (same_name q x.items e)

  apart : (name q : List ℕ) → eq_by_cmp names q name ≡ false → AreApart (has_name name) (has_name q)
  apart name q e k h = subst (λ n. is_eq (names q n) ≡ false) (same_name name k.items h) e

  -- what a changed map answers at each name
  lookup-updated : (name q : List ℕ) (m n : BTreeMap (Vec ℕ A) (List ℕ)) (w : Option (List ℕ))
      → UpdatesBy key_cmp (λ k. names name k.items) m n w
      → lookup (has_name q) n.entries ≡ cond (eq_by_cmp names q name) w (lookup (has_name q) m.entries)
  unfolding KeepsOthers
  lookup-updated name q m n w h =
      elim (eq_by_cmp names q name) as (λ b. eq_by_cmp names q name ≡ b → lookup (has_name q) n.entries ≡ cond b w (lookup (has_name q) m.entries)) [
        | true ↦ λ e. subst (λ r. lookup (has_name r) n.entries ≡ w) (sym (same_name q name e)) h.1
        | false ↦ λ e. h.3 (has_name q) (same_key q) (apart name q e)
      ] refl

  pub set-named : (name : List ℕ) (v : List ℕ) (m n : BTreeMap (Vec ℕ A) (List ℕ)) → UpdatesBy key_cmp (λ k. names name k.items) m n (Some v)
      → map.from_entries {R = names} (named n.entries) ≡ map.insert (map.from_entries (named m.entries)) name v
  set-named name v m n h =
      same_map nat_list_cmp_total (slice_cmp-IsAntisymmetric nat_cmp-IsAntisymmetric) _ _
      (λ q. get-named q n.entries ∙ lookup-updated name q m n (Some v) h
      ∙ sym (get-insert nat_list_cmp_total (map.from_entries (named m.entries)) name v q ∙ ap (cond (eq_by_cmp names q name) (Some v)) (get-named q m.entries)))

  pub unset-named : (name : List ℕ) (m n : BTreeMap (Vec ℕ A) (List ℕ)) → UpdatesBy key_cmp (λ k. names name k.items) m n None
      → map.from_entries {R = names} (named n.entries) ≡ map.remove (map.from_entries (named m.entries)) name
  unset-named name m n h =
      same_map nat_list_cmp_total (slice_cmp-IsAntisymmetric nat_cmp-IsAntisymmetric) _ _
      (λ q. get-named q n.entries ∙ lookup-updated name q m n None h
      ∙ sym (get-remove nat_list_cmp_total (map.from_entries (named m.entries)) name q ∙ ap (cond (eq_by_cmp names q name) None) (get-named q m.entries)))

  -- one more entry copied: what no later entry names is as in the map that is copied
  pub copied-more : (k : Vec ℕ A) (v : List ℕ) (rest later : List (Vec ℕ A × List ℕ)) (self twin more : map.FinMap names (List ℕ))
      → rest ≡ (k, v) ∷ later
      → ((q : List ℕ) → lookup (has_name q) rest ≡ None → map.get twin q ≡ map.get self q)
      → map.get self k.items ≡ Some v
      → more ≡ map.insert twin k.items v
      → (q : List ℕ) → lookup (has_name q) later ≡ None → map.get more q ≡ map.get self q
  copied-more k v rest later self twin more e so_far here m q none =
      ap (λ t. map.get t q) m ∙ get-insert nat_list_cmp_total twin k.items v q
      ∙ (elim (eq_by_cmp names q k.items) as (λ b. eq_by_cmp names q k.items ≡ b → cond b (Some v) (map.get twin q) ≡ map.get self q) [
        | true ↦ λ t. sym here ∙ ap (map.get self) (sym (same_name q k.items t))
        | false ↦ λ t. so_far q (ap (lookup (has_name q)) e ∙ ap (λ b. cond b (Some v) (lookup (has_name q) later)) t ∙ none)
      ] refl)

  -- all entries copied
  pub copied-all : (rest : List (Vec ℕ A × List ℕ)) (self twin : map.FinMap names (List ℕ))
      → rest ≡ []
      → ((q : List ℕ) → lookup (has_name q) rest ≡ None → map.get twin q ≡ map.get self q)
      → twin ≡ self
  copied-all rest self twin e so_far =
      same_map nat_list_cmp_total (slice_cmp-IsAntisymmetric nat_cmp-IsAntisymmetric) _ _ (λ q. so_far q (ap (lookup (has_name q)) e))

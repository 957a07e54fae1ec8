-- The names below folders after one more, and after some were taken out.
use Rattle.std.proofs.Common.{◌≡◌, ℕ, false, List, [], ◌∷◌, Vec, Option, Some, ap, subst, ◌∙◌}
use Rattle.std.specs.Prelude.{if◌then◌else◌}
use Rattle.std.specs.BTreeMap.{BTreeMap, UpdatesBy, get_by}
use Rattle.std.specs.Map.{KeepsOthers}
use Rattle.std.specs.Str.{bytes_eq}
use Rattle.package_lists.specs.Below.{with_name, with_names}
use Rattle.package_lists.specs.FolderNames.{or_none}
use Rattle.script_names.proofs.TextSets.{texts, key_cmp, is_key, same_key, apart, by_text}

module _ {A : Type 0} where
  abbrev kept : BTreeMap (Vec ℕ A) (List (List ℕ)) → List ℕ → List (List ℕ)
  kept m q = or_none (get_by (λ k. texts q k.items) m)

  -- another path has what it had
  pub others : (m n : BTreeMap (Vec ℕ A) (List (List ℕ))) (path q : List ℕ) (w : Option (List (List ℕ)))
      → UpdatesBy key_cmp (λ k. texts path k.items) m n w → bytes_eq path q ≡ false → kept n q ≡ kept m q
  unfolding KeepsOthers
  others m n path q w h other = ap or_none (h.3 (is_key q) (same_key q) (apart path q other))

  -- one more name below a path
  pub adds_name : (m mid n : BTreeMap (Vec ℕ A) (List (List ℕ))) (path : List ℕ) (name : List ℕ)
      → ((q : List ℕ) → bytes_eq path q ≡ false → kept mid q ≡ kept m q)
      → UpdatesBy key_cmp (λ k. texts path k.items) mid n (Some (with_name (kept m path) name))
      → (q : List ℕ) → kept n q ≡ with_names (kept m q) (if bytes_eq path q then name ∷ [] else [])
  adds_name m mid n path name first second q =
      by_text path q (λ b. kept n q ≡ with_names (kept m q) (if b then name ∷ [] else []))
      (λ same. subst (λ x. kept n x ≡ with_name (kept m x) name) same (ap or_none second.1))
      (λ other. others mid n path q _ second other ∙ first q other)

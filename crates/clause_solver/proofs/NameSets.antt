-- Sets of names after one more.
use Rattle.std.proofs.Common.{◌≡◌, ◌∙◌, ◌↔◌, ◌⊎◌, inl, inr, ◌||◌, ◌++◌, ℕ, Bool, true, false, IsTrue, List, [], ◌∷◌, refl, sym, ap, subst}
use Rattle.std.specs.Ordering.{is_eq}
use Rattle.std.specs.Str.{bytes_eq}
use Rattle.std.proofs.lemmas.Map.Text.{is_eq-slice_cmp}
use Rattle.std.proofs.lemmas.Slice.Eq.{bytes_eq-Decides}
use Rattle.std.proofs.lemmas.Bool.{or_cases, or_left, or_right}
use Rattle.feature_trees.specs.Tree.{name_cmp}
use Rattle.clause_solver.specs.Variables.{Listed, member}

same_truth : (a b : Bool) → (a ≡ true → b ≡ true) → (b ≡ true → a ≡ true) → a ≡ b
same_truth true b there back = sym (there refl)
same_truth false true there back = back refl
same_truth false false there back = refl

-- two names are the same, whichever is compared with the other
pub same_either_way : (f g : List ℕ) → bytes_eq f g ≡ is_eq (name_cmp g f)
same_either_way f g =
    same_truth (bytes_eq f g) (bytes_eq g f)
    (λ t. (bytes_eq-Decides g f).1 (sym ((bytes_eq-Decides f g).0 t)))
    (λ t. (bytes_eq-Decides f g).1 (sym ((bytes_eq-Decides g f).0 t)))
    ∙ sym (is_eq-slice_cmp g f)

-- of two names one is looked for, which was added to a set
pub found_added : (f g : List ℕ) (b : Bool) → IsTrue (is_eq (name_cmp g f) || b) ↔ ((g ≡ f) ⊎ IsTrue b)
found_added f g b = subst (λ x. IsTrue (x || b) ↔ ((g ≡ f) ⊎ IsTrue b)) (same_either_way f g) (
  λ t. elim (or_cases (bytes_eq f g) b t) [
    | inl e ↦ inl (sym ((bytes_eq-Decides f g).0 e))
    | inr e ↦ inr e
  ],
  λ s. elim s [
    | inl e ↦ or_left (bytes_eq f g) b ((bytes_eq-Decides f g).1 (sym e))
    | inr e ↦ or_right (bytes_eq f g) b e
  ],
)

-- a set with a name and then these has that name and these
pub one_then : (f g : List ℕ) (names : List (List ℕ)) (old mid new : Bool) → mid ≡ (is_eq (name_cmp g f) || old)
    → (IsTrue new ↔ (Listed g names ⊎ IsTrue mid)) → (IsTrue new ↔ (Listed g (f ∷ names) ⊎ IsTrue old))
one_then f g names old mid new is after = (
  λ t. elim (after.0 t) [
    | inl in_rest ↦ inl (inr in_rest)
    | inr had ↦ elim ((found_added f g old).0 (sym is ∙ had)) [
      | inl e ↦ inl (inl e)
      | inr e ↦ inr e
    ]
  ],
  λ s. elim s [
    | inl listed ↦ elim listed [
      | inl e ↦ after.1 (inr (is ∙ (found_added f g old).1 (inl e)))
      | inr in_rest ↦ after.1 (inl in_rest)
    ]
    | inr e ↦ after.1 (inr (is ∙ (found_added f g old).1 (inr e)))
  ],
)

-- one more name at the end
pub member_more : (g f : List ℕ) (names : List (List ℕ)) → member g (names ++ f ∷ []) ≡ (is_eq (name_cmp g f) || member g names)
member_more g f [] = refl
member_more g f (h ∷ hs) = ap (λ b. is_eq (name_cmp g h) || b) (member_more g f hs) ∙ other_order (is_eq (name_cmp g h)) (is_eq (name_cmp g f)) (member g hs)
  where
    other_order : (a b c : Bool) → (a || (b || c)) ≡ (b || (a || c))
    other_order true true c = refl
    other_order true false c = refl
    other_order false b c = refl

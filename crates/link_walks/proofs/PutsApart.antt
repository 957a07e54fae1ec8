-- What a put at one path leaves of a link or a directory at another.
use Rattle.std.proofs.Common.{◌≡◌, ◌≢◌, ℕ, Bool, true, false, IsTrue, ◌⊎◌, inl, inr, List, [], ◌∷◌, ◌++◌, refl, sym, ap, ap₂, subst, ◌∙◌}
use Rattle.std.specs.Str.{bytes_eq}
use Rattle.std.proofs.lemmas.Slice.Eq.{bytes_eq-Decides}
use Rattle.feature_trees.specs.declared.kind.Kind.TheVariants.{Dir}
use Rattle.feature_trees.specs.declared.value.Value.{Value}
use Rattle.feature_trees.specs.declared.value.Value.TheVariants as value
use Rattle.feature_trees.specs.Tree.{entry, at, is_dir, kind_of, put, has_parents}
use Rattle.feature_trees.specs.Sound.{sound}
use Rattle.feature_trees.proofs.Laws.{and_parts, at-put_same, at-put_other, at-put_below, at-put_above}

-- how two paths lie
pub data Meet (p q : List (List ℕ)) : Type 0 where
  same : p ≡ q → Meet p q
  under : (f : List ℕ) (rest : List (List ℕ)) → q ≡ p ++ f ∷ rest → Meet p q
  over : (f : List ℕ) (rest : List (List ℕ)) → p ≡ q ++ f ∷ rest → Meet p q
  parted : (c : List (List ℕ)) (f g : List ℕ) (more others : List (List ℕ)) → f ≢ g → p ≡ c ++ f ∷ more
      → q ≡ c ++ g ∷ others → Meet p q

same_or_not : (f g : List ℕ) → (f ≡ g) ⊎ (f ≢ g)
same_or_not f g = by (bytes_eq f g) refl
  where
    by : (b : Bool) → bytes_eq f g ≡ b → (f ≡ g) ⊎ (f ≢ g)
    by true e = inl ((bytes_eq-Decides f g).0 e)
    by false e = inr (λ h. let x : true ≡ false = sym ((bytes_eq-Decides f g).1 h) ∙ e in cc)

one_more : (f g : List ℕ) (p q : List (List ℕ)) → f ≡ g → Meet p q → Meet (f ∷ p) (g ∷ q)
one_more f g p q e (same h) = same (λ i. e i ∷ h i)
one_more f g p q e (under k rest h) = let b : g ≡ f = sym e in under k rest (λ i. b i ∷ h i)
one_more f g p q e (over k rest h) = over k rest (λ i. e i ∷ h i)
one_more f g p q e (parted c k l more others ne h j) =
    let b : g ≡ f = sym e in parted (f ∷ c) k l more others ne (ap (λ x. f ∷ x) h) (λ i. b i ∷ j i)

pub meet : (p q : List (List ℕ)) → Meet p q
meet [] [] = same refl
meet [] (g ∷ q) = under g q refl
meet (f ∷ p) [] = over f p refl
meet (f ∷ p) (g ∷ q) = elim (same_or_not f g) [
  | inl e ↦ one_more f g p q e (meet p q)
  | inr ne ↦ parted [] f g p q ne refl refl
]

dir_is : (v : Value) → IsTrue (is_dir v) → kind_of v ≡ Dir
dir_is value.Absent h = cc
dir_is value.Reg h = cc
dir_is (value.Link b) h = cc
dir_is (value.Special k) h = cc
dir_is (value.Dir es) h = refl

-- above a path below which something may be put stands a directory
pub parent_dir : (t : Value) (q : List (List ℕ)) (f : List ℕ) (rest : List (List ℕ))
    → IsTrue (has_parents t (q ++ f ∷ rest)) → kind_of (at t q) ≡ Dir
parent_dir t [] f rest h = dir_is t (and_parts (is_dir t) (has_parents (entry t f) rest) h).0
parent_dir t (g ∷ q) f rest h =
    parent_dir (entry t g) q f rest (and_parts (is_dir t) (has_parents (entry t g) (q ++ f ∷ rest)) h).1

module _ (t w : Value) (p q : List (List ℕ)) (s : IsTrue (sound t)) (ps : IsTrue (has_parents t p)) where
  pub link_kept : (b : List ℕ) → at t q ≡ value.Link b → (p ≡ q → w ≡ value.Link b)
      → ((f : List ℕ) (rest : List (List ℕ)) → q ≡ p ++ f ∷ rest → at w (f ∷ rest) ≡ value.Link b)
      → at (put t p w) q ≡ value.Link b
  link_kept b h here below = by (meet p q)
    where
      by : Meet p q → at (put t p w) q ≡ value.Link b
      by (same e) = ap (at (put t p w)) (sym e) ∙ (at-put_same t p w s ps ∙ here e)
      by (under f rest e) = ap (at (put t p w)) e ∙ (at-put_below t p (f ∷ rest) w s ps ∙ below f rest e)
      by (over f rest e) =
          let d : kind_of (at t q) ≡ Dir = parent_dir t q f rest (subst (λ x. IsTrue (has_parents t x)) e ps) in
          absurd (let x : Dir ≡ kind_of (value.Link b) = sym d ∙ ap kind_of h in cc)
      by (parted c f g more others ne e j) =
          ap₂ (λ x y. at (put t x w) y) e j
          ∙ (at-put_other c t f g more others w s ne ∙ (ap (at t) (sym j) ∙ h))

  pub dir_kept : kind_of (at t q) ≡ Dir → (p ≡ q → kind_of w ≡ Dir)
      → ((f : List ℕ) (rest : List (List ℕ)) → q ≡ p ++ f ∷ rest → kind_of (at w (f ∷ rest)) ≡ Dir)
      → kind_of (at (put t p w) q) ≡ Dir
  dir_kept h here below = by (meet p q)
    where
      by : Meet p q → kind_of (at (put t p w) q) ≡ Dir
      by (same e) = ap kind_of (ap (at (put t p w)) (sym e) ∙ at-put_same t p w s ps) ∙ here e
      by (under f rest e) =
          ap kind_of (ap (at (put t p w)) e ∙ at-put_below t p (f ∷ rest) w s ps) ∙ below f rest e
      by (over f rest e) =
          ap kind_of (ap (λ x. at (put t x w) q) e ∙ at-put_above t q (f ∷ rest) w s (subst (λ x. IsTrue (has_parents t x)) e ps))
      by (parted c f g more others ne e j) =
          ap kind_of (ap₂ (λ x y. at (put t x w) y) e j ∙ (at-put_other c t f g more others w s ne ∙ ap (at t) (sym j))) ∙ h

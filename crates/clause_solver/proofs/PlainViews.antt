-- What a plain order of literals says of the first of them.
use Rattle.std.proofs.Common.{◌≡◌, ℕ, List, [], ◌∷◌, Contains, refl}
use Rattle.feature_trees.specs.declared.kind.Kind.TheVariants as kind
use Rattle.feature_trees.specs.declared.kind.Kinds.{Kinds}
use Rattle.feature_trees.specs.Kinds.{of}
use Rattle.tree_clauses.specs.declared.clause.Var.{Var}
use Rattle.tree_clauses.specs.declared.clause.Literal.{Literal}
use Rattle.tree_clauses.specs.declared.clause.Literal.TheVariants as L
use Rattle.tree_clauses.specs.Plain.{PlainOrder, done, entry, absent, reg, link, dir, same, replaced, kinds, empty, filled}

-- the kinds of a variable that gets a place, or has one
pub data KindView (before : List Literal) (known : List ℕ) (x : Var) (ks : Kinds) (rest : List Literal) (after : List ℕ) : Type 0 where
  is_absent : ¬ (Contains known x.0) → ks ≡ of kind.Absent → PlainOrder (L.Kind x (of kind.Absent) ∷ before) (x.0 ∷ known) rest after → KindView before known x ks rest after
  is_reg : ¬ (Contains known x.0) → ks ≡ of kind.Reg → PlainOrder (L.Kind x (of kind.Reg) ∷ before) (x.0 ∷ known) rest after → KindView before known x ks rest after
  is_dir : (more : List Literal) → ¬ (Contains known x.0) → ks ≡ of kind.Dir → rest ≡ L.Fence x [] ∷ more → PlainOrder (L.Fence x [] ∷ L.Kind x (of kind.Dir) ∷ before) (x.0 ∷ known) more after → KindView before known x ks rest after
  is_known : Contains known x.0 → PlainOrder (L.Kind x ks ∷ before) known rest after → KindView before known x ks rest after

-- the variable that a directory is similar to has a place; so has the one that is put under the name, if there is one
pub data SimilarView (before : List Literal) (known : List ℕ) (y : Var) (names : List (List ℕ)) (x : Var) (rest : List Literal) (after : List ℕ) : Type 0 where
  is_same : names ≡ [] → Contains known x.0 → ¬ (Contains known y.0) → PlainOrder (L.Similar y [] x ∷ before) (y.0 ∷ known) rest after → SimilarView before known y names x rest after
  is_replaced : (f : List ℕ) (z : Var) (more : List Literal) → names ≡ f ∷ [] → rest ≡ L.Entry y f z ∷ more → Contains known x.0 → Contains known z.0 → ¬ (Contains known y.0)
      → PlainOrder (L.Entry y f z ∷ L.Similar y (f ∷ []) x ∷ before) (y.0 ∷ known) more after → SimilarView before known y names x rest after

abbrev pub View : List Literal → List ℕ → List Literal → List ℕ → Type 0
View before known [] after = known ≡ after
View before known (L.Entry x f y ∷ rest) after = Contains known x.0 × ¬ (Contains known y.0) × PlainOrder (L.Entry x f y ∷ before) (y.0 ∷ known) rest after
View before known (L.Kind x ks ∷ rest) after = KindView before known x ks rest after
View before known (L.Fence x names ∷ rest) after = (names ≡ []) × Contains known x.0 × PlainOrder (L.Fence x [] ∷ before) known rest after
View before known (L.NotEmpty x ∷ rest) after = Contains known x.0 × PlainOrder (L.NotEmpty x ∷ before) known rest after
View before known (L.Similar y names x ∷ rest) after = SimilarView before known y names x rest after
View before known (L.Target y target ∷ rest) after = ¬ (Contains known y.0) × PlainOrder (L.Target y target ∷ before) (y.0 ∷ known) rest after

pub view : {before literals : List Literal} {known after : List ℕ} → PlainOrder before known literals after → View before known literals after
view done = refl
view (entry x f y kx ny r) = (kx, ny, r)
view (absent y ny r) = is_absent ny refl r
view (reg y ny r) = is_reg ny refl r
view (link y target ny r) = (ny, r)
view (dir {literals = more} y ny r) = is_dir more ny refl refl r
view (same y x kx ny bounded r) = is_same refl kx ny r
view (replaced {literals = more} y f x z kx ny kz bounded r) = is_replaced f z more refl refl kx kz ny r
view (kinds x ks kx r) = is_known kx r
view (empty x kx r) = (refl, kx, r)
view (filled x kx r) = (kx, r)

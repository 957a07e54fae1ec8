-- What each literal of a plain case does on its turn.
use Rattle.std.proofs.Common.{◌≡◌, ℕ, IsTrue, List, [], ◌∷◌, drop, Contains, refl}
use Rattle.script_names.specs.Names.{is_name}
use Rattle.feature_trees.specs.declared.kind.Kind.TheVariants as kind
use Rattle.feature_trees.specs.declared.kind.Kinds.{Kinds}
use Rattle.feature_trees.specs.Kinds.{has, of}
use Rattle.tree_clauses.specs.declared.clause.Var.{Var}
use Rattle.tree_clauses.specs.declared.clause.Literal.{Literal}
use Rattle.tree_clauses.specs.declared.clause.Literal.TheVariants as L
use Rattle.tree_clauses.specs.Literals.{value_of_variable, MeetsAll}
use Rattle.tree_clauses.specs.Plain.{PlainOrder}
use Rattle.tree_clauses.specs.Solved.{subject}
use Rattle.tree_clauses.proofs.Values.{derived_from, ensured_from}
use Rattle.clause_solver.specs.declared.drafts.Draft.{Draft}
use Rattle.clause_solver.specs.declared.variable.MadeValue.TheVariants as made_value
use Rattle.clause_solver.specs.declared.variable.Definition.TheVariants.{Child, Derived, Ensured, Made}
use Rattle.clause_solver.specs.Drafts.{place_in, IsPlaced, Says, Makes, GoesOn}
use Rattle.clause_solver.proofs.Pairs.{sound_at, made_from, made_to, definition_to}
use Rattle.clause_solver.proofs.PlainViews.{KindView, SimilarView, is_absent, is_reg, is_dir, is_known, is_same, is_replaced, view}
use Rattle.clause_solver.proofs.Going.{Turn, said, made}

-- ---- kinds

kinds_known : (before : List Literal) (known : List ℕ) (x : Var) (ks : Kinds) (rest : List Literal) (after : List ℕ) → KindView before known x ks rest after → Contains known x.0 → PlainOrder (L.Kind x ks ∷ before) known rest after
kinds_known before known x ks rest after (is_absent none e r) c = absurd (none c)
kinds_known before known x ks rest after (is_reg none e r) c = absurd (none c)
kinds_known before known x ks rest after (is_dir more none e f r) c = absurd (none c)
kinds_known before known x ks rest after (is_known k r) c = r

absent_turn : (before : List Literal) (known : List ℕ) (x : Var) (ks : Kinds) (rest : List Literal) (after : List ℕ) → KindView before known x ks rest after → ¬ (Contains known x.0) → IsTrue (has ks kind.Absent)
    → Turn x.0 (Made made_value.Absent) before known (L.Kind x ks ∷ rest) rest after
absent_turn before known x ks rest after (is_absent none e r) n t = record {
  added = L.Kind x (of kind.Absent) ∷ before;
  none = none;
  order = r;
  says = λ h s. (λ m. (made_from h x.0 made_value.Absent s (m.0, tt), m.1), λ m. ((made_to h x.0 made_value.Absent m.0).0, m.1));
  split = λ h. (λ q. ((rw e at q.1.0, q.0), q.1.1), λ q. (q.0.1, (rw e q.0.0, q.1)));
}
absent_turn before known x ks rest after (is_reg none e r) n t = let bad : IsTrue (has (of kind.Reg) kind.Absent) = rw e at t in cc
absent_turn before known x ks rest after (is_dir more none e f r) n t = let bad : IsTrue (has (of kind.Dir) kind.Absent) = rw e at t in cc
absent_turn before known x ks rest after (is_known k r) n t = absurd (n k)

reg_turn : (before : List Literal) (known : List ℕ) (x : Var) (ks : Kinds) (rest : List Literal) (after : List ℕ) → KindView before known x ks rest after → ¬ (Contains known x.0) → IsTrue (has ks kind.Reg)
    → Turn x.0 (Made made_value.Reg) before known (L.Kind x ks ∷ rest) rest after
reg_turn before known x ks rest after (is_absent none e r) n t = let bad : IsTrue (has (of kind.Absent) kind.Reg) = rw e at t in cc
reg_turn before known x ks rest after (is_reg none e r) n t = record {
  added = L.Kind x (of kind.Reg) ∷ before;
  none = none;
  order = r;
  says = λ h s. (λ m. (made_from h x.0 made_value.Reg s (m.0, tt), m.1), λ m. ((made_to h x.0 made_value.Reg m.0).0, m.1));
  split = λ h. (λ q. ((rw e at q.1.0, q.0), q.1.1), λ q. (q.0.1, (rw e q.0.0, q.1)));
}
reg_turn before known x ks rest after (is_dir more none e f r) n t = let bad : IsTrue (has (of kind.Dir) kind.Reg) = rw e at t in cc
reg_turn before known x ks rest after (is_known k r) n t = absurd (n k)

-- the directory without entries, by its kind and the fence behind it
dir_turn : (before : List Literal) (known : List ℕ) (x : Var) (ks : Kinds) (rest : List Literal) (after : List ℕ) → KindView before known x ks rest after → ¬ (Contains known x.0) → ¬ (IsTrue (has ks kind.Absent)) → ¬ (IsTrue (has ks kind.Reg))
    → Turn x.0 (Made made_value.Dir) before known (L.Kind x ks ∷ rest) (drop 1 rest) after
dir_turn before known x ks rest after (is_absent none e r) n a f = absurd (a (rw e refl))
dir_turn before known x ks rest after (is_reg none e r) n a f = absurd (f (rw e refl))
dir_turn before known x ks rest after (is_dir more none e begins r) n a f = record {
  added = L.Fence x [] ∷ L.Kind x (of kind.Dir) ∷ before;
  none = none;
  order = rw begins r;
  says = λ h s. (
    λ m. (made_from h x.0 made_value.Dir s (m.1.0, (m.0, tt)), m.1.1),
    λ m. let both = made_to h x.0 made_value.Dir m.0 in (both.1.0, (both.0, m.1)),
  );
  split = λ h. (
    λ q. let tail : MeetsAll h (L.Fence x [] ∷ more) = rw begins at q.1.1 in ((tail.0, (rw e at q.1.0, q.0)), rw begins tail.1),
    λ q. (q.0.1.1, (rw e q.0.1.0, rw begins (q.0.0, rw begins at q.1))),
  );
}
dir_turn before known x ks rest after (is_known k r) n a f = absurd (n k)

module _ (a b : Draft) (x : Var) (ks : Kinds) (rest : List Literal) where
  pub kinds_go : IsPlaced (place_in a x.0) → Says a b (L.Kind x ks) → GoesOn a (L.Kind x ks ∷ rest) b rest
  kinds_go p s = said a b (L.Kind x ks) rest s (λ before known after o are. kinds_known before known x ks rest after (view o) ((are x.0).1 p))

  pub absent_goes : ¬ (IsPlaced (place_in a x.0)) → IsTrue (has ks kind.Absent) → Makes a b x.0 (Made made_value.Absent) → GoesOn a (L.Kind x ks ∷ rest) b rest
  absent_goes p t m = made a b x.0 (Made made_value.Absent) (L.Kind x ks ∷ rest) rest m (λ before known after o are. absent_turn before known x ks rest after (view o) (λ c. p ((are x.0).0 c)) t)

  pub reg_goes : ¬ (IsPlaced (place_in a x.0)) → IsTrue (has ks kind.Reg) → Makes a b x.0 (Made made_value.Reg) → GoesOn a (L.Kind x ks ∷ rest) b rest
  reg_goes p t m = made a b x.0 (Made made_value.Reg) (L.Kind x ks ∷ rest) rest m (λ before known after o are. reg_turn before known x ks rest after (view o) (λ c. p ((are x.0).0 c)) t)

  pub dir_goes : ¬ (IsPlaced (place_in a x.0)) → ¬ (IsTrue (has ks kind.Absent)) → ¬ (IsTrue (has ks kind.Reg)) → Makes a b x.0 (Made made_value.Dir) → GoesOn a (L.Kind x ks ∷ rest) b (drop 1 rest)
  dir_goes p na nr m = made a b x.0 (Made made_value.Dir) (L.Kind x ks ∷ rest) (drop 1 rest) m (λ before known after o are. dir_turn before known x ks rest after (view o) (λ c. p ((are x.0).0 c)) na nr)

-- ---- entries, links, and facts on the entries of known variables

module _ (a b : Draft) (rest : List Literal) where
  pub entry_goes : (x : Var) (f : List ℕ) (y : Var) → Makes a b y.0 (Child x.0 f) → GoesOn a (L.Entry x f y ∷ rest) b rest
  entry_goes x f y m = made a b y.0 (Child x.0 f) (L.Entry x f y ∷ rest) rest m (
      λ before known after o are. record {
        added = L.Entry x f y ∷ before;
        none = (view o).1;
        order = (view o).2;
        says = λ h s. (λ q. q, λ q. q);
        split = λ h. (λ q. ((q.1.0, q.0), q.1.1), λ q. (q.0.1, (q.0.0, q.1)));
      })

  pub link_goes : (y : Var) (target : List ℕ) → Makes a b y.0 (Made (made_value.Link target)) → GoesOn a (L.Target y target ∷ rest) b rest
  link_goes y target m = made a b y.0 (Made (made_value.Link target)) (L.Target y target ∷ rest) rest m (
      λ before known after o are. record {
        added = L.Target y target ∷ before;
        none = (view o).0;
        order = (view o).1;
        says = λ h s. (λ q. q, λ q. q);
        split = λ h. (λ q. ((q.1.0, q.0), q.1.1), λ q. (q.0.1, (q.0.0, q.1)));
      })

  pub filled_goes : (x : Var) → Says a b (L.NotEmpty x) → GoesOn a (L.NotEmpty x ∷ rest) b rest
  filled_goes x s = said a b (L.NotEmpty x) rest s (λ before known after o are. (view o).1)

  pub empty_goes : (x : Var) → Says a b (L.Fence x []) → GoesOn a (L.Fence x [] ∷ rest) b rest
  empty_goes x s = said a b (L.Fence x []) rest s (λ before known after o are. (view o).2)

-- ---- similar directories

same_turn : (before : List Literal) (known : List ℕ) (y x : Var) (rest : List Literal) (after : List ℕ) → SimilarView before known y [] x rest after → Turn y.0 (Ensured x.0) before known (L.Similar y [] x ∷ rest) rest after
same_turn before known y x rest after (is_same e kx none r) = record {
  added = L.Similar y [] x ∷ before;
  none = none;
  order = r;
  says = λ h s. (
    λ m. (ensured_from (value_of_variable h y.0) (value_of_variable h x.0) (sound_at h s y.0) (sound_at h s x.0) m.0.0 m.0.1, m.1),
    λ m. ((definition_to h y.0 (Ensured x.0) s m.0).0, m.1),
  );
  split = λ h. (λ q. ((q.1.0, q.0), q.1.1), λ q. (q.0.1, (q.0.0, q.1)));
}
same_turn before known y x rest after (is_replaced f z more e begins kx kz none r) = let bad : [] ≡ f ∷ [] = e in absurd (cc)

replaced_turn : (before : List Literal) (known : List ℕ) (y : Var) (f : List ℕ) (names : List (List ℕ)) (x : Var) (literal : Literal) (rest : List Literal) (after : List ℕ) → IsTrue (is_name f) → SimilarView before known y (f ∷ names) x (literal ∷ rest) after
    → Turn y.0 (Derived x.0 f (subject literal)) before known (L.Similar y (f ∷ names) x ∷ literal ∷ rest) rest after
replaced_turn before known y f names x literal rest after name (is_same e kx none r) = let bad : f ∷ names ≡ [] = e in absurd (cc)
replaced_turn before known y f names x literal rest after name (is_replaced g z more e begins kx kz none r) =
    let one : f ∷ names ≡ g ∷ [] = e in
    let first : f ≡ g = cc in
    let tail : names ≡ [] = cc in
    let begin : literal ∷ rest ≡ L.Entry y g z ∷ more = begins in
    let head : literal ≡ L.Entry y g z = cc in
    let behind : rest ≡ more = cc in
    rw (tail, head, behind, first) (record {
      added = L.Entry y g z ∷ L.Similar y (g ∷ []) x ∷ before;
      none = none;
      order = r;
      says = λ h s. (
        λ m. (
          derived_from (value_of_variable h y.0) (value_of_variable h x.0) (value_of_variable h z.0) g (sound_at h s y.0) (sound_at h s x.0) (sound_at h s z.0) (rw first at name) m.1.0.0 m.1.0.1 m.0,
          m.1.1,
        ),
        λ m. let both = definition_to h y.0 (Derived x.0 g z.0) s m.0 in (both.1.0, (both.0, m.1)),
      );
      split = λ h. (
        λ q. ((q.1.1.0, (q.1.0, q.0)), q.1.1.1),
        λ q. (q.0.1.1, (q.0.1.0, (q.0.0, q.1))),
      );
    })

module _ (a b : Draft) (y x : Var) where
  pub same_goes : (rest : List Literal) → Makes a b y.0 (Ensured x.0) → GoesOn a (L.Similar y [] x ∷ rest) b rest
  same_goes rest m = made a b y.0 (Ensured x.0) (L.Similar y [] x ∷ rest) rest m (λ before known after o are. same_turn before known y x rest after (view o))

  pub replaced_goes : (f : List ℕ) (names : List (List ℕ)) (literal : Literal) (rest : List Literal) → IsTrue (is_name f) → Makes a b y.0 (Derived x.0 f (subject literal)) → GoesOn a (L.Similar y (f ∷ names) x ∷ literal ∷ rest) b rest
  replaced_goes f names literal rest name m =
      made a b y.0 (Derived x.0 f (subject literal)) (L.Similar y (f ∷ names) x ∷ literal ∷ rest) rest m (λ before known after o are. replaced_turn before known y f names x literal rest after name (view o))

  pub derived_goes : (names tail : List (List ℕ)) (rest more : List Literal) (f : List ℕ) (literal : Literal) → names ≡ f ∷ tail → rest ≡ literal ∷ more → IsTrue (is_name f) → Makes a b y.0 (Derived x.0 f (subject literal)) → GoesOn a (L.Similar y names x ∷ rest) b more
  derived_goes names tail rest more f literal e r name m = rw (e, r) (replaced_goes f tail literal more name m)

  pub ensured_goes : (names : List (List ℕ)) (rest : List Literal) → names ≡ [] → Makes a b y.0 (Ensured x.0) → GoesOn a (L.Similar y names x ∷ rest) b rest
  ensured_goes names rest e m = rw e (same_goes rest m)

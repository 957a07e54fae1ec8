-- The places whose entries are gathered, one value laid by at its parent after another.
use Rattle.std.proofs.Common.{◌≡◌, ℕ, ◌+◌, ◌<◌, inl, inr, Bool, List, [], ◌∷◌, ◌++◌, length, map, refl, sym, ap, subst, ◌∙◌, arith, get_or-set_other, get_or-set_same, slice_set}
use Rattle.std.specs.List.{Contains}
use Rattle.std.proofs.lemmas.List.{length-append, length-map, length-set, get_or-map, map_push, map-set, get_or_append_left}
use Rattle.std.proofs.lemmas.List.Elements.{Contains-push_cases}
use Rattle.std.proofs.Math.Seq.{get_or-append_seam}
use Rattle.feature_trees.specs.declared.kind.Kind.{Kind}
use Rattle.feature_trees.specs.declared.value.Value.{Value}
use Rattle.feature_trees.specs.declared.value.Value.TheVariants as value
use Rattle.tree_clauses.specs.Literals.{Valuation, value_of_variable}
use Rattle.tree_clauses.proofs.Orders.{contains_nothing}
use Rattle.clause_solver.specs.declared.variable.Definition.{Definition}
use Rattle.clause_solver.specs.declared.variable.Definition.TheVariants.{Start, Child, Derived, Ensured, Made}
use Rattle.clause_solver.specs.declared.variable.Variable.{Variable}
use Rattle.clause_solver.specs.Variables.{var_at, Ordered}
use Rattle.clause_solver.specs.Grown.{values}
use Rattle.clause_solver.specs.Opens.{opened, without_children}
use Rattle.clause_solver.specs.Gathered.{Pair, Gathered, with_pair, with_all, finished, AreOneEach}
use Rattle.clause_solver.specs.Builds.{AreWithoutChildren, AreGathered, IsBuilt, no_place, place_at, laid_by, with_entry, moved_to_parent}
use Rattle.clause_solver.proofs.Names.{nat_cases}
use Rattle.clause_solver.proofs.Links.{below_or}
use Rattle.clause_solver.proofs.Gathered.{finished_pair}
use Rattle.clause_solver.proofs.Built.{without_children_built, move_step, last_whole}

with_nothing : (v : Value) → with_all v [] ≡ v
with_nothing value.Absent = refl
with_nothing value.Reg = refl
with_nothing (value.Link b) = refl
with_nothing (value.Special s) = refl
with_nothing (value.Dir es) = refl

value_finished : (gs : List Gathered) (k : ℕ) → k < length gs → value_of_variable (map finished gs) k ≡ finished (place_at gs k)
value_finished gs k w = get_or-map finished gs k no_place value.Absent w

-- a value laid by at its parent is moved into it
laid_moved : (gs : List Gathered) (d : Definition) (v : Value) (i : ℕ) → length gs ≡ i → ((p : ℕ) (f : List ℕ) → d ≡ Child p f → p < i) → map finished (laid_by gs d v) ≡ moved_to_parent (map finished gs) d v
laid_moved gs Start v i l low = refl
laid_moved gs (Child p f) v i l low =
    let w : p < length gs = rw l (low p f refl) in
    map-set finished gs p (with_pair (place_at gs p) f v)
    ∙ ap (slice_set (map finished gs) p) (finished_pair (place_at gs p) f v ∙ ap (λ u. with_entry u f v) (sym (value_finished gs p w)))
laid_moved gs (Derived x f y) v i l low = refl
laid_moved gs (Ensured x) v i l low = refl
laid_moved gs (Made m) v i l low = refl

module _ (vars : List Variable) (best : List Kind) (marks : List Bool) (z : List ℕ) where
  abbrev all : Valuation
  all = values best (opened vars marks) z 0 vars

  -- where the value under a name of a place comes from
  abbrev From : ℕ → Pair → Type 0
  From k p = (j : ℕ) × (j < length vars) × ((var_at vars j).definition ≡ Child k p.0) × (p.1 ≡ value_of_variable all j)

  pub gathered_nothing : (gs : List Gathered) → AreWithoutChildren vars best marks z gs → AreGathered vars best marks z (length vars) gs
  gathered_nothing gs h = record {
    built = without_children_built vars best marks z (map finished gs) (length-map gs finished ∙ h.counted)
        (λ k w. value_finished gs k (rw h.counted w) ∙ ap finished (h.each k w) ∙ with_nothing (without_children vars best marks z k));
    from = λ k p w c. absurd (contains_nothing p (subst (λ (g : Gathered). Contains g.1 p) (h.each k w) c));
  }

  module _ (order : Ordered vars) where
    -- two values under one name come from one variable
    pub one_each : (k : ℕ) (ps : List Pair) → ((p : Pair) → Contains ps p → From k p) → AreOneEach ps
    one_each k ps from p q cp cq same =
        let a = from p cp in
        let b = from q cq in
        let b' : (var_at vars b.0).definition ≡ Child k p.0 = b.2 ∙ ap (Child k) (sym same) in
        elim (nat_cases a.0 b.0) [
          | inl e ↦ a.3 ∙ ap (value_of_variable all) e ∙ sym b.3
          | inr ne ↦ elim (below_or a.0 b.0) [
            | inl lt ↦ absurd (order.single a.0 b.0 k p.0 lt b.1 a.2 b')
            | inr le ↦ absurd (order.single b.0 a.0 k p.0 (omega (arith, ne, le)) a.1 b' a.2)
          ]
        ]

    module _ (old new : List Gathered) (g : Gathered) (i : ℕ) (e : old ≡ new ++ g ∷ []) (l : length new ≡ i) (w : i < length vars) (h : AreGathered vars best marks z (length old) old) where
      long : length old ≡ i + 1
      long = ap length e ∙ length-append new (g ∷ []) ∙ ap (λ n. n + 1) l

      last_is : place_at old i ≡ g
      last_is = ap (λ t. place_at t i) e ∙ rw (sym l) (get_or-append_seam new g [] no_place)

      -- no name of the last place has two values
      pub last_one_each : AreOneEach g.1
      last_one_each = one_each i g.1 (λ p c. h.from i p (rw long (omega arith)) (subst (λ (x : Gathered). Contains x.1 p) (sym last_is) c))

      mapped : map finished old ≡ map finished new ++ finished g ∷ []
      mapped = ap (map finished) e ∙ map_push finished new g

      built : IsBuilt vars best marks z (length (map finished old)) (map finished old)
      built = rw (length-map old finished) h.built

      v_is : finished g ≡ value_of_variable all i
      v_is =
          ap finished (sym last_is) ∙ sym (value_finished old i (rw long (omega arith)))
          ∙ last_whole vars best marks z i (map finished old) w (rw long at h.built)

      kept : (k : ℕ) (p : Pair) → k < i → Contains (place_at new k).1 p → From k p
      kept k p b c =
          let b' : k < length new = rw l b in
          let same : place_at old k ≡ place_at new k = ap (λ t. place_at t k) e ∙ get_or_append_left new (g ∷ []) no_place k b' in
          h.from k p (rw long (omega (arith, b))) (subst (λ (x : Gathered). Contains x.1 p) (sym same) c)

      from_by : (d : Definition) → (var_at vars i).definition ≡ d → (k : ℕ) (p : Pair) → k < i → Contains (place_at (laid_by new d (finished g)) k).1 p → From k p
      from_by Start q k p b c = kept k p b c
      from_by (Child of f) q k p b c = elim (nat_cases k of) [
        | inl same ↦
            let inside : of < length new = rw (sym same, l) b in
            let here : place_at (laid_by new (Child of f) (finished g)) k ≡ with_pair (place_at new k) f (finished g) =
            rw same (get_or-set_same new of _ no_place inside) in
            elim (Contains-push_cases (place_at new k).1 (f, finished g) p (subst (λ (x : Gathered). Contains x.1 p) here c)) [
              | inl before ↦ kept k p b before
              | inr now ↦
                  let name : f ≡ p.0 = ap (λ (x : Pair). x.0) now in
                  let value : finished g ≡ p.1 = ap (λ (x : Pair). x.1) now in
                  (i, w, q ∙ (λ i'. Child (sym same i') (name i')), sym value ∙ v_is)
            ]
        | inr ne ↦
            let here : place_at (laid_by new (Child of f) (finished g)) k ≡ place_at new k = get_or-set_other new of k _ no_place ne in
            kept k p b (subst (λ (x : Gathered). Contains x.1 p) here c)
      ]
      from_by (Derived x f y) q k p b c = kept k p b c
      from_by (Ensured x) q k p b c = kept k p b c
      from_by (Made m) q k p b c = kept k p b c

      low : (p : ℕ) (f : List ℕ) → (var_at vars i).definition ≡ Child p f → p < i
      low p f q = (rw q at (order.earlier i w)).0

      -- one step: the last place is taken off, and its value laid by at its parent
      pub laid_step : AreGathered vars best marks z i (laid_by new (var_at vars i).definition (finished g))
      laid_step = record {
        built = rw (laid_moved new (var_at vars i).definition (finished g) i l low)
            (move_step vars best marks z (map finished old) (map finished new) (finished g) i mapped (length-map new finished ∙ l) w built);
        from = from_by (var_at vars i).definition refl;
      }

pub laid_length : (gs : List Gathered) (d : Definition) (v : Value) → length (laid_by gs d v) ≡ length gs
laid_length gs Start v = refl
laid_length gs (Child p f) v = length-set gs p _
laid_length gs (Derived x f y) v = refl
laid_length gs (Ensured x) v = refl
laid_length gs (Made m) v = refl

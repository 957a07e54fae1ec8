-- What a row of a table looks at is what its condition says.
use Rattle.std.proofs.Common.{◌≡◌, ◌≢◌, ℕ, inr, Bool, true, false, not, ◌&&◌, IsTrue, if◌then◌else◌, Option, Some, None, List, [], ◌∷◌, ◌++◌, refl, sym, ap, subst, ◌∙◌}
use Rattle.std.proofs.lemmas.Bool.{not-true}
use Rattle.feature_trees.specs.declared.kind.Kind.TheVariants.{Absent, Dir}
use Rattle.feature_trees.specs.declared.kind.Kinds.{Kinds}
use Rattle.feature_trees.specs.declared.value.Value.{Value}
use Rattle.feature_trees.specs.declared.value.Value.TheVariants as value
use Rattle.feature_trees.specs.Kinds.{has, of, all}
use Rattle.feature_trees.specs.Tree.{at, kind_of, is_dir, has_parents}
use Rattle.feature_trees.proofs.Laws.{and_parts, and_made}
use Rattle.utility_calls.specs.declared.sights.Sight.{Sight}
use Rattle.utility_calls.specs.Ways.{in_dir}
use Rattle.utility_calls.specs.Ways.{NoLinkOnWay}
use Rattle.utility_calls.specs.declared.sights.Where.{Where}
use Rattle.utility_calls.specs.declared.sights.Where.TheVariants.{Anything, Is, Within, Inside, Outside, Empty, Full, Into, IntoEmpty, IntoFull}
use Rattle.utility_calls.specs.Sights.{holds, sight_of, has_entry}
use Rattle.utility_calls.specs.Acts.{with_name, inner_at}
use Rattle.utility_calls.proofs.Ways.{parents}
use Rattle.utility_calls.proofs.Above.{some_in, there_parents, parents_more}
use Rattle.act_cases.specs.Looks.{Sees}
use Rattle.act_cases.specs.Plans.{EndMet}
use Rattle.act_cases.specs.Tables.{fitting, free, through, beside, ways_of, end_of_place, is_inner, names_at}
use Rattle.act_cases.proofs.Seeing.{Fits, has_all, dir_has, fit_from, fit_to, free_from, free_to, through_from, through_to, beside_from, beside_to, parents_clear, at_more}

-- whether a condition speaks of what holds the path's last name
abbrev pub needs_name : Where → Bool
needs_name Anything = false
needs_name (Is kinds) = false
needs_name Within = true
needs_name (Inside kinds) = true
needs_name Outside = true
needs_name Empty = false
needs_name Full = false
needs_name (Into kinds) = false
needs_name IntoEmpty = false
needs_name IntoFull = false

abbrev pub some_name : Option (List ℕ) → Bool
some_name None = false
some_name (Some f) = true

dir_kind : (v : Value) → IsTrue (is_dir v) → kind_of v ≡ Dir
dir_kind value.Absent h = cc
dir_kind value.Reg h = cc
dir_kind (value.Link b) h = cc
dir_kind (value.Special s) h = cc
dir_kind (value.Dir es) h = refl

kind_dir : (v : Value) → IsTrue (has (of Dir) (kind_of v)) → kind_of v ≡ Dir
kind_dir v h = dir_kind v (sym (dir_has v) ∙ h)

not_of : (b : Bool) → b ≡ false → not b ≡ true
not_of b e = ap not e

module _ (t : Value) (names : List (List ℕ)) (slash : Bool) where
  abbrev here : Value
  here = at t names

  abbrev pub Reached : Type 0
  Reached = NoLinkOnWay t names × Fits slash (kind_of here)

  abbrev pub seen : Option (List ℕ) → Sight
  seen m = sight_of (in_dir t names) here (inner_at here m)

  dir_fits : kind_of here ≡ Dir → Fits slash (kind_of here)
  dir_fits e = λ s. inr e

  dir_absent : kind_of here ≡ Dir → kind_of here ≢ Absent
  dir_absent e h = let q : Dir ≡ Absent = sym e ∙ h in cc

  in_from : (ns : List (List ℕ)) → ns ≢ [] → IsTrue (has_parents t ns) → in_dir t ns ≡ true
  in_from [] ne p = absurd (ne refl)
  in_from (f ∷ rest) ne p = parents t f rest ∙ p

  out_from : (kinds : Kinds) (ns : List (List ℕ)) → ns ≢ [] → Sees (beside kinds) t ns → NoLinkOnWay t ns × (in_dir t ns ≡ false) × IsTrue (has kinds (kind_of (at t ns)))
  out_from kinds [] ne s = absurd (ne refl)
  out_from kinds (f ∷ rest) ne s = beside_from kinds t f rest s

  out_to : (kinds : Kinds) (ns : List (List ℕ)) → ns ≢ [] → NoLinkOnWay t ns → in_dir t ns ≡ false → IsTrue (has kinds (kind_of (at t ns))) → Sees (beside kinds) t ns
  out_to kinds [] ne clear out h = absurd (ne refl)
  out_to kinds (f ∷ rest) ne clear out h = beside_to kinds t f rest clear out h

  -- ---- below the path

  record Below (kinds : Kinds) (m : Option (List ℕ)) : Type 0 where
    parents : IsTrue (has_parents t names)
    dir : kind_of here ≡ Dir
    kind : IsTrue (has kinds (kind_of (inner_at here m)))

  inner_is : (m : Option (List ℕ)) → IsTrue (some_name m) → at t (with_name names m) ≡ inner_at here m
  inner_is None h = absurd (cc)
  inner_is (Some f) h = at_more t names f

  below_from : (kinds : Kinds) (m : Option (List ℕ)) → IsTrue (some_name m) → Sees (through kinds) t (with_name names m) → Below kinds m
  below_from kinds None h s = absurd (cc)
  below_from kinds (Some f) h s =
      let parts = through_from kinds t (names ++ f ∷ []) s in
      let more = and_parts (has_parents t names) (is_dir here) (sym (parents_more t names f) ∙ parts.0) in
      record { parents = more.0; dir = dir_kind here more.1; kind = subst (λ v. IsTrue (has kinds (kind_of v))) (at_more t names f) parts.1 }

  below_to : (kinds : Kinds) (m : Option (List ℕ)) → IsTrue (some_name m) → kind_of here ≡ Dir → IsTrue (has kinds (kind_of (inner_at here m))) → Sees (through kinds) t (with_name names m)
  below_to kinds None h d k = absurd (cc)
  below_to kinds (Some f) h d k =
      let dir : is_dir here ≡ true = sym (dir_has here) ∙ ap (has (of Dir)) d in
      through_to kinds t (names ++ f ∷ [])
      (parents_more t names f ∙ and_made (has_parents t names) (is_dir here) (there_parents t names (dir_absent d)) dir)
      (subst (λ v. IsTrue (has kinds (kind_of v))) (sym (at_more t names f)) k)

  -- ---- from what is looked at

  is_from : (kinds : Kinds) (b : Bool) → Sees (if b then free (fitting slash kinds) else through (fitting slash kinds)) t names → Reached × IsTrue (has kinds (kind_of here))
  is_from kinds true s =
      let parts = free_from (fitting slash kinds) t names s in
      let fit = fit_from slash kinds (kind_of here) parts.1 in
      ((parts.0, fit.1), fit.0)
  is_from kinds false s =
      let parts = through_from (fitting slash kinds) t names s in
      let fit = fit_from slash kinds (kind_of here) parts.1 in
      ((parents_clear t names parts.0, fit.1), fit.0)

  dir_from : Sees (through (of Dir)) t names → Reached × (kind_of here ≡ Dir)
  dir_from s =
      let parts = through_from (of Dir) t names s in
      let d = kind_dir here parts.1 in
      ((parents_clear t names parts.0, dir_fits d), d)

  pub rule_from : (m : Option (List ℕ)) (place : Where) → (IsTrue (needs_name place) → names ≢ []) → (IsTrue (is_inner place) → IsTrue (some_name m))
      → Sees (ways_of slash place) t (names_at (is_inner place) names m) → EndMet (end_of_place place) (at t (names_at (is_inner place) names m))
      → Reached × (holds place (seen m) ≡ true)
  rule_from m Anything ne inner s e = let r = is_from all true s in (r.0, refl)
  rule_from m (Is kinds) ne inner s e = is_from kinds (has kinds Absent) s
  rule_from m Within ne inner s e =
      let parts = through_from (fitting slash all) t names s in
      let fit = fit_from slash all (kind_of here) parts.1 in
      ((parents_clear t names parts.0, fit.1), in_from names (ne refl) parts.0)
  rule_from m (Inside kinds) ne inner s e =
      let parts = through_from (fitting slash kinds) t names s in
      let fit = fit_from slash kinds (kind_of here) parts.1 in
      ((parents_clear t names parts.0, fit.1), and_made (in_dir t names) (has kinds (kind_of here)) (in_from names (ne refl) parts.0) fit.0)
  rule_from m Outside ne inner s e =
      let parts = out_from (fitting slash all) names (ne refl) s in
      let fit = fit_from slash all (kind_of here) parts.2 in
      ((parts.0, fit.1), not_of (in_dir t names) parts.1)
  rule_from m Empty ne inner s e =
      let r = dir_from s in
      (r.0, and_made (has (of Dir) (kind_of here)) (not (has_entry here)) (ap (has (of Dir)) r.1) (not_of (has_entry here) e))
  rule_from m Full ne inner s e =
      let r = dir_from s in
      (r.0, and_made (has (of Dir) (kind_of here)) (has_entry here) (ap (has (of Dir)) r.1) e)
  rule_from m (Into kinds) ne inner s e =
      let b = below_from kinds m (inner refl) s in
      ((parents_clear t names b.parents, dir_fits b.dir), and_made (has (of Dir) (kind_of here)) _ (ap (has (of Dir)) b.dir) b.kind)
  rule_from m IntoEmpty ne inner s e =
      let b = below_from (of Dir) m (inner refl) s in
      let none : has_entry (inner_at here m) ≡ false = ap has_entry (sym (inner_is m (inner refl))) ∙ e in (
        (parents_clear t names b.parents, dir_fits b.dir),
        and_made (has (of Dir) (kind_of here)) _ (ap (has (of Dir)) b.dir) (and_made (has (of Dir) (kind_of (inner_at here m))) _ b.kind (not_of (has_entry (inner_at here m)) none)),
      )
  rule_from m IntoFull ne inner s e =
      let b = below_from (of Dir) m (inner refl) s in
      let some : has_entry (inner_at here m) ≡ true = ap has_entry (sym (inner_is m (inner refl))) ∙ e in (
        (parents_clear t names b.parents, dir_fits b.dir),
        and_made (has (of Dir) (kind_of here)) _ (ap (has (of Dir)) b.dir) (and_made (has (of Dir) (kind_of (inner_at here m))) _ b.kind some),
      )

  -- ---- to what is looked at

  absent_by : (kinds : Kinds) → has kinds Absent ≡ false → IsTrue (has kinds (kind_of here)) → kind_of here ≢ Absent
  absent_by kinds none h e = let q : true ≡ false = sym h ∙ ap (has kinds) e ∙ none in cc

  is_to : (kinds : Kinds) (b : Bool) → has kinds Absent ≡ b → Reached → IsTrue (has kinds (kind_of here)) → Sees (if b then free (fitting slash kinds) else through (fitting slash kinds)) t names
  is_to kinds true e r h = free_to (fitting slash kinds) t names r.0 (fit_to slash kinds (kind_of here) h r.1)
  is_to kinds false e r h = through_to (fitting slash kinds) t names (there_parents t names (absent_by kinds e h)) (fit_to slash kinds (kind_of here) h r.1)

  dir_to : IsTrue (has (of Dir) (kind_of here)) → Sees (through (of Dir)) t names
  dir_to h = through_to (of Dir) t names (there_parents t names (dir_absent (kind_dir here h))) h

  pub rule_to : (m : Option (List ℕ)) (place : Where) → (IsTrue (needs_name place) → names ≢ []) → (IsTrue (is_inner place) → IsTrue (some_name m))
      → Reached → holds place (seen m) ≡ true
      → Sees (ways_of slash place) t (names_at (is_inner place) names m) × EndMet (end_of_place place) (at t (names_at (is_inner place) names m))
  rule_to m Anything ne inner r h = (free_to (fitting slash all) t names r.0 (fit_to slash all (kind_of here) (has_all (kind_of here)) r.1), tt)
  rule_to m (Is kinds) ne inner r h = (is_to kinds (has kinds Absent) refl r h, tt)
  rule_to m Within ne inner r h =
      (through_to (fitting slash all) t names (some_in t names (ne refl) h) (fit_to slash all (kind_of here) (has_all (kind_of here)) r.1), tt)
  rule_to m (Inside kinds) ne inner r h =
      let parts = and_parts (in_dir t names) (has kinds (kind_of here)) h in
      (through_to (fitting slash kinds) t names (some_in t names (ne refl) parts.0) (fit_to slash kinds (kind_of here) parts.1 r.1), tt)
  rule_to m Outside ne inner r h =
      (out_to (fitting slash all) names (ne refl) r.0 (not-true (in_dir t names) h) (fit_to slash all (kind_of here) (has_all (kind_of here)) r.1), tt)
  rule_to m Empty ne inner r h =
      let parts = and_parts (has (of Dir) (kind_of here)) (not (has_entry here)) h in
      (dir_to parts.0, not-true (has_entry here) parts.1)
  rule_to m Full ne inner r h =
      let parts = and_parts (has (of Dir) (kind_of here)) (has_entry here) h in
      (dir_to parts.0, parts.1)
  rule_to m (Into kinds) ne inner r h =
      let parts = and_parts (has (of Dir) (kind_of here)) (has kinds (kind_of (inner_at here m))) h in
      (below_to kinds m (inner refl) (kind_dir here parts.0) parts.1, tt)
  rule_to m IntoEmpty ne inner r h =
      let parts = and_parts (has (of Dir) (kind_of here)) (has (of Dir) (kind_of (inner_at here m)) && not (has_entry (inner_at here m))) h in
      let more = and_parts (has (of Dir) (kind_of (inner_at here m))) (not (has_entry (inner_at here m))) parts.1 in
      (below_to (of Dir) m (inner refl) (kind_dir here parts.0) more.0, ap has_entry (inner_is m (inner refl)) ∙ not-true (has_entry (inner_at here m)) more.1)
  rule_to m IntoFull ne inner r h =
      let parts = and_parts (has (of Dir) (kind_of here)) (has (of Dir) (kind_of (inner_at here m)) && has_entry (inner_at here m)) h in
      let more = and_parts (has (of Dir) (kind_of (inner_at here m))) (has_entry (inner_at here m)) parts.1 in
      (below_to (of Dir) m (inner refl) (kind_dir here parts.0) more.0, ap has_entry (inner_is m (inner refl)) ∙ more.1)

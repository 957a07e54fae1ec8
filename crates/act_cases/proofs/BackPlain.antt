-- Each case of a back is plain: each of its literals makes the next variable known.
use Rattle.std.proofs.Common.{◌≡◌, ◌≢◌, ℕ, suc, ◌+◌, ◌<◌, ◌↔◌, inr, List, [], ◌∷◌, ◌++◌, length, refl, subst, arith, append-nil}
use Rattle.std.specs.List.{Contains}
use Rattle.feature_trees.specs.declared.kind.Kind.TheVariants as kind
use Rattle.feature_trees.specs.declared.kind.Kinds.{Kinds}
use Rattle.feature_trees.specs.Kinds.{of}
use Rattle.feature_trees.specs.Tree.{kind_of}
use Rattle.tree_clauses.proofs.KindSets.{of_dir}
use Rattle.tree_clauses.specs.declared.clause.Literal.{Literal}
use Rattle.tree_clauses.specs.declared.clause.Literal.TheVariants.{Kind}
use Rattle.tree_clauses.specs.Literals.{Valuation, value_of_variable, MeetsAll}
use Rattle.tree_clauses.specs.Plain.{PlainOrder, numbers_below, IsPlainBack, done, absent, kinds}
use Rattle.act_cases.specs.Looks.{var, look_literals, end_of}
use Rattle.act_cases.specs.Plans.{end_literals}
use Rattle.act_cases.specs.Puts.{put_literals}
use Rattle.act_cases.specs.Tables.{through}
use Rattle.act_cases.proofs.Meets.{meets_split}
use Rattle.act_cases.proofs.Ordered.{firsts, below_contains, contains_below, not_yet, limited_within, AllLimited, AllKinds, through_limited, all_below, put_order}
use Rattle.act_cases.proofs.PlainCases.{end_order, kinds_within, put_dir}
use Rattle.act_cases.proofs.PlainMoves.{look_order, root_low, end_low}
use Rattle.act_cases.specs.declared.backs.BackPlan.{BackPlan}
use Rattle.act_cases.specs.declared.backs.Puts.{Puts}
use Rattle.act_cases.specs.declared.backs.Puts.TheVariants.{Leaves, Takes, Returns}
use Rattle.act_cases.specs.BackCases.{behind, back_changes, back_locals, back_root, back_case}

-- a plan that puts something looks through directories, at some name
pub record PutsThrough (plan : BackPlan) (q : List (List ℕ)) : Type 0 where
  pub somewhere : q ≢ []
  pub last : Kinds
  pub through_is : plan.place ≡ through last

module _ (plan : BackPlan) (p q : List (List ℕ)) where
  abbrev n : ℕ
  n = length p

  abbrev k : ℕ
  k = length q

  known_end : (b : List Literal) (m j : ℕ) → m ≡ j → PlainOrder b (firsts m) [] (firsts j)
  known_end b m j e = subst (λ j. PlainOrder b (firsts m) [] (firsts j)) e done

  -- behind the entries what is put comes
  changes_order : (c : Puts) → ((c ≢ Leaves) → PutsThrough plan q) → (m : ℕ) → m ≡ behind p q → (b : List Literal) → AllKinds b plan.place 0 (n + 2) q
      → PlainOrder b (firsts m) (back_changes c p q) (firsts (2 + back_locals c p q))
  changes_order Leaves puts m em b all = known_end b m (2 + (n + k)) (omega (arith, em))
  changes_order Takes puts m em b all =
      let w = puts (λ e. cc) in
      let last = firsts (2 + back_locals Takes p q) in
      let limited : AllLimited b 0 (n + 2) q = through_limited b w.last 0 (n + 2) q (subst (λ v. AllKinds b v 0 (n + 2) q) w.through_is all) in
      let taken = Kind (var (behind p q)) (of kind.Absent) in
      let literals = put_literals 0 (n + 2) q (behind p q) (behind p q + 1) in
      absent (var (behind p q)) (not_yet m (behind p q) (omega (arith, em)))
      (subst (λ i. PlainOrder (taken ∷ b) (i ∷ firsts m) literals last) em
      (subst (λ (l : List Literal). PlainOrder (taken ∷ b) (firsts (suc m)) l last) (append-nil literals)
      (put_order 0 (n + 2) (behind p q) (behind p q + 1) (suc m) q (taken ∷ b) [] last (omega (arith, em)) (omega (arith, em))
      (all_below (suc m) 0 (n + 2) q (omega arith) (omega (arith, em))) (limited_within b (taken ∷ b) 0 (n + 2) q (λ l h. inr h) limited)
      (λ j b' ej within. known_end b' j (2 + back_locals Takes p q) (omega (arith, ej))))))
  changes_order Returns puts m em b all =
      let w = puts (λ e. cc) in
      let last = firsts (2 + back_locals Returns p q) in
      let limited : AllLimited b 0 (n + 2) q = through_limited b w.last 0 (n + 2) q (subst (λ v. AllKinds b v 0 (n + 2) q) w.through_is all) in
      let literals = put_literals 0 (n + 2) q (end_of 1 2 p) (behind p q) in
      subst (λ (l : List Literal). PlainOrder b (firsts m) l last) (append-nil literals)
      (put_order 0 (n + 2) (end_of 1 2 p) (behind p q) m q b [] last em (let h = end_low 1 2 p (n + 2) (omega arith) (omega arith) in omega (arith, em, h))
      (all_below m 0 (n + 2) q (omega (arith, em)) (omega (arith, em))) limited
      (λ j b' ej within. known_end b' j (2 + back_locals Returns p q) (omega (arith, ej))))

  back_order : ((plan.puts ≢ Leaves) → PutsThrough plan q) → PlainOrder [] (numbers_below 2) (back_case plan p q).literals (firsts (2 + back_locals plan.puts p q))
  back_order puts =
      let last = firsts (2 + back_locals plan.puts p q) in
      let ends = end_literals plan.end (end_of 0 (n + 2) q) ++ back_changes plan.puts p q in
      let root = Kind (var 0) (of kind.Dir) in
      kinds (var 0) (of kind.Dir) (below_contains 2 0 (omega arith))
      (look_order plan.kept 1 2 2 p (root ∷ []) (look_literals plan.place 0 (n + 2) q ++ ends) last refl (omega arith)
      (λ m b em within all.
      look_order plan.place 0 (n + 2) m q b ends last (omega (arith, em)) (omega (arith, em))
      (λ m2 b2 em2 within2 all2.
      end_order plan.end (end_of 0 (n + 2) q) m2 b2 (back_changes plan.puts p q) last (end_low 0 (n + 2) q m2 (omega (arith, em2)) (omega (arith, em2)))
      (λ b3 within3. changes_order plan.puts puts m2 (omega (arith, em2)) b3 (kinds_within b2 b3 plan.place 0 (n + 2) q within3 all2)))))

  known_all : (l i : ℕ) → Contains (firsts (2 + l)) i ↔ (i < 2 + l)
  known_all l i = (λ h. contains_below (2 + l) i h, λ lt. below_contains (2 + l) i lt)

  root_within : (c : Puts) → back_root c p q < 2 + back_locals c p q
  root_within Leaves = omega arith
  root_within Takes = root_low q (behind p q) (behind p q + 1) (2 + back_locals Takes p q) (omega arith) (omega arith)
  root_within Returns =
      let h = end_low 1 2 p (n + 2) (omega arith) (omega arith) in
      root_low q (end_of 1 2 p) (behind p q) (2 + back_locals Returns p q) (omega (arith, h)) (omega arith)

  root_dir : (g : Valuation) (c : Puts) → ((c ≢ Leaves) → q ≢ []) → kind_of (value_of_variable g 0) ≡ kind.Dir → MeetsAll g (back_changes c p q)
      → kind_of (value_of_variable g (back_root c p q)) ≡ kind.Dir
  root_dir g Leaves ne d m = d
  root_dir g Takes ne d m = put_dir g 0 (n + 2) (behind p q) (behind p q + 1) q (ne (λ e. cc)) m.1
  root_dir g Returns ne d m = put_dir g 0 (n + 2) (end_of 1 2 p) (behind p q) q (ne (λ e. cc)) m

  pub back_plain : ((plan.puts ≢ Leaves) → PutsThrough plan q) → IsPlainBack (back_case plan p q)
  back_plain puts = record {
    known = firsts (2 + back_locals plan.puts p q);
    order = back_order puts;
    variables = λ i. known_all (back_locals plan.puts p q) i;
    root = root_within plan.puts;
    dir = λ g s m.
        let d = of_dir _ m.0 in
        let one = meets_split g (look_literals plan.kept 1 2 p) _ m.1 in
        let two = meets_split g (look_literals plan.place 0 (n + 2) q) _ one.1 in
        let three = meets_split g (end_literals plan.end (end_of 0 (n + 2) q)) _ two.1 in
        root_dir g plan.puts (λ e. (puts e).somewhere) d three.1;
  }

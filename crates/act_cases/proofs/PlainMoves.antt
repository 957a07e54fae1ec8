-- Each case of a move or a copy is plain.
use Rattle.std.proofs.Common.{◌≡◌, ◌≢◌, ℕ, suc, ◌+◌, ◌<◌, ◌≤◌, inl, inr, ◌↔◌, Bool, true, false, Option, Some, None, List, [], ◌∷◌, ◌++◌, length, refl, subst, arith, append-nil}
use Rattle.std.specs.List.{Contains}
use Rattle.feature_trees.specs.declared.kind.Kind.TheVariants as kind
use Rattle.feature_trees.specs.declared.kind.Kinds.{Kinds}
use Rattle.feature_trees.specs.Kinds.{of, all}
use Rattle.feature_trees.specs.Tree.{kind_of}
use Rattle.tree_clauses.specs.declared.clause.Literal.{Literal}
use Rattle.tree_clauses.specs.declared.clause.Literal.TheVariants.{Kind}
use Rattle.tree_clauses.specs.Literals.{Valuation, value_of_variable, MeetsAll}
use Rattle.utility_calls.specs.declared.acts.Act.{Act}
use Rattle.utility_calls.specs.declared.sights.Rule.{Rule}
use Rattle.utility_calls.specs.declared.sights.Where.{Where}
use Rattle.utility_calls.specs.Table.{rules}
use Rattle.utility_calls.specs.Acts.{path_of, place_of, inner_name, source, is_below, IsPerformed}
use Rattle.utility_calls.specs.ActRows.{IsAmong}
use Rattle.act_cases.specs.declared.looks.Ways.{Ways}
use Rattle.act_cases.specs.declared.moves.MovePlan.{MovePlan}
use Rattle.act_cases.specs.declared.moves.Moving.{Moving}
use Rattle.act_cases.specs.declared.moves.Moving.TheVariants as moving
use Rattle.act_cases.specs.Looks.{var, kinds_from, look_literals, end_of}
use Rattle.act_cases.specs.Puts.{put_literals, root_of}
use Rattle.act_cases.specs.Plans.{end_literals}
use Rattle.act_cases.specs.Tables.{through, ways_of, is_inner}
use Rattle.act_cases.specs.Moves.{spare, freed, onward, outward, moves_by, move_locals, move_root, move_case, source_where, is_anything, second_names, move_plan, second_plan, move_rule_case}
use Rattle.act_cases.specs.Cases.{HasSource}
use Rattle.tree_clauses.specs.Plain.{PlainOrder, done, absent, kinds, IsPlain}
use Rattle.tree_clauses.proofs.KindSets.{of_dir}
use Rattle.act_cases.proofs.Meets.{meets_split}
use Rattle.act_cases.proofs.Ordered.{firsts, below_contains, contains_below, not_yet, Within, AllLimited, limited_within, AllKinds, through_limited, way_order, all_below, put_order}
use Rattle.act_cases.proofs.PlainCases.{through_ways, end_order, kinds_within, put_dir}
use Rattle.act_cases.proofs.TwoPaths.{changes_tree}
use Rattle.act_cases.proofs.MoveTabled.{is_moved, is_placed, there_only, move_well}

-- a look from a known variable
pub look_order : (w : Ways) (x y n : ℕ) (names : List (List ℕ)) (b rest : List Literal) (after : List ℕ) → n ≡ y → x < n
    → ((m : ℕ) (b' : List Literal) → m ≡ y + length names → Within b b' → AllKinds b' w x y names → PlainOrder b' (firsts m) rest after)
    → PlainOrder b (firsts n) (look_literals w x y names ++ rest) after
look_order w x y n names b rest after e lt next =
    kinds (var x) (kinds_from w names) (below_contains n x lt)
    (way_order w x y n names (Kind (var x) (kinds_from w names) ∷ b) rest after e lt (inl refl)
    (λ m b' em within all'. next m b' em (λ l h. within l (inr h)) all'))

pub root_low : (names : List (List ℕ)) (z r m : ℕ) → z < m → r + length names ≤ m → root_of names z r < m
root_low [] z r m lt le = lt
root_low (f ∷ rest) z r m lt le = omega arith

pub end_low : (x y : ℕ) (names : List (List ℕ)) (m : ℕ) → x < m → y + length names ≤ m → end_of x y names < m
end_low x y [] m lt le = lt
end_low x y (f ∷ rest) m lt le = end_low y (y + 1) rest m (omega arith) (omega arith)

-- directories all the way
pub record IsThrough (w : Ways) : Type 0 where
  pub kinds : Kinds
  pub is : w ≡ through kinds

-- a plan that moves or copies something puts it at some name, and in directories; one that moves it takes it from
-- directories
pub record MovesInDirs (plan : MovePlan) (q : List (List ℕ)) : Type 0 where
  pub somewhere : is_placed plan.moving ≡ true → q ≢ []
  pub source : is_moved plan.moving ≡ true → IsThrough plan.source
  pub place : is_placed plan.moving ≡ true → IsThrough plan.place

module _ (plan : MovePlan) (p q : List (List ℕ)) where
  abbrev n : ℕ
  n = length p

  abbrev k : ℕ
  k = length q

  known_end : (b : List Literal) (m j : ℕ) → m ≡ j → PlainOrder b (firsts m) [] (firsts j)
  known_end b m j e = subst (λ j. PlainOrder b (firsts m) [] (firsts j)) e done

  end_in : end_of 0 (n + 1) q < n + k + 1
  end_in = end_low 0 (n + 1) q (n + k + 1) (omega arith) (omega arith)

  all_limited : (b : List Literal) (w : Ways) (x y : ℕ) (names : List (List ℕ)) → IsThrough w → AllKinds b w x y names → AllLimited b x y names
  all_limited b w x y names dirs all = through_limited b dirs.kinds x y names (subst (λ v. AllKinds b v x y names) dirs.is all)

  moved_order : (c : Moving) → (is_moved c ≡ true → IsThrough plan.source) → (is_placed c ≡ true → IsThrough plan.place) → (m : ℕ) → m ≡ n + k + 1 → (b : List Literal)
      → AllKinds b plan.source 0 1 p → AllKinds b plan.place 0 (n + 1) q → PlainOrder b (firsts m) (moves_by c p q) (firsts (move_locals c p q + 1))
  moved_order moving.Stays from to m em b first second = known_end b m (n + k + 1) em
  moved_order moving.Copies from to m em b first second =
      let last = firsts (move_locals moving.Copies p q + 1) in
      let fourth = put_literals 0 (n + 1) q n (spare p q) in
      subst (λ (l : List Literal). PlainOrder b (firsts m) l last) (append-nil fourth)
      (put_order 0 (n + 1) n (spare p q) m q b [] last em (omega (arith, em)) (all_below m 0 (n + 1) q (omega (arith, em)) (omega (arith, em)))
      (all_limited b plan.place 0 (n + 1) q (to refl) second)
      (λ m4 b4 em4 in4. known_end b4 m4 (move_locals moving.Copies p q + 1) (omega (arith, em4))))
  moved_order moving.Moves from to m em b first second =
      let last = firsts (move_locals moving.Moves p q + 1) in
      let limited : AllLimited b 0 1 p = all_limited b plan.source 0 1 p (from refl) first in
      let third = look_literals (through all) (freed p q) (onward p q) q in
      let fourth = put_literals (freed p q) (onward p q) q n (outward p q) in
      absent (var (spare p q)) (not_yet m (spare p q) (omega (arith, em)))
      (subst (λ i. PlainOrder (Kind (var (spare p q)) (of kind.Absent) ∷ b) (i ∷ firsts m) (put_literals 0 1 p (spare p q) (spare p q + 1) ++ (third ++ fourth)) last) em
      (put_order 0 1 (spare p q) (spare p q + 1) (suc m) p (Kind (var (spare p q)) (of kind.Absent) ∷ b) (third ++ fourth) last (omega (arith, em)) (omega (arith, em))
      (all_below (suc m) 0 1 p (omega arith) (omega (arith, em))) (limited_within b (Kind (var (spare p q)) (of kind.Absent) ∷ b) 0 1 p (λ l h. inr h) limited)
      (λ m2 b2 em2 in2.
      look_order (through all) (freed p q) (onward p q) m2 q b2 fourth last (omega (arith, em2)) (root_low p (spare p q) (spare p q + 1) m2 (omega (arith, em2)) (omega (arith, em2)))
      (λ m3 b3 em3 in3 kinds3.
      subst (λ (l : List Literal). PlainOrder b3 (firsts m3) l last) (append-nil fourth)
      (put_order (freed p q) (onward p q) n (outward p q) m3 q b3 [] last (omega (arith, em3)) (omega (arith, em3))
      (all_below m3 (freed p q) (onward p q) q (root_low p (spare p q) (spare p q + 1) m3 (omega (arith, em3)) (omega (arith, em3))) (omega (arith, em3)))
      (through_limited b3 all (freed p q) (onward p q) q kinds3)
      (λ m4 b4 em4 in4. known_end b4 m4 (move_locals moving.Moves p q + 1) (omega (arith, em4))))))))

  move_order : MovesInDirs plan q → PlainOrder [] (0 ∷ []) (move_case plan p q).literals (firsts (move_locals plan.moving p q + 1))
  move_order moves =
      let last = firsts (move_locals plan.moving p q + 1) in
      let ends = end_literals plan.end (end_of 0 (n + 1) q) ++ moves_by plan.moving p q in
      let root = Kind (var 0) (of kind.Dir) in
      kinds (var 0) (of kind.Dir) (0, omega arith, refl)
      (look_order plan.source 0 1 1 p (root ∷ []) (look_literals plan.place 0 (n + 1) q ++ ends) last refl (omega arith)
      (λ m b em in1 first.
      look_order plan.place 0 (n + 1) m q b ends last (omega (arith, em)) (omega (arith, em))
      (λ m2 b2 em2 in2 second.
      end_order plan.end (end_of 0 (n + 1) q) m2 b2 (moves_by plan.moving p q) last (omega (arith, em2, end_in))
      (λ b3 in3.
      moved_order plan.moving moves.source moves.place m2 (omega (arith, em2)) b3 (kinds_within b b3 plan.source 0 1 p (λ l h. in3 l (in2 l h)) first)
      (kinds_within b2 b3 plan.place 0 (n + 1) q in3 second)))))

  known_all : (l i : ℕ) → Contains (firsts (l + 1)) i ↔ (i < 1 + l)
  known_all l i = (λ h. let lt = contains_below (l + 1) i h in omega (arith, lt), λ le. below_contains (l + 1) i (omega arith))

  root_within : (c : Moving) → move_root c p q < 1 + move_locals c p q
  root_within moving.Stays = omega arith
  root_within moving.Moves = let lt = root_low q n (outward p q) (spare p q + n + k + k + 1) (omega arith) (omega arith) in omega (arith, lt)
  root_within moving.Copies = let lt = root_low q n (spare p q) (n + k + k + 1) (omega arith) (omega arith) in omega (arith, lt)

  root_dir : (g : Valuation) (c : Moving) → (is_placed c ≡ true → q ≢ []) → kind_of (value_of_variable g 0) ≡ kind.Dir → MeetsAll g (moves_by c p q)
      → kind_of (value_of_variable g (move_root c p q)) ≡ kind.Dir
  root_dir g moving.Stays ne d m = d
  root_dir g moving.Moves ne d m =
      let one = meets_split g (put_literals 0 1 p (spare p q) (spare p q + 1)) _ m.1 in
      let two = meets_split g (look_literals (through all) (freed p q) (onward p q) q) _ one.1 in
      put_dir g (freed p q) (onward p q) n (outward p q) q (ne refl) two.1
  root_dir g moving.Copies ne d m = put_dir g 0 (n + 1) n (spare p q) q (ne refl) m

  pub move_plain : MovesInDirs plan q → IsPlain (move_case plan p q)
  move_plain moves = record {
    known = firsts (move_locals plan.moving p q + 1);
    order = move_order moves;
    variables = λ i. known_all (move_locals plan.moving p q) i;
    root = root_within plan.moving;
    dir = λ g s m.
        let d = of_dir _ m.0 in
        let one = meets_split g (look_literals plan.source 0 1 p) _ m.1 in
        let two = meets_split g (look_literals plan.place 0 (n + 1) q) _ one.1 in
        let three = meets_split g (end_literals plan.end (end_of 0 (n + 1) q)) _ two.1 in
        root_dir g plan.moving moves.somewhere d three.1;
  }

pub second_plain : (slash : Bool) (source : Where) (j : ℕ) (p q : List (List ℕ)) → IsPlain (move_case (second_plan slash source j) p q)
second_plain slash source j p q =
    move_plain (second_plan slash source j) p q (record { somewhere = λ e. absurd (cc); source = λ e. absurd (cc); place = λ e. absurd (cc) })

source_through : (s : Bool) (o : Option Kinds) → there_only o ≡ true → IsThrough (ways_of s (source_where o))
source_through s None h = absurd (cc)
source_through s (Some ks) h = record { kinds = (ways_of s (source_where (Some ks))).last; is = through_ways s (source_where (Some ks)) h }

longer : (names : List (List ℕ)) (m : Option (List ℕ)) (c i : Bool) → names ≢ [] → c ≡ false → second_names c i names m ≢ []
longer names m true i ne e = absurd (cc)
longer names m false false ne e = ne
longer names None false true ne e = ne
longer [] (Some f) false true ne e = absurd (ne refl)
longer (g ∷ names) (Some f) false true ne e = λ h. absurd (cc)

pub move_rule_plain : (act : Act) → HasSource (source act) → IsPerformed act → (r : Rule) → IsAmong r (rules (is_below act) act) → IsPlain (move_rule_case act r)
move_rule_plain act two performed r among =
    let w = move_well act two r among in
    let s = (path_of act).slash in
    move_plain (move_plan s r) (path_of act).names (second_names (is_anything r.place) (is_inner r.place) (place_of act) (inner_name act))
    (record {
      somewhere = λ e. longer (place_of act) (inner_name act) (is_anything r.place) (is_inner r.place) (performed.0 (changes_tree act two)).1 (w.named e);
      source = λ e. source_through s r.source (w.source e);
      place = λ e. record { kinds = (ways_of false r.place).last; is = through_ways false r.place (w.through e) };
    })

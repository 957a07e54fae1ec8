-- Where a case of a move or a copy leads: it looks along both paths, takes away what stands at the first, where it is
-- moved, and puts it at the second.
use Rattle.std.proofs.Common.{◌≡◌, ℕ, ◌+◌, IsTrue, List, [], ◌∷◌, ◌++◌, length, refl, sym, ap, subst, ◌∙◌, arith, append_assoc, length-append}
use Rattle.feature_trees.specs.declared.value.Value.{Value}
use Rattle.feature_trees.specs.declared.value.Value.TheVariants as value
use Rattle.feature_trees.specs.declared.kind.Kind.TheVariants.{Absent}
use Rattle.feature_trees.specs.Kinds.{has, of, all}
use Rattle.feature_trees.specs.Tree.{at, kind_of, put, has_parents}
use Rattle.feature_trees.specs.Sound.{sound, IsTree}
use Rattle.feature_trees.proofs.Kept.{sound-put}
use Rattle.tree_clauses.specs.Literals.{Valuation, value_of_variable, IsSound, MeetsAll}
use Rattle.tree_clauses.proofs.KindSets.{of_absent}
use Rattle.tree_clauses.proofs.Values.{absent_kind}
use Rattle.act_cases.specs.declared.looks.Ways.{Ways}
use Rattle.act_cases.specs.declared.moves.MovePlan.{MovePlan}
use Rattle.act_cases.specs.declared.moves.Moving.{Moving}
use Rattle.act_cases.specs.declared.moves.Moving.TheVariants as moving
use Rattle.act_cases.specs.Looks.{kinds_from, Sees, look_literals, end_of}
use Rattle.act_cases.specs.Puts.{put_literals}
use Rattle.act_cases.specs.Plans.{EndMet, end_literals}
use Rattle.act_cases.specs.Tables.{through}
use Rattle.act_cases.specs.Moves.{spare, freed, onward, outward, moves_by, move_root, moved_by, move_case}
use Rattle.tree_clauses.specs.Leads.{Leads}
use Rattle.act_cases.proofs.Meets.{meets_split, meets_join, Along, Outwards, AreNames, first_seen, way_from, way_to, along_end, end_length, end_from, end_to, put_from, put_to, outwards_root}
use Rattle.act_cases.proofs.Valued.{line, rings, line_length, rings_length, value_at, along_at, outwards_at, Each, each_sound, each_join, line_sound, rings_sound}
use Rattle.act_cases.proofs.Seeing.{has_all, through_to}
use Rattle.utility_calls.proofs.ActChanges.{at_sound}

pub look_from : (w : Ways) (g : Valuation) (x y : ℕ) (v : Value) (names : List (List ℕ)) → value_of_variable g x ≡ v → MeetsAll g (look_literals w x y names)
    → Sees w v names × Along g y v names
look_from w g x y v names e m =
    way_from w g x y v names e (subst (λ (u : Value). IsTrue (has (kinds_from w names) (kind_of u))) e m.0) m.1

pub look_to : (w : Ways) (g : Valuation) (x y : ℕ) (v : Value) (names : List (List ℕ)) → value_of_variable g x ≡ v → Sees w v names → Along g y v names
    → MeetsAll g (look_literals w x y names)
look_to w g x y v names e s a =
    (subst (λ (u : Value). IsTrue (has (kinds_from w names) (kind_of u))) (sym e) (first_seen w v names s), way_to w g x y v names e s a)

module _ (p q : List (List ℕ)) (named_p : AreNames p) (named_q : AreNames q) (t : Value) where
  abbrev n : ℕ
  n = length p

  abbrev k : ℕ
  k = length q

  -- what is moved or copied, and the tree without it
  abbrev thing : Value
  thing = at t p

  abbrev without : Value
  without = put t p value.Absent

  thing_at : (g : Valuation) → value_of_variable g 0 ≡ t → Along g 1 t p → value_of_variable g n ≡ thing
  thing_at g e a = ap (value_of_variable g) (sym (end_length p)) ∙ along_end g 0 1 t p e a

  -- ---- from the literals

  root_from : (c : Moving) (g : Valuation) → IsSound g → value_of_variable g 0 ≡ t → Along g 1 t p → Along g (n + 1) t q → MeetsAll g (moves_by c p q)
      → value_of_variable g (move_root c p q) ≡ moved_by c p q t
  root_from moving.Stays g s e a b m = e
  root_from moving.Copies g s e a b m = put_from g 0 (n + 1) n (spare p q) t thing q s named_q e b (thing_at g e a) m
  root_from moving.Moves g s e a b m =
      let none : value_of_variable g (spare p q) ≡ value.Absent = absent_kind (value_of_variable g (spare p q)) (of_absent _ m.0) in
      let one = meets_split g (put_literals 0 1 p (spare p q) (spare p q + 1)) _ m.1 in
      let gone : value_of_variable g (freed p q) ≡ without = put_from g 0 1 (spare p q) (spare p q + 1) t value.Absent p s named_p e a none one.0 in
      let two = meets_split g (look_literals (through all) (freed p q) (onward p q) q) _ one.1 in
      let way = look_from (through all) g (freed p q) (onward p q) without q gone two.0 in
      put_from g (freed p q) (onward p q) n (outward p q) without thing q s named_q gone way.1 (thing_at g e a) two.1

  pub moves_from : (plan : MovePlan) (u : Value) → Leads (move_case plan p q) t u
      → Sees plan.source t p × Sees plan.place t q × EndMet plan.end (at t q) × (u ≡ moved_by plan.moving p q t)
  moves_from plan u h =
      let g = h.valuation in
      let one = meets_split g (look_literals plan.source 0 1 p) _ h.met.1 in
      let first = look_from plan.source g 0 1 t p h.starts one.0 in
      let two = meets_split g (look_literals plan.place 0 (n + 1) q) _ one.1 in
      let second = look_from plan.place g 0 (n + 1) t q h.starts two.0 in
      let three = meets_split g (end_literals plan.end (end_of 0 (n + 1) q)) _ two.1 in (
        first.0,
        second.0,
        end_from g plan.end (end_of 0 (n + 1) q) (at t q) (along_end g 0 (n + 1) t q h.starts second.1) three.0,
        sym h.ends ∙ root_from plan.moving g h.values h.starts first.1 second.1 three.1,
      )

  -- ---- to the literals

  abbrev b0 : Valuation
  b0 = t ∷ line t p

  abbrev b1 : Valuation
  b1 = line t q

  abbrev b2 : Valuation
  b2 = value.Absent ∷ []

  abbrev b3 : Valuation
  b3 = rings t p value.Absent

  abbrev b4 : Valuation
  b4 = line without q

  abbrev b5 : Valuation
  b5 = rings without q thing

  -- the values with what is copied put in them
  abbrev b6 : Valuation
  b6 = rings t q thing

  abbrev last : Moving → Valuation
  last moving.Stays = []
  last moving.Moves = b2 ++ (b3 ++ (b4 ++ (b5 ++ [])))
  last moving.Copies = b6 ++ []

  abbrev values : Moving → Valuation
  values c = b0 ++ (b1 ++ last c)

  along_p : (c : Moving) → Along (values c) 1 t p
  along_p c = along_at (t ∷ []) (b1 ++ last c) t p 1 refl

  along_q : (c : Moving) → Along (values c) (n + 1) t q
  along_q c = along_at b0 (last c) t q (n + 1) (omega (arith, line_length t p))

  length1 : length (b0 ++ b1) ≡ n + k + 1
  length1 = omega (arith, length-append b0 b1, line_length t p, line_length t q)

  same1 : (b0 ++ b1) ++ last moving.Moves ≡ values moving.Moves
  same1 = append_assoc b0 b1 (last moving.Moves)

  none_here : value_of_variable (values moving.Moves) (spare p q) ≡ value.Absent
  none_here =
      ap (λ (g : Valuation). value_of_variable g (spare p q)) (sym same1)
      ∙ value_at (b0 ++ b1) (b3 ++ (b4 ++ (b5 ++ []))) value.Absent (spare p q) (omega (arith, length1))

  length2 : length ((b0 ++ b1) ++ b2) ≡ spare p q + 1
  length2 = omega (arith, length-append (b0 ++ b1) b2, length1)

  same2 : ((b0 ++ b1) ++ b2) ++ (b3 ++ (b4 ++ (b5 ++ []))) ≡ values moving.Moves
  same2 = append_assoc (b0 ++ b1) b2 (b3 ++ (b4 ++ (b5 ++ []))) ∙ same1

  outwards_p : Outwards (values moving.Moves) (spare p q + 1) t p value.Absent
  outwards_p =
      subst (λ (g : Valuation). Outwards g (spare p q + 1) t p value.Absent) same2
      (outwards_at ((b0 ++ b1) ++ b2) (b4 ++ (b5 ++ [])) t value.Absent p (spare p q + 1) (sym length2))

  length3 : length (((b0 ++ b1) ++ b2) ++ b3) ≡ onward p q
  length3 = omega (arith, length-append ((b0 ++ b1) ++ b2) b3, length2, rings_length t value.Absent p)

  same3 : (((b0 ++ b1) ++ b2) ++ b3) ++ (b4 ++ (b5 ++ [])) ≡ values moving.Moves
  same3 = append_assoc ((b0 ++ b1) ++ b2) b3 (b4 ++ (b5 ++ [])) ∙ same2

  along_onward : Along (values moving.Moves) (onward p q) without q
  along_onward =
      subst (λ (g : Valuation). Along g (onward p q) without q) same3
      (along_at (((b0 ++ b1) ++ b2) ++ b3) (b5 ++ []) without q (onward p q) (sym length3))

  length4 : length ((((b0 ++ b1) ++ b2) ++ b3) ++ b4) ≡ outward p q
  length4 = omega (arith, length-append (((b0 ++ b1) ++ b2) ++ b3) b4, length3, line_length without q)

  same4 : ((((b0 ++ b1) ++ b2) ++ b3) ++ b4) ++ (b5 ++ []) ≡ values moving.Moves
  same4 = append_assoc (((b0 ++ b1) ++ b2) ++ b3) b4 (b5 ++ []) ∙ same3

  outwards_q : Outwards (values moving.Moves) (outward p q) without q thing
  outwards_q =
      subst (λ (g : Valuation). Outwards g (outward p q) without q thing) same4
      (outwards_at ((((b0 ++ b1) ++ b2) ++ b3) ++ b4) [] without thing q (outward p q) (sym length4))

  freed_is : value_of_variable (values moving.Moves) (freed p q) ≡ without
  freed_is = outwards_root (values moving.Moves) (spare p q) (spare p q + 1) t value.Absent p none_here outwards_p

  thing_here : (c : Moving) → value_of_variable (values c) n ≡ thing
  thing_here c = thing_at (values c) refl (along_p c)

  outwards_copied : Outwards (values moving.Copies) (spare p q) t q thing
  outwards_copied =
      subst (λ (g : Valuation). Outwards g (spare p q) t q thing) (append_assoc b0 b1 (last moving.Copies))
      (outwards_at (b0 ++ b1) [] t thing q (spare p q) (sym length1))

  without_sound : IsTrue (sound t) → IsTrue (sound without)
  without_sound s = sound-put t p value.Absent s refl named_p

  moved_met : (c : Moving) → IsTrue (sound t) → (c ≡ moving.Moves → IsTrue (has_parents without q)) → MeetsAll (values c) (moves_by c p q)
  moved_met moving.Stays s room = tt
  moved_met moving.Copies s room =
      put_to (values moving.Copies) 0 (n + 1) n (spare p q) t thing q s refl (along_q moving.Copies) (thing_here moving.Copies) outwards_copied
  moved_met moving.Moves s room =
      let g = values moving.Moves in (
        subst (λ (u : Value). IsTrue (has (of Absent) (kind_of u))) (sym none_here) refl,
        meets_join g (put_literals 0 1 p (spare p q) (spare p q + 1)) _
            (put_to g 0 1 (spare p q) (spare p q + 1) t value.Absent p s refl (along_p moving.Moves) none_here outwards_p)
            (meets_join g (look_literals (through all) (freed p q) (onward p q) q) _
            (look_to (through all) g (freed p q) (onward p q) without q freed_is (through_to all without q (room refl) (has_all _)) along_onward)
            (put_to g (freed p q) (onward p q) n (outward p q) without thing q (without_sound s) freed_is along_onward (thing_here moving.Moves) outwards_q)),
      )

  root_is : (c : Moving) → value_of_variable (values c) (move_root c p q) ≡ moved_by c p q t
  root_is moving.Stays = refl
  root_is moving.Moves = outwards_root (values moving.Moves) n (outward p q) without thing q (thing_here moving.Moves) outwards_q
  root_is moving.Copies = outwards_root (values moving.Copies) n (spare p q) t thing q (thing_here moving.Copies) outwards_copied

  last_sound : (c : Moving) → IsTrue (sound t) → Each (last c)
  last_sound moving.Stays s = tt
  last_sound moving.Copies s = each_join b6 [] (rings_sound t thing q s (at_sound p t s) named_q) tt
  last_sound moving.Moves s =
      let w = without_sound s in (
        refl,
        each_join b3 _ (rings_sound t value.Absent p s refl named_p)
            (each_join b4 _ (line_sound without q w) (each_join b5 [] (rings_sound without thing q w (at_sound p t s) named_q) tt)),
      )

  values_sound : (c : Moving) → IsTrue (sound t) → Each (values c)
  values_sound c s = (s, each_join (line t p) _ (line_sound t p s) (each_join b1 (last c) (line_sound t q s) (last_sound c s)))

  pub moves_to : (plan : MovePlan) (u : Value) → IsTree t → Sees plan.source t p → Sees plan.place t q → EndMet plan.end (at t q)
      → (plan.moving ≡ moving.Moves → IsTrue (has_parents without q)) → u ≡ moved_by plan.moving p q t → Leads (move_case plan p q) t u
  moves_to plan u tree one two end room is =
      let s = tree.sound in
      let c = plan.moving in
      let g = values c in
      record {
        valuation = g;
        values = each_sound g (values_sound c s);
        starts = refl;
        ends = root_is c ∙ sym is;
        met = (
          rw tree.dir refl,
          meets_join g (look_literals plan.source 0 1 p) _ (look_to plan.source g 0 1 t p refl one (along_p c))
              (meets_join g (look_literals plan.place 0 (n + 1) q) _ (look_to plan.place g 0 (n + 1) t q refl two (along_q c))
              (meets_join g (end_literals plan.end (end_of 0 (n + 1) q)) _ (end_to g plan.end (end_of 0 (n + 1) q) (at t q) (along_end g 0 (n + 1) t q refl (along_q c)) end)
              (moved_met c s room))),
        );
      }

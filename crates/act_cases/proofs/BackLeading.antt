-- Where a case of a back leads: it looks along names in two trees, and puts something in the one.
use Rattle.std.proofs.Common.{◌≡◌, ℕ, ◌+◌, IsTrue, List, [], ◌∷◌, ◌++◌, length, refl, sym, ap, subst, ◌∙◌, arith, append_assoc, length-append}
use Rattle.feature_trees.specs.declared.value.Value.{Value}
use Rattle.feature_trees.specs.declared.value.Value.TheVariants as value
use Rattle.feature_trees.specs.declared.kind.Kind.TheVariants.{Absent}
use Rattle.feature_trees.specs.Kinds.{has, of}
use Rattle.feature_trees.specs.Tree.{at, kind_of}
use Rattle.feature_trees.specs.Sound.{sound, IsTree}
use Rattle.tree_clauses.specs.Leads.{LeadsBack}
use Rattle.tree_clauses.specs.Literals.{Valuation, value_of_variable, IsSound, MeetsAll}
use Rattle.tree_clauses.proofs.KindSets.{of_absent}
use Rattle.tree_clauses.proofs.Values.{absent_kind}
use Rattle.utility_calls.proofs.ActChanges.{at_sound}
use Rattle.act_cases.specs.Looks.{Sees, look_literals, end_of}
use Rattle.act_cases.specs.Plans.{EndMet, end_literals}
use Rattle.act_cases.proofs.Meets.{meets_split, meets_join, Along, Outwards, AreNames, along_end, end_from, end_to, put_from, put_to, outwards_root}
use Rattle.act_cases.proofs.Valued.{line, rings, line_length, value_at, along_at, outwards_at, Each, each_sound, each_join, line_sound, rings_sound}
use Rattle.act_cases.specs.declared.backs.BackPlan.{BackPlan}
use Rattle.act_cases.specs.declared.backs.Puts.{Puts}
use Rattle.act_cases.specs.declared.backs.Puts.TheVariants.{Leaves, Takes, Returns}
use Rattle.act_cases.specs.BackCases.{behind, back_changes, back_root, back_put, back_case}
use Rattle.act_cases.proofs.Moving.{look_from, look_to}

module _ (p q : List (List ℕ)) (named : AreNames q) (t kept : Value) where
  abbrev n : ℕ
  n = length p

  -- what stood there
  abbrev held : Value
  held = at kept p

  -- ---- from the literals

  root_from : (c : Puts) (g : Valuation) → IsSound g → value_of_variable g 0 ≡ t → value_of_variable g 1 ≡ kept → Along g 2 kept p → Along g (n + 2) t q
      → MeetsAll g (back_changes c p q) → value_of_variable g (back_root c p q) ≡ back_put c q held t
  root_from Leaves g s e k a b m = e
  root_from Takes g s e k a b m =
      let none : value_of_variable g (behind p q) ≡ value.Absent = absent_kind (value_of_variable g (behind p q)) (of_absent _ m.0) in
      put_from g 0 (n + 2) (behind p q) (behind p q + 1) t value.Absent q s named e b none m.1
  root_from Returns g s e k a b m = put_from g 0 (n + 2) (end_of 1 2 p) (behind p q) t held q s named e b (along_end g 1 2 kept p k a) m

  pub backs_from : (plan : BackPlan) (u : Value) → LeadsBack (back_case plan p q) t kept u
      → Sees plan.kept kept p × Sees plan.place t q × EndMet plan.end (at t q) × (u ≡ back_put plan.puts q held t)
  backs_from plan u h =
      let g = h.valuation in
      let one = meets_split g (look_literals plan.kept 1 2 p) _ h.met.1 in
      let first = look_from plan.kept g 1 2 kept p h.kept one.0 in
      let two = meets_split g (look_literals plan.place 0 (n + 2) q) _ one.1 in
      let second = look_from plan.place g 0 (n + 2) t q h.starts two.0 in
      let three = meets_split g (end_literals plan.end (end_of 0 (n + 2) q)) _ two.1 in (
        first.0,
        second.0,
        end_from g plan.end (end_of 0 (n + 2) q) (at t q) (along_end g 0 (n + 2) t q h.starts second.1) three.0,
        sym h.ends ∙ root_from plan.puts g h.values h.starts h.kept first.1 second.1 three.1,
      )

  -- ---- to the literals

  abbrev b0 : Valuation
  b0 = t ∷ kept ∷ line kept p

  abbrev b1 : Valuation
  b1 = line t q

  abbrev last : Puts → Valuation
  last Leaves = []
  last Takes = value.Absent ∷ (rings t q value.Absent ++ [])
  last Returns = rings t q held ++ []

  abbrev values : Puts → Valuation
  values c = b0 ++ (b1 ++ last c)

  along_p : (c : Puts) → Along (values c) 2 kept p
  along_p c = along_at (t ∷ kept ∷ []) (b1 ++ last c) kept p 2 refl

  along_q : (c : Puts) → Along (values c) (n + 2) t q
  along_q c = along_at b0 (last c) t q (n + 2) (omega (arith, line_length kept p))

  length1 : length (b0 ++ b1) ≡ behind p q
  length1 = omega (arith, length-append b0 b1, line_length kept p, line_length t q)

  same1 : (c : Puts) → (b0 ++ b1) ++ last c ≡ values c
  same1 c = append_assoc b0 b1 (last c)

  none_here : value_of_variable (values Takes) (behind p q) ≡ value.Absent
  none_here =
      ap (λ (g : Valuation). value_of_variable g (behind p q)) (sym (same1 Takes))
      ∙ value_at (b0 ++ b1) (rings t q value.Absent ++ []) value.Absent (behind p q) (sym length1)

  same2 : ((b0 ++ b1) ++ value.Absent ∷ []) ++ (rings t q value.Absent ++ []) ≡ values Takes
  same2 = append_assoc (b0 ++ b1) (value.Absent ∷ []) (rings t q value.Absent ++ []) ∙ same1 Takes

  takes_outwards : Outwards (values Takes) (behind p q + 1) t q value.Absent
  takes_outwards =
      subst (λ (g : Valuation). Outwards g (behind p q + 1) t q value.Absent) same2
      (outwards_at ((b0 ++ b1) ++ value.Absent ∷ []) [] t value.Absent q (behind p q + 1) (omega (arith, length-append (b0 ++ b1) (value.Absent ∷ []), length1)))

  returns_outwards : Outwards (values Returns) (behind p q) t q held
  returns_outwards =
      subst (λ (g : Valuation). Outwards g (behind p q) t q held) (same1 Returns)
      (outwards_at (b0 ++ b1) [] t held q (behind p q) (sym length1))

  held_here : (c : Puts) → value_of_variable (values c) (end_of 1 2 p) ≡ held
  held_here c = along_end (values c) 1 2 kept p refl (along_p c)

  changes_met : (c : Puts) → IsTrue (sound t) → MeetsAll (values c) (back_changes c p q)
  changes_met Leaves s = tt
  changes_met Takes s = (
    subst (λ (u : Value). IsTrue (has (of Absent) (kind_of u))) (sym none_here) refl,
    put_to (values Takes) 0 (n + 2) (behind p q) (behind p q + 1) t value.Absent q s refl (along_q Takes) none_here takes_outwards,
  )
  changes_met Returns s = put_to (values Returns) 0 (n + 2) (end_of 1 2 p) (behind p q) t held q s refl (along_q Returns) (held_here Returns) returns_outwards

  root_is : (c : Puts) → value_of_variable (values c) (back_root c p q) ≡ back_put c q held t
  root_is Leaves = refl
  root_is Takes = outwards_root (values Takes) (behind p q) (behind p q + 1) t value.Absent q none_here takes_outwards
  root_is Returns = outwards_root (values Returns) (end_of 1 2 p) (behind p q) t held q (held_here Returns) returns_outwards

  last_sound : (c : Puts) → IsTrue (sound t) → IsTrue (sound kept) → Each (last c)
  last_sound Leaves s k = tt
  last_sound Takes s k = (refl, each_join (rings t q value.Absent) [] (rings_sound t value.Absent q s refl named) tt)
  last_sound Returns s k = each_join (rings t q held) [] (rings_sound t held q s (at_sound p kept k) named) tt

  values_sound : (c : Puts) → IsTrue (sound t) → IsTrue (sound kept) → Each (values c)
  values_sound c s k = (s, (k, each_join (line kept p) _ (line_sound kept p k) (each_join b1 (last c) (line_sound t q s) (last_sound c s k))))

  pub backs_to : (plan : BackPlan) (u : Value) → IsTree t → IsTrue (sound kept) → Sees plan.kept kept p → Sees plan.place t q → EndMet plan.end (at t q)
      → u ≡ back_put plan.puts q held t → LeadsBack (back_case plan p q) t kept u
  backs_to plan u tree sound_kept one two end is =
      let s = tree.sound in
      let c = plan.puts in
      let g = values c in
      record {
        valuation = g;
        values = each_sound g (values_sound c s sound_kept);
        starts = refl;
        kept = refl;
        ends = root_is c ∙ sym is;
        met = (
          rw tree.dir refl,
          meets_join g (look_literals plan.kept 1 2 p) _ (look_to plan.kept g 1 2 kept p refl one (along_p c))
              (meets_join g (look_literals plan.place 0 (n + 2) q) _ (look_to plan.place g 0 (n + 2) t q refl two (along_q c))
              (meets_join g (end_literals plan.end (end_of 0 (n + 2) q)) _ (end_to g plan.end (end_of 0 (n + 2) q) (at t q) (along_end g 0 (n + 2) t q refl (along_q c)) end)
              (changes_met c s))),
        );
      }

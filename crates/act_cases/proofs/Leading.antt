-- Where a case leads: it looks along names, and puts something there.
use Rattle.std.proofs.Common.{◌≡◌, ℕ, ◌+◌, Bool, true, false, IsTrue, List, [], ◌∷◌, ◌++◌, length, refl, sym, ap, subst, ◌∙◌, arith, append_assoc, length-append, if◌then◌else◌}
use Rattle.feature_trees.specs.declared.value.Value.{Value}
use Rattle.feature_trees.specs.Kinds.{has}
use Rattle.feature_trees.specs.Tree.{at, kind_of, put}
use Rattle.feature_trees.specs.Sound.{sound, IsTree}
use Rattle.feature_trees.proofs.Kept.{sound_entries}
use Rattle.tree_clauses.specs.Literals.{Valuation, value_of_variable, IsSound, MeetsAll}
use Rattle.utility_calls.specs.declared.sights.Effect.{Effect}
use Rattle.utility_calls.specs.declared.sights.Effect.TheVariants.{Nothing, MakesDir, KeepsDir, MakesFile, MakesLink, LinksInside, TakesAway, Moves, MovesInside, Copies, CopiesInside}
use Rattle.act_cases.specs.declared.plans.Plan.{Plan}
use Rattle.act_cases.specs.Looks.{kinds_from, Sees, look_literals}
use Rattle.act_cases.specs.Plans.{EndMet, end_literals, is_put, made_value, made_literals, put_by, changes, root_by, case_of}
use Rattle.tree_clauses.specs.Leads.{Leads}
use Rattle.act_cases.proofs.Meets.{meets_split, meets_join, Along, Outwards, AreNames, first_seen, way_from, way_to, along_end, end_length, end_from, end_to, made_from, made_to, put_from, put_to, outwards_root}
use Rattle.act_cases.proofs.Valued.{line, rings, line_length, value_at, along_at, outwards_at, Each, each_sound, each_join, line_sound, rings_sound}
use Rattle.utility_calls.proofs.ActChanges.{at_sound as sound_at_names}

made_sound : (e : Effect) (target : List ℕ) (v : Value) → IsTrue (sound v) → IsTrue (sound (made_value e target v))
made_sound Nothing target v s = s
made_sound MakesDir target v s = refl
made_sound KeepsDir target v s = sound_entries v s
made_sound MakesFile target v s = refl
made_sound MakesLink target v s = refl
made_sound LinksInside target v s = refl
made_sound TakesAway target v s = refl
made_sound Moves target v s = s
made_sound MovesInside target v s = s
made_sound Copies target v s = s
made_sound CopiesInside target v s = s

-- the variable of what the names lead to
at_end : (g : Valuation) (t : Value) (names : List (List ℕ)) → value_of_variable g 0 ≡ t → Along g 1 t names → value_of_variable g (length names) ≡ at t names
at_end g t names e a = ap (value_of_variable g) (sym (end_length names)) ∙ along_end g 0 1 t names e a

module _ (plan : Plan) (names : List (List ℕ)) (target : List ℕ) (named : AreNames names) (t : Value) where
  abbrev n : ℕ
  n = length names

  abbrev made : Value
  made = made_value plan.effect target (at t names)

  abbrev after : Bool → Value
  after b = if b then put t names made else t

  root_from : (b : Bool) → is_put plan.effect ≡ b → (g : Valuation) → IsSound g → value_of_variable g 0 ≡ t → Along g 1 t names
      → MeetsAll g (changes b plan.effect names target) → value_of_variable g (root_by b names) ≡ after b
  root_from false e g s start a m = start
  root_from true e g s start a m =
      let parts = meets_split g (made_literals plan.effect target n (n + 1)) _ m in
      let is : value_of_variable g (n + 1) ≡ made = made_from g plan.effect target n (n + 1) (at t names) s e (at_end g t names start a) parts.0 in
      put_from g 0 1 (n + 1) (n + 2) t made names s named start a is parts.1

  pub leads_from : (u : Value) → Leads (case_of plan names target) t u → Sees plan.ways t names × EndMet plan.end (at t names) × (u ≡ put_by plan.effect names target t)
  leads_from u h =
      let g = h.valuation in
      let one = meets_split g (look_literals plan.ways 0 1 names) _ h.met.1 in
      let two = meets_split g (end_literals plan.end n) _ one.1 in
      let way = way_from plan.ways g 0 1 t names h.starts (subst (λ (v : Value). IsTrue (has (kinds_from plan.ways names) (kind_of v))) h.starts one.0.0) one.0.1 in (
        way.0,
        end_from g plan.end n (at t names) (at_end g t names h.starts way.1) two.0,
        sym h.ends ∙ root_from (is_put plan.effect) refl g h.values h.starts way.1 two.1,
      )

  -- the values behind the entries
  abbrev last : Bool → Valuation
  last false = []
  last true = made ∷ (rings t names made ++ [])

  abbrev all_values : Bool → Valuation
  all_values b = t ∷ (line t names ++ last b)

  along_all : (b : Bool) → Along (all_values b) 1 t names
  along_all b = along_at (t ∷ []) (last b) t names 1 refl

  made_here : value_of_variable (all_values true) (n + 1) ≡ made
  made_here = value_at (t ∷ line t names) (rings t names made ++ []) made (n + 1) (omega (arith, line_length t names))

  rings_here : Outwards (all_values true) (n + 2) t names made
  rings_here =
      subst (λ g. Outwards g (n + 2) t names made) (append_assoc (t ∷ line t names) (made ∷ []) (rings t names made ++ []))
      (outwards_at ((t ∷ line t names) ++ made ∷ []) [] t made names (n + 2) (omega (arith, line_length t names, length-append (t ∷ line t names) (made ∷ []))))

  changed : (b : Bool) → IsTrue (sound t) → MeetsAll (all_values b) (changes b plan.effect names target)
  changed false s = tt
  changed true s =
      meets_join (all_values true) (made_literals plan.effect target n (n + 1)) _
      (made_to (all_values true) plan.effect target n (n + 1) (at t names) (at_end (all_values true) t names refl (along_all true)) made_here)
      (put_to (all_values true) 0 1 (n + 1) (n + 2) t made names s refl (along_all true) made_here rings_here)

  root_is : (b : Bool) → value_of_variable (all_values b) (root_by b names) ≡ after b
  root_is false = refl
  root_is true = outwards_root (all_values true) (n + 1) (n + 2) t made names made_here rings_here

  all_sound : (b : Bool) → IsTrue (sound t) → Each (all_values b)
  all_sound b s = (s, each_join (line t names) (last b) (line_sound t names s) (last_sound b))
    where
      last_sound : (b : Bool) → Each (last b)
      last_sound false = tt
      last_sound true =
          let m = made_sound plan.effect target (at t names) (sound_at_names names t s) in
          (m, each_join (rings t names made) [] (rings_sound t made names s m named) tt)

  pub leads_to : (u : Value) → IsTree t → Sees plan.ways t names → EndMet plan.end (at t names) → u ≡ put_by plan.effect names target t
      → Leads (case_of plan names target) t u
  leads_to u tree sees end is =
      let s = tree.sound in
      let b = is_put plan.effect in
      let g = all_values b in
      record {
        valuation = g;
        values = each_sound g (all_sound b s);
        starts = refl;
        ends = root_is b ∙ sym is;
        met = (
          rw tree.dir refl,
          meets_join g (look_literals plan.ways 0 1 names) _
              (first_seen plan.ways t names sees, way_to plan.ways g 0 1 t names refl sees (along_all b))
              (meets_join g (end_literals plan.end n) _ (end_to g plan.end n (at t names) (at_end g t names refl (along_all b)) end) (changed b s)),
        );
      }

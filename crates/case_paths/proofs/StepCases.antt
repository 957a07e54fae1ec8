-- The cases of an act, and those of a back, as the cases of a step from a state.
use Rattle.std.proofs.Common.{◌≡◌, zero, suc, ◌<◌, List, [], ◌∷◌, sym, ap, ◌∙◌, arith}
use Rattle.feature_trees.specs.declared.value.Value.{Value}
use Rattle.tree_clauses.specs.declared.case.Case.{Case}
use Rattle.tree_clauses.specs.declared.clause.Var.{Var}
use Rattle.tree_clauses.specs.Leads.{Leads, LeadsBack}
use Rattle.tree_clauses.specs.Literals.{Valuation, value_of_variable}
use Rattle.utility_calls.specs.declared.acts.Act.{Act}
use Rattle.utility_calls.specs.declared.backs.Back.{Back}
use Rattle.act_cases.specs.Cases.{AreCases, IsExact, AnswersAs}
use Rattle.act_cases.specs.BackCases.{AreBackCases, IsExactBack, AnswersAsBack}
use Rattle.clause_solver.specs.Adds.{AllInside, Begins, LeadsFrom}
use Rattle.case_paths.specs.declared.state.PathState.{PathState}
use Rattle.case_paths.specs.Steps.{world_of, act_step, back_step, IsStepCase, AreStepCases}
use Rattle.case_paths.proofs.Walks.{world_tree, world_sound}

-- ---- an act: its cases have the tree now as the one given variable

module _ (x : PathState) (now : Var) (is_now : now.0 ≡ x.store.current) where
  from_now : (made : Case) (g : Valuation) (u : Value) → LeadsFrom made (now ∷ []) g u → Leads made (world_of x g).tree u
  from_now made g u l = record {
    valuation = l.valuation;
    values = l.values;
    starts = l.starts 0 (omega arith) ∙ ap (λ n. value_of_variable g n) is_now;
    ends = l.ends;
    met = l.met;
  }

  to_now : (made : Case) (g : Valuation) (u : Value) → Leads made (world_of x g).tree u → LeadsFrom made (now ∷ []) g u
  to_now made g u l = record { valuation = l.valuation; values = l.values; starts = begins; ends = l.ends; met = l.met }
    where
      begins : Begins (now ∷ []) g l.valuation
      begins zero lt = l.starts ∙ ap (λ n. value_of_variable g n) (sym is_now)
      begins (suc i) lt = absurd (omega (arith, lt))

  act_case : (act : Act) (made : Case) → IsExact act made → AnswersAs act made → IsStepCase x (now ∷ []) (act_step act) made
  act_case act made exact answers = record {
    exact = λ t g u h. (
      λ l. (exact (world_of x g).tree u (world_tree x t g h)).0 (from_now made g u l),
      λ taken. to_now made g u ((exact (world_of x g).tree u (world_tree x t g h)).1 taken),
    );
    answers = λ t g h taken. answers (world_of x g).tree (world_tree x t g h) taken;
  }

  now_inside : now.0 < x.store.count → AllInside (now ∷ []) x.store.count
  now_inside known zero lt = known
  now_inside known (suc i) lt = absurd (omega (arith, lt))

  pub act_cases_are : (act : Act) (cases : List Case) → now.0 < x.store.count → AreCases act cases → AreStepCases x (now ∷ []) (act_step act) cases
  act_cases_are act cases known are = record {
    inside = now_inside known;
    rising = are.rising;
    exact = λ k o lt. act_case act _ (are.exact k o lt) (are.answers k o lt);
    every = λ t g h. are.every (world_of x g).tree (world_tree x t g h);
  }

-- ---- a back: the kept tree is given too

module _ (x : PathState) (now : Var) (is_now : now.0 ≡ x.store.current) where
  from_both : (made : Case) (g : Valuation) (u : Value) → LeadsFrom made (now ∷ x.kept ∷ []) g u → LeadsBack made (world_of x g).tree (world_of x g).kept u
  from_both made g u l = record {
    valuation = l.valuation;
    values = l.values;
    starts = l.starts 0 (omega arith) ∙ ap (λ n. value_of_variable g n) is_now;
    kept = l.starts 1 (omega arith);
    ends = l.ends;
    met = l.met;
  }

  to_both : (made : Case) (g : Valuation) (u : Value) → LeadsBack made (world_of x g).tree (world_of x g).kept u → LeadsFrom made (now ∷ x.kept ∷ []) g u
  to_both made g u l = record { valuation = l.valuation; values = l.values; starts = begins; ends = l.ends; met = l.met }
    where
      begins : Begins (now ∷ x.kept ∷ []) g l.valuation
      begins zero lt = l.starts ∙ ap (λ n. value_of_variable g n) (sym is_now)
      begins (suc zero) lt = l.kept
      begins (suc (suc i)) lt = absurd (omega (arith, lt))

  back_case : (back : Back) (made : Case) → IsExactBack back made → AnswersAsBack back made → IsStepCase x (now ∷ x.kept ∷ []) (back_step back) made
  back_case back made exact answers = record {
    exact = λ t g u h. (
      λ l. (exact (world_of x g).tree (world_of x g).kept u (world_tree x t g h) (world_sound x t g h)).0 (from_both made g u l),
      λ taken. to_both made g u ((exact (world_of x g).tree (world_of x g).kept u (world_tree x t g h) (world_sound x t g h)).1 taken),
    );
    answers = λ t g h taken. answers (world_of x g).tree (world_of x g).kept (world_tree x t g h) taken;
  }

  both_inside : now.0 < x.store.count → x.kept.0 < x.store.count → AllInside (now ∷ x.kept ∷ []) x.store.count
  both_inside known kept zero lt = known
  both_inside known kept (suc zero) lt = kept
  both_inside known kept (suc (suc i)) lt = absurd (omega (arith, lt))

  pub back_cases_are : (back : Back) (cases : List Case) → now.0 < x.store.count → x.kept.0 < x.store.count → AreBackCases back cases → AreStepCases x (now ∷ x.kept ∷ []) (back_step back) cases
  back_cases_are back cases known kept are = record {
    inside = both_inside known kept;
    rising = are.rising;
    exact = λ k o lt. back_case back _ (are.exact k o lt) (are.answers k o lt);
    every = λ t g h. are.every (world_of x g).tree (world_of x g).kept (world_tree x t g h);
  }

-- The text on trees follows from the report and the trees.
use Rattle.std.proofs.Common.{◌≡◌, ◌⊎◌, ℕ, zero, suc, ◌+◌, ◌<◌, ◌≤◌, List, [], ◌∷◌, ◌++◌, length, Option, Some, None, inl, inr, refl, sym, ap, subst, ◌∙◌, arith, get_or}
use Rattle.std.specs.Prelude.{All, codes, slice_index_or}
use Rattle.std.specs.List.{AllZip, HoldsAt, AllWithin}
use Rattle.shown_texts.specs.Lines.{line}
use Rattle.feature_trees.specs.declared.value.Value.{Value}
use Rattle.tree_clauses.specs.declared.clause.Clause.{Clause}
use Rattle.tree_clauses.specs.Literals.{CoversTree}
use Rattle.tree_predictions.specs.declared.named_tree.NamedTree.{NamedTree}
use Rattle.tree_predictions.specs.Picks.{IsFirst, IsPick, ArePicks}
use Rattle.outcome_report.specs.declared.outcome_report.Report.{Report}
use Rattle.outcome_report.specs.declared.outcome_report.ReportPart.{ReportPart}
use Rattle.prediction_text.specs.PredictionText.{clauses_of, trees_of, tree_lines, scenario_heading, TellsPart, TellsParts, IsPrediction}

-- one of two numbers is less, or they are the same
three_ways : (m n : ℕ) → (m < n) ⊎ ((n < m) ⊎ (m ≡ n))
three_ways zero zero = inr (inr refl)
three_ways zero (suc n) = inl (omega arith)
three_ways (suc m) zero = inr (inl (omega arith))
three_ways (suc m) (suc n) = elim (three_ways m n) [
  | inl lt ↦ inl (omega (arith, lt))
  | inr more ↦ elim more [ inl gt ↦ inr (inl (omega (arith, gt))) | inr same ↦ inr (inr (ap suc same)) ]
]

-- what would stand where no clause stands
some_clause : Clause
some_clause = record { literals = []; start = record { 0 = 0 }; now = record { 0 = 0 } }

module _ (clauses : List Clause) (tree : Value) where
  abbrev Covers : Clause → Type 0
  Covers clause = CoversTree clause tree

  -- the first clause is not behind another that covers the tree
  not_before : (m n : ℕ) (a : IsFirst Covers clauses m) (b : IsFirst Covers clauses n) → a.place < b.place → ⊥
  not_before m n a b lt = b.first a.place some_clause (omega arith) lt (a.holds some_clause)

  same_first : (m n : ℕ) → IsFirst Covers clauses m → IsFirst Covers clauses n → m ≡ n
  same_first m n a b = elim (three_ways a.place b.place) [
    | inl lt ↦ absurd (not_before m n a b lt)
    | inr more ↦ elim more [
      | inl lt ↦ absurd (not_before n m b a lt)
      | inr same ↦ let one = a.counted in let other = b.counted in omega (arith, one, other, same)
    ]
  ]

  one_pick : (one other : Option ℕ) → IsPick clauses tree one → IsPick clauses tree other → one ≡ other
  one_pick None None a b = refl
  one_pick None (Some n) a b = absurd (a b.place some_clause b.within (b.holds some_clause))
  one_pick (Some m) None a b = absurd (b a.place some_clause a.within (a.holds some_clause))
  one_pick (Some m) (Some n) a b = ap Some (same_first m n a b)

one_list : (clauses : List Clause) (trees : List Value) (one other : List (Option ℕ)) → ArePicks clauses trees one
    → ArePicks clauses trees other → one ≡ other
one_list clauses [] [] [] a b = refl
one_list clauses [] [] (pick ∷ other) a b = absurd b
one_list clauses [] (pick ∷ one) other a b = absurd a
one_list clauses (tree ∷ trees) [] other a b = absurd a
one_list clauses (tree ∷ trees) (pick ∷ one) [] a b = absurd b
one_list clauses (tree ∷ trees) (pick ∷ one) (peer ∷ other) a b =
    let first = one_pick clauses tree pick peer a.0 b.0 in
    let rest = one_list clauses trees one other a.1 b.1 in
    λ i. first i ∷ rest i

one_part : (trees : List NamedTree) (part : ReportPart) (one other : List ℕ) → TellsPart trees part one → TellsPart trees part other
    → one ≡ other
one_part trees part one other a b =
    let same = one_list (clauses_of part) (trees_of trees) a.picks b.picks a.are b.are in
    a.lines ∙ ap (λ picks. scenario_heading part.scenario ++ tree_lines part.entries trees picks) same ∙ sym b.lines

one_parts : (trees : List NamedTree) (parts : List ReportPart) (one other : List ℕ) → TellsParts trees parts one
    → TellsParts trees parts other → one ≡ other
one_parts trees [] one other a b = a ∙ sym b
one_parts trees (part ∷ parts) one other a b =
    let first = one_part trees part a.0 b.0 a.2 b.2 in
    let rest = one_parts trees parts a.1 b.1 a.3 b.3 in
    a.4 ∙ (λ i. first i ++ rest i) ∙ sym b.4

pub one_prediction_text : (report : Report) (trees : List NamedTree) (one other : List ℕ) → IsPrediction report trees one
    → IsPrediction report trees other → one ≡ other
one_prediction_text report trees one other a b =
    a.whole ∙ ap (λ rest. line (codes "colis predict 1") ++ rest) (one_parts trees report.parts a.lines b.lines a.parts b.parts) ∙ sym b.whole

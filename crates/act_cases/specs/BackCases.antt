-- The cases of a back: one for each of its rows, and what holds of them. Variable 0 is the tree before and variable 1 the
-- kept tree; the entries along names in the kept tree follow, then those along names in the tree, then what is put.
use Rattle.std.specs.Prelude.{◌≡◌, ℕ, zero, suc, ◌+◌, ◌-◌, ◌↔◌, IsTrue, false, All, Contains}
use Rattle.std.specs.Prelude.{List, [], ◌∷◌, ◌++◌, length, map, take, Option, Some, None}
use Rattle.feature_trees.specs.declared.value.Value.{Value}
use Rattle.feature_trees.specs.declared.value.Value.TheVariants as value
use Rattle.feature_trees.specs.declared.kind.Kind.TheVariants.{Absent, Link, Dir}
use Rattle.feature_trees.specs.declared.kind.Kinds.{Kinds}
use Rattle.feature_trees.specs.Kinds.{of, all}
use Rattle.feature_trees.specs.Sound.{sound, IsTree}
use Rattle.feature_trees.specs.Tree.{put}
use Rattle.tree_clauses.specs.declared.case.Case.{Case}
use Rattle.tree_clauses.specs.declared.clause.Literal.{Literal}
use Rattle.tree_clauses.specs.declared.clause.Literal.TheVariants.{Kind}
use Rattle.tree_clauses.specs.Leads.{LeadsBack}
use Rattle.tree_clauses.specs.Plain.{IsPlainBack}
use Rattle.utility_calls.specs.declared.backs.Back.{Back}
use Rattle.utility_calls.specs.declared.sights.Effect.{Effect}
use Rattle.utility_calls.specs.declared.sights.Effect.TheVariants.{Nothing, MakesDir, KeepsDir, MakesFile, MakesLink}
use Rattle.utility_calls.specs.declared.sights.Effect.TheVariants.{LinksInside, TakesAway, Moves, MovesInside, Copies}
use Rattle.utility_calls.specs.declared.sights.Effect.TheVariants.{CopiesInside}
use Rattle.utility_calls.specs.declared.sights.Row.{Row}
use Rattle.utility_calls.specs.declared.sights.Rule.{Rule}
use Rattle.utility_calls.specs.Acts.{link_row}
use Rattle.utility_calls.specs.Table.{row_of}
use Rattle.utility_calls.specs.Backs.{names_of, back_rules, back_row, back_after}
use Rattle.act_cases.specs.declared.backs.BackPlan.{BackPlan}
use Rattle.act_cases.specs.declared.backs.Puts.{Puts}
use Rattle.act_cases.specs.declared.backs.Puts.TheVariants.{Leaves, Takes, Returns}
use Rattle.act_cases.specs.declared.looks.Ways.{Ways}
use Rattle.act_cases.specs.declared.plans.End.TheVariants as end
use Rattle.act_cases.specs.Cases.{link_rows, case_answer, row_answer, case_row, Rising}
use Rattle.act_cases.specs.Looks.{var, look_literals, end_of}
use Rattle.act_cases.specs.Plans.{end_literals}
use Rattle.act_cases.specs.Puts.{put_literals, root_of}
use Rattle.act_cases.specs.Tables.{through, ways_of, end_of_place}

-- ---- what holds of them

-- the rows of a back, as their numbers rise
abbrev pub back_rows : Back → List Row
back_rows b = link_rows 1 (length (names_of b) - 1) ++ map row_of (back_rules b)

-- the case leads from each tree and kept tree exactly where its row is the back's row there, and to the tree that the
-- back leaves
abbrev pub IsExactBack : Back → Case → Type 0
IsExactBack b made =
    (t kept u : Value) → IsTree t → IsTrue (sound kept)
    → LeadsBack made t kept u ↔ (((back_row b kept t).number ≡ made.row) × (u ≡ back_after b kept t))

-- its answer is the row's
abbrev pub AnswersAsBack : Back → Case → Type 0
AnswersAsBack b made =
    (t kept : Value) → IsTree t → (back_row b kept t).number ≡ made.row → made.done ≡ (back_row b kept t).answer

-- the cases of a back: one plain case for each row, with its answer, by rising row
pub record AreBackCases (b : Back) (cases : List Case) : Type 0 where
  pub rows : map case_answer cases ≡ map row_answer (back_rows b)
  pub rising : Rising (map case_row cases)
  pub plain : All IsPlainBack cases
  pub exact : All (IsExactBack b) cases
  pub answers : All (AnswersAsBack b) cases
  -- on each tree, with each kept tree, there is one
  pub every : (t kept : Value) → IsTree t → (made : Case) × Contains cases made × (made.row ≡ (back_row b kept t).number)

-- ---- a case as it is made: it looks along names p in the kept tree, and along names q in the tree

-- what the effect of a row puts
abbrev pub puts_of : Effect → Puts
puts_of Nothing = Leaves
puts_of MakesDir = Leaves
puts_of KeepsDir = Leaves
puts_of MakesFile = Leaves
puts_of MakesLink = Leaves
puts_of LinksInside = Leaves
puts_of TakesAway = Takes
puts_of Moves = Returns
puts_of MovesInside = Leaves
puts_of Copies = Leaves
puts_of CopiesInside = Leaves

-- the first variable behind those of the entries
abbrev pub behind : List (List ℕ) → List (List ℕ) → ℕ
behind p q = length p + length q + 2

-- the literals of what is put
abbrev pub back_changes : Puts → List (List ℕ) → List (List ℕ) → List Literal
back_changes Leaves p q = []
back_changes Takes p q =
    Kind (var (behind p q)) (of Absent) ∷ put_literals 0 (length p + 2) q (behind p q) (behind p q + 1)
back_changes Returns p q = put_literals 0 (length p + 2) q (end_of 1 2 p) (behind p q)

-- how many variables there are beside the given two
abbrev pub back_locals : Puts → List (List ℕ) → List (List ℕ) → ℕ
back_locals Leaves p q = length p + length q
back_locals Takes p q = length p + length q + 1 + length q
back_locals Returns p q = length p + length q + length q

-- the variable of the tree afterwards
abbrev pub back_root : Puts → List (List ℕ) → List (List ℕ) → ℕ
back_root Leaves p q = 0
back_root Takes p q = root_of q (behind p q) (behind p q + 1)
back_root Returns p q = root_of q (end_of 1 2 p) (behind p q)

-- the tree with what is put at the names, where `held` is what stood in the kept tree
abbrev pub back_put : Puts → List (List ℕ) → Value → Value → Value
back_put Leaves q held t = t
back_put Takes q held t = put t q value.Absent
back_put Returns q held t = put t q held

-- the case of a row
abbrev pub back_case : BackPlan → List (List ℕ) → List (List ℕ) → Case
back_case plan p q = record {
  row = plan.number;
  locals = back_locals plan.puts p q;
  literals = Kind (var 0) (of Dir)
      ∷ (look_literals plan.kept 1 2 p
      ++ (look_literals plan.place 0 (length p + 2) q
      ++ (end_literals plan.end (end_of 0 (length p + 2) q) ++ back_changes plan.puts p q)));
  done = plan.answer;
  root = var (back_root plan.puts p q);
}

-- ---- the rows

-- whatever the values on the way are
abbrev pub any_way : Kinds → Ways
any_way kinds = record { strict = all; parent = all; last = kinds }

-- the kinds that a row asks for in the kept tree
abbrev pub asked : Option Kinds → Kinds
asked None = all
asked (Some kinds) = kinds

-- the names that it looks along there: none where it asks for nothing
abbrev pub kept_names : Option Kinds → List (List ℕ) → List (List ℕ)
kept_names None names = []
kept_names (Some kinds) names = names

-- the row of a link at the first so many names
abbrev pub link_back_plan : ℕ → BackPlan
link_back_plan n = record {
  number = (link_row n).number;
  answer = (link_row n).answer;
  kept = any_way all;
  place = through (of Link);
  end = end.Any;
  puts = Leaves;
}

-- a row of the table
abbrev pub back_plan : Rule → BackPlan
back_plan r = record {
  number = r.number;
  answer = r.answer;
  kept = any_way (asked r.source);
  place = ways_of false r.place;
  end = end_of_place r.place;
  puts = puts_of r.effect;
}

-- the case of a row of the table
abbrev pub rule_back : List (List ℕ) → Rule → Case
rule_back names r = back_case (back_plan r) (kept_names r.source names) names

-- the cases of links on the way: so many, from the one at the first n names on
abbrev pub link_backs : List (List ℕ) → ℕ → ℕ → List Case
link_backs names n zero = []
link_backs names n (suc more) = back_case (link_back_plan n) [] (take n names) ∷ link_backs names (n + 1) more

-- the cases of a back
abbrev pub back_cases_of : Back → List Case
back_cases_of b = link_backs (names_of b) 1 (length (names_of b) - 1) ++ map (rule_back (names_of b)) (back_rules b)

-- The cases of an act: one for each of its rows, and what holds of them.
use Rattle.std.specs.Prelude.{◌≡◌, ℕ, zero, suc, ◌+◌, ◌-◌, ◌<◌, ◌↔◌, Bool, true, false, All, Contains}
use Rattle.std.specs.Prelude.{List, [], ◌∷◌, ◌++◌, length, map, take, Option, Some, None}
use Rattle.script_names.specs.declared.reason.Done.{Done}
use Rattle.script_names.specs.Paths.{PathParts}
use Rattle.feature_trees.specs.declared.value.Value.{Value}
use Rattle.feature_trees.specs.Sound.{IsTree}
use Rattle.utility_calls.specs.declared.acts.Act.{Act}
use Rattle.utility_calls.specs.declared.sights.Row.{Row}
use Rattle.utility_calls.specs.declared.sights.Rule.{Rule}
use Rattle.utility_calls.specs.Table.{rules, row_of}
use Rattle.utility_calls.specs.Acts.{path_of, place_of, inner_name, target_of, source, is_below, link_row, slash_row}
use Rattle.utility_calls.specs.Acts.{row, tree_after}
use Rattle.tree_clauses.specs.declared.case.Case.{Case}
use Rattle.act_cases.specs.Plans.{case_of}
use Rattle.tree_clauses.specs.Leads.{Leads}
use Rattle.tree_clauses.specs.Plain.{IsPlain}
use Rattle.act_cases.specs.Tables.{link_plan, slash_plan, plan_of, names_at, is_inner}

-- the act looks along one path alone, and below it: every act but a move and a copy
abbrev pub IsOnOnePath : Act → Type 0
IsOnOnePath act = source act ≡ None

-- the act is a move or a copy
abbrev pub HasSource : Option PathParts → Type 0
HasSource None = ⊥
HasSource (Some a) = Unit {0}

-- the rows of links on the way: so many, from the one at the first n names on
abbrev pub link_rows : ℕ → ℕ → List Row
link_rows n zero = []
link_rows n (suc more) = link_row n ∷ link_rows (n + 1) more

-- the row of a slash, for a path that ends in one
abbrev pub slash_rows : Bool → List Row
slash_rows false = []
slash_rows true = slash_row ∷ []

-- the rows of links on the way of the second path, which a move and a copy have
abbrev pub second_rows : Option PathParts → List (List ℕ) → List Row
second_rows None names = []
second_rows (Some a) names = link_rows 129 (length names - 1)

-- the rows of an act, as their numbers rise
abbrev pub rows_of : Act → List Row
rows_of act =
    link_rows 1 (length (path_of act).names - 1)
    ++ (slash_rows (path_of act).slash
    ++ (map row_of (rules (is_below act) act) ++ second_rows (source act) (place_of act)))

-- the case leads from each tree exactly where its row is the act's row there, and to the tree that the act leaves
abbrev pub IsExact : Act → Case → Type 0
IsExact act made =
    (t u : Value) → IsTree t → Leads made t u ↔ (((row act t).number ≡ made.row) × (u ≡ tree_after act t))

-- its answer is the row's
abbrev pub AnswersAs : Act → Case → Type 0
AnswersAs act made = (t : Value) → IsTree t → (row act t).number ≡ made.row → made.done ≡ (row act t).answer

-- the number and the answer of a case
abbrev pub case_answer : Case → ℕ × Done
case_answer made = (made.row, made.done)

-- the number and the answer of a row
abbrev pub row_answer : Row → ℕ × Done
row_answer r = (r.number, r.answer)

-- the number of a case's row
abbrev pub case_row : Case → ℕ
case_row made = made.row

-- numbers that rise
abbrev pub Rising : List ℕ → Type 0
Rising [] = Unit {0}
Rising (n ∷ []) = Unit {0}
Rising (n ∷ m ∷ rest) = (n < m) × Rising (m ∷ rest)

-- the cases of an act: one plain case for each row, with its answer, by rising row
pub record AreCases (act : Act) (cases : List Case) : Type 0 where
  pub rows : map case_answer cases ≡ map row_answer (rows_of act)
  pub rising : Rising (map case_row cases)
  pub plain : All IsPlain cases
  pub exact : All (IsExact act) cases
  pub answers : All (AnswersAs act) cases
  -- on each tree there is one
  pub every : (t : Value) → IsTree t → (made : Case) × Contains cases made × (made.row ≡ (row act t).number)

-- ---- the cases as they are made

-- the cases of links on the way: so many, from the one at the first n names on
abbrev pub link_cases : List (List ℕ) → ℕ → ℕ → List Case
link_cases names n zero = []
link_cases names n (suc more) = case_of (link_plan n) (take n names) [] ∷ link_cases names (n + 1) more

-- that of a slash
abbrev pub slash_cases : Bool → List (List ℕ) → List Case
slash_cases false names = []
slash_cases true names = case_of slash_plan names [] ∷ []

-- that of a row of the act's table
abbrev pub rule_case : Act → Rule → Case
rule_case act r =
    case_of (plan_of (path_of act).slash r) (names_at (is_inner r.place) (path_of act).names (inner_name act))
    (target_of act)

-- the cases of an act on one path
abbrev pub cases_of : Act → List Case
cases_of act =
    link_cases (path_of act).names 1 (length (path_of act).names - 1)
    ++ (slash_cases (path_of act).slash (path_of act).names ++ map (rule_case act) (rules false act))

-- The case of a row that looks along names and puts something there.
use Rattle.std.specs.Prelude.{◌≡◌, ℕ, ◌+◌, Bool, true, false, List, [], ◌∷◌, ◌++◌, length, if◌then◌else◌}
use Rattle.feature_trees.specs.declared.value.Value.{Value}
use Rattle.feature_trees.specs.declared.value.Value.TheVariants as value
use Rattle.feature_trees.specs.declared.kind.Kind.TheVariants as kind
use Rattle.feature_trees.specs.Kinds.{of}
use Rattle.feature_trees.specs.Tree.{at, entries_of, put}
use Rattle.tree_clauses.specs.declared.clause.Literal.{Literal}
use Rattle.tree_clauses.specs.declared.clause.Literal.TheVariants.{Kind, Fence, NotEmpty, Similar, Target}
use Rattle.utility_calls.specs.declared.sights.Effect.{Effect}
use Rattle.utility_calls.specs.declared.sights.Effect.TheVariants.{Nothing, MakesDir, KeepsDir, MakesFile, MakesLink}
use Rattle.utility_calls.specs.declared.sights.Effect.TheVariants.{LinksInside, TakesAway, Moves, MovesInside, Copies}
use Rattle.utility_calls.specs.declared.sights.Effect.TheVariants.{CopiesInside}
use Rattle.utility_calls.specs.Sights.{has_entry}
use Rattle.tree_clauses.specs.declared.case.Case.{Case}
use Rattle.act_cases.specs.declared.plans.Plan.{Plan}
use Rattle.act_cases.specs.declared.plans.End.{End}
use Rattle.act_cases.specs.declared.plans.End.TheVariants.{Any, Empty, Full}
use Rattle.act_cases.specs.Looks.{var, look_literals}
use Rattle.act_cases.specs.Puts.{put_literals, root_of}

-- what is asked of the entries of a value
abbrev pub EndMet : End → Value → Type 0
EndMet Any v = Unit {0}
EndMet Empty v = has_entry v ≡ false
EndMet Full v = has_entry v ≡ true

-- the literals that ask it
abbrev pub end_literals : End → ℕ → List Literal
end_literals Any x = []
end_literals Empty x = Fence (var x) [] ∷ []
end_literals Full x = NotEmpty (var x) ∷ []

-- whether the effect puts something at the names
abbrev pub is_put : Effect → Bool
is_put Nothing = false
is_put MakesDir = true
is_put KeepsDir = true
is_put MakesFile = true
is_put MakesLink = true
is_put LinksInside = true
is_put TakesAway = true
is_put Moves = false
is_put MovesInside = false
is_put Copies = false
is_put CopiesInside = false

-- what it puts where this value stands; links lead to the target
abbrev pub made_value : Effect → List ℕ → Value → Value
made_value Nothing target v = v
made_value MakesDir target v = value.Dir []
made_value KeepsDir target v = value.Dir (entries_of v)
made_value MakesFile target v = value.Reg
made_value MakesLink target v = value.Link target
made_value LinksInside target v = value.Link target
made_value TakesAway target v = value.Absent
made_value Moves target v = v
made_value MovesInside target v = v
made_value Copies target v = v
made_value CopiesInside target v = v

-- its literals: z is the variable of what is put, and x that of what stood there
abbrev pub made_literals : Effect → List ℕ → ℕ → ℕ → List Literal
made_literals Nothing target x z = []
made_literals MakesDir target x z = Kind (var z) (of kind.Dir) ∷ Fence (var z) [] ∷ []
made_literals KeepsDir target x z = Similar (var z) [] (var x) ∷ []
made_literals MakesFile target x z = Kind (var z) (of kind.Reg) ∷ []
made_literals MakesLink target x z = Target (var z) target ∷ []
made_literals LinksInside target x z = Target (var z) target ∷ []
made_literals TakesAway target x z = Kind (var z) (of kind.Absent) ∷ []
made_literals Moves target x z = []
made_literals MovesInside target x z = []
made_literals Copies target x z = []
made_literals CopiesInside target x z = []

-- the tree with what the effect puts at the names
abbrev pub put_by : Effect → List (List ℕ) → List ℕ → Value → Value
put_by e names target t = if is_put e then put t names (made_value e target (at t names)) else t

-- The variables of a case: 0 is the tree, the entries along the names follow, then what is put, then the values with
-- it put in them, of which the last is the tree afterwards.
abbrev pub change_literals : Effect → List (List ℕ) → List ℕ → List Literal
change_literals e names target =
    made_literals e target (length names) (length names + 1)
    ++ put_literals 0 1 names (length names + 1) (length names + 2)

-- the literals of the change, where there is one
abbrev pub changes : Bool → Effect → List (List ℕ) → List ℕ → List Literal
changes false e names target = []
changes true e names target = change_literals e names target

-- how many variables there are beside that of the tree
abbrev pub locals_by : Bool → List (List ℕ) → ℕ
locals_by false names = length names
locals_by true names = length names + 1 + length names

-- the variable of the tree afterwards
abbrev pub root_by : Bool → List (List ℕ) → ℕ
root_by false names = 0
root_by true names = root_of names (length names + 1) (length names + 2)

-- the case of a row; a tree is a directory
abbrev pub case_of : Plan → List (List ℕ) → List ℕ → Case
case_of plan names target = record {
  row = plan.number;
  locals = locals_by (is_put plan.effect) names;
  literals = Kind (var 0) (of kind.Dir)
      ∷ (look_literals plan.ways 0 1 names
      ++ (end_literals plan.end (length names) ++ changes (is_put plan.effect) plan.effect names target));
  done = plan.answer;
  root = var (root_by (is_put plan.effect) names);
}

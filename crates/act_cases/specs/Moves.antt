-- The cases of a move and of a copy, which look along two paths: that of what is moved or copied, and that of its place.
use Rattle.std.specs.Prelude.{ℕ, zero, suc, ◌+◌, ◌-◌, Bool, true, false, List, [], ◌∷◌, ◌++◌, length, map, take}
use Rattle.std.specs.Prelude.{Option, Some, None}
use Rattle.feature_trees.specs.declared.value.Value.{Value}
use Rattle.feature_trees.specs.declared.value.Value.TheVariants as value
use Rattle.feature_trees.specs.declared.kind.Kind.TheVariants.{Absent, Reg, Link, Dir}
use Rattle.feature_trees.specs.declared.kind.Kinds.{Kinds}
use Rattle.feature_trees.specs.Kinds.{of, all, but, two}
use Rattle.feature_trees.specs.Tree.{at, put}
use Rattle.tree_clauses.specs.declared.clause.Literal.{Literal}
use Rattle.tree_clauses.specs.declared.clause.Literal.TheVariants.{Kind}
use Rattle.utility_calls.specs.declared.acts.Act.{Act}
use Rattle.utility_calls.specs.declared.acts.Act.TheVariants.{Copy}
use Rattle.utility_calls.specs.declared.sights.Effect.{Effect}
use Rattle.utility_calls.specs.declared.sights.Effect.TheVariants.{Nothing, MakesDir, KeepsDir, MakesFile, MakesLink}
use Rattle.utility_calls.specs.declared.sights.Effect.TheVariants.{LinksInside, TakesAway, Moves, MovesInside, Copies}
use Rattle.utility_calls.specs.declared.sights.Effect.TheVariants.{CopiesInside}
use Rattle.utility_calls.specs.declared.sights.Where.{Where}
use Rattle.utility_calls.specs.declared.sights.Where.TheVariants.{Anything, Is, Within, Inside, Outside, Empty, Full}
use Rattle.utility_calls.specs.declared.sights.Where.TheVariants.{Into, IntoEmpty, IntoFull}
use Rattle.utility_calls.specs.declared.sights.Rule.{Rule}
use Rattle.utility_calls.specs.Table.{rules}
use Rattle.utility_calls.specs.Acts.{path_of, place_of, inner_name, is_below, link_row}
use Rattle.tree_clauses.specs.declared.case.Case.{Case}
use Rattle.act_cases.specs.declared.plans.End.TheVariants as end
use Rattle.act_cases.specs.declared.moves.MovePlan.{MovePlan}
use Rattle.act_cases.specs.declared.moves.Moving.{Moving}
use Rattle.act_cases.specs.declared.moves.Moving.TheVariants as moving
use Rattle.act_cases.specs.Looks.{var, look_literals, end_of}
use Rattle.act_cases.specs.Puts.{put_literals, root_of}
use Rattle.act_cases.specs.Plans.{end_literals}
use Rattle.act_cases.specs.Tables.{through, ways_of, end_of_place, is_inner, names_at}
use Rattle.act_cases.specs.Cases.{link_cases, slash_cases}

-- ---- the variables of a case: 0 is the tree, the entries along the one path follow, and then those along the other

-- the variable of nothing
abbrev pub spare : List (List ℕ) → List (List ℕ) → ℕ
spare p q = length p + length q + 1

-- the tree without what stood at the first path
abbrev pub freed : List (List ℕ) → List (List ℕ) → ℕ
freed p q = root_of p (spare p q) (spare p q + 1)

-- the first entry in it along the second path
abbrev pub onward : List (List ℕ) → List (List ℕ) → ℕ
onward p q = spare p q + 1 + length p

-- the first value in which what is moved is put
abbrev pub outward : List (List ℕ) → List (List ℕ) → ℕ
outward p q = onward p q + length q

-- the tree afterwards, of a move
abbrev pub placed : List (List ℕ) → List (List ℕ) → ℕ
placed p q = root_of q (length p) (outward p q)

-- ---- the literals

-- the literals of a move: nothing is put at the first path, and in the tree that comes of it what stood there is put at
-- the second
abbrev pub moved_literals : List (List ℕ) → List (List ℕ) → List Literal
moved_literals p q =
    Kind (var (spare p q)) (of Absent)
    ∷ (put_literals 0 1 p (spare p q) (spare p q + 1)
    ++ (look_literals (through all) (freed p q) (onward p q) q
    ++ put_literals (freed p q) (onward p q) q (length p) (outward p q)))

-- the literals of a copy: the variable of what stands at the first path is that of what is put at the second
abbrev pub copied_literals : List (List ℕ) → List (List ℕ) → List Literal
copied_literals p q = put_literals 0 (length p + 1) q (length p) (spare p q)

-- the literals of what is moved or copied
abbrev pub moves_by : Moving → List (List ℕ) → List (List ℕ) → List Literal
moves_by moving.Stays p q = []
moves_by moving.Moves p q = moved_literals p q
moves_by moving.Copies p q = copied_literals p q

-- how many variables there are, with those of the ways to both paths
abbrev pub move_locals : Moving → List (List ℕ) → List (List ℕ) → ℕ
move_locals moving.Stays p q = length p + length q
move_locals moving.Moves p q = spare p q + length p + length q + length q
move_locals moving.Copies p q = length p + length q + length q

-- the variable of the tree afterwards; where all stays that is the tree before
abbrev pub move_root : Moving → List (List ℕ) → List (List ℕ) → ℕ
move_root moving.Stays p q = 0
move_root moving.Moves p q = placed p q
move_root moving.Copies p q = root_of q (length p) (spare p q)

-- the tree with what stands at the first path moved to the second, or put there too
abbrev pub moved_by : Moving → List (List ℕ) → List (List ℕ) → Value → Value
moved_by moving.Stays p q t = t
moved_by moving.Moves p q t = put (put t p value.Absent) q (at t p)
moved_by moving.Copies p q t = put t q (at t p)

-- the case of a row that looks along both paths
abbrev pub move_case : MovePlan → List (List ℕ) → List (List ℕ) → Case
move_case plan p q = record {
  row = plan.number;
  locals = move_locals plan.moving p q;
  literals = Kind (var 0) (of Dir)
      ∷ (look_literals plan.source 0 1 p
      ++ (look_literals plan.place 0 (length p + 1) q
      ++ (end_literals plan.end (end_of 0 (length p + 1) q) ++ moves_by plan.moving p q)));
  done = plan.answer;
  root = var (move_root plan.moving p q);
}

-- ---- the rows

-- what a row says of what is moved or copied, as a condition on its path
abbrev pub source_where : Option Kinds → Where
source_where None = Anything
source_where (Some kinds) = Is kinds

-- whether a row says nothing of the place
abbrev pub is_anything : Where → Bool
is_anything Anything = true
is_anything (Is kinds) = false
is_anything Within = false
is_anything (Inside kinds) = false
is_anything Outside = false
is_anything Empty = false
is_anything Full = false
is_anything (Into kinds) = false
is_anything IntoEmpty = false
is_anything IntoFull = false

-- the names that it looks along from the root to the place: none where it says nothing of it
abbrev pub second_names : Bool → Bool → List (List ℕ) → Option (List ℕ) → List (List ℕ)
second_names true inner names m = []
second_names false inner names m = names_at inner names m

-- what an effect does with what stands at the first path
abbrev pub moving_of : Effect → Moving
moving_of Nothing = moving.Stays
moving_of MakesDir = moving.Stays
moving_of KeepsDir = moving.Stays
moving_of MakesFile = moving.Stays
moving_of MakesLink = moving.Stays
moving_of LinksInside = moving.Stays
moving_of TakesAway = moving.Stays
moving_of Moves = moving.Moves
moving_of MovesInside = moving.Moves
moving_of Copies = moving.Copies
moving_of CopiesInside = moving.Copies

-- a row of the table of a move or a copy as it is made into a case
abbrev pub move_plan : Bool → Rule → MovePlan
move_plan slash r = record {
  number = r.number;
  answer = r.answer;
  source = ways_of slash (source_where r.source);
  place = ways_of false r.place;
  end = end_of_place r.place;
  moving = moving_of r.effect;
}

-- the kinds of what is copied, by whether directories are
abbrev pub copied : Bool → Kinds
copied false = of Reg
copied true = two Reg Dir

-- the kinds of what is moved or copied
abbrev pub taken : Act → Kinds
taken (Copy a b deep) = copied deep
taken act = but Absent

-- where the way of the second path is looked at: something is moved or copied, or that path is below a move's first
abbrev pub looked : Bool → Kinds → Where
looked true kinds = Anything
looked false kinds = Is kinds

-- the row of a link at the first so many names of the second path
abbrev pub second_plan : Bool → Where → ℕ → MovePlan
second_plan slash source k = record {
  number = (link_row (128 + k)).number;
  answer = (link_row (128 + k)).answer;
  source = ways_of slash source;
  place = through (of Link);
  end = end.Any;
  moving = moving.Stays;
}

-- the case of a row of the table
abbrev pub move_rule_case : Act → Rule → Case
move_rule_case act r =
    move_case (move_plan (path_of act).slash r) (path_of act).names
    (second_names (is_anything r.place) (is_inner r.place) (place_of act) (inner_name act))

-- the cases of links on the way of the second path: so many, from the one at the first k names on
abbrev pub second_cases : Act → ℕ → ℕ → List Case
second_cases act k zero = []
second_cases act k (suc more) =
    move_case (second_plan (path_of act).slash (looked (is_below act) (taken act)) k) (path_of act).names
    (take k (place_of act))
    ∷ second_cases act (k + 1) more

-- the cases of a move or a copy
abbrev pub move_cases : Act → List Case
move_cases act =
    link_cases (path_of act).names 1 (length (path_of act).names - 1)
    ++ (slash_cases (path_of act).slash (path_of act).names
    ++ (map (move_rule_case act) (rules (is_below act) act) ++ second_cases act 1 (length (place_of act) - 1)))

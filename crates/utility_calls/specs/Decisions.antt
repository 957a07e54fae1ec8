-- What a run does, for all trees at once: its strings are the same on every tree, and a tree enters at its acts alone.
use Rattle.std.specs.Prelude.{◌≡◌, List, [], ◌∷◌, ◌++◌}
use Rattle.script_names.specs.declared.mark.Mark.{Mark}
use Rattle.script_names.specs.declared.mark.Site.{Site}
use Rattle.script_names.specs.declared.reason.Done.{Done}
use Rattle.feature_trees.specs.declared.value.Value.{Value}
use Rattle.utility_calls.specs.declared.acts.Act.{Act}
use Rattle.utility_calls.specs.Acts.{row, tree_after, IsPerformed}

-- A decision: its value is known, or an act is done at a site, and what follows is chosen by what the act answers.
pub data Decision (A : Type 0) : Type 0 where
  Decided : (value : A) → Decision A
  Asks : (site : Site) (act : Act) (next : Done → Decision A) → Decision A

-- A decision played to its end from a tree: its value, the tree that the acts leave, the trace, and the acts.
pub record Played (A : Type 0) : Type 0 where
  pub value : A
  pub tree : Value
  pub trace : List Mark
  pub acts : List Act

-- the mark of an act on a tree: where it is done, and by which row
abbrev pub mark_at : Site → Act → Value → Mark
mark_at site act tree = record { site = site; row = (row act tree).number }

-- a decision is played from a tree, behind a trace and acts that were done before
abbrev pub play : {A : Type 0} → Decision A → Value → List Mark → List Act → Played A
play (Decided value) tree trace acts = record { value = value; tree = tree; trace = trace; acts = acts }
play (Asks site act next) tree trace acts =
    play (next (row act tree).answer) (tree_after act tree) (trace ++ mark_at site act tree ∷ []) (acts ++ act ∷ [])

-- each act of the decision can be done on every tree
abbrev pub AllPerformed : {A : Type 0} → Decision A → Type 0
AllPerformed (Decided value) = Unit {0}
AllPerformed (Asks site act next) = IsPerformed act × ((answer : Done) → AllPerformed (next answer))

-- what is played behind a trace and acts is what is played behind none, with these before it
abbrev pub behind : {A : Type 0} → List Mark → List Act → Played A → Played A
behind trace acts p = record p { trace = trace ++ p.trace; acts = acts ++ p.acts }

-- ---- laws

-- the trace and the acts that a decision is played behind change nothing of it
abbrev pub PlaysBehind : Type 0 → Type 0
PlaysBehind A =
    (d : Decision A) (tree : Value) (trace : List Mark) (acts : List Act)
    → play d tree trace acts ≡ behind trace acts (play d tree [] [])

-- What a scenario does, for all trees at once, where it may keep the tree as it is and put back from it later.
use Rattle.std.specs.Prelude.{List, [], ◌∷◌, ◌++◌}
use Rattle.script_names.specs.declared.mark.Mark.{Mark}
use Rattle.script_names.specs.declared.mark.Site.{Site}
use Rattle.script_names.specs.declared.reason.Done.{Done}
use Rattle.feature_trees.specs.declared.value.Value.{Value}
use Rattle.utility_calls.specs.declared.acts.Act.{Act}
use Rattle.utility_calls.specs.declared.backs.Back.{Back}
use Rattle.utility_calls.specs.declared.deeds.Deed.{Deed}
use Rattle.utility_calls.specs.declared.deeds.Deed.TheVariants.{Does, Returns, Keeps}
use Rattle.utility_calls.specs.Acts.{row, tree_after, IsPerformed}
use Rattle.utility_calls.specs.Backs.{back_row, back_after, IsNamed}
use Rattle.utility_calls.specs.Decisions.{Decision, Decided, Asks, mark_at}

-- the tree as it is now, and as it was when it was kept
pub record World : Type 0 where
  pub tree : Value
  pub kept : Value

-- the world of two trees
abbrev pub world : Value → Value → World
world tree kept = record { tree = tree; kept = kept }

-- a tree that is its own kept tree, as at the beginning of a run
abbrev pub fresh : Value → World
fresh tree = world tree tree

-- A walk: its value is known; or an act is done, or something is put back, at a site, and what follows is chosen by the
-- answer; or the tree is kept.
pub data Walk (A : Type 0) : Type 0 where
  Ends : (value : A) → Walk A
  Acts : (site : Site) (act : Act) (next : Done → Walk A) → Walk A
  PutsBack : (site : Site) (back : Back) (next : Done → Walk A) → Walk A
  Keeping : (next : Walk A) → Walk A

-- A walk played to its end: its value, the world that it leaves, the trace, and the deeds.
pub record Walked (A : Type 0) : Type 0 where
  pub value : A
  pub world : World
  pub trace : List Mark
  pub deeds : List Deed

-- the mark of a back: where it is put back, and by which row
abbrev pub back_mark : Site → Back → World → Mark
back_mark site back w = record { site = site; row = (back_row back w.kept w.tree).number }

-- the world behind an act, which leaves the kept tree
abbrev pub after_act : Act → World → World
after_act act w = world (tree_after act w.tree) w.kept

-- the world behind a back, which leaves the kept tree
abbrev pub after_back : Back → World → World
after_back back w = world (back_after back w.kept w.tree) w.kept

-- the world behind keeping the tree: the kept tree is the one of now
abbrev pub after_keep : World → World
after_keep w = fresh w.tree

-- a walk is played from a world, behind a trace and deeds that were done before
abbrev pub walk : {A : Type 0} → Walk A → World → List Mark → List Deed → Walked A
walk (Ends value) w trace deeds = record { value = value; world = w; trace = trace; deeds = deeds }
walk (Acts site act next) w trace deeds =
    walk (next (row act w.tree).answer) (after_act act w) (trace ++ mark_at site act w.tree ∷ [])
    (deeds ++ Does act ∷ [])
walk (PutsBack site back next) w trace deeds =
    walk (next (back_row back w.kept w.tree).answer) (after_back back w) (trace ++ back_mark site back w ∷ [])
    (deeds ++ Returns back ∷ [])
walk (Keeping next) w trace deeds = walk next (after_keep w) trace (deeds ++ Keeps ∷ [])

-- each act of the walk can be done on every tree, and each back has a path
abbrev pub AllDone : {A : Type 0} → Walk A → Type 0
AllDone (Ends value) = Unit {0}
AllDone (Acts site act next) = IsPerformed act × ((answer : Done) → AllDone (next answer))
AllDone (PutsBack site back next) = IsNamed back × ((answer : Done) → AllDone (next answer))
AllDone (Keeping next) = AllDone next

-- what is walked behind a trace and deeds is what is walked behind none, with these before it
abbrev pub before : {A : Type 0} → List Mark → List Deed → Walked A → Walked A
before trace deeds p = record p { trace = trace ++ p.trace; deeds = deeds ++ p.deeds }

-- a walk, and then the one for its value
abbrev pub then_walk : {A B : Type 0} → Walk A → (A → Walk B) → Walk B
then_walk (Ends value) next = next value
then_walk (Acts site act after) next = Acts site act (λ answer. then_walk (after answer) next)
then_walk (PutsBack site back after) next = PutsBack site back (λ answer. then_walk (after answer) next)
then_walk (Keeping after) next = Keeping (then_walk after next)

-- a decision over acts, as that of a script, is a walk that keeps nothing and puts nothing back
abbrev pub walk_of : {A : Type 0} → Decision A → Walk A
walk_of (Decided value) = Ends value
walk_of (Asks site act next) = Acts site act (λ answer. walk_of (next answer))

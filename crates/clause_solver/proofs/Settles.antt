-- A store with one more variable is settled.
use Rattle.std.proofs.Common.{◌≡◌, ℕ, ◌<◌, List, [], ◌∷◌, ◌++◌, length, IsTrue, arith}
use Rattle.script_names.specs.Names.{is_name}
use Rattle.clause_solver.specs.declared.variable.MadeValue.{MadeValue}
use Rattle.clause_solver.specs.declared.variable.MadeValue.TheVariants as made
use Rattle.clause_solver.specs.declared.variable.Definition.{Definition}
use Rattle.clause_solver.specs.declared.variable.Definition.TheVariants.{Child, Derived, Ensured, Made}
use Rattle.clause_solver.specs.declared.variable.Variable.{Variable}
use Rattle.clause_solver.specs.declared.appended.Found.TheVariants.{Nothing, At}
use Rattle.clause_solver.specs.declared.store.Store.TheInside.{Inside}
use Rattle.tree_clauses.specs.Literals.{value_of_variable}
use Rattle.clause_solver.specs.Stands.{Stands, Extends, HasEntry, HasEntriesOf, HasPut, HasValue}
use Rattle.clause_solver.specs.Variables.{Ordered, Earlier, IsChild, defined, made_value}
use Rattle.clause_solver.specs.Fresh.{fresh}
use Rattle.clause_solver.specs.Appends.{IsAppended, IsSingle, LeadsTo}
use Rattle.clause_solver.specs.View.{seen, IsSettled}
use Rattle.clause_solver.proofs.OneMore.{seen_of, longer, append_order, append_only, append_always, append_extends, append_is}
use Rattle.clause_solver.proofs.Leads.{absent_entry, child_entry}
use Rattle.clause_solver.proofs.ListSteps.{appended_decided}

module _ (a b : Inside) (y : ℕ) (d : Definition) (inv : IsSettled a) (before : Earlier a.lists.vars (length a.lists.vars) d) (none : IsSingle a.lists.vars d) (now : b.current ≡ a.current) (is : IsAppended a.lists d b.lists y) where
  new_order : Ordered (a.lists.vars ++ fresh d ∷ [])
  new_order = append_order a.lists.vars inv.decided.order d before none

  pub appended_extends : Extends (seen a) (seen b)
  appended_extends = rw (is.variable, now) (append_extends a.lists.vars inv.decided.order d before a.current inv.now_known new_order)

  -- the new variable has its defined value
  pub appended_is : (t : _) (g : _) → Stands (seen b) t g → value_of_variable g y ≡ defined g d
  appended_is t g h =
      let h' : Stands (seen_of (a.lists.vars ++ fresh d ∷ []) a.current) t g = rw (is.variable, now) at h in
      rw is.at (append_is a.lists.vars inv.decided.order d before a.current inv.now_known new_order t g h')

  pub appended_known : y < (seen b).count
  appended_known = rw (is.variable, is.at, longer a.lists.vars inv.decided.order d before) (omega arith)

pub appended_settled : (a b : Inside) (y : ℕ) (d : Definition) (inv : IsSettled a) (before : Earlier a.lists.vars (length a.lists.vars) d) (none : IsSingle a.lists.vars d) (now : b.current ≡ a.current) (is : IsAppended a.lists d b.lists y) → IsSettled b
appended_settled a b y d inv before none now is =
    let long = longer a.lists.vars inv.decided.order d before in
    record {
      decided = appended_decided a.lists b.lists y d inv.decided before none is;
      now_known = rw (is.variable, long, now) (let r = inv.now_known in omega arith);
      now_tree = rw (is.variable, now) (append_always a.lists.vars inv.decided.order d before a.current inv.now_known inv.now_tree);
      start_tree = rw is.variable (append_only a.lists.vars inv.decided.order d before 0 inv.decided.order.some inv.start_tree);
    }

pub made_single : (vars : List Variable) (m : MadeValue) → IsSingle vars (Made m)
made_single vars m x f i e = let bad : Made m ≡ Child x f = e in cc

pub derived_single : (vars : List Variable) (x y : ℕ) (f : List ℕ) → IsSingle vars (Derived x f y)
derived_single vars x y f p g i e = let bad : Derived x f y ≡ Child p g = e in cc

pub child_single : (vars : List Variable) (n : ℕ) (f : List ℕ) → ((i : ℕ) → ¬ (IsChild vars n f i)) → IsSingle vars (Child n f)
child_single vars n f none x g i e h =
    let ex : n ≡ x = cc in
    let eg : f ≡ g = cc in
    none i (rw (ex, eg) h)

pub absent_is_entry : (a b : Inside) (y x : ℕ) (f : List ℕ) → IsSettled a → x < length a.lists.vars → b.current ≡ a.current → IsAppended a.lists (Made made.Absent) b.lists y → LeadsTo a.lists.vars x f Nothing → HasEntry (seen b) x f y
absent_is_entry a b y x f inv inside now is leads =
    rw (is.variable, now, is.at) (absent_entry a.lists.vars a.current x f inv.decided.order inside (append_order a.lists.vars inv.decided.order (Made made.Absent) tt (made_single a.lists.vars made.Absent)) leads)

pub child_before : (vars : List Variable) (x n : ℕ) (f : List ℕ) → IsTrue (is_name f) → LeadsTo vars x f (At n) → Earlier vars (length vars) (Child n f)
child_before vars x n f name leads = (leads.0, leads.1, name)

pub child_is_entry : (a b : Inside) (y x n : ℕ) (f : List ℕ) → IsSettled a → x < length a.lists.vars → IsTrue (is_name f) → ((i : ℕ) → ¬ (IsChild a.lists.vars n f i)) → b.current ≡ a.current → IsAppended a.lists (Child n f) b.lists y → LeadsTo a.lists.vars x f (At n) → HasEntry (seen b) x f y
child_is_entry a b y x n f inv inside name none now is leads =
    let before = child_before a.lists.vars x n f name leads in
    rw (is.variable, now, is.at) (child_entry a.lists.vars a.current x f inv.decided.order inside n before (append_order a.lists.vars inv.decided.order (Child n f) before (child_single a.lists.vars n f none)) leads)

pub derived_before : (vars : List Variable) (x y : ℕ) (f : List ℕ) → x < length vars → y < length vars → IsTrue (is_name f) → Earlier vars (length vars) (Derived x f y)
derived_before vars x y f known value name = (known, value, name)

pub derived_is_put : (a b : Inside) (z x y : ℕ) (f : List ℕ) → IsSettled a → x < length a.lists.vars → y < length a.lists.vars → IsTrue (is_name f) → b.current ≡ a.current → IsAppended a.lists (Derived x f y) b.lists z → HasPut (seen b) x f y z
derived_is_put a b z x y f inv inside known name now is =
    let before = derived_before a.lists.vars x y f inside known name in
    let single = derived_single a.lists.vars x y f in
    record {
      known = appended_known a b z (Derived x f y) inv before single now is;
      is = appended_is a b z (Derived x f y) inv before single now is;
    }

pub made_is_value : (a b : Inside) (y : ℕ) (m : MadeValue) → IsSettled a → b.current ≡ a.current → IsAppended a.lists (Made m) b.lists y → HasValue (seen b) y (made_value m)
made_is_value a b y m inv now is = record {
  known = appended_known a b y (Made m) inv tt (made_single a.lists.vars m) now is;
  is = appended_is a b y (Made m) inv tt (made_single a.lists.vars m) now is;
}

pub ensured_single : (vars : List Variable) (x : ℕ) → IsSingle vars (Ensured x)
ensured_single vars x p g i e = let bad : Ensured x ≡ Child p g = e in cc

pub ensured_has : (a b : Inside) (y x : ℕ) → IsSettled a → x < length a.lists.vars → b.current ≡ a.current → IsAppended a.lists (Ensured x) b.lists y → HasEntriesOf (seen b) x y
ensured_has a b y x inv inside now is = record {
  known = appended_known a b y (Ensured x) inv inside (ensured_single a.lists.vars x) now is;
  is = appended_is a b y (Ensured x) inv inside (ensured_single a.lists.vars x) now is;
}

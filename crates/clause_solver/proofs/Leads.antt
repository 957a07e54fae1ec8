-- Where an entry is found that was followed through the definitions.
use Rattle.std.proofs.Common.{◌≡◌, ℕ, ◌+◌, ◌<◌, List, [], ◌∷◌, ◌++◌, length, take, refl, sym, ap, ◌∙◌, arith}
use Rattle.std.proofs.lemmas.List.{take_all, get_or-take}
use Rattle.feature_trees.specs.declared.value.Value.TheVariants as value
use Rattle.feature_trees.specs.Tree.{entry}
use Rattle.clause_solver.specs.declared.appended.Found.TheVariants.{Known, Nothing, At}
use Rattle.clause_solver.specs.declared.variable.MadeValue.TheVariants as made
use Rattle.clause_solver.specs.declared.variable.Definition.{Definition}
use Rattle.clause_solver.specs.declared.variable.Definition.TheVariants.{Child, Made}
use Rattle.clause_solver.specs.declared.variable.Variable.{Variable}
use Rattle.tree_clauses.specs.Literals.{Valuation, value_of_variable, IsSound}
use Rattle.clause_solver.specs.Stands.{Seen, Extends, HasEntry}
use Rattle.clause_solver.specs.Variables.{AllFit, Earlier, Ordered, IsChild, defined}
use Rattle.clause_solver.specs.Appends.{LeadsTo}
use Rattle.clause_solver.specs.Fresh.{fresh}
use Rattle.clause_solver.proofs.Pairs.{fits_from}
use Rattle.clause_solver.proofs.OneMore.{seen_of, longer, append_down, sound_take}

-- a store that is as before extends itself
pub extends_itself : (s : Seen) → Extends s s
extends_itself s = record {
  more = omega arith;
  same = refl;
  down = λ t g h. rw (take_all s.count g (let e = h.counted in omega (arith, e))) h;
  up = λ t g h. (g, h, take_all s.count g (let e = h.counted in omega (arith, e)));
}

-- an older variable is the entry
pub known_entry : (vars : List Variable) (now x y : ℕ) (f : List ℕ) → Ordered vars → LeadsTo vars x f (Known y) → HasEntry (seen_of vars now) x f y
known_entry vars now x y f order h = record {
  known = h.0;
  is = λ t g s. sym (h.1 g s.values (fits_from vars g order s.values s.met));
}

pub found_entry : (vars : List Variable) (now x n y : ℕ) (f : List ℕ) → Ordered vars → LeadsTo vars x f (At n) → IsChild vars n f y → HasEntry (seen_of vars now) x f y
found_entry vars now x n y f order h child = record {
  known = child.0;
  is = λ t g s.
      let fits = fits_from vars g order s.values s.met in
      (fits y child.0).is ∙ ap (defined g) child.1 ∙ sym (h.2 g s.values fits);
}

-- the new variable is the entry
module _ (vars : List Variable) (now x : ℕ) (f : List ℕ) (order : Ordered vars) (inside : x < length vars) where
  new_entry : (d : Definition) → Earlier vars (length vars) d → Ordered (vars ++ fresh d ∷ []) → ((g : Valuation) → IsSound g → AllFit vars g → entry (value_of_variable g x) f ≡ defined g d) → ((g : Valuation) → defined (take (length vars) g) d ≡ defined g d) → HasEntry (seen_of (vars ++ fresh d ∷ []) now) x f (length vars)
  new_entry d before new_order leads same = record {
    known = rw (longer vars order d before) (omega arith);
    is = λ t g s.
        let n = length vars in
        let long : length g ≡ n + 1 = s.counted ∙ longer vars order d before in
        let parts = append_down vars order d before g (fits_from (vars ++ fresh d ∷ []) g new_order s.values s.met) in
        let old = sound_take n g (omega arith) s.values in
        parts.1 ∙ sym (same g) ∙ sym (leads (take n g) old parts.0) ∙ ap (λ v. entry v f) (get_or-take n g x value.Absent inside);
  }

  pub absent_entry : Ordered (vars ++ fresh (Made made.Absent) ∷ []) → LeadsTo vars x f Nothing → HasEntry (seen_of (vars ++ fresh (Made made.Absent) ∷ []) now) x f (length vars)
  absent_entry new_order h = new_entry (Made made.Absent) tt new_order h (λ g. refl)

  pub child_entry : (n : ℕ) → Earlier vars (length vars) (Child n f) → Ordered (vars ++ fresh (Child n f) ∷ []) → LeadsTo vars x f (At n) → HasEntry (seen_of (vars ++ fresh (Child n f) ∷ []) now) x f (length vars)
  child_entry n before new_order h =
      new_entry (Child n f) before new_order h.2 (λ g. ap (λ v. entry v f) (get_or-take (length vars) g n value.Absent h.0))

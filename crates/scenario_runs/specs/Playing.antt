-- Steps and runs of scenarios that are walks.
use Rattle.std.proofs.Common.{◌≡◌, ℕ, List, refl, sym, ap, ◌∙◌}
use Rattle.script_names.specs.declared.mark.Mark.{Mark}
use Rattle.utility_calls.specs.declared.deeds.Deed.{Deed}
use Rattle.utility_calls.specs.Walks.{World, Walk, Ends, Walked, walk, AllDone, then_walk}
use Rattle.utility_calls.proofs.Walking.{then_done, walks_follow}
use Rattle.scenario_runs.specs.declared.call.ScriptCall.{ScriptCall}
use Rattle.scenario_runs.specs.declared.course.Course.{Course}

-- what is the same on each tree: a value, the calls of scripts, the turns that are left, and how many acts of the last
-- unpacking were done
pub record Came (A : Type 0) : Type 0 where
  pub value : A
  pub calls : List ScriptCall
  pub turns : ℕ
  pub unpacked : ℕ

-- the course with these parts
abbrev pub course_at : List ScriptCall → ℕ → ℕ → World → List Mark → List Deed → Course
course_at calls turns unpacked w trace deeds = record {
  tree = w.tree;
  kept = w.kept;
  trace = trace;
  deeds = deeds;
  calls = calls;
  turns = turns;
  unpacked = unpacked;
}

-- a value and a course, put together
abbrev pub came : {A R : Type 0} → (A → Course → R) → Came A → World → List Mark → List Deed → R
came make v w trace deeds = make v.value (course_at v.calls v.turns v.unpacked w trace deeds)

-- the value and the course of what was walked, put together
abbrev pub made : {A R : Type 0} → (A → Course → R) → Walked (Came A) → R
made make p = came make p.value p.world p.trace p.deeds

-- what is done from each world, behind each trace and deeds, is one walk
pub record Plays {A R : Type 0} (make : A → Course → R) (f : World → List Mark → List Deed → R) : Type 0 where
  pub decision : Walk (Came A)
  pub performed : AllDone decision
  pub plays : (w : World) (trace : List Mark) (deeds : List Deed)
      → f w trace deeds ≡ made make (walk decision w trace deeds)

-- what does nothing
pub knows : {A R : Type 0} (make : A → Course → R) (v : Came A) → Plays make (came make v)
knows make v = record { decision = Ends v; performed = tt; plays = λ w trace deeds. refl }

-- what is done behind it
pub handle :
    {A R B S : Type 0} (make : A → Course → R) (remake : B → Course → S) (f : World → List Mark → List Deed → R)
    (h : R → S) → Plays make f → ((v : Came A) → Plays remake (λ w trace deeds. h (came make v w trace deeds)))
    → Plays remake (λ w trace deeds. h (f w trace deeds))
handle {A} make remake f h a k = record {
  decision = then_walk a.decision (λ v. (k v).decision);
  performed = then_done a.decision (λ v. (k v).decision) a.performed (λ v. (k v).performed);
  plays = λ w trace deeds.
      let p : Walked (Came A) = walk a.decision w trace deeds in
      ap h (a.plays w trace deeds) ∙ (k p.value).plays p.world p.trace p.deeds
      ∙ ap (made remake) (sym (walks_follow a.decision (λ v. (k v).decision) w trace deeds));
}

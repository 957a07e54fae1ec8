-- One run from a stage to its end, and the stages that part from it on the way.
use Rattle.std.proofs.Common.{◌≡◌, ℕ, ◌<◌, ◌≤◌, ◌+◌, List, [], ◌∷◌, ◌++◌, length, length-append, get_or, append_assoc, Result, Ok, Err, Bool, true, false, IsTrue, refl, sym, ap, ◌∙◌, subst, arith}
use Rattle.std.specs.Prelude.{◌↔◌, IsErrAnd}
use Rattle.script_names.specs.declared.mark.Mark.{Mark}
use Rattle.script_names.specs.declared.mark.Site.{Site}
use Rattle.script_names.specs.declared.reason.Done.{Done}
use Rattle.feature_trees.specs.declared.value.Value.{Value}
use Rattle.tree_clauses.specs.Literals.{Valuation, value_of_variable}
use Rattle.utility_calls.specs.declared.acts.Act.{Act}
use Rattle.utility_calls.specs.declared.backs.Back.{Back}
use Rattle.utility_calls.specs.declared.deeds.Deed.{Deed}
use Rattle.utility_calls.specs.declared.deeds.Deed.TheVariants.{Does, Returns, Keeps}
use Rattle.utility_calls.specs.Acts.{row}
use Rattle.utility_calls.specs.Backs.{back_row}
use Rattle.utility_calls.specs.Decisions.{mark_at}
use Rattle.utility_calls.specs.Walks.{world, Walk, Ends, Acts, PutsBack, Keeping, Walked, fresh, walk, back_mark, after_act, after_back, after_keep}
use Rattle.clause_solver.specs.Stands.{Seen, Stands, Alive}
use Rattle.case_paths.specs.declared.state.PathState.{PathState}
use Rattle.case_paths.specs.declared.state.Ran.{Ran}
use Rattle.case_paths.specs.declared.fork.Forks.{Forks}
use Rattle.case_paths.specs.Paths.{Gives}
use Rattle.case_paths.specs.declared.pursuit.Pursued.{Pursued}
use Rattle.case_paths.specs.declared.state.PathsFault.{PathsFault}
use Rattle.case_paths.specs.declared.state.PathsFault.TheVariants as fault
use Rattle.case_paths.specs.Steps.{world_of, mark_of, Step, act_step, back_step, AreForks, StepForks, IsKept, KeepForks, IsNext, AreForksBy}
use Rattle.case_paths.specs.Stages.{Parts, IsStageOf, IsStage, AllStages, HasEnded, Comes, IsPursued}
use Rattle.case_paths.proofs.Walks.{Extends, extends, between, at_end}
use Rattle.case_paths.proofs.Parting.{parts_alone, parts_same, parts_replace, stages_append, stages_between}
use Rattle.case_paths.proofs.Forking.{IsStepOf, forks_have_start, forks_part, forks_are_stages, followed_start}

-- the state x is a stage, and has the start tree t
pub record Going {A : Type 0} (d : Walk A) (t : Value) (x : PathState) : Type 0 where
  pub stage : IsStage d x
  pub valuation : Valuation
  pub stands : Stands x.store t valuation

-- ---- an act, and a back, as steps

act_next : {A : Type 0} (site : Site) (act : Act) (next : Done → Walk A) → IsStepOf (Acts site act next) site (act_step act) (Does act) next
act_next site act next = record { all = λ all answer. all.1 answer; walks = λ w trace deeds. refl }

back_next : {A : Type 0} (site : Site) (back : Back) (next : Done → Walk A) → IsStepOf (PutsBack site back next) site (back_step back) (Returns back) next
back_next site back next = record { all = λ all answer. all.1 answer; walks = λ w trace deeds. refl }

-- ---- keeping the tree

-- the one state that is followed is a stage of what is left behind
kept_stage : {A : Type 0} (d : Walk A) (x y : PathState) (rest : Walk A) (deeds : List Deed) → IsStageOf d x (Keeping rest) deeds → IsKept x y → IsStageOf d y rest (deeds ++ Keeps ∷ [])
kept_stage d x y rest deeds s k = record {
  known = k.known;
  count = (let l = length-append deeds (Keeps ∷ []) in let n = k.done in let c = s.count in omega (arith, l, n, c));
  all = s.all;
  walks = λ t g h. walks t g h;
}
  where
    walks : (t : Value) (g : Valuation) → Stands y.store t g → walk rest (world_of y g) y.trace (deeds ++ Keeps ∷ []) ≡ walk d (fresh t) [] []
    walks t g h =
        let now : value_of_variable g y.store.current ≡ (world_of x g).tree = ap (λ (z : Seen). value_of_variable g z.current) k.store in
        let kept : value_of_variable g y.kept.0 ≡ (world_of x g).tree = ap (λ n. value_of_variable g n) k.kept ∙ now in
        (λ i. walk rest (world (now i) (kept i)) (k.trace i) (deeds ++ Keeps ∷ [])) ∙ s.walks t g (subst (λ (z : Seen). Stands z t g) k.store h)

-- ---- the next deed of a run

module _ {A : Type 0} (d : Walk A) (t : Value) (marks : List Mark) (deeds : List Deed) (marks_are : marks ≡ (walk d (fresh t) [] []).trace) (deeds_are : deeds ≡ (walk d (fresh t) [] []).deeds) where
  -- what the run does next, where its walk goes on behind this deed
  next_deed : (done : List Deed) (p : Walked A) (trace : List Mark) (deed : Deed) → p ≡ walk d (fresh t) [] [] → Extends p trace (done ++ deed ∷ []) → (i : ℕ) → i ≡ length done → (own : Deed) → own ≡ get_or deeds i own → own ≡ deed
  next_deed done p trace deed e h i at own is =
      let all : deeds ≡ (done ++ deed ∷ []) ++ h.more = deeds_are ∙ ap (λ (q : Walked A). q.deeds) (sym e) ∙ h.deeds_is in
      is ∙ ap (λ n. get_or deeds n own) at ∙ (between deeds done deed h.more all).1 own

  -- and the mark that it leaves
  next_mark : (trace : List Mark) (p : Walked A) (mark : Mark) (done : List Deed) → p ≡ walk d (fresh t) [] [] → Extends p (trace ++ mark ∷ []) done → (length trace < length marks) × ((o : Mark) → get_or marks (length trace) o ≡ mark)
  next_mark trace p mark done e h =
      between marks trace mark h.marks (marks_are ∙ ap (λ (q : Walked A). q.trace) (sym e) ∙ h.trace_is)

  -- what the next deed forks the state into
  pub record Forking (x : PathState) (forks : Forks) : Type 0 where
    pub stages : AllStages d (forks.lower ++ forks.followed ∷ forks.higher)
    pub parts : Parts x (forks.lower ++ forks.followed ∷ forks.higher)
    pub after : Valuation
    pub stands : Stands forks.followed.store t after
    pub one_more : forks.followed.done ≡ x.done + 1

  -- a step with this mark
  step_forks : (x : PathState) (g : Valuation) (site : Site) (step : Step) (deed : Deed) (rest : Walk A) (next : Done → Walk A) (done : List Deed) (forks : Forks) → Stands x.store t g → IsStageOf d x rest done → IsStepOf rest site step deed next → ((o : Mark) → get_or marks (length x.trace) o ≡ mark_of site (step.row_in (world_of x g)).number) → StepForks x marks step forks → Forking x forks
  step_forks x g site step deed rest next done forks h s is_step at f =
      let own = mark_of site (step.row_in (world_of x g)).number in
      let same : f.mark ≡ own = sym (f.mark_is own) ∙ at own in
      let are : AreForks own f.given x f.cases forks = subst (λ m. AreForks m f.given x f.cases forks) same f.are_forks in
      let ys = forks.lower ++ forks.followed ∷ forks.higher in
      let parts = forks_part f.given site x step f.cases f.are ys are.forked in
      let have = forks_have_start f.given site x step f.cases f.are ys are.forked t g h in
      let on = followed_start forks.lower forks.higher forks.followed (x.trace ++ own ∷ []) t parts.rising are.followed.trace have in
      record {
        stages = forks_are_stages d f.given site x step deed rest next done s is_step f.are.inside f.cases ys are.forked f.are.exact;
        parts = parts;
        after = on.0;
        stands = on.1;
        one_more = are.followed.done;
      }

  -- the tree is kept
  kept_forks : (x : PathState) (g : Valuation) (rest : Walk A) (done : List Deed) (forks : Forks) → Stands x.store t g → IsStageOf d x (Keeping rest) done → KeepForks x forks → Forking x forks
  kept_forks x g rest done forks h s k =
      let y = forks.followed in
      let one : y ∷ [] ≡ forks.lower ++ y ∷ forks.higher = sym (ap (λ l. l ++ y ∷ forks.higher) k.lower ∙ ap (λ l. y ∷ l) k.higher) in
      let kept : IsKept x y = k.followed in
      record {
        stages = subst (AllStages d) one ((rest, done ++ Keeps ∷ [], kept_stage d x y rest done s kept), tt);
        parts = subst (Parts x) one (parts_same x y kept.store kept.trace (t, g, h));
        after = g;
        stands = subst (λ (z : Seen). Stands z t g) (sym kept.store) h;
        one_more = kept.done;
      }

  module _ (x : PathState) (g : Valuation) (h : Stands x.store t g) (i : ℕ) (own : Deed) (lt : i < length deeds) (is : own ≡ get_or deeds i own) where
    nothing_next : {P : Type 0} (v : A) (done : List Deed) → IsStageOf d x (Ends v) done → i ≡ x.done → P
    nothing_next v done s at =
        let k = ap length (deeds_are ∙ ap (λ (q : Walked A). q.deeds) (sym (s.walks t g h))) in
        let c = s.count in absurd (omega (arith, k, c, at, lt))

    -- the run goes on from the state by its next deed
    pub goes_by : (rest : Walk A) (done : List Deed) → IsStageOf d x rest done → i ≡ x.done → IsNext x marks own
    goes_by (Ends v) done s at = nothing_next v done s at
    goes_by (Acts site act next) done s at =
        let w = world_of x g in
        let e = extends (next (row act w.tree).answer) (after_act act w) (x.trace ++ mark_at site act w.tree ∷ []) (done ++ Does act ∷ []) in
        let m = next_mark x.trace _ (mark_at site act w.tree) _ (s.walks t g h) e in
        subst (IsNext x marks) (sym (next_deed done _ _ (Does act) (s.walks t g h) e i (at ∙ s.count) own is))
        (s.all.0, (m.0, λ o. (t, g, h, ap (λ (q : Mark). q.row) (sym (m.1 o)))))
    goes_by (PutsBack site back next) done s at =
        let w = world_of x g in
        let e = extends (next (back_row back w.kept w.tree).answer) (after_back back w) (x.trace ++ back_mark site back w ∷ []) (done ++ Returns back ∷ []) in
        let m = next_mark x.trace _ (back_mark site back w) _ (s.walks t g h) e in
        subst (IsNext x marks) (sym (next_deed done _ _ (Returns back) (s.walks t g h) e i (at ∙ s.count) own is))
        (s.all.0, (m.0, λ o. (t, g, h, ap (λ (q : Mark). q.row) (sym (m.1 o)))))
    goes_by (Keeping rest) done s at =
        let e = extends rest (after_keep (world_of x g)) x.trace (done ++ Keeps ∷ []) in
        subst (IsNext x marks) (sym (next_deed done _ _ Keeps (s.walks t g h) e i (at ∙ s.count) own is)) tt

    pub forks_from : (forks : Forks) (rest : Walk A) (done : List Deed) → IsStageOf d x rest done → i ≡ x.done → AreForksBy x marks own forks → Forking x forks
    forks_from forks (Ends v) done s at f = nothing_next v done s at
    forks_from forks (Acts site act next) done s at f =
        let w = world_of x g in
        let e = extends (next (row act w.tree).answer) (after_act act w) (x.trace ++ mark_at site act w.tree ∷ []) (done ++ Does act ∷ []) in
        let m = next_mark x.trace _ (mark_at site act w.tree) _ (s.walks t g h) e in
        let same : own ≡ Does act = next_deed done _ _ (Does act) (s.walks t g h) e i (at ∙ s.count) own is in
        step_forks x g site (act_step act) (Does act) (Acts site act next) next done forks h s (act_next site act next) m.1
        (subst (λ deed. AreForksBy x marks deed forks) same f)
    forks_from forks (PutsBack site back next) done s at f =
        let w = world_of x g in
        let e = extends (next (back_row back w.kept w.tree).answer) (after_back back w) (x.trace ++ back_mark site back w ∷ []) (done ++ Returns back ∷ []) in
        let m = next_mark x.trace _ (back_mark site back w) _ (s.walks t g h) e in
        let same : own ≡ Returns back = next_deed done _ _ (Returns back) (s.walks t g h) e i (at ∙ s.count) own is in
        step_forks x g site (back_step back) (Returns back) (PutsBack site back next) next done forks h s (back_next site back next) m.1
        (subst (λ deed. AreForksBy x marks deed forks) same f)
    forks_from forks (Keeping rest) done s at f =
        let e = extends rest (after_keep (world_of x g)) x.trace (done ++ Keeps ∷ []) in
        let same : own ≡ Keeps = next_deed done _ _ Keeps (s.walks t g h) e i (at ∙ s.count) own is in
        kept_forks x g rest done forks h s (subst (λ deed. AreForksBy x marks deed forks) same f)

  -- at the end of the run nothing is left of the walk
  pub has_ended : (x : PathState) (value : A) → Going d t x → value ≡ (walk d (fresh t) [] []).value → length deeds ≤ x.done → HasEnded d (record { value = value; state = x })
  has_ended x value g is le =
      let s = g.stage.2 in
      let w = world_of x g.valuation in
      let p = walk g.stage.0 w x.trace g.stage.1 in
      let e : p ≡ walk d (fresh t) [] [] = s.walks t g.valuation g.stands in
      let h = extends g.stage.0 w x.trace g.stage.1 in
      let k = ap length (deeds_are ∙ ap (λ (q : Walked A). q.deeds) (sym e)) in
      let l = ap length h.deeds_is ∙ length-append g.stage.1 h.more in
      let c = s.count in
      let end = at_end g.stage.0 w x.trace g.stage.1 (omega (arith, k, l, le, c)) in
      let v = end.0 in
      let ends : IsStageOf d x (Ends v) g.stage.1 = subst (λ r. IsStageOf d x r g.stage.1) end.1 s in
      let value_is : value ≡ v = is ∙ ap (λ (q : Walked A). q.value) (sym (ends.walks t g.valuation g.stands)) in
      λ u v pair. (let same = ends.walks u pair.0 pair.1 in record {
        value = value_is ∙ ap (λ (q : Walked A). q.value) same;
        trace = ap (λ (q : Walked A). q.trace) same;
        tree = sym pair.2 ∙ ap (λ (q : Walked A). q.world.tree) same;
      })

-- want of memory is an answer
pub no_memory : {A : Type 0} (d : Walk A) (x : PathState) (room : ℕ) (result : Result (Pursued A) PathsFault) → IsErrAnd result (λ f. f ≡ fault.Memory) → IsPursued d x room result
no_memory d x room (Ok found) h = absurd h
no_memory d x room (Err f) h = subst (λ (f : PathsFault). IsPursued d x room (Err f)) (sym h) tt

-- the test of the room, either way
pub not_over : (over : Bool) (lower higher room : ℕ) → (IsTrue over ↔ (room < lower + 1 + higher)) → over ≡ false → lower + 1 + higher ≤ room
not_over over lower higher room h within =
    let few : room < lower + 1 + higher → ⊥ = λ lt. (let x : over ≡ true = h.1 lt in absurd (cc)) in
    omega (arith, few)

pub is_over : (over : Bool) (lower higher room : ℕ) → (IsTrue over ↔ (room < lower + 1 + higher)) → over ≡ true → room < lower + 1 + higher
is_over over lower higher room h x = h.0 x

-- the state x comes of the stage x0 along the run that gave these: what it ends with, its marks and its deeds; the
-- others that x0 has parted into are stages, those with lower traces and those with higher ones
pub record Follows {A : Type 0} (d : Walk A) (x0 : PathState) (value : A) (marks : List Mark) (deeds : List Deed) (lower : List PathState) (x : PathState) (higher : List PathState) : Type 0 where
  pub start : Value
  pub value_is : value ≡ (walk d (fresh start) [] []).value
  pub marks_are : marks ≡ (walk d (fresh start) [] []).trace
  pub deeds_are : deeds ≡ (walk d (fresh start) [] []).deeds
  pub going : Going d start x
  pub lower_stages : AllStages d lower
  pub higher_stages : AllStages d higher
  pub parts : Parts x0 (lower ++ x ∷ higher)

pub begin_follows : {A : Type 0} (d : Walk A) (x : PathState) (start : Value) (value : A) (marks : List Mark) (deeds : List Deed) (ran : Ran A) (lower higher : List PathState) → IsStage d x → Alive x.store → (g : Valuation) × Stands x.store start g → Gives (walk d (fresh start) [] []) ran → value ≡ ran.value → marks ≡ ran.trace → deeds ≡ ran.deeds → lower ≡ [] → higher ≡ [] → Follows d x value marks deeds lower x higher
begin_follows d x start value marks deeds ran lower higher s a g gives e f h no_lower no_higher = record {
  start = start;
  value_is = e ∙ gives.value;
  marks_are = f ∙ gives.trace;
  deeds_are = h ∙ gives.deeds;
  going = record { stage = s; valuation = g.0; stands = g.1 };
  lower_stages = subst (AllStages d) (sym no_lower) tt;
  higher_stages = subst (AllStages d) (sym no_higher) tt;
  parts = subst (λ l. Parts x (l ++ x ∷ higher)) (sym no_lower) (subst (λ l. Parts x (x ∷ l)) (sym no_higher) (parts_alone x a));
}

module _ {A : Type 0} (d : Walk A) (x0 : PathState) (value : A) (marks : List Mark) (deeds : List Deed) (lower : List PathState) (x : PathState) (higher : List PathState) (f : Follows d x0 value marks deeds lower x higher) where
  pub follows_known : x.kept.0 < x.store.count
  follows_known = f.going.stage.2.known

  pub follows_next : (i : ℕ) (deed : Deed) → i ≡ x.done → i < length deeds → deed ≡ get_or deeds i deed → IsNext x marks deed
  follows_next i deed e lt is =
      let g = f.going in
      goes_by d f.start marks deeds f.marks_are f.deeds_are x g.valuation g.stands i deed lt is g.stage.0 g.stage.1 g.stage.2 e

  -- the next deed parts some more stages from the run
  pub follows_on : (i : ℕ) (deed : Deed) (forks : Forks) (below above : List PathState) → i ≡ x.done → i < length deeds → deed ≡ get_or deeds i deed → AreForksBy x marks deed forks → below ≡ lower ++ forks.lower → above ≡ forks.higher ++ higher → (i + 1 ≡ forks.followed.done) × Follows d x0 value marks deeds below forks.followed above
  follows_on i deed forks below above e lt is forked below_is above_is =
      let g = f.going in
      let k = forks_from d f.start marks deeds f.marks_are f.deeds_are x g.valuation g.stands i deed lt is forks g.stage.0 g.stage.1 g.stage.2 e forked in
      let between = stages_between d forks.lower forks.followed forks.higher k.stages in (
        ap (λ n. n + 1) e ∙ sym k.one_more,
        record {
          start = f.start;
          value_is = f.value_is;
          marks_are = f.marks_are;
          deeds_are = f.deeds_are;
          going = record { stage = between.1; valuation = k.after; stands = k.stands };
          lower_stages = subst (AllStages d) (sym below_is) (stages_append d lower forks.lower f.lower_stages between.0);
          higher_stages = subst (AllStages d) (sym above_is) (stages_append d forks.higher higher between.2 f.higher_stages);
          parts = subst (Parts x0) joined (parts_replace x0 x lower (forks.lower ++ forks.followed ∷ forks.higher) higher f.parts k.parts);
        },
      )
    where
      joined : lower ++ ((forks.lower ++ forks.followed ∷ forks.higher) ++ higher) ≡ below ++ forks.followed ∷ above
      joined =
          ap (λ l. lower ++ l) (append_assoc forks.lower (forks.followed ∷ forks.higher) higher)
          ∙ sym (append_assoc lower forks.lower (forks.followed ∷ (forks.higher ++ higher)))
          ∙ ap (λ l. l ++ forks.followed ∷ (forks.higher ++ higher)) (sym below_is)
          ∙ ap (λ l. below ++ forks.followed ∷ l) (sym above_is)

  follows_to_end : (i : ℕ) → i ≡ x.done → length deeds ≤ i → Comes d x0 (record { lower = lower; path = record { value = value; state = x }; higher = higher })
  follows_to_end i e le = record {
    lower = f.lower_stages;
    ended = has_ended d f.start marks deeds f.marks_are f.deeds_are x value f.going f.value_is (subst (λ n. length deeds ≤ n) e le);
    higher = f.higher_stages;
    parts = f.parts;
  }

  -- at the end of the run its path is there, and there is room for what parted from it
  pub pursued : (i room : ℕ) → i ≡ x.done → length deeds ≤ i → length lower + 1 + length higher ≤ room → IsPursued d x0 room (Ok (record { lower = lower; path = record { value = value; state = x }; higher = higher }))
  pursued i room e le within = (follows_to_end i e le, within)

  -- on the way the stage has parted into more than room
  pub pursued_beyond : (room : ℕ) → room < length lower + 1 + length higher → IsPursued {A = A} d x0 room (Err fault.Over)
  pursued_beyond room lt = record {
    states = lower ++ x ∷ higher;
    stages = stages_append d lower (x ∷ higher) f.lower_stages (f.going.stage, f.higher_stages);
    parts = f.parts;
    count = (let l = length-append lower (x ∷ higher) in omega (arith, l, lt));
  }

-- A walk played behind a trace and deeds; two walks; and a decision as a walk.
use Rattle.std.proofs.Common.{◌≡◌, List, [], ◌∷◌, ◌++◌, map, refl, sym, ap, ◌∙◌, append_assoc, append-nil}
use Rattle.script_names.specs.declared.mark.Mark.{Mark}
use Rattle.script_names.specs.declared.reason.Done.{Done}
use Rattle.feature_trees.specs.declared.value.Value.{Value}
use Rattle.utility_calls.specs.declared.acts.Act.{Act}
use Rattle.utility_calls.specs.declared.deeds.Deed.{Deed}
use Rattle.utility_calls.specs.declared.deeds.Deed.TheVariants.{Does, Returns, Keeps}
use Rattle.utility_calls.specs.Acts.{row, tree_after}
use Rattle.utility_calls.specs.Decisions.{Decision, Decided, Asks, Played, play, mark_at, behind, AllPerformed}
use Rattle.utility_calls.specs.Backs.{back_row}
use Rattle.utility_calls.specs.Walks.{World, Walk, Ends, Acts, PutsBack, Keeping, Walked, walk, before, then_walk}
use Rattle.utility_calls.specs.Walks.{walk_of, back_mark, after_act, after_back, after_keep, AllDone}
use Rattle.utility_calls.specs.BackLaws.{walked_as}
use Rattle.utility_calls.proofs.Playing.{plays_behind}

-- a walk's end with another trace and other deeds
abbrev told : {A : Type 0} → Walked A → List Mark → List Deed → Walked A
told p trace deeds = record p { trace = trace; deeds = deeds }

told_same :
    {A : Type 0} (p : Walked A) {t u : List Mark} {a b : List Deed}
    → t ≡ u → a ≡ b → told p t a ≡ told p u b
told_same p {t = t} {b = b} same_trace same_deeds =
    ap (λ deeds. told p t deeds) same_deeds ∙ ap (λ trace. told p trace b) same_trace

-- behind one mark and one deed more
one_more :
    {A : Type 0} (rest : Walk A) (w : World) (trace : List Mark) (mark : Mark) (deeds : List Deed) (deed : Deed)
    → ((t : List Mark) (ds : List Deed) → walk rest w t ds ≡ before t ds (walk rest w [] []))
    → walk rest w (trace ++ mark ∷ []) (deeds ++ deed ∷ [])
    ≡ before trace deeds (walk rest w (mark ∷ []) (deed ∷ []))
one_more rest w trace mark deeds deed h =
    let p = walk rest w [] [] in
    h (trace ++ mark ∷ []) (deeds ++ deed ∷ [])
    ∙ told_same p (append_assoc trace (mark ∷ []) p.trace) (append_assoc deeds (deed ∷ []) p.deeds)
    ∙ sym (ap (before trace deeds) (h (mark ∷ []) (deed ∷ [])))

-- behind one deed more, which leaves no mark
one_deed :
    {A : Type 0} (rest : Walk A) (w : World) (trace : List Mark) (deeds : List Deed) (deed : Deed)
    → ((t : List Mark) (ds : List Deed) → walk rest w t ds ≡ before t ds (walk rest w [] []))
    → walk rest w trace (deeds ++ deed ∷ []) ≡ before trace deeds (walk rest w [] (deed ∷ []))
one_deed rest w trace deeds deed h =
    let p = walk rest w [] [] in
    h trace (deeds ++ deed ∷ [])
    ∙ told_same p refl (append_assoc deeds (deed ∷ []) p.deeds)
    ∙ sym (ap (before trace deeds) (h [] (deed ∷ [])))

pub walks_behind :
    {A : Type 0} (d : Walk A) (w : World) (trace : List Mark) (deeds : List Deed)
    → walk d w trace deeds ≡ before trace deeds (walk d w [] [])
walks_behind (Ends value) w trace deeds =
    told_same (walk (Ends value) w [] []) (sym (append-nil trace)) (sym (append-nil deeds))
walks_behind (Acts site act next) w trace deeds =
    let answer : Done = (row act w.tree).answer in
    one_more (next answer) (after_act act w) trace (mark_at site act w.tree) deeds (Does act)
    (λ t ds. walks_behind (next answer) (after_act act w) t ds)
walks_behind (PutsBack site back next) w trace deeds =
    let answer : Done = (back_row back w.kept w.tree).answer in
    one_more (next answer) (after_back back w) trace (back_mark site back w) deeds (Returns back)
    (λ t ds. walks_behind (next answer) (after_back back w) t ds)
walks_behind (Keeping next) w trace deeds =
    one_deed next (after_keep w) trace deeds Keeps (λ t ds. walks_behind next (after_keep w) t ds)

pub walks_follow :
    {A B : Type 0} (d : Walk A) (next : A → Walk B) (w : World) (trace : List Mark) (deeds : List Deed)
    → let p : Walked A = walk d w trace deeds in
    walk (then_walk d next) w trace deeds ≡ walk (next p.value) p.world p.trace p.deeds
walks_follow (Ends value) next w trace deeds = refl
walks_follow (Acts site act after) next w trace deeds =
    walks_follow (after (row act w.tree).answer) next (after_act act w) (trace ++ mark_at site act w.tree ∷ [])
    (deeds ++ Does act ∷ [])
walks_follow (PutsBack site back after) next w trace deeds =
    walks_follow (after (back_row back w.kept w.tree).answer) next (after_back back w)
    (trace ++ back_mark site back w ∷ []) (deeds ++ Returns back ∷ [])
walks_follow (Keeping after) next w trace deeds = walks_follow after next (after_keep w) trace (deeds ++ Keeps ∷ [])

-- what can be done in each of two walks can be done where one is behind the other
pub then_done :
    {A B : Type 0} (d : Walk A) (next : A → Walk B)
    → AllDone d → ((value : A) → AllDone (next value)) → AllDone (then_walk d next)
then_done (Ends value) next h k = k value
then_done (Acts site act after) next h k = (h.0, λ answer. then_done (after answer) next (h.1 answer) k)
then_done (PutsBack site back after) next h k = (h.0, λ answer. then_done (after answer) next (h.1 answer) k)
then_done (Keeping after) next h k = then_done after next h k

-- ---- a decision as a walk

-- what a decision does can be done
pub decisions_done : {A : Type 0} (d : Decision A) → AllPerformed d → AllDone (walk_of d)
decisions_done (Decided value) h = tt
decisions_done (Asks site act next) h = (h.0, λ answer. decisions_done (next answer) (h.1 answer))

-- with one act in front
front_is :
    {A : Type 0} (kept : Value) (deeds : List Deed) (act : Act) (p q : Played A)
    → q ≡ behind [] (act ∷ []) p → walked_as kept (deeds ++ Does act ∷ []) p ≡ walked_as kept deeds q
front_is kept deeds act p q e =
    ap (λ ds. told (walked_as kept [] p) p.trace ds) (append_assoc deeds (Does act ∷ []) (map Does p.acts))
    ∙ ap (walked_as kept deeds) (sym e)

-- the acts that a decision is played behind come before its own
acts_in_front :
    {A : Type 0} (d : Decision A) (tree : Value) (trace : List Mark) (acts : List Act)
    → play d tree trace acts ≡ behind [] acts (play d tree trace [])
acts_in_front d tree trace acts =
    plays_behind d tree trace acts ∙ ap (behind [] acts) (sym (plays_behind d tree trace []))

pub decisions_walk :
    {A : Type 0} (d : Decision A) (w : World) (trace : List Mark) (deeds : List Deed)
    → walk (walk_of d) w trace deeds ≡ walked_as w.kept deeds (play d w.tree trace [])
decisions_walk (Decided value) w trace deeds =
    told_same (walk (Ends value) w trace deeds) refl (sym (append-nil deeds))
decisions_walk (Asks site act next) w trace deeds =
    let answer : Done = (row act w.tree).answer in
    let marked : List Mark = trace ++ mark_at site act w.tree ∷ [] in
    let after : Value = tree_after act w.tree in
    decisions_walk (next answer) (after_act act w) marked (deeds ++ Does act ∷ [])
    ∙ front_is w.kept deeds act (play (next answer) after marked []) (play (next answer) after marked (act ∷ []))
    (acts_in_front (next answer) after marked (act ∷ []))

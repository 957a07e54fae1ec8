-- What is walked comes behind what was done before, and the trees of pairs are trees.
use Rattle.std.proofs.Common.{◌≡◌, ◌<◌, List, [], ◌∷◌, ◌++◌, length, get_or, length-append, IsTrue, refl, sym, ap, ◌∙◌, append_assoc, arith}
use Rattle.script_names.specs.declared.mark.Mark.{Mark}
use Rattle.feature_trees.specs.declared.value.Value.{Value}
use Rattle.feature_trees.specs.Sound.{IsTree, sound}
use Rattle.tree_clauses.specs.Literals.{Valuation, value_of_variable}
use Rattle.tree_clauses.proofs.Valuations.{sound_at}
use Rattle.utility_calls.specs.declared.deeds.Deed.{Deed}
use Rattle.utility_calls.specs.declared.deeds.Deed.TheVariants.{Does, Returns, Keeps}
use Rattle.utility_calls.specs.Acts.{row}
use Rattle.utility_calls.specs.Backs.{back_row}
use Rattle.utility_calls.specs.Decisions.{mark_at}
use Rattle.utility_calls.specs.Walks.{World, Walk, Ends, Acts, PutsBack, Keeping, Walked, walk, back_mark, after_act, after_back, after_keep}
use Rattle.clause_solver.specs.Stands.{Seen, Stands, Alive}
use Rattle.clause_solver.specs.Pairs.{HasPair}
use Rattle.case_paths.specs.declared.state.PathState.{PathState}
use Rattle.case_paths.specs.Steps.{world_of}
use Rattle.case_paths.proofs.Orders.{nil_right}

-- ---- pairs

pub some_pair : (s : Seen) → Alive s → (t : Value) × (u : Value) × HasPair s t u
some_pair s a = (a.0, value_of_variable a.1 s.current, (a.1, a.2, refl))

pub some_alive : (s : Seen) (t u : Value) → HasPair s t u → Alive s
some_alive s t u p = (t, p.0, p.1)

-- the tree now of a world of a state is a tree, and its kept tree is of the file tree's values
pub world_tree : (x : PathState) (t : Value) (g : Valuation) → Stands x.store t g → IsTree (world_of x g).tree
world_tree x t g h = record { dir = h.ends; sound = sound_at g x.store.current h.values }

pub world_sound : (x : PathState) (t : Value) (g : Valuation) → Stands x.store t g → IsTrue (sound (world_of x g).kept)
world_sound x t g h = sound_at g x.kept.0 h.values

-- ---- what is walked

-- what is walked begins with the trace and the deeds that it is walked behind
pub record Extends {A : Type 0} (p : Walked A) (trace : List Mark) (deeds : List Deed) : Type 0 where
  pub marks : List Mark
  pub trace_is : p.trace ≡ trace ++ marks
  pub more : List Deed
  pub deeds_is : p.deeds ≡ deeds ++ more

one_mark : {A : Type 0} (p : Walked A) (trace : List Mark) (mark : Mark) (deeds : List Deed) (deed : Deed) → Extends p (trace ++ mark ∷ []) (deeds ++ deed ∷ []) → Extends p trace deeds
one_mark p trace mark deeds deed h = record {
  marks = mark ∷ h.marks;
  trace_is = h.trace_is ∙ append_assoc trace (mark ∷ []) h.marks;
  more = deed ∷ h.more;
  deeds_is = h.deeds_is ∙ append_assoc deeds (deed ∷ []) h.more;
}

one_deed : {A : Type 0} (p : Walked A) (trace : List Mark) (deeds : List Deed) (deed : Deed) → Extends p trace (deeds ++ deed ∷ []) → Extends p trace deeds
one_deed p trace deeds deed h = record {
  marks = h.marks;
  trace_is = h.trace_is;
  more = deed ∷ h.more;
  deeds_is = h.deeds_is ∙ append_assoc deeds (deed ∷ []) h.more;
}

pub extends : {A : Type 0} (d : Walk A) (w : World) (trace : List Mark) (deeds : List Deed) → Extends (walk d w trace deeds) trace deeds
extends (Ends v) w trace deeds = record { marks = []; trace_is = sym (nil_right trace); more = []; deeds_is = sym (nil_right deeds) }
extends (Acts site act next) w trace deeds =
    one_mark (walk (Acts site act next) w trace deeds) trace (mark_at site act w.tree) deeds (Does act)
    (extends (next (row act w.tree).answer) (after_act act w) (trace ++ mark_at site act w.tree ∷ []) (deeds ++ Does act ∷ []))
extends (PutsBack site back next) w trace deeds =
    one_mark (walk (PutsBack site back next) w trace deeds) trace (back_mark site back w) deeds (Returns back)
    (extends (next (back_row back w.kept w.tree).answer) (after_back back w) (trace ++ back_mark site back w ∷ []) (deeds ++ Returns back ∷ []))
extends (Keeping next) w trace deeds =
    one_deed (walk (Keeping next) w trace deeds) trace deeds Keeps (extends next (after_keep w) trace (deeds ++ Keeps ∷ []))

get_between : {A : Type 0} (xs : List A) (y : A) (zs : List A) (d : A) → get_or (xs ++ (y ∷ zs)) (length xs) d ≡ y
get_between [] y zs d = refl
get_between (x ∷ xs) y zs d = get_between xs y zs d

-- what stands behind the first part of a list
pub between : {A : Type 0} (all xs : List A) (y : A) (zs : List A) → all ≡ (xs ++ y ∷ []) ++ zs → (length xs < length all) × ((o : A) → get_or all (length xs) o ≡ y)
between all xs y zs e =
    let f = e ∙ append_assoc xs (y ∷ []) zs in
    let k = ap length f ∙ length-append xs (y ∷ zs) in
    (omega (arith, k), λ o. ap (λ l. get_or l (length xs) o) f ∙ get_between xs y zs o)

-- a walk with no more deeds than were done before has ended
pub at_end : {A : Type 0} (rest : Walk A) (w : World) (trace : List Mark) (deeds : List Deed) → length (walk rest w trace deeds).deeds ≡ length deeds → (v : A) × (rest ≡ Ends v)
at_end (Ends v) w trace deeds e = (v, refl)
at_end (Acts site act next) w trace deeds e =
    let h = extends (next (row act w.tree).answer) (after_act act w) (trace ++ mark_at site act w.tree ∷ []) (deeds ++ Does act ∷ []) in
    let k = between _ deeds (Does act) h.more h.deeds_is in let lt = k.0 in absurd (omega (arith, lt, e))
at_end (PutsBack site back next) w trace deeds e =
    let h = extends (next (back_row back w.kept w.tree).answer) (after_back back w) (trace ++ back_mark site back w ∷ []) (deeds ++ Returns back ∷ []) in
    let k = between _ deeds (Returns back) h.more h.deeds_is in let lt = k.0 in absurd (omega (arith, lt, e))
at_end (Keeping next) w trace deeds e =
    let h = extends next (after_keep w) trace (deeds ++ Keeps ∷ []) in
    let k = between _ deeds Keeps h.more h.deeds_is in let lt = k.0 in absurd (omega (arith, lt, e))

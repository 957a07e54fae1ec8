-- Entries of a place are given their variables.
use Rattle.std.proofs.Common.{◌≡◌, ℕ, zero, suc, ◌+◌, ◌<◌, ◌≤◌, IsTrue, List, [], ◌∷◌, ◌++◌, length, take, refl, sym, ap, ◌∙◌, arith, inl, inr, get_or, subst}
use Rattle.std.proofs.lemmas.List.{take_all, length-append, length-take-le}
use Rattle.std.proofs.Math.Seq.{take-append_seam}
use Rattle.script_names.specs.Names.{is_name}
use Rattle.tree_clauses.specs.Literals.{Valuation}
use Rattle.clause_solver.specs.declared.lists.Lists.{Lists}
use Rattle.clause_solver.specs.declared.variable.Definition.TheVariants.{Child}
use Rattle.clause_solver.specs.declared.variable.Variable.{Variable}
use Rattle.clause_solver.specs.Variables.{var_at, Listed, Earlier, IsChild, defined, is_node}
use Rattle.clause_solver.specs.Appends.{IsAppended}
use Rattle.clause_solver.specs.Decided.{AreDecided}
use Rattle.clause_solver.specs.Emptied.{HasMore, HasItsVariable}
use Rattle.clause_solver.proofs.OneMore.{longer, old_at, new_at, append_down, append_up, sound_push, defined_sound}
use Rattle.clause_solver.proofs.ListSteps.{appended_decided}
use Rattle.clause_solver.proofs.Names.{last_cases}
use Rattle.clause_solver.proofs.Settles.{child_single}

pub take_less : (a b : ℕ) (g : Valuation) → a ≤ b → take a (take b g) ≡ take a g
take_less zero zero [] h = refl
take_less zero (suc b) [] h = refl
take_less (suc a) zero [] h = refl
take_less (suc a) (suc b) [] h = refl
take_less zero zero (x ∷ g) h = refl
take_less zero (suc b) (x ∷ g) h = refl
take_less (suc a) zero (x ∷ g) h = absurd (omega arith)
take_less (suc a) (suc b) (x ∷ g) h = ap (λ r. x ∷ r) (take_less a b g (omega arith))

pub more_itself : (vars : List Variable) → HasMore vars vars
more_itself vars = record {
  more = omega arith;
  old_at = λ i w. refl;
  down = λ g l fits. rw (take_all (length vars) g (omega (arith, l))) fits;
  up = λ g l s fits. (g, l, s, fits, take_all (length vars) g (omega (arith, l)));
}

pub more_twice : (a b c : List Variable) → HasMore a b → HasMore b c → HasMore a c
more_twice a b c first second =
    let less = first.more in
    let less' = second.more in
    record {
      more = omega (arith, less, less');
      old_at = λ i w. second.old_at i (omega (arith, w, less)) ∙ first.old_at i w;
      down = λ g l fits.
          let here = first.down (take (length b) g) (length-take-le (length b) g (omega (arith, l, less'))) (second.down g l fits) in
          rw (take_less (length a) (length b) g less) at here;
      up = λ g l s fits.
          let r = first.up g l s fits in
          let q = second.up r.0 r.1 r.2 r.3 in
          (q.0, q.1, q.2, q.3, sym (take_less (length a) (length b) q.0 less) ∙ ap (take (length a)) q.4 ∙ r.4);
    }

pub known_still : (a b : List Variable) (n : ℕ) (f : List ℕ) → HasMore a b → HasItsVariable a n f → HasItsVariable b n f
known_still a b n f m child =
    let w = child.1.0 in
    let less = m.more in
    (child.0, (omega (arith, w, less), ap (λ (v : Variable). v.definition) (m.old_at child.0 w) ∙ child.1.1))

module _ (a b : Lists) (n : ℕ) (f : List ℕ) (y : ℕ) (t : AreDecided a) (inside : n < length a.vars) (node : IsTrue (is_node (var_at a.vars n).definition)) (name : IsTrue (is_name f)) (none : (i : ℕ) → ¬ (IsChild a.vars n f i)) (is : IsAppended a (Child n f) b y) where
  before : Earlier a.vars (length a.vars) (Child n f)
  before = (inside, node, name)

  pub entered_decided : AreDecided b
  entered_decided = appended_decided a b y (Child n f) t before (child_single a.vars n f none) is

  pub entered_more : HasMore a.vars b.vars
  entered_more =
      let long = longer a.vars t.order (Child n f) before in
      rw is.variable (record {
        more = rw long (omega arith);
        old_at = λ i w. old_at a.vars t.order (Child n f) before i w;
        down = λ g l fits. (append_down a.vars t.order (Child n f) before g fits).0;
        up = λ g l s fits.
            let v = defined g (Child n f) in (
              g ++ v ∷ [],
              rw (long, length-append g (v ∷ [])) (ap (λ k. k + 1) l),
              sound_push g v s (defined_sound a.vars (length a.vars) g (Child n f) before s),
              append_up a.vars t.order (Child n f) before g l fits,
              rw (sym l) (take-append_seam g (v ∷ [])),
            );
      })

  pub entered_known : HasItsVariable b.vars n f
  entered_known =
      rw is.variable (
        length a.vars,
        (rw (longer a.vars t.order (Child n f) before) (omega arith), ap (λ (v : Variable). v.definition) (new_at a.vars t.order (Child n f) before)),
      )

-- every name of a list has its place there
listed_index : (f : List ℕ) (names : List (List ℕ)) → Listed f names → (k : ℕ) × (k < length names) × (get_or names k [] ≡ f)
listed_index f [] l = absurd l
listed_index f (g ∷ gs) l = elim l [
  | inl e ↦ (0, omega arith, sym e)
  | inr r ↦ let q = listed_index f gs r in (suc q.0, let w = q.1 in omega arith, q.2)
]

pub all_known : (vars : List Variable) (n : ℕ) (names : List (List ℕ)) → ((k : ℕ) → k < length names → HasItsVariable vars n (get_or names k [])) → (f : List ℕ) → Listed f names → HasItsVariable vars n f
all_known vars n names h f l = let q = listed_index f names l in subst (HasItsVariable vars n) q.2 (h q.0 q.1)

pub known_next : (a b : List Variable) (n : ℕ) (names : List (List ℕ)) (i : ℕ) → HasMore a b → ((k : ℕ) → k < i → HasItsVariable a n (get_or names k [])) → HasItsVariable b n (get_or names i []) → (k : ℕ) → k < i + 1 → HasItsVariable b n (get_or names k [])
known_next a b n names i m before last k w = elim (last_cases k i w) [
  | inl low ↦ known_still a b n (get_or names k []) m (before k low)
  | inr e ↦ subst (λ j. HasItsVariable b n (get_or names j [])) (sym e) last
]

-- the place stays a place
pub node_still : (a b : List Variable) (n : ℕ) → n < length a → HasMore a b → IsTrue (is_node (var_at a n).definition) → IsTrue (is_node (var_at b n).definition)
node_still a b n w m node = rw (m.old_at n w) node

same_inside : (names : List (List ℕ)) (i : ℕ) (a b : List ℕ) → i < length names → get_or names i a ≡ get_or names i b
same_inside [] i a b w = absurd (omega arith)
same_inside (n ∷ ns) zero a b w = refl
same_inside (n ∷ ns) (suc i) a b w = same_inside ns i a b (omega arith)

-- what is known of the item that is read
pub item_known : (vars : List Variable) (n : ℕ) (names : List (List ℕ)) (i : ℕ) (item : List ℕ) → i < length names → item ≡ get_or names i item → HasItsVariable vars n item → HasItsVariable vars n (get_or names i [])
item_known vars n names i item w is h = subst (HasItsVariable vars n) (is ∙ same_inside names i item [] w) h

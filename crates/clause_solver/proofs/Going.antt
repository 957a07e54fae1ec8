-- From a step of a draft to the literals that are left.
use Rattle.std.proofs.Common.{◌≡◌, ◌≢◌, ℕ, ◌↔◌, inl, inr, Some, None, List, ◌∷◌, Contains, refl, sym}
use Rattle.tree_clauses.specs.declared.clause.Literal.{Literal}
use Rattle.tree_clauses.specs.Literals.{Valuation, value_of_variable, MeetsAll, IsSound}
use Rattle.tree_clauses.specs.Plain.{PlainOrder}
use Rattle.tree_clauses.proofs.Orders.{contains_head, contains_tail, contains_cases}
use Rattle.clause_solver.specs.declared.drafts.Draft.{Draft}
use Rattle.clause_solver.specs.declared.variable.Definition.{Definition}
use Rattle.clause_solver.specs.Variables.{defined}
use Rattle.clause_solver.specs.Drafts.{Places, place_in, IsPlaced, Says, Makes, GoesOn}
use Rattle.clause_solver.proofs.Names.{nat_cases}
use Rattle.clause_solver.proofs.Drafting.{narrowed, grown}

-- the known variables are those that have a place
abbrev pub ArePlaced : List ℕ → Places → Type 0
ArePlaced known places = (x : ℕ) → Contains known x ↔ IsPlaced (places x)

-- one variable more is made known by literals, each of which says what a definition says or what was said before
pub record Turn (v : ℕ) (d : Definition) (before : List Literal) (known : List ℕ) (rest more : List Literal) (after : List ℕ) : Type 0 where
  pub added : List Literal
  pub none : ¬ (Contains known v)
  pub order : PlainOrder added (v ∷ known) more after
  pub says : (h : Valuation) → IsSound h → MeetsAll h added ↔ ((value_of_variable h v ≡ defined h d) × MeetsAll h before)
  pub split : (h : Valuation) → (MeetsAll h before × MeetsAll h rest) ↔ (MeetsAll h added × MeetsAll h more)

unplaced : (places : Places) (v : ℕ) → ¬ (IsPlaced (places v)) → places v ≡ None
unplaced places v free = by_place (places v) free
  where
    by_place : (place : _) → ¬ (IsPlaced place) → place ≡ None
    by_place None free = refl
    by_place (Some n) free = absurd (free tt)

-- one place more
more_placed : (known : List ℕ) (old new : Places) (v place : ℕ) → ArePlaced known old → new v ≡ Some place → ((x : ℕ) → x ≢ v → new x ≡ old x) → ArePlaced (v ∷ known) new
more_placed known old new v place are here other x = elim (nat_cases x v) [
  | inl e ↦ (λ c. rw (e, here) tt, λ p. rw e (contains_head v known))
  | inr ne ↦ (
    λ c. elim (contains_cases v x known c) [
      | inl e ↦ absurd (ne (sym e))
      | inr d ↦ rw (other x ne) ((are x).0 d)
    ],
    λ p. contains_tail v x known ((are x).1 (rw (other x ne) at p)),
  )
]

module _ (a b : Draft) where
  -- a literal on variables that have a place
  pub said : (literal : Literal) (rest : List Literal) → Says a b literal
      → ((before : List Literal) (known after : List ℕ) → PlainOrder before known (literal ∷ rest) after → ArePlaced known (place_in a) → PlainOrder (literal ∷ before) known rest after)
      → GoesOn a (literal ∷ rest) b rest
  said literal rest s order old given literals after g = record {
    before = literal ∷ g.before;
    known = g.known;
    order = order g.before g.known after g.order g.placed;
    split = λ h. (
      λ m. let p = (g.split h).0 m in ((p.1.0, p.0), p.1.1),
      λ q. (g.split h).1 (q.0.1, (q.0.0, q.1)),
    );
    placed = λ x. rw s.same (g.placed x);
    leaves = rw s.same (narrowed old a.lists.vars b.lists.vars given g.before (place_in a) g.leaves g.steady.inside literal s.here s.narrows s.is);
    steady = s.steady;
  }

  -- a variable that gets a place
  pub made : (v : ℕ) (d : Definition) (rest more : List Literal) → Makes a b v d
      → ((before : List Literal) (known after : List ℕ) → PlainOrder before known rest after → ArePlaced known (place_in a) → Turn v d before known rest more after)
      → GoesOn a rest b more
  made v d rest more m turns old given literals after g =
      let turn = turns g.before g.known after g.order g.placed in
      let none : place_in a v ≡ None = unplaced (place_in a) v (λ p. turn.none ((g.placed v).1 p)) in
      record {
        before = turn.added;
        known = v ∷ g.known;
        order = turn.order;
        split = λ h. (
          λ q. (turn.split h).0 ((g.split h).0 q),
          λ q. (g.split h).1 ((turn.split h).1 q),
        );
        placed = more_placed g.known (place_in a) (place_in b) v m.place g.placed m.here m.other;
        leaves = grown old a.lists.vars b.lists.vars given g.before (place_in a) g.leaves g.steady.inside (place_in b) v m.place d none m.here m.other turn.added m.keeps m.is turn.says;
        steady = m.steady;
      }

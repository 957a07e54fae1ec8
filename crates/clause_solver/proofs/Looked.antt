-- What a look along a case comes to.
use Rattle.std.proofs.Common.{◌≡◌, ℕ, ◌<◌, ◌⊎◌, inl, inr, IsTrue, List, ◌∷◌, length, sym, ap, ◌∙◌}
use Rattle.feature_trees.specs.declared.kind.Kinds.{Kinds}
use Rattle.feature_trees.specs.declared.value.Value.{Value}
use Rattle.feature_trees.specs.Kinds.{has}
use Rattle.feature_trees.specs.Tree.{entry, kind_of}
use Rattle.tree_clauses.specs.declared.case.Case.{Case}
use Rattle.tree_clauses.specs.declared.clause.Literal.{Literal}
use Rattle.tree_clauses.specs.declared.clause.Literal.TheVariants as L
use Rattle.tree_clauses.specs.declared.clause.Var.{Var}
use Rattle.tree_clauses.specs.Literals.{Valuation, value_of_variable, MeetsAll, IsSound}
use Rattle.clause_solver.specs.declared.looking.Looked.TheVariants.{Excluded, At}
use Rattle.clause_solver.specs.Adds.{given_at, AllInside, Begins, LeadsNowhereFrom}
use Rattle.clause_solver.specs.Looking.{GoesWith, Shows}
use Rattle.clause_solver.specs.Stands.{Seen, Stands, HasEntry}

-- y stands for m: it is x, which stands for n, or a given variable
abbrev pub IsPlace : List Var → Var → Var → Var → Var → Type 0
IsPlace given x n y m = ((y ≡ x) × (m ≡ n)) ⊎ ((y.0 < length given) × (m.0 ≡ given_at given y.0))

module _ (s : Seen) (given : List Var) (x n y m : Var) (is : IsPlace given x n y m) where
  pub place_same : (g h : Valuation) → GoesWith given x.0 n.0 g h → value_of_variable h y.0 ≡ value_of_variable g m.0
  place_same g h w = elim is [
    | inl e ↦ ap (λ (v : Var). value_of_variable h v.0) e.0 ∙ w.same ∙ ap (λ (v : Var). value_of_variable g v.0) (sym e.1)
    | inr e ↦ w.starts y.0 e.0 ∙ ap (value_of_variable g) (sym e.1)
  ]

  pub place_known : AllInside given s.count → n.0 < s.count → m.0 < s.count
  place_known inside known = elim is [
    | inl e ↦ rw e.1 known
    | inr e ↦ rw e.1 (inside y.0 e.0)
  ]

  pub shows_excluded : (k : Kinds) → ((t : Value) (g : Valuation) → Stands s t g → IsTrue (has k (kind_of (value_of_variable g m.0))) → ⊥) → Shows s given x.0 n.0 (L.Kind y k) Excluded
  shows_excluded k none t g h st w meets = none t g st (rw (place_same g h w) at meets)

  pub shows_entry : (f : List ℕ) (z l : Var) → HasEntry s m.0 f l.0 → Shows s given x.0 n.0 (L.Entry y f z) (At z l)
  shows_entry f z l e = (e.known, λ t g h st w meets. meets ∙ ap (λ v. entry v f) (place_same g h w) ∙ sym (e.is t g st))

-- x still stands for n
pub shows_nothing : (s : Seen) (given : List Var) (x n : Var) (literal : Literal) → n.0 < s.count → Shows s given x.0 n.0 literal (At x n)
shows_nothing s given x n literal known = (known, λ t g h st w meets. w.same)

-- on the way
pub record IsLooking (s : Seen) (given : List Var) (made : Case) (x n : ℕ) (rest : List Literal) : Type 0 where
  pub known : n < s.count
  pub stands : (t : Value) (g h : Valuation) → Stands s t g → IsSound h → Begins given g h → MeetsAll h made.literals → value_of_variable h x ≡ value_of_variable g n
  pub left : (h : Valuation) → MeetsAll h made.literals → MeetsAll h rest

pub looks_first : (s : Seen) (given : List Var) (made : Case) (n : Var) → 0 < length given → n.0 ≡ given_at given 0 → AllInside given s.count → IsLooking s given made 0 n.0 made.literals
looks_first s given made n some e inside = record {
  known = rw e (inside 0 some);
  stands = λ t g h st sound starts m. starts 0 some ∙ ap (value_of_variable g) (sym e);
  left = λ h m. m;
}

pub looks_on : (s : Seen) (given : List Var) (made : Case) (x n : ℕ) (y m : Var) (literal : Literal) (left rest : List Literal) → left ≡ literal ∷ rest → IsLooking s given made x n left → Shows s given x n literal (At y m) → IsLooking s given made y.0 m.0 rest
looks_on s given made x n y m literal left rest e l shows = record {
  known = shows.0;
  stands = λ t g h st sound starts all.
      let here : MeetsAll h (literal ∷ rest) = rw e at (l.left h all) in
      shows.1 t g h st (record { values = sound; starts = starts; same = l.stands t g h st sound starts all }) here.0;
  left = λ h all. let here : MeetsAll h (literal ∷ rest) = rw e at (l.left h all) in here.1;
}

pub looks_dead : (s : Seen) (given : List Var) (made : Case) (x n : ℕ) (literal : Literal) (left rest : List Literal) → left ≡ literal ∷ rest → IsLooking s given made x n left → Shows s given x n literal Excluded → LeadsNowhereFrom s given made
looks_dead s given made x n literal left rest e l shows t g v st leads =
    let h = leads.valuation in
    let here : MeetsAll h (literal ∷ rest) = rw e at (l.left h leads.met) in
    shows t g h st (record { values = leads.values; starts = leads.starts; same = l.stands t g h st leads.values leads.starts leads.met }) here.0

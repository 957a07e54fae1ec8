-- The facts of a clause hold: what is said of variables is so under each valuation that meets the literals.
use Rattle.std.proofs.Common.{◌≡◌, ◌≢◌, ℕ, zero, suc, ◌<◌, ◌⊎◌, inl, inr, Bool, true, false, IsTrue, List, [], ◌∷◌, ◌++◌, length}
use Rattle.std.proofs.Common.{Option, Some, None, refl, sym, ap, subst, arith, ◌∙◌}
use Rattle.std.specs.Prelude.{not, ◌||◌, ◌==◌, is_some, if◌then◌else◌, Contains, All}
use Rattle.std.specs.List.{filter}
use Rattle.std.specs.Str.{bytes_eq}
use Rattle.std.proofs.lemmas.Bool.Decides.{Decides-eqb}
use Rattle.std.proofs.lemmas.Slice.Eq.{bytes_eq-Decides}
use Rattle.std.proofs.lemmas.List.{append-nil}
use Rattle.std.proofs.lemmas.List.Elements.{All-cons, Contains-append_left, Contains-append_right, Contains-append_cases}
use Rattle.feature_trees.specs.declared.kind.Kind.{Kind as AnyKind}
use Rattle.feature_trees.specs.declared.kind.Kind.TheVariants as kind
use Rattle.feature_trees.specs.declared.kind.Kinds.{Kinds}
use Rattle.feature_trees.specs.declared.kind.Special.TheVariants.{Fifo, Socket, Block, Char}
use Rattle.feature_trees.specs.declared.value.Value.{Value}
use Rattle.feature_trees.specs.declared.value.Value.TheVariants as value
use Rattle.feature_trees.specs.Kinds.{has}
use Rattle.feature_trees.specs.Tree.{at, entry, kind_of}
use Rattle.feature_trees.proofs.Laws.{at-append}
use Rattle.tree_clauses.specs.declared.clause.Literal.{Literal}
use Rattle.tree_clauses.specs.declared.clause.Literal.TheVariants.{Entry, Kind, Fence, NotEmpty, Similar, Target}
use Rattle.tree_clauses.specs.declared.clause.Clause.{Clause}
use Rattle.tree_clauses.specs.Literals.{Valuation, value_of_variable, Meets, MeetsAll, Covers, CoversTree}
use Rattle.tree_clauses.proofs.Orders.{contains_head, contains_tail, contains_cases, contains_nothing}
use Rattle.tree_clauses.proofs.Edited.{has_or_not}
use Rattle.start_facts.specs.declared.fact.Fact.{Fact}
use Rattle.start_facts.specs.declared.fact.Fact.TheVariants as fact
use Rattle.start_facts.specs.declared.fact.PlaceFact.{PlaceFact}
use Rattle.start_facts.specs.declared.standing.Standing.{Standing}
use Rattle.start_facts.specs.PlaceFacts.{Says, Holds}
use Rattle.start_facts.specs.Standings.{Seen, after, begins, closed, entered, entry_of, placed, similar_to, without}
use Rattle.start_facts.specs.Standings.{whole_at, with_standing, are_nothing}
use Rattle.start_facts.specs.ClauseFacts.{literal_fact, facts_behind, facts_of, before, at_place, on_whole, on_fenced}
use Rattle.start_facts.specs.ClauseFacts.{on_filled, beside, FactsHold}

-- ---- names

kept_more : (b : Bool) (g h : List ℕ) (names : List (List ℕ)) → Contains names g → Contains (if b then h ∷ names else names) g
kept_more true g h names c = contains_tail h g names c
kept_more false g h names c = c

kept_first : (b : Bool) (g h : List ℕ) (names : List (List ℕ)) → b ≡ true → h ≡ g → Contains (if b then h ∷ names else names) g
kept_first true g h names e same = subst (λ k. Contains (h ∷ names) k) same (contains_head h names)
kept_first false g h names e same = cc

-- a name that is another one is among those that are left
still_there : (f g : List ℕ) (names : List (List ℕ)) → bytes_eq f g ≡ false → Contains names g
    → Contains (filter (λ h. not (bytes_eq f h)) names) g
still_there f g [] e c = absurd (contains_nothing g c)
still_there f g (h ∷ names) e c = elim (contains_cases h g names c) [
  | inl same ↦ kept_first (not (bytes_eq f h)) g h _ (ap not (ap (bytes_eq f) same ∙ e)) same
  | inr more ↦ kept_more (not (bytes_eq f h)) g h _ (still_there f g names e more)
]

-- a name that is not among those that are left is the one left out, or was not among all
left_out : (f g : List ℕ) (names : List (List ℕ)) → Contains names g
    → ¬ (Contains (filter (λ h. not (bytes_eq f h)) names) g) → f ≡ g
left_out f g names c away = step (bytes_eq f g) refl
  where
    step : (b : Bool) → bytes_eq f g ≡ b → f ≡ g
    step true e = (bytes_eq-Decides f g).0 e
    step false e = absurd (away (still_there f g names e c))

-- one name more, which is the one left out, or is not
pub same_left_out : (f : List ℕ) (others : List (List ℕ)) → others ≡ others ++ filter (λ h. not (bytes_eq f h)) (f ∷ [])
same_left_out f others = step (bytes_eq f f) ((bytes_eq-Decides f f).1 refl)
  where
    step : (b : Bool) → b ≡ true → others ≡ others ++ (if not b then f ∷ [] else [])
    step true e = sym (append-nil others)
    step false e = cc

pub other_is_kept : (f g : List ℕ) (others : List (List ℕ)) → (f ≡ g → ⊥) → others ++ g ∷ [] ≡ others ++ filter (λ h. not (bytes_eq f h)) (g ∷ [])
other_is_kept f g others ne = step (bytes_eq f g) refl
  where
    step : (b : Bool) → bytes_eq f g ≡ b → others ++ g ∷ [] ≡ others ++ (if not b then g ∷ [] else [])
    step true e = absurd (ne ((bytes_eq-Decides f g).0 e))
    step false e = refl

-- ---- where variables stand

-- a value had what a standing says, beside the value at its place
pub record Has (there v : Value) (standing : Standing) : Type 0 where
  pub whole : IsTrue standing.whole → v ≡ there
  pub same : (f : List ℕ) → ¬ (Contains standing.but f) → entry v f ≡ entry there f
  pub none : (f : List ℕ) → Contains standing.but f → ¬ (Contains standing.left f) → entry v f ≡ value.Absent

-- the value stands so, where that is known
abbrev pub HasOption : Value → Value → Option Standing → Type 0
HasOption tree v None = Unit {0}
HasOption tree v (Some standing) = Has (at tree standing.place) v standing

-- what is said is so under a valuation whose start is the tree
pub record IsSo (g : Valuation) (tree : Value) (seen : Seen) : Type 0 where
  pub stands : (x : ℕ) → HasOption tree (value_of_variable g x) (seen.stands x)
  pub nothing : (x : ℕ) → IsTrue (seen.nothing x) → value_of_variable g x ≡ value.Absent

module _ (g : Valuation) (tree : Value) where
  -- all variables stand so
  abbrev Stand : (ℕ → Option Standing) → Type 0
  Stand stands = (x : ℕ) → HasOption tree (value_of_variable g x) (stands x)

  whole_has : (place : List (List ℕ)) (v : Value) → v ≡ at tree place → HasOption tree v (Some (whole_at place))
  whole_has place v e = record {
    whole = λ t. e;
    same = λ f out. ap (λ (w : Value). entry w f) e;
    none = λ f c out. absurd (contains_nothing f c);
  }

  with_stands : (stands : ℕ → Option Standing) (y : ℕ) (standing : Standing) → Stand stands
      → HasOption tree (value_of_variable g y) (Some standing) → Stand (with_standing stands y standing)
  with_stands stands y standing all one = λ x. step x (y == x) refl
    where
      step : (x : ℕ) (b : Bool) → (y == x) ≡ b → HasOption tree (value_of_variable g x) (if b then Some standing else stands x)
      step x true e = subst (λ z. HasOption tree (value_of_variable g z) (Some standing)) ((Decides-eqb y x).0 e) one
      step x false e = all x

  placed_stands : (stands : ℕ → Option Standing) (y : ℕ) (o : Option Standing) → Stand stands
      → HasOption tree (value_of_variable g y) o → Stand (placed stands y o)
  placed_stands stands y None all one = all
  placed_stands stands y (Some standing) all one = step (is_some (stands y))
    where
      step : (b : Bool) → Stand (if b then stands else with_standing stands y standing)
      step true = all
      step false = with_stands stands y standing all one

  below_has : (o : Option Standing) (f : List ℕ) (v w : Value) → HasOption tree v o → w ≡ entry v f → HasOption tree w (entry_of o f)
  below_has None f v w had e = tt
  below_has (Some standing) f v w had e = step standing.whole refl
    where
      step : (b : Bool) → standing.whole ≡ b → HasOption tree w (if b then Some (whole_at (standing.place ++ f ∷ [])) else None)
      step true t = whole_has (standing.place ++ f ∷ []) w (e ∙ ap (λ (u : Value). entry u f) (had.whole t) ∙ sym (at-append tree standing.place (f ∷ [])))
      step false t = tt

  similar_has : (o : Option Standing) (names : List (List ℕ)) (v w : Value) → HasOption tree v o
      → ((f : List ℕ) → ¬ (Contains names f) → entry w f ≡ entry v f) → HasOption tree w (similar_to o names)
  similar_has None names v w had agrees = tt
  similar_has (Some standing) names v w had agrees = record {
    whole = λ (t : false ≡ true). cc;
    same = λ f out. agrees f (λ c. out (Contains-append_right standing.but names f c)) ∙ had.same f (λ c. out (Contains-append_left standing.but names f c));
    none = λ f c out. none f (Contains-append_cases standing.but names f c) out;
  }
    where
      none : (f : List ℕ) → Contains standing.but f ⊎ Contains names f → ¬ (Contains (standing.left ++ names) f) → entry w f ≡ value.Absent
      none f (inl c) out = agrees f (λ d. out (Contains-append_right standing.left names f d)) ∙ had.none f c (λ d. out (Contains-append_left standing.left names f d))
      none f (inr c) out = absurd (out (Contains-append_right standing.left names f c))

  without_has : (standing : Standing) (f : List ℕ) (v : Value) → entry v f ≡ value.Absent → HasOption tree v (Some standing)
      → HasOption tree v (Some (without f standing))
  without_has standing f v e had = record {
    whole = had.whole;
    same = had.same;
    none = λ h c out. none h c out (has_or_not h standing.left);
  }
    where
      none : (h : List ℕ) → Contains standing.but h → ¬ (Contains (filter (λ k. not (bytes_eq f k)) standing.left) h)
          → Contains standing.left h ⊎ ¬ (Contains standing.left h) → entry v h ≡ value.Absent
      none h c out (inl there) = subst (λ k. entry v k ≡ value.Absent) (left_out f h standing.left there out) e
      none h c out (inr away) = had.none h c away

  closed_stands : (stands : ℕ → Option Standing) (x : ℕ) (f : List ℕ) (o : Option Standing) → Stand stands
      → HasOption tree (value_of_variable g x) o → entry (value_of_variable g x) f ≡ value.Absent → Stand (closed stands x f o)
  closed_stands stands x f None all one e = all
  closed_stands stands x f (Some standing) all one e = with_stands stands x (without f standing) all (without_has standing f (value_of_variable g x) e one)

  more_stands : (seen : Seen) (x : ℕ) (f : List ℕ) (y : ℕ) → IsSo g tree seen
      → value_of_variable g y ≡ entry (value_of_variable g x) f → Stand (placed seen.stands y (entry_of (seen.stands x) f))
  more_stands seen x f y so e =
      placed_stands seen.stands y (entry_of (seen.stands x) f) so.stands
      (below_has (seen.stands x) f (value_of_variable g x) (value_of_variable g y) (so.stands x) e)

  entered_stands : (seen : Seen) (x : ℕ) (f : List ℕ) (y : ℕ) → IsSo g tree seen
      → value_of_variable g y ≡ entry (value_of_variable g x) f → Stand (entered seen x f y)
  entered_stands seen x f y so e = step (seen.nothing y) refl
    where
      step : (b : Bool) → seen.nothing y ≡ b
          → Stand (if b then closed (placed seen.stands y (entry_of (seen.stands x) f)) x f (placed seen.stands y (entry_of (seen.stands x) f) x) else placed seen.stands y (entry_of (seen.stands x) f))
      step true t = closed_stands _ x f (placed seen.stands y (entry_of (seen.stands x) f) x) (more_stands seen x f y so e) (more_stands seen x f y so e x) (sym e ∙ so.nothing y t)
      step false t = more_stands seen x f y so e

-- ---- kinds that are nothing at most

differ : true ≡ false → ⊥
differ e = cc

or_false : (b c : Bool) → IsTrue (not (b || c)) → (b ≡ false) × IsTrue (not c)
or_false true c t = let bad : false ≡ true = t in cc
or_false false c t = (refl, t)

not_false : (b : Bool) → IsTrue (not b) → b ≡ false
not_false true t = let bad : false ≡ true = t in cc
not_false false t = refl

nothing_is : (v : Value) (s : Kinds) → IsTrue (are_nothing s) → IsTrue (has s (kind_of v)) → v ≡ value.Absent
nothing_is value.Absent s t h = refl
nothing_is value.Reg s t h = absurd (differ (sym h ∙ (or_false s.reg _ t).0))
nothing_is (value.Link b) s t h = absurd (differ (sym h ∙ (or_false s.link _ (or_false s.reg _ t).1).0))
nothing_is (value.Special Fifo) s t h = absurd (differ (sym h ∙ (or_false s.fifo _ (or_false s.link _ (or_false s.reg _ t).1).1).0))
nothing_is (value.Special Socket) s t h =
    absurd (differ (sym h ∙ (or_false s.socket _ (or_false s.fifo _ (or_false s.link _ (or_false s.reg _ t).1).1).1).0))
nothing_is (value.Special Block) s t h =
    absurd (differ (sym h ∙ (or_false s.block _ (or_false s.socket _ (or_false s.fifo _ (or_false s.link _ (or_false s.reg _ t).1).1).1).1).0))
nothing_is (value.Special Char) s t h =
    absurd (differ (sym h ∙ (or_false s.char _ (or_false s.block _ (or_false s.socket _ (or_false s.fifo _ (or_false s.link _ (or_false s.reg _ t).1).1).1).1).1).0))
nothing_is (value.Dir es) s t h =
    absurd (differ (sym h ∙ not_false s.dir (or_false s.char _ (or_false s.block _ (or_false s.socket _ (or_false s.fifo _ (or_false s.link _ (or_false s.reg _ t).1).1).1).1).1).1))

-- ---- literals

module _ (g : Valuation) (tree : Value) where
  limited : (seen : Seen) (x : ℕ) (kinds : Kinds) → IsSo g tree seen → IsTrue (has kinds (kind_of (value_of_variable g x)))
      → (b : Bool) → are_nothing kinds ≡ b → (y : ℕ)
      → IsTrue ((if b then (λ (z : ℕ). (x == z) || seen.nothing z) else seen.nothing) y) → value_of_variable g y ≡ value.Absent
  limited seen x kinds so meets true t y said = step (x == y) refl said
    where
      step : (b : Bool) → (x == y) ≡ b → IsTrue (b || seen.nothing y) → value_of_variable g y ≡ value.Absent
      step true e s = subst (λ z. value_of_variable g z ≡ value.Absent) ((Decides-eqb x y).0 e) (nothing_is (value_of_variable g x) kinds t meets)
      step false e s = so.nothing y s
  limited seen x kinds so meets false t y said = so.nothing y said

  after_so : (seen : Seen) (literal : Literal) → IsSo g tree seen → Meets g literal → IsSo g tree (after seen literal)
  after_so seen (Entry x f y) so meets = record { stands = entered_stands g tree seen x.0 f y.0 so meets; nothing = so.nothing }
  after_so seen (Kind x kinds) so meets = record { stands = so.stands; nothing = limited seen x.0 kinds so meets (are_nothing kinds) refl }
  after_so seen (Fence x names) so meets = so
  after_so seen (NotEmpty x) so meets = so
  after_so seen (Similar y names x) so meets = record {
    stands = placed_stands g tree seen.stands y.0 (similar_to (seen.stands x.0) names) so.stands
        (similar_has g tree (seen.stands x.0) names (value_of_variable g x.0) (value_of_variable g y.0) (so.stands x.0) meets.1);
    nothing = so.nothing;
  }
  after_so seen (Target x target) so meets = so

  -- ---- facts

  abbrev HoldsOption : Option PlaceFact → Type 0
  HoldsOption None = Unit {0}
  HoldsOption (Some f) = Holds tree f

  whole_holds : (o : Option Standing) (v : Value) (said : Fact) → HasOption tree v o → Says said v → HoldsOption (on_whole o said)
  whole_holds None v said had says = tt
  whole_holds (Some standing) v said had says = step standing.whole refl
    where
      step : (b : Bool) → standing.whole ≡ b → HoldsOption (if b then at_place standing said else None)
      step true t = subst (Says said) (had.whole t) says
      step false t = tt

  fenced_holds : (o : Option Standing) (v : Value) (names : List (List ℕ)) → HasOption tree v o → Says (fact.Fence names) v
      → HoldsOption (on_fenced o names)
  fenced_holds None v names had says = tt
  fenced_holds (Some standing) v names had says = λ f out.
      sym (had.same f (λ c. out (Contains-append_left standing.but names f c)))
      ∙ says f (λ c. out (Contains-append_right standing.but names f c))

  beside_holds : (standing : Standing) (left : List (List ℕ)) (v : Value) → standing.left ≡ left → HasOption tree v (Some standing)
      → Meets (v ∷ []) (NotEmpty (record { 0 = 0 })) → HoldsOption (beside standing left)
  beside_holds standing (f ∷ left) v e had says = tt
  beside_holds standing [] v e had says = (says.0, (away, λ none. says.1 (had.same says.0 away ∙ none)))
    where
      away : ¬ (Contains standing.but says.0)
      away c = says.1 (had.none says.0 c (λ there. contains_nothing says.0 (subst (λ l. Contains l says.0) e there)))

  filled_holds : (o : Option Standing) (v : Value) → HasOption tree v o → Meets (v ∷ []) (NotEmpty (record { 0 = 0 })) → HoldsOption (on_filled o)
  filled_holds None v had says = tt
  filled_holds (Some standing) v had says = beside_holds standing standing.left v refl had says

  literal_holds : (seen : Seen) (literal : Literal) → IsSo g tree seen → Meets g literal → HoldsOption (literal_fact seen literal)
  literal_holds seen (Entry x f y) so meets = tt
  literal_holds seen (Kind x kinds) so meets = whole_holds (seen.stands x.0) (value_of_variable g x.0) (fact.Kinds kinds) (so.stands x.0) meets
  literal_holds seen (Fence x names) so meets = fenced_holds (seen.stands x.0) (value_of_variable g x.0) names (so.stands x.0) meets
  literal_holds seen (NotEmpty x) so meets = filled_holds (seen.stands x.0) (value_of_variable g x.0) (so.stands x.0) meets
  literal_holds seen (Similar y names x) so meets = tt
  literal_holds seen (Target x target) so meets = whole_holds (seen.stands x.0) (value_of_variable g x.0) (fact.Target target) (so.stands x.0) meets

  before_holds : (o : Option PlaceFact) (facts : List PlaceFact) → HoldsOption o → All (Holds tree) facts → All (Holds tree) (before o facts)
  before_holds None facts one all = all
  before_holds (Some f) facts one all = All-cons (Holds tree) f facts one all

  all_hold : (seen : Seen) (literals : List Literal) → IsSo g tree seen → MeetsAll g literals → All (Holds tree) (facts_behind seen literals)
  all_hold seen [] so meets = λ k d lt. absurd (omega arith)
  all_hold seen (literal ∷ literals) so meets =
      before_holds (literal_fact seen literal) (facts_behind (after seen literal) literals) (literal_holds seen literal so meets.0)
      (all_hold (after seen literal) literals (after_so seen literal so meets.0) meets.1)

begins_so : (g : Valuation) (tree : Value) (start : ℕ) → value_of_variable g start ≡ tree → IsSo g tree (begins start)
begins_so g tree start e = record {
  stands = with_stands g tree (λ x. None) start (whole_at []) (λ x. tt) (whole_has g tree [] (value_of_variable g start) e);
  nothing = λ x (t : false ≡ true). cc;
}

pub facts_hold : FactsHold
facts_hold clause tree covers =
    let it : Covers clause tree covers.0 = covers.1 in
    all_hold it.valuation tree (begins clause.start.0) clause.literals (begins_so it.valuation tree clause.start.0 it.starts) it.met

-- Names that are kept of the variables alone that are asked for them leave the facts of literals as they are.
use Rattle.std.proofs.Common.{◌≡◌, ℕ, Bool, true, false, List, [], ◌∷◌, ◌++◌, drop, Option, Some, None, refl, sym, ap, subst, ◌∙◌}
use Rattle.std.specs.Prelude.{◌||◌, ◌==◌, is_some, if◌then◌else◌}
use Rattle.std.proofs.lemmas.Bool.Decides.{Decides-eqb}
use Rattle.tree_clauses.specs.declared.clause.Literal.{Literal}
use Rattle.tree_clauses.specs.declared.clause.Literal.TheVariants.{Entry, Kind, Fence, NotEmpty, Similar, Target}
use Rattle.tree_clauses.specs.declared.clause.Clause.{Clause}
use Rattle.start_facts.specs.declared.fact.Fact.{Fact}
use Rattle.start_facts.specs.declared.fact.Fact.TheVariants as fact
use Rattle.start_facts.specs.declared.fact.PlaceFact.{PlaceFact}
use Rattle.start_facts.specs.declared.standing.Standing.{Standing}
use Rattle.start_facts.specs.Standings.{Seen, after, begins, closed, entered, entry_of, placed, similar_to, without}
use Rattle.start_facts.specs.Standings.{with_standing, are_nothing}
use Rattle.start_facts.specs.ClauseFacts.{literal_fact, facts_behind, facts_of, before, on_whole, on_fenced, on_filled}
use Rattle.start_facts.specs.Asked.{with_one, asked_by, asked_of, similar_if, after_with}

-- the facts of literals behind others, where names are kept of these variables
abbrev pub facts_with : (ℕ → Bool) → Seen → List Literal → List PlaceFact
facts_with kept seen [] = []
facts_with kept seen (literal ∷ literals) =
    before (literal_fact seen literal) (facts_with kept (after_with kept seen literal) literals)

-- ---- a standing without its names

abbrev bare : Option Standing → Option Standing
bare None = None
bare (Some s) = Some (record { place = s.place; whole = s.whole; but = []; left = [] })

whole_bare : (o : Option Standing) (said : Fact) → on_whole o said ≡ on_whole (bare o) said
whole_bare None said = refl
whole_bare (Some s) said = refl

entry_bare : (o : Option Standing) (f : List ℕ) → entry_of o f ≡ entry_of (bare o) f
entry_bare None f = refl
entry_bare (Some s) f = refl

some_bare : (o : Option Standing) → is_some o ≡ is_some (bare o)
some_bare None = refl
some_bare (Some s) = refl

similar_bare : (k : Bool) (o : Option Standing) (names : List (List ℕ)) → bare (similar_if k o names) ≡ similar_if false (bare o) []
similar_bare true None names = refl
similar_bare true (Some s) names = refl
similar_bare false None names = refl
similar_bare false (Some s) names = refl

abbrev without_if : List ℕ → Option Standing → Option Standing
without_if f None = None
without_if f (Some s) = Some (without f s)

without_bare : (f : List ℕ) (o : Option Standing) → bare (without_if f o) ≡ bare o
without_bare f None = refl
without_bare f (Some s) = refl

-- ---- the same but for names that are not asked for

record AlikeAt (asked : Bool) (a b : Option Standing) : Type 0 where
  pub rough : bare a ≡ bare b
  pub same : asked ≡ true → a ≡ b

abbrev AllAlike : (ℕ → Bool) → (ℕ → Option Standing) → (ℕ → Option Standing) → Type 0
AllAlike asked a b = (x : ℕ) → AlikeAt (asked x) (a x) (b x)

record Alike (asked : ℕ → Bool) (a b : Seen) : Type 0 where
  pub stands : AllAlike asked a.stands b.stands
  pub nothing : a.nothing ≡ b.nothing

abbrev Within : (ℕ → Bool) → (ℕ → Bool) → Type 0
Within less more = (z : ℕ) → less z ≡ true → more z ≡ true

equal_alike : (k : Bool) (o p : Option Standing) → o ≡ p → AlikeAt k o p
equal_alike k o p e = record { rough = ap bare e; same = λ t. e }

weaker : (less more : ℕ → Bool) (a b : ℕ → Option Standing) → Within less more → AllAlike more a b → AllAlike less a b
weaker less more a b sub all = λ x. record { rough = (all x).rough; same = λ t. (all x).same (sub x t) }

with_alike : (asked : ℕ → Bool) (a b : ℕ → Option Standing) (y : ℕ) (s t : Standing) → AllAlike asked a b
    → AlikeAt (asked y) (Some s) (Some t) → AllAlike asked (with_standing a y s) (with_standing b y t)
with_alike asked a b y s t all one = λ z. step z (y == z) refl
  where
    step : (z : ℕ) (k : Bool) → (y == z) ≡ k → AlikeAt (asked z) (if k then Some s else a z) (if k then Some t else b z)
    step z true e = subst (λ w. AlikeAt (asked w) (Some s) (Some t)) ((Decides-eqb y z).0 e) one
    step z false e = all z

placed_alike : (asked : ℕ → Bool) (a b : ℕ → Option Standing) (y : ℕ) (o p : Option Standing) → AllAlike asked a b
    → AlikeAt (asked y) o p → AllAlike asked (placed a y o) (placed b y p)
placed_alike asked a b y None None all one = all
placed_alike asked a b y None (Some t) all one = let bad : None ≡ bare (Some t) = one.rough in cc
placed_alike asked a b y (Some s) None all one = let bad : bare (Some s) ≡ None = one.rough in cc
placed_alike asked a b y (Some s) (Some t) all one =
    step (is_some (a y)) (is_some (b y)) (some_bare (a y) ∙ ap is_some (all y).rough ∙ sym (some_bare (b y)))
  where
    step : (k l : Bool) → k ≡ l → AllAlike asked (if k then a else with_standing a y s) (if l then b else with_standing b y t)
    step true true e = all
    step false false e = with_alike asked a b y s t all one
    step true false e = cc
    step false true e = cc

closed_alike : (asked : ℕ → Bool) (a b : ℕ → Option Standing) (x : ℕ) (f : List ℕ) (o p : Option Standing) → AllAlike asked a b
    → AlikeAt (asked x) o p → AllAlike asked (closed a x f o) (closed b x f p)
closed_alike asked a b x f None None all one = all
closed_alike asked a b x f None (Some t) all one = let bad : None ≡ bare (Some t) = one.rough in cc
closed_alike asked a b x f (Some s) None all one = let bad : bare (Some s) ≡ None = one.rough in cc
closed_alike asked a b x f (Some s) (Some t) all one = with_alike asked a b x (without f s) (without f t) all closer
  where
    closer : AlikeAt (asked x) (Some (without f s)) (Some (without f t))
    closer = record {
      rough = without_bare f (Some s) ∙ one.rough ∙ sym (without_bare f (Some t));
      same = λ e. ap (without_if f) (one.same e);
    }

entered_alike : (asked : ℕ → Bool) (a b : Seen) (x : ℕ) (f : List ℕ) (y : ℕ) → Alike asked a b
    → AllAlike asked (entered a x f y) (entered b x f y)
entered_alike asked a b x f y alike = step (a.nothing y) (b.nothing y) (ap (λ (n : ℕ → Bool). n y) alike.nothing)
  where
    below : entry_of (a.stands x) f ≡ entry_of (b.stands x) f
    below = entry_bare (a.stands x) f ∙ ap (λ o. entry_of o f) (alike.stands x).rough ∙ sym (entry_bare (b.stands x) f)

    more : AllAlike asked (placed a.stands y (entry_of (a.stands x) f)) (placed b.stands y (entry_of (b.stands x) f))
    more = placed_alike asked a.stands b.stands y _ _ alike.stands (equal_alike (asked y) _ _ below)

    step : (k l : Bool) → k ≡ l → AllAlike asked
        (if k then closed (placed a.stands y (entry_of (a.stands x) f)) x f (placed a.stands y (entry_of (a.stands x) f) x) else placed a.stands y (entry_of (a.stands x) f))
        (if l then closed (placed b.stands y (entry_of (b.stands x) f)) x f (placed b.stands y (entry_of (b.stands x) f) x) else placed b.stands y (entry_of (b.stands x) f))
    step true true e = closed_alike asked _ _ x f _ _ more (more x)
    step false false e = more
    step true false e = cc
    step false true e = cc

-- ---- what literals ask for

own_one : (asked : ℕ → Bool) (x : ℕ) → with_one asked x x ≡ true
own_one asked x = ap (λ k. k || asked x) ((Decides-eqb x x).1 refl)

or_right : (b c : Bool) → c ≡ true → (b || c) ≡ true
or_right true c e = refl
or_right false c e = e

later_one : (asked : ℕ → Bool) (x : ℕ) → Within asked (with_one asked x)
later_one asked x = λ z t. or_right (x == z) (asked z) t

later_if : (k : Bool) (asked : ℕ → Bool) (x : ℕ) → Within asked (if k then with_one asked x else asked)
later_if true asked x = later_one asked x
later_if false asked x = λ z t. t

later_asked : (literal : Literal) (later : ℕ → Bool) → Within later (asked_by literal later)
later_asked (Entry x f y) later = λ z t. t
later_asked (Kind x kinds) later = λ z t. t
later_asked (Fence x names) later = later_one later x.0
later_asked (NotEmpty x) later = later_one later x.0
later_asked (Similar y names x) later = later_if (later y.0) later x.0
later_asked (Target x target) later = λ z t. t

-- ---- literals

similar_alike : (kept later : ℕ → Bool) (y : ℕ) (names : List (List ℕ)) (x : ℕ) (a b : Option Standing) → Within later kept
    → AlikeAt ((if later y then with_one later x else later) x) a b
    → AlikeAt (later y) (similar_if (kept y) a names) (similar_to b names)
similar_alike kept later y names x a b sub one = record {
  rough = similar_bare (kept y) a names ∙ ap (λ o. similar_if false o []) one.rough ∙ sym (similar_bare true b names);
  same = λ t. ap (λ k. similar_if k a names) (sub y t)
      ∙ ap (λ o. similar_to o names) (one.same (ap (λ (k : Bool). (if k then with_one later x else later) x) t ∙ own_one later x));
}

after_alike : (kept later : ℕ → Bool) (literal : Literal) (a b : Seen) → Within later kept → Alike (asked_by literal later) a b
    → Alike later (after_with kept a literal) (after b literal)
after_alike kept later (Entry x f y) a b sub alike = record {
  stands = entered_alike later a b x.0 f y.0 alike;
  nothing = alike.nothing;
}
after_alike kept later (Kind x kinds) a b sub alike = record {
  stands = alike.stands;
  nothing = ap (λ (n : ℕ → Bool). if are_nothing kinds then (λ (y : ℕ). (x.0 == y) || n y) else n) alike.nothing;
}
after_alike kept later (Fence x names) a b sub alike = record {
  stands = weaker later (with_one later x.0) a.stands b.stands (later_one later x.0) alike.stands;
  nothing = alike.nothing;
}
after_alike kept later (NotEmpty x) a b sub alike = record {
  stands = weaker later (with_one later x.0) a.stands b.stands (later_one later x.0) alike.stands;
  nothing = alike.nothing;
}
after_alike kept later (Similar y names x) a b sub alike = record {
  stands = placed_alike later a.stands b.stands y.0 _ _
      (weaker later _ a.stands b.stands (later_if (later y.0) later x.0) alike.stands)
      (similar_alike kept later y.0 names x.0 (a.stands x.0) (b.stands x.0) sub (alike.stands x.0));
  nothing = alike.nothing;
}
after_alike kept later (Target x target) a b sub alike = alike

whole_alike : (k : Bool) (a b : Option Standing) (said : Fact) → AlikeAt k a b → on_whole a said ≡ on_whole b said
whole_alike k a b said one = whole_bare a said ∙ ap (λ o. on_whole o said) one.rough ∙ sym (whole_bare b said)

literal_alike : (literal : Literal) (later : ℕ → Bool) (a b : Seen) → Alike (asked_by literal later) a b
    → literal_fact a literal ≡ literal_fact b literal
literal_alike (Entry x f y) later a b alike = refl
literal_alike (Kind x kinds) later a b alike = whole_alike _ (a.stands x.0) (b.stands x.0) (fact.Kinds kinds) (alike.stands x.0)
literal_alike (Fence x names) later a b alike = ap (λ o. on_fenced o names) ((alike.stands x.0).same (own_one later x.0))
literal_alike (NotEmpty x) later a b alike = ap on_filled ((alike.stands x.0).same (own_one later x.0))
literal_alike (Similar y names x) later a b alike = refl
literal_alike (Target x target) later a b alike = whole_alike _ (a.stands x.0) (b.stands x.0) (fact.Target target) (alike.stands x.0)

facts_alike : (kept : ℕ → Bool) (literals : List Literal) (a b : Seen) → Within (asked_of literals) kept
    → Alike (asked_of literals) a b → facts_with kept a literals ≡ facts_behind b literals
facts_alike kept [] a b sub alike = refl
facts_alike kept (literal ∷ literals) a b sub alike =
    ap (λ o. before o (facts_with kept (after_with kept a literal) literals)) (literal_alike literal (asked_of literals) a b alike)
    ∙ ap (before (literal_fact b literal)) (facts_alike kept literals (after_with kept a literal) (after b literal) later
    (after_alike kept (asked_of literals) literal a b later alike))
  where
    later : Within (asked_of literals) kept
    later = λ z t. sub z (later_asked literal (asked_of literals) z t)

-- where names are kept of the variables that are asked for them, the facts are those of the clause
asked_facts : (kept : ℕ → Bool) (clause : Clause) → kept ≡ asked_of clause.literals
    → facts_with kept (begins clause.start.0) clause.literals ≡ facts_of clause
asked_facts kept clause e =
    facts_alike kept clause.literals (begins clause.start.0) (begins clause.start.0)
    (λ z t. ap (λ (n : ℕ → Bool). n z) e ∙ t)
    (record { stands = λ x. equal_alike _ _ _ refl; nothing = refl })

-- before the first literal
pub begun : (facts : List PlaceFact) (kept : ℕ → Bool) (seen : Seen) (clause : Clause) → facts ≡ []
    → kept ≡ asked_of clause.literals → seen ≡ begins clause.start.0
    → facts ++ facts_with kept seen (drop 0 clause.literals) ≡ facts_of clause
begun facts kept seen clause none asked begins =
    ap (λ (f : List PlaceFact). f ++ facts_with kept seen clause.literals) none
    ∙ ap (λ (s : Seen). facts_with kept s clause.literals) begins
    ∙ asked_facts kept clause asked

-- Each case of a back leads where its row is taken, and to the tree that the back leaves.
use Rattle.std.proofs.Common.{◌≡◌, ◌≢◌, ℕ, ◌<◌, ◌≤◌, Bool, true, false, not, ◌&&◌, ◌||◌, nat_lt, IsTrue, Option, Some, None, List, [], ◌∷◌, length, take, refl, sym, ap, subst, ◌∙◌, arith}
use Rattle.std.proofs.lemmas.Bool.{ltb-true, not-true}
use Rattle.feature_trees.specs.declared.value.Value.{Value}
use Rattle.feature_trees.specs.declared.kind.Kind.TheVariants.{Link, Dir}
use Rattle.feature_trees.specs.declared.kind.Kinds.{Kinds}
use Rattle.feature_trees.specs.Kinds.{has, of}
use Rattle.feature_trees.specs.Tree.{entry, at, kind_of}
use Rattle.feature_trees.proofs.Laws.{and_parts, and_made}
use Rattle.utility_calls.specs.declared.backs.Back.{Back}
use Rattle.utility_calls.specs.declared.backs.Back.TheVariants.{Folder, File}
use Rattle.utility_calls.specs.declared.sights.Effect.{Effect}
use Rattle.utility_calls.specs.declared.sights.Effect.TheVariants.{Nothing, MakesDir, KeepsDir, MakesFile, MakesLink, LinksInside, TakesAway, Moves, MovesInside, Copies, CopiesInside}
use Rattle.utility_calls.specs.declared.sights.Row.{Row}
use Rattle.utility_calls.specs.declared.sights.Rule.{Rule}
use Rattle.utility_calls.specs.Acts.{link_row}
use Rattle.utility_calls.specs.ActRows.{IsAmong}
use Rattle.utility_calls.specs.Backs.{names_of, back_rules, kept_kind, back_sight, back_row, put_back_by, back_after, IsNamed}
use Rattle.utility_calls.specs.Table.{is_source, rule_holds, row_of}
use Rattle.utility_calls.specs.Ways.{kind_at, NoLinkOnWay}
use Rattle.utility_calls.proofs.Above.{there_parents}
use Rattle.tree_clauses.specs.declared.case.Case.{Case}
use Rattle.tree_clauses.specs.Plain.{IsPlainBack}
use Rattle.act_cases.specs.declared.backs.Puts.{Puts}
use Rattle.act_cases.specs.declared.backs.Puts.TheVariants.{Leaves, Takes, Returns}
use Rattle.act_cases.specs.Looks.{Sees}
use Rattle.act_cases.specs.Plans.{EndMet}
use Rattle.act_cases.specs.Tables.{ways_of, end_of_place, is_inner, names_at}
use Rattle.act_cases.specs.BackCases.{IsExactBack, AnswersAsBack, puts_of, back_put, any_way, asked, kept_names, link_back_plan, back_plan, back_case, rule_back}
use Rattle.act_cases.proofs.Meets.{AreNames}
use Rattle.act_cases.proofs.EachCase.{some_names, is_link, link_there}
use Rattle.act_cases.proofs.PlainCases.{is_through, through_ways}
use Rattle.act_cases.proofs.RuleSees.{some_name, rule_from, rule_to}
use Rattle.act_cases.proofs.Seeing.{has_all, through_from, through_to}
use Rattle.act_cases.proofs.Tabled.{all_of, test_of, same_rule}
use Rattle.act_cases.proofs.BackLeading.{backs_from, backs_to}
use Rattle.act_cases.proofs.BackPlain.{back_plain}
use Rattle.act_cases.proofs.BackTaken.{all_apart, way_taken, rule_taken, Tells, way, table, row_tells}

-- ---- what a row looks at in the kept tree

any_from : (kinds : Kinds) (v : Value) (names : List (List ℕ)) → Sees (any_way kinds) v names → IsTrue (has kinds (kind_of (at v names)))
any_from kinds v [] s = s
any_from kinds v (f ∷ rest) s = any_from kinds (entry v f) rest s.1

any_to : (kinds : Kinds) (v : Value) (names : List (List ℕ)) → IsTrue (has kinds (kind_of (at v names))) → Sees (any_way kinds) v names
any_to kinds v [] h = h
any_to kinds v (f ∷ []) h = (has_all (kind_of v), h)
any_to kinds v (f ∷ g ∷ rest) h = (has_all (kind_of v), any_to kinds (entry v f) (g ∷ rest) h)

asked_from : (o : Option Kinds) (kept : Value) (names : List (List ℕ)) → Sees (any_way (asked o)) kept (kept_names o names) → is_source o (kind_of (at kept names)) ≡ true
asked_from None kept names s = refl
asked_from (Some kinds) kept names s = any_from kinds kept names s

asked_to : (o : Option Kinds) (kept : Value) (names : List (List ℕ)) → is_source o (kind_of (at kept names)) ≡ true → Sees (any_way (asked o)) kept (kept_names o names)
asked_to None kept names h = has_all (kind_of kept)
asked_to (Some kinds) kept names h = any_to kinds kept names h

-- ---- the tables

abbrev leaves_it : Puts → Bool
leaves_it Leaves = true
leaves_it Takes = false
leaves_it Returns = false

not_leaves : (c : Puts) → c ≢ Leaves → leaves_it c ≡ false
not_leaves Leaves ne = absurd (ne refl)
not_leaves Takes ne = refl
not_leaves Returns ne = refl

-- what is put from the kept tree is looked at there
abbrev finds : Puts → Option Kinds → Bool
finds Leaves source = true
finds Takes source = true
finds Returns None = false
finds Returns (Some kinds) = true

abbrev suits : Rule → Bool
suits r = nat_lt 64 r.number && (not (is_inner r.place) && ((leaves_it (puts_of r.effect) || is_through r.place) && finds (puts_of r.effect) r.source))

record Suits (r : Rule) : Type 0 where
  number : 64 < r.number
  outer : is_inner r.place ≡ false
  through_dirs : leaves_it (puts_of r.effect) ≡ false → is_through r.place ≡ true
  found : finds (puts_of r.effect) r.source ≡ true

or_else : (a b : Bool) → (a || b) ≡ true → a ≡ false → b ≡ true
or_else true b h e = absurd (cc)
or_else false b h e = h

suits_is : (r : Rule) → suits r ≡ true → Suits r
suits_is r h =
    let a = and_parts (nat_lt 64 r.number) _ h in
    let b = and_parts (not (is_inner r.place)) _ a.1 in
    let c = and_parts (leaves_it (puts_of r.effect) || is_through r.place) _ b.1 in
    record {
      number = ltb-true 64 r.number a.0;
      outer = not-true (is_inner r.place) b.0;
      through_dirs = or_else (leaves_it (puts_of r.effect)) (is_through r.place) c.0;
      found = c.1;
    }

all_suit : (b : Back) → all_of suits (back_rules b) ≡ true
all_suit (Folder p) = refl
all_suit (File p) = refl

suit : (b : Back) (r : Rule) → IsAmong r (back_rules b) → Suits r
suit b r among = suits_is r (test_of suits (back_rules b) r (all_suit b) among)

pub above_links : (b : Back) (r : Rule) → IsAmong r (back_rules b) → 64 < r.number
above_links b r among = (suit b r among).number

-- what a row puts is what its effect leaves
puts_are : (e : Effect) (o : Option Kinds) (names : List (List ℕ)) (kept t : Value) → finds (puts_of e) o ≡ true
    → back_put (puts_of e) names (at kept (kept_names o names)) t ≡ put_back_by e names kept t
puts_are Nothing o names kept t h = refl
puts_are MakesDir o names kept t h = refl
puts_are KeepsDir o names kept t h = refl
puts_are MakesFile o names kept t h = refl
puts_are MakesLink o names kept t h = refl
puts_are LinksInside o names kept t h = refl
puts_are TakesAway o names kept t h = refl
puts_are Moves None names kept t h = absurd (cc)
puts_are Moves (Some kinds) names kept t h = refl
puts_are MovesInside o names kept t h = refl
puts_are Copies o names kept t h = refl
puts_are CopiesInside o names kept t h = refl

names_none : (c : Bool) (names : List (List ℕ)) → names_at c names None ≡ names
names_none false names = refl
names_none true names = refl

-- ---- a case and its row

-- a case is exact, and answers as its row
pub record IsOneBack (b : Back) (made : Case) : Type 0 where
  pub exact : IsExactBack b made
  pub answers : AnswersAsBack b made

pub link_plain : (names : List (List ℕ)) (k : ℕ) → IsPlainBack (back_case (link_back_plan k) [] (take k names))
link_plain names k = back_plain (link_back_plan k) [] (take k names) (λ ne. absurd (ne refl))

pub rule_plain : (b : Back) → IsNamed b → (r : Rule) → IsAmong r (back_rules b) → IsPlainBack (rule_back (names_of b) r)
rule_plain b named r among = back_plain (back_plan r) (kept_names r.source (names_of b)) (names_of b) (λ ne. record {
  somewhere = named;
  last = (ways_of false r.place).last;
  through_is = through_ways false r.place ((suit b r among).through_dirs (not_leaves (puts_of r.effect) ne));
})

module _ (b : Back) (named : IsNamed b) (few : length (names_of b) ≤ 64) (are_names : AreNames (names_of b)) where
  abbrev names : List (List ℕ)
  names = names_of b

  -- the tree behind a row
  after : (t kept : Value) (row : Row) → back_row b kept t ≡ row → back_after b kept t ≡ put_back_by row.effect names kept t
  after t kept row e = ap (λ (r : Row). put_back_by r.effect names kept t) e

  -- ---- a link on the way

  link_tells : (t kept : Value) (n k : ℕ) → n ≡ k → 1 ≤ k → k < length names → (dir : kind_of t ≡ Dir) → Tells b kept t named dir n → kind_at t names k ≡ Link
  link_tells t kept n k e low high dir (way l h at_link) = subst (λ j. kind_at t names j ≡ Link) e at_link
  link_tells t kept n k e low high dir (table r num clear among h) =
      let big = above_links b r among in absurd (omega (arith, e, num, high, few, big))

  pub link_one : (k : ℕ) → 1 ≤ k → k < length names → IsOneBack b (back_case (link_back_plan k) [] (take k names))
  link_one k low high = record {
    exact = λ t kept u tree sk. (
      λ h.
          let x = backs_from [] (take k names) (some_names k names are_names) t kept (link_back_plan k) u h in
          let at_link = is_link (kind_at t names k) (through_from (of Link) t (take k names) x.1).1 in
          let taken = way_taken b kept t named tree.dir k low high at_link in
          (ap (λ (r : Row). r.number) taken, x.3 ∙ sym (after t kept (link_row k) taken)),
      λ q.
          let at_link = link_tells t kept (back_row b kept t).number k q.0 low high tree.dir (row_tells b kept t named tree.dir) in
          let taken = way_taken b kept t named tree.dir k low high at_link in
          backs_to [] (take k names) (some_names k names are_names) t kept (link_back_plan k) u tree sk (has_all (kind_of kept))
          (through_to (of Link) t (take k names) (there_parents t (take k names) (link_there _ at_link)) (ap (has (of Link)) at_link)) tt
          (q.1 ∙ after t kept (link_row k) taken),
    );
    answers = λ t kept tree e.
        let at_link = link_tells t kept (back_row b kept t).number k e low high tree.dir (row_tells b kept t named tree.dir) in
        sym (ap (λ (r : Row). r.answer) (way_taken b kept t named tree.dir k low high at_link));
  }

  -- ---- a row of the table

  module _ (r : Rule) (among : IsAmong r (back_rules b)) where
    no_inner : IsTrue (is_inner r.place) → IsTrue (some_name None)
    no_inner h = let bad : true ≡ false = sym h ∙ (suit b r among).outer in absurd (cc)

    rule_tells : (t kept : Value) (n : ℕ) → n ≡ r.number → (dir : kind_of t ≡ Dir) → Tells b kept t named dir n → NoLinkOnWay t names × (rule_holds (kept_kind b kept) (back_sight b t) r ≡ true)
    rule_tells t kept n e dir (way l h at_link) = let big = above_links b r among in absurd (omega (arith, e, h, few, big))
    rule_tells t kept n e dir (table o num clear there h) =
        let same = same_rule (back_rules b) o r (all_apart b) there among (num ∙ e) in
        (clear, subst (λ (x : Rule). rule_holds (kept_kind b kept) (back_sight b t) x ≡ true) same h)

    rule_row : (t kept : Value) → kind_of t ≡ Dir → (back_row b kept t).number ≡ r.number → back_row b kept t ≡ row_of r
    rule_row t kept dir e =
        let x = rule_tells t kept (back_row b kept t).number e dir (row_tells b kept t named dir) in
        rule_taken b kept t named dir r x.0 among x.1

    pub rule_one : IsOneBack b (rule_back names r)
    rule_one = record {
      exact = λ t kept u tree sk. (
        λ h.
            let x = backs_from (kept_names r.source names) names are_names t kept (back_plan r) u h in
            let same = names_none (is_inner r.place) names in
            let source = asked_from r.source kept names x.0 in
            let place = rule_from t names false None r.place (λ y. named) no_inner (subst (λ ns. Sees (ways_of false r.place) t ns) (sym same) x.1) (subst (λ ns. EndMet (end_of_place r.place) (at t ns)) (sym same) x.2) in
            let taken = rule_taken b kept t named tree.dir r place.0.0 among (and_made (is_source r.source (kept_kind b kept)) _ source place.1) in
            (ap (λ (o : Row). o.number) taken, x.3 ∙ puts_are r.effect r.source names kept t (suit b r among).found ∙ sym (after t kept (row_of r) taken)),
        λ q.
            let x = rule_tells t kept (back_row b kept t).number q.0 tree.dir (row_tells b kept t named tree.dir) in
            let parts = and_parts (is_source r.source (kept_kind b kept)) _ x.1 in
            let same = names_none (is_inner r.place) names in
            let place = rule_to t names false None r.place (λ y. named) no_inner (x.0, λ y. absurd (cc)) parts.1 in
            let taken = rule_taken b kept t named tree.dir r x.0 among x.1 in
            backs_to (kept_names r.source names) names are_names t kept (back_plan r) u tree sk (asked_to r.source kept names parts.0)
            (subst (λ ns. Sees (ways_of false r.place) t ns) same place.0) (subst (λ ns. EndMet (end_of_place r.place) (at t ns)) same place.1)
            (q.1 ∙ after t kept (row_of r) taken ∙ sym (puts_are r.effect r.source names kept t (suit b r among).found)),
      );
      answers = λ t kept tree e. sym (ap (λ (o : Row). o.answer) (rule_row t kept tree.dir e));
    }

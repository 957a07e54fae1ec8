-- Each case of an act on one path leads where its row is taken, and to the tree that the act leaves.
use Rattle.std.proofs.Common.{◌≡◌, ◌≢◌, ℕ, zero, suc, ◌<◌, ◌≤◌, Bool, true, false, IsTrue, List, [], ◌∷◌, length, take, refl, sym, ap, subst, ◌∙◌, arith}
use Rattle.feature_trees.specs.declared.kind.Kind.{Kind}
use Rattle.feature_trees.specs.declared.kind.Kind.TheVariants.{Absent, Reg, Link, Special, Dir}
use Rattle.feature_trees.specs.declared.kind.Special.TheVariants.{Fifo, Socket, Block, Char}
use Rattle.feature_trees.specs.declared.value.Value.{Value}
use Rattle.feature_trees.specs.Kinds.{has, of}
use Rattle.feature_trees.specs.Tree.{at, kind_of}
use Rattle.feature_trees.specs.Sound.{IsTree}
use Rattle.utility_calls.specs.declared.acts.Act.{Act}
use Rattle.utility_calls.specs.declared.sights.Row.{Row}
use Rattle.utility_calls.specs.declared.sights.Effect.{Effect}
use Rattle.utility_calls.specs.declared.sights.Effect.TheVariants.{Nothing, MakesDir, KeepsDir, MakesFile, MakesLink, LinksInside, TakesAway, Moves, MovesInside, Copies, CopiesInside}
use Rattle.utility_calls.specs.Ways.{kind_at, NoLinkOnWay}
use Rattle.utility_calls.specs.declared.sights.Rule.{Rule}
use Rattle.utility_calls.specs.Table.{no_dir, rules, row_of}
use Rattle.utility_calls.specs.Acts.{path_of, inner_name, target_of, with_name, slash_row, row, effect_on, is_question, IsPerformed, link_row}
use Rattle.utility_calls.specs.ActRows.{IsAmong, Reaches}
use Rattle.tree_clauses.specs.declared.case.Case.{Case}
use Rattle.act_cases.specs.Plans.{put_by, case_of}
use Rattle.act_cases.specs.Tables.{plan_of, link_plan, slash_plan, names_at, is_inner}
use Rattle.act_cases.specs.Cases.{IsOnOnePath, IsExact, AnswersAs, rule_case}
use Rattle.tree_clauses.specs.Leads.{Leads}
use Rattle.act_cases.proofs.Meets.{AreNames, first_name, later_names}
use Rattle.act_cases.proofs.Leading.{leads_from, leads_to}
use Rattle.utility_calls.proofs.Above.{there_parents}
use Rattle.act_cases.proofs.Seeing.{through_from, through_to, parents_clear}
use Rattle.act_cases.proofs.RuleSees.{some_name, needs_name, rule_from, rule_to}
use Rattle.act_cases.proofs.Tabled.{Suits, suits_is, suits, test_of, same_rule, tabled, effect_fits}
use Rattle.act_cases.proofs.AnyRow.{link_taken, slash_taken}
use Rattle.act_cases.proofs.OneRowTaken.{own_taken, Holds, Says, way, slash, table, row_says}

-- ---- what an effect leaves

pub effect_is : (act : Act) (t : Value) (e : Effect) (b : Bool) → effect_fits e b ≡ true
    → effect_on e act t ≡ put_by e (names_at b (path_of act).names (inner_name act)) (target_of act) t
effect_is act t Nothing b h = refl
effect_is act t MakesDir false h = refl
effect_is act t MakesDir true h = absurd (cc)
effect_is act t KeepsDir false h = refl
effect_is act t KeepsDir true h = absurd (cc)
effect_is act t MakesFile false h = refl
effect_is act t MakesFile true h = absurd (cc)
effect_is act t MakesLink false h = refl
effect_is act t MakesLink true h = absurd (cc)
effect_is act t LinksInside true h = refl
effect_is act t LinksInside false h = absurd (cc)
effect_is act t TakesAway false h = refl
effect_is act t TakesAway true h = absurd (cc)
effect_is act t Moves b h = absurd (cc)
effect_is act t MovesInside b h = absurd (cc)
effect_is act t Copies b h = absurd (cc)
effect_is act t CopiesInside b h = absurd (cc)

-- ---- names

pub some_names : (n : ℕ) (names : List (List ℕ)) → AreNames names → AreNames (take n names)
some_names zero names h = λ k d lt. absurd (omega arith)
some_names (suc n) [] h = λ k d lt. absurd (omega arith)
some_names (suc n) (f ∷ rest) h = by (some_names n rest (later_names f rest h))
  where
    by : AreNames (take n rest) → AreNames (f ∷ take n rest)
    by more zero d lt = first_name f rest h
    by more (suc k) d lt = more k d (omega arith)

-- ---- kinds

pub is_link : (k : Kind) → IsTrue (has (of Link) k) → k ≡ Link
is_link Absent h = cc
is_link Reg h = cc
is_link Link h = refl
is_link (Special Fifo) h = cc
is_link (Special Socket) h = cc
is_link (Special Block) h = cc
is_link (Special Char) h = cc
is_link Dir h = cc

pub thing : (k : Kind) → IsTrue (has no_dir k) → (k ≢ Absent) × (k ≢ Dir)
thing Absent h = absurd (cc)
thing Reg h = (λ e. cc, λ e. cc)
thing Link h = (λ e. cc, λ e. cc)
thing (Special s) h = (λ e. cc, λ e. cc)
thing Dir h = absurd (cc)

pub is_thing : (k : Kind) → k ≢ Absent → k ≢ Dir → IsTrue (has no_dir k)
is_thing Absent na nd = absurd (na refl)
is_thing Reg na nd = refl
is_thing Link na nd = refl
is_thing (Special Fifo) na nd = refl
is_thing (Special Socket) na nd = refl
is_thing (Special Block) na nd = refl
is_thing (Special Char) na nd = refl
is_thing Dir na nd = absurd (nd refl)

pub link_there : (k : Kind) → k ≡ Link → k ≢ Absent
link_there k e h = let q : Link ≡ Absent = sym e ∙ h in cc

-- ---- a case and its row

-- a case is exact, and answers as its row
pub record IsOne (act : Act) (made : Case) : Type 0 where
  pub exact : IsExact act made
  pub answers : AnswersAs act made

-- what is owed for a case without an effect, or with one: the row is taken exactly where it sees what it looks at
module _ (act : Act) (made : Case) (r : Row) where
  pub one_of : made.row ≡ r.number → made.done ≡ r.answer → ((t : Value) → IsTree t → (row act t).number ≡ made.row → row act t ≡ r)
      → ((t u : Value) → IsTree t → Leads made t u → (row act t ≡ r) × (u ≡ effect_on r.effect act t))
      → ((t u : Value) → IsTree t → row act t ≡ r → u ≡ effect_on r.effect act t → Leads made t u) → IsOne act made
  one_of number answer is from to = record {
    exact = λ t u tree. (
      λ h.
          let x = from t u tree h in
          (ap (λ (r : Row). r.number) x.0 ∙ sym number, x.1 ∙ sym (ap (λ (r : Row). effect_on r.effect act t) x.0)),
      λ h.
          let same = is t tree h.0 in
          to t u tree same (h.1 ∙ ap (λ (r : Row). effect_on r.effect act t) same),
    );
    answers = λ t tree h. answer ∙ sym (ap (λ (r : Row). r.answer) (is t tree h));
  }

module _ (act : Act) (one_path : IsOnOnePath act) (performed : IsPerformed act) (few : length (path_of act).names ≤ 64) (named : AreNames (path_of act).names)
    (inside : AreNames (with_name (path_of act).names (inner_name act))) where
  abbrev names : List (List ℕ)
  names = (path_of act).names

  suits_rule : (r : Rule) → IsAmong r (rules false act) → Suits (is_question act) (some_name (inner_name act)) r
  suits_rule r among =
      suits_is (is_question act) (some_name (inner_name act)) r (test_of (suits (is_question act) (some_name (inner_name act))) (rules false act) r (tabled act one_path).0 among)

  -- ---- a link on the way

  link_says : (t : Value) (n k : ℕ) → n ≡ k → 1 ≤ k → k < length names → (d : kind_of t ≡ Dir) → Says act one_path performed t d n → kind_at t names k ≡ Link
  link_says t n k e low high d (way l h is) = subst (λ j. kind_at t names j ≡ Link) e is
  link_says t n k e low high d (slash is clear s na nd) = absurd (omega (arith, e, is, high, few))
  link_says t n k e low high d (table r is reaches among h) = let big = (suits_rule r among).number in absurd (omega (arith, e, is, high, few, big))

  pub link_one : (k : ℕ) → 1 ≤ k → k < length names → IsOne act (case_of (link_plan k) (take k names) [])
  link_one k low high = one_of act (case_of (link_plan k) (take k names) []) (link_row k) refl refl
      (λ t tree e. link_taken act t k low high (link_says t (row act t).number k e low high tree.dir (row_says act one_path performed t tree.dir)))
      (λ t u tree h.
      let x = leads_from (link_plan k) (take k names) [] (some_names k names named) t u h in
      let is = is_link (kind_at t names k) (through_from (of Link) t (take k names) x.0).1 in
      (link_taken act t k low high is, x.2))
      (λ t u tree same is.
      let at_link = link_says t (row act t).number k (ap (λ (r : Row). r.number) same) low high tree.dir (row_says act one_path performed t tree.dir) in
      leads_to (link_plan k) (take k names) [] (some_names k names named) t u tree
      (through_to (of Link) t (take k names) (there_parents t (take k names) (link_there _ at_link)) (ap (has (of Link)) at_link)) tt is)

  -- ---- a slash

  slash_says : (t : Value) (n : ℕ) → n ≡ 64 → (d : kind_of t ≡ Dir) → Says act one_path performed t d n
      → NoLinkOnWay t names × ((path_of act).slash ≡ true) × (kind_of (at t names) ≢ Absent) × (kind_of (at t names) ≢ Dir)
  slash_says t n e d (way l h is) = absurd (omega (arith, e, h, few))
  slash_says t n e d (slash is clear s na nd) = (clear, s, na, nd)
  slash_says t n e d (table r is reaches among h) = let big = (suits_rule r among).number in absurd (omega (arith, e, is, big))

  pub slash_one : (path_of act).slash ≡ true → IsOne act (case_of slash_plan names [])
  slash_one s = one_of act (case_of slash_plan names []) slash_row refl refl
      (λ t tree e.
      let x = slash_says t (row act t).number e tree.dir (row_says act one_path performed t tree.dir) in
      slash_taken act t x.0 s x.2 x.3)
      (λ t u tree h.
      let x = leads_from slash_plan names [] named t u h in
      let parts = through_from no_dir t names x.0 in
      let is = thing (kind_of (at t names)) parts.1 in
      (slash_taken act t (parents_clear t names parts.0) s is.0 is.1, x.2))
      (λ t u tree same is.
      let x = slash_says t (row act t).number (ap (λ (r : Row). r.number) same) tree.dir (row_says act one_path performed t tree.dir) in
      leads_to slash_plan names [] named t u tree
      (through_to no_dir t names (there_parents t names x.2) (is_thing (kind_of (at t names)) x.2 x.3)) tt is)

  -- ---- a row of the table

  rule_says : (t : Value) (r : Rule) (n : ℕ) → n ≡ r.number → IsAmong r (rules false act) → (d : kind_of t ≡ Dir) → Says act one_path performed t d n
      → Reaches act t × Holds act one_path performed t d r
  rule_says t r n e among d (way l h is) = let big = (suits_rule r among).number in absurd (omega (arith, e, h, few, big))
  rule_says t r n e among d (slash is clear s na nd) = let big = (suits_rule r among).number in absurd (omega (arith, e, is, big))
  rule_says t r n e among d (table q is reaches there h) =
      let same = same_rule (rules false act) q r (tabled act one_path).1 there among (is ∙ e) in
      (reaches, subst (Holds act one_path performed t d) same (h (suits_rule q there).source))

  looked_names : (b : Bool) → AreNames (names_at b names (inner_name act))
  looked_names false = named
  looked_names true = inside

  has_name : (r : Rule) → IsAmong r (rules false act) → IsTrue (needs_name r.place) → names ≢ []
  has_name r among needs = (performed.0 ((suits_rule r among).needs needs)).0

  pub rule_one : (r : Rule) → IsAmong r (rules false act) → IsOne act (rule_case act r)
  rule_one r among =
      let s = suits_rule r among in
      let plan = plan_of (path_of act).slash r in
      let looked = names_at (is_inner r.place) names (inner_name act) in
      one_of act (rule_case act r) (row_of r) refl refl
      (λ t tree e.
      let x = rule_says t r (row act t).number e among tree.dir (row_says act one_path performed t tree.dir) in
      own_taken act one_path performed t tree.dir r x.0 among s.source x.1)
      (λ t u tree h.
      let x = leads_from plan looked (target_of act) (looked_names (is_inner r.place)) t u h in
      let y = rule_from t names (path_of act).slash (inner_name act) r.place (has_name r among) s.inner_name x.0 x.1 in
      (own_taken act one_path performed t tree.dir r y.0 among s.source y.1, x.2 ∙ sym (effect_is act t r.effect (is_inner r.place) s.effect)))
      (λ t u tree same is.
      let x = rule_says t r (row act t).number (ap (λ (r : Row). r.number) same) among tree.dir (row_says act one_path performed t tree.dir) in
      let y = rule_to t names (path_of act).slash (inner_name act) r.place (has_name r among) s.inner_name x.0 x.1 in
      leads_to plan looked (target_of act) (looked_names (is_inner r.place)) t u tree y.0 y.1
      (is ∙ effect_is act t r.effect (is_inner r.place) s.effect))

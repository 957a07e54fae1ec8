-- Each case of an act on one path is plain.
use Rattle.std.proofs.Common.{◌≡◌, ◌≢◌, ℕ, suc, ◌+◌, ◌<◌, ◌≤◌, inl, inr, ◌↔◌, Bool, true, false, not, ◌&&◌, if◌then◌else◌, Option, Some, None, List, [], ◌∷◌, ◌++◌, length, take, refl, subst, arith, append-nil}
use Rattle.std.proofs.lemmas.Bool.{not-true}
use Rattle.std.specs.List.{Contains}
use Rattle.feature_trees.specs.declared.kind.Kind.TheVariants as kind
use Rattle.feature_trees.specs.declared.kind.Kinds.{Kinds}
use Rattle.feature_trees.specs.Kinds.{has, of, two}
use Rattle.feature_trees.specs.Tree.{kind_of}
use Rattle.feature_trees.proofs.Laws.{and_parts}
use Rattle.tree_clauses.specs.declared.clause.Literal.{Literal}
use Rattle.tree_clauses.specs.declared.clause.Literal.TheVariants.{Kind}
use Rattle.tree_clauses.specs.Literals.{Valuation, value_of_variable, MeetsAll}
use Rattle.utility_calls.specs.declared.acts.Act.{Act}
use Rattle.utility_calls.specs.declared.acts.Act.TheVariants.{Exists, IsReg, IsDir, IsLink, CanRun, IsSpecial, MakeDir, EnsureDir, RemoveDir, Remove, Touch, Symlink, Move, Attr, Copy, PlaceFile, PlaceLink, PlaceConf, Discard, DiscardDir}
use Rattle.utility_calls.specs.declared.sights.Effect.{Effect}
use Rattle.utility_calls.specs.declared.sights.Effect.TheVariants.{Nothing, MakesDir, KeepsDir, MakesFile, MakesLink, LinksInside, TakesAway, Moves, MovesInside, Copies, CopiesInside}
use Rattle.utility_calls.specs.declared.sights.Where.{Where}
use Rattle.utility_calls.specs.declared.sights.Where.TheVariants.{Anything, Is, Within as within, Inside, Outside, Empty, Full, Into, IntoEmpty, IntoFull}
use Rattle.utility_calls.specs.declared.sights.Rule.{Rule}
use Rattle.utility_calls.specs.Table.{rules, can_run_by, remove_by, symlink_by}
use Rattle.utility_calls.specs.Acts.{path_of, inner_name, target_of, is_question, IsPerformed}
use Rattle.utility_calls.specs.ActRows.{IsAmong}
use Rattle.utility_calls.proofs.ActRow.{all_kinds, each_kind}
use Rattle.act_cases.specs.declared.looks.Ways.{Ways}
use Rattle.act_cases.specs.declared.plans.Plan.{Plan}
use Rattle.act_cases.specs.declared.plans.End.{End}
use Rattle.act_cases.specs.declared.plans.End.TheVariants as end
use Rattle.act_cases.specs.Looks.{var, kinds_from, look_literals, end_of}
use Rattle.act_cases.specs.Puts.{put_literals, root_of}
use Rattle.act_cases.specs.Plans.{end_literals, is_put, made_literals, changes, locals_by, root_by, case_of}
use Rattle.act_cases.specs.Tables.{fitting, free, through, ways_of, is_inner, names_at, plan_of, link_plan, slash_plan}
use Rattle.tree_clauses.specs.Plain.{IsOneOf, AreNoneOrDir, IsLimited, PlainOrder, done, absent, reg, link, dir, same, kinds, empty as empty_fact, filled, IsPlain}
use Rattle.act_cases.specs.Cases.{IsOnOnePath, rule_case}
use Rattle.tree_clauses.proofs.KindSets.{of_dir}
use Rattle.act_cases.proofs.Meets.{meets_split, end_length}
use Rattle.act_cases.proofs.Seeing.{fits_by}
use Rattle.act_cases.proofs.Tabled.{all_of, test_of, implies}
use Rattle.act_cases.proofs.Ordered.{firsts, below_contains, contains_below, not_yet, Within, limited_within, AllKinds, through_limited, way_order, all_below, put_order}

pub end_order : (e : End) (x m : ℕ) (b rest : List Literal) (after : List ℕ) → x < m → ((b' : List Literal) → Within b b' → PlainOrder b' (firsts m) rest after)
    → PlainOrder b (firsts m) (end_literals e x ++ rest) after
end_order end.Any x m b rest after lt next = next b (λ l h. h)
end_order end.Empty x m b rest after lt next = empty_fact (var x) (below_contains m x lt) (next _ (λ l h. inr h))
end_order end.Full x m b rest after lt next = filled (var x) (below_contains m x lt) (next _ (λ l h. inr h))

-- whether an effect keeps the entries that a directory has
abbrev pub keeps : Effect → Bool
keeps Nothing = false
keeps MakesDir = false
keeps KeepsDir = true
keeps MakesFile = false
keeps MakesLink = false
keeps LinksInside = false
keeps TakesAway = false
keeps Moves = false
keeps MovesInside = false
keeps Copies = false
keeps CopiesInside = false

made_order : (e : Effect) (target : List ℕ) (x z m : ℕ) (b rest : List Literal) (after : List ℕ) → is_put e ≡ true → x < m → m ≤ z → (keeps e ≡ true → IsLimited b (var x))
    → ((b' : List Literal) → Within b b' → PlainOrder b' (z ∷ firsts m) rest after) → PlainOrder b (firsts m) (made_literals e target x z ++ rest) after
made_order Nothing target x z m b rest after p lt le limited next = absurd (cc)
made_order MakesDir target x z m b rest after p lt le limited next = dir (var z) (not_yet m z le) (next _ (λ l h. inr (inr h)))
made_order KeepsDir target x z m b rest after p lt le limited next = same (var z) (var x) (below_contains m x lt) (not_yet m z le) (limited refl) (next _ (λ l h. inr h))
made_order MakesFile target x z m b rest after p lt le limited next = reg (var z) (not_yet m z le) (next _ (λ l h. inr h))
made_order MakesLink target x z m b rest after p lt le limited next = link (var z) target (not_yet m z le) (next _ (λ l h. inr h))
made_order LinksInside target x z m b rest after p lt le limited next = link (var z) target (not_yet m z le) (next _ (λ l h. inr h))
made_order TakesAway target x z m b rest after p lt le limited next = absent (var z) (not_yet m z le) (next _ (λ l h. inr h))
made_order Moves target x z m b rest after p lt le limited next = absurd (cc)
made_order MovesInside target x z m b rest after p lt le limited next = absurd (cc)
made_order Copies target x z m b rest after p lt le limited next = absurd (cc)
made_order CopiesInside target x z m b rest after p lt le limited next = absurd (cc)

-- the kinds at the end
pub last_kinds : (b : List Literal) (w : Ways) (x y : ℕ) (names : List (List ℕ)) → AllKinds b w x y names → IsOneOf b (Kind (var (end_of x y names)) w.last)
last_kinds b w x y [] h = h
last_kinds b w x y (f ∷ rest) h = last_kinds b w y (y + 1) rest h.1

-- the kinds stay among more literals
pub kinds_within : (b b' : List Literal) (w : Ways) (x y : ℕ) (ns : List (List ℕ)) → Within b b' → AllKinds b w x y ns → AllKinds b' w x y ns
kinds_within b b' w x y [] h all = h _ all
kinds_within b b' w x y (f ∷ rest) h all = (h _ all.0, kinds_within b b' w y (y + 1) rest h all.1)

-- what something is put in is a directory
pub put_dir : (g : Valuation) (x y z r : ℕ) (ns : List (List ℕ)) → ns ≢ [] → MeetsAll g (put_literals x y ns z r) → kind_of (value_of_variable g (root_of ns z r)) ≡ kind.Dir
put_dir g x y z r [] ne m = absurd (ne refl)
put_dir g x y z r (f ∷ rest) ne m = (meets_split g (put_literals y (y + 1) rest z r) _ m).1.0.0

-- what makes a plan's case plain: what is put is put in directories, and a directory that keeps its entries was one or
-- nothing
pub record PutsInDirs (plan : Plan) (names : List (List ℕ)) : Type 0 where
  pub somewhere : names ≢ []
  pub last : Kinds
  pub through_is : plan.ways ≡ through last
  pub kept : keeps plan.effect ≡ true → AreNoneOrDir last

module _ (plan : Plan) (names : List (List ℕ)) (target : List ℕ) where
  abbrev n : ℕ
  n = length names

  known_end : (b : List Literal) (m k : ℕ) → m ≡ k → PlainOrder b (firsts m) [] (firsts k)
  known_end b m k e = subst (λ k. PlainOrder b (firsts m) [] (firsts k)) e done

  changes_order : (c : Bool) → is_put plan.effect ≡ c → (c ≡ true → PutsInDirs plan names) → (m : ℕ) → m ≡ 1 + n → (b : List Literal) → AllKinds b plan.ways 0 1 names
      → PlainOrder b (firsts m) (changes c plan.effect names target) (firsts (locals_by c names + 1))
  changes_order false e puts m em b all = known_end b m (n + 1) (omega arith)
  changes_order true e puts m em b all =
      let p = puts refl in
      let all' : AllKinds b (through p.last) 0 1 names = subst (λ w. AllKinds b w 0 1 names) p.through_is all in
      let at_end : IsOneOf b (Kind (var n) p.last) = subst (λ i. IsOneOf b (Kind (var i) p.last)) (end_length names) (last_kinds b (through p.last) 0 1 names all') in
      made_order plan.effect target n (n + 1) m b (put_literals 0 1 names (n + 1) (n + 2)) (firsts (n + 1 + n + 1)) e (omega arith) (omega arith)
      (λ k. (p.last, at_end, p.kept k))
      (λ b' within.
      subst (λ i. PlainOrder b' (i ∷ firsts m) (put_literals 0 1 names (n + 1) (n + 2)) (firsts (n + 1 + n + 1))) (omega arith)
      (subst (λ (l : List Literal). PlainOrder b' (firsts (suc m)) l (firsts (n + 1 + n + 1))) (append-nil (put_literals 0 1 names (n + 1) (n + 2)))
      (put_order 0 1 (n + 1) (n + 2) (suc m) names b' [] (firsts (n + 1 + n + 1)) (omega arith) (omega arith) (all_below (suc m) 0 1 names (omega arith) (omega arith))
      (limited_within b b' 0 1 names within (through_limited b p.last 0 1 names all'))
      (λ k b'' ek more. known_end b'' k (n + 1 + n + 1) (omega (arith, ek))))))

  case_order : (is_put plan.effect ≡ true → PutsInDirs plan names)
      → PlainOrder [] (0 ∷ []) (case_of plan names target).literals (firsts (locals_by (is_put plan.effect) names + 1))
  case_order puts =
      let c = is_put plan.effect in
      let root = Kind (var 0) (of kind.Dir) in
      let first = Kind (var 0) (kinds_from plan.ways names) in
      kinds (var 0) (of kind.Dir) (0, omega arith, refl)
      (kinds (var 0) (kinds_from plan.ways names) (0, omega arith, refl)
      (way_order plan.ways 0 1 1 names (first ∷ root ∷ []) (end_literals plan.end n ++ changes c plan.effect names target) (firsts (locals_by c names + 1)) refl (omega arith) (inl refl)
      (λ m b em within all.
      end_order plan.end n m b (changes c plan.effect names target) (firsts (locals_by c names + 1)) (omega (arith, em))
      (λ b' more. changes_order c refl puts m em b' (kinds_within b b' plan.ways 0 1 names more all)))))

  known_all : (l i : ℕ) → Contains (firsts (l + 1)) i ↔ (i < 1 + l)
  known_all l i = (λ h. let lt = contains_below (l + 1) i h in omega (arith, lt), λ le. below_contains (l + 1) i (omega arith))

  root_within : (c : Bool) → root_by c names < 1 + locals_by c names
  root_within false = omega arith
  root_within true = by names
    where
      by : (ns : List (List ℕ)) → root_of ns (length ns + 1) (length ns + 2) < 1 + (length ns + 1 + length ns)
      by [] = omega arith
      by (f ∷ rest) = omega arith

  root_dir : (g : Valuation) (c : Bool) → (c ≡ true → names ≢ []) → kind_of (value_of_variable g 0) ≡ kind.Dir → MeetsAll g (changes c plan.effect names target)
      → kind_of (value_of_variable g (root_by c names)) ≡ kind.Dir
  root_dir g false ne d m = d
  root_dir g true ne d m = put_dir g 0 1 (n + 1) (n + 2) names (ne refl) (meets_split g (made_literals plan.effect target n (n + 1)) _ m).1

  pub case_plain : (is_put plan.effect ≡ true → PutsInDirs plan names) → IsPlain (case_of plan names target)
  case_plain puts = record {
    known = firsts (locals_by (is_put plan.effect) names + 1);
    order = case_order puts;
    variables = λ i. known_all (locals_by (is_put plan.effect) names) i;
    root = root_within (is_put plan.effect);
    dir = λ g s m.
        let d = of_dir _ m.0 in
        let one = meets_split g (look_literals plan.ways 0 1 names) _ m.1 in
        let two = meets_split g (end_literals plan.end n) _ one.1 in
        root_dir g (is_put plan.effect) (λ e. (puts e).somewhere) d two.1;
  }

-- ---- the rows of the tables

-- whether directories are all the way
abbrev pub is_through : Where → Bool
is_through Anything = false
is_through (Is ks) = not (has ks kind.Absent)
is_through within = true
is_through (Inside ks) = true
is_through Outside = false
is_through Empty = true
is_through Full = true
is_through (Into ks) = true
is_through IntoEmpty = true
is_through IntoFull = true

through_by : (s : Bool) (ks : Kinds) (c : Bool) → not c ≡ true
    → (if c then free (fitting s ks) else through (fitting s ks)) ≡ through (if c then free (fitting s ks) else through (fitting s ks)).last
through_by s ks true h = absurd (cc)
through_by s ks false h = refl

pub through_ways : (s : Bool) (place : Where) → is_through place ≡ true → ways_of s place ≡ through (ways_of s place).last
through_ways s Anything h = absurd (cc)
through_ways s (Is ks) h = through_by s ks (has ks kind.Absent) h
through_ways s within h = refl
through_ways s (Inside ks) h = refl
through_ways s Outside h = absurd (cc)
through_ways s Empty h = refl
through_ways s Full h = refl
through_ways s (Into ks) h = refl
through_ways s IntoEmpty h = refl
through_ways s IntoFull h = refl

pub implied : (a b : Bool) → implies a b ≡ true → a ≡ true → b ≡ true
implied true b h e = h
implied false b h e = absurd (cc)

abbrev none_or_dir : Kinds → Bool
none_or_dir ks = all_kinds (λ k. implies (has ks k) (has (two kind.Absent kind.Dir) k))

limits : (ks : Kinds) → none_or_dir ks ≡ true → AreNoneOrDir ks
limits ks h k t =
    let only = each_kind (λ k. implies (has ks k) (has (two kind.Absent kind.Dir) k)) h k in
    fits_by k (implied (has ks k) (has (two kind.Absent kind.Dir) k) only t)

abbrev puts_well : Bool → Bool → Rule → Bool
puts_well asks s r =
    implies (is_put r.effect) (not asks && is_through r.place) && implies (keeps r.effect) (none_or_dir (ways_of s r.place).last)

abbrev PutWell : List Rule → Bool → Type 0
PutWell rs asks = (all_of (puts_well asks false) rs ≡ true) × (all_of (puts_well asks true) rs ≡ true)

runs_well : (runs : Bool) → PutWell (can_run_by runs) true
runs_well false = (refl, refl)
runs_well true = (refl, refl)

remove_well : (force deep : Bool) → PutWell (remove_by force deep) false
remove_well false false = (refl, refl)
remove_well false true = (refl, refl)
remove_well true false = (refl, refl)
remove_well true true = (refl, refl)

symlink_well : (force : Bool) → PutWell (symlink_by force) false
symlink_well false = (refl, refl)
symlink_well true = (refl, refl)

put_well : (act : Act) → IsOnOnePath act → PutWell (rules false act) (is_question act)
put_well (Exists p) one = (refl, refl)
put_well (IsReg p) one = (refl, refl)
put_well (IsDir p) one = (refl, refl)
put_well (IsLink p) one = (refl, refl)
put_well (CanRun p runs) one = runs_well runs
put_well (IsSpecial p kind) one = (refl, refl)
put_well (MakeDir p) one = (refl, refl)
put_well (EnsureDir p) one = (refl, refl)
put_well (RemoveDir p) one = (refl, refl)
put_well (Remove p force deep) one = remove_well force deep
put_well (Touch p) one = (refl, refl)
put_well (Symlink p target last force) one = symlink_well force
put_well (Move a b) one = absurd (cc)
put_well (Attr p) one = (refl, refl)
put_well (Copy a b deep) one = absurd (cc)
put_well (PlaceFile p) one = (refl, refl)
put_well (PlaceLink p target) one = (refl, refl)
put_well (PlaceConf p) one = (refl, refl)
put_well (Discard p) one = (refl, refl)
put_well (DiscardDir p) one = (refl, refl)

well_by : (s asks : Bool) (rs : List Rule) (r : Rule) → PutWell rs asks → IsAmong r rs → puts_well asks s r ≡ true
well_by false asks rs r h among = test_of (puts_well asks false) rs r h.0 among
well_by true asks rs r h among = test_of (puts_well asks true) rs r h.1 among

longer : (names : List (List ℕ)) (m : Option (List ℕ)) (c : Bool) → names ≢ [] → names_at c names m ≢ []
longer names m false ne = ne
longer names None true ne = ne
longer [] (Some f) true ne = absurd (ne refl)
longer (g ∷ names) (Some f) true ne = λ e. absurd (cc)

module _ (act : Act) (one_path : IsOnOnePath act) (performed : IsPerformed act) where
  pub rule_plain : (r : Rule) → IsAmong r (rules false act) → IsPlain (rule_case act r)
  rule_plain r among =
      let s = (path_of act).slash in
      let well = and_parts (implies (is_put r.effect) (not (is_question act) && is_through r.place)) _ (well_by s (is_question act) (rules false act) r (put_well act one_path) among) in
      case_plain (plan_of s r) (names_at (is_inner r.place) (path_of act).names (inner_name act)) (target_of act)
      (λ e.
      let more = and_parts (not (is_question act)) (is_through r.place) (implied (is_put r.effect) (not (is_question act) && is_through r.place) well.0 e) in
      record {
        somewhere = longer (path_of act).names (inner_name act) (is_inner r.place) (performed.0 (not-true (is_question act) more.0)).0;
        last = (ways_of s r.place).last;
        through_is = through_ways s r.place more.1;
        kept = λ k. limits (ways_of s r.place).last (implied (keeps r.effect) (none_or_dir (ways_of s r.place).last) well.1 k);
      })

pub link_plain : (names : List (List ℕ)) (k : ℕ) → IsPlain (case_of (link_plan k) (take k names) [])
link_plain names k = case_plain (link_plan k) (take k names) [] (λ e. absurd (cc))

pub slash_plain : (names : List (List ℕ)) → IsPlain (case_of slash_plan names [])
slash_plain names = case_plain slash_plan names [] (λ e. absurd (cc))

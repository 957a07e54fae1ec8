-- Each case of a move or a copy leads where its row is taken, and to the tree that the act leaves.
use Rattle.std.proofs.Common.{◌≡◌, ◌≢◌, ℕ, ◌+◌, ◌-◌, ◌<◌, ◌≤◌, Bool, true, false, ◌||◌, IsTrue, Option, Some, None, List, [], length, take, refl, sym, ap, subst, ◌∙◌, arith}
use Rattle.feature_trees.specs.declared.kind.Kind.TheVariants.{Absent, Link, Dir}
use Rattle.feature_trees.specs.declared.kind.Kinds.{Kinds}
use Rattle.feature_trees.specs.declared.value.Value.{Value}
use Rattle.feature_trees.specs.declared.value.Value.TheVariants as value
use Rattle.feature_trees.specs.Kinds.{has, of}
use Rattle.feature_trees.specs.Tree.{at, kind_of, put, has_parents}
use Rattle.feature_trees.specs.Sound.{sound}
use Rattle.feature_trees.proofs.Laws.{and_parts, and_made}
use Rattle.utility_calls.specs.declared.acts.Act.{Act}
use Rattle.utility_calls.specs.declared.sights.Row.{Row}
use Rattle.utility_calls.specs.declared.sights.Sight.{Sight}
use Rattle.utility_calls.specs.declared.sights.Effect.{Effect}
use Rattle.utility_calls.specs.declared.sights.Effect.TheVariants.{Nothing, MakesDir, KeepsDir, MakesFile, MakesLink, LinksInside, TakesAway, Moves, MovesInside, Copies, CopiesInside}
use Rattle.utility_calls.specs.Ways.{kind_at, NoLinkOnWay}
use Rattle.utility_calls.specs.declared.sights.Where.{Where}
use Rattle.utility_calls.specs.declared.sights.Where.TheVariants.{Anything, Is, Within, Inside, Outside, Empty, Full, Into, IntoEmpty, IntoFull}
use Rattle.utility_calls.specs.Sights.{holds}
use Rattle.utility_calls.specs.declared.sights.Rule.{Rule}
use Rattle.utility_calls.specs.Table.{no_dir, rules, is_source, rule_holds, row_of}
use Rattle.utility_calls.specs.Acts.{path_of, place_of, inner_name, source, source_of, with_name, is_prefix, is_below, takes, looks_at_way, slash_row, sight_on, row, effect_on, IsPerformed, link_row}
use Rattle.utility_calls.specs.ActRows.{IsAmong, Reaches, LooksAtWay}
use Rattle.act_cases.specs.Looks.{Sees}
use Rattle.act_cases.specs.Plans.{EndMet, case_of}
use Rattle.act_cases.specs.Tables.{ways_of, end_of_place, is_inner, link_plan, slash_plan}
use Rattle.act_cases.specs.declared.moves.Moving.{Moving}
use Rattle.act_cases.specs.declared.moves.Moving.TheVariants as moving
use Rattle.act_cases.specs.Moves.{moved_by, source_where, is_anything, second_names, moving_of, move_plan, taken, looked, second_plan, move_rule_case, move_case}
use Rattle.act_cases.specs.Cases.{HasSource}
use Rattle.act_cases.proofs.Meets.{AreNames}
use Rattle.act_cases.proofs.Leading.{leads_from, leads_to}
use Rattle.act_cases.proofs.Seeing.{has_all, through_from, through_to, parents_clear}
use Rattle.act_cases.proofs.RuleSees.{some_name, Reached, seen, rule_from, rule_to}
use Rattle.act_cases.proofs.Tabled.{same_rule}
use Rattle.act_cases.proofs.EachCase.{IsOne, one_of, some_names, is_link, thing, is_thing, link_there}
use Rattle.act_cases.proofs.PlainCases.{through_ways}
use Rattle.act_cases.proofs.AnyRow.{link_taken, slash_taken, second_taken, table_taken, Tells, way, slash, second, table, row_tells}
use Rattle.act_cases.proofs.Moving.{moves_from, moves_to}
use Rattle.act_cases.proofs.TwoPaths.{changes_tree, source_kind, inner_some, paths_differ, beside_first, taken_is}
use Rattle.act_cases.proofs.MoveTabled.{IsWell, is_moved, is_placed, move_well, moves_apart, move_fits, looks_where, looks_not}
use Rattle.utility_calls.proofs.Above.{there_parents, Clear, kept_parents, clear_below, clear_place}

-- ---- what a row says of what is moved

source_from : (t : Value) (names : List (List ℕ)) (s : Bool) (o : Option Kinds) → Sees (ways_of s (source_where o)) t names
    → Reached t names s × (is_source o (kind_of (at t names)) ≡ true)
source_from t names s None h = rule_from t names s None Anything (λ x. absurd (cc)) (λ x. absurd (cc)) h tt
source_from t names s (Some ks) h = rule_from t names s None (Is ks) (λ x. absurd (cc)) (λ x. absurd (cc)) h tt

source_to : (t : Value) (names : List (List ℕ)) (s : Bool) (o : Option Kinds) → Reached t names s → is_source o (kind_of (at t names)) ≡ true
    → Sees (ways_of s (source_where o)) t names
source_to t names s None r h = (rule_to t names s None Anything (λ x. absurd (cc)) (λ x. absurd (cc)) r refl).0
source_to t names s (Some ks) r h = (rule_to t names s None (Is ks) (λ x. absurd (cc)) (λ x. absurd (cc)) r h).0

looked_from : (t : Value) (names : List (List ℕ)) (s below : Bool) (ks : Kinds) → Sees (ways_of s (looked below ks)) t names
    → Reached t names s × ((below || has ks (kind_of (at t names))) ≡ true)
looked_from t names s true ks h = rule_from t names s None Anything (λ x. absurd (cc)) (λ x. absurd (cc)) h tt
looked_from t names s false ks h = rule_from t names s None (Is ks) (λ x. absurd (cc)) (λ x. absurd (cc)) h tt

looked_to : (t : Value) (names : List (List ℕ)) (s below : Bool) (ks : Kinds) → Reached t names s → (below || has ks (kind_of (at t names))) ≡ true
    → Sees (ways_of s (looked below ks)) t names
looked_to t names s true ks r h = (rule_to t names s None Anything (λ x. absurd (cc)) (λ x. absurd (cc)) r refl).0
looked_to t names s false ks r h = (rule_to t names s None (Is ks) (λ x. absurd (cc)) (λ x. absurd (cc)) r h).0

-- ---- what it says of the place

any_holds : (place : Where) (s : Sight) → is_anything place ≡ true → holds place s ≡ true
any_holds Anything s e = refl
any_holds (Is ks) s e = absurd (cc)
any_holds Within s e = absurd (cc)
any_holds (Inside ks) s e = absurd (cc)
any_holds Outside s e = absurd (cc)
any_holds Empty s e = absurd (cc)
any_holds Full s e = absurd (cc)
any_holds (Into ks) s e = absurd (cc)
any_holds IntoEmpty s e = absurd (cc)
any_holds IntoFull s e = absurd (cc)

any_sees : (place : Where) (t : Value) → is_anything place ≡ true → Sees (ways_of false place) t [] × EndMet (end_of_place place) t
any_sees Anything t e = (has_all (kind_of t), tt)
any_sees (Is ks) t e = absurd (cc)
any_sees Within t e = absurd (cc)
any_sees (Inside ks) t e = absurd (cc)
any_sees Outside t e = absurd (cc)
any_sees Empty t e = absurd (cc)
any_sees Full t e = absurd (cc)
any_sees (Into ks) t e = absurd (cc)
any_sees IntoEmpty t e = absurd (cc)
any_sees IntoFull t e = absurd (cc)

module _ (t : Value) (names : List (List ℕ)) (m : Option (List ℕ)) (somewhere : names ≢ []) (named : IsTrue (some_name m)) where
  place_from : (place : Where) (c : Bool) → is_anything place ≡ c → Sees (ways_of false place) t (second_names c (is_inner place) names m)
      → EndMet (end_of_place place) (at t (second_names c (is_inner place) names m)) → (c ≡ false → NoLinkOnWay t names) × (holds place (seen t names false m) ≡ true)
  place_from place true e s end = (λ x. absurd (cc), any_holds place (seen t names false m) e)
  place_from place false e s end =
      let r = rule_from t names false m place (λ x. somewhere) (λ x. named) s end in (λ x. r.0.0, r.1)

  place_to : (place : Where) (c : Bool) → is_anything place ≡ c → (c ≡ false → NoLinkOnWay t names) → holds place (seen t names false m) ≡ true
      → Sees (ways_of false place) t (second_names c (is_inner place) names m) × EndMet (end_of_place place) (at t (second_names c (is_inner place) names m))
  place_to place true e clear h = any_sees place t e
  place_to place false e clear h = rule_to t names false m place (λ x. somewhere) (λ x. named) (clear refl, λ x. absurd (cc)) h

module _ (act : Act) (two : HasSource (source act)) (performed : IsPerformed act) (few_a : length (path_of act).names ≤ 64) (few_b : length (place_of act) ≤ 64)
    (named_a : AreNames (path_of act).names) (named_b : AreNames (place_of act)) (inside : AreNames (with_name (place_of act) (inner_name act))) where
  abbrev p : List (List ℕ)
  p = (path_of act).names

  abbrev q : List (List ℕ)
  q = place_of act

  abbrev m : Option (List ℕ)
  m = inner_name act

  abbrev s : Bool
  s = (path_of act).slash

  abbrev below : Bool
  below = is_below act

  abbrev rs : List Rule
  rs = rules (is_below act) act

  somewhere_a : p ≢ []
  somewhere_a = (performed.0 (changes_tree act two)).0

  somewhere_b : q ≢ []
  somewhere_b = (performed.0 (changes_tree act two)).1

  well : (r : Rule) → IsAmong r rs → IsWell act r
  well r among = move_well act two r among

  -- what is moved or copied is what stands at the path
  from : (t : Value) → source_of act t ≡ kind_of (at t p)
  from t = source_kind act two t

  holds_as : (t : Value) (r : Rule) → rule_holds (source_of act t) (sight_on act t) r ≡ rule_holds (kind_of (at t p)) (seen t q false m) r
  holds_as t r = ap (λ k. rule_holds k (sight_on act t) r) (from t)

  -- the way of the second path is looked at
  looks_as : (t : Value) → looks_at_way act t ≡ (below || has (taken act) (kind_of (at t p)))
  looks_as t = ap (λ (b : Bool). below || b) (ap (takes act) (from t) ∙ taken_is act two (kind_of (at t p)))

  -- ---- a link on the way

  link_tells : (t : Value) (n k : ℕ) → n ≡ k → 1 ≤ k → k < length p → Tells act t n → kind_at t p k ≡ Link
  link_tells t n k e low high (way l h is) = subst (λ j. kind_at t p j ≡ Link) e is
  link_tells t n k e low high (slash is clear sl na nd) = absurd (omega (arith, e, is, high, few_a))
  link_tells t n k e low high (second j is reaches looks l h at_link) = absurd (omega (arith, e, is, high, few_a))
  link_tells t n k e low high (table r is reaches clear among h) = let big = (well r among).low in absurd (omega (arith, e, is, high, few_a, big))

  pub move_link_one : (k : ℕ) → 1 ≤ k → k < length p → IsOne act (case_of (link_plan k) (take k p) [])
  move_link_one k low high = one_of act (case_of (link_plan k) (take k p) []) (link_row k) refl refl
      (λ t tree e. link_taken act t k low high (link_tells t (row act t).number k e low high (row_tells act t performed tree.dir)))
      (λ t u tree h.
      let x = leads_from (link_plan k) (take k p) [] (some_names k p named_a) t u h in
      let is = is_link (kind_at t p k) (through_from (of Link) t (take k p) x.0).1 in
      (link_taken act t k low high is, x.2))
      (λ t u tree same is.
      let at_link = link_tells t (row act t).number k (ap (λ (r : Row). r.number) same) low high (row_tells act t performed tree.dir) in
      leads_to (link_plan k) (take k p) [] (some_names k p named_a) t u tree
      (through_to (of Link) t (take k p) (there_parents t (take k p) (link_there _ at_link)) (ap (has (of Link)) at_link)) tt is)

  -- ---- a slash

  slash_tells : (t : Value) (n : ℕ) → n ≡ 64 → Tells act t n → NoLinkOnWay t p × (s ≡ true) × (kind_of (at t p) ≢ Absent) × (kind_of (at t p) ≢ Dir)
  slash_tells t n e (way l h is) = absurd (omega (arith, e, h, few_a))
  slash_tells t n e (slash is clear sl na nd) = (clear, sl, na, nd)
  slash_tells t n e (second j is reaches looks l h at_link) = absurd (omega (arith, e, is))
  slash_tells t n e (table r is reaches clear among h) = let big = (well r among).low in absurd (omega (arith, e, is, big))

  pub move_slash_one : s ≡ true → IsOne act (case_of slash_plan p [])
  move_slash_one sl = one_of act (case_of slash_plan p []) slash_row refl refl
      (λ t tree e.
      let x = slash_tells t (row act t).number e (row_tells act t performed tree.dir) in
      slash_taken act t x.0 sl x.2 x.3)
      (λ t u tree h.
      let x = leads_from slash_plan p [] named_a t u h in
      let parts = through_from no_dir t p x.0 in
      let is = thing (kind_of (at t p)) parts.1 in
      (slash_taken act t (parents_clear t p parts.0) sl is.0 is.1, x.2))
      (λ t u tree same is.
      let x = slash_tells t (row act t).number (ap (λ (r : Row). r.number) same) (row_tells act t performed tree.dir) in
      leads_to slash_plan p [] named_a t u tree
      (through_to no_dir t p (there_parents t p x.2) (is_thing (kind_of (at t p)) x.2 x.3)) tt is)

  -- ---- a link on the way of the second path

  second_tells : (t : Value) (n k : ℕ) → n ≡ 128 + k → Tells act t n → Reaches act t × LooksAtWay act t × (kind_at t q k ≡ Link)
  second_tells t n k e (way l h is) = absurd (omega (arith, e, h, few_a))
  second_tells t n k e (slash is clear sl na nd) = absurd (omega (arith, e, is))
  second_tells t n k e (second j is reaches looks l h at_link) =
      let same : j ≡ k = omega (arith, e, is) in (reaches, looks, subst (λ i. kind_at t q i ≡ Link) same at_link)
  second_tells t n k e (table r is reaches clear among h) = let big = (well r among).high in absurd (omega (arith, e, is, big))

  pub move_second_one : (k : ℕ) → 1 ≤ k → k < length q → IsOne act (move_case (second_plan s (looked below (taken act)) k) p (take k q))
  move_second_one k low high =
      let plan = second_plan s (looked below (taken act)) k in
      let named = some_names k q named_b in
      one_of act (move_case plan p (take k q)) (link_row (128 + k)) refl refl
      (λ t tree e.
      let x = second_tells t (row act t).number k e (row_tells act t performed tree.dir) in
      second_taken act t k x.0 x.1 low high x.2)
      (λ t u tree h.
      let x = moves_from p (take k q) named_a named t plan u h in
      let y = looked_from t p s below (taken act) x.0 in
      let is = is_link (kind_at t q k) (through_from (of Link) t (take k q) x.1).1 in
      (second_taken act t k y.0 (looks_as t ∙ y.1) low high is, x.3))
      (λ t u tree same is.
      let x = second_tells t (row act t).number k (ap (λ (r : Row). r.number) same) (row_tells act t performed tree.dir) in
      moves_to p (take k q) named_a named t plan u tree (looked_to t p s below (taken act) x.0 (sym (looks_as t) ∙ x.1))
      (through_to (of Link) t (take k q) (there_parents t (take k q) (link_there _ x.2)) (ap (has (of Link)) x.2)) tt (λ c. absurd (cc)) is)

  -- ---- a row of the table

  rule_tells : (t : Value) (r : Rule) (n : ℕ) → n ≡ r.number → IsAmong r rs → Tells act t n
      → Reaches act t × (LooksAtWay act t → NoLinkOnWay t q) × (rule_holds (kind_of (at t p)) (seen t q false m) r ≡ true)
  rule_tells t r n e among (way l h is) = let big = (well r among).low in absurd (omega (arith, e, h, few_a, big))
  rule_tells t r n e among (slash is clear sl na nd) = let big = (well r among).low in absurd (omega (arith, e, is, big))
  rule_tells t r n e among (second j is reaches looks l h at_link) = let small = (well r among).high in absurd (omega (arith, e, is, small))
  rule_tells t r n e among (table o is reaches clear there h) =
      let same = same_rule rs o r (moves_apart act two) there among (is ∙ e) in
      (reaches, clear, subst (λ (x : Rule). rule_holds (kind_of (at t p)) (seen t q false m) x ≡ true) same (sym (holds_as t o) ∙ h))

  second_named : (c i : Bool) → AreNames (second_names c i q m)
  second_named true i = λ k d lt. absurd (omega arith)
  second_named false true = inside
  second_named false false = named_b

  move_effect : (t : Value) (e : Effect) (i c : Bool) → move_fits e i ≡ true → (is_placed (moving_of e) ≡ true → c ≡ false) → effect_on e act t ≡ moved_by (moving_of e) p (second_names c i q m) t
  move_effect t Nothing i c f n = refl
  move_effect t MakesDir i c f n = absurd (cc)
  move_effect t KeepsDir i c f n = absurd (cc)
  move_effect t MakesFile i c f n = absurd (cc)
  move_effect t MakesLink i c f n = absurd (cc)
  move_effect t LinksInside i c f n = absurd (cc)
  move_effect t TakesAway i c f n = absurd (cc)
  move_effect t Moves false false f n = refl
  move_effect t Moves false true f n = let bad : true ≡ false = n refl in absurd (cc)
  move_effect t Moves true c f n = absurd (cc)
  move_effect t MovesInside true false f n = refl
  move_effect t MovesInside true true f n = let bad : true ≡ false = n refl in absurd (cc)
  move_effect t MovesInside false c f n = absurd (cc)
  move_effect t Copies false false f n = refl
  move_effect t Copies false true f n = let bad : true ≡ false = n refl in absurd (cc)
  move_effect t Copies true c f n = absurd (cc)
  move_effect t CopiesInside true false f n = refl
  move_effect t CopiesInside true true f n = let bad : true ≡ false = n refl in absurd (cc)
  move_effect t CopiesInside false c f n = absurd (cc)

  -- the way of the second path is clear where it is looked at
  clear_by : (t : Value) (r : Rule) (c : Bool) → IsAmong r rs → is_anything r.place ≡ c → is_source r.source (kind_of (at t p)) ≡ true
      → (c ≡ false → NoLinkOnWay t q) → LooksAtWay act t → NoLinkOnWay t q
  clear_by t r false among e from_here clear looks = clear refl
  clear_by t r true among e from_here clear looks =
      let no : (below || has (taken act) (kind_of (at t p))) ≡ false = looks_not below (is_anything r.place) (taken act) r.source (kind_of (at t p)) (well r among).looks e from_here in
      let bad : true ≡ false = sym looks ∙ (looks_as t ∙ no) in absurd (cc)

  -- and directories are above the place still where what is moved is taken away
  room_by : (t : Value) (names : List (List ℕ)) → IsTrue (sound t) → Clear p names → IsTrue (has_parents t names) → IsTrue (has_parents (put t p value.Absent) names)
  room_by t names tree clear h = kept_parents t value.Absent p names tree clear h

  clear_second : (x : Option (List ℕ)) (c i : Bool) → is_prefix p q ≡ false → p ≢ q → c ≡ false → Clear p (second_names c i q x)
  clear_second x true i beside differ e = absurd (cc)
  clear_second x false false beside differ e = clear_place p q beside
  clear_second None false true beside differ e = clear_place p q beside
  clear_second (Some f) false true beside differ e = clear_below p q f beside differ

  moved_placed : (c : Moving) → is_moved c ≡ true → is_placed c ≡ true
  moved_placed moving.Stays h = h
  moved_placed moving.Moves h = h
  moved_placed moving.Copies h = absurd (cc)

  pub move_rule_one : (r : Rule) → IsAmong r rs → IsOne act (move_rule_case act r)
  move_rule_one r among =
      let w = well r among in
      let c = is_anything r.place in
      let i = is_inner r.place in
      let names = second_names c i q m in
      let plan = move_plan s r in
      let some = inner_some act two somewhere_a in
      one_of act (move_rule_case act r) (row_of r) refl refl
      (λ t tree e.
      let x = rule_tells t r (row act t).number e among (row_tells act t performed tree.dir) in
      table_taken act t performed r x.0 x.1 among (holds_as t r ∙ x.2))
      (λ t u tree h.
      let x = moves_from p names named_a (second_named c i) t plan u h in
      let y = source_from t p s r.source x.0 in
      let z = place_from t q m somewhere_b some r.place c refl x.1 x.2 in (
        table_taken act t performed r y.0 (clear_by t r c among refl y.1 z.0) among
            (holds_as t r ∙ and_made (is_source r.source (kind_of (at t p))) (holds r.place (seen t q false m)) y.1 z.1),
        x.3 ∙ sym (move_effect t r.effect i c w.fits w.named),
      ))
      (λ t u tree same is.
      let x = rule_tells t r (row act t).number (ap (λ (r : Row). r.number) same) among (row_tells act t performed tree.dir) in
      let parts = and_parts (is_source r.source (kind_of (at t p))) (holds r.place (seen t q false m)) x.2 in
      let z = place_to t q m somewhere_b some r.place c refl (λ e. x.1 (looks_as t ∙ looks_where below c (taken act) r.source (kind_of (at t p)) w.looks e parts.0)) parts.1 in
      moves_to p names named_a (second_named c i) t plan u tree (source_to t p s r.source x.0 parts.0) z.0 z.1
      (λ moves.
      let moved_here : is_moved (moving_of r.effect) ≡ true = ap is_moved moves in
      let placed : is_placed (moving_of r.effect) ≡ true = moved_placed (moving_of r.effect) moved_here in
      room_by t names tree.sound
      (clear_second m c i (beside_first act two (w.moves moved_here) (w.beside moved_here)) (paths_differ act two (w.moves moved_here) performed) (w.named placed))
      (through_from (ways_of false r.place).last t names (subst (λ v. Sees v t names) (through_ways false r.place (w.through placed)) z.0)).0)
      (is ∙ move_effect t r.effect i c w.fits w.named))

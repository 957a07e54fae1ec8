-- Which row an act on one path takes on a tree.
use Rattle.std.proofs.Common.{◌≡◌, ◌≢◌, ℕ, ◌<◌, ◌≤◌, true, false, ◌&&◌, None, List, length, sym, ap, subst, ◌∙◌}
use Rattle.feature_trees.specs.declared.kind.Kind.{Kind}
use Rattle.feature_trees.specs.declared.kind.Kind.TheVariants.{Absent, Link, Dir}
use Rattle.feature_trees.specs.declared.value.Value.{Value}
use Rattle.feature_trees.specs.Tree.{at, kind_of}
use Rattle.utility_calls.specs.declared.acts.Act.{Act}
use Rattle.utility_calls.specs.Ways.{in_dir}
use Rattle.utility_calls.specs.Ways.{kind_at, NoLinkOnWay}
use Rattle.utility_calls.specs.Sights.{sight_of, holds}
use Rattle.utility_calls.specs.declared.sights.Rule.{Rule}
use Rattle.utility_calls.specs.Table.{rules, is_source, rule_holds, row_of}
use Rattle.utility_calls.specs.Acts.{path_of, inner_name, inner_at, source_of, is_below, looks_at_way, sight_on, row, IsPerformed}
use Rattle.utility_calls.specs.ActRows.{IsAmong, Reaches}
use Rattle.act_cases.specs.Cases.{IsOnOnePath}
use Rattle.utility_calls.proofs.ActChanges.{place_is, beside, no_second}
use Rattle.act_cases.proofs.AnyRow.{table_taken, Tells, row_tells}
use Rattle.act_cases.proofs.AnyRow.{way as tells_way, slash as tells_slash, second as tells_second, table as tells_table}

module _ (act : Act) (one_path : IsOnOnePath act) (performed : IsPerformed act) (t : Value) (dir : kind_of t ≡ Dir) where
  abbrev names : List (List ℕ)
  names = (path_of act).names

  abbrev end_kind : Kind
  end_kind = kind_of (at t names)

  no_look : looks_at_way act t ≡ false
  no_look = no_second act t one_path

  same_rules : rules (is_below act) act ≡ rules false act
  same_rules = ap (λ b. rules b act) (beside act one_path)

  same_sight : sight_on act t ≡ sight_of (in_dir t names) (at t names) (inner_at (at t names) (inner_name act))
  same_sight = ap (λ ns. sight_of (in_dir t ns) (at t ns) (inner_at (at t ns) (inner_name act))) (place_is act one_path)

  -- the condition of a row of the table
  abbrev pub Holds : Rule → Type 0
  Holds r = holds r.place (sight_of (in_dir t names) (at t names) (inner_at (at t names) (inner_name act))) ≡ true

  rule_from_holds : (r : Rule) → r.source ≡ None → Holds r → rule_holds (source_of act t) (sight_on act t) r ≡ true
  rule_from_holds r none h = ap (λ o. is_source o (source_of act t) && holds r.place (sight_on act t)) none ∙ ap (holds r.place) same_sight ∙ h

  holds_from_rule : (r : Rule) → r.source ≡ None → rule_holds (source_of act t) (sight_on act t) r ≡ true → Holds r
  holds_from_rule r none h =
      sym (ap (λ o. is_source o (source_of act t) && holds r.place (sight_on act t)) none ∙ ap (holds r.place) same_sight) ∙ h

  -- a row of the table
  pub own_taken : (r : Rule) → Reaches act t → IsAmong r (rules false act) → r.source ≡ None → Holds r → row act t ≡ row_of r
  own_taken r reaches among none h =
      table_taken act t performed r reaches (λ looks. let bad : true ≡ false = sym looks ∙ no_look in absurd (cc))
      (subst (IsAmong r) (sym same_rules) among) (rule_from_holds r none h)

  -- what the number of the row says
  pub data Says (n : ℕ) : Type 0 where
    way : 1 ≤ n → n < length names → kind_at t names n ≡ Link → Says n
    slash : n ≡ 64 → NoLinkOnWay t names → (path_of act).slash ≡ true → end_kind ≢ Absent → end_kind ≢ Dir → Says n
    table : (r : Rule) → r.number ≡ n → Reaches act t → IsAmong r (rules false act) → (r.source ≡ None → Holds r) → Says n

  says_of : (n : ℕ) → Tells act t n → Says n
  says_of n (tells_way low high e) = way low high e
  says_of n (tells_slash is clear s na nd) = slash is clear s na nd
  says_of n (tells_second k is reaches looks low high e) = let bad : true ≡ false = sym looks ∙ no_look in absurd (cc)
  says_of n (tells_table r is reaches clear among h) = table r is reaches (subst (IsAmong r) same_rules among) (λ none. holds_from_rule r none h)

  pub row_says : Says (row act t).number
  row_says = says_of (row act t).number (row_tells act t performed dir)

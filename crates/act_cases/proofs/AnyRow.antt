-- Which row an act takes on a tree.
use Rattle.std.proofs.Common.{◌≡◌, ◌≢◌, ℕ, ◌+◌, ◌<◌, ◌≤◌, Bool, true, false, if◌then◌else◌, None, List, length, refl, ap, ◌∙◌, arith}
use Rattle.feature_trees.specs.declared.kind.Kind.{Kind}
use Rattle.feature_trees.specs.declared.kind.Kind.TheVariants.{Absent, Reg, Link, Special, Dir}
use Rattle.feature_trees.specs.declared.value.Value.{Value}
use Rattle.feature_trees.specs.Tree.{at, kind_of}
use Rattle.utility_calls.specs.declared.acts.Act.{Act}
use Rattle.utility_calls.specs.declared.sights.Row.{Row}
use Rattle.utility_calls.specs.Ways.{link_on_way}
use Rattle.utility_calls.specs.Ways.{kind_at, NoLinkOnWay}
use Rattle.utility_calls.specs.declared.sights.Rule.{Rule}
use Rattle.utility_calls.specs.Table.{rules, rule_holds, row_of}
use Rattle.utility_calls.specs.Acts.{path_of, place_of, source_of, is_below, looks_at_way, second_link, by_way, by_slash, slash_row, sight_on, own_row, row, IsPerformed, link_row}
use Rattle.utility_calls.specs.ActRows.{IsAmong, Reaches, LooksAtWay, Applies, on_way, at_slash, on_second_way, own}
use Rattle.utility_calls.proofs.Ways.{counted}
use Rattle.utility_calls.proofs.ActRow.{none_on, only_row, one_holds, row_applies, no_slash_is}

slash_is : (s : Bool) (k : Kind) (r : Row) → s ≡ true → k ≢ Absent → k ≢ Dir → by_slash s k r ≡ slash_row
slash_is false k r h na nd = absurd (cc)
slash_is true Absent r h na nd = absurd (na refl)
slash_is true Reg r h na nd = refl
slash_is true Link r h na nd = refl
slash_is true (Special s) r h na nd = refl
slash_is true Dir r h na nd = absurd (nd refl)

module _ (act : Act) (t : Value) where
  abbrev names : List (List ℕ)
  names = (path_of act).names

  abbrev end_kind : Kind
  end_kind = kind_of (at t names)

  abbrev later : Row
  later = by_way (second_link act t) (own_row act t)

  -- a link on the way
  pub link_taken : (k : ℕ) → 1 ≤ k → k < length names → kind_at t names k ≡ Link → row act t ≡ link_row k
  link_taken k low high e =
      ap (λ o. by_way o (by_slash (path_of act).slash end_kind later)) (counted names t 0 k low high e) ∙ ap link_row (omega arith)

  clear_row : NoLinkOnWay t names → row act t ≡ by_slash (path_of act).slash end_kind later
  clear_row clear = ap (λ o. by_way o (by_slash (path_of act).slash end_kind later)) (none_on t names 0 clear)

  -- a slash behind what is there and no directory
  pub slash_taken : NoLinkOnWay t names → (path_of act).slash ≡ true → end_kind ≢ Absent → end_kind ≢ Dir → row act t ≡ slash_row
  slash_taken clear s na nd = clear_row clear ∙ slash_is (path_of act).slash end_kind later s na nd

  reached_row : Reaches act t → row act t ≡ later
  reached_row reaches = clear_row reaches.0 ∙ no_slash_is (path_of act).slash end_kind later reaches.1

  -- a link on the way of the second path
  pub second_taken : (k : ℕ) → Reaches act t → LooksAtWay act t → 1 ≤ k → k < length (place_of act) → kind_at t (place_of act) k ≡ Link
      → row act t ≡ link_row (128 + k)
  second_taken k reaches looks low high e =
      reached_row reaches
      ∙ ap (λ (c : Bool). by_way (if c then link_on_way 128 t (place_of act) else None) (own_row act t)) looks
      ∙ ap (λ o. by_way o (own_row act t)) (counted (place_of act) t 128 k low high e)

  no_second : (c : Bool) → looks_at_way act t ≡ c → (LooksAtWay act t → NoLinkOnWay t (place_of act)) → second_link act t ≡ None
  no_second true e clear =
      ap (λ (c : Bool). if c then link_on_way 128 t (place_of act) else None) e ∙ none_on t (place_of act) 128 (clear e)
  no_second false e clear = ap (λ (c : Bool). if c then link_on_way 128 t (place_of act) else None) e

  -- a row of the table
  pub table_taken : IsPerformed act → (r : Rule) → Reaches act t → (LooksAtWay act t → NoLinkOnWay t (place_of act)) → IsAmong r (rules (is_below act) act)
      → rule_holds (source_of act t) (sight_on act t) r ≡ true → row act t ≡ row_of r
  table_taken performed r reaches clear among h =
      reached_row reaches ∙ ap (λ o. by_way o (own_row act t)) (no_second (looks_at_way act t) refl clear)
      ∙ only_row (source_of act t) (sight_on act t) (rules (is_below act) act) r (one_holds act t performed) among h

  -- what the number of the row says
  pub data Tells (n : ℕ) : Type 0 where
    way : 1 ≤ n → n < length names → kind_at t names n ≡ Link → Tells n
    slash : n ≡ 64 → NoLinkOnWay t names → (path_of act).slash ≡ true → end_kind ≢ Absent → end_kind ≢ Dir → Tells n
    second : (k : ℕ) → n ≡ 128 + k → Reaches act t → LooksAtWay act t → 1 ≤ k → k < length (place_of act) → kind_at t (place_of act) k ≡ Link → Tells n
    table : (r : Rule) → r.number ≡ n → Reaches act t → (LooksAtWay act t → NoLinkOnWay t (place_of act)) → IsAmong r (rules (is_below act) act)
        → rule_holds (source_of act t) (sight_on act t) r ≡ true → Tells n

  tells_of : {n : ℕ} → Applies act t n → Tells n
  tells_of (on_way k low high e) = way low high e
  tells_of (at_slash clear s na nd) = slash refl clear s na nd
  tells_of (on_second_way k reaches looks low high e) = second k refl reaches looks low high e
  tells_of (own r reaches clear among h) = table r refl reaches clear among h

  pub row_tells : IsPerformed act → kind_of t ≡ Dir → Tells (row act t).number
  row_tells performed dir = tells_of (row_applies act t performed dir)

-- Which row a back takes on a tree.
use Rattle.std.proofs.Common.{◌≡◌, ℕ, ◌<◌, ◌≤◌, inl, inr, Bool, true, false, if◌then◌else◌, List, [], ◌∷◌, length, refl, sym, ap, ◌∙◌, arith}
use Rattle.feature_trees.specs.declared.kind.Kind.{Kind}
use Rattle.feature_trees.specs.declared.kind.Kind.TheVariants.{Link, Dir}
use Rattle.feature_trees.specs.declared.value.Value.{Value}
use Rattle.feature_trees.specs.Tree.{kind_of}
use Rattle.utility_calls.specs.declared.backs.Back.{Back}
use Rattle.utility_calls.specs.declared.backs.Back.TheVariants.{Folder, File}
use Rattle.utility_calls.specs.declared.sights.Row.{Row}
use Rattle.utility_calls.specs.declared.sights.Rule.{Rule}
use Rattle.utility_calls.specs.declared.sights.Sight.{Sight}
use Rattle.utility_calls.specs.Acts.{by_way, link_row}
use Rattle.utility_calls.specs.ActRows.{IsAmong}
use Rattle.utility_calls.specs.Backs.{names_of, back_rules, kept_kind, back_sight, back_row, IsNamed, BackApplies, on_way, own}
use Rattle.utility_calls.specs.Table.{rule_holds, row_of, first_row}
use Rattle.utility_calls.specs.Ways.{kind_at, NoLinkOnWay}
use Rattle.utility_calls.proofs.ActRow.{none_on}
use Rattle.utility_calls.proofs.BackRow.{one_back_row}
use Rattle.utility_calls.proofs.Ways.{counted}
use Rattle.act_cases.proofs.Tabled.{apart, same_rule}

-- the numbers of a back's rows rise
pub all_apart : (b : Back) → apart (back_rules b) ≡ true
all_apart (Folder p) = refl
all_apart (File p) = refl

-- ---- the first row that holds

record Held (k : Kind) (s : Sight) (rs : List Rule) : Type 0 where
  r : Rule
  among : IsAmong r rs
  first : first_row rs k s ≡ row_of r

held_by : (k : Kind) (s : Sight) (o : Rule) (rs : List Rule) (b : Bool) → rule_holds k s o ≡ b → (b ≡ false → Held k s rs) → Held k s (o ∷ rs)
held_by k s o rs true e more =
    record { r = o; among = inl refl; first = ap (λ (b : Bool). if b then row_of o else first_row rs k s) e }
held_by k s o rs false e more =
    let f = more refl in
    record { r = f.r; among = inr f.among; first = ap (λ (b : Bool). if b then row_of o else first_row rs k s) e ∙ f.first }

held : (k : Kind) (s : Sight) (rs : List Rule) (r : Rule) → IsAmong r rs → rule_holds k s r ≡ true → Held k s rs
held k s [] r among h = absurd among
held k s (o ∷ rs) r (inl e) h =
    held_by k s o rs (rule_holds k s o) refl (λ n. let bad : true ≡ false = sym h ∙ ap (rule_holds k s) e ∙ n in absurd (cc))
held k s (o ∷ rs) r (inr among) h = held_by k s o rs (rule_holds k s o) refl (λ n. held k s rs r among h)

-- ---- the row that is taken

module _ (b : Back) (kept t : Value) (named : IsNamed b) (dir : kind_of t ≡ Dir) where
  abbrev first : Row
  first = first_row (back_rules b) (kept_kind b kept) (back_sight b t)

  pub way_taken : (k : ℕ) → 1 ≤ k → k < length (names_of b) → kind_at t (names_of b) k ≡ Link → back_row b kept t ≡ link_row k
  way_taken k low high e = ap (λ o. by_way o first) (counted (names_of b) t 0 k low high e) ∙ ap link_row (omega arith)

  pub rule_taken : (r : Rule) → NoLinkOnWay t (names_of b) → IsAmong r (back_rules b) → rule_holds (kept_kind b kept) (back_sight b t) r ≡ true → back_row b kept t ≡ row_of r
  rule_taken r clear among h =
      let f = held (kept_kind b kept) (back_sight b t) (back_rules b) r among h in
      let is : back_row b kept t ≡ row_of f.r = ap (λ o. by_way o first) (none_on t (names_of b) 0 clear) ∙ f.first in
      let number : r.number ≡ f.r.number = (one_back_row b kept t named dir).alone r.number (own r clear among h) ∙ ap (λ (x : Row). x.number) is in
      is ∙ ap row_of (sym (same_rule (back_rules b) r f.r (all_apart b) among f.among number))

  -- what the number of the row says
  pub data Tells (n : ℕ) : Type 0 where
    way : 1 ≤ n → n < length (names_of b) → kind_at t (names_of b) n ≡ Link → Tells n
    table : (r : Rule) → r.number ≡ n → NoLinkOnWay t (names_of b) → IsAmong r (back_rules b) → rule_holds (kept_kind b kept) (back_sight b t) r ≡ true → Tells n

  tells_of : {n : ℕ} → BackApplies b kept t n → Tells n
  tells_of (on_way k low high e) = way low high e
  tells_of (own r clear among h) = table r refl clear among h

  pub row_tells : Tells (back_row b kept t).number
  row_tells = tells_of (one_back_row b kept t named dir).applies

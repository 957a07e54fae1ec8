-- The numbers of an act's cases rise.
use Rattle.std.proofs.Common.{◌≡◌, ℕ, zero, suc, ◌+◌, ◌-◌, ◌<◌, ◌≤◌, inl, inr, Bool, true, false, List, [], ◌∷◌, ◌++◌, length, map, refl, arith}
use Rattle.feature_trees.proofs.Laws.{and_parts}
use Rattle.utility_calls.specs.declared.acts.Act.{Act}
use Rattle.utility_calls.specs.declared.sights.Rule.{Rule}
use Rattle.utility_calls.specs.Table.{rules}
use Rattle.utility_calls.specs.Acts.{path_of, place_of, is_below}
use Rattle.utility_calls.specs.ActRows.{IsAmong}
use Rattle.tree_clauses.specs.declared.case.Case.{Case}
use Rattle.act_cases.specs.Moves.{move_rule_case, second_cases, move_cases}
use Rattle.act_cases.specs.Cases.{Rising, case_row, link_cases, slash_cases, rule_case, cases_of}
use Rattle.act_cases.proofs.Tabled.{above, apart, above_one}

-- the numbers rise from this one on
abbrev pub From : ℕ → List Case → Type 0
From low [] = Unit {0}
From low (x ∷ xs) = (low ≤ x.row) × From (x.row + 1) xs

-- they are below this one
abbrev pub Under : ℕ → List Case → Type 0
Under high [] = Unit {0}
Under high (x ∷ xs) = (x.row < high) × Under high xs

lower : (low more : ℕ) (xs : List Case) → low ≤ more → From more xs → From low xs
lower low more [] le h = tt
lower low more (x ∷ xs) le h = let a = h.0 in (omega (arith, a), h.1)

pub then : (low high : ℕ) (xs ys : List Case) → low ≤ high → From low xs → Under high xs → From high ys → From low (xs ++ ys)
then low high [] ys le h u w = lower low high ys le w
then low high (x ∷ xs) ys le h u w = let b = u.0 in (h.0, then (x.row + 1) high xs ys (omega (arith, b)) h.1 u.1 w)

pub rising_of : (low : ℕ) (xs : List Case) → From low xs → Rising (map case_row xs)
rising_of low [] h = tt
rising_of low (x ∷ []) h = tt
rising_of low (x ∷ y ∷ rest) h = let a = h.1.0 in (omega (arith, a), rising_of (x.row + 1) (y ∷ rest) h.1)

links_from : (names : List (List ℕ)) (n more : ℕ) → From n (link_cases names n more)
links_from names n zero = tt
links_from names n (suc more) = (omega arith, links_from names (n + 1) more)

links_under : (names : List (List ℕ)) (n more high : ℕ) → n + more ≤ high → Under high (link_cases names n more)
links_under names n zero high le = tt
links_under names n (suc more) high le = (omega (arith, le), links_under names (n + 1) more high (omega (arith, le)))

slash_from : (s : Bool) (names : List (List ℕ)) → From 64 (slash_cases s names)
slash_from false names = tt
slash_from true names = (omega arith, tt)

slash_under : (s : Bool) (names : List (List ℕ)) → Under 65 (slash_cases s names)
slash_under false names = tt
slash_under true names = (omega arith, tt)

module _ (f : Rule → Case) (row_is : (r : Rule) → (f r).row ≡ r.number) where
  pub rules_from : (low : ℕ) (rs : List Rule) → ((r : Rule) → IsAmong r rs → low ≤ r.number) → apart rs ≡ true → From low (map f rs)
  rules_from low [] each h = tt
  rules_from low (r ∷ rs) each h =
      let parts = and_parts (above r.number rs) (apart rs) h in
      let e = row_is r in
      let here = each r (inl refl) in (
        omega (arith, e, here),
        rules_from ((f r).row + 1) rs (λ q among. let up = above_one r.number rs q parts.0 among in omega (arith, e, up)) parts.1,
      )

  rules_under : (high : ℕ) (rs : List Rule) → ((r : Rule) → IsAmong r rs → r.number < high) → Under high (map f rs)
  rules_under high [] each = tt
  rules_under high (r ∷ rs) each =
      let e = row_is r in
      let here = each r (inl refl) in
      (omega (arith, e, here), rules_under high rs (λ q among. each q (inr among)))

seconds_from : (act : Act) (k more low : ℕ) → low ≤ 128 + k → From low (second_cases act k more)
seconds_from act k zero low le = tt
seconds_from act k (suc more) low le = (le, seconds_from act (k + 1) more (128 + k + 1) (omega arith))

pub cases_rise : (act : Act) → length (path_of act).names ≤ 64 → ((r : Rule) → IsAmong r (rules false act) → 64 < r.number) → apart (rules false act) ≡ true
    → Rising (map case_row (cases_of act))
cases_rise act few low tell =
    rising_of 1 (cases_of act)
    (then 1 64 (link_cases (path_of act).names 1 (length (path_of act).names - 1)) _ (omega arith)
    (links_from (path_of act).names 1 (length (path_of act).names - 1)) (links_under (path_of act).names 1 (length (path_of act).names - 1) 64 (omega (arith, few)))
    (then 64 65 (slash_cases (path_of act).slash (path_of act).names) _ (omega arith) (slash_from (path_of act).slash (path_of act).names) (slash_under (path_of act).slash (path_of act).names)
    (rules_from (rule_case act) (λ r. refl) 65 (rules false act) (λ r among. let h = low r among in omega (arith, h)) tell)))

pub moves_rise : (act : Act) → length (path_of act).names ≤ 64 → ((r : Rule) → IsAmong r (rules (is_below act) act) → 64 < r.number)
    → ((r : Rule) → IsAmong r (rules (is_below act) act) → r.number < 128) → apart (rules (is_below act) act) ≡ true → Rising (map case_row (move_cases act))
moves_rise act few low high tell =
    rising_of 1 (move_cases act)
    (then 1 64 (link_cases (path_of act).names 1 (length (path_of act).names - 1)) _ (omega arith)
    (links_from (path_of act).names 1 (length (path_of act).names - 1)) (links_under (path_of act).names 1 (length (path_of act).names - 1) 64 (omega (arith, few)))
    (then 64 65 (slash_cases (path_of act).slash (path_of act).names) _ (omega arith) (slash_from (path_of act).slash (path_of act).names) (slash_under (path_of act).slash (path_of act).names)
    (then 65 128 (map (move_rule_case act) (rules (is_below act) act)) _ (omega arith)
    (rules_from (move_rule_case act) (λ r. refl) 65 (rules (is_below act) act) (λ r among. let h = low r among in omega (arith, h)) tell)
    (rules_under (move_rule_case act) (λ r. refl) 128 (rules (is_below act) act) high)
    (seconds_from act 1 (length (place_of act) - 1) 128 (omega arith)))))

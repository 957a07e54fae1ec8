-- The cases of a back: one for each row, and with each kept tree one on each tree.
use Rattle.std.proofs.Common.{◌≡◌, ℕ, zero, suc, ◌+◌, ◌-◌, ◌<◌, ◌≤◌, ◌⊎◌, inl, inr, List, [], ◌∷◌, ◌++◌, length, map, take, refl, sym, ap, subst, ◌∙◌, arith}
use Rattle.std.specs.List.{Contains}
use Rattle.feature_trees.specs.declared.value.Value.{Value}
use Rattle.feature_trees.specs.declared.kind.Kind.TheVariants.{Dir}
use Rattle.feature_trees.specs.Tree.{kind_of}
use Rattle.feature_trees.specs.Sound.{IsTree}
use Rattle.utility_calls.specs.declared.backs.Back.{Back}
use Rattle.utility_calls.specs.declared.sights.Rule.{Rule}
use Rattle.utility_calls.specs.Acts.{link_row}
use Rattle.utility_calls.specs.ActRows.{IsAmong}
use Rattle.utility_calls.specs.Backs.{names_of, back_rules, back_row, IsNamed}
use Rattle.utility_calls.specs.Table.{row_of}
use Rattle.tree_clauses.specs.declared.case.Case.{Case}
use Rattle.tree_clauses.specs.Plain.{IsPlainBack}
use Rattle.act_cases.specs.Cases.{link_rows, case_answer, row_answer, case_row, Rising}
use Rattle.act_cases.specs.BackCases.{back_rows, IsExactBack, AnswersAsBack, AreBackCases, link_back_plan, back_case, rule_back, link_backs, back_cases_of}
use Rattle.act_cases.proofs.Meets.{AreNames}
use Rattle.act_cases.proofs.AllCases.{Every, every_all, every_join, every_map, answers_join, rows_join, in_contains, HasRow, row_left, row_right, row_later, same_or_above}
use Rattle.act_cases.proofs.RisingRows.{From, Under, rising_of, then, rules_from}
use Rattle.act_cases.proofs.BackTaken.{all_apart, Tells, way, table, row_tells}
use Rattle.act_cases.proofs.EachBack.{IsOneBack, link_one, rule_one, link_plain, rule_plain, above_links}

-- ---- what holds of each

module _ (P : Case → Type 0) (names : List (List ℕ)) where
  every_link : (n more : ℕ) → (0 < more → n + more ≤ length names) → 1 ≤ n
      → ((k : ℕ) → 1 ≤ k → k < length names → P (back_case (link_back_plan k) [] (take k names))) → Every P (link_backs names n more)
  every_link n zero within low each = tt
  every_link n (suc more) within low each =
      let room : n + suc more ≤ length names = within (omega arith) in
      (each n low (omega (arith, room)), every_link (n + 1) more (λ lt. omega (arith, room)) (omega arith) each)

  every_rule : (rs : List Rule) → ((r : Rule) → IsAmong r rs → P (rule_back names r)) → Every P (map (rule_back names) rs)
  every_rule [] h = tt
  every_rule (r ∷ rs) h = (h r (inl refl), every_rule rs (λ q among. h q (inr among)))

every_back : (b : Back) (P : Case → Type 0) → ((k : ℕ) → 1 ≤ k → k < length (names_of b) → P (back_case (link_back_plan k) [] (take k (names_of b))))
    → ((r : Rule) → IsAmong r (back_rules b) → P (rule_back (names_of b) r)) → Every P (back_cases_of b)
every_back b P links ruled =
    every_join P (link_backs (names_of b) 1 (length (names_of b) - 1)) _
    (every_link P (names_of b) 1 (length (names_of b) - 1) (λ lt. omega arith) (omega arith) links) (every_rule P (names_of b) (back_rules b) ruled)

-- ---- the rows

link_answers : (names : List (List ℕ)) (n more : ℕ) → map case_answer (link_backs names n more) ≡ map row_answer (link_rows n more)
link_answers names n zero = refl
link_answers names n (suc more) = ap (λ l. row_answer (link_row n) ∷ l) (link_answers names (n + 1) more)

rule_answers : (names : List (List ℕ)) (rs : List Rule) → map case_answer (map (rule_back names) rs) ≡ map row_answer (map row_of rs)
rule_answers names [] = refl
rule_answers names (r ∷ rs) = ap (λ l. row_answer (row_of r) ∷ l) (rule_answers names rs)

all_answers : (b : Back) → map case_answer (back_cases_of b) ≡ map row_answer (back_rows b)
all_answers b =
    let names = names_of b in
    answers_join (link_backs names 1 (length names - 1)) (map (rule_back names) (back_rules b))
    ∙ ap (λ l. l ++ map case_answer (map (rule_back names) (back_rules b))) (link_answers names 1 (length names - 1))
    ∙ ap (λ l. map row_answer (link_rows 1 (length names - 1)) ++ l) (rule_answers names (back_rules b))
    ∙ sym (rows_join (link_rows 1 (length names - 1)) (map row_of (back_rules b)))

-- ---- the numbers rise

links_from : (names : List (List ℕ)) (n more : ℕ) → From n (link_backs names n more)
links_from names n zero = tt
links_from names n (suc more) = (omega arith, links_from names (n + 1) more)

links_under : (names : List (List ℕ)) (n more high : ℕ) → n + more ≤ high → Under high (link_backs names n more)
links_under names n zero high le = tt
links_under names n (suc more) high le = (omega (arith, le), links_under names (n + 1) more high (omega (arith, le)))

backs_rise : (b : Back) → length (names_of b) ≤ 64 → Rising (map case_row (back_cases_of b))
backs_rise b few =
    let names = names_of b in
    rising_of 1 (back_cases_of b)
    (then 1 65 (link_backs names 1 (length names - 1)) _ (omega arith) (links_from names 1 (length names - 1))
    (links_under names 1 (length names - 1) 65 (omega (arith, few)))
    (rules_from (rule_back names) (λ r. refl) 65 (back_rules b) (λ r among. let h = above_links b r among in omega (arith, h)) (all_apart b)))

-- ---- one of them

link_by : (names : List (List ℕ)) (n more k : ℕ) → (n ≡ k) ⊎ (suc n ≤ k) → (n + 1 ≤ k → HasRow k (link_backs names (n + 1) more)) → HasRow k (link_backs names n (suc more))
link_by names n more k (inl e) later = (back_case (link_back_plan n) [] (take n names), inl refl, e)
link_by names n more k (inr lt) later = row_later k (back_case (link_back_plan n) [] (take n names)) (link_backs names (n + 1) more) (later (omega arith))

has_link : (names : List (List ℕ)) (n more k : ℕ) → n ≤ k → k < n + more → HasRow k (link_backs names n more)
has_link names n zero k low high = absurd (omega arith)
has_link names n (suc more) k low high = link_by names n more k (same_or_above n k low) (λ le. has_link names (n + 1) more k le (omega arith))

has_rule : (names : List (List ℕ)) (rs : List Rule) (r : Rule) → IsAmong r rs → HasRow r.number (map (rule_back names) rs)
has_rule names [] r among = absurd among
has_rule names (o ∷ rs) r (inl e) = (rule_back names o, inl refl, ap (λ (x : Rule). x.number) (sym e))
has_rule names (o ∷ rs) r (inr among) = row_later r.number (rule_back names o) (map (rule_back names) rs) (has_rule names rs r among)

module _ (b : Back) (named : IsNamed b) where
  abbrev names : List (List ℕ)
  names = names_of b

  has_row : (t kept : Value) (dir : kind_of t ≡ Dir) (n : ℕ) → Tells b kept t named dir n → HasRow n (back_cases_of b)
  has_row t kept dir n (way low high e) = row_left n (link_backs names 1 (length names - 1)) _ (has_link names 1 (length names - 1) n low (omega arith))
  has_row t kept dir n (table r is clear among h) =
      row_right n (link_backs names 1 (length names - 1)) _ (subst (λ k. HasRow k (map (rule_back names) (back_rules b))) is (has_rule names (back_rules b) r among))

  every_row : (t kept : Value) → IsTree t → (made : Case) × Contains (back_cases_of b) made × (made.row ≡ (back_row b kept t).number)
  every_row t kept tree =
      let h = has_row t kept tree.dir (back_row b kept t).number (row_tells b kept t named tree.dir) in
      (h.0, in_contains h.0 (back_cases_of b) h.1, h.2)

  pub are_back_cases : length names ≤ 64 → AreNames names → AreBackCases b (back_cases_of b)
  are_back_cases few are_names =
      let ones : Every (IsOneBack b) (back_cases_of b) =
      every_back b (IsOneBack b) (link_one b named few are_names) (λ r among. rule_one b named few are_names r among) in
      record {
        rows = all_answers b;
        rising = backs_rise b few;
        plain = every_all IsPlainBack (back_cases_of b) (every_back b IsPlainBack (λ k low high. link_plain names k) (rule_plain b named));
        exact = every_all (IsExactBack b) (back_cases_of b) (every_map (IsOneBack b) (IsExactBack b) (back_cases_of b) (λ x h. h.exact) ones);
        answers = every_all (AnswersAsBack b) (back_cases_of b) (every_map (IsOneBack b) (AnswersAsBack b) (back_cases_of b) (λ x h. h.answers) ones);
        every = every_row;
      }

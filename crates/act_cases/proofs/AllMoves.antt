-- The cases of a move or a copy: one for each row, and on each tree one that leads on.
use Rattle.std.proofs.Common.{◌≡◌, ℕ, zero, suc, ◌+◌, ◌-◌, ◌<◌, ◌≤◌, ◌⊎◌, inl, inr, true, Option, Some, None, List, [], ◌∷◌, ◌++◌, length, map, take, refl, sym, ap, subst, ◌∙◌, arith}
use Rattle.std.specs.List.{Contains}
use Rattle.script_names.specs.Paths.{PathParts}
use Rattle.feature_trees.specs.declared.value.Value.{Value}
use Rattle.feature_trees.specs.Sound.{IsTree}
use Rattle.utility_calls.specs.declared.acts.Act.{Act}
use Rattle.utility_calls.specs.declared.sights.Rule.{Rule}
use Rattle.utility_calls.specs.Table.{rules, row_of}
use Rattle.utility_calls.specs.Acts.{path_of, place_of, inner_name, source, is_below, with_name, row, IsPerformed, link_row}
use Rattle.utility_calls.specs.ActRows.{IsAmong}
use Rattle.tree_clauses.specs.declared.case.Case.{Case}
use Rattle.act_cases.specs.Plans.{case_of}
use Rattle.act_cases.specs.Tables.{link_plan, slash_plan}
use Rattle.tree_clauses.specs.Plain.{IsPlain}
use Rattle.act_cases.specs.Moves.{taken, looked, second_plan, move_rule_case, move_case, second_cases, move_cases}
use Rattle.act_cases.specs.Cases.{HasSource, link_rows, slash_rows, second_rows, rows_of, IsExact, AnswersAs, case_answer, row_answer, AreCases, link_cases, slash_cases}
use Rattle.act_cases.proofs.Meets.{AreNames}
use Rattle.act_cases.proofs.AnyRow.{Tells, way, slash, second, table, row_tells}
use Rattle.act_cases.proofs.EachCase.{IsOne}
use Rattle.act_cases.proofs.PlainCases.{link_plain, slash_plain}
use Rattle.act_cases.proofs.AllCases.{Every, every_all, every_join, every_map, every_link, every_slash, answers_join, rows_join, link_answers, slash_answers, rows_answers, in_contains, HasRow, row_left, row_right, row_later, has_link, has_slash, same_or_above}
use Rattle.act_cases.proofs.MoveTabled.{move_well, moves_apart}
use Rattle.act_cases.proofs.RisingRows.{moves_rise}
use Rattle.act_cases.proofs.MoveCases.{move_link_one, move_slash_one, move_second_one, move_rule_one}
use Rattle.act_cases.proofs.PlainMoves.{second_plain, move_rule_plain}

-- ---- what holds of each

-- the case of a link at the first k names of the second path
abbrev second_case : Act → ℕ → Case
second_case act k = move_case (second_plan (path_of act).slash (looked (is_below act) (taken act)) k) (path_of act).names (take k (place_of act))

module _ (act : Act) (P : Case → Type 0) where
  every_rule : (rs : List Rule) → ((r : Rule) → IsAmong r rs → P (move_rule_case act r)) → Every P (map (move_rule_case act) rs)
  every_rule [] h = tt
  every_rule (r ∷ rs) h = (h r (inl refl), every_rule rs (λ o among. h o (inr among)))

  every_second : (k more : ℕ) → (0 < more → k + more ≤ length (place_of act)) → 1 ≤ k
      → ((j : ℕ) → 1 ≤ j → j < length (place_of act) → P (second_case act j))
      → Every P (second_cases act k more)
  every_second k zero room low each = tt
  every_second k (suc more) room low each =
      let here : k + suc more ≤ length (place_of act) = room (omega arith) in
      (each k low (omega (arith, here)), every_second (k + 1) more (λ lt. omega (arith, here)) (omega arith) each)

  every_move : ((k : ℕ) → 1 ≤ k → k < length (path_of act).names → P (case_of (link_plan k) (take k (path_of act).names) []))
      → ((path_of act).slash ≡ true → P (case_of slash_plan (path_of act).names [])) → ((r : Rule) → IsAmong r (rules (is_below act) act) → P (move_rule_case act r))
      → ((j : ℕ) → 1 ≤ j → j < length (place_of act) → P (second_case act j))
      → Every P (move_cases act)
  every_move links slashes ruled seconds =
      every_join P (link_cases (path_of act).names 1 (length (path_of act).names - 1)) _
      (every_link act P (path_of act).names 1 (length (path_of act).names - 1) (λ lt. omega arith) (omega arith) links)
      (every_join P (slash_cases (path_of act).slash (path_of act).names) _ (every_slash act P (path_of act).slash (path_of act).names slashes)
      (every_join P (map (move_rule_case act) (rules (is_below act) act)) _ (every_rule (rules (is_below act) act) ruled)
      (every_second 1 (length (place_of act) - 1) (λ lt. omega arith) (omega arith) seconds)))

-- ---- the rows

rule_answers : (act : Act) (rs : List Rule) → map case_answer (map (move_rule_case act) rs) ≡ map row_answer (map row_of rs)
rule_answers act [] = refl
rule_answers act (r ∷ rs) = ap (λ l. row_answer (row_of r) ∷ l) (rule_answers act rs)

second_answers : (act : Act) (k n more : ℕ) → 128 + k ≡ n → map case_answer (second_cases act k more) ≡ map row_answer (link_rows n more)
second_answers act k n zero e = refl
second_answers act k n (suc more) e =
    ap (λ j. row_answer (link_row j) ∷ map case_answer (second_cases act (k + 1) more)) e
    ∙ ap (λ l. row_answer (link_row n) ∷ l) (second_answers act (k + 1) (n + 1) more (omega (arith, e)))

seconds_are : (act : Act) → (o : Option PathParts) → HasSource o → map case_answer (second_cases act 1 (length (place_of act) - 1)) ≡ map row_answer (second_rows o (place_of act))
seconds_are act None h = absurd h
seconds_are act (Some a) h = second_answers act 1 129 (length (place_of act) - 1) refl

move_answers : (act : Act) → HasSource (source act) → map case_answer (move_cases act) ≡ map row_answer (rows_of act)
move_answers act two =
    let names = (path_of act).names in
    let s = (path_of act).slash in
    let rs = rules (is_below act) act in
    let links = link_cases names 1 (length names - 1) in
    let ruled = map (move_rule_case act) rs in
    let seconds = second_cases act 1 (length (place_of act) - 1) in
    answers_join links _
    ∙ ap (λ l. map case_answer links ++ l) (answers_join (slash_cases s names) _ ∙ ap (λ l. map case_answer (slash_cases s names) ++ l) (answers_join ruled seconds))
    ∙ ap (λ l. l ++ (map case_answer (slash_cases s names) ++ (map case_answer ruled ++ map case_answer seconds))) (link_answers names 1 (length names - 1))
    ∙ ap (λ l. map row_answer (link_rows 1 (length names - 1)) ++ (l ++ (map case_answer ruled ++ map case_answer seconds))) (slash_answers s names)
    ∙ ap (λ l. map row_answer (link_rows 1 (length names - 1)) ++ (map row_answer (slash_rows s) ++ (l ++ map case_answer seconds))) (rule_answers act rs)
    ∙ ap (λ l. map row_answer (link_rows 1 (length names - 1)) ++ (map row_answer (slash_rows s) ++ (map row_answer (map row_of rs) ++ l))) (seconds_are act (source act) two)
    ∙ ap (λ l. map row_answer (link_rows 1 (length names - 1)) ++ (map row_answer (slash_rows s) ++ l)) (sym (rows_join (map row_of rs) (second_rows (source act) (place_of act))))
    ∙ sym (rows_answers act)

-- ---- one of them

has_rule : (act : Act) (rs : List Rule) (r : Rule) → IsAmong r rs → HasRow r.number (map (move_rule_case act) rs)
has_rule act [] r among = absurd among
has_rule act (o ∷ rs) r (inl e) = (move_rule_case act o, inl refl, ap (λ (x : Rule). x.number) (sym e))
has_rule act (o ∷ rs) r (inr among) = row_later r.number (move_rule_case act o) (map (move_rule_case act) rs) (has_rule act rs r among)

second_by : (act : Act) (k more j : ℕ) → (k ≡ j) ⊎ (suc k ≤ j) → (k + 1 ≤ j → HasRow (128 + j) (second_cases act (k + 1) more)) → HasRow (128 + j) (second_cases act k (suc more))
second_by act k more j (inl e) later =
    (second_case act k, inl refl, ap (λ i. 128 + i) e)
second_by act k more j (inr lt) later =
    row_later (128 + j) (second_case act k) (second_cases act (k + 1) more) (later (omega arith))

has_second : (act : Act) (k more j : ℕ) → k ≤ j → j < k + more → HasRow (128 + j) (second_cases act k more)
has_second act k zero j low high = absurd (omega arith)
has_second act k (suc more) j low high = second_by act k more j (same_or_above k j low) (λ le. has_second act (k + 1) more j le (omega arith))

module _ (act : Act) (two : HasSource (source act)) (performed : IsPerformed act) where
  abbrev p : List (List ℕ)
  p = (path_of act).names

  abbrev links : List Case
  links = link_cases (path_of act).names 1 (length (path_of act).names - 1)

  abbrev slashes : List Case
  slashes = slash_cases (path_of act).slash (path_of act).names

  abbrev rs : List Rule
  rs = rules (is_below act) act

  abbrev ruled : List Case
  ruled = map (move_rule_case act) (rules (is_below act) act)

  has_row : (t : Value) (n : ℕ) → Tells act t n → HasRow n (move_cases act)
  has_row t n (way low high e) = row_left n links _ (has_link p 1 (length p - 1) n low (omega arith))
  has_row t n (slash is clear s na nd) = row_right n links _ (row_left n slashes _ (has_slash (path_of act).slash p n is s))
  has_row t n (table r is reaches clear among h) =
      row_right n links _ (row_right n slashes _ (row_left n ruled _ (subst (λ k. HasRow k ruled) is (has_rule act rs r among))))
  has_row t n (second k is reaches looks low high e) =
      row_right n links _ (row_right n slashes _ (row_right n ruled _
      (subst (λ j. HasRow j (second_cases act 1 (length (place_of act) - 1))) (sym is) (has_second act 1 (length (place_of act) - 1) k low (omega arith)))))

  every_row : (t : Value) → IsTree t → (made : Case) × Contains (move_cases act) made × (made.row ≡ (row act t).number)
  every_row t tree =
      let h = has_row t (row act t).number (row_tells act t performed tree.dir) in
      (h.0, in_contains h.0 (move_cases act) h.1, h.2)

  -- the cases of an act on two paths
  pub are_move_cases : length (path_of act).names ≤ 64 → length (place_of act) ≤ 64 → AreNames (path_of act).names → AreNames (place_of act)
      → AreNames (with_name (place_of act) (inner_name act)) → AreCases act (move_cases act)
  are_move_cases few_a few_b named_a named_b inside =
      let ones : Every (IsOne act) (move_cases act) =
      every_move act (IsOne act) (move_link_one act two performed few_a few_b named_a named_b inside) (move_slash_one act two performed few_a few_b named_a named_b inside)
      (move_rule_one act two performed few_a few_b named_a named_b inside) (move_second_one act two performed few_a few_b named_a named_b inside) in
      record {
        rows = move_answers act two;
        rising = moves_rise act few_a (λ r among. (move_well act two r among).low) (λ r among. (move_well act two r among).high) (moves_apart act two);
        plain = every_all IsPlain (move_cases act)
            (every_move act IsPlain (λ k low high. link_plain p k) (λ s. slash_plain p) (move_rule_plain act two performed)
            (λ j low high. second_plain (path_of act).slash (looked (is_below act) (taken act)) j p (take j (place_of act))));
        exact = every_all (IsExact act) (move_cases act) (every_map (IsOne act) (IsExact act) (move_cases act) (λ x h. h.exact) ones);
        answers = every_all (AnswersAs act) (move_cases act) (every_map (IsOne act) (AnswersAs act) (move_cases act) (λ x h. h.answers) ones);
        every = every_row;
      }

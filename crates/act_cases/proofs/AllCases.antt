-- The cases of an act on one path: one for each row, and on each tree one that leads on.
use Rattle.std.proofs.Common.{◌≡◌, ℕ, zero, suc, ◌+◌, ◌-◌, ◌<◌, ◌≤◌, ◌⊎◌, inl, inr, Bool, true, false, List, [], ◌∷◌, ◌++◌, length, map, take, refl, sym, ap, subst, ◌∙◌, arith, append-nil}
use Rattle.std.specs.Prelude.{slice_index_or}
use Rattle.std.specs.List.{Contains, All}
use Rattle.feature_trees.specs.declared.value.Value.{Value}
use Rattle.feature_trees.specs.declared.kind.Kind.TheVariants.{Dir}
use Rattle.feature_trees.specs.Tree.{kind_of}
use Rattle.feature_trees.specs.Sound.{IsTree}
use Rattle.utility_calls.specs.declared.acts.Act.{Act}
use Rattle.utility_calls.specs.declared.sights.Row.{Row}
use Rattle.utility_calls.specs.declared.sights.Rule.{Rule}
use Rattle.utility_calls.specs.Table.{rules, row_of}
use Rattle.utility_calls.specs.Acts.{path_of, place_of, inner_name, source, is_below, with_name, is_question, row, IsPerformed, link_row}
use Rattle.utility_calls.specs.ActRows.{IsAmong}
use Rattle.utility_calls.proofs.ActChanges.{beside}
use Rattle.tree_clauses.specs.declared.case.Case.{Case}
use Rattle.act_cases.specs.Plans.{case_of}
use Rattle.act_cases.specs.Tables.{link_plan, slash_plan}
use Rattle.tree_clauses.specs.Plain.{IsPlain}
use Rattle.act_cases.specs.Cases.{IsOnOnePath, link_rows, slash_rows, second_rows, rows_of, IsExact, AnswersAs, case_answer, row_answer, AreCases, link_cases, slash_cases, rule_case, cases_of}
use Rattle.act_cases.proofs.Meets.{AreNames}
use Rattle.act_cases.proofs.OneRowTaken.{Says, way, slash, table, row_says}
use Rattle.act_cases.proofs.PlainCases.{link_plain, slash_plain, rule_plain}
use Rattle.act_cases.proofs.RuleSees.{some_name}
use Rattle.act_cases.proofs.Tabled.{suits, suits_is, test_of, tabled}
use Rattle.act_cases.proofs.RisingRows.{cases_rise}
use Rattle.act_cases.proofs.EachCase.{IsOne, link_one, slash_one, rule_one}

-- ---- what holds of each

abbrev pub Every : (Case → Type 0) → List Case → Type 0
Every P [] = Unit {0}
Every P (x ∷ xs) = P x × Every P xs

pub every_all : (P : Case → Type 0) (xs : List Case) → Every P xs → All P xs
every_all P [] h = λ k d lt. absurd (omega arith)
every_all P (x ∷ xs) h = by (every_all P xs h.1)
  where
    by : All P xs → (k : ℕ) (d : Case) → k < length (x ∷ xs) → P (slice_index_or (x ∷ xs) k d)
    by more zero d lt = h.0
    by more (suc k) d lt = more k d (omega arith)

pub every_join : (P : Case → Type 0) (xs ys : List Case) → Every P xs → Every P ys → Every P (xs ++ ys)
every_join P [] ys h w = w
every_join P (x ∷ xs) ys h w = (h.0, every_join P xs ys h.1 w)

pub every_map : (P Q : Case → Type 0) (xs : List Case) → ((x : Case) → P x → Q x) → Every P xs → Every Q xs
every_map P Q [] f h = tt
every_map P Q (x ∷ xs) f h = (f x h.0, every_map P Q xs f h.1)

module _ (act : Act) (P : Case → Type 0) where
  pub every_link : (names : List (List ℕ)) (n more : ℕ) → (0 < more → n + more ≤ length names) → 1 ≤ n
      → ((k : ℕ) → 1 ≤ k → k < length names → P (case_of (link_plan k) (take k names) [])) → Every P (link_cases names n more)
  every_link names n zero within low each = tt
  every_link names n (suc more) within low each =
      let room : n + suc more ≤ length names = within (omega arith) in
      (each n low (omega (arith, room)), every_link names (n + 1) more (λ lt. omega (arith, room)) (omega arith) each)

  pub every_slash : (s : Bool) (names : List (List ℕ)) → (s ≡ true → P (case_of slash_plan names [])) → Every P (slash_cases s names)
  every_slash false names h = tt
  every_slash true names h = (h refl, tt)

  every_rule : (rs : List Rule) → ((r : Rule) → IsAmong r rs → P (rule_case act r)) → Every P (map (rule_case act) rs)
  every_rule [] h = tt
  every_rule (r ∷ rs) h = (h r (inl refl), every_rule rs (λ q among. h q (inr among)))

  -- what holds of the cases of each kind holds of all
  pub every_case : ((k : ℕ) → 1 ≤ k → k < length (path_of act).names → P (case_of (link_plan k) (take k (path_of act).names) []))
      → ((path_of act).slash ≡ true → P (case_of slash_plan (path_of act).names [])) → ((r : Rule) → IsAmong r (rules false act) → P (rule_case act r))
      → Every P (cases_of act)
  every_case links slashes ruled =
      every_join P (link_cases (path_of act).names 1 (length (path_of act).names - 1)) _
      (every_link (path_of act).names 1 (length (path_of act).names - 1) (λ lt. omega arith) (omega arith) links)
      (every_join P (slash_cases (path_of act).slash (path_of act).names) _ (every_slash (path_of act).slash (path_of act).names slashes) (every_rule (rules false act) ruled))

-- ---- the rows

pub answers_join : (xs ys : List Case) → map case_answer (xs ++ ys) ≡ map case_answer xs ++ map case_answer ys
answers_join [] ys = refl
answers_join (x ∷ xs) ys = ap (λ l. case_answer x ∷ l) (answers_join xs ys)

pub rows_join : (xs ys : List Row) → map row_answer (xs ++ ys) ≡ map row_answer xs ++ map row_answer ys
rows_join [] ys = refl
rows_join (x ∷ xs) ys = ap (λ l. row_answer x ∷ l) (rows_join xs ys)

pub link_answers : (names : List (List ℕ)) (n more : ℕ) → map case_answer (link_cases names n more) ≡ map row_answer (link_rows n more)
link_answers names n zero = refl
link_answers names n (suc more) = ap (λ l. row_answer (link_row n) ∷ l) (link_answers names (n + 1) more)

pub slash_answers : (s : Bool) (names : List (List ℕ)) → map case_answer (slash_cases s names) ≡ map row_answer (slash_rows s)
slash_answers false names = refl
slash_answers true names = refl

rule_answers : (act : Act) (rs : List Rule) → map case_answer (map (rule_case act) rs) ≡ map row_answer (map row_of rs)
rule_answers act [] = refl
rule_answers act (r ∷ rs) = ap (λ l. row_answer (row_of r) ∷ l) (rule_answers act rs)

one_answers : (act : Act) → map case_answer (cases_of act)
    ≡ map row_answer (link_rows 1 (length (path_of act).names - 1)) ++ (map row_answer (slash_rows (path_of act).slash) ++ map row_answer (map row_of (rules false act)))
one_answers act =
    let names = (path_of act).names in
    let s = (path_of act).slash in
    answers_join (link_cases names 1 (length names - 1)) _
    ∙ ap (λ l. map case_answer (link_cases names 1 (length names - 1)) ++ l) (answers_join (slash_cases s names) _)
    ∙ ap (λ l. l ++ (map case_answer (slash_cases s names) ++ map case_answer (map (rule_case act) (rules false act)))) (link_answers names 1 (length names - 1))
    ∙ ap (λ l. map row_answer (link_rows 1 (length names - 1)) ++ (l ++ map case_answer (map (rule_case act) (rules false act)))) (slash_answers s names)
    ∙ ap (λ l. map row_answer (link_rows 1 (length names - 1)) ++ (map row_answer (slash_rows s) ++ l)) (rule_answers act (rules false act))

-- the answers of all rows, part by part
pub rows_answers : (act : Act) → map row_answer (rows_of act)
    ≡ map row_answer (link_rows 1 (length (path_of act).names - 1))
    ++ (map row_answer (slash_rows (path_of act).slash) ++ map row_answer (map row_of (rules (is_below act) act) ++ second_rows (source act) (place_of act)))
rows_answers act =
    rows_join (link_rows 1 (length (path_of act).names - 1)) _
    ∙ ap (λ l. map row_answer (link_rows 1 (length (path_of act).names - 1)) ++ l) (rows_join (slash_rows (path_of act).slash) _)

same_rows : (act : Act) → IsOnOnePath act → map row_of (rules (is_below act) act) ++ second_rows (source act) (place_of act) ≡ map row_of (rules false act)
same_rows act one_path =
    ap (λ b. map row_of (rules b act) ++ second_rows (source act) (place_of act)) (beside act one_path)
    ∙ ap (λ o. map row_of (rules false act) ++ second_rows o (place_of act)) one_path ∙ append-nil (map row_of (rules false act))

all_answers : (act : Act) → IsOnOnePath act → map case_answer (cases_of act) ≡ map row_answer (rows_of act)
all_answers act one_path =
    one_answers act
    ∙ ap (λ l. map row_answer (link_rows 1 (length (path_of act).names - 1)) ++ (map row_answer (slash_rows (path_of act).slash) ++ map row_answer l)) (sym (same_rows act one_path))
    ∙ sym (rows_answers act)

-- ---- one of them

abbrev pub In : Case → List Case → Type 0
In x [] = ⊥
In x (y ∷ ys) = (y ≡ x) ⊎ In x ys

pub in_contains : (x : Case) (xs : List Case) → In x xs → Contains xs x
in_contains x [] h = absurd h
in_contains x (y ∷ ys) (inl e) = (0, omega arith, e)
in_contains x (y ∷ ys) (inr h) = let r = in_contains x ys h in (suc r.0, let w = r.1 in omega arith, r.2)

in_left : (x : Case) (xs ys : List Case) → In x xs → In x (xs ++ ys)
in_left x [] ys h = absurd h
in_left x (z ∷ xs) ys (inl e) = inl e
in_left x (z ∷ xs) ys (inr h) = inr (in_left x xs ys h)

in_right : (x : Case) (xs ys : List Case) → In x ys → In x (xs ++ ys)
in_right x [] ys h = h
in_right x (z ∷ xs) ys h = inr (in_right x xs ys h)

-- a case of this number
abbrev pub HasRow : ℕ → List Case → Type 0
HasRow n xs = (made : Case) × In made xs × (made.row ≡ n)

pub row_left : (n : ℕ) (xs ys : List Case) → HasRow n xs → HasRow n (xs ++ ys)
row_left n xs ys h = (h.0, in_left h.0 xs ys h.1, h.2)

pub row_right : (n : ℕ) (xs ys : List Case) → HasRow n ys → HasRow n (xs ++ ys)
row_right n xs ys h = (h.0, in_right h.0 xs ys h.1, h.2)

pub row_later : (n : ℕ) (x : Case) (xs : List Case) → HasRow n xs → HasRow n (x ∷ xs)
row_later n x xs h = (h.0, inr h.1, h.2)

link_by : (names : List (List ℕ)) (n more k : ℕ) → (n ≡ k) ⊎ (suc n ≤ k) → (n + 1 ≤ k → HasRow k (link_cases names (n + 1) more)) → HasRow k (link_cases names n (suc more))
link_by names n more k (inl e) later = (case_of (link_plan n) (take n names) [], inl refl, e)
link_by names n more k (inr lt) later = row_later k (case_of (link_plan n) (take n names) []) (link_cases names (n + 1) more) (later (omega arith))

pub same_or_above : (n k : ℕ) → n ≤ k → (n ≡ k) ⊎ (suc n ≤ k)
same_or_above zero zero le = inl refl
same_or_above zero (suc k) le = inr (omega arith)
same_or_above (suc n) zero le = absurd (omega arith)
same_or_above (suc n) (suc k) le = elim (same_or_above n k (omega arith)) [ inl e ↦ inl (ap suc e) | inr lt ↦ inr (omega arith) ]

pub has_link : (names : List (List ℕ)) (n more k : ℕ) → n ≤ k → k < n + more → HasRow k (link_cases names n more)
has_link names n zero k low high = absurd (omega arith)
has_link names n (suc more) k low high = link_by names n more k (same_or_above n k low) (λ le. has_link names (n + 1) more k le (omega arith))

pub has_slash : (s : Bool) (names : List (List ℕ)) (n : ℕ) → n ≡ 64 → s ≡ true → HasRow n (slash_cases s names)
has_slash false names n e h = absurd (cc)
has_slash true names n e h = (case_of slash_plan names [], inl refl, sym e)

has_rule : (act : Act) (rs : List Rule) (r : Rule) → IsAmong r rs → HasRow r.number (map (rule_case act) rs)
has_rule act [] r among = absurd among
has_rule act (o ∷ rs) r (inl e) = (rule_case act o, inl refl, ap (λ (x : Rule). x.number) (sym e))
has_rule act (o ∷ rs) r (inr among) = row_later r.number (rule_case act o) (map (rule_case act) rs) (has_rule act rs r among)

module _ (act : Act) (one_path : IsOnOnePath act) (performed : IsPerformed act) where
  has_row : (t : Value) (d : kind_of t ≡ Dir) (n : ℕ) → Says act one_path performed t d n → HasRow n (cases_of act)
  has_row t d n (way low high e) =
      row_left n (link_cases (path_of act).names 1 (length (path_of act).names - 1)) _ (has_link (path_of act).names 1 (length (path_of act).names - 1) n low (omega arith))
  has_row t d n (slash is clear s na nd) =
      row_right n (link_cases (path_of act).names 1 (length (path_of act).names - 1)) _
      (row_left n (slash_cases (path_of act).slash (path_of act).names) _ (has_slash (path_of act).slash (path_of act).names n is s))
  has_row t d n (table r is reaches among h) =
      row_right n (link_cases (path_of act).names 1 (length (path_of act).names - 1)) _
      (row_right n (slash_cases (path_of act).slash (path_of act).names) _
      (subst (λ k. HasRow k (map (rule_case act) (rules false act))) is (has_rule act (rules false act) r among)))

  pub every_row : (t : Value) → IsTree t → (made : Case) × Contains (cases_of act) made × (made.row ≡ (row act t).number)
  every_row t tree =
      let h = has_row t tree.dir (row act t).number (row_says act one_path performed t tree.dir) in
      (h.0, in_contains h.0 (cases_of act) h.1, h.2)

  pub are_cases : length (path_of act).names ≤ 64 → AreNames (path_of act).names → AreNames (with_name (path_of act).names (inner_name act)) → AreCases act (cases_of act)
  are_cases few named inside =
      let ones : Every (IsOne act) (cases_of act) =
      every_case act (IsOne act) (link_one act one_path performed few named inside) (slash_one act one_path performed few named inside)
      (rule_one act one_path performed few named inside) in
      record {
        rows = all_answers act one_path;
        rising = cases_rise act few
            (λ r among. (suits_is (is_question act) (some_name (inner_name act)) r (test_of (suits (is_question act) (some_name (inner_name act))) (rules false act) r (tabled act one_path).0 among)).number)
            (tabled act one_path).1;
        plain = every_all IsPlain (cases_of act)
            (every_case act IsPlain (λ k low high. link_plain (path_of act).names k) (λ s. slash_plain (path_of act).names) (rule_plain act one_path performed));
        exact = every_all (IsExact act) (cases_of act) (every_map (IsOne act) (IsExact act) (cases_of act) (λ x h. h.exact) ones);
        answers = every_all (AnswersAs act) (cases_of act) (every_map (IsOne act) (AnswersAs act) (cases_of act) (λ x h. h.answers) ones);
        every = every_row;
      }

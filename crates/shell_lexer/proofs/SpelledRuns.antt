-- What stands at the front of a text, by its bytes: in parts, by the tables' tests, and as a longest run.
use Rattle.std.proofs.Common.{◌≡◌, ℕ, Bool, true, false, if◌then◌else◌, ◌&&◌, nat_eq, List, [], ◌∷◌, ◌++◌, Option, Some, None, refl, sym, ap, ◌∙◌, subst}
use Rattle.std.specs.List.{list_all}
use Rattle.shell_lexer.specs.Text.{Bytes, skip, behind_next, behind_bytes, cells, run_of, behind_run}
use Rattle.shell_lexer.specs.Spelling.{Stands, begins}
use Rattle.shell_lexer.proofs.Cells.{first_cell, cells_by_skip}
use Rattle.std.proofs.lemmas.Bool.{and_from, and_parts, cond_both, eqb-true}
use Rattle.shell_lexer.proofs.SpelledCases.{eq_same, some_same, none_some}

-- ---- joined lines

if_same : {A B : Type 0} (f : A → B) (b : Bool) (x y : A) (z : B) → (b ≡ true → f x ≡ z) → (b ≡ false → f y ≡ z) → f (if b then x else y) ≡ z
if_same f true x y z h g = h refl
if_same f false x y z h g = g refl

-- none is left at the front
pub skip_again : (text : Bytes) → skip (skip text) ≡ skip text
skip_again [] = refl
skip_again (a ∷ []) = refl
skip_again (a ∷ b ∷ rest) = cond_both (nat_eq a 92 && nat_eq b 10) (skip rest) (a ∷ b ∷ rest) (λ t. skip t ≡ t) (λ e. skip_again rest) (λ e. other a b rest e) where
  other : (a b : ℕ) (rest : Bytes) → (nat_eq a 92 && nat_eq b 10) ≡ false → skip (a ∷ b ∷ rest) ≡ a ∷ b ∷ rest
  other a b rest e = rw e

-- ---- bytes

-- bytes, and more behind them
pub stands_then : (a b text middle rest : Bytes) → Stands a text middle → Stands b middle rest → Stands (a ++ b) text rest
stands_then [] b text middle rest h g = subst (λ t. Stands b t rest) (sym h) g
stands_then (x ∷ a) b text middle rest h g = (h.0, h.1, stands_then a b h.0 middle rest h.2 g)

pub stands_parts : (a b text rest : Bytes) → Stands (a ++ b) text rest → (middle : Bytes) × Stands a text middle × Stands b middle rest
stands_parts [] b text rest h = (text, refl, h)
stands_parts (x ∷ a) b text rest h = let again = stands_parts a b h.0 rest h.2 in (again.0, (h.0, h.1, again.1), again.2)

-- joined lines before the first byte change nothing
pub stands_skip : (b : ℕ) (bytes text rest : Bytes) → Stands (b ∷ bytes) (skip text) rest → Stands (b ∷ bytes) text rest
stands_skip b bytes text rest h = (h.0, sym (skip_again text) ∙ h.1, h.2)

pub skip_stands : (b : ℕ) (bytes text rest : Bytes) → Stands (b ∷ bytes) text rest → Stands (b ∷ bytes) (skip text) rest
skip_stands b bytes text rest h = (h.0, skip_again text ∙ h.1, h.2)

next_stands : (b : ℕ) (bytes text rest t : Bytes) → ((u : Bytes) → behind_bytes bytes u ≡ Some rest → Stands bytes u rest) → skip text ≡ t
    → behind_next b (behind_bytes bytes) t ≡ Some rest → (more : Bytes) × (skip text ≡ b ∷ more) × Stands bytes more rest
next_stands b bytes text rest [] again s e = absurd (none_some e)
next_stands b bytes text rest (a ∷ u) again s e =
    cond_both (nat_eq a b) (behind_bytes bytes u) None (λ x. x ≡ Some rest → (more : Bytes) × (skip text ≡ b ∷ more) × Stands bytes more rest)
    (λ is e. (u, s ∙ ap (λ a. a ∷ u) (eqb-true a b is), again u e)) (λ is e. absurd (none_some e)) e

-- what the tables find is what stands
pub bytes_stand : (bytes text rest : Bytes) → behind_bytes bytes text ≡ Some rest → Stands bytes text rest
bytes_stand [] text rest e = some_same e
bytes_stand (b ∷ bytes) text rest e = next_stands b bytes text rest (skip text) (λ u h. bytes_stand bytes u rest h) refl e

pub bytes_found : (bytes text rest : Bytes) → Stands bytes text rest → behind_bytes bytes text ≡ Some rest
bytes_found [] text rest h = ap Some h
bytes_found (b ∷ bytes) text rest h = ap (behind_next b (behind_bytes bytes)) h.1 ∙ hit b (behind_bytes bytes) h.0 (eq_same b) ∙ bytes_found bytes h.0 rest h.2 where
  hit : (b : ℕ) (f : Bytes → Option Bytes) (more : Bytes) → nat_eq b b ≡ true → behind_next b f (b ∷ more) ≡ f more
  hit b f more e = rw e

-- ---- runs

-- a longest run: its bytes stand and pass, and the next byte that counts does not
pub record IsRun (test : ℕ → Bool) (run text rest : Bytes) : Type 0 where
  pub stands : Stands run text rest
  pub pass : list_all test run ≡ true
  pub longest : begins test (skip rest) ≡ false

empty_cons : {A : Type 0} {x : A} {xs : List A} → [] ≡ x ∷ xs → ⊥
empty_cons e = cc

first_same : {A : Type 0} {x y : A} {xs ys : List A} → x ∷ xs ≡ y ∷ ys → x ≡ y
first_same e = cc

rest_same : {A : Type 0} {x y : A} {xs ys : List A} → x ∷ xs ≡ y ∷ ys → xs ≡ ys
rest_same e = cc

-- by the next byte that counts
run_passes : (test : ℕ → Bool) (a : ℕ) (u : Bytes) → test a ≡ true → run_of test (first_cell (a ∷ u)) ≡ a ∷ run_of test (cells u)
run_passes test a u e = rw e

run_fails : (test : ℕ → Bool) (t : Bytes) → begins test t ≡ false → run_of test (first_cell t) ≡ []
run_fails test [] e = refl
run_fails test (a ∷ u) e = rw e

behind_passes : (test : ℕ → Bool) (text : Bytes) (a : ℕ) (u : Bytes) → test a ≡ true → behind_run test text (first_cell (a ∷ u)) ≡ behind_run test u (cells u)
behind_passes test text a u e = rw e

behind_fails : (test : ℕ → Bool) (text t : Bytes) → begins test t ≡ false → behind_run test text (first_cell t) ≡ text
behind_fails test text [] e = refl
behind_fails test text (a ∷ u) e = rw e

run_by : (test : ℕ → Bool) (text : Bytes) → run_of test (cells text) ≡ run_of test (first_cell (skip text))
run_by test text = ap (run_of test) (cells_by_skip text)

behind_by : (test : ℕ → Bool) (text : Bytes) → behind_run test text (cells text) ≡ behind_run test text (first_cell (skip text))
behind_by test text = ap (behind_run test text) (cells_by_skip text)

-- a longest run is the tables' run
pub run_is : (test : ℕ → Bool) (run text rest : Bytes) → IsRun test run text rest → run_of test (cells text) ≡ run
run_is test [] text rest h = run_by test text ∙ run_fails test (skip text) (ap (λ t. begins test (skip t)) h.stands ∙ h.longest)
run_is test (b ∷ run) text rest h =
    run_by test text ∙ ap (λ t. run_of test (first_cell t)) h.stands.1 ∙ run_passes test b h.stands.0 (and_parts (test b) (list_all test run) h.pass).0
    ∙ ap (λ r. b ∷ r) (run_is test run h.stands.0 rest (record { stands = h.stands.2; pass = (and_parts (test b) (list_all test run) h.pass).1; longest = h.longest }))

pub behind_is : (test : ℕ → Bool) (run text rest : Bytes) → IsRun test run text rest → behind_run test text (cells text) ≡ rest
behind_is test [] text rest h = behind_by test text ∙ behind_fails test text (skip text) (ap (λ t. begins test (skip t)) h.stands ∙ h.longest) ∙ h.stands
behind_is test (b ∷ run) text rest h =
    behind_by test text ∙ ap (λ t. behind_run test text (first_cell t)) h.stands.1 ∙ behind_passes test text b h.stands.0 (and_parts (test b) (list_all test run) h.pass).0
    ∙ behind_is test run h.stands.0 rest (record { stands = h.stands.2; pass = (and_parts (test b) (list_all test run) h.pass).1; longest = h.longest })

-- the tables' run is a longest run
run_ends : (test : ℕ → Bool) (text t : Bytes) → skip text ≡ t → run_of test (first_cell t) ≡ [] → IsRun test [] text (behind_run test text (first_cell t))
run_ends test text [] s e = record { stands = refl; pass = refl; longest = ap (begins test) s }
run_ends test text (a ∷ u) s e =
    by (test a) refl where
      by : (it : Bool) → test a ≡ it → IsRun test [] text (behind_run test text ((a, u) ∷ cells u))
      by true p = absurd (empty_cons (sym e ∙ run_passes test a u p))
      by false p = subst (λ r. IsRun test [] text r) (sym (behind_fails test text (a ∷ u) p)) (record { stands = refl; pass = refl; longest = ap (begins test) s ∙ p })

run_goes : (test : ℕ → Bool) (b : ℕ) (run text t : Bytes) → ((u : Bytes) → run_of test (cells u) ≡ run → IsRun test run u (behind_run test u (cells u)))
    → skip text ≡ t → run_of test (first_cell t) ≡ b ∷ run → IsRun test (b ∷ run) text (behind_run test text (first_cell t))
run_goes test b run text [] again s e = absurd (empty_cons e)
run_goes test b run text (a ∷ u) again s e = by (test a) refl where
  by : (it : Bool) → test a ≡ it → IsRun test (b ∷ run) text (behind_run test text ((a, u) ∷ cells u))
  by false p = absurd (empty_cons (sym (run_fails test (a ∷ u) p) ∙ e))
  by true p =
      let same = sym (run_passes test a u p) ∙ e in
      let is = first_same same in
      let more = again u (rest_same same) in
      subst (λ r. IsRun test (b ∷ run) text r) (sym (behind_passes test text a u p))
      (record { stands = (u, s ∙ ap (λ a. a ∷ u) is, more.stands); pass = and_from (test b) (list_all test run) (ap test (sym is) ∙ p) more.pass; longest = more.longest })

pub run_stands : (test : ℕ → Bool) (run text : Bytes) → run_of test (cells text) ≡ run → IsRun test run text (behind_run test text (cells text))
run_stands test [] text e = subst (λ r. IsRun test [] text r) (sym (behind_by test text)) (run_ends test text (skip text) refl (sym (run_by test text) ∙ e))
run_stands test (b ∷ run) text e =
    subst (λ r. IsRun test (b ∷ run) text r) (sym (behind_by test text)) (run_goes test b run text (skip text) (λ u h. run_stands test run u h) refl (sym (run_by test text) ∙ e))

-- Among the names of enough letters one is new: each letter is chosen so that fewer of the used names go on with it.
use Rattle.std.proofs.Common.{◌≡◌, ◌≢◌, ℕ, zero, suc, ◌+◌, ◌-◌, ◌*◌, ◌<◌, ◌≤◌, ◌⊎◌, inl, inr, ◌&&◌, Bool, true, false, IsTrue, List, [], ◌∷◌, ◌++◌, length, refl, ap, ◌∙◌, arith, nat_eq}
use Rattle.std.proofs.lemmas.List.{length-append}
use Rattle.std.proofs.lemmas.Bool.Decides.{nat_tests}
use Rattle.std.specs.Prelude.{◌==◌, nat_le, nat_lt}
use Rattle.std.specs.List.{list_all}
use Rattle.script_names.specs.Names.{is_name, is_dots, is_plain_byte}
use Rattle.clause_solver.specs.declared.variable.TheConstants.{MOST_VARIABLES}
use Rattle.clause_solver.specs.declared.variable.Variable.{Variable}
use Rattle.clause_solver.specs.Variables.{var_at}
use Rattle.clause_solver.specs.NewNames.{name_used, begins, one_if, beginning, two_to, is_letter, IsNew}
use Rattle.clause_solver.proofs.Names.{bool_cases, eq_cases, same_yes}

-- at most one of two letters goes on with a name
one_letter : (y : ℕ) → one_if (nat_eq 97 y && true) + one_if (nat_eq 98 y && true) ≤ 1
one_letter y = elim (eq_cases 97 y) [
  | inl a ↦ elim (eq_cases 98 y) [
    | inl b ↦ absurd (let p = a.0 in let q = b.0 in omega arith)
    | inr b ↦ rw (a.1, b.1) (omega arith)
  ]
  | inr a ↦ elim (eq_cases 98 y) [
    | inl b ↦ rw (a.1, b.1) (omega arith)
    | inr b ↦ rw (a.1, b.1) (omega arith)
  ]
]

split_one : (p f : List ℕ) → one_if (begins (p ++ 97 ∷ []) f) + one_if (begins (p ++ 98 ∷ []) f) ≤ one_if (begins p f)
split_one [] [] = omega arith
split_one [] (y ∷ f) = one_letter y
split_one (x ∷ p) [] = omega arith
split_one (x ∷ p) (y ∷ f) = elim (bool_cases (nat_eq x y)) [
  | inl t ↦ rw t (split_one p f)
  | inr t ↦ rw t (omega arith)
]

pub split : (p : List ℕ) (vs : List Variable) → beginning (p ++ 97 ∷ []) vs + beginning (p ++ 98 ∷ []) vs ≤ beginning p vs
split p [] = omega arith
split p (v ∷ vs) = let a = split_one p (name_used v.definition) in let b = split p vs in omega (arith, a, b)

one_most : (b : Bool) → one_if b ≤ 1
one_most false = omega arith
one_most true = omega arith

pub beginning_most : (p : List ℕ) (vs : List Variable) → beginning p vs ≤ length vs
beginning_most p [] = omega arith
beginning_most p (v ∷ vs) = let a = one_most (begins p (name_used v.definition)) in let b = beginning_most p vs in omega (arith, a, b)

begins_itself : (z : List ℕ) → begins z z ≡ true
begins_itself [] = refl
begins_itself (x ∷ z) = rw (same_yes x x refl) (begins_itself z)

-- where no name begins with z, none is z
pub not_used : (z : List ℕ) (vs : List Variable) → beginning z vs ≡ 0 → (j : ℕ) → j < length vs → name_used (var_at vs j).definition ≢ z
not_used z [] none j w = absurd (omega arith)
not_used z (v ∷ vs) none zero w = λ e.
    let one : begins z (name_used v.definition) ≡ true = ap (begins z) e ∙ begins_itself z in
    let count : one_if (begins z (name_used v.definition)) ≡ 1 = ap one_if one in
    omega (arith, count, none)
not_used z (v ∷ vs) none (suc j) w = not_used z vs (omega (arith, none)) j (omega arith)

letter_cases : (x : ℕ) → IsTrue (is_letter x) → (x ≡ 97) ⊎ (x ≡ 98)
letter_cases x h = elim (eq_cases x 97) [
  | inl a ↦ inl a.0
  | inr a ↦ elim (eq_cases x 98) [
    | inl b ↦ inr b.0
    | inr b ↦ let bad : false ≡ true = rw (a.1, b.1) at h in absurd (cc)
  ]
]

letter_plain : (x : ℕ) → IsTrue (is_letter x) → is_plain_byte x ≡ true
letter_plain x h = elim (letter_cases x h) [ inl e ↦ rw e refl | inr e ↦ rw e refl ]

letter_no_dot : (x : ℕ) → IsTrue (is_letter x) → (x == 46) ≡ false
letter_no_dot x h = elim (letter_cases x h) [ inl e ↦ rw e refl | inr e ↦ rw e refl ]

abbrev pub AllLetters : List ℕ → Type 0
AllLetters [] = Unit {0}
AllLetters (x ∷ z) = IsTrue (is_letter x) × AllLetters z

letters_plain : (z : List ℕ) → AllLetters z → list_all is_plain_byte z ≡ true
letters_plain [] h = refl
letters_plain (x ∷ z) h = rw (letter_plain x h.0) (letters_plain z h.1)

letters_no_dots : (z : List ℕ) → AllLetters z → is_dots z ≡ false
letters_no_dots [] h = refl
letters_no_dots (a ∷ []) h = letter_no_dot a h.0
letters_no_dots (a ∷ b ∷ []) h = rw (letter_no_dot a h.0) refl
letters_no_dots (a ∷ b ∷ c ∷ z) h = refl

pub letters_name : (z : List ℕ) → AllLetters z → length z ≡ 32 → is_name z ≡ true
letters_name z h l =
    let a : nat_lt 0 (length z) ≡ true = rw l refl in
    let b : nat_le (length z) 255 ≡ true = rw l refl in
    rw (a, b, letters_plain z h, letters_no_dots z h) refl

pub letters_more : (z : List ℕ) (x : ℕ) → AllLetters z → IsTrue (is_letter x) → AllLetters (z ++ x ∷ [])
letters_more [] x h t = (t, tt)
letters_more (y ∷ z) x h t = (h.0, letters_more z x h.1 t)

-- a name that goes on from p with n letters, and that no used name begins with
record Goes (vs : List Variable) (n : ℕ) (p : List ℕ) : Type 0 where
  pub z : List ℕ
  pub none : beginning z vs ≡ 0
  pub letters : AllLetters z
  pub long : length z ≡ length p + n

goes : (vs : List Variable) (n : ℕ) (p : List ℕ) → AllLetters p → beginning p vs < two_to n → Goes vs n p
goes vs zero p h w = record { z = p; none = omega arith; letters = h; long = omega arith }
goes vs (suc n) p h w =
    let s = split p vs in
    elim (bool_cases (nat_lt (beginning (p ++ 97 ∷ []) vs) (two_to n))) [
      | inl t ↦
          let low : beginning (p ++ 97 ∷ []) vs < two_to n = grind (arith, nat_tests, t) in
          let r = goes vs n (p ++ 97 ∷ []) (letters_more p 97 h refl) low in
          let l : length (p ++ 97 ∷ []) ≡ length p + 1 = length-append p (97 ∷ []) in
          let long = r.long in
          record { z = r.z; none = r.none; letters = r.letters; long = omega (arith, l, long) }
      | inr f ↦
          let high : two_to n ≤ beginning (p ++ 97 ∷ []) vs = grind (arith, nat_tests, f) in
          let low : beginning (p ++ 98 ∷ []) vs < two_to n = omega (arith, high, s, w) in
          let r = goes vs n (p ++ 98 ∷ []) (letters_more p 98 h refl) low in
          let l : length (p ++ 98 ∷ []) ≡ length p + 1 = length-append p (98 ∷ []) in
          let long = r.long in
          record { z = r.z; none = r.none; letters = r.letters; long = omega (arith, l, long) }
    ]

pub new_by : (vars : List Variable) (z : List ℕ) → is_name z ≡ true → beginning z vars ≡ 0 → IsNew vars z
new_by vars z name none = record {
  name = name;
  child = λ j p w e. not_used z vars none j w (ap name_used e);
  derived = λ j x y w e. not_used z vars none j w (ap name_used e);
}

pub new_name : (vars : List Variable) → length vars ≤ MOST_VARIABLES → (z : List ℕ) × IsNew vars z
new_name vars small =
    let most = beginning_most [] vars in
    let power : two_to 32 ≡ 4294967296 = refl in
    let r = goes vars 32 [] tt (omega (arith, most, power, small)) in
    (r.z, new_by vars r.z (letters_name r.z r.letters r.long) r.none)

-- the steps of the search for a new name
pub next_nothing : (p : List ℕ) (x : ℕ) → begins (p ++ x ∷ []) [] ≡ false
next_nothing [] x = refl
next_nothing (y ∷ p) x = refl

pub next_last : (x b : ℕ) (rest : List ℕ) → begins (x ∷ []) (b ∷ rest) ≡ nat_eq x b
next_last x b rest = elim (bool_cases (nat_eq x b)) [ inl t ↦ rw t refl | inr f ↦ rw f refl ]

pub first_letter : (p : List ℕ) (vars : List Variable) (left : ℕ) → beginning p vars ≤ left → beginning (p ++ 97 ∷ []) vars ≤ left
first_letter p vars left most = let s = split p vars in omega (arith, s, most)

pub other_letter : (p : List ℕ) (vars : List Variable) (left count : ℕ) → beginning p vars ≤ left → count ≡ beginning (p ++ 97 ∷ []) vars → beginning (p ++ 98 ∷ []) vars ≤ left - count
other_letter p vars left count most e = let s = split p vars in omega (arith, s, most, e)

pub half_room : (n room : ℕ) → room ≡ two_to n → (m : ℕ) → n ≡ m + 1 → room ≡ 2 * two_to m
half_room n room e m q = let q' : n ≡ suc m = omega arith in rw (e, q') refl

pub none_left : (z : List ℕ) (vars : List Variable) (n room : ℕ) → n ≡ 0 → room ≡ two_to n → beginning z vars < room → length z ≡ 32 → AllLetters z → IsNew vars z
none_left z vars n room e r few long letters =
    let one : room ≡ 1 = rw (r, e) refl in
    new_by vars z (letters_name z letters long) (omega (arith, one, few))

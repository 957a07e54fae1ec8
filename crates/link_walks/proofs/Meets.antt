-- The link that names meet, looked for from the first name on; and one link followed after another.
use Rattle.std.proofs.Common.{◌≡◌, ◌≢◌, ℕ, zero, suc, ◌+◌, ◌-◌, ◌<◌, ◌≤◌, Bool, true, false, ◌&&◌, ◌||◌, nat_lt, nat_le, length-append, List, [], ◌∷◌, ◌++◌, length, take, drop, get_or, Option, Some, None, refl, sym, ap, ◌∙◌, arith, drop-cons, take-suc, if◌then◌else◌, length-drop}
use Rattle.std.proofs.lemmas.Bool.{ltb-true, ltb-false, lt-ltb, le-leb}
use Rattle.std.specs.Cmp.Derive.{both_true}
use Rattle.std.proofs.lemmas.Option.{same_Some}
use Rattle.script_names.specs.declared.path.TheConstants.{MAX_NAMES}
use Rattle.script_names.specs.Paths.{PathParts}
use Rattle.link_walks.specs.declared.walks.Reached.TheVariants.{At, Blocked}
use Rattle.link_walks.specs.Meeting.{led_by}
use Rattle.link_walks.specs.Links.{LinkParts, IsKnownLink}
use Rattle.link_walks.specs.Reaching.{link_at, Met, met_here, met, led, led_path, is_length, stays, goes_on, reach_in}
use Rattle.link_walks.proofs.Found.{place_some}

either : (a b : Bool) → (a || b) ≡ true → a ≡ false → b ≡ true
either true b h e = cc
either false b h e = h

neither : (a b : Bool) → (a || b) ≡ false → (a ≡ false) × (b ≡ false)
neither true b h = absurd (cc)
neither false b h = (refl, h)

module _ (links : List LinkParts) (last : Bool) (names : List (List ℕ)) (k : ℕ) (less : k < length names) where
  f : List ℕ
  f = get_or names k []

  front : take (suc k) names ≡ take k names ++ get_or names k [] ∷ []
  front = take-suc names k [] less

  here : drop k names ≡ get_or names k [] ∷ drop (suc k) names
  here = drop-cons names k [] less

  -- nothing follows a last name that is not followed
  met_end : (last || nat_lt (suc k) (length names)) ≡ false → met links last (take k names) (drop k names) ≡ None
  met_end h = by (drop (suc k) names) refl last refl
    where
      both : (last ≡ false) × (nat_lt (suc k) (length names) ≡ false)
      both = neither last (nat_lt (suc k) (length names)) h

      by : (rest : List (List ℕ)) → drop (suc k) names ≡ rest → (b : Bool) → last ≡ b
          → met links last (take k names) (drop k names) ≡ None
      by (g ∷ rest) e b l =
          let n = length-drop (suc k) names in
          let z : length (drop (suc k) names) ≡ length (g ∷ rest) = ap length e in
          let le : length names ≤ suc k = ltb-false (suc k) (length names) both.1 in
          absurd (omega (arith, n, z, le))
      by [] e true l = absurd (let x : true ≡ false = sym l ∙ both.0 in cc)
      by [] e false l =
          ap (met links last (take k names)) (here ∙ ap (λ r. get_or names k [] ∷ r) e)
          ∙ ap (λ (b : Bool). if b then met_here [] (link_at links (take k names ++ get_or names k [] ∷ [])) None else None) l

  -- one name further
  met_step : (o : Option LinkParts) → (last || nat_lt (suc k) (length names)) ≡ true
      → link_at links (take (suc k) names) ≡ o
      → met links last (take k names) (drop k names)
      ≡ met_here (drop (suc k) names) o (met links last (take (suc k) names) (drop (suc k) names))
  met_step o h is = by (drop (suc k) names) refl last refl
    where
      at : link_at links (take k names ++ get_or names k [] ∷ []) ≡ o
      at = ap (link_at links) (sym front) ∙ is

      by : (rest : List (List ℕ)) → drop (suc k) names ≡ rest → (b : Bool) → last ≡ b
          → met links last (take k names) (drop k names)
          ≡ met_here (drop (suc k) names) o (met links last (take (suc k) names) (drop (suc k) names))
      by [] e false l =
          let n = length-drop (suc k) names in
          let z : length (drop (suc k) names) ≡ 0 = ap length e in
          let lt : suc k < length names =
          ltb-true (suc k) (length names) (either last (nat_lt (suc k) (length names)) h l) in
          absurd (omega (arith, n, z, lt))
      by [] e true l =
          ap (met links last (take k names)) (here ∙ ap (λ r. get_or names k [] ∷ r) e)
          ∙ (ap (λ (b : Bool). if b then met_here [] (link_at links (take k names ++ get_or names k [] ∷ [])) None else None) l
          ∙ (ap (λ p. met_here [] p None) at
          ∙ ap (λ r. met_here r o (met links last (take (suc k) names) r)) (sym e)))
      by (g ∷ rest) e b l =
          ap (met links last (take k names)) (here ∙ ap (λ r. get_or names k [] ∷ r) e)
          ∙ (ap (λ p. met_here (g ∷ rest) p (met links last (take k names ++ get_or names k [] ∷ []) (g ∷ rest))) at
          ∙ (ap (λ before. met_here (g ∷ rest) o (met links last before (g ∷ rest))) (sym front)
          ∙ ap (λ r. met_here r o (met links last (take (suc k) names) r)) (sym e)))

-- the same, with the number of the next name as the code has it
pub end_at : (links : List LinkParts) (last : Bool) (names : List (List ℕ)) (k n : ℕ) → n ≡ suc k → k < length names
    → (last || nat_lt n (length names)) ≡ false → met links last (take k names) (drop k names) ≡ None
end_at links last names k n is less h =
    met_end links last names k less (ap (λ m. last || nat_lt m (length names)) (sym is) ∙ h)

pub step_at : (links : List LinkParts) (last : Bool) (names : List (List ℕ)) (k n : ℕ) (o : Option LinkParts)
    → n ≡ suc k → k < length names → (last || nat_lt n (length names)) ≡ true → link_at links (take n names) ≡ o
    → met links last (take k names) (drop k names) ≡ met_here (drop n names) o (met links last (take n names) (drop n names))
step_at links last names k n o is less h at =
    met_step links last names k less o (ap (λ m. last || nat_lt m (length names)) (sym is) ∙ h)
    (ap (λ m. link_at links (take m names)) (sym is) ∙ at)
    ∙ ap (λ m. met_here (drop m names) o (met links last (take m names) (drop m names))) (sym is)

-- ---- one link after another

-- nothing is met: the path is reached, however many links may be followed
pub none_met : (n : ℕ) (links : List LinkParts) (last : Bool) (p : PathParts) → met links last [] p.names ≡ None
    → reach_in n links last p ≡ At p
none_met zero links last p e = ap (λ m. stays m p) e
none_met (suc n) links last p e = ap (λ m. goes_on m p (reach_in n links last)) e

-- a link is met where none may be followed
pub no_more : (n : ℕ) (links : List LinkParts) (last : Bool) (p : PathParts) (m : Met) → n ≡ 0
    → met links last [] p.names ≡ Some m → reach_in n links last p ≡ Blocked m.link.at
no_more zero links last p m z e = ap (λ m. stays m p) e
no_more (suc n) links last p m z e = absurd (cc)

-- the names are no path's
pub too_long : (n : ℕ) (links : List LinkParts) (last : Bool) (p : PathParts) (m : Met) → (n ≡ 0 → ⊥)
    → met links last [] p.names ≡ Some m → led_by m p.slash ≡ None → reach_in n links last p ≡ Blocked m.link.at
too_long zero links last p m z e l = absurd (z refl)
too_long (suc n) links last p m z e l =
    ap (λ m. goes_on m p (reach_in n links last)) e ∙ by (is_length (led m)) l
  where
    by : (b : Bool) → (if b then Some (led_path m p.slash) else None) ≡ None
        → (if b then reach_in n links last (led_path m p.slash) else Blocked m.link.at)
        ≡ Blocked m.link.at
    by true l = absurd (cc)
    by false l = refl

-- the path goes on
pub one_led : (n k : ℕ) (links : List LinkParts) (last : Bool) (p q : PathParts) (m : Met) → n ≡ suc k
    → met links last [] p.names ≡ Some m → led_by m p.slash ≡ Some q
    → reach_in k links last q ≡ reach_in n links last p
one_led zero k links last p q m z e l = absurd (cc)
one_led (suc n) k links last p q m z e l =
    ap (λ x. reach_in x links last q) (omega (arith, z))
    ∙ (by (is_length (led m)) l ∙ sym (ap (λ m. goes_on m p (reach_in n links last)) e))
  where
    by : (b : Bool) → (if b then Some (led_path m p.slash) else None) ≡ Some q
        → reach_in n links last q
        ≡ (if b then reach_in n links last (led_path m p.slash) else Blocked m.link.at)
    by true l = ap (reach_in n links last) (sym (same_Some (led_path m p.slash) q l))
    by false l = absurd (cc)

pub less_one : (n : ℕ) → (n ≡ 0 → ⊥) → n ≡ suc (n - 1)
less_one zero z = absurd (z refl)
less_one (suc n) z = omega arith

-- ---- the place of a link in place of its path

some_length : (xs : List (List ℕ)) → xs ≢ [] → 0 < length xs
some_length [] some = absurd (some refl)
some_length (x ∷ xs) some = omega arith

-- with no more names than a path may have that is a path
pub led_some : (link : LinkParts) (behind names : List (List ℕ)) (slash some : Bool) (r : PathParts)
    → IsKnownLink link → length link.place.names + length behind ≤ MAX_NAMES → names ≡ link.place.names ++ behind
    → some ≡ slash → r ≡ record { names = names; slash = some && nat_lt 0 (length names) }
    → Some r ≡ led_by (record { link = link; behind = behind }) slash
led_some link behind names slash some r known room e s is =
    ap (λ r. Some r) (is ∙ sym path) ∙ sym (ap (λ (b : Bool). if b then Some (led_path m slash) else None) (both_true filled few))
  where
    m : Met
    m = record { link = link; behind = behind }

    count : length (led m) ≡ length link.place.names + length behind
    count = length-append link.place.names behind

    place : 0 < length link.place.names
    place =
        some_length link.place.names
        (λ n. place_some link.at.names link.target (sym (ap (λ p. p.names) known.place) ∙ n))

    filled : nat_lt 0 (length (led m)) ≡ true
    filled = lt-ltb 0 (length (led m)) (omega (arith, place, count))

    few : nat_le (length (led m)) MAX_NAMES ≡ true
    few = le-leb (length (led m)) MAX_NAMES (omega (arith, room, count))

    with_true : (a b : Bool) → b ≡ true → (a && b) ≡ a
    with_true true b h = h
    with_true false b h = refl

    path : led_path m slash ≡ record { names = names; slash = some && nat_lt 0 (length names) }
    path =
        let n : led m ≡ names = sym e in
        let b : slash ≡ some && nat_lt 0 (length names) =
        sym s ∙ sym (with_true some (nat_lt 0 (length names)) (ap (λ l. nat_lt 0 (length l)) e ∙ filled)) in
        λ i. record { names = n i; slash = b i }

-- Places that are counted one after another are the different ones, each with how often it comes.
use Rattle.std.proofs.Common.{◌≡◌, ℕ, suc, ◌+◌, Bool, true, false, cond, not, List, [], ◌∷◌, ◌++◌, map, length, take, get_or, refl, sym, ap, ◌∙◌, arith, length-take}
use Rattle.std.specs.Prelude.{if◌then◌else◌, Option, Some, None, ◌<◌}
use Rattle.std.specs.List.{filter, filter_map, cons_option}
use Rattle.std.specs.Map.{lookup}
use Rattle.std.proofs.lemmas.List.{take_more}
use Rattle.std.proofs.lemmas.List.Sums.{sum_by-cons, count_by-le-length}
use Rattle.std.proofs.lemmas.List.Elements.{filter_map-append}
use Rattle.indexmap.specs.IndexMap.{insert_entry}
use Rattle.report_text.specs.declared.places.EndPlace.{EndPlace}
use Rattle.report_text.specs.contracts.places.EndPlacePartialEq.TheImpl.{eq-value}
use Rattle.report_text.specs.Places.{same_place, different, count, place_counts}
use Rattle.report_text.specs.Counting.{as_list, count_in, add_place}
use Rattle.report_text.proofs.PlaceEquality.{eq_is, same_itself, same_is, same_turned}

-- ---- what the map does

pub count_here : (es : List (EndPlace × ℕ)) (place : EndPlace) (n : ℕ) → Some n ≡ lookup ((eq-value).it place) es → n ≡ count_in es place
count_here [] place n e = cc
count_here (x ∷ es) place n e = step ((eq-value).it place x.0) (eq_is place x.0) e (count_here es place n)
  where
    step : (t : Bool) → t ≡ same_place place x.0 → Some n ≡ (if t then Some x.1 else lookup ((eq-value).it place) es)
        → (Some n ≡ lookup ((eq-value).it place) es → n ≡ count_in es place)
        → n ≡ (if same_place place x.0 then x.1 else count_in es place)
    step true q e more = let k : n ≡ x.1 = cc in rw (sym q) k
    step false q e more = rw (sym q) (more e)

pub none_here : (es : List (EndPlace × ℕ)) (place : EndPlace) → None ≡ lookup ((eq-value).it place) es → 0 ≡ count_in es place
none_here [] place e = refl
none_here (x ∷ es) place e = step ((eq-value).it place x.0) (eq_is place x.0) e (none_here es place)
  where
    step : (t : Bool) → t ≡ same_place place x.0 → None ≡ (if t then Some x.1 else lookup ((eq-value).it place) es)
        → (None ≡ lookup ((eq-value).it place) es → 0 ≡ count_in es place)
        → 0 ≡ (if same_place place x.0 then x.1 else count_in es place)
    step true q e more = cc
    step false q e more = rw (sym q) (more e)

pub inserted : (es : List (EndPlace × ℕ)) (place : EndPlace) → insert_entry ((eq-value).it) es place (count_in es place + 1) ≡ add_place es place
inserted [] place = refl
inserted (x ∷ es) place = step (same_place place x.0) ((eq-value).it place x.0) (eq_is place x.0) (inserted es place)
  where
    step : (t b : Bool) → b ≡ t → insert_entry ((eq-value).it) es place (count_in es place + 1) ≡ add_place es place
        → (if b then (x.0, (if t then x.1 else count_in es place) + 1) ∷ es else x ∷ insert_entry ((eq-value).it) es place ((if t then x.1 else count_in es place) + 1))
        ≡ (if t then (x.0, x.1 + 1) ∷ es else x ∷ add_place es place)
    step true true q more = refl
    step true false q more = cc
    step false true q more = cc
    step false false q more = ap (λ l. x ∷ l) more

-- ---- counts

count_cons : (p q : EndPlace) (ps : List EndPlace) → count p (q ∷ ps) ≡ cond (same_place p q) 1 0 + count p ps
count_cons p q ps = sum_by-cons (λ y. cond (same_place p y) 1 0) q ps

count_after : (p : EndPlace) (ps : List EndPlace) (q : EndPlace) → count p (ps ++ q ∷ []) ≡ count p ps + cond (same_place p q) 1 0
count_after p [] q = refl
count_after p (x ∷ ps) q = omega (arith, count_cons p x (ps ++ q ∷ []), count_cons p x ps, count_after p ps q)

counted_one : (p q : EndPlace) (ps : List EndPlace) → same_place p q ≡ true → count p (q ∷ ps) ≡ suc (count p ps)
counted_one p q ps is =
    let e : count p (q ∷ ps) ≡ 1 + count p ps = count_cons p q ps ∙ ap (λ t. cond t 1 0 + count p ps) is in omega (arith, e)

counted_none : (p q : EndPlace) (ps : List EndPlace) → same_place p q ≡ false → count p (q ∷ ps) ≡ count p ps
counted_none p q ps apart =
    let e : count p (q ∷ ps) ≡ 0 + count p ps = count_cons p q ps ∙ ap (λ t. cond t 1 0 + count p ps) apart in omega (arith, e)

-- ---- groups: the first place with its count, and the groups of the rest without that place

abbrev others : EndPlace → List (EndPlace × ℕ) → List (EndPlace × ℕ)
others p es = filter (λ e. not (same_place p e.0)) es

abbrev groups : List EndPlace → List (EndPlace × ℕ)
groups [] = []
groups (p ∷ ps) = (p, suc (count p ps)) ∷ others p (groups ps)

kept : (p : EndPlace) (ps xs : List EndPlace)
    → map (λ q. (q, count q (p ∷ ps))) (filter (λ q. not (same_place p q)) xs) ≡ others p (map (λ q. (q, count q ps)) xs)
kept p ps [] = refl
kept p ps (x ∷ xs) = step (same_place p x) refl (kept p ps xs)
  where
    step : (t : Bool) → same_place p x ≡ t
        → map (λ q. (q, count q (p ∷ ps))) (filter (λ q. not (same_place p q)) xs) ≡ others p (map (λ q. (q, count q ps)) xs)
        → map (λ q. (q, count q (p ∷ ps)))
        (cond (not t) (x ∷ filter (λ q. not (same_place p q)) xs) (filter (λ q. not (same_place p q)) xs))
        ≡ cond (not t) ((x, count x ps) ∷ others p (map (λ q. (q, count q ps)) xs)) (others p (map (λ q. (q, count q ps)) xs))
    step true is more = more
    step false is more = let c = counted_none x p ps (same_turned x p ∙ is) in λ i. (x, c i) ∷ more i

are_groups : (ps : List EndPlace) → place_counts ps ≡ groups ps
are_groups [] = refl
are_groups (p ∷ ps) =
    let first = counted_one p p ps (same_itself p) in
    let rest = kept p ps (different ps) ∙ ap (others p) (are_groups ps) in
    λ i. (p, first i) ∷ rest i

-- ---- one more place

dropped : (p q : EndPlace) → same_place p q ≡ true → (es : List (EndPlace × ℕ)) → others p (add_place es q) ≡ others p es
dropped p q same [] = ap (λ t. cond (not t) ((q, 1) ∷ []) []) same
dropped p q same (e ∷ es) = step (same_place q e.0) (same_is q e.0) (dropped p q same es)
  where
    step : (t : Bool) → (t ≡ true → q ≡ e.0) → others p (add_place es q) ≡ others p es
        → others p (if t then (e.0, e.1 + 1) ∷ es else e ∷ add_place es q) ≡ others p (e ∷ es)
    step true is more =
        let there : same_place p e.0 ≡ true = ap (same_place p) (sym (is refl)) ∙ same in
        ap (λ u. cond (not u) ((e.0, e.1 + 1) ∷ others p es) (others p es)) there
        ∙ ap (λ u. cond (not u) (e ∷ others p es) (others p es)) (sym there)
    step false is more = ap (λ l. cond (not (same_place p e.0)) (e ∷ l) l) more

passed : (p q : EndPlace) → same_place p q ≡ false → (es : List (EndPlace × ℕ)) → others p (add_place es q) ≡ add_place (others p es) q
passed p q apart [] = ap (λ t. cond (not t) ((q, 1) ∷ []) []) apart
passed p q apart (e ∷ es) = step (same_place q e.0) refl (passed p q apart es)
  where
    behind : (u : Bool) → same_place q e.0 ≡ false → others p (add_place es q) ≡ add_place (others p es) q
        → cond (not u) (e ∷ others p (add_place es q)) (others p (add_place es q))
        ≡ add_place (cond (not u) (e ∷ others p es) (others p es)) q
    behind true new more = more
    behind false new more =
        ap (λ l. e ∷ l) more ∙ ap (λ t. if t then (e.0, e.1 + 1) ∷ others p es else e ∷ add_place (others p es) q) (sym new)

    step : (t : Bool) → same_place q e.0 ≡ t → others p (add_place es q) ≡ add_place (others p es) q
        → others p (if t then (e.0, e.1 + 1) ∷ es else e ∷ add_place es q) ≡ add_place (others p (e ∷ es)) q
    step true is more =
        let there : same_place p e.0 ≡ false = ap (same_place p) (sym (same_is q e.0 is)) ∙ apart in
        ap (λ u. cond (not u) ((e.0, e.1 + 1) ∷ others p es) (others p es)) there
        ∙ ap (λ t. if t then (e.0, e.1 + 1) ∷ others p es else e ∷ add_place (others p es) q) (sym is)
        ∙ ap (λ u. add_place (cond (not u) (e ∷ others p es) (others p es)) q) (sym there)
    step false is more = behind (same_place p e.0) is more

added : (ps : List EndPlace) (q : EndPlace) → add_place (groups ps) q ≡ groups (ps ++ q ∷ [])
added [] q = refl
added (p ∷ ps) q = step (same_place q p) (same_turned p q) (count_after p ps q) (added ps q)
  where
    step : (t : Bool) → same_place p q ≡ t → count p (ps ++ q ∷ []) ≡ count p ps + cond (same_place p q) 1 0
        → add_place (groups ps) q ≡ groups (ps ++ q ∷ [])
        → (if t then (p, suc (count p ps) + 1) ∷ others p (groups ps) else (p, suc (count p ps)) ∷ add_place (others p (groups ps)) q)
        ≡ (p, suc (count p (ps ++ q ∷ []))) ∷ others p (groups (ps ++ q ∷ []))
    step true is c more =
        let n : suc (count p ps) + 1 ≡ suc (count p (ps ++ q ∷ [])) =
        let m : count p (ps ++ q ∷ []) ≡ count p ps + 1 = c ∙ ap (λ t. count p ps + cond t 1 0) is in omega (arith, m) in
        let rest = sym (dropped p q is (groups ps)) ∙ ap (others p) more in
        λ i. (p, n i) ∷ rest i
    step false is c more =
        let n : suc (count p ps) ≡ suc (count p (ps ++ q ∷ [])) =
        let m : count p (ps ++ q ∷ []) ≡ count p ps + 0 = c ∙ ap (λ t. count p ps + cond t 1 0) is in omega (arith, m) in
        let rest = sym (passed p q is (groups ps)) ∙ ap (others p) more in
        λ i. (p, n i) ∷ rest i

pub counted_more : (places : List EndPlace) (i : ℕ) (d : EndPlace) (es new : List (EndPlace × ℕ)) → i < length places
    → new ≡ add_place es (get_or places i d) → es ≡ place_counts (take i places) → new ≡ place_counts (take (i + 1) places)
counted_more places i d es new lt e f =
    e ∙ ap (λ es. add_place es (get_or places i d)) (f ∙ are_groups (take i places)) ∙ added (take i places) (get_or places i d)
    ∙ ap groups (sym (take_more places i d lt)) ∙ sym (are_groups (take (i + 1) places))

-- ---- what was counted

unseen : (p q : EndPlace) → same_place p q ≡ false → (es : List (EndPlace × ℕ)) → count_in (others p es) q ≡ count_in es q
unseen p q apart [] = refl
unseen p q apart (e ∷ es) = step (same_place p e.0) (same_is p e.0) (unseen p q apart es)
  where
    step : (t : Bool) → (t ≡ true → p ≡ e.0) → count_in (others p es) q ≡ count_in es q
        → count_in (cond (not t) (e ∷ others p es) (others p es)) q ≡ (if same_place q e.0 then e.1 else count_in es q)
    step true is more =
        let there : same_place q e.0 ≡ false = ap (same_place q) (sym (is refl)) ∙ same_turned q p ∙ apart in
        more ∙ ap (λ t. if t then e.1 else count_in es q) (sym there)
    step false is more = ap (λ n. if same_place q e.0 then e.1 else n) more

counted : (ps : List EndPlace) (q : EndPlace) → count_in (groups ps) q ≡ count q ps
counted [] q = refl
counted (p ∷ ps) q = step (same_place q p) refl (counted ps q)
  where
    step : (t : Bool) → same_place q p ≡ t → count_in (groups ps) q ≡ count q ps
        → (if t then suc (count p ps) else count_in (others p (groups ps)) q) ≡ count q (p ∷ ps)
    step true is more = ap (λ x. suc (count x ps)) (sym (same_is q p is)) ∙ sym (counted_one q p ps is)
    step false is more = unseen p q (same_turned p q ∙ is) (groups ps) ∙ more ∙ sym (counted_none q p ps is)

-- each count is below what the number of places is below
pub counted_below : (places : List EndPlace) (i : ℕ) (es : List (EndPlace × ℕ)) (q : EndPlace) (most : ℕ) → i < most
    → es ≡ place_counts (take i places) → count_in es q < most
counted_below places i es q most lt e =
    let n : count_in es q ≡ count q (take i places) =
    ap (λ es. count_in es q) (e ∙ are_groups (take i places)) ∙ counted (take i places) q in
    omega (arith, n, lt, count_by-le-length (same_place q) (take i places), length-take i places)

-- ---- the places of entries

pub one_place : {A : Type 0} (h : A → Option EndPlace) (x : A) → filter_map h (x ∷ []) ≡ as_list (h x)
one_place h x = step (h x)
  where
    step : (o : Option EndPlace) → cons_option o [] ≡ as_list o
    step None = refl
    step (Some place) = refl

pub place_more : {A : Type 0} (h : A → Option EndPlace) (xs : List A) (i : ℕ) (d : A) (old new : List EndPlace) → i < length xs
    → new ≡ old ++ as_list (h (get_or xs i d)) → old ≡ filter_map h (take i xs) → new ≡ filter_map h (take (i + 1) xs)
place_more h xs i d old new lt e f =
    e ∙ ap (λ l. l ++ as_list (h (get_or xs i d))) f
    ∙ ap (λ l. filter_map h (take i xs) ++ l) (sym (one_place h (get_or xs i d)))
    ∙ sym (filter_map-append h (take i xs) (get_or xs i d ∷ []))
    ∙ ap (filter_map h) (sym (take_more xs i d lt))

-- The first of some forms, found one after another, is the first of them all.
use Rattle.std.proofs.Common.{◌≡◌, zero, suc, ◌≤◌, ◌⊎◌, inl, inr, Bool, true, false, ◌&&◌, ◌||◌, ◌==◌, nat_lt, if◌then◌else◌, List, [], ◌∷◌, All, Option, Some, None, refl, sym, ap, subst, ◌∙◌, arith}
use Rattle.std.proofs.lemmas.Bool.{ltb-true, ltb-false, eqb-true, eqb-false}
use Rattle.std.specs.List.{Contains}
use Rattle.shell_forms.specs.Forms.{Found}
use Rattle.shell_forms.specs.First.{rank, NotBehind, IsFirst}
use Rattle.shell_forms.specs.Soonest.{is_sooner, soonest}
use Rattle.script_names.proofs.TextSets.{differ}

-- ---- the order of forms

stays : (a b c : Found) → NotBehind a b → NotBehind b c → NotBehind a c
stays a b c (inl x) (inl y) = inl (omega (arith, x, y))
stays a b c (inl x) (inr y) = inl (omega (arith, x, y.0))
stays a b c (inr x) (inl y) = inl (omega (arith, x.0, y))
stays a b c (inr x) (inr y) = inr (x.0 ∙ y.0, omega (arith, x.1, y.1))

same : (a : Found) → NotBehind a a
same a = inr (refl, omega arith)

-- one of two, by a test
abbrev either : Bool → Type 0 → Type 0 → Type 0
either true P Q = P
either false P Q = Q

at_rank : (x f : Found) → x.1 ≡ f.1 → (b : Bool) → nat_lt (rank x.0) (rank f.0) ≡ b → either b (NotBehind x f) (NotBehind f x)
at_rank x f is true lt = inr (is, omega (arith, ltb-true (rank x.0) (rank f.0) lt))
at_rank x f is false ge = inr (sym is, omega (arith, ltb-false (rank x.0) (rank f.0) ge))

at_offset : (x f : Found) → f.1 ≤ x.1 → (b : Bool) → (x.1 == f.1) ≡ b → either (b && nat_lt (rank x.0) (rank f.0)) (NotBehind x f) (NotBehind f x)
at_offset x f le true is = at_rank x f (eqb-true x.1 f.1 is) (nat_lt (rank x.0) (rank f.0)) refl
at_offset x f le false not_same = inl (omega (arith, le, eqb-false x.1 f.1 not_same))

-- what the test of two forms says
ordered : (x f : Found) (b : Bool) → nat_lt x.1 f.1 ≡ b
    → either (b || ((x.1 == f.1) && nat_lt (rank x.0) (rank f.0))) (NotBehind x f) (NotBehind f x)
ordered x f true lt = inl (ltb-true x.1 f.1 lt)
ordered x f false ge = at_offset x f (ltb-false x.1 f.1 ge) (x.1 == f.1) refl

-- ---- found one after another

-- among these, and behind none
abbrev Among : Found → List Found → Type 0
Among one [] = ⊥
Among one (x ∷ xs) = (one ≡ x) ⊎ Among one xs

abbrev BehindNone : Found → List Found → Type 0
BehindNone one [] = Unit {0}
BehindNone one (x ∷ xs) = NotBehind one x × BehindNone one xs

record Found_first (f : Found) (xs : List Found) (r : Found) : Type 0 where
  from : (r ≡ f) ⊎ Among r xs
  head : NotBehind r f
  rest : BehindNone r xs

some_is : {a b : Found} → ◌≡◌ {A = Option Found} (Some a) (Some b) → a ≡ b
some_is {a} {b} e = ap (λ (o : Option Found). given a o) e
  where
    given : Found → Option Found → Found
    given d None = d
    given d (Some x) = x

-- one more form, by whether it comes before the first so far
found_by : (f x : Found) (xs : List Found) (r : Found) (b : Bool) → either b (NotBehind x f) (NotBehind f x)
    → ((g : Found) → soonest (Some g) xs ≡ Some r → Found_first g xs r)
    → soonest (if b then Some x else Some f) xs ≡ Some r → Found_first f (x ∷ xs) r
found_by f x xs r true first later e =
    let h = later x e in
    record { from = inr h.from; head = stays r x f h.head first; rest = (h.head, h.rest) }
found_by f x xs r false first later e =
    let h = later f e in
    record { from = or_later h.from; head = h.head; rest = (stays r f x h.head first, h.rest) }
  where
    or_later : (r ≡ f) ⊎ Among r xs → (r ≡ f) ⊎ ((r ≡ x) ⊎ Among r xs)
    or_later (inl is) = inl is
    or_later (inr among) = inr (inr among)

found_from : (f : Found) (xs : List Found) (r : Found) → soonest (Some f) xs ≡ Some r → Found_first f xs r
found_from f [] r e = record { from = inl (sym (some_is e)); head = subst (λ x. NotBehind x f) (some_is e) (same f); rest = tt }
found_from f (x ∷ xs) r e = found_by f x xs r (is_sooner x f) (ordered x f (nat_lt x.1 f.1) refl) (λ g. found_from g xs r) e

-- ---- in the words of lists

contains : (one : Found) (xs : List Found) → Among one xs → Contains xs one
contains one [] among = absurd among
contains one (x ∷ xs) (inl is) = (zero, omega arith, sym is)
contains one (x ∷ xs) (inr among) =
    let h = contains one xs among in
    (suc h.0, omega (arith, h.1), h.2)

all_more : (one x : Found) (xs : List Found) → NotBehind one x → All (NotBehind one) xs → All (NotBehind one) (x ∷ xs)
all_more one x xs first later zero d lt = first
all_more one x xs first later (suc k) d lt = later k d (omega (arith, lt))

behind_none : (one : Found) (xs : List Found) → BehindNone one xs → All (NotBehind one) xs
behind_none one [] none = λ k d lt. absurd (omega (arith, lt))
behind_none one (x ∷ xs) none = all_more one x xs none.0 (behind_none one xs none.1)

-- whether one was found
abbrev is_found : Option Found → Bool
is_found None = false
is_found (Some x) = true

found_either : (f x : Found) (xs : List Found) (b : Bool) → ((g : Found) → is_found (soonest (Some g) xs) ≡ true)
    → is_found (soonest (if b then Some x else Some f) xs) ≡ true
found_either f x xs true later = later x
found_either f x xs false later = later f

stays_found : (f : Found) (xs : List Found) → is_found (soonest (Some f) xs) ≡ true
stays_found f [] = refl
stays_found f (x ∷ xs) = found_either f x xs (is_sooner x f) (λ g. stays_found g xs)

-- where one was found, it is the first
pub is_first : (xs : List Found) (one : Found) → soonest None xs ≡ Some one → IsFirst xs one
is_first [] one e = absurd (differ (sym (ap is_found e)))
is_first (x ∷ xs) one e =
    let h = found_from x xs one e in
    record { stands = contains one (x ∷ xs) h.from; first = behind_none one (x ∷ xs) (h.head, h.rest) }

-- where none was found, there is none
pub there_is_none : (xs : List Found) → soonest None xs ≡ None → xs ≡ []
there_is_none [] e = refl
there_is_none (x ∷ xs) e = absurd (differ (sym (stays_found x xs) ∙ ap is_found e))

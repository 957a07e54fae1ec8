-- The derived equality of places is the one by kind and site, and is an equality.
use Rattle.std.proofs.Common.{◌≡◌, Bool, true, false, refl, ap, ◌∙◌}
use Rattle.std.specs.Prelude.{◌&&◌, ◌==◌}
use Rattle.std.proofs.lemmas.Bool.{and_parts, and_from, eq-eqb, eqb-true, false≢true}
use Rattle.report_text.specs.declared.places.EndKind.{EndKind}
use Rattle.report_text.specs.declared.places.EndKind.TheVariants.{Failed, Incomplete, Bound}
use Rattle.report_text.specs.declared.places.EndPlace.{EndPlace}
use Rattle.report_text.specs.contracts.places.EndPlacePartialEq.TheImpl.{eq-value}
use Rattle.report_text.specs.Places.{same_kind, same_flag, same_place}

by_parts : (k l : EndKind) (s t : Bool) (a b c d : _)
    → (eq-value).it (record { kind = k; sited = s; step = a; at = b }) (record { kind = l; sited = t; step = c; at = d })
    ≡ same_place (record { kind = k; sited = s; step = a; at = b }) (record { kind = l; sited = t; step = c; at = d })
by_parts Failed Failed true true a b c d = refl
by_parts Failed Failed true false a b c d = refl
by_parts Failed Failed false true a b c d = refl
by_parts Failed Failed false false a b c d = refl
by_parts Failed Incomplete true true a b c d = refl
by_parts Failed Incomplete true false a b c d = refl
by_parts Failed Incomplete false true a b c d = refl
by_parts Failed Incomplete false false a b c d = refl
by_parts Failed Bound true true a b c d = refl
by_parts Failed Bound true false a b c d = refl
by_parts Failed Bound false true a b c d = refl
by_parts Failed Bound false false a b c d = refl
by_parts Incomplete Failed true true a b c d = refl
by_parts Incomplete Failed true false a b c d = refl
by_parts Incomplete Failed false true a b c d = refl
by_parts Incomplete Failed false false a b c d = refl
by_parts Incomplete Incomplete true true a b c d = refl
by_parts Incomplete Incomplete true false a b c d = refl
by_parts Incomplete Incomplete false true a b c d = refl
by_parts Incomplete Incomplete false false a b c d = refl
by_parts Incomplete Bound true true a b c d = refl
by_parts Incomplete Bound true false a b c d = refl
by_parts Incomplete Bound false true a b c d = refl
by_parts Incomplete Bound false false a b c d = refl
by_parts Bound Failed true true a b c d = refl
by_parts Bound Failed true false a b c d = refl
by_parts Bound Failed false true a b c d = refl
by_parts Bound Failed false false a b c d = refl
by_parts Bound Incomplete true true a b c d = refl
by_parts Bound Incomplete true false a b c d = refl
by_parts Bound Incomplete false true a b c d = refl
by_parts Bound Incomplete false false a b c d = refl
by_parts Bound Bound true true a b c d = refl
by_parts Bound Bound true false a b c d = refl
by_parts Bound Bound false true a b c d = refl
by_parts Bound Bound false false a b c d = refl

pub eq_is : (a b : EndPlace) → (eq-value).it a b ≡ same_place a b
eq_is a b = by_parts a.kind b.kind a.sited b.sited a.step a.at b.step b.at

kind_itself : (k : EndKind) → same_kind k k ≡ true
kind_itself Failed = refl
kind_itself Incomplete = refl
kind_itself Bound = refl

flag_itself : (s : Bool) → same_flag s s ≡ true
flag_itself true = refl
flag_itself false = refl

-- a place is the same as itself
pub same_itself : (p : EndPlace) → same_place p p ≡ true
same_itself p =
    and_from (same_kind p.kind p.kind) (same_flag p.sited p.sited && ((p.step == p.step) && (p.at == p.at))) (kind_itself p.kind)
    (and_from (same_flag p.sited p.sited) ((p.step == p.step) && (p.at == p.at)) (flag_itself p.sited)
    (and_from (p.step == p.step) (p.at == p.at) (eq-eqb p.step p.step refl) (eq-eqb p.at p.at refl)))

kind_is : (k l : EndKind) → same_kind k l ≡ true → k ≡ l
kind_is Failed Failed e = refl
kind_is Failed Incomplete e = absurd (false≢true e)
kind_is Failed Bound e = absurd (false≢true e)
kind_is Incomplete Failed e = absurd (false≢true e)
kind_is Incomplete Incomplete e = refl
kind_is Incomplete Bound e = absurd (false≢true e)
kind_is Bound Failed e = absurd (false≢true e)
kind_is Bound Incomplete e = absurd (false≢true e)
kind_is Bound Bound e = refl

flag_is : (s t : Bool) → same_flag s t ≡ true → s ≡ t
flag_is true true e = refl
flag_is true false e = absurd (false≢true e)
flag_is false true e = absurd (false≢true e)
flag_is false false e = refl

of_parts : (p q : EndPlace) → p.kind ≡ q.kind → p.sited ≡ q.sited → p.step ≡ q.step → p.at ≡ q.at → p ≡ q
of_parts p q k s a b = λ i. record { kind = k i; sited = s i; step = a i; at = b i }

-- places that are the same are equal
pub same_is : (p q : EndPlace) → same_place p q ≡ true → p ≡ q
same_is p q e =
    let outer = and_parts (same_kind p.kind q.kind) (same_flag p.sited q.sited && ((p.step == q.step) && (p.at == q.at))) e in
    let inner = and_parts (same_flag p.sited q.sited) ((p.step == q.step) && (p.at == q.at)) outer.1 in
    let numbers = and_parts (p.step == q.step) (p.at == q.at) inner.1 in
    of_parts p q (kind_is p.kind q.kind outer.0) (flag_is p.sited q.sited inner.0) (eqb-true p.step q.step numbers.0)
    (eqb-true p.at q.at numbers.1)

-- it does not matter which of them comes first
pub same_turned : (p q : EndPlace) → same_place p q ≡ same_place q p
same_turned p q = step (same_place p q) (same_place q p) refl refl (same_is p q) (same_is q p)
  where
    step : (t u : Bool) → t ≡ same_place p q → u ≡ same_place q p → (t ≡ true → p ≡ q) → (u ≡ true → q ≡ p) → t ≡ u
    step true true a b f g = refl
    step true false a b f g = absurd (false≢true (b ∙ ap (same_place q) (f refl) ∙ same_itself q))
    step false true a b f g = absurd (false≢true (a ∙ ap (same_place p) (g refl) ∙ same_itself p))
    step false false a b f g = refl

-- Different traces that all stand in a list are no more than it has.
use Rattle.std.proofs.Common.{◌≡◌, ◌≢◌, ◌⊎◌, inl, inr, suc, ◌≤◌, List, [], ◌∷◌, length, refl, sym, ap, ◌∙◌, arith}
use Rattle.script_names.specs.declared.mark.Mark.{Mark}
use Rattle.scenario_outcomes.specs.Outcomes.{IsNone, Differ}

-- the trace is one of these
abbrev pub In : List Mark → List (List Mark) → Type 0
In trace [] = ⊥
In trace (other ∷ others) = (trace ≡ other) ⊎ In trace others

-- each of these is one of those
abbrev pub AllIn : List (List Mark) → List (List Mark) → Type 0
AllIn [] others = Unit {0}
AllIn (trace ∷ traces) others = In trace others × AllIn traces others

-- the list without a trace of it
abbrev without : (trace : List Mark) (others : List (List Mark)) → In trace others → List (List Mark)
without trace [] h = absurd h
without trace (other ∷ others) (inl e) = others
without trace (other ∷ others) (inr h) = other ∷ without trace others h

one_less : (trace : List Mark) (others : List (List Mark)) (h : In trace others) → length others ≡ suc (length (without trace others h))
one_less trace [] h = absurd h
one_less trace (other ∷ others) (inl e) = refl
one_less trace (other ∷ others) (inr h) = ap suc (one_less trace others h)

still : (trace next : List Mark) (others : List (List Mark)) (h : In trace others) → trace ≢ next → In next others → In next (without trace others h)
still trace next [] h ne k = absurd h
still trace next (other ∷ others) (inl e) ne (inl f) = absurd (ne (e ∙ sym f))
still trace next (other ∷ others) (inl e) ne (inr k) = k
still trace next (other ∷ others) (inr h) ne (inl f) = inl f
still trace next (other ∷ others) (inr h) ne (inr k) = inr (still trace next others h ne k)

all_still : (trace : List Mark) (traces others : List (List Mark)) (h : In trace others) → IsNone trace traces → AllIn traces others → AllIn traces (without trace others h)
all_still trace [] others h none all = tt
all_still trace (next ∷ traces) others h none all = (still trace next others h none.0 all.0, all_still trace traces others h none.1 all.1)

pub no_more : (traces others : List (List Mark)) → Differ traces → AllIn traces others → length traces ≤ length others
no_more [] others differ all = omega arith
no_more (trace ∷ traces) others differ all =
    let rest = no_more traces (without trace others all.0) differ.1 (all_still trace traces others all.0 differ.0 all.1) in
    let less = one_less trace others all.0 in
    omega (arith, rest, less)

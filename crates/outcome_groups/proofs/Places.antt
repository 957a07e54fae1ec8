-- The places of the outcomes that end so, and the different ends.
use Rattle.std.proofs.Common.{◌≡◌, ℕ, zero, suc, ◌+◌, ◌<◌, ◌⊎◌, inl, inr, Bool, true, false, List, [], ◌∷◌, ◌++◌, length}
use Rattle.std.proofs.Common.{Some, refl, sym, ap, subst, arith, ◌∙◌}
use Rattle.std.specs.Prelude.{not, ◌||◌, if◌then◌else◌, Contains, slice_get}
use Rattle.std.specs.List.{list_any}
use Rattle.std.proofs.lemmas.List.Folds.{list_any-append}
use Rattle.outcome_groups.specs.declared.ends.GroupEnd.{GroupEnd}
use Rattle.outcome_groups.specs.Ends.{same_end}
use Rattle.outcome_groups.specs.Groups.{with_end, different, place_if, members_from, others_from}
use Rattle.outcome_groups.proofs.SameEnds.{same_ends, end_itself}
use Rattle.tree_clauses.proofs.Orders.{contains_head, contains_tail, contains_cases, contains_nothing}
use Rattle.fact_boxes.proofs.Holding.{differ, or_true, or_false, or_left, or_right}

-- ---- places

later : (k p : ℕ) (places : List ℕ) → Contains places (suc k + p) → Contains places (k + suc p)
later k p places c = subst (λ (n : ℕ). Contains places n) (omega arith) c

if_first : (b : Bool) (k : ℕ) (places : List ℕ) → b ≡ true → Contains (place_if b k places) k
if_first true k places e = contains_head k places
if_first false k places e = cc

if_more : (b : Bool) (k n : ℕ) (places : List ℕ) → Contains places n → Contains (place_if b k places) n
if_more true k n places c = contains_tail k n places c
if_more false k n places c = c

at_first : (k : ℕ) (places : List ℕ) → Contains places k → Contains places (k + 0)
at_first k places c = subst (λ (n : ℕ). Contains places n) (omega arith) c

-- a place is among those of the outcomes that end so, or among the others
pub in_or_out : (k : ℕ) (end : GroupEnd) (ends : List GroupEnd) (p : ℕ) → p < length ends
    → Contains (members_from k end ends) (k + p) ⊎ Contains (others_from k end ends) (k + p)
in_or_out k end [] p lt = absurd (omega (arith, lt))
in_or_out k end (other ∷ ends) zero lt = step (same_end end other) refl
  where
    step : (b : Bool) → same_end end other ≡ b
        → Contains (place_if (same_end end other) k (members_from (suc k) end ends)) (k + 0)
        ⊎ Contains (place_if (not (same_end end other)) k (others_from (suc k) end ends)) (k + 0)
    step true e = inl (at_first k _ (if_first (same_end end other) k _ e))
    step false e = inr (at_first k _ (if_first (not (same_end end other)) k _ (ap not e)))
in_or_out k end (other ∷ ends) (suc p) lt = elim (in_or_out (suc k) end ends p (omega (arith, lt))) [
  | inl c ↦ inl (if_more (same_end end other) k (k + suc p) _ (later k p _ c))
  | inr c ↦ inr (if_more (not (same_end end other)) k (k + suc p) _ (later k p _ c))
]

-- the place of one that ends so is among them
pub member_in : (k : ℕ) (end : GroupEnd) (ends : List GroupEnd) (p : ℕ) → slice_get ends p ≡ Some end
    → Contains (members_from k end ends) (k + p)
member_in k end [] p e = cc
member_in k end (other ∷ ends) zero e =
    at_first k _ (if_first (same_end end other) k _ (subst (λ o. same_end end o ≡ true) (sym (some_is other end e)) (end_itself end)))
  where
    some_is : (a b : GroupEnd) → Some a ≡ Some b → a ≡ b
    some_is a b s = cc
member_in k end (other ∷ ends) (suc p) e = if_more (same_end end other) k (k + suc p) _ (later k p _ (member_in (suc k) end ends p e))

-- ---- what places have

pub record IsAt (k n : ℕ) (end : GroupEnd) (ends : List GroupEnd) : Type 0 where
  pub place : ℕ
  pub is : n ≡ k + place
  pub there : slice_get ends place ≡ Some end

one_later : (k n : ℕ) (end other : GroupEnd) (ends : List GroupEnd) → IsAt (suc k) n end ends → IsAt k n end (other ∷ ends)
one_later k n end other ends it = record { place = suc it.place; is = let i = it.is in omega (arith, i); there = it.there }

-- whatever is among them is the place of one that ends so
pub member_out : (k : ℕ) (end : GroupEnd) (ends : List GroupEnd) (n : ℕ) → Contains (members_from k end ends) n → IsAt k n end ends
member_out k end [] n c = absurd (contains_nothing n c)
member_out k end (other ∷ ends) n c = step (same_end end other) refl c (member_out (suc k) end ends n)
  where
    step : (b : Bool) → same_end end other ≡ b → Contains (place_if b k (members_from (suc k) end ends)) n
        → (Contains (members_from (suc k) end ends) n → IsAt (suc k) n end ends) → IsAt k n end (other ∷ ends)
    step true e d more = elim (contains_cases k n (members_from (suc k) end ends) d) [
      | inl same ↦ record { place = 0; is = let s = same in omega (arith, s); there = ap (λ o. Some o) (sym (same_ends end other e)) }
      | inr there ↦ one_later k n end other ends (more there)
    ]
    step false e d more = one_later k n end other ends (more d)

-- ---- different ends

-- no two of them are the same
abbrev pub Differ : List GroupEnd → Type 0
Differ [] = Unit {0}
Differ (end ∷ ends) = (list_any (same_end end) ends ≡ false) × Differ ends

turned : (a b : GroupEnd) → same_end a b ≡ false → same_end b a ≡ false
turned a b e = step (same_end b a) refl
  where
    step : (c : Bool) → same_end b a ≡ c → c ≡ false
    step true t = absurd (differ (sym (subst (λ o. same_end o b ≡ true) (same_ends b a t) (end_itself b)) ∙ e))
    step false t = refl

one_none : (end other : GroupEnd) → same_end end other ≡ false → list_any (same_end end) (other ∷ []) ≡ false
one_none end other e = ap (λ b. b || false) e

pushed : (found : List GroupEnd) (end : GroupEnd) → Differ found → list_any (same_end end) found ≡ false → Differ (found ++ end ∷ [])
pushed [] end d e = (refl, tt)
pushed (first ∷ found) end d e =
    let parts = or_false (same_end end first) (list_any (same_end end) found) e in (
      list_any-append (same_end first) found (end ∷ [])
          ∙ ap (λ b. b || list_any (same_end first) (end ∷ [])) d.0 ∙ one_none first end (turned end first parts.0),
      pushed found end d.1 parts.1,
    )

with_differs : (found : List GroupEnd) (end : GroupEnd) → Differ found → Differ (with_end found end)
with_differs found end d = step (list_any (same_end end) found) refl
  where
    step : (b : Bool) → list_any (same_end end) found ≡ b → Differ (if b then found else found ++ end ∷ [])
    step true e = d
    step false e = pushed found end d e

different_differ : (found ends : List GroupEnd) → Differ found → Differ (different found ends)
different_differ found [] d = d
different_differ found (end ∷ ends) d = different_differ (with_end found end) ends (with_differs found end d)

pub all_differ : (ends : List GroupEnd) → Differ (different [] ends)
all_differ ends = different_differ [] ends tt

-- an end is among them
abbrev pub IsAmong : GroupEnd → List GroupEnd → Type 0
IsAmong end ends = list_any (same_end end) ends ≡ true

with_keeps : (found : List GroupEnd) (end other : GroupEnd) → IsAmong other found → IsAmong other (with_end found end)
with_keeps found end other among = step (list_any (same_end end) found)
  where
    step : (b : Bool) → IsAmong other (if b then found else found ++ end ∷ [])
    step true = among
    step false = list_any-append (same_end other) found (end ∷ []) ∙ or_left (list_any (same_end other) (end ∷ [])) among

with_has : (found : List GroupEnd) (end : GroupEnd) → IsAmong end (with_end found end)
with_has found end = step (list_any (same_end end) found) refl
  where
    step : (b : Bool) → list_any (same_end end) found ≡ b → IsAmong end (if b then found else found ++ end ∷ [])
    step true e = e
    step false e = list_any-append (same_end end) found (end ∷ []) ∙ or_right (list_any (same_end end) found) (or_left false (end_itself end))

different_keeps : (found ends : List GroupEnd) (other : GroupEnd) → IsAmong other found → IsAmong other (different found ends)
different_keeps found [] other among = among
different_keeps found (end ∷ ends) other among = different_keeps (with_end found end) ends other (with_keeps found end other among)

pub different_has : (found ends : List GroupEnd) (place : ℕ) (end : GroupEnd) → slice_get ends place ≡ Some end → IsAmong end (different found ends)
different_has found [] place end e = cc
different_has found (other ∷ ends) zero end e =
    different_keeps (with_end found other) ends end (subst (λ o. IsAmong end (with_end found o)) (sym (some_is other end e)) (with_has found end))
  where
    some_is : (a b : GroupEnd) → Some a ≡ Some b → a ≡ b
    some_is a b s = cc
different_has found (other ∷ ends) (suc place) end e = different_has (with_end found other) ends place end e

-- ---- the place of an end among different ones

pub record Stands (end : GroupEnd) (ends : List GroupEnd) : Type 0 where
  pub place : ℕ
  pub there : slice_get ends place ≡ Some end

pub stands : (end : GroupEnd) (ends : List GroupEnd) → IsAmong end ends → Stands end ends
stands end [] among = cc
stands end (other ∷ ends) among = elim (or_true (same_end end other) (list_any (same_end end) ends) among) [
  | inl same ↦ record { place = 0; there = ap (λ o. Some o) (sym (same_ends end other same)) }
  | inr more ↦ record { place = suc (stands end ends more).place; there = (stands end ends more).there }
]

among_at : (end : GroupEnd) (ends : List GroupEnd) (place : ℕ) → slice_get ends place ≡ Some end → IsAmong end ends
among_at end [] place e = cc
among_at end (other ∷ ends) zero e = or_left (list_any (same_end end) ends) (subst (λ o. same_end end o ≡ true) (sym (some_is other end e)) (end_itself end))
  where
    some_is : (a b : GroupEnd) → Some a ≡ Some b → a ≡ b
    some_is a b s = cc
among_at end (other ∷ ends) (suc place) e = or_right (same_end end other) (among_at end ends place e)

-- an end stands at one place alone
pub alone : (end : GroupEnd) (ends : List GroupEnd) (i j : ℕ) → Differ ends → slice_get ends i ≡ Some end → slice_get ends j ≡ Some end → i ≡ j
alone end [] i j d p q = cc
alone end (other ∷ ends) zero zero d p q = refl
alone end (other ∷ ends) zero (suc j) d p q =
    absurd (differ (sym (subst (λ o. IsAmong o ends) (sym (some_is other end p)) (among_at end ends j q)) ∙ d.0))
  where
    some_is : (a b : GroupEnd) → Some a ≡ Some b → a ≡ b
    some_is a b s = cc
alone end (other ∷ ends) (suc i) zero d p q =
    absurd (differ (sym (subst (λ o. IsAmong o ends) (sym (some_is other end q)) (among_at end ends i p)) ∙ d.0))
  where
    some_is : (a b : GroupEnd) → Some a ≡ Some b → a ≡ b
    some_is a b s = cc
alone end (other ∷ ends) (suc i) (suc j) d p q = ap suc (alone end ends i j d.1 p q)

-- Links on the way to a path: at most one, and where `link_on_way` counts it; and directories above a path.
use Rattle.std.proofs.Common.{◌≡◌, ◌≢◌, ℕ, zero, suc, ◌+◌, ◌<◌, ◌≤◌, ◌⊎◌, inl, inr, false, Option, Some, None, List, [], ◌∷◌, length, take, refl, sym, ap, subst, ◌∙◌, arith}
use Rattle.feature_trees.specs.declared.value.Value.{Value}
use Rattle.feature_trees.specs.declared.value.Value.TheVariants as value
use Rattle.feature_trees.specs.declared.kind.Kind.{Kind}
use Rattle.feature_trees.specs.declared.kind.Kind.TheVariants.{Absent, Reg, Link, Special, Dir}
use Rattle.feature_trees.specs.Tree.{entry, at, kind_of, has_parents}
use Rattle.utility_calls.specs.Ways.{link_on_way, at_link, in_dir, kind_at}

-- whether a kind is a link
pub link_or_not : (k : Kind) → (k ≡ Link) ⊎ (k ≢ Link)
link_or_not Absent = inr (λ e. absurd (cc))
link_or_not Reg = inr (λ e. absurd (cc))
link_or_not Link = inl refl
link_or_not (Special s) = inr (λ e. absurd (cc))
link_or_not Dir = inr (λ e. absurd (cc))

-- below what is absent nothing stands
pub at_absent : (p : List (List ℕ)) → at value.Absent p ≡ value.Absent
at_absent [] = refl
at_absent (f ∷ p) = at_absent p

-- nor below a link
entry_link : (v : Value) (f : List ℕ) → kind_of v ≡ Link → entry v f ≡ value.Absent
entry_link value.Absent f e = refl
entry_link value.Reg f e = refl
entry_link (value.Link b) f e = refl
entry_link (value.Special s) f e = refl
entry_link (value.Dir es) f e = absurd (cc)

pub below_link : (v : Value) (f : List ℕ) (p : List (List ℕ)) → kind_of v ≡ Link → kind_of (at v (f ∷ p)) ≡ Absent
below_link v f p e = ap kind_of (ap (λ (x : Value). at x p) (entry_link v f e) ∙ at_absent p)

pub at_link_here : (k : Kind) (n : ℕ) (later : Option ℕ) → k ≡ Link → at_link k n later ≡ Some n
at_link_here k n later e = ap (λ (x : Kind). at_link x n later) e

pub at_link_later : (k : Kind) (n : ℕ) (later : Option ℕ) → k ≢ Link → at_link k n later ≡ later
at_link_later Absent n later ne = refl
at_link_later Reg n later ne = refl
at_link_later Link n later ne = absurd (ne refl)
at_link_later (Special s) n later ne = refl
at_link_later Dir n later ne = refl

-- a link at the first k names of a strict prefix is the one that is counted
pub counted : (names : List (List ℕ)) (v : Value) (c k : ℕ) → 1 ≤ k → k < length names → kind_at v names k ≡ Link → link_on_way c v names ≡ Some (c + k)
counted [] v c k low high e = absurd (omega arith)
counted (f ∷ []) v c k low high e = absurd (omega arith)
counted (f ∷ g ∷ rest) v c zero low high e = absurd (omega arith)
counted (f ∷ g ∷ rest) v c (suc zero) low high e = at_link_here (kind_of (entry v f)) (suc c) _ e ∙ ap Some (omega arith)
counted (f ∷ g ∷ rest) v c (suc (suc k)) low high e = elim (link_or_not (kind_of (entry v f))) [
  | inl is ↦ absurd (let a : kind_of (at (entry v f) (g ∷ take k rest)) ≡ Absent = below_link (entry v f) g (take k rest) is in let b : Absent ≡ Link = sym a ∙ e in cc)
  | inr ne ↦ at_link_later (kind_of (entry v f)) (suc c) _ ne ∙ counted (g ∷ rest) (entry v f) (suc c) (suc k) (omega arith) (omega arith) e ∙ ap Some (omega arith)
]

-- what is counted is a link at a strict prefix
pub record IsFirstLink (names : List (List ℕ)) (v : Value) (c n : ℕ) : Type 0 where
  pub k : ℕ
  pub low : 1 ≤ k
  pub high : k < length names
  pub link : kind_at v names k ≡ Link
  pub is : n ≡ c + k

-- where a link is counted it stands there; else there is none
abbrev pub Found : List (List ℕ) → Value → ℕ → Option ℕ → Type 0
Found names v c None = (k : ℕ) → 1 ≤ k → k < length names → kind_at v names k ≢ Link
Found names v c (Some n) = IsFirstLink names v c n

found_later : (f g : List ℕ) (rest : List (List ℕ)) (v : Value) (c : ℕ) (o : Option ℕ) → kind_of (entry v f) ≢ Link → Found (g ∷ rest) (entry v f) (suc c) o → Found (f ∷ g ∷ rest) v c o
found_later f g rest v c None ne h = absent
  where
    absent : (k : ℕ) → 1 ≤ k → k < length (f ∷ g ∷ rest) → kind_at v (f ∷ g ∷ rest) k ≢ Link
    absent zero low high e = omega arith
    absent (suc zero) low high e = ne e
    absent (suc (suc k)) low high e = h (suc k) (omega arith) (omega arith) e
found_later f g rest v c (Some n) ne h = record { k = suc h.k; low = omega arith; high = omega (arith, h.high); link = h.link; is = omega (arith, h.is) }

pub found : (names : List (List ℕ)) (v : Value) (c : ℕ) → Found names v c (link_on_way c v names)
found [] v c = λ k low high e. omega arith
found (f ∷ []) v c = λ k low high e. omega arith
found (f ∷ g ∷ rest) v c = elim (link_or_not (kind_of (entry v f))) [
  | inl is ↦ subst (Found (f ∷ g ∷ rest) v c) (sym (at_link_here (kind_of (entry v f)) (suc c) _ is)) (record { k = 1; low = omega arith; high = omega arith; link = is; is = omega arith })
  | inr ne ↦ subst (Found (f ∷ g ∷ rest) v c) (sym (at_link_later (kind_of (entry v f)) (suc c) _ ne)) (found_later f g rest v c _ ne (found (g ∷ rest) (entry v f) (suc c)))
]

-- ---- directories above a path

pub nothing_within : (p : List (List ℕ)) → in_dir value.Absent p ≡ false
nothing_within [] = refl
nothing_within (f ∷ []) = refl
nothing_within (f ∷ g ∷ rest) = nothing_within (g ∷ rest)

pub parents : (v : Value) (f : List ℕ) (p : List (List ℕ)) → in_dir v (f ∷ p) ≡ has_parents v (f ∷ p)
parents value.Absent f [] = refl
parents value.Reg f [] = refl
parents (value.Link b) f [] = refl
parents (value.Special s) f [] = refl
parents (value.Dir es) f [] = refl
parents value.Absent f (g ∷ p) = nothing_within (g ∷ p)
parents value.Reg f (g ∷ p) = nothing_within (g ∷ p)
parents (value.Link b) f (g ∷ p) = nothing_within (g ∷ p)
parents (value.Special s) f (g ∷ p) = nothing_within (g ∷ p)
parents (value.Dir es) f (g ∷ p) = parents (entry (value.Dir es) f) g p

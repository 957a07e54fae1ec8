-- Lists that begin others.
use Rattle.std.proofs.Common.{◌≡◌, ◌↔◌, subst, Some, false, length-append, ℕ, zero, suc, ◌<◌, List, [], ◌∷◌, ◌++◌, length, take, refl, ap, sym, ◌∙◌, arith}
use Rattle.std.proofs.lemmas.List.{take_at}
use Rattle.script_names.specs.Paths.{PathParts, IsStrictPrefix, parent_of_names}
use Rattle.script_names.specs.Laws.{ParentOfJoin, ParentBegins, JoinIsLonger}

-- a list before and from a place
cut_at : (xs : List (List ℕ)) (n : ℕ) → n < length xs → IsStrictPrefix (take n xs) xs
cut_at [] n lt = absurd (omega arith)
cut_at (x ∷ xs) zero lt = (x, xs, refl)
cut_at (x ∷ xs) (suc n) lt =
    let rest : IsStrictPrefix (take n xs) xs = cut_at xs n (omega arith) in
    (rest.0, rest.1, ap (λ (l : List (List ℕ)). x ∷ l) rest.2)

-- names begin more names
pub strict_prefix : (names longer : List (List ℕ)) → length names < length longer → (take (length names) longer ≡ names) ↔ IsStrictPrefix names longer
strict_prefix names longer lt = (
  λ e. subst (λ (n : List (List ℕ)). IsStrictPrefix n longer) e (cut_at longer (length names) lt),
  λ p. ap (take (length names)) (sym p.2) ∙ take_at names (p.0 ∷ p.1) (length names) refl,
)

-- all names but the last of names and one more
parent_of_more : (names : List (List ℕ)) (name : List ℕ) → parent_of_names (names ++ name ∷ []) ≡ Some (record { names = names; slash = false })
parent_of_more [] name = refl
parent_of_more (n ∷ names) name =
    ap (λ (l : List (List ℕ)). Some (record { names = l; slash = false }))
    (take_at (n ∷ names) (name ∷ []) (length (names ++ name ∷ [])) (omega (arith, length-append names (name ∷ []))))

pub parent_of_join : ParentOfJoin
parent_of_join path name = parent_of_more path.names name

parent_names_begin : (names : List (List ℕ)) (parent : PathParts) → parent_of_names names ≡ Some parent → IsStrictPrefix parent.names names
parent_names_begin [] parent e = cc
parent_names_begin (n ∷ names) parent e =
    let same : record { names = take (length names) (n ∷ names); slash = false } ≡ parent = cc in
    subst (λ (p : PathParts). IsStrictPrefix p.names (n ∷ names)) same (cut_at (n ∷ names) (length names) (omega arith))

pub parent_begins : ParentBegins
parent_begins path parent e = parent_names_begin path.names parent e

pub join_is_longer : JoinIsLonger
join_is_longer path name = (name, [], refl)

-- Names that are read one behind another.
use Rattle.std.proofs.Common.{◌≡◌, ℕ, Bool, true, false, ◌&&◌, List, [], ◌∷◌, ◌++◌, Option, Some, None, refl, sym, ap, ◌∙◌, append_assoc, append-nil, if◌then◌else◌}
use Rattle.std.specs.List.{list_all}
use Rattle.script_names.specs.Names.{is_name}
use Rattle.link_walks.specs.Links.{if_names}

-- parts behind names, where each is a name
abbrev pub onto : List (List ℕ) → List (List ℕ) → Option (List (List ℕ))
onto names [] = Some names
onto names (part ∷ parts) = if is_name part then onto (names ++ part ∷ []) parts else None

all_onto : (names parts : List (List ℕ))
    → onto names parts ≡ (if list_all is_name parts then Some (names ++ parts) else None)
all_onto names [] = ap (λ l. Some l) (sym (append-nil names))
all_onto names (part ∷ parts) =
    by (is_name part) (list_all is_name parts) (all_onto (names ++ part ∷ []) parts)
  where
    by : (a b : Bool)
        → onto (names ++ part ∷ []) parts ≡ (if b then Some ((names ++ part ∷ []) ++ parts) else None)
        → (if a then onto (names ++ part ∷ []) parts else None)
        ≡ (if a && b then Some (names ++ part ∷ parts) else None)
    by true true h = h ∙ ap (λ l. Some l) (append_assoc names (part ∷ []) parts)
    by true false h = h
    by false b h = refl

pub onto_none : (parts : List (List ℕ)) → onto [] parts ≡ if_names parts
onto_none parts = all_onto [] parts

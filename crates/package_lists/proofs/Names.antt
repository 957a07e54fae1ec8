-- Parts of which each is to be a name.
use Rattle.std.proofs.Common.{◌≡◌, ℕ, zero, suc, ◌<◌, Bool, true, false, List, [], ◌∷◌, ◌++◌, length, get_or, map, None, Some, Bor, refl, ap, ◌∙◌, arith}
use Rattle.std.specs.Prelude.{◌&&◌, nat_lt, nat_le, if◌then◌else◌}
use Rattle.std.specs.List.{list_all}
use Rattle.script_names.specs.Names.{is_name}
use Rattle.script_names.specs.declared.path.TheConstants.{MAX_NAMES}
use Rattle.package_lists.specs.Paths.{if_names}

abbrev texts : List (Bor (List ℕ)) → List (List ℕ)
texts xs = map (λ part. part.now) xs

all_append : (xs ys : List (List ℕ)) → list_all is_name (xs ++ ys) ≡ (list_all is_name xs && list_all is_name ys)
all_append [] ys = refl
all_append (x ∷ xs) ys = ap (λ b. is_name x && b) (all_append xs ys) ∙ assoc (is_name x) (list_all is_name xs) (list_all is_name ys)
  where
    assoc : (a b c : Bool) → (a && (b && c)) ≡ ((a && b) && c)
    assoc true b c = refl
    assoc false b c = refl

-- a part at a place that is no name
pub no_names : (xs : List (Bor (List ℕ))) (i : ℕ) (d : Bor (List ℕ)) → i < length xs → is_name (get_or xs i d).now ≡ false → if_names (texts xs) ≡ None
no_names xs i d lt bad = last (nat_lt 0 (length (texts xs))) (nat_le (length (texts xs)) MAX_NAMES) (list_all is_name (texts xs)) (fails xs i lt bad)
  where
    fails : (xs : List (Bor (List ℕ))) (i : ℕ) → i < length xs → is_name (get_or xs i d).now ≡ false → list_all is_name (texts xs) ≡ false
    fails [] i lt bad = absurd (omega (arith, lt))
    fails (x ∷ xs) zero lt bad = ap (λ b. b && list_all is_name (texts xs)) bad
    fails (x ∷ xs) (suc i) lt bad = ap (λ b. is_name x.now && b) (fails xs i (omega (arith, lt)) bad) ∙ false_last (is_name x.now)
      where
        false_last : (b : Bool) → (b && false) ≡ false
        false_last true = refl
        false_last false = refl

    last : (a b c : Bool) → c ≡ false → (if (a && b && c) then Some (texts xs) else None) ≡ None
    last true true c e = ap (λ b. if b then Some (texts xs) else None) e
    last true false c e = refl
    last false b c e = refl

-- A path's names, written again.
use Rattle.std.proofs.Common.{◌≡◌, ℕ, Bool, true, false, List, [], ◌∷◌, ◌++◌, length, Some, None, refl, sym, ap, ◌∙◌}
use Rattle.std.specs.Prelude.{◌==◌, ◌&&◌, nat_lt, nat_le, if◌then◌else◌}
use Rattle.std.specs.List.{join_with_byte, list_all}
use Rattle.std.proofs.lemmas.List.{append-nil}
use Rattle.std.proofs.lemmas.List.Splits.{join_with_byte-slice_split}
use Rattle.std.proofs.lemmas.Bool.{eqb-true}
use Rattle.script_names.specs.Names.{is_name}
use Rattle.script_names.specs.declared.path.TheConstants.{MAX_NAMES}
use Rattle.shown_texts.specs.Parts.{parts}
use Rattle.package_lists.specs.Laws.{WritesBack}
use Rattle.package_lists.specs.Paths.{if_names, path_text}

joined : (name : List ℕ) (names : List (List ℕ)) → path_text (name ∷ names) ≡ 47 ∷ join_with_byte 47 (name ∷ names)
joined name [] = append-nil (47 ∷ name)
joined name (next ∷ names) = ap (λ l. (47 ∷ name) ++ l) (joined next names)

same : (ps qs : List (List ℕ)) (b : Bool) → (if b then Some ps else None) ≡ Some qs → ps ≡ qs
same ps qs true e = cc
same ps qs false e = cc

-- the parts of a text between slashes, where they are names
parts_written : (ps names : List (List ℕ)) (rest : List ℕ) → parts 47 rest ≡ ps → if_names ps ≡ Some names → path_text names ≡ 47 ∷ rest
parts_written [] names rest cut e = cc
parts_written (p ∷ ps) names rest cut e =
    ap path_text (sym (same (p ∷ ps) names (nat_lt 0 (length (p ∷ ps)) && nat_le (length (p ∷ ps)) MAX_NAMES && list_all is_name (p ∷ ps)) e))
    ∙ joined p ps ∙ ap (λ l. 47 ∷ join_with_byte 47 l) (sym cut) ∙ ap (λ l. 47 ∷ l) (join_with_byte-slice_split 47 rest)

pub writes_back : WritesBack
writes_back [] names e = cc
writes_back (b ∷ rest) names e = step (b == 47) refl e
  where
    step : (t : Bool) → (b == 47) ≡ t → (if t then if_names (parts 47 rest) else None) ≡ Some names → path_text names ≡ b ∷ rest
    step true d e = parts_written (parts 47 rest) names rest refl e ∙ ap (λ c. c ∷ rest) (sym (eqb-true b 47 d))
    step false d e = cc

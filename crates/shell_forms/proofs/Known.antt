-- What is known of functions after some definitions, and after more.
use Rattle.std.proofs.Common.{◌≡◌, ℕ, ◌+◌, ◌<◌, ◌≤◌, if◌then◌else◌, List, [], ◌∷◌, ◌++◌, length, take, map, get_or, Option, Some, None, min, refl, sym, ap, ◌∙◌, arith, add-one}
use Rattle.std.proofs.Math.Seq.{take-suc}
use Rattle.std.proofs.lemmas.List.{append-nil, map-append, take_all}
use Rattle.std.proofs.lemmas.Grind.{flat_map-append}
use Rattle.std.specs.Str.{bytes_eq}
use Rattle.shell_forms.specs.Names.{Text}
use Rattle.shell_forms.specs.Functions.{Definitions, of_all, first_of, lesser}

-- nothing is no lesser
pub lesser-none : (o : Option ℕ) → lesser o None ≡ o
lesser-none None = refl
lesser-none (Some x) = refl

min-assoc : (x y z : ℕ) → min (min x y) z ≡ min x (min y z)
min-assoc x y z = omega arith

pub lesser-assoc : (a b c : Option ℕ) → lesser (lesser a b) c ≡ lesser a (lesser b c)
lesser-assoc None b c = refl
lesser-assoc (Some x) None c = refl
lesser-assoc (Some x) (Some y) None = refl
lesser-assoc (Some x) (Some y) (Some z) = ap Some (min-assoc x y z)

pub lesser-swap : (a b : Option ℕ) → lesser a b ≡ lesser b a
lesser-swap None None = refl
lesser-swap None (Some y) = refl
lesser-swap (Some x) None = refl
lesser-swap (Some x) (Some y) = ap Some (omega arith)

-- the first definition of a name is in the one list or in the other
pub first_of-append : (ds es : Definitions) (name : Text) → first_of (ds ++ es) name ≡ lesser (first_of ds name) (first_of es name)
first_of-append [] es name = refl
first_of-append (d ∷ ds) es name =
    ap (lesser (if bytes_eq d.0 name then Some d.1 else None)) (first_of-append ds es name)
    ∙ sym (lesser-assoc (if bytes_eq d.0 name then Some d.1 else None) (first_of ds name) (first_of es name))

-- the offsets of first definitions after these definitions, and those before
abbrev pub Adds : (Text → Option ℕ) → (Text → Option ℕ) → Definitions → Type 0
Adds old new ds = (name : Text) → new name ≡ lesser (old name) (first_of ds name)

pub adds_none : (a : Text → Option ℕ) → Adds a a []
adds_none a name = sym (lesser-none _)

-- definitions after others
pub adds_both : (a b c : Text → Option ℕ) (ds es all : Definitions) → all ≡ ds ++ es → Adds a b ds → Adds b c es → Adds a c all
adds_both a b c ds es all is before behind name =
    behind name ∙ ap (λ o. lesser o (first_of es name)) (before name) ∙ lesser-assoc _ (first_of ds name) (first_of es name)
    ∙ ap (lesser _) (sym (first_of-append ds es name) ∙ ap (λ l. first_of l name) (sym is))

-- the same definitions, otherwise written
pub adds_same : (a b : Text → Option ℕ) (ds all : Definitions) → all ≡ ds → Adds a b ds → Adds a b all
adds_same a b ds all is adds name = adds name ∙ ap (λ l. lesser (a name) (first_of l name)) (sym is)

-- a loop over parts, one part further on
module _ {A : Type 0} (g : A → Definitions) where
  pub of_taken : (xs : List A) (i : ℕ) (x : A) → i < length xs → x ≡ get_or xs i x
      → of_all (map g (take (i + 1) xs)) ≡ of_all (map g (take i xs)) ++ g x
  of_taken xs i x lt is =
      ap (λ n. of_all (map g (take n xs))) (add-one i) ∙ ap (λ ys. of_all (map g ys)) (take-suc xs i x lt)
      ∙ ap of_all (map-append g (take i xs) (get_or xs i x ∷ []))
      ∙ flat_map-append (λ part. part) (map g (take i xs)) (g (get_or xs i x) ∷ [])
      ∙ ap (λ l. of_all (map g (take i xs)) ++ l) (append-nil (g (get_or xs i x)) ∙ ap g (sym is))

  pub adds_more : (a b c : Text → Option ℕ) (xs : List A) (i : ℕ) (x : A) → i < length xs → x ≡ get_or xs i x
      → Adds a b (of_all (map g (take i xs))) → Adds b c (g x) → Adds a c (of_all (map g (take (i + 1) xs)))
  adds_more a b c xs i x lt is before here = adds_both a b c (of_all (map g (take i xs))) (g x) _ (of_taken xs i x lt is) before here

  -- at its end
  pub adds_all : (a b : Text → Option ℕ) (xs : List A) (i : ℕ) → length xs ≤ i → Adds a b (of_all (map g (take i xs))) → Adds a b (of_all (map g xs))
  adds_all a b xs i end adds = adds_same a b _ _ (ap (λ ys. of_all (map g ys)) (sym (take_all i xs end))) adds

-- the same parts, under another name
pub adds_of : {A : Type 0} (g : A → Definitions) (a b : Text → Option ℕ) (xs ys : List A) → xs ≡ ys → Adds a b (of_all (map g xs)) → Adds a b (of_all (map g ys))
adds_of g a b xs ys is adds = adds_same a b _ _ (ap (λ zs. of_all (map g zs)) (sym is)) adds

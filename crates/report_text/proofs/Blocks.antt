-- Texts one behind another: where the first of them ends.
use Rattle.std.proofs.Common.{◌≡◌, ℕ, Bool, true, false, List, [], ◌∷◌, ◌++◌, map, Option, Some, refl, sym, ap, ◌∙◌, append_assoc}
use Rattle.std.specs.Prelude.{not, ◌==◌, ◌&&◌}
use Rattle.std.specs.List.{list_all}
use Rattle.std.proofs.lemmas.Bool.{and_parts}
use Rattle.shown_texts.specs.Lines.{line, lines_text}
use Rattle.shown_texts.specs.Parts.{lacks}

clash : {A : Type 0} (b : Bool) → b ≡ true → not b ≡ true → A
clash true e f = cc
clash false e f = cc

pub wrong : {A : Type 0} (b : Bool) → b ≡ true → b ≡ false → A
wrong b e f = cc

pub same_behind : (xs ys zs : List ℕ) → xs ++ ys ≡ xs ++ zs → ys ≡ zs
same_behind [] ys zs e = e
same_behind (x ∷ xs) ys zs e = let rest : xs ++ ys ≡ xs ++ zs = cc in same_behind xs ys zs rest

-- the first of them, if there is one, does not pass the test
abbrev pub stops : {X : Type 0} → (X → Bool) → List X → Bool
stops p [] = true
stops p (x ∷ xs) = not (p x)

-- lists whose items pass a test, before others of which the first does not
pub front_apart : {X : Type 0} (p : X → Bool) (xs ys s t : List X) → list_all p xs ≡ true → list_all p ys ≡ true → stops p s ≡ true → stops p t ≡ true
    → xs ++ s ≡ ys ++ t → (xs ≡ ys) × (s ≡ t)
front_apart p [] [] s t h g a b e = (refl, e)
front_apart p [] (y ∷ ys) s t h g a b e = clash (p y) (and_parts (p y) (list_all p ys) g).0 (ap (stops p) (sym e) ∙ a)
front_apart p (x ∷ xs) [] s t h g a b e = clash (p x) (and_parts (p x) (list_all p xs) h).0 (ap (stops p) e ∙ b)
front_apart p (x ∷ xs) (y ∷ ys) s t h g a b e =
    let first : x ≡ y = cc in
    let rest : xs ++ s ≡ ys ++ t = cc in
    let more = front_apart p xs ys s t (and_parts (p x) (list_all p xs) h).1 (and_parts (p y) (list_all p ys) g).1 a b rest in
    (λ i. first i ∷ more.0 i, more.1)

-- lines before others
pub line_apart : (l m s t : List ℕ) → lacks 10 l ≡ true → lacks 10 m ≡ true → line l ++ s ≡ line m ++ t → (l ≡ m) × (s ≡ t)
line_apart l m s t h g e =
    let both = front_apart (λ b. not (b == 10)) l m (10 ∷ s) (10 ∷ t) h g refl refl
    (sym (append_assoc l (10 ∷ []) s) ∙ e ∙ append_assoc m (10 ∷ []) t) in
    let rest : s ≡ t = let k = both.1 in cc in
    (both.0, rest)

-- the second byte passes a test
abbrev pub second : (ℕ → Bool) → List ℕ → Bool
second p [] = false
second p (a ∷ []) = false
second p (a ∷ b ∷ text) = p b

second_more : (p : ℕ → Bool) (xs ys : List ℕ) → second p xs ≡ true → second p (xs ++ ys) ≡ true
second_more p [] ys h = cc
second_more p (a ∷ []) ys h = cc
second_more p (a ∷ b ∷ text) ys h = h

-- a line whose second byte passes a test
abbrev pub is_marked : (ℕ → Bool) → List ℕ → Bool
is_marked p l = lacks 10 l && second p l

-- Lines whose second byte passes a test, before a text whose second byte does not.
pub lines_apart : (p : ℕ → Bool) (ls ms : List (List ℕ)) (s t : List ℕ) → list_all (is_marked p) ls ≡ true → list_all (is_marked p) ms ≡ true
    → second p s ≡ false → second p t ≡ false → lines_text ls ++ s ≡ lines_text ms ++ t → (ls ≡ ms) × (s ≡ t)
lines_apart p [] [] s t h g a b e = (refl, e)
lines_apart p [] (m ∷ ms) s t h g a b e =
    let k = and_parts (is_marked p m) (list_all (is_marked p) ms) g in
    let r = and_parts (lacks 10 m) (second p m) k.0 in
    wrong (second p s) (ap (second p) (e ∙ append_assoc (line m) (lines_text ms) t ∙ append_assoc m (10 ∷ []) (lines_text ms ++ t)) ∙ second_more p m _ r.1) a
lines_apart p (l ∷ ls) [] s t h g a b e =
    let k = and_parts (is_marked p l) (list_all (is_marked p) ls) h in
    let r = and_parts (lacks 10 l) (second p l) k.0 in
    wrong (second p t) (ap (second p) (sym e ∙ append_assoc (line l) (lines_text ls) s ∙ append_assoc l (10 ∷ []) (lines_text ls ++ s)) ∙ second_more p l _ r.1) b
lines_apart p (l ∷ ls) (m ∷ ms) s t h g a b e =
    let k = and_parts (is_marked p l) (list_all (is_marked p) ls) h in
    let r = and_parts (is_marked p m) (list_all (is_marked p) ms) g in
    let one = line_apart l m (lines_text ls ++ s) (lines_text ms ++ t) (and_parts (lacks 10 l) (second p l) k.0).0 (and_parts (lacks 10 m) (second p m) r.0).0
    (sym (append_assoc (line l) (lines_text ls) s) ∙ e ∙ append_assoc (line m) (lines_text ms) t) in
    let more = lines_apart p ls ms s t k.1 r.1 a b one.1 in
    (λ i. one.0 i ∷ more.0 i, more.1)

some_same : {X : Type 0} (o : Option X) (x y : X) → o ≡ Some x → o ≡ Some y → x ≡ y
some_same o x y e f = cc

-- what is read back is told apart
pub read_apart : {X : Type 0} (text_of : X → List ℕ) (read : List ℕ → Option X) (x y : X) → read (text_of x) ≡ Some x → read (text_of y) ≡ Some y
    → text_of x ≡ text_of y → x ≡ y
read_apart text_of read x y e f same = some_same (read (text_of x)) x y e (ap read same ∙ f)

-- and so are lists of it
pub each_apart : {X : Type 0} (text_of : X → List ℕ) (read : List ℕ → Option X) (is : X → Bool) → ((x : X) → is x ≡ true → read (text_of x) ≡ Some x)
    → (xs ys : List X) → list_all is xs ≡ true → list_all is ys ≡ true → map text_of xs ≡ map text_of ys → xs ≡ ys
each_apart text_of read is back [] [] h g e = refl
each_apart text_of read is back [] (y ∷ ys) h g e = cc
each_apart text_of read is back (x ∷ xs) [] h g e = cc
each_apart text_of read is back (x ∷ xs) (y ∷ ys) h g e =
    let k = and_parts (is x) (list_all is xs) h in
    let r = and_parts (is y) (list_all is ys) g in
    let head : text_of x ≡ text_of y = cc in
    let tail : map text_of xs ≡ map text_of ys = cc in
    let first = read_apart text_of read x y (back x k.0) (back y r.0) head in
    let rest = each_apart text_of read is back xs ys k.1 r.1 tail in
    λ i. first i ∷ rest i

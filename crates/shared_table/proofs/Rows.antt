-- The children of one node against their items: where a place of the items lies, and what a change there leaves.
use Rattle.std.proofs.Common.{◌≡◌, ℕ, zero, suc, ◌+◌, ◌*◌, ◌<◌, ◌≤◌, List, [], ◌∷◌, ◌++◌, length, get_or, set, slice_get, Option, None, Some, refl, sym, ap, ◌∙◌, arith, length-append, ⊎_elim, max, append-nil}
use Rattle.std.proofs.Math.Nat.{zero-mul, suc-mul}
use Rattle.std.proofs.lemmas.Bool.{cases_lt}
use Rattle.shared_table.specs.Children.{with_item, joined, IsFilled, IsRow}

module _ {A : Type 0} where
  pub length-put : (xs : List A) (i : ℕ) (v : A) → i < length xs → length (with_item xs i v) ≡ length xs
  length-put [] i v h = omega arith
  length-put (x ∷ xs) zero v h = refl
  length-put (x ∷ xs) (suc i) v h = ap suc (length-put xs i v (omega arith))

  pub put_length : (xs : List A) (i : ℕ) (v : A) → i ≤ length xs → length (with_item xs i v) ≡ max (length xs) (i + 1)
  put_length [] i v h = omega arith
  put_length (x ∷ xs) zero v h = omega arith
  put_length (x ∷ xs) (suc i) v h = omega (arith, put_length xs i v (omega arith))

  pub put_end : (xs : List A) (i : ℕ) (v : A) → i ≡ length xs → with_item xs i v ≡ xs ++ v ∷ []
  put_end [] i v h = refl
  put_end (x ∷ xs) zero v h = absurd (omega arith)
  put_end (x ∷ xs) (suc i) v h = ap (λ ys. x ∷ ys) (put_end xs i v (omega arith))

  pub put_set : (xs : List A) (i : ℕ) (v : A) → i < length xs → with_item xs i v ≡ set xs i v
  put_set [] i v h = absurd (omega arith)
  put_set (x ∷ xs) zero v h = refl
  put_set (x ∷ xs) (suc i) v h = ap (λ ys. x ∷ ys) (put_set xs i v (omega arith))

  pub put_left : (xs ys : List A) (i : ℕ) (v : A) → i < length xs → with_item (xs ++ ys) i v ≡ with_item xs i v ++ ys
  put_left [] ys i v h = absurd (omega arith)
  put_left (x ∷ xs) ys zero v h = refl
  put_left (x ∷ xs) ys (suc i) v h = ap (λ zs. x ∷ zs) (put_left xs ys i v (omega arith))

  pub put_right : (xs ys : List A) (i j : ℕ) (v : A) → i ≡ length xs + j → with_item (xs ++ ys) i v ≡ xs ++ with_item ys j v
  put_right [] ys i j v h = ap (λ n. with_item ys n v) (omega arith)
  put_right (x ∷ xs) ys zero j v h = absurd (omega arith)
  put_right (x ∷ xs) ys (suc i) j v h = ap (λ zs. x ∷ zs) (put_right xs ys i j v (omega arith))

  pub get_left : (xs ys : List A) (i : ℕ) → i < length xs → slice_get (xs ++ ys) i ≡ slice_get xs i
  get_left [] ys i h = absurd (omega arith)
  get_left (x ∷ xs) ys zero h = refl
  get_left (x ∷ xs) ys (suc i) h = get_left xs ys i (omega arith)

  pub get_right : (xs ys : List A) (i j : ℕ) → i ≡ length xs + j → slice_get (xs ++ ys) i ≡ slice_get ys j
  get_right [] ys i j h = ap (slice_get ys) (omega arith)
  get_right (x ∷ xs) ys zero j h = absurd (omega arith)
  get_right (x ∷ xs) ys (suc i) j h = get_right xs ys i j (omega arith)

  pub get_past : (xs : List A) (i : ℕ) → length xs ≤ i → slice_get xs i ≡ None
  get_past [] i h = refl
  get_past (x ∷ xs) zero h = absurd (omega arith)
  get_past (x ∷ xs) (suc i) h = get_past xs i (omega arith)

  -- what a child that may be there has at a place
  abbrev pub in_child : Option (ℕ × List A) → ℕ → Option A
  in_child None r = None
  in_child (Some k) r = slice_get k.1 r

  pub get_in_row : (h w q r i : ℕ) (children : List (ℕ × List A)) → r < w → i ≡ q * w + r → IsRow h w children → slice_get (joined children) i ≡ in_child (slice_get children q) r
  get_in_row h w q r i [] b e s = refl
  get_in_row h w zero r i (k ∷ []) b e s =
      let same : i ≡ r = omega (arith, zero-mul w) in
      ⊎_elim (λ (l : r < length k.1). get_left k.1 [] i (omega arith) ∙ ap (slice_get k.1) same)
      (λ (l : length k.1 ≤ r). get_past (k.1 ++ []) i (omega (arith, length-append k.1 [])) ∙ sym (get_past k.1 r l)) (cases_lt r (length k.1))
  get_in_row h w zero r i (k ∷ k' ∷ children) b e s =
      let same : i ≡ r = omega (arith, zero-mul w) in get_left k.1 (joined (k' ∷ children)) i (omega (arith, s.1)) ∙ ap (slice_get k.1) same
  get_in_row h w (suc q) r i (k ∷ []) b e s = get_past (k.1 ++ []) i (omega (arith, length-append k.1 [], suc-mul q w, s.1))
  get_in_row h w (suc q) r i (k ∷ k' ∷ children) b e s =
      get_right k.1 (joined (k' ∷ children)) i (q * w + r) (omega (arith, suc-mul q w, s.1)) ∙ get_in_row h w q r (q * w + r) (k' ∷ children) b refl s.2

  filled_set : (w : ℕ) (k k' : ℕ × List A) (children : List (ℕ × List A)) (q : ℕ) (x : ℕ × List A) → length k.1 ≡ w → IsFilled w k (set (k' ∷ children) q x)
  filled_set w k k' children zero x f = f
  filled_set w k k' children (suc q) x f = f

  -- a change at a place of a child that is there
  pub record IsPut (h w r i : ℕ) (v : A) (children : List (ℕ × List A)) (q : ℕ) (k : ℕ × List A) : Type 0 where
    pub within : r ≤ length k.1
    pub same : with_item (joined children) i v ≡ joined (set children q (k.0, with_item k.1 r v))
    pub row : IsRow h w (set children q (k.0, with_item k.1 r v))

  pub put_in_row : (h w q r i : ℕ) (v : A) (children : List (ℕ × List A)) (d : ℕ × List A) → r < w → i ≡ q * w + r → IsRow h w children → i ≤ length (joined children) → q < length children → IsPut h w r i v children q (get_or children q d)
  put_in_row h w q r i v [] d b e s t l = absurd (omega arith)
  put_in_row h w zero r i v (k ∷ []) d b e s t l =
      let same : i ≡ r = omega (arith, zero-mul w) in
      let near : r ≤ length k.1 = omega (arith, length-append k.1 []) in
      record {
        within = near;
        same = ap (λ xs. with_item xs i v) (append-nil k.1) ∙ ap (λ n. with_item k.1 n v) same ∙ sym (append-nil (with_item k.1 r v));
        row = (s.0, omega (arith, put_length k.1 r v near, s.1), tt);
      }
  put_in_row h w zero r i v (k ∷ k' ∷ children) d b e s t l =
      let same : i ≡ r = omega (arith, zero-mul w) in
      record {
        within = omega (arith, s.1);
        same = put_left k.1 (joined (k' ∷ children)) i v (omega (arith, s.1)) ∙ ap (λ n. with_item k.1 n v ++ joined (k' ∷ children)) same;
        row = (s.0, length-put k.1 r v (omega (arith, s.1)) ∙ s.1, s.2);
      }
  put_in_row h w (suc q) r i v (k ∷ []) d b e s t l = absurd (omega arith)
  put_in_row h w (suc q) r i v (k ∷ k' ∷ children) d b e s t l =
      let j : i ≡ length k.1 + (q * w + r) = omega (arith, suc-mul q w, s.1) in
      let rest = put_in_row h w q r (q * w + r) v (k' ∷ children) d b refl s.2 (omega (arith, length-append k.1 (joined (k' ∷ children)))) (omega arith) in
      record {
        within = rest.within;
        same = put_right k.1 (joined (k' ∷ children)) i (q * w + r) v j ∙ ap (λ xs. k.1 ++ xs) rest.same;
        row = (s.0, filled_set w k k' children q _ s.1, rest.row);
      }

  -- a change after the last child, which is full
  pub put_after_row : (h w q r i g : ℕ) (v : A) (children : List (ℕ × List A)) → r < w → i ≡ q * w + r → IsRow h w children → i ≤ length (joined children) → length children ≤ q → suc g ≡ h → (with_item (joined children) i v ≡ joined (children ++ (g, v ∷ []) ∷ [])) × IsRow h w (children ++ (g, v ∷ []) ∷ [])
  put_after_row h w q r i g v [] b e s t l f = (refl, (f, omega arith, tt))
  put_after_row h w zero r i g v (k ∷ children) b e s t l f = absurd (omega arith)
  put_after_row h w (suc q) r i g v (k ∷ []) b e s t l f =
      let full : length k.1 ≡ w = omega (arith, length-append k.1 [], suc-mul q w, s.1) in
      let last : i ≡ length k.1 = omega (arith, length-append k.1 [], suc-mul q w, s.1) in
      (ap (λ xs. with_item xs i v) (append-nil k.1) ∙ put_end k.1 i v last, (s.0, full, (f, omega arith, tt)))
  put_after_row h w (suc q) r i g v (k ∷ k' ∷ children) b e s t l f =
      let j : i ≡ length k.1 + (q * w + r) = omega (arith, suc-mul q w, s.1) in
      let rest = put_after_row h w q r (q * w + r) g v (k' ∷ children) b refl s.2 (omega (arith, length-append k.1 (joined (k' ∷ children)))) (omega arith) f in
      (put_right k.1 (joined (k' ∷ children)) i (q * w + r) v j ∙ ap (λ xs. k.1 ++ xs) rest.0, (s.0, s.1, rest.1))

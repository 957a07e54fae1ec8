-- The children of a node as its vector holds them, and the widths of nodes.
use Rattle.std.proofs.Common.{◌≡◌, ℕ, zero, suc, ◌+◌, ◌*◌, ◌/◌, ◌%◌, ◌^◌, ◌<◌, ◌≤◌, List, [], ◌∷◌, ◌++◌, length, get_or, set, slice_get, None, Some, Result, Ok, Err, OnOk, OnErr, refl, sym, ap, subst, ◌∙◌, arith}
use Rattle.std.proofs.Math.Nat.{pow-suc, mul-div_cancel, one-le-pow}
use Rattle.std.proofs.lemmas.Nat.{div-add-mod', mod_below}
use Rattle.std.proofs.lemmas.List.{map-set, set-get_or, length-map, map-append}
use Rattle.std.specs.declared.alloc.Global.{Global}
use Rattle.std.specs.declared.rc.Rc.{Rc}
use Rattle.shared_table.specs.Children.{with_item, joined, IsRow}
use Rattle.shared_table.specs.Nodes.{child_values}
use Rattle.shared_table.specs.declared.node.Node.{Node}
use Rattle.shared_table.proofs.Rows.{in_child, get_in_row, IsPut, put_in_row, put_after_row}

pub wide : (w h : ℕ) → w ≡ 16 ^ h → 0 < w
wide w h e = omega (arith, one-le-pow h 16 (omega arith))

pub sixteen : (w h k : ℕ) → w ≡ 16 ^ h → suc k ≡ h → w ≡ 16 ^ k * 16
sixteen w h k e s = e ∙ ap (λ n. 16 ^ n) (sym s) ∙ pow-suc 16 k

pub narrower : (w h k : ℕ) → w ≡ 16 ^ h → suc k ≡ h → w / 16 ≡ 16 ^ k
narrower w h k e s = ap (λ n. n / 16) (sixteen w h k e s) ∙ mul-div_cancel (16 ^ k) (omega arith)

module _ {A : Type 0} where
  get_values : (children : List (Rc (Node A) Global)) (q : ℕ) (d : Rc (Node A) Global) → get_or (child_values children) q d.value ≡ (get_or children q d).value
  get_values [] q d = refl
  get_values (k ∷ children) zero d = refl
  get_values (k ∷ children) (suc q) d = get_values children q d

  get_there : (ks : List (ℕ × List A)) (q : ℕ) (d : ℕ × List A) → q < length ks → slice_get ks q ≡ Some (get_or ks q d)
  get_there [] q d l = absurd (omega arith)
  get_there (k ∷ ks) zero d l = refl
  get_there (k ∷ ks) (suc q) d l = get_there ks q d (omega arith)

  child_past : (ks : List (ℕ × List A)) (q : ℕ) → length ks ≤ q → slice_get ks q ≡ None
  child_past [] q l = refl
  child_past (k ∷ ks) zero l = absurd (omega arith)
  child_past (k ∷ ks) (suc q) l = child_past ks q (omega arith)

  row_there : (h w : ℕ) (ks : List (ℕ × List A)) (q : ℕ) (d : ℕ × List A) → IsRow h w ks → q < length ks → suc (get_or ks q d).0 ≡ h
  row_there h w [] q d r l = absurd (omega arith)
  row_there h w (k ∷ ks) zero d r l = r.0
  row_there h w (k ∷ ks) (suc q) d r l = row_there h w ks q d r.2 (omega arith)

  module _ (h w at : ℕ) (children : List (Rc (Node A) Global)) (p : 0 < w) (s : IsRow h w (child_values children)) where
    split : at ≡ at / w * w + at % w
    split = sym (div-add-mod' at w)

    module _ (k : Rc (Node A) Global) (l : at / w < length children) (e : k ≡ get_or children (at / w) k) where
      there : at / w < length (child_values children)
      there = omega (arith, length-map children (λ child. child.value))

      child_is : get_or (child_values children) (at / w) k.value ≡ k.value
      child_is = get_values children (at / w) k ∙ ap (λ child. child.value) (sym e)

      pub child_lower : suc k.value.0 ≡ h
      child_lower = ap (λ x. suc x.0) (sym child_is) ∙ row_there h w (child_values children) (at / w) k.value s there

      pub get_some : slice_get (joined (child_values children)) at ≡ slice_get k.value.1 (at % w)
      get_some =
          get_in_row h w (at / w) (at % w) at (child_values children) (mod_below at w p) split s
          ∙ ap (λ o. in_child o (at % w)) (get_there (child_values children) (at / w) k.value there ∙ ap (λ x. Some x) child_is)

      pub put_some : (v : A) → at ≤ length (joined (child_values children)) → IsPut h w (at % w) at v (child_values children) (at / w) k.value
      put_some v t =
          subst (λ x. IsPut h w (at % w) at v (child_values children) (at / w) x) child_is
          (put_in_row h w (at / w) (at % w) at v (child_values children) k.value (mod_below at w p) split s t there)

    pub get_none : length children ≤ at / w → slice_get (joined (child_values children)) at ≡ None
    get_none l = get_in_row h w (at / w) (at % w) at (child_values children) (mod_below at w p) split s ∙ ap (λ o. in_child o (at % w)) (child_past (child_values children) (at / w) (omega (arith, length-map children (λ child. child.value))))

    -- what a change in a child leaves of the children, done or not
    pub record IsAfter (v : A) (children' : List (Rc (Node A) Global)) {U E : Type 0} (r : Result U E) : Type 0 where
      pub row : IsRow h w (child_values children')
      pub ok : OnOk r (joined (child_values children') ≡ with_item (joined (child_values children)) at v)
      pub kept : OnErr r (joined (child_values children') ≡ joined (child_values children))

    pub after_put : (k k' : Rc (Node A) Global) → at / w < length children → k ≡ get_or children (at / w) k → (v : A) → at ≤ length (joined (child_values children)) → {U E : Type 0} (r : Result U E) → OnOk r (k'.value ≡ (k.value.0, with_item k.value.1 (at % w) v)) → OnErr r (k'.value ≡ k.value) → IsAfter v (set children (at / w) k') r
    after_put k k' l e v t (Ok u) o n =
        let done = put_some k l e v t in
        let now : child_values (set children (at / w) k') ≡ set (child_values children) (at / w) (k.value.0, with_item k.value.1 (at % w) v) = map-set (λ child. child.value) children (at / w) k' ∙ ap (set (child_values children) (at / w)) o in
        record { row = subst (IsRow h w) (sym now) done.row; ok = ap joined now ∙ sym done.same; kept = tt }
    after_put k k' l e v t (Err u) o n =
        let now : child_values (set children (at / w) k') ≡ child_values children =
        map-set (λ child. child.value) children (at / w) k' ∙ ap (set (child_values children) (at / w)) (n ∙ sym (child_is k l e)) ∙ set-get_or (child_values children) (at / w) k.value in
        record { row = subst (IsRow h w) (sym now) s; ok = tt; kept = ap joined now }

    pub after_push : (k : Rc (Node A) Global) (g : ℕ) (v : A) → length children ≤ at / w → at ≤ length (joined (child_values children)) → suc g ≡ h → k.value ≡ (g, v ∷ []) → (joined (child_values (children ++ k ∷ [])) ≡ with_item (joined (child_values children)) at v) × IsRow h w (child_values (children ++ k ∷ []))
    after_push k g v l t f e =
        let now : child_values (children ++ k ∷ []) ≡ child_values children ++ (g, v ∷ []) ∷ [] = map-append (λ child. child.value) children (k ∷ []) ∙ ap (λ x. child_values children ++ x ∷ []) e in
        let done = put_after_row h w (at / w) (at % w) at g v (child_values children) (mod_below at w p) split s t (omega (arith, length-map children (λ child. child.value))) f in
        (ap joined now ∙ sym done.0, subst (IsRow h w) (sym now) done.1)

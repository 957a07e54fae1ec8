-- What is known of a node that was opened, and that it can be closed again after a change.
use Rattle.std.proofs.Common.{◌≡◌, ℕ, suc, ◌+◌, ◌*◌, ◌^◌, ◌<◌, ◌≤◌, List, [], ◌∷◌, length, Result, Ok, Err, OnOk, OnErr, Vec, sym, ap, subst, ◌∙◌, arith, add-one, length-append}
use Rattle.std.proofs.Math.Nat.{pow-suc, one-le-pow}
use Rattle.std.specs.declared.alloc.Global.{Global}
use Rattle.std.specs.declared.rc.Rc.{Rc}
use Rattle.shared_table.specs.Children.{with_item, joined, IsRow}
use Rattle.shared_table.specs.Nodes.{child_values, items_of, IsNode}
use Rattle.shared_table.specs.declared.node.Node.{Node}
use Rattle.shared_table.specs.declared.node.Part.{Part}
use Rattle.shared_table.specs.declared.node.Part.TheVariants.{Leaf, Inner}
use Rattle.shared_table.proofs.Rows.{put_length}

module _ {A : Type 0} where
  pub record IsOpened (h w : ℕ) (children : List (Rc (Node A) Global)) (v : ℕ × List A) : Type 0 where
    pub height : h ≡ v.0
    pub above : 0 < h
    pub width : w ≡ 16 ^ h
    pub row : IsRow h w (child_values children)
    pub items : joined (child_values children) ≡ v.1
    pub few : length v.1 ≤ 16 * w

  pub opened : (h w : ℕ) (part : Part A) (children : Vec (Rc (Node A) Global) Global) (v : ℕ × List A) → part ≡ Inner children → IsNode h part → (h, items_of part) ≡ v → w ≡ 16 ^ v.0 → IsOpened h w children.items v
  opened h w part children v is node see e =
      let inner : IsNode h (Inner children) = subst (IsNode h) is node in
      let height : h ≡ v.0 = ap (λ x. x.0) see in
      let width : w ≡ 16 ^ h = e ∙ ap (λ n. 16 ^ n) (sym height) in
      let items : joined (child_values children.items) ≡ v.1 = ap items_of (sym is) ∙ ap (λ x. x.1) see in
      record {
        height = height;
        above = inner.0;
        width = width;
        row = subst (λ n. IsRow h n (child_values children.items)) (sym width) inner.1;
        items = items;
        few = omega (arith, inner.2, pow-suc 16 h, ap length items);
      }

  -- a node whose children were changed, done or not
  pub closed : (h w at : ℕ) (v : A) (children children' : List (Rc (Node A) Global)) {U E : Type 0} (r : Result U E) → 0 < h → w ≡ 16 ^ h → at ≤ length (joined (child_values children)) → length (joined (child_values children)) ≤ 16 * w → at < 16 * w → IsRow h w (child_values children') → OnOk r (joined (child_values children') ≡ with_item (joined (child_values children)) at v) → OnErr r (joined (child_values children') ≡ joined (child_values children)) → (0 < h) × IsRow h (16 ^ h) (child_values children') × (length (joined (child_values children')) ≤ 16 ^ suc h)
  closed h w at v children children' (Ok u) p e t f l row ok kept =
      (p, subst (λ n. IsRow h n (child_values children')) e row, omega (arith, pow-suc 16 h, ap length ok, put_length (joined (child_values children)) at v t))
  closed h w at v children children' (Err u) p e t f l row ok kept = (p, subst (λ n. IsRow h n (child_values children')) e row, omega (arith, pow-suc 16 h, ap length kept))

  -- a leaf whose items were changed, done or not
  pub closed_leaf : (h w at : ℕ) (v : A) (part : Part A) (items : Vec A Global) (items' : List A) (n : ℕ × List A) {U E : Type 0} (r : Result U E) → part ≡ Leaf items → IsNode h part → (h, items_of part) ≡ n → w ≡ 16 ^ n.0 → at ≤ length n.1 → at < 16 * w → OnOk r (items' ≡ with_item items.items at v) → OnErr r (items' ≡ items.items) → (h ≡ 0) × (length items' ≤ 16)
  closed_leaf h w at v part items items' n r is node see e t l ok kept =
      let leaf : IsNode h (Leaf items) = subst (IsNode h) is node in
      let one : w ≡ 1 = e ∙ ap (λ k. 16 ^ k) (sym (ap (λ x. x.0) see) ∙ leaf.0) in
      let same : items.items ≡ n.1 = ap items_of (sym is) ∙ ap (λ x. x.1) see in
      (leaf.0, few_items r items.items items' at v leaf.1 (omega (arith, ap length same)) (omega arith) ok kept)
    where
      few_items : {U E : Type 0} (r : Result U E) (items items' : List A) (at : ℕ) (v : A) → length items ≤ 16 → at ≤ length items → at < 16 → OnOk r (items' ≡ with_item items at v) → OnErr r (items' ≡ items) → length items' ≤ 16
      few_items (Ok u) items items' at v f t l ok kept = omega (arith, ap length ok, put_length items at v t)
      few_items (Err u) items items' at v f t l ok kept = omega (arith, ap length kept)

  -- a node whose one child has one item
  pub closed_one : (h g : ℕ) (v : A) (children : List (Rc (Node A) Global)) (k : Rc (Node A) Global) → suc g ≡ h → k.value ≡ (g, v ∷ []) → children ≡ k ∷ [] → ((0 < h) × IsRow h (16 ^ h) (child_values children) × (length (joined (child_values children)) ≤ 16 ^ suc h)) × (joined (child_values children) ≡ v ∷ [])
  closed_one h g v children k s e is =
      let now : child_values children ≡ (g, v ∷ []) ∷ [] = ap child_values is ∙ ap (λ x. x ∷ []) e in
      ((omega arith, subst (IsRow h (16 ^ h)) (sym now) (s, one-le-pow h 16 (omega arith), tt), omega (arith, ap (λ ks. length (joined ks)) now, one-le-pow (suc h) 16 (omega arith))), ap joined now)

  -- a node above a full one and one with one item
  pub closed_two : (g w : ℕ) (x : ℕ × List A) (v : A) (children : List (Rc (Node A) Global)) (k k' : Rc (Node A) Global) → g ≡ x.0 → w ≡ 16 ^ x.0 → length x.1 ≡ 16 * w → k.value ≡ x → k'.value ≡ (g, v ∷ []) → children ≡ k ∷ k' ∷ [] → (0 < g + 1) × IsRow (g + 1) (16 ^ (g + 1)) (child_values children) × (length (joined (child_values children)) ≤ 16 ^ suc (g + 1))
  closed_two g w x v children k k' s e f same one is =
      let now : child_values children ≡ x ∷ (g, v ∷ []) ∷ [] = ap child_values is ∙ ap (λ y. y ∷ k'.value ∷ []) same ∙ ap (λ y. x ∷ y ∷ []) one in
      let here : w ≡ 16 ^ g = e ∙ ap (λ n. 16 ^ n) (sym s) in
      let power : 16 ^ (g + 1) ≡ 16 * w = omega (arith, pow-suc 16 g, ap (λ n. 16 ^ n) (add-one g)) in
      let more : 16 ^ suc (g + 1) ≡ 16 ^ (g + 1) * 16 = pow-suc 16 (g + 1) in
      let some : 1 ≤ 16 ^ g = one-le-pow g 16 (omega arith) in
      (omega arith, subst (IsRow (g + 1) (16 ^ (g + 1))) (sym now) (omega (arith, s), f ∙ sym power, (omega arith, omega arith, tt)), omega (arith, ap (λ ks. length (joined ks)) now, length-append x.1 (v ∷ [])))

-- Directories above a path: of what stands in one, and after a put at another path.
use Rattle.std.proofs.Common.{◌≡◌, ◌≢◌, ℕ, Bool, true, false, ◌&&◌, IsTrue, ◌⊎◌, inl, inr, List, [], ◌∷◌, ◌++◌}
use Rattle.std.proofs.Common.{Option, Some, None, refl, sym, ap, subst, ◌∙◌}
use Rattle.std.specs.Str.{bytes_eq}
use Rattle.std.proofs.lemmas.Slice.Eq.{bytes_eq-Decides}
use Rattle.feature_trees.specs.declared.kind.Kind.TheVariants.{Absent, Dir}
use Rattle.feature_trees.specs.declared.kind.Special.TheVariants.{Fifo, Socket, Block, Char}
use Rattle.feature_trees.specs.declared.value.Value.{Value}
use Rattle.feature_trees.specs.declared.value.Value.TheVariants as value
use Rattle.feature_trees.specs.Kinds.{has, of}
use Rattle.feature_trees.specs.Tree.{entry, at, is_dir, kind_of, put, has_parents}
use Rattle.feature_trees.specs.Sound.{sound}
use Rattle.feature_trees.proofs.Laws.{and_parts, and_made, sound-entry, at-put_same, at-put_other}
use Rattle.utility_calls.specs.Ways.{in_dir}
use Rattle.utility_calls.specs.Acts.{is_prefix, with_name}
use Rattle.utility_calls.proofs.Ways.{at_absent, parents}

-- ---- what is in a directory, or stands somewhere, has directories above it

pub some_in : (t : Value) (ns : List (List ℕ)) → ns ≢ [] → in_dir t ns ≡ true → IsTrue (has_parents t ns)
some_in t [] ne h = absurd (ne refl)
some_in t (f ∷ p) ne h = sym (parents t f p) ∙ h

holds_entry : (v : Value) (f : List ℕ) (rest : List (List ℕ)) → kind_of (at v (f ∷ rest)) ≢ Absent → IsTrue (is_dir v)
holds_entry value.Absent f rest h = absurd (h (ap kind_of (at_absent rest)))
holds_entry value.Reg f rest h = absurd (h (ap kind_of (at_absent rest)))
holds_entry (value.Link b) f rest h = absurd (h (ap kind_of (at_absent rest)))
holds_entry (value.Special s) f rest h = absurd (h (ap kind_of (at_absent rest)))
holds_entry (value.Dir es) f rest h = refl

pub there_parents : (v : Value) (names : List (List ℕ)) → kind_of (at v names) ≢ Absent → IsTrue (has_parents v names)
there_parents v [] h = refl
there_parents v (f ∷ rest) h =
    and_made (is_dir v) (has_parents (entry v f) rest) (holds_entry v f rest h) (there_parents (entry v f) rest h)

-- ---- one name more

pub parents_more : (v : Value) (names : List (List ℕ)) (f : List ℕ)
    → has_parents v (names ++ f ∷ []) ≡ (has_parents v names && is_dir (at v names))
parents_more v [] f = and_true (is_dir v)
  where
    and_true : (b : Bool) → (b && true) ≡ b
    and_true true = refl
    and_true false = refl
parents_more v (g ∷ names) f = ap (λ b. is_dir v && b) (parents_more (entry v g) names f) ∙ and_assoc (is_dir v) _ _
  where
    and_assoc : (a b c : Bool) → (a && (b && c)) ≡ ((a && b) && c)
    and_assoc true b c = refl
    and_assoc false b c = refl

dir_seen : (v : Value) → has (of Dir) (kind_of v) ≡ true → is_dir v ≡ true
dir_seen value.Absent h = cc
dir_seen value.Reg h = cc
dir_seen (value.Link b) h = cc
dir_seen (value.Special Fifo) h = cc
dir_seen (value.Special Socket) h = cc
dir_seen (value.Special Block) h = cc
dir_seen (value.Special Char) h = cc
dir_seen (value.Dir es) h = refl

-- below the path of a directory
pub inside_parents : (v : Value) (p : List (List ℕ)) (o : Option (List ℕ)) → has (of Dir) (kind_of (at v p)) ≡ true
    → IsTrue (has_parents v (with_name p o))
inside_parents v p o h = by o
  where
    above : IsTrue (has_parents v p)
    above = there_parents v p (λ e. let x : false ≡ true = sym (ap (has (of Dir)) e) ∙ h in cc)

    by : (o : Option (List ℕ)) → IsTrue (has_parents v (with_name p o))
    by None = above
    by (Some f) = parents_more v p f ∙ and_made (has_parents v p) (is_dir (at v p)) above (dir_seen (at v p) h)

-- ---- a put at a path that begins no strict prefix of another

-- no strict prefix of the second names begins with the first, or is the same
abbrev pub Clear : List (List ℕ) → List (List ℕ) → Type 0
Clear p [] = Unit {0}
Clear [] (g ∷ q) = ⊥
Clear (f ∷ p) (g ∷ q) = f ≡ g → Clear p q

same_or_not : (f g : List ℕ) → (f ≡ g) ⊎ (f ≢ g)
same_or_not f g = by (bytes_eq f g) refl
  where
    by : (b : Bool) → bytes_eq f g ≡ b → (f ≡ g) ⊎ (f ≢ g)
    by true e = inl ((bytes_eq-Decides f g).0 e)
    by false e = inr (λ h. let x : true ≡ false = sym ((bytes_eq-Decides f g).1 h) ∙ e in cc)

pub kept_parents : (v w : Value) (p q : List (List ℕ)) → IsTrue (sound v) → Clear p q → IsTrue (has_parents v q)
    → IsTrue (has_parents (put v p w) q)
kept_parents v w p [] s c h = refl
kept_parents v w [] (g ∷ q) s c h = absurd c
kept_parents v w (f ∷ p) (g ∷ q) s c h =
    let parts = and_parts (is_dir v) (has_parents (entry v g) q) h in
    elim (same_or_not f g) [
      | inl same ↦
          let here : entry (put v (f ∷ p) w) f ≡ put (entry v f) p w =
          at-put_same v (f ∷ []) (put (entry v f) p w) s (and_made (is_dir v) true parts.0 refl) in
          let below = kept_parents (entry v f) w p q (sound-entry v f s) (c same)
          (subst (λ (k : List ℕ). IsTrue (has_parents (entry v k) q)) (sym same) parts.1) in
          subst (λ (k : List ℕ). IsTrue (has_parents (entry (put v (f ∷ p) w) k) q)) same
          (subst (λ (x : Value). IsTrue (has_parents x q)) (sym here) below)
      | inr ne ↦ subst (λ (x : Value). IsTrue (has_parents x q)) (sym (at-put_other [] v f g p [] w s ne)) parts.1
    ]

-- where names do not begin others, or the same

prefix_rest : (f g : List ℕ) (p q : List (List ℕ)) → is_prefix (f ∷ p) (g ∷ q) ≡ false → f ≡ g → is_prefix p q ≡ false
prefix_rest f g p q h e = by (bytes_eq f g) ((bytes_eq-Decides f g).1 e) h
  where
    by : (b : Bool) → b ≡ true → (b && is_prefix p q) ≡ false → is_prefix p q ≡ false
    by true e h = h
    by false e h = absurd (cc)

pub clear_below : (p q : List (List ℕ)) (f : List ℕ) → is_prefix p q ≡ false → p ≢ q → Clear p (q ++ f ∷ [])
clear_below [] [] f h ne = absurd (ne refl)
clear_below (g ∷ p) [] f h ne = λ e. tt
clear_below [] (k ∷ q) f h ne = absurd (cc)
clear_below (g ∷ p) (k ∷ q) f h ne = λ e. clear_below p q f (prefix_rest g k p q h e) (λ same. ne (λ i. e i ∷ same i))

pub clear_place : (p q : List (List ℕ)) → is_prefix p q ≡ false → Clear p q
clear_place p [] h = tt
clear_place [] (k ∷ q) h = absurd (cc)
clear_place (g ∷ p) (k ∷ q) h = λ e. clear_place p q (prefix_rest g k p q h e)

pub clear_inside : (p q : List (List ℕ)) (o : Option (List ℕ)) → is_prefix p q ≡ false → p ≢ q → Clear p (with_name q o)
clear_inside p q None h ne = clear_place p q h
clear_inside p q (Some f) h ne = clear_below p q f h ne

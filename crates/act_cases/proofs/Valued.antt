-- The valuation of a case on a tree: the tree, the entries along the names, what is put, and the values with it put in
-- them, outwards.
use Rattle.std.proofs.Common.{◌≡◌, ℕ, zero, suc, ◌+◌, ◌<◌, IsTrue, List, [], ◌∷◌, ◌++◌, length, refl, sym, ap, subst, ◌∙◌, arith, append_assoc, length-append}
use Rattle.std.proofs.Math.Seq.{get_or-append_seam}
use Rattle.std.specs.Prelude.{slice_index_or}
use Rattle.feature_trees.specs.declared.value.Value.{Value}
use Rattle.feature_trees.specs.declared.value.Value.TheVariants as value
use Rattle.feature_trees.specs.Tree.{entry, put}
use Rattle.feature_trees.specs.Sound.{sound}
use Rattle.feature_trees.proofs.Laws.{sound-entry}
use Rattle.feature_trees.proofs.Kept.{sound-put}
use Rattle.tree_clauses.specs.Literals.{Valuation, value_of_variable, IsSound}
use Rattle.act_cases.proofs.Meets.{Along, Outwards, AreNames, later_names}

-- the entries along the names
abbrev pub line : Value → List (List ℕ) → Valuation
line v [] = []
line v (f ∷ rest) = entry v f ∷ line (entry v f) rest

-- the values with another put in them, outwards
abbrev pub rings : Value → List (List ℕ) → Value → Valuation
rings v [] w = []
rings v (f ∷ rest) w = rings (entry v f) rest w ++ put v (f ∷ rest) w ∷ []

pub line_length : (v : Value) (names : List (List ℕ)) → length (line v names) ≡ length names
line_length v [] = refl
line_length v (f ∷ rest) = ap suc (line_length (entry v f) rest)

pub rings_length : (v w : Value) (names : List (List ℕ)) → length (rings v names w) ≡ length names
rings_length v w [] = refl
rings_length v w (f ∷ rest) =
    length-append (rings (entry v f) rest w) (put v (f ∷ rest) w ∷ []) ∙ ap (λ n. n + 1) (rings_length (entry v f) w rest) ∙ omega arith

-- a value stands where those before it end
pub value_at : (before after : Valuation) (v : Value) (n : ℕ) → n ≡ length before → value_of_variable (before ++ v ∷ after) n ≡ v
value_at before after v n e = ap (value_of_variable (before ++ v ∷ after)) e ∙ get_or-append_seam before v after value.Absent

pub along_at : (before after : Valuation) (v : Value) (names : List (List ℕ)) (y : ℕ) → y ≡ length before
    → Along (before ++ (line v names ++ after)) y v names
along_at before after v [] y e = tt
along_at before after v (f ∷ rest) y e = (
  value_at before (line (entry v f) rest ++ after) (entry v f) y e,
  subst (λ g. Along g (y + 1) (entry v f) rest) (append_assoc before (entry v f ∷ []) (line (entry v f) rest ++ after))
      (along_at (before ++ entry v f ∷ []) after (entry v f) rest (y + 1) (omega (arith, e, length-append before (entry v f ∷ [])))),
)

pub outwards_at : (before after : Valuation) (v w : Value) (names : List (List ℕ)) (r : ℕ) → r ≡ length before
    → Outwards (before ++ (rings v names w ++ after)) r v names w
outwards_at before after v w [] r e = tt
outwards_at before after v w (f ∷ rest) r e =
    let inner = rings (entry v f) rest w in
    let made = put v (f ∷ rest) w in
    subst (λ g. Outwards g r (entry v f) rest w × (value_of_variable g (r + length rest) ≡ made))
    (ap (λ l. before ++ l) (sym (append_assoc inner (made ∷ []) after))) (
      outwards_at before (made ∷ after) (entry v f) w rest r e,
      ap (λ g. value_of_variable g (r + length rest)) (sym (append_assoc before inner (made ∷ after)))
          ∙ value_at (before ++ inner) after made (r + length rest) (omega (arith, e, length-append before inner, rings_length (entry v f) w rest)),
    )

-- ---- the values are sound

abbrev pub Each : Valuation → Type 0
Each [] = Unit {0}
Each (v ∷ vs) = IsTrue (sound v) × Each vs

pub each_sound : (vs : Valuation) → Each vs → IsSound vs
each_sound [] h = λ k d lt. absurd (omega arith)
each_sound (v ∷ vs) h = by (each_sound vs h.1)
  where
    by : IsSound vs → (k : ℕ) (d : Value) → k < length (v ∷ vs) → IsTrue (sound (slice_index_or (v ∷ vs) k d))
    by more zero d lt = h.0
    by more (suc k) d lt = more k d (omega arith)

pub each_join : (xs ys : Valuation) → Each xs → Each ys → Each (xs ++ ys)
each_join [] ys h w = w
each_join (x ∷ xs) ys h w = (h.0, each_join xs ys h.1 w)

pub line_sound : (v : Value) (names : List (List ℕ)) → IsTrue (sound v) → Each (line v names)
line_sound v [] s = tt
line_sound v (f ∷ rest) s = (sound-entry v f s, line_sound (entry v f) rest (sound-entry v f s))

pub rings_sound : (v w : Value) (names : List (List ℕ)) → IsTrue (sound v) → IsTrue (sound w) → AreNames names → Each (rings v names w)
rings_sound v w [] s t n = tt
rings_sound v w (f ∷ rest) s t n =
    each_join (rings (entry v f) rest w) (put v (f ∷ rest) w ∷ []) (rings_sound (entry v f) w rest (sound-entry v f s) t (later_names f rest n))
    (sound-put v (f ∷ rest) w s t n, tt)

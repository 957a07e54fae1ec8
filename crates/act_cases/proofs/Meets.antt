-- When a valuation meets the literals of a case.
use Rattle.std.proofs.Common.{◌≡◌, ℕ, suc, ◌+◌, true, IsTrue, List, [], ◌∷◌, ◌++◌, length, refl, sym, ap, subst, ◌∙◌, arith}
use Rattle.std.specs.List.{All}
use Rattle.script_names.specs.Names.{is_name}
use Rattle.feature_trees.specs.declared.value.Value.{Value}
use Rattle.feature_trees.specs.declared.value.Value.TheVariants as value
use Rattle.feature_trees.specs.Kinds.{has}
use Rattle.feature_trees.specs.Tree.{entry, at, kind_of, put, update, entries_of}
use Rattle.feature_trees.specs.Sound.{sound}
use Rattle.feature_trees.proofs.Laws.{sound-entry}
use Rattle.tree_clauses.specs.declared.clause.Literal.{Literal}
use Rattle.tree_clauses.specs.Literals.{Valuation, value_of_variable, MeetsAll, IsSound}
use Rattle.tree_clauses.proofs.KindSets.{of_absent, of_reg, of_dir}
use Rattle.act_cases.proofs.ShortLists.{none_contained, one_contained}
use Rattle.tree_clauses.proofs.Values.{absent_kind, reg_kind, entry_is, derived_same, derived_other, derived_from, ensured_from, empty_from}
use Rattle.tree_clauses.proofs.Valuations.{sound_at}
use Rattle.utility_calls.specs.declared.sights.Effect.{Effect}
use Rattle.utility_calls.specs.declared.sights.Effect.TheVariants.{Nothing, MakesDir, KeepsDir, MakesFile, MakesLink, LinksInside, TakesAway, Moves, MovesInside, Copies, CopiesInside}
use Rattle.act_cases.specs.declared.looks.Ways.{Ways}
use Rattle.act_cases.specs.declared.plans.End.{End}
use Rattle.act_cases.specs.declared.plans.End.TheVariants.{Any, Empty, Full}
use Rattle.act_cases.specs.Looks.{kinds_from, Sees, way_literals, end_of}
use Rattle.act_cases.specs.Puts.{put_literals, root_of}
use Rattle.act_cases.specs.Plans.{EndMet, end_literals, is_put, made_value, made_literals}
use Rattle.act_cases.proofs.Ends.{none_has, has_none, some_has, has_some}

pub meets_split : (g : Valuation) (xs ys : List Literal) → MeetsAll g (xs ++ ys) → MeetsAll g xs × MeetsAll g ys
meets_split g [] ys h = (tt, h)
meets_split g (x ∷ xs) ys h = let rest = meets_split g xs ys h.1 in ((h.0, rest.0), rest.1)

pub meets_join : (g : Valuation) (xs ys : List Literal) → MeetsAll g xs → MeetsAll g ys → MeetsAll g (xs ++ ys)
meets_join g [] ys h w = w
meets_join g (x ∷ xs) ys h w = (h.0, meets_join g xs ys h.1 w)

-- ---- looking

-- the variables from y on are the entries along the names
abbrev pub Along : Valuation → ℕ → Value → List (List ℕ) → Type 0
Along g y v [] = Unit {0}
Along g y v (f ∷ rest) = (value_of_variable g y ≡ entry v f) × Along g (y + 1) (entry v f) rest

pub first_seen : (w : Ways) (v : Value) (names : List (List ℕ)) → Sees w v names → IsTrue (has (kinds_from w names) (kind_of v))
first_seen w v [] s = s
first_seen w v (f ∷ rest) s = s.0

pub way_from : (w : Ways) (g : Valuation) (x y : ℕ) (v : Value) (names : List (List ℕ)) → value_of_variable g x ≡ v
    → IsTrue (has (kinds_from w names) (kind_of v)) → MeetsAll g (way_literals w x y names) → Sees w v names × Along g y v names
way_from w g x y v [] e k m = (k, tt)
way_from w g x y v (f ∷ rest) e k m =
    let at_y : value_of_variable g y ≡ entry v f = m.0 ∙ ap (λ u. entry u f) e in
    let kinds : IsTrue (has (kinds_from w rest) (kind_of (entry v f))) = subst (λ u. IsTrue (has (kinds_from w rest) (kind_of u))) at_y m.1.0 in
    let more = way_from w g y (y + 1) (entry v f) rest at_y kinds m.1.1 in
    ((k, more.0), (at_y, more.1))

pub way_to : (w : Ways) (g : Valuation) (x y : ℕ) (v : Value) (names : List (List ℕ)) → value_of_variable g x ≡ v
    → Sees w v names → Along g y v names → MeetsAll g (way_literals w x y names)
way_to w g x y v [] e s a = tt
way_to w g x y v (f ∷ rest) e s a = (
  a.0 ∙ sym (ap (λ u. entry u f) e),
  (
    subst (λ u. IsTrue (has (kinds_from w rest) (kind_of u))) (sym a.0) (first_seen w (entry v f) rest s.1),
    way_to w g y (y + 1) (entry v f) rest a.0 s.1 a.1,
  ),
)

pub along_end : (g : Valuation) (x y : ℕ) (v : Value) (names : List (List ℕ)) → value_of_variable g x ≡ v → Along g y v names
    → value_of_variable g (end_of x y names) ≡ at v names
along_end g x y v [] e a = e
along_end g x y v (f ∷ rest) e a = along_end g y (y + 1) (entry v f) rest a.0 a.1

pub end_more : (x y : ℕ) (f : List ℕ) (rest : List (List ℕ)) → end_of x y (f ∷ rest) ≡ y + length rest
end_more x y f [] = omega arith
end_more x y f (g ∷ rest) = end_more y (y + 1) g rest ∙ omega arith

pub end_length : (names : List (List ℕ)) → end_of 0 1 names ≡ length names
end_length [] = refl
end_length (f ∷ rest) = end_more 0 1 f rest ∙ omega arith

-- ---- entries

pub end_from : (g : Valuation) (e : End) (x : ℕ) (v : Value) → value_of_variable g x ≡ v → MeetsAll g (end_literals e x) → EndMet e v
end_from g Any x v is m = tt
end_from g Empty x v is m = none_has v (λ f. ap (λ u. entry u f) (sym is) ∙ m.0 f (λ c. none_contained f c))
end_from g Full x v is m = some_has v m.0.0 (λ none. m.0.1 (ap (λ u. entry u m.0.0) is ∙ none))

pub end_to : (g : Valuation) (e : End) (x : ℕ) (v : Value) → value_of_variable g x ≡ v → EndMet e v → MeetsAll g (end_literals e x)
end_to g Any x v is m = tt
end_to g Empty x v is m = (λ f out. ap (λ u. entry u f) is ∙ has_none v f m, tt)
end_to g Full x v is m =
    let some = has_some v m in
    ((some.0, λ none. some.1 (ap (λ u. entry u some.0) (sym is) ∙ none)), tt)

-- ---- what is put

pub made_from : (g : Valuation) (e : Effect) (target : List ℕ) (x z : ℕ) (v : Value) → IsSound g → is_put e ≡ true → value_of_variable g x ≡ v
    → MeetsAll g (made_literals e target x z) → value_of_variable g z ≡ made_value e target v
made_from g Nothing target x z v s p is m = absurd (cc)
made_from g MakesDir target x z v s p is m = empty_from (value_of_variable g z) (sound_at g z s) (of_dir _ m.0) m.1.0
made_from g KeepsDir target x z v s p is m =
    ensured_from (value_of_variable g z) (value_of_variable g x) (sound_at g z s) (sound_at g x s) m.0.0 m.0.1
    ∙ ap (λ u. value.Dir (entries_of u)) is
made_from g MakesFile target x z v s p is m = reg_kind (value_of_variable g z) (of_reg _ m.0)
made_from g MakesLink target x z v s p is m = m.0
made_from g LinksInside target x z v s p is m = m.0
made_from g TakesAway target x z v s p is m = absent_kind (value_of_variable g z) (of_absent _ m.0)
made_from g Moves target x z v s p is m = absurd (cc)
made_from g MovesInside target x z v s p is m = absurd (cc)
made_from g Copies target x z v s p is m = absurd (cc)
made_from g CopiesInside target x z v s p is m = absurd (cc)

pub made_to : (g : Valuation) (e : Effect) (target : List ℕ) (x z : ℕ) (v : Value) → value_of_variable g x ≡ v
    → value_of_variable g z ≡ made_value e target v → MeetsAll g (made_literals e target x z)
made_to g Nothing target x z v is m = tt
made_to g MakesDir target x z v is m = (rw m refl, (λ f out. ap (λ u. entry u f) m, tt))
made_to g KeepsDir target x z v is m =
    ((ap kind_of m, λ f out. ap (λ u. entry u f) m ∙ entry_is v f ∙ sym (ap (λ u. entry u f) is)), tt)
made_to g MakesFile target x z v is m = (rw m refl, tt)
made_to g MakesLink target x z v is m = (m, tt)
made_to g LinksInside target x z v is m = (m, tt)
made_to g TakesAway target x z v is m = (rw m refl, tt)
made_to g Moves target x z v is m = tt
made_to g MovesInside target x z v is m = tt
made_to g Copies target x z v is m = tt
made_to g CopiesInside target x z v is m = tt

-- ---- the values outwards

abbrev pub AreNames : List (List ℕ) → Type 0
AreNames names = All (λ f. IsTrue (is_name f)) names

pub first_name : (f : List ℕ) (rest : List (List ℕ)) → AreNames (f ∷ rest) → IsTrue (is_name f)
first_name f rest h = h 0 f (omega arith)

pub later_names : (f : List ℕ) (rest : List (List ℕ)) → AreNames (f ∷ rest) → AreNames rest
later_names f rest h = λ k d lt. h (suc k) d (omega arith)

pub put_from : (g : Valuation) (x y z r : ℕ) (v w : Value) (names : List (List ℕ)) → IsSound g → AreNames names
    → value_of_variable g x ≡ v → Along g y v names → value_of_variable g z ≡ w → MeetsAll g (put_literals x y names z r)
    → value_of_variable g (root_of names z r) ≡ put v names w
put_from g x y z r v w [] s n e a ew m = ew
put_from g x y z r v w (f ∷ rest) s n e a ew m =
    let parts = meets_split g (put_literals y (y + 1) rest z r) _ m in
    let inner : value_of_variable g (root_of rest z r) ≡ put (entry v f) rest w =
    put_from g y (y + 1) z r (entry v f) w rest s (later_names f rest n) a.0 a.1 ew parts.0 in
    derived_from (value_of_variable g (r + length rest)) (value_of_variable g x) (value_of_variable g (root_of rest z r)) f (sound_at g (r + length rest) s)
    (sound_at g x s) (sound_at g (root_of rest z r) s) (first_name f rest n) parts.1.0.0 parts.1.0.1 parts.1.1.0
    ∙ ap (λ u. value.Dir (update (entries_of u) f (value_of_variable g (root_of rest z r)))) e
    ∙ ap (λ u. value.Dir (update (entries_of v) f u)) inner

-- the variables from r on are the values with the other one put in them
abbrev pub Outwards : Valuation → ℕ → Value → List (List ℕ) → Value → Type 0
Outwards g r v [] w = Unit {0}
Outwards g r v (f ∷ rest) w = Outwards g r (entry v f) rest w × (value_of_variable g (r + length rest) ≡ put v (f ∷ rest) w)

pub outwards_root : (g : Valuation) (z r : ℕ) (v w : Value) (names : List (List ℕ)) → value_of_variable g z ≡ w → Outwards g r v names w
    → value_of_variable g (root_of names z r) ≡ put v names w
outwards_root g z r v w [] e u = e
outwards_root g z r v w (f ∷ rest) e u = u.1

pub put_to : (g : Valuation) (x y z r : ℕ) (v w : Value) (names : List (List ℕ)) → IsTrue (sound v) → value_of_variable g x ≡ v → Along g y v names
    → value_of_variable g z ≡ w → Outwards g r v names w → MeetsAll g (put_literals x y names z r)
put_to g x y z r v w [] s e a ew u = tt
put_to g x y z r v w (f ∷ rest) s e a ew u =
    let inner : value_of_variable g (root_of rest z r) ≡ put (entry v f) rest w = outwards_root g z r (entry v f) w rest ew u.0 in
    let is : value_of_variable g (r + length rest) ≡ value.Dir (update (entries_of v) f (put (entry v f) rest w)) = u.1 in
    meets_join g (put_literals y (y + 1) rest z r) _ (put_to g y (y + 1) z r (entry v f) w rest (sound-entry v f s) a.0 a.1 ew u.0) (
      (
        ap kind_of is,
        λ h out.
            ap (λ b. entry b h) is ∙ derived_other v (put (entry v f) rest w) f h s (λ same. out (one_contained f h same))
            ∙ sym (ap (λ b. entry b h) e),
      ),
      (inner ∙ sym (ap (λ b. entry b f) is ∙ derived_same v (put (entry v f) rest w) f s), tt),
    )

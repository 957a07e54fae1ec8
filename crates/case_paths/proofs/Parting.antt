-- How states part: one state gives place to those that it parts into.
use Rattle.std.proofs.Common.{inl, inr, ◌≡◌, suc, List, [], ◌∷◌, ◌++◌, length, refl, sym, ap, ◌∙◌, subst}
use Rattle.std.specs.Prelude.{◌⊎◌}
use Rattle.feature_trees.specs.declared.value.Value.{Value}
use Rattle.clause_solver.specs.Pairs.{HasPair}
use Rattle.clause_solver.specs.Stands.{Seen, Alive}
use Rattle.utility_calls.specs.Walks.{Walk}
use Rattle.case_paths.specs.declared.state.PathState.{PathState}
use Rattle.case_paths.specs.declared.state.Found.{Found}
use Rattle.case_paths.specs.Traces.{AllBegin, Rising}
use Rattle.case_paths.specs.Paths.{traces, states, AllAlive}
use Rattle.case_paths.specs.Stages.{Holds, Parts, IsStage, AllStages, AllEnded, HasEnded}
use Rattle.case_paths.proofs.Orders.{nil_right, rising_replace, under_replace}

pub traces_append : (xs ys : List PathState) → traces (xs ++ ys) ≡ traces xs ++ traces ys
traces_append [] ys = refl
traces_append (x ∷ xs) ys = ap (λ l. x.trace ∷ l) (traces_append xs ys)

pub traces_length : (xs : List PathState) → length (traces xs) ≡ length xs
traces_length [] = refl
traces_length (x ∷ xs) = ap suc (traces_length xs)

pub states_append : {A : Type 0} (xs ys : List (Found A)) → states (xs ++ ys) ≡ states xs ++ states ys
states_append [] ys = refl
states_append (x ∷ xs) ys = ap (λ l. x.state ∷ l) (states_append xs ys)

pub states_length : {A : Type 0} (xs : List (Found A)) → length (states xs) ≡ length xs
states_length [] = refl
states_length (x ∷ xs) = ap suc (states_length xs)

-- ---- which start trees states hold

holds_left : (xs ys : List PathState) (t : Value) → Holds xs t → Holds (xs ++ ys) t
holds_left [] ys t h = absurd h
holds_left (x ∷ xs) ys t (inl p) = inl p
holds_left (x ∷ xs) ys t (inr h) = inr (holds_left xs ys t h)

holds_right : (xs ys : List PathState) (t : Value) → Holds ys t → Holds (xs ++ ys) t
holds_right [] ys t h = h
holds_right (x ∷ xs) ys t h = inr (holds_right xs ys t h)

holds_split : (xs ys : List PathState) (t : Value) → Holds (xs ++ ys) t → Holds xs t ⊎ Holds ys t
holds_split [] ys t h = inr h
holds_split (x ∷ xs) ys t (inl p) = inl (inl p)
holds_split (x ∷ xs) ys t (inr h) = more (holds_split xs ys t h)
  where
    more : Holds xs t ⊎ Holds ys t → Holds (x ∷ xs) t ⊎ Holds ys t
    more (inl k) = inl (inr k)
    more (inr k) = inr k

alive_append : (xs ys : List PathState) → AllAlive xs → AllAlive ys → AllAlive (xs ++ ys)
alive_append [] ys h k = k
alive_append (x ∷ xs) ys h k = (h.0, alive_append xs ys h.1 k)

pub alive_replace : (ds fs bs : List PathState) (y : PathState) → AllAlive (ds ++ y ∷ bs) → AllAlive fs → AllAlive (ds ++ (fs ++ bs))
alive_replace [] fs bs y h k = alive_append fs bs k h.1
alive_replace (x ∷ ds) fs bs y h k = (h.0, alive_replace ds fs bs y h.1 k)

-- ---- parting

-- a state with a pair parts into another with the same store and trace
pub parts_same : (x y : PathState) → y.store ≡ x.store → y.trace ≡ x.trace → Alive x.store → Parts x (y ∷ [])
parts_same x y store trace a = record {
  all = λ t v p. inl (v, subst (λ (s : Seen). HasPair s t v) (sym store) p);
  none_else = λ t h. only t h;
  alive = (subst Alive (sym store) a, tt);
  rising = (tt, tt);
  under = (record { more = []; is = trace ∙ sym (nil_right x.trace) }, tt);
}
  where
    only : (t : Value) → Holds (y ∷ []) t → (v : Value) × HasPair x.store t v
    only t (inl p) = (p.0, subst (λ (s : Seen). HasPair s t p.0) store p.1)
    only t (inr h) = absurd h

-- and so into itself
pub parts_alone : (x : PathState) → Alive x.store → Parts x (x ∷ [])
parts_alone x a = parts_same x x refl refl a

-- one of the states parts further
pub parts_replace : (x y : PathState) (ds zs bs : List PathState) → Parts x (ds ++ y ∷ bs) → Parts y zs → Parts x (ds ++ (zs ++ bs))
parts_replace x y ds zs bs h k = record {
  all = λ t v p. on t (holds_split ds (y ∷ bs) t (h.all t v p));
  none_else = λ t p. h.none_else t (back t (holds_split ds (zs ++ bs) t p));
  alive = alive_replace ds zs bs y h.alive k.alive;
  rising = subst Rising (sym split) (rising_replace y.trace (traces ds) (traces zs) (traces bs) (subst Rising (traces_append ds (y ∷ bs)) h.rising) k.rising k.under);
  under = subst (AllBegin x.trace) (sym split) (under_replace x.trace y.trace (traces ds) (traces zs) (traces bs) (subst (AllBegin x.trace) (traces_append ds (y ∷ bs)) h.under) k.under);
}
  where
    split : traces (ds ++ (zs ++ bs)) ≡ traces ds ++ (traces zs ++ traces bs)
    split = traces_append ds (zs ++ bs) ∙ ap (λ l. traces ds ++ l) (traces_append zs bs)

    last : (t : Value) → Holds (y ∷ bs) t → Holds (zs ++ bs) t
    last t (inl p) = holds_left zs bs t (k.all t p.0 p.1)
    last t (inr p) = holds_right zs bs t p

    on : (t : Value) → Holds ds t ⊎ Holds (y ∷ bs) t → Holds (ds ++ (zs ++ bs)) t
    on t (inl p) = holds_left ds (zs ++ bs) t p
    on t (inr p) = holds_right ds (zs ++ bs) t (last t p)

    first : (t : Value) → Holds zs t ⊎ Holds bs t → Holds (y ∷ bs) t
    first t (inl p) = inl (k.none_else t p)
    first t (inr p) = inr p

    back : (t : Value) → Holds ds t ⊎ Holds (zs ++ bs) t → Holds (ds ++ y ∷ bs) t
    back t (inl p) = holds_left ds (y ∷ bs) t p
    back t (inr p) = holds_right ds (y ∷ bs) t (first t (holds_split zs bs t p))

-- ---- stages, and paths that have ended

pub stages_append : {A : Type 0} (d : Walk A) (xs ys : List PathState) → AllStages d xs → AllStages d ys → AllStages d (xs ++ ys)
stages_append d [] ys h k = k
stages_append d (x ∷ xs) ys h k = (h.0, stages_append d xs ys h.1 k)

pub stages_between : {A : Type 0} (d : Walk A) (xs : List PathState) (y : PathState) (zs : List PathState) → AllStages d (xs ++ y ∷ zs) → AllStages d xs × IsStage d y × AllStages d zs
stages_between d [] y zs h = (tt, h.0, h.1)
stages_between d (x ∷ xs) y zs h = let k = stages_between d xs y zs h.1 in ((h.0, k.0), k.1, k.2)

pub ended_push : {A : Type 0} (d : Walk A) (xs : List (Found A)) (x : Found A) → AllEnded d xs → HasEnded d x → AllEnded d (xs ++ x ∷ [])
ended_push d [] x h k = (k, tt)
ended_push d (y ∷ xs) x h k = (h.0, ended_push d xs x h.1 k)

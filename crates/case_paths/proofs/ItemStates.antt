-- Items behind items: their states, and how many of them have ended.
use Rattle.std.proofs.Common.{◌≡◌, suc, ◌≤◌, ◌+◌, List, [], ◌∷◌, ◌++◌, length, refl, ap, ◌∙◌, arith}
use Rattle.utility_calls.specs.Walks.{Walk}
use Rattle.case_paths.specs.declared.state.PathState.{PathState}
use Rattle.case_paths.specs.declared.state.Found.{Found}
use Rattle.case_paths.specs.declared.pursuit.Pursued.{Pursued}
use Rattle.case_paths.specs.declared.items.Item.{Item}
use Rattle.case_paths.specs.declared.items.Item.TheVariants.{Waiting, Ended}
use Rattle.case_paths.specs.Paths.{states}
use Rattle.case_paths.specs.Stages.{AllStages, AllEnded, Comes}
use Rattle.case_paths.specs.Items.{stage_items, path_items, found_items, item_states, AllItems, ended_count}

pub items_length : {A : Type 0} (items : List (Item A)) → length (item_states items) ≡ length items
items_length [] = refl
items_length (Waiting x ∷ items) = ap suc (items_length items)
items_length (Ended path ∷ items) = ap suc (items_length items)

pub ended_within : {A : Type 0} (items : List (Item A)) → ended_count items ≤ length items
ended_within [] = omega arith
ended_within (Waiting x ∷ items) = let h = ended_within items in omega (arith, h)
ended_within (Ended path ∷ items) = let h = ended_within items in omega (arith, h)

-- ---- items behind items

pub states_behind : {A : Type 0} (xs ys : List (Item A)) → item_states (xs ++ ys) ≡ item_states xs ++ item_states ys
states_behind [] ys = refl
states_behind (Waiting x ∷ xs) ys = ap (λ l. x ∷ l) (states_behind xs ys)
states_behind (Ended path ∷ xs) ys = ap (λ l. path.state ∷ l) (states_behind xs ys)

pub ended_behind : {A : Type 0} (xs ys : List (Item A)) → ended_count (xs ++ ys) ≡ ended_count xs + ended_count ys
ended_behind [] ys = omega arith
ended_behind (Waiting x ∷ xs) ys = ended_behind xs ys
ended_behind (Ended path ∷ xs) ys = let h = ended_behind xs ys in omega (arith, h)

module _ {A : Type 0} (d : Walk A) where
  pub all_behind : (xs ys : List (Item A)) → AllItems d xs → AllItems d ys → AllItems d (xs ++ ys)
  all_behind [] ys h k = k
  all_behind (Waiting x ∷ xs) ys h k = (h.0, all_behind xs ys h.1 k)
  all_behind (Ended path ∷ xs) ys h k = (h.0, all_behind xs ys h.1 k)

  pub all_apart : (xs ys : List (Item A)) → AllItems d (xs ++ ys) → AllItems d xs × AllItems d ys
  all_apart [] ys h = (tt, h)
  all_apart (Waiting x ∷ xs) ys h = let k = all_apart xs ys h.1 in ((h.0, k.0), k.1)
  all_apart (Ended path ∷ xs) ys h = let k = all_apart xs ys h.1 in ((h.0, k.0), k.1)

  pub stages_all : (xs : List PathState) → AllStages d xs → AllItems d (stage_items xs)
  stages_all [] h = tt
  stages_all (x ∷ xs) h = (h.0, stages_all xs h.1)

  pub paths_ended : (xs : List (Found A)) → AllItems d (path_items xs) → AllEnded d xs
  paths_ended [] h = tt
  paths_ended (x ∷ xs) h = (h.0, paths_ended xs h.1)

  pub found_all : (x : PathState) (found : Pursued A) → Comes d x found → AllItems d (found_items found)
  found_all x found c = all_behind (stage_items found.lower) (Ended found.path ∷ stage_items found.higher) (stages_all found.lower c.lower) (c.ended, stages_all found.higher c.higher)

-- ---- stages, paths, and what comes of a stage, as items

pub stages_states : (A : Type 0) (xs : List PathState) → item_states {A = A} (stage_items xs) ≡ xs
stages_states A [] = refl
stages_states A (x ∷ xs) = ap (λ l. x ∷ l) (stages_states A xs)

stages_ended : (A : Type 0) (xs : List PathState) → ended_count {A = A} (stage_items xs) ≡ 0
stages_ended A [] = refl
stages_ended A (x ∷ xs) = stages_ended A xs

pub stages_push : {A : Type 0} (items : List (Item A)) (x : PathState) (xs : List PathState) → (items ++ Waiting x ∷ []) ++ stage_items xs ≡ items ++ stage_items (x ∷ xs)
stages_push [] x xs = refl
stages_push (y ∷ items) x xs = ap (λ l. y ∷ l) (stages_push items x xs)

pub paths_states : {A : Type 0} (xs : List (Found A)) → item_states (path_items xs) ≡ states xs
paths_states [] = refl
paths_states (x ∷ xs) = ap (λ l. x.state ∷ l) (paths_states xs)

pub paths_length : {A : Type 0} (xs : List (Found A)) → length (path_items xs) ≡ length xs
paths_length [] = refl
paths_length (x ∷ xs) = ap suc (paths_length xs)

pub paths_push : {A : Type 0} (xs : List (Found A)) (x : Found A) (items : List (Item A)) → path_items xs ++ Ended x ∷ items ≡ path_items (xs ++ x ∷ []) ++ items
paths_push [] x items = refl
paths_push (y ∷ xs) x items = ap (λ l. Ended y ∷ l) (paths_push xs x items)

pub found_states : {A : Type 0} (found : Pursued A) → item_states (found_items found) ≡ found.lower ++ found.path.state ∷ found.higher
found_states {A} found =
    states_behind (stage_items found.lower) (Ended found.path ∷ stage_items found.higher)
    ∙ ap (λ l. l ++ (found.path.state ∷ item_states {A = A} (stage_items found.higher))) (stages_states A found.lower)
    ∙ ap (λ l. found.lower ++ found.path.state ∷ l) (stages_states A found.higher)

pub found_ended : {A : Type 0} (found : Pursued A) → ended_count (found_items found) ≡ 1
found_ended {A} found =
    let a = ended_behind (stage_items found.lower) (Ended found.path ∷ stage_items found.higher) in
    let b = stages_ended A found.lower in let c = stages_ended A found.higher in omega (arith, a, b, c)

-- A round over items: those that were looked at, with what came of them, and those that are left.
use Rattle.std.proofs.Common.{◌≡◌, ℕ, ◌≤◌, ◌+◌, List, [], ◌∷◌, ◌++◌, length, length-append, Ok, Err, refl, sym, ap, ◌∙◌, subst, append_assoc, arith}
use Rattle.clause_solver.specs.Stands.{Alive}
use Rattle.utility_calls.specs.Walks.{Walk}
use Rattle.case_paths.specs.declared.state.PathState.{PathState}
use Rattle.case_paths.specs.declared.state.Found.{Found}
use Rattle.case_paths.specs.declared.state.PathsFault.TheVariants as fault
use Rattle.case_paths.specs.declared.pursuit.Pursued.{Pursued}
use Rattle.case_paths.specs.declared.items.Item.{Item}
use Rattle.case_paths.specs.declared.items.Item.TheVariants.{Waiting, Ended}
use Rattle.case_paths.specs.Paths.{AllAlive}
use Rattle.case_paths.specs.Stages.{Parts, IsStage, PartsBeyond, IsPursued}
use Rattle.case_paths.specs.declared.state.PathsFault.{PathsFault}
use Rattle.case_paths.specs.Items.{stage_items, found_items, item_states, AllItems, ended_count, Refine, Advanced}
use Rattle.case_paths.proofs.Orders.{nil_right}
use Rattle.case_paths.proofs.Parting.{parts_replace, alive_replace}
use Rattle.case_paths.proofs.ItemStates.{items_length, states_behind, ended_behind, all_behind, all_apart, stages_all, stages_states, found_all, found_states, found_ended}

-- those that were looked at and those that are left refine the items, and each that was looked at gave one path
pub record Going {A : Type 0} (d : Walk A) (xs : List (Item A)) (room : ℕ) (seen items : List (Item A)) : Type 0 where
  pub refine : Refine d xs (seen ++ items)
  pub count : ended_count seen + length items ≡ length xs
  pub within : length seen + length items ≤ room

pub going_begin : {A : Type 0} (d : Walk A) (xs : List (Item A)) (room : ℕ) (seen : List (Item A)) → AllItems d xs → AllAlive (item_states xs) → length xs ≤ room → seen ≡ [] → Going d xs room seen xs
going_begin d xs room seen h a le none = subst (λ l. Going d xs room l xs) (sym none) (record {
  refine = record { items = h; alive = a; parts = λ x p. p };
  count = omega arith;
  within = omega (arith, le);
})

module _ {A : Type 0} (d : Walk A) (xs : List (Item A)) (room : ℕ) (seen items : List (Item A)) (g : Going d xs room seen items) where
  pub going_end : items ≡ [] → Advanced d xs room (Ok seen)
  going_end none =
      let all = subst (λ l. Refine d xs l) (ap (λ l. seen ++ l) none ∙ nil_right seen) g.refine in
      let k = ap length none in let c = g.count in let w = g.within in
      (all, omega (arith, k, w), omega (arith, k, c))

  pub going_ended : (path : Found A) (rest more : List (Item A)) → items ≡ Ended path ∷ rest → more ≡ seen ++ Ended path ∷ [] → Going d xs room more rest
  going_ended path rest more is put = subst (λ l. Going d xs room l rest) (sym put) (
      let k = ap length is in let c = g.count in let w = g.within in
      let e = ended_behind seen (Ended path ∷ []) in
      let l = length-append seen (Ended path ∷ []) in
      record {
        refine = subst (Refine d xs) (ap (λ l. seen ++ l) is ∙ sym (append_assoc seen (Ended path ∷ []) rest)) g.refine;
        count = omega (arith, k, c, e);
        within = omega (arith, k, w, l);
      })

  pub going_stage : (x : PathState) (rest : List (Item A)) → items ≡ Waiting x ∷ rest → IsStage d x
  going_stage x rest is = (all_apart d seen (Waiting x ∷ rest) (subst (λ l. AllItems d (seen ++ l)) is g.refine.items)).1.0

  pub going_alive : (x : PathState) (rest : List (Item A)) → items ≡ Waiting x ∷ rest → Alive x.store
  going_alive x rest is = next (item_states seen) (subst AllAlive (ap (λ l. item_states (seen ++ l)) is ∙ states_behind seen (Waiting x ∷ rest)) g.refine.alive)
    where
      next : (ds : List PathState) → AllAlive (ds ++ x ∷ item_states rest) → Alive x.store
      next [] a = a.0
      next (y ∷ ds) a = next ds a.1

  -- what comes of a stage takes its place
  got_refine : (x : PathState) (rest more got : List (Item A)) (ys : List PathState) → items ≡ Waiting x ∷ rest → AllItems d got → item_states got ≡ ys → Parts x ys → more ≡ seen ++ got → Refine d xs (more ++ rest)
  got_refine x rest more got ys is all_got states_are parts put = subst (Refine d xs) (sym (append_assoc seen got rest) ∙ ap (λ l. l ++ rest) (sym put)) (record {
    items = all_behind d seen (got ++ rest) before.0 (all_behind d got rest all_got before.1.1);
    alive = subst AllAlive (sym all_states) (alive_replace (item_states seen) ys (item_states rest) x (subst AllAlive old_states g.refine.alive) parts.alive);
    parts = λ y p. subst (Parts y) (sym all_states) (parts_replace y x (item_states seen) ys (item_states rest) (subst (Parts y) old_states (g.refine.parts y p)) parts);
  })
    where
      before : AllItems d seen × AllItems d (Waiting x ∷ rest)
      before = all_apart d seen (Waiting x ∷ rest) (subst (λ l. AllItems d (seen ++ l)) is g.refine.items)

      old_states : item_states (seen ++ items) ≡ item_states seen ++ x ∷ item_states rest
      old_states = ap (λ l. item_states (seen ++ l)) is ∙ states_behind seen (Waiting x ∷ rest)

      all_states : item_states (seen ++ (got ++ rest)) ≡ item_states seen ++ (ys ++ item_states rest)
      all_states = states_behind seen (got ++ rest) ∙ ap (λ l. item_states seen ++ l) (states_behind got rest ∙ ap (λ l. l ++ item_states rest) states_are)

  -- so much room is left for what comes of a stage
  pub room_left : (y : Item A) (rest : List (Item A)) → items ≡ y ∷ rest → length seen + 1 + length rest ≤ room
  room_left y rest is = let k = ap length is in let w = g.within in omega (arith, k, w)

  pub going_found : (x : PathState) (rest more : List (Item A)) (left : ℕ) (found : Pursued A) → items ≡ Waiting x ∷ rest → IsPursued d x left (Ok found) → more ≡ seen ++ found_items found → left + length seen + length rest ≤ room → Going d xs room more rest
  going_found x rest more left found is c put le = record {
    refine = got_refine x rest more (found_items found) (found.lower ++ found.path.state ∷ found.higher) is (found_all d x found c.0) (found_states found) c.0.parts put;
    count = (
        let k = ap length is in let h = g.count in
        let e = ap ended_count put ∙ ended_behind seen (found_items found) in
        let one = found_ended found in omega (arith, k, h, e, one));
    within = (
        let l = ap length put ∙ length-append seen (found_items found) in
        let m = sym (items_length (found_items found)) ∙ ap length (found_states found) ∙ length-append found.lower (found.path.state ∷ found.higher) in
        let w = c.1 in omega (arith, l, m, w, le));
  }

  going_over : (x : PathState) (rest : List (Item A)) (left : ℕ) → items ≡ Waiting x ∷ rest → PartsBeyond d x left → room ≤ left + length seen + length rest → Advanced d xs room (Err fault.Over)
  going_over x rest left is b le =
      let got : List (Item A) = stage_items b.states in
      let more = seen ++ got in (
        more ++ rest,
        got_refine x rest more got b.states is (stages_all d b.states b.stages) (stages_states A b.states) b.parts refl,
        (
            let l = length-append more rest in let k = length-append seen got in
            let m = sym (items_length got) ∙ ap length (stages_states A b.states) in
            let c = b.count in omega (arith, l, k, m, c, le)),
      )

  pub going_fault : (x : PathState) (rest : List (Item A)) (left : ℕ) (f : PathsFault) → items ≡ Waiting x ∷ rest → IsPursued {A = A} d x left (Err f) → room ≤ left + length seen + length rest → Advanced d xs room (Err f)
  going_fault x rest left fault.Over is p le = going_over x rest left is p le
  going_fault x rest left fault.Memory is p le = tt

  pub rest_within : (y : Item A) (rest : List (Item A)) → items ≡ y ∷ rest → length rest ≤ room
  rest_within y rest is = let k = ap length is in let w = g.within in omega (arith, k, w)

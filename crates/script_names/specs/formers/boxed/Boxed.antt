-- A `Boxed` may stand in a recursive type, also of another crate: it splits into its one value.
use mathlib.Core.Path.{refl}
use mathlib.Core.Former.{Former, this, const, pair, via}
use base.Stored.{gnil}
use base.Fml.{ftrue}
use denote.RattleType.{RattleType}
use denote.Memory.{part_of}
use denote.RawPtr.{Ptr}
use denote.Sharing.{nothing}
use denote.HoleLaws.{Alike}
use denote.HolePlaces.{Recodes, struct_places, laid, one_value}
use denote.Hole.Fix.{over}
use denote.Param.Weighed.{Weighed}
use denote.Model.Placed.{view_places}
use Rattle.std.specs.declared.boxed.Box.{Box}
use Rattle.std.specs.contracts.boxed.Box as pointer
use Rattle.std.specs.declared.alloc.Global.{Global}
use Rattle.std.specs.contracts.alloc.Global as global
use Rattle.std.specs.contracts.impls.GlobalAllocator.TheImpl.{ghosts}
use Rattle.script_names.specs.declared.boxed.Boxed.TheInside.{Inside}
use Rattle.script_names.specs.declared.boxed.Boxed.TheView.{view, invariant}
use Rattle.script_names.specs.contracts.boxed.Boxed as outside
use Rattle.script_names.specs.contracts.boxed.Boxed.TheInside as inside

-- the shape of a box: that of its value
abbrev pub the_former : Former {0} → Former {0}
the_former f = f

-- how it weighs: as its value does
abbrev pub the_weighed : {f : Former {0}} → Weighed f → Weighed (the_former f)
the_weighed weighed = weighed

-- the one field, a pointer with its value
abbrev the_field : Former {0}
the_field = via (pair (const (Ptr × Global)) this) Inside (λ X b. ((b.inner.ptr, b.inner.alloc), b.inner.value))
    (λ X v. record { inner = record { ptr = v.0.0; alloc = v.0.1; value = v.1 } }) (λ X b. refl) (λ X v. refl)

-- the same pointer over another value
abbrev holding : {X Y : Type 0} → Box X Global → Y → Box Y Global
holding b y = record { ptr = b.ptr; alloc = b.alloc; value = y }

-- the pointer to a value of that type
abbrev pointer_to : RattleType → RattleType
pointer_to R = pointer.the_row R global.the_row ghosts

module _ (R S : RattleType) (h : R.Denot → S.Denot) where
  pointer_places : Alike R S h → Alike (pointer_to R) (pointer_to S) (λ b. holding b (h b.value))
  unfolding part_of
  pointer_places alike = record {
    mir_same = λ i. (pointer_to (one_value R (alike.mir_same i) (λ _. ftrue) (λ _ _. nothing) gnil)).mir;
    own_same = λ b i.
        (pointer_to (one_value R (alike.mir_same i) (alike.own_same b.value i) (alike.shr_same b.value i) gnil)).own_val
        (holding b tt);
    shr_same = λ b i.
        (pointer_to (one_value R (alike.mir_same i) (alike.own_same b.value i) (alike.shr_same b.value i) gnil)).shr_at
        (holding b tt);
  }

  pub the_places : Alike R S h → Alike (outside.the_row R) (outside.the_row S) ((the_former this).map R.Denot S.Denot h)
  the_places alike =
      view_places the_field this view (λ X Y k b. refl) (λ X b. refl) R.Denot S.Denot h
      (outside.the_row R).coded (outside.the_row S).coded
      (invariant R.Denot) (invariant S.Denot) (λ b p q. refl) (λ b p q. refl) (λ b e. tt) (λ b e. tt)
      (over (inside.the_row R)) (over (inside.the_row S))
      (struct_places (inside.the_type R) (inside.the_type S) ((λ b. holding b (h b.value)), tt) _ (λ d. refl) refl
      (laid _ _ _ (pointer_places alike), tt))

  pub the_codes_placed : Recodes R S h
      → Recodes (outside.the_row R) (outside.the_row S) ((the_former this).map R.Denot S.Denot h)
  the_codes_placed same d = same d

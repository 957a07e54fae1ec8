-- A `List` may stand in a recursive type, also of another crate: how it splits into its items and its shape.
-- Its value is the list of its items, so the former is that of lists.
use mathlib.Core.Path.{◌≡◌, refl, sym}
use mathlib.Core.List.{List, []}
use mathlib.Core.Former.{Former, this, list, via, children}
use base.Stored.{code_map}
use denote.RattleType.{RattleType}
use denote.HoleLaws.{Alike}
use denote.HolePlaces.{Recodes, struct_places, laid}
use denote.Hole.Carrier.{listed, list-listed}
use denote.Hole.Fix.{over}
use denote.Param.Weighed.{Weighed, w_list}
use denote.Model.Placed.{view_places}
use Rattle.std.specs.formers.vec.Vec as vec
use Rattle.std.specs.declared.alloc.Global.{Global}
use Rattle.std.specs.contracts.alloc.Global as global
use Rattle.std.specs.contracts.impls.GlobalAllocator.TheImpl.{ghosts}
use Rattle.script_names.specs.declared.list.List.TheInside.{Inside}
use Rattle.script_names.specs.declared.list.List.TheView.{view, invariant}
use Rattle.script_names.specs.contracts.list.List as outside
use Rattle.script_names.specs.contracts.list.List.TheInside as inside

-- the shape of a list: items one after another
abbrev pub the_former : Former {0} → Former {0}
the_former f = list f

-- how it weighs: as its items do together
abbrev pub the_weighed : {f : Former {0}} → Weighed f → Weighed (the_former f)
the_weighed weighed = w_list weighed

pub the_empty : List ⊥
the_empty = []

-- its items, in order
abbrev pub the_items : (X : Type 0) → List X → List X
the_items X items = items

pub the_items_listed : (X : Type 0) (items : List X) → listed _ (children (the_former this) X items) ≡ the_items X items
the_items_listed X items = list-listed X items

-- the one field, a vector
abbrev the_field : Former {0}
the_field =
    via (vec.the_former this Global) Inside (λ X l. l.items) (λ X v. record { items = v }) (λ X l. refl) (λ X v. refl)

module _ (R S : RattleType) (h : R.Denot → S.Denot) where
  pub the_places : Alike R S h → Alike (outside.the_row R) (outside.the_row S) ((the_former this).map R.Denot S.Denot h)
  the_places alike =
      view_places the_field (list this) view (λ X Y k l. refl) (λ X l. refl) R.Denot S.Denot h
      (outside.the_row R).coded (outside.the_row S).coded
      (invariant R.Denot) (invariant S.Denot) (λ l p q. refl) (λ l p q. refl) (λ l e. tt) (λ l e. tt)
      (over (inside.the_row R)) (over (inside.the_row S))
      (struct_places (inside.the_type R) (inside.the_type S) (vec.mapped h, tt) _ (λ d. refl) refl
      (laid _ _ _ (vec.the_places global.the_row ghosts R S h alike), tt))

  pub the_codes_placed : Recodes R S h
      → Recodes (outside.the_row R) (outside.the_row S) ((the_former this).map R.Denot S.Denot h)
  the_codes_placed same items = sym (code_map R.coded.code S.coded.code h (λ x. sym (same x)) items)

-- The order of traces: by their first different mark, which is one act's, by its rows.
use Rattle.std.specs.Prelude.{◌≡◌, ◌<◌, List, [], ◌∷◌, ◌++◌}
use Rattle.script_names.specs.declared.mark.Mark.{Mark}

-- the trace a, and then more
pub record Begins (a b : List Mark) : Type 0 where
  pub more : List Mark
  pub is : b ≡ a ++ more

-- the traces a and b part at one act, where a took the lower row; so neither begins the other, and a comes before b
pub record Before (a b : List Mark) : Type 0 where
  pub front : List Mark
  pub low : Mark
  pub high : Mark
  pub same : low.site ≡ high.site
  pub less : low.row < high.row
  pub first : Begins (front ++ low ∷ []) a
  pub second : Begins (front ++ high ∷ []) b

-- each of these begins with q
abbrev pub AllBegin : List Mark → List (List Mark) → Type 0
AllBegin q [] = Unit {0}
AllBegin q (t ∷ ts) = Begins q t × AllBegin q ts

-- t comes before each of these
abbrev pub AllAfter : List Mark → List (List Mark) → Type 0
AllAfter t [] = Unit {0}
AllAfter t (u ∷ us) = Before t u × AllAfter t us

-- the traces rise, so that no two are equal, and none begins another
abbrev pub Rising : List (List Mark) → Type 0
Rising [] = Unit {0}
Rising (t ∷ ts) = AllAfter t ts × Rising ts

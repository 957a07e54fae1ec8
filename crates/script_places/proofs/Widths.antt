-- How many columns cells have that are a part of others.
use Rattle.std.proofs.Common.{◌≡◌, ◌≤◌, inl, inr, ℕ, zero, suc, true, List, [], ◌∷◌, ◌-◌, take, drop, arith}
use Rattle.std.proofs.lemmas.Bool.{leb-true}
use Rattle.std.proofs.lemmas.Bool.Decides.{leb_tells}
use Rattle.script_places.specs.declared.source_lines.Cell.{Cell}
use Rattle.script_places.specs.SourceLines.{first_within, fits, look_width, width}

-- the first of them
width_take : (n : ℕ) (cs : List Cell) → width (take n cs) ≤ width cs
width_take zero cs = omega (arith)
width_take (suc n) [] = omega (arith)
width_take (suc n) (c ∷ cs) = let h = width_take n cs in omega (arith, h)

-- those behind the first
width_drop : (n : ℕ) (cs : List Cell) → width (drop n cs) ≤ width cs
width_drop zero cs = omega (arith)
width_drop (suc n) [] = omega (arith)
width_drop (suc n) (c ∷ cs) = let h = width_drop n cs in omega (arith, h)

-- parts of cells that have room
pub front_within : (n : ℕ) (cs : List Cell) → width cs ≤ 100 → width (take n cs) ≤ 100
front_within n cs w = let h = width_take n cs in omega (arith, h, w)

pub front_fits : (n : ℕ) (cs : List Cell) → fits 100 cs ≡ true → width (take n cs) ≤ 100
front_fits n cs e = let h = width_take n cs in let k = leb-true (width cs) 100 e in omega (arith, h, k)

pub rest_fits : (n : ℕ) (cs : List Cell) → fits 100 cs ≡ true → width (drop n cs) ≤ 100
rest_fits n cs e = let h = width_drop n cs in let k = leb-true (width cs) 100 e in omega (arith, h, k)

-- the first cells that have room
pub first_fits : (room : ℕ) (cs : List Cell) → width (first_within room cs) ≤ room
first_fits room [] = omega (arith)
first_fits room (c ∷ cs) = elim (leb_tells (look_width c.look) room) [
  | inl t ↦ let h = first_fits (room - look_width c.look) cs in rw t.0 (omega (arith, h, t.1))
  | inr f ↦ rw f.0 (omega (arith))
]

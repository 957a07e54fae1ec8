-- What is kept of an entry.
use Rattle.std.proofs.Common.{◌≡◌, ℕ, Bool, true, false, List, Option, sym, ap, ◌∙◌}
use Rattle.std.specs.Prelude.{if◌then◌else◌}
use Rattle.start_facts.specs.declared.standing.Standing.{Standing}
use Rattle.start_facts.specs.Standings.{Seen, closed, entered, entry_of, placed}

module _ (old : Seen) (x : ℕ) (f : List ℕ) (y : ℕ) (below : Option Standing) where
  abbrev Middle : Seen → Type 0
  Middle mid = mid ≡ record { stands = placed old.stands y below; nothing = old.nothing }

  abbrev pub After : Seen → Type 0
  After new = new ≡ record { stands = entered old x f y; nothing = old.nothing }

  pub closes : (mid new : Seen) → below ≡ entry_of (old.stands x) f → Middle mid → mid.nothing y ≡ true
      → new ≡ record { stands = closed mid.stands x f (mid.stands x); nothing = mid.nothing } → After new
  closes mid new b m t n =
      n ∙ ap (λ (s : Seen). record { stands = closed s.stands x f (s.stands x); nothing = s.nothing }) m
      ∙ ap (λ (o : Option Standing). record {
        stands = closed (placed old.stands y o) x f (placed old.stands y o x);
        nothing = old.nothing;
      }) b
      ∙ ap (λ (b : Bool). record {
        stands = if b then closed (placed old.stands y (entry_of (old.stands x) f)) x f (placed old.stands y (entry_of (old.stands x) f) x) else placed old.stands y (entry_of (old.stands x) f);
        nothing = old.nothing;
      }) (sym t ∙ ap (λ (s : Seen). s.nothing y) m)

  pub stays : (mid : Seen) → below ≡ entry_of (old.stands x) f → Middle mid → mid.nothing y ≡ false → After mid
  stays mid b m t =
      m ∙ ap (λ (o : Option Standing). record { stands = placed old.stands y o; nothing = old.nothing }) b
      ∙ ap (λ (b : Bool). record {
        stands = if b then closed (placed old.stands y (entry_of (old.stands x) f)) x f (placed old.stands y (entry_of (old.stands x) f) x) else placed old.stands y (entry_of (old.stands x) f);
        nothing = old.nothing;
      }) (sym t ∙ ap (λ (s : Seen). s.nothing y) m)

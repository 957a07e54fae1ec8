-- Stated calls with one more behind them.
use Rattle.std.proofs.Common.{◌≡◌, ℕ, Bool, true, false, not, ◌&&◌, ◌||◌, List, [], ◌∷◌, ◌++◌, refl, sym, ap, ◌∙◌}
use Rattle.std.specs.Str.{bytes_eq}
use Rattle.std.proofs.lemmas.Bool.{and_from, and_parts}
use Rattle.std.proofs.lemmas.Slice.Eq.{bytes_eq-Decides}
use Rattle.utility_calls.specs.declared.stated_call.StatedCall.{StatedCall}
use Rattle.utility_calls.specs.StatedNames.{can_be_stated}
use Rattle.utility_calls.specs.StatedCalls.{is_stated, are_stated}

pub no_left : (b d : Bool) → (b || d) ≡ false → b ≡ false
no_left true d e = absurd (cc e)
no_left false d e = refl

pub no_right : (b d : Bool) → (b || d) ≡ false → d ≡ false
no_right true d e = absurd (cc e)
no_right false d e = e

or_nothing : (b : Bool) → (b || false) ≡ b
or_nothing true = refl
or_nothing false = refl

pub or_apart : (a b d : Bool) → (a || (b || d)) ≡ ((a || b) || d)
or_apart true b d = refl
or_apart false b d = refl

stated_end : (x : List ℕ) (calls : List StatedCall) (new : StatedCall) → is_stated (calls ++ new ∷ []) x ≡ (is_stated calls x || bytes_eq new.name x)
stated_end x [] new = or_nothing (bytes_eq new.name x)
stated_end x (call ∷ calls) new =
    ap (λ b. bytes_eq call.name x || b) (stated_end x calls new) ∙ or_apart (bytes_eq call.name x) (is_stated calls x) (bytes_eq new.name x)

other_way : (b : Bool) (x y : List ℕ) → bytes_eq x y ≡ false → bytes_eq y x ≡ b → b ≡ false
other_way true x y e h = absurd (cc (sym ((bytes_eq-Decides x y).1 (sym ((bytes_eq-Decides y x).0 h))) ∙ e))
other_way false x y e h = refl

neither : (b d : Bool) → not b ≡ true → d ≡ false → not (b || d) ≡ true
neither true d h e = absurd (cc h)
neither false d h e = ap not e

-- a call that can be stated, and was not stated before, is behind the others one more
pub one_more : (calls : List StatedCall) (new : StatedCall) → are_stated calls ≡ true → can_be_stated new.name ≡ true → is_stated calls new.name ≡ false
    → are_stated (calls ++ new ∷ []) ≡ true
one_more [] new s can fresh = and_from (can_be_stated new.name) true can refl
one_more (call ∷ calls) new s can fresh =
    let t = and_parts (can_be_stated call.name) (not (is_stated calls call.name) && are_stated calls) s in
    let u = and_parts (not (is_stated calls call.name)) (are_stated calls) t.1 in
    let apart = no_left (bytes_eq call.name new.name) (is_stated calls new.name) fresh in
    let rest = one_more calls new u.1 can (no_right (bytes_eq call.name new.name) (is_stated calls new.name) fresh) in
    let own = ap not (stated_end call.name calls new) ∙ neither (is_stated calls call.name) (bytes_eq new.name call.name) u.0 (other_way (bytes_eq new.name call.name) call.name new.name apart refl) in
    and_from (can_be_stated call.name) (not (is_stated (calls ++ new ∷ []) call.name) && are_stated (calls ++ new ∷ [])) t.0
    (and_from (not (is_stated (calls ++ new ∷ []) call.name)) (are_stated (calls ++ new ∷ [])) own rest)

use Rattle.std.proofs.Common.{◌≡◌, ◌+◌, ◌-◌, ◌≤◌, ◌++◌, ℕ, List, length, take, drop, ap, ap₂, ◌∙◌, subst, arith, length-drop}
use Rattle.std.proofs.lemmas.List.{take_all}
use Rattle.script_names.specs.declared.path.TheConstants.{MAX_NAMES}
use Rattle.link_walks.specs.Links.{LinkParts}
use Rattle.link_walks.proofs.Meets.{led_some}
use Rattle.link_walks.proofs.walks.led.Goals as goal

-- all that stands behind so many names
whole : (names : List (List ℕ)) (k : ℕ) → take (length names - k) (drop k names) ≡ drop k names
whole names k = let n = length-drop k names in take_all (length names - k) (drop k names) (omega (arith, n))

pub returns : goal.returns
returns c =
    let link : LinkParts = c.args.m.link.now in
    let k : ℕ = c.args.m.count in
    let place : c.names-place.result.now ≡ link.place.names =
    c.names-place.ensures.names ∙ ap (λ p. p.names) c.place.ensures in
    let behind : take (length c.names.result.now - k) (drop k c.names.result.now) ≡ drop k c.args.p.now.names =
    whole c.names.result.now k ∙ ap (drop k) c.names.ensures.names in
    let all : c.in_ok-names.names ≡ link.place.names ++ drop k c.args.p.now.names =
    c.in_ok-names.ensures ∙ ap₂ (λ x y. x ++ y) place behind in
    let room : length link.place.names + length (drop k c.args.p.now.names) ≤ MAX_NAMES =
    subst (λ n. length n + length (drop k c.args.p.now.names) ≤ MAX_NAMES) place
    (subst (λ n. length c.names-place.result.now + length n ≤ MAX_NAMES) behind
    c.if-place-behind-gt-MAX_NAMES.false) in
    led_some link (drop k c.args.p.now.names) c.in_ok-names.names c.args.p.now.slash c.slash.result c.new.result
    c.is_sound.ensures room all c.slash.ensures.value c.new.ensures

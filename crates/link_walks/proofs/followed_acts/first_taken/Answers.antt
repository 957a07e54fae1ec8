use Rattle.std.proofs.Common.{◌≡◌, ℕ, Bool, true, false, List, [], ◌∷◌, Some, None, refl, sym, if◌then◌else◌}
use Rattle.std.specs.List.{find}
use Rattle.utility_calls.specs.declared.acts.Act.{Act}
use Rattle.link_walks.specs.declared.walks.Reached.{Reached}
use Rattle.link_walks.specs.declared.walks.Reached.TheVariants.{At, Blocked}
use Rattle.link_walks.specs.Links.{LinkParts}
use Rattle.link_walks.specs.Reaching.{reach}
use Rattle.link_walks.specs.Following.{takes_away, takes_reached, takes_end}
use Rattle.link_walks.proofs.followed_acts.first_taken.Goals as goal

-- of which a test holds nowhere, none is found
none_found : (p : LinkParts → Bool) (links : List LinkParts) → ((link : LinkParts) → p link ≡ false)
    → find p links ≡ None
none_found p [] h = refl
none_found p (link ∷ links) h = by (p link) (h link) (none_found p links h)
  where
    by : (b : Bool) → b ≡ false → find p links ≡ None → (if b then Some link else find p links) ≡ None
    by true e rest = absurd (cc)
    by false e rest = rest

-- what takes no directory away takes none that is reached
none_taken : (act : Act) → ((names : List (List ℕ)) → takes_away act names ≡ false) → (r : Reached)
    → takes_reached act r ≡ false
none_taken act h (At p) = h p.names
none_taken act h (Blocked p) = refl

pub returns-then-not-takes_some : goal.returns-then-not-takes_some
returns-then-not-takes_some c =
    let links : List LinkParts = c.args.links.now in
    let act : Act = c.args.a.now in
    sym (none_found (takes_end links act) links
    (λ link. none_taken act (c.takes_some.ensures c.if-not-takes_some.true) (reach links true link.at)))

use Rattle.load_maker.proofs.LoadScripts.{script_exists}
use Rattle.load_maker.specs.Loaded.{only_postinst}
use Rattle.load_maker.proofs.theorems.each_package.Goals as goal

pub returns : goal.returns
returns c =
    λ n most. let made = script_exists n most in (only_postinst made.0, record { script = made.0; accepted = made.1; is = λ i. only_postinst made.0 })

use Rattle.load_maker.proofs.OnePackage.{one_package}
use Rattle.load_maker.proofs.theorems.one_package.Goals as goal

pub returns : goal.returns
returns c = one_package

use Rattle.laws.proofs.Safety.{one_yes}
use Rattle.laws.proofs.at_most_one_yes_on_lawful_pages.Goals as goal

pub returns : goal.returns
returns c = one_yes

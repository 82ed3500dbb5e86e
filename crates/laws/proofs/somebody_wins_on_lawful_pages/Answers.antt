use Rattle.laws.proofs.Obligation.{somebody_wins}
use Rattle.laws.proofs.somebody_wins_on_lawful_pages.Goals as goal

pub returns : goal.returns
returns c = somebody_wins

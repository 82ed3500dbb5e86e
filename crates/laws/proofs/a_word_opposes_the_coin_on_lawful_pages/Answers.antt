use Rattle.laws.proofs.Coin.{coin_opposed}
use Rattle.laws.proofs.a_word_opposes_the_coin_on_lawful_pages.Goals as goal

pub returns : goal.returns
returns c = coin_opposed

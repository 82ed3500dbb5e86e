-- The two tables of the seeded coins.
use Rattle.coins.specs.declared.Coins as coins
use Rattle.coins.specs.declared.seeded.Seeded.{Seeded}
use Rattle.coins.specs.Draws.{seeded_draw, group_draw_number, coin_draw_number}

abbrev pub ghosts : coins.Ghosts Seeded
ghosts = record {
  group = λ it p k. seeded_draw it.seed (group_draw_number p k);
  common = λ it k r. seeded_draw it.seed (coin_draw_number k r);
}

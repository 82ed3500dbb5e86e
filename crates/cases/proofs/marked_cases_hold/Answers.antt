use Rattle.std.proofs.Common.{refl}
use Rattle.coins.proofs.Ones.{first_draw_of_seed_0}
use Rattle.cases.specs.Cases as cases
use Rattle.cases.proofs.marked_cases_hold.Goals as goal

-- each row computes, but for the count of ones in the first draw
pub returns : goal.returns
returns c =
    let majorities : cases.Holds cases.majorities_of_1_2_14_and_15 = (refl, (refl, (refl, (refl, tt)))) in
    let last_index : cases.Holds cases.last_index_of_a_page = (refl, tt) in
    let readings : cases.Holds cases.equal_groups_are_read_and_a_blank_is_no_group = (refl, (refl, tt)) in
    let another's : cases.Holds cases.another's_name_turns_away = (λ own coin round groups. refl, tt) in
    let own : cases.Holds cases.own_name_from_all_wins = (λ own coin round groups. refl, tt) in
    let own_and_blank : cases.Holds cases.own_name_and_a_blank_go_on_with_the_own_group = (λ own coin round groups. refl, (refl, (refl, tt))) in
    let one_group : cases.Holds cases.one_group_from_all_is_the_result = (λ caller. refl, (λ caller. refl, tt)) in
    let group_and_blank : cases.Holds cases.a_group_and_a_blank_go_on_with_the_group = (λ caller. refl, (refl, tt)) in
    let all_blank : cases.Holds cases.all_blank_keeps_the_own_group_in_round_1_and_takes_the_coin_later = (λ caller. refl, (λ caller. refl, tt)) in
    let first_draw : cases.Holds cases.first_draw_of_seed_0 = (first_draw_of_seed_0, tt) in
    record { rows = refl; hold = (majorities, (last_index, (readings, (another's, (own, (own_and_blank, (one_group, (group_and_blank, (all_blank, (first_draw, tt)))))))))) }

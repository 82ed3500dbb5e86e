-- Examples of the acts at a desk for vehicle 7: what is accepted, what is refused, and the stage after it.
use Rattle.std.specs.Prelude.{Some, None, Ok, Err}
use Rattle.permit.specs.declared.desk.Desk.{Desk}
use Rattle.permit.specs.declared.desk.PermitStage.{PermitStage}
use Rattle.permit.specs.declared.desk.PermitStage.TheVariants.{NotGiven, Held, Loaded, Dispatched, HandedBack}
use Rattle.permit.specs.Permits.{held, loaded}
use Rattle.permit.specs.Acts.{refused, Gives, Loads, Dispatches, HandsBack}

abbrev pub desk : PermitStage → Desk
desk stage = record { vehicle = 7; stage = stage }

pub record ActsHold : Type 0 where
  pub first_permit_is_given : Gives (desk NotGiven) (Some (held 7)) (desk Held)
  pub no_second_is_given : Gives (desk HandedBack) None (desk HandedBack)
  pub held_is_loaded : Loads (desk Held) (held 7) (Ok (loaded 7)) (desk Loaded)
  pub held_is_handed_back : HandsBack (desk Held) (held 7) (Ok tt) (desk HandedBack)
  pub loaded_is_dispatched : Dispatches (desk Loaded) (loaded 7) (Ok tt) (desk Dispatched)
  pub not_loaded_for_another : Loads (desk Held) (held 8) (Err (refused (held 8))) (desk Held)
  pub not_loaded_twice : Loads (desk Loaded) (held 7) (Err (refused (held 7))) (desk Loaded)
  pub not_handed_back_for_another : HandsBack (desk Held) (held 8) (Err (refused (held 8))) (desk Held)
  pub not_dispatched_for_another : Dispatches (desk Loaded) (loaded 8) (Err (refused (loaded 8))) (desk Loaded)
  pub not_dispatched_twice : Dispatches (desk Dispatched) (loaded 7) (Err (refused (loaded 7))) (desk Dispatched)

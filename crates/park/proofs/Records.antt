-- Whoever asks does so at a place within the limits: of one record, and once one record is written.
use Rattle.std.proofs.Common.{◌≡◌, ℕ, true, List, get_or, set, refl}
use Rattle.terms.proofs.Every.{every_set, every_get_or}
use Rattle.park.specs.declared.controller.Controller.{Controller}
use Rattle.park.specs.Controllers.{nobody}
use Rattle.park.specs.Placed.{all_placed, placed}

pub record_placed : (list : List Controller) (i : ℕ) → all_placed list ≡ true → placed (get_or list i nobody).stage ≡ true
record_placed list i h = every_get_or (λ c. placed c.stage) list i nobody h refl

pub write_placed : (list : List Controller) (i : ℕ) (c : Controller) → all_placed list ≡ true → placed c.stage ≡ true → all_placed (set list i c) ≡ true
write_placed list i c h p = every_set (λ c. placed c.stage) list i c h p
